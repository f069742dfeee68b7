use Rattle.std.proofs.Common.{◌≡◌, ℕ, List, map, sym, ap, subst, ◌∙◌}
use Rattle.std.specs.Prelude.{OnOk}
use Rattle.ynl_lanes.specs.lane.Seats.{Seat, Seats}
use Rattle.ynl_lanes.proofs.lane.Listing.{apps-shown}
use Rattle.ynl_lanes.proofs.lane.lane.Lane.list_apps.Goals as goal

pub returns : goal.returns
returns c =
    subst (λ (ns : List ℕ). OnOk c.list_apps.result (c.list_apps.new.apps.items ≡ ns))
    (sym (apps-shown c.self.inside.rows.users.entries c.self.inside.rows.seats.entries) ∙ ap (λ (s : Seats). map (λ (e : ℕ × Seat). e.1.app) s.seats) c.self.view_is)
    c.list_apps.ensures
