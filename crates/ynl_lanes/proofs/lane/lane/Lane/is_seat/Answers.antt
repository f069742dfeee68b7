use Rattle.std.proofs.Common.{◌≡◌, ◌∙◌, Option, Some, None, is_some, option_map, option_copied, Bor, nat_eq, refl, sym, ap}
use Rattle.std.specs.Map.{lookup}
use Rattle.ynl_lanes.specs.declared.lane.rows.SeatRow.{SeatRow}
use Rattle.ynl_lanes.specs.lane.Fields.{seat_of}
use Rattle.ynl_lanes.specs.lane.Seats.{Seats}
use Rattle.ynl_lanes.proofs.lane.Views.{seat_found}
use Rattle.ynl_lanes.proofs.lane.lane.Lane.is_seat.Goals as goal

some_mapped : {X Y : Type 0} (f : X → Y) (o : Option X) → is_some (option_map f o) ≡ is_some o
some_mapped f None = refl
some_mapped f (Some x) = refl

some_copied : {X : Type 0} (o : Option (Bor X)) → is_some (option_copied o) ≡ is_some o
some_copied None = refl
some_copied (Some x) = refl

pub returns : goal.returns
returns c =
    let users = c.self.inside.rows.users.entries in
    let same : is_some (lookup (nat_eq c.args.ticket) c.args.self.now.seats) ≡ c.is_some.result =
    ap (λ (s : Seats). is_some (lookup (nat_eq c.args.ticket) s.seats)) (sym c.self.view_is) ∙ ap is_some (seat_found users c.args.ticket c.self.inside.rows.seats.entries) ∙ some_mapped (λ (row : SeatRow). (seat_of users (c.args.ticket, row)).1) _ ∙ ap is_some (sym c.get.ensures.value) ∙ some_copied c.get.result ∙ sym c.is_some.ensures in
    (λ met. same ∙ met, λ is. sym same ∙ is)
