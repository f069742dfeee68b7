-- What the calls find that add the seats of a new application.
use Rattle.std.proofs.Common.{◌≡◌, ◌≢◌, ℕ, Bool, true, false, cond, List, Some, None, is_some, nat_eq, refl, sym, ap, subst, ◌∙◌, inl, inr}
use Rattle.std.specs.Prelude.{IsSome}
use Rattle.std.specs.Map.{lookup}
use Rattle.std.proofs.lemmas.Bool.{eqb-true, or_cases}
use Rattle.std.proofs.lemmas.Option.{same_Some}
use Rattle.ynl_slots.specs.Slots.{IsLive}
use Rattle.ynl_slots.proofs.Entries.{itself}
use Rattle.ynl_slots.proofs.Lookups.{lookup-push}
use Rattle.ynl_tables.specs.declared.apps.app.Tickets.{Tickets}
use Rattle.ynl_lanes.specs.lane.Seats.{Seats}
use Rattle.ynl_lanes.specs.table.Lanes.{AddsOne, Changes, IsLaneAt, lane_at}
use Rattle.ynl_inventory.specs.Rows.{Rows, AppRow}
use Rattle.ynl_inventory.specs.Changes.{with_tickets}
use Rattle.ynl_inventory.specs.Parts.{Held}
use Rattle.ynl_inventory.proofs.Lookups.{changed-live}
use Rattle.ynl_cluster.specs.seating.Seating.{shares, ticket_on}
use Rattle.ynl_cluster.specs.seating.Steps.{AreSeatedBut, IsUnseated}
use Rattle.ynl_cluster.proofs.seating.Adding.{default-there, lanes-before, lanes-half, lanes-once, lanes-twice, seated-but, still-default}
use Rattle.ynl_cluster.proofs.seating.Entered.{default-shared, home-shared}
use Rattle.ynl_cluster.proofs.seating.Newcomer.{newcomer}

module _ (app : ℕ) (w : Rows) (lanes : List (List Seats)) (start : IsUnseated app w lanes) where
  abbrev with_home : ℕ → Tickets
  with_home home = record { home = Some home; default = None }

  abbrev with_both : ℕ → ℕ → Tickets
  with_both home default = record { home = Some home; default = Some default }

  -- it has the tickets that it needs
  one-ticket : (home : ℕ) → start.row.home ≡ 0 → (p : ℕ) → shares p start.row ≡ true → IsSome (ticket_on p (newcomer app w lanes start (with_home home)))
  one-ticket home zero p sat =
      let own : nat_eq start.row.home p ≡ true =
      elim (or_cases (nat_eq p 0) (nat_eq start.row.home p) sat) [ inl default ↦ (λ i. nat_eq (zero i) (eqb-true p 0 default i)) | inr own ↦ own ]
      in
      ap (λ b. is_some (cond b (Some home) None)) own

  two-tickets : (home default p : ℕ) → IsSome (ticket_on p (newcomer app w lanes start (with_both home default)))
  two-tickets home default p = go (nat_eq start.row.home p)
    where
      go : (b : Bool) → is_some (cond b (Some home) (Some default)) ≡ true
      go true = refl
      go false = refl

  module _ (row : AppRow) (found : lookup (nat_eq app) w.apps ≡ Some row) where
    is : start.row ≡ row
    is =
        same_Some start.row row
        (sym (ap (lookup (nat_eq app)) start.apps ∙ lookup-push app app start.row start.before.apps start.unused
        ∙ ap (λ b. cond b (Some start.row) (lookup (nat_eq app) start.before.apps)) (itself app)) ∙ found)

    -- the lane of its home is there, and has room
    pub home-lane : IsLaneAt row.home row.leaf lanes
    home-lane = subst (λ (r : AppRow). IsLaneAt r.home r.leaf lanes) is (lanes-before app w lanes start (with_home 0) start.row.home start.row.leaf start.home start.leaf).there

    pub home-room : IsSome (lane_at row.home row.leaf lanes).ready
    home-room = subst (λ (r : AppRow). IsSome (lane_at r.home r.leaf lanes).ready) is (ap is_some (start.room start.row.home (home-shared start.row)))

    module _ (home : ℕ) (mid : List (List Seats)) where
      -- it needs no other seat where home is DEFAULT
      pub seated-once : Changes row.home row.leaf (AddsOne app home) lanes mid → row.home ≡ 0 → AreSeatedBut app (with_tickets app (with_home home) w) mid
      seated-once =
          subst (λ (r : AppRow). Changes r.home r.leaf (AddsOne app home) lanes mid → r.home ≡ 0 → AreSeatedBut app (with_tickets app (with_home home) w) mid) is
          (λ first zero.
          seated-but app w lanes start (with_home home) mid (lanes-once app w lanes start (with_home home) home refl mid first zero) (one-ticket home zero))

      -- the lane of DEFAULT is there, and has room
      pub default-lane : Changes row.home row.leaf (AddsOne app home) lanes mid → IsLaneAt 0 row.leaf mid
      default-lane =
          subst (λ (r : AppRow). Changes r.home r.leaf (AddsOne app home) lanes mid → IsLaneAt 0 r.leaf mid) is
          (λ first. (lanes-half app w lanes start (with_home home) home refl mid first 0 start.row.leaf (default-there app w lanes start (with_home home)) start.leaf).there)

      pub default-room : Changes row.home row.leaf (AddsOne app home) lanes mid → row.home ≢ 0 → IsSome (lane_at 0 row.leaf mid).ready
      default-room =
          subst (λ (r : AppRow). Changes r.home r.leaf (AddsOne app home) lanes mid → r.home ≢ 0 → IsSome (lane_at 0 r.leaf mid).ready) is
          (λ first apart.
          ap (λ (l : Seats). is_some l.ready) (still-default app w lanes start (with_home home) home refl mid first apart) ∙ ap is_some (start.room 0 (default-shared start.row)))

      -- with its second seat it has all
      pub seated-twice : Changes row.home row.leaf (AddsOne app home) lanes mid → row.home ≢ 0
          → (default : ℕ) (new : List (List Seats)) → Changes 0 row.leaf (AddsOne app default) mid new → AreSeatedBut app (with_tickets app (with_both home default) w) new
      seated-twice =
          subst (λ (r : AppRow). Changes r.home r.leaf (AddsOne app home) lanes mid → r.home ≢ 0
          → (default : ℕ) (new : List (List Seats)) → Changes 0 r.leaf (AddsOne app default) mid new → AreSeatedBut app (with_tickets app (with_both home default) w) new) is
          (λ first apart default new second.
          seated-but app w lanes start (with_both home default) new (lanes-twice app w lanes start (with_both home default) home refl mid first apart default refl new second)
          (λ p sat. two-tickets home default p))

  -- ---- once it has its tickets

  module _ (t : Tickets) (h new : Held) (rows : h.rows ≡ w) (is : new ≡ record h { rows = with_tickets app t h.rows }) where
    rows-are : new.rows ≡ with_tickets app t w
    rows-are = ap (λ (h : Held). h.rows) is ∙ ap (with_tickets app t) rows

    pub still-live : IsLive app w.apps → IsLive app new.rows.apps
    still-live live = subst (λ (v : Rows). IsLive app v.apps) (sym rows-are) (changed-live app app (λ (row : AppRow). record row { tickets = t }) w.apps live)
