-- What the calls find that let a user use more or less.
use Rattle.std.proofs.Common.{◌≡◌, ℕ, ◌+◌, ◌-◌, List, Some, option_map, nat_eq, sym, ap, subst, ◌∙◌, arith}
use Rattle.std.specs.Prelude.{IfSome, IsTrue, unwrap_or}
use Rattle.std.specs.Map.{lookup}
use Rattle.std.proofs.lemmas.Option.{same_Some}
use Rattle.ynl_resource.specs.Amounts.{fits_in, IsSmall, less, plus}
use Rattle.ynl_resource.specs.declared.amounts.Resource.{Resource}
use Rattle.ynl_laws.proofs.Amounts.{fits-more}
use Rattle.ynl_lanes.specs.lane.Rows.{IsUse}
use Rattle.ynl_lanes.specs.lane.Seats.{IsSeat, Seat, Seats}
use Rattle.ynl_lanes.specs.table.Lanes.{Changes, IsLaneAt, SetsUsed, lane_at}
use Rattle.ynl_inventory.specs.Rows.{Rows, AppRow}
use Rattle.ynl_cluster.specs.seating.Seating.{ticket_on, user_use}
use Rattle.ynl_cluster.specs.seating.Steps.{AreSeatedButFor, AreUsedBut}
use Rattle.ynl_cluster.proofs.seating.OneSeat.{lane-there, own-found, own-seat, used-but}

module _ (May : ℕ → Type 0) (app p : ℕ) (Stand : Resource → Resource → Type 0) (v : Rows) (lanes : List (List Seats)) (start : AreUsedBut May app p Stand v lanes)
    (row : AppRow) (found : lookup (nat_eq app) v.apps ≡ Some row) where
  is : start.row ≡ row
  is = same_Some start.row row (sym start.found ∙ found)

  pub use-lane : IsLaneAt p row.leaf lanes
  use-lane = subst (λ (r : AppRow). IsLaneAt p r.leaf lanes) is (lane-there start.figures v lanes start.seated app start.row start.found p start.shared)

  pub use-seat : IsSeat (unwrap_or (ticket_on p row) 0) (lane_at p row.leaf lanes).seats
  use-seat =
      subst (λ (r : AppRow). IsSeat (unwrap_or (ticket_on p r) 0) (lane_at p r.leaf lanes).seats) is
      (own-seat start.figures v lanes start.seated app start.row start.found p start.shared)

  -- what the seat shows stands to what the rows say as it should
  pub use-read : (used : Resource) → option_map (λ seat. seat.used) (lookup (nat_eq (unwrap_or (ticket_on p row) 0)) (lane_at p row.leaf lanes).seats) ≡ Some used
      → Stand used (user_use v p row.leaf row.user)
  use-read used =
      subst (λ (r : AppRow). option_map (λ (seat : Seat). seat.used) (lookup (nat_eq (unwrap_or (ticket_on p r) 0)) (lane_at p r.leaf lanes).seats) ≡ Some used → Stand used (user_use v p r.leaf r.user)) is
      (λ read.
      let shown = ap (option_map (λ (seat : Seat). seat.used)) (own-found start.figures v lanes start.seated app start.row start.found p start.shared) in
      subst (λ u. Stand u (user_use v p start.row.leaf start.row.user)) (same_Some (start.figures.used p start.row.leaf start.row.user) used (sym shown ∙ read)) start.stand)

  -- once it is set, only what may wait differs
  pub use-set : (used : Resource) → used ≡ user_use v p row.leaf row.user → (new : List (List Seats)) → Changes p row.leaf (SetsUsed (unwrap_or (ticket_on p row) 0) used) lanes new → AreSeatedButFor May v new
  use-set used same new changes =
      subst (λ (r : AppRow). Changes p r.leaf (SetsUsed (unwrap_or (ticket_on p r) 0) (user_use v p r.leaf r.user)) lanes new → AreSeatedButFor May v new) is
      (used-but May app p Stand v lanes new start)
      (subst (λ u. Changes p row.leaf (SetsUsed (unwrap_or (ticket_on p row) 0) u) lanes new) same changes)

-- what holds of the application that is found
known : (P : AppRow → Type 0) (app : ℕ) (v : Rows) (row : AppRow) → lookup (nat_eq app) v.apps ≡ Some row → IfSome (lookup (nat_eq app) v.apps) P → P row
known P app v row found h = subst (λ o. IfSome o P) found h

-- what the seat shows
abbrev Reads : ℕ → List (List Seats) → AppRow → Resource → Type 0
Reads p lanes row used = option_map (λ (seat : Seat). seat.used) (lookup (nat_eq (unwrap_or (ticket_on p row) 0)) (lane_at p row.leaf lanes).seats) ≡ Some used

abbrev IsSmallFor : ℕ → ℕ → Rows → Type 0
IsSmallFor app p v = IfSome (lookup (nat_eq app) v.apps) (λ row. IsUse (user_use v p row.leaf row.user))

-- ---- more is used

module _ (May : ℕ → Type 0) (app p : ℕ) (size : Resource) (v : Rows) (lanes : List (List Seats)) (start : AreUsedBut May app p (λ before after. after ≡ plus before size) v lanes)
    (row : AppRow) (found : lookup (nat_eq app) v.apps ≡ Some row) (small : IsSmallFor app p v) (used : Resource) (read : Reads p lanes row used) (amount : Resource) (is : amount ≡ size) where
  more-is : user_use v p row.leaf row.user ≡ plus used amount
  more-is = use-read May app p (λ before after. after ≡ plus before size) v lanes start row found used read ∙ ap (plus used) (sym is)

  more-known : IsUse (plus used amount)
  more-known = subst IsUse more-is (known (λ row. IsUse (user_use v p row.leaf row.user)) app v row found small)

  pub more-small : IsSmall (plus used amount)
  more-small = (omega (arith, more-known.memory), omega (arith, more-known.vcores))

  module _ (sum : Resource) (sum-is : sum ≡ plus used amount) where
    pub more-use : IsUse sum
    more-use = subst IsUse (sym sum-is) more-known

    pub more-set : (new : List (List Seats)) → Changes p row.leaf (SetsUsed (unwrap_or (ticket_on p row) 0) sum) lanes new → AreSeatedButFor May v new
    more-set = use-set May app p (λ before after. after ≡ plus before size) v lanes start row found sum (sum-is ∙ sym more-is)

-- ---- less is used

module _ (May : ℕ → Type 0) (app p : ℕ) (size : Resource) (v : Rows) (lanes : List (List Seats)) (start : AreUsedBut May app p (λ before after. before ≡ plus after size) v lanes)
    (row : AppRow) (found : lookup (nat_eq app) v.apps ≡ Some row) (small : IsSmallFor app p v) (used : Resource) (read : Reads p lanes row used) (amount : Resource) (is : amount ≡ size) where
  abbrev left : Resource
  left = user_use v p row.leaf row.user

  less-is : used ≡ plus left amount
  less-is = use-read May app p (λ before after. before ≡ plus after size) v lanes start row found used read ∙ ap (plus left) (sym is)

  pub less-fits : IsTrue (fits_in amount used)
  less-fits = ap (fits_in amount) less-is ∙ fits-more left amount

  back : less used amount ≡ left
  back = ap (λ u. less u amount) less-is ∙ (λ i. record { memory = memory i; vcores = vcores i })
    where
      memory : left.memory + amount.memory - amount.memory ≡ left.memory
      memory = omega arith

      vcores : left.vcores + amount.vcores - amount.vcores ≡ left.vcores
      vcores = omega arith

  module _ (rest : Resource) (rest-is : rest ≡ less used amount) where
    pub less-use : IsUse rest
    less-use = subst IsUse (sym (rest-is ∙ back)) (known (λ row. IsUse (user_use v p row.leaf row.user)) app v row found small)

    pub less-set : (new : List (List Seats)) → Changes p row.leaf (SetsUsed (unwrap_or (ticket_on p row) 0) rest) lanes new → AreSeatedButFor May v new
    less-set = use-set May app p (λ before after. before ≡ plus after size) v lanes start row found rest (rest-is ∙ back)
