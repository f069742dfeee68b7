-- The least of what is asked for on a partition is below each size that is asked for there.
use Rattle.std.proofs.Common.{◌≡◌, ◌≢◌, ℕ, Bool, true, false, cond, not, ◌&&◌, List, [], ◌∷◌, fold, nat_eq, sym, ap, subst, ◌∙◌, arith, refl}
use Rattle.std.specs.List.{AllByRecursion}
use Rattle.std.proofs.lemmas.Bool.Decides.{nat_tests}
use Rattle.ynl_resource.specs.Amounts.{fits_in, IsSize, smaller_of}
use Rattle.ynl_resource.specs.declared.amounts.Resource.{Resource}
use Rattle.ynl_laws.proofs.Lists.{Each-weaker}
use Rattle.ynl_slots.proofs.Entries.{itself, other}
use Rattle.ynl_tables.specs.declared.apps.asks.Ask.{Ask}
use Rattle.ynl_lanes.specs.lows.Lows.{IsBelow, no_size}
use Rattle.ynl_lanes.specs.lows.Order.{below-refl, below-trans}
use Rattle.ynl_lanes.specs.declared.lane.kinds.Kind.{Kind}
use Rattle.ynl_lanes.specs.declared.lane.kinds.Kind.TheVariants as kind
use Rattle.ynl_lanes.specs.lane.Kinds.{of_kind}
use Rattle.ynl_lanes.specs.lane.Seats.{Seat, is_waiting}
use Rattle.ynl_lanes.specs.lane.Waiting.{IsWaiting, waiting-below}
use Rattle.ynl_inventory.proofs.Finding.{not-true}
use Rattle.ynl_inventory.proofs.Used.{fits-parts}
use Rattle.ynl_cluster.specs.seating.Laws.{AreLeasts, AreMet}
use Rattle.ynl_cluster.specs.seating.Seating.{least_asked, with_least}

first-below : (a b : Resource) → IsBelow (smaller_of a b) a
first-below a b = grind (arith, nat_tests)

second-below : (a b : Resource) → IsBelow (smaller_of a b) b
second-below a b = grind (arith, nat_tests)

module _ (p : ℕ) where
  step-below : (low : Resource) (ask : Ask) → IsBelow (with_least p low ask) low
  step-below low ask = go (nat_eq ask.partition p)
    where
      go : (b : Bool) → IsBelow (cond b (smaller_of low ask.size) low) low
      go true = first-below low ask.size
      go false = below-refl low

  -- one more ask makes it no greater
  fold-below : (low : Resource) (asks : List Ask) → IsBelow (fold (with_least p) low asks) low
  fold-below low [] = below-refl low
  fold-below low (ask ∷ asks) =
      below-trans (fold (with_least p) (with_least p low ask) asks) (with_least p low ask) low (fold-below (with_least p low ask) asks) (step-below low ask)

  own-below : (low : Resource) (ask : Ask) → ask.partition ≡ p → IsBelow (with_least p low ask) ask.size
  own-below low ask is = subst (λ b. IsBelow (cond b (smaller_of low ask.size) low) ask.size) (sym (ap (λ m. nat_eq m p) is ∙ itself p)) (second-below low ask.size)

  each-below : (low : Resource) (asks : List Ask) → AllByRecursion (λ ask. ask.partition ≡ p → IsBelow (fold (with_least p) low asks) ask.size) asks
  each-below low [] = tt
  each-below low (ask ∷ asks) = (
    λ is. below-trans (fold (with_least p) (with_least p low ask) asks) (with_least p low ask) ask.size (fold-below (with_least p low ask) asks) (own-below low ask is),
    each-below (with_least p low ask) asks,
  )

  -- where nothing is asked for
  fold-none : (low : Resource) (asks : List Ask) → AllByRecursion (λ ask. ask.partition ≢ p) asks → fold (with_least p) low asks ≡ low
  fold-none low [] h = refl
  fold-none low (ask ∷ asks) h =
      ap (λ b. fold (with_least p) (cond b (smaller_of low ask.size) low) asks) (other ask.partition p h.0) ∙ fold-none low asks h.1

-- a size is not the greatest
size-waits : (size : Resource) → IsSize size → IsWaiting size
size-waits size is all = let parts = fits-parts no_size size all in absurd (omega (arith, parts.1, is.vcores))

pub are-leasts : AreLeasts
are-leasts = record {
  below = λ p asks. each-below p no_size asks;
  waiting = λ p asks.
      Each-weaker (λ ask. ask.partition ≡ p → IsBelow (least_asked p asks) ask.size) (λ ask. ask.partition ≡ p → IsSize ask.size → IsWaiting (least_asked p asks))
      (λ ask below is size. waiting-below (least_asked p asks) ask.size (below is) (size-waits ask.size size)) asks (each-below p no_size asks);
  none = λ p asks h. fold-none p no_size asks h;
}

-- ---- where something waits

-- so it does where it is below a size
meets : (k : Kind) (low size : Resource) (seat : Seat) → of_kind k seat.waits ≡ low → IsBelow low size → IsSize size → is_waiting k seat ≡ true
meets k low size seat is below sized =
    ap (λ l. not (fits_in no_size l)) is
    ∙ ap not (not-true (fits_in no_size low) (waiting-below low size below (size-waits size sized)))

pub are-met : AreMet
are-met = record {
  ask = λ v n row p runs seat waits.
      Each-weaker (λ ask. ask.partition ≡ p → IsBelow (least_asked p row.asks) ask.size)
      (λ ask. ask.partition ≡ p → IsSize ask.size → is_waiting kind.Ask seat ≡ true)
      (λ ask below at sized.
      meets kind.Ask (least_asked p row.asks) ask.size seat (ap (of_kind kind.Ask) waits ∙ ap (λ b. cond b (least_asked p row.asks) no_size) runs)
      (below at) sized) row.asks (each-below p no_size row.asks);
  master = λ v n row runs seat waits sized.
      meets kind.Master row.master row.master seat
      (ap (of_kind kind.Master) waits ∙ (λ i. cond (not (runs i) && itself row.home i) row.master no_size)) (below-refl row.master) sized;
}
