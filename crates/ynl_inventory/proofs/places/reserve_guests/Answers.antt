-- Places are made one by one.
use Rattle.std.proofs.Common.{◌≡◌, ◌<◌, ◌+◌, ℕ, true, IfSome, List, length, slice_get, Some, nat_eq, refl, sym, ap, subst, ◌∙◌, arith, inl, inr}
use Rattle.std.specs.Map.{lookup}
use Rattle.std.proofs.lemmas.Bool.{cases_eq}
use Rattle.std.proofs.lemmas.Option.{same_Some, slice_get_read}
use Rattle.ynl_slots.specs.Slots.{Numbered, IsLive}
use Rattle.ynl_tables.specs.declared.apps.app.AppRow.{AppRow as AppPart}
use Rattle.ynl_inventory.specs.declared.partition.Partition.{Partition}
use Rattle.ynl_inventory.specs.Parts.{HasMorePlaces}
use Rattle.ynl_inventory.proofs.ChainPlaces.{all-places, more-again, more-live, more-place, no-more}
use Rattle.ynl_inventory.proofs.places.reserve_guests.Goals as goal

pub loop-p-init : goal.loop-p-init
loop-p-init c = record { more = no-more c.args.app c.args.apps.now c.args.apps.now refl; places = λ q part below at takes. absurd (omega (arith, below)) }

pub reserve_guest-requires : goal.reserve_guest-requires
reserve_guest-requires c = more-live c.args.app c.args.apps.now c.loop-p.apps c.loop-p.invariant.more c.requires

-- one more partition
one-partition : (app : ℕ) (partitions : List Partition) (p : ℕ) (mid new : Numbered AppPart) → HasMorePlaces app mid new
    → ((q : ℕ) (part : Partition) → q < p → slice_get partitions q ≡ Some part → part.guests ≡ true → IfSome (lookup (nat_eq app) mid.entries) (λ row. IsLive q row.chains))
    → (own : Partition) → slice_get partitions p ≡ Some own → (own.guests ≡ true → IfSome (lookup (nat_eq app) new.entries) (λ row. IsLive p row.chains))
    → (q : ℕ) (part : Partition) → q < p + 1 → slice_get partitions q ≡ Some part → part.guests ≡ true → IfSome (lookup (nat_eq app) new.entries) (λ row. IsLive q row.chains)
one-partition app partitions p mid new more before own there made q part below at takes =
    elim (cases_eq q p) [
      | inl same ↦
          let is : own ≡ part = same_Some own part (sym there ∙ ap (slice_get partitions) (sym same) ∙ at) in
          subst (λ q. IfSome (lookup (nat_eq app) new.entries) (λ row. IsLive q row.chains)) (sym same) (made (ap (λ (part : Partition). part.guests) is ∙ takes))
      | inr apart ↦ more-place app mid new more q (before q part (omega (arith, below, apart)) at takes)
    ]

pub loop-p-preserved : goal.loop-p-preserved
loop-p-preserved c = record {
  more = more-again c.args.app c.args.apps.now c.loop-p.apps c.reserve_guest.new.apps c.loop-p.invariant.more c.reserve_guest.ensures.more;
  places =
      one-partition c.args.app c.args.partitions.now c.loop-p.p c.loop-p.apps c.reserve_guest.new.apps c.reserve_guest.ensures.more c.loop-p.invariant.places c.index-partitions-p.result
      (slice_get_read c.args.partitions.now (length c.args.partitions.now) c.loop-p.p c.index-partitions-p.result refl (omega arith) c.index-partitions-p.is)
      (λ takes. c.in_ok-reserve_guest.ensures.place (ap (λ (part : Partition). part.guests) (sym c.index-partitions-p.is) ∙ takes));
}

pub returns-in_err-reserve_guest-clause-more : goal.returns-in_err-reserve_guest-clause-more
returns-in_err-reserve_guest-clause-more c = more-again c.args.app c.args.apps.now c.loop-p.apps c.reserve_guest.new.apps c.loop-p.invariant.more c.reserve_guest.ensures.more

pub returns-clause-places : goal.returns-clause-places
returns-clause-places c =
    all-places c.args.app c.loop-p.apps c.args.partitions.now c.loop-p.p (more-live c.args.app c.args.apps.now c.loop-p.apps c.loop-p.invariant.more c.requires)
    (λ q small inside. omega (arith, small, inside, c.loop-p-test.false, c.min-count.ensures)) c.loop-p.invariant.places
