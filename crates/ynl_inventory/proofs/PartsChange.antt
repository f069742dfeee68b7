-- A partition's part changes, and with it one node and one application: the parts still go together.
use Rattle.std.proofs.Common.{◌≡◌, ◌≢◌, ◌<◌, ◌^◌, ℕ, true, cond, List, slice_get, Some, nat_eq, sym, ap, subst, ◌∙◌, inl, inr}
use Rattle.std.specs.Prelude.{slice_set}
use Rattle.std.specs.List.{AllByRecursion}
use Rattle.std.specs.Map.{lookup}
use Rattle.std.proofs.lemmas.Bool.{cases_eq}
use Rattle.std.proofs.lemmas.Option.{same_Some}
use Rattle.ynl_resource.specs.Amounts.{less, fits_in, IsSmall}
use Rattle.ynl_laws.proofs.Lists.{Each-weaker}
use Rattle.ynl_slots.specs.Slots.{IsLive}
use Rattle.ynl_slots.proofs.Entries.{itself, other}
use Rattle.ynl_tables.specs.declared.nodes.nodes.NodeRow.{NodeRow as NodePart}
use Rattle.ynl_tables.specs.declared.apps.app.AppRow.{AppRow as AppPart}
use Rattle.ynl_tables.specs.declared.apps.asks.Ask.{Ask}
use Rattle.ynl_tables.specs.apps.Apps.{with_change}
use Rattle.ynl_tables.specs.apps.Chains.{chain_of}
use Rattle.ynl_tables.specs.containers.Chains.{IsNodeChain, IsAppChain, KeepsNodes, KeepsApps}
use Rattle.ynl_inventory.specs.declared.partition.Partition.{Partition}
use Rattle.ynl_inventory.specs.Apps.{master_in}
use Rattle.ynl_inventory.specs.Parts.{used_of, HasGuestPlaces, HasPlaces, AreLinked}
use Rattle.ynl_inventory.proofs.Lookups.{read-after, was-found}
use Rattle.ynl_inventory.proofs.PartLists.{set-cases, set-same}

-- what is known of a node and its partition
pub record IsRight (n : ℕ) (r : NodePart) (x : Partition) : Type 0 where
  pub chain : IsNodeChain x.containers r.containers n
  pub free : r.free ≡ less r.size (used_of x.containers.entries n)
  pub fits : fits_in (used_of x.containers.entries n) r.size ≡ true

-- what is known of an application whose chain in the partition changes, and with it its master, if it is at home there
pub record IsTouched (p app : ℕ) (new : Partition) (touch : AppPart → AppPart) (r : AppPart) : Type 0 where
  pub chain : IsAppChain new.containers (chain_of p (touch r).chains) app
  pub others : (q : ℕ) → q ≢ p → chain_of q (touch r).chains ≡ chain_of q r.chains
  pub home : (touch r).home ≡ r.home
  pub master : r.home ≡ p → (touch r).master ≡ master_in app new.containers.entries
  pub away : r.home ≢ p → (touch r).master ≡ r.master
  pub places : (partitions : List Partition) → HasPlaces partitions r → HasPlaces partitions (touch r)

-- a change of an application that leaves its home, its master and its chains
pub record LeavesLinks (change : AppPart → AppPart) : Type 0 where
  pub home : (r : AppPart) → (change r).home ≡ r.home
  pub master : (r : AppPart) → (change r).master ≡ r.master
  pub chains : (r : AppPart) (p : ℕ) → chain_of p (change r).chains ≡ chain_of p r.chains

-- an application that has more places, and asks on no more partitions, has places as before
pub more-places : (items : List Partition) (old new : AppPart) → new.home ≡ old.home → ((q : ℕ) → IsLive q old.chains → IsLive q new.chains)
    → ((P : ℕ → Type 0) → AllByRecursion (λ ask. P ask.partition) old.asks → AllByRecursion (λ ask. P ask.partition) new.asks) → HasPlaces items old → HasPlaces items new
more-places items old new home live asks is = record {
  home = subst (λ p. IsLive p new.chains) (sym home) (live old.home is.home);
  default = live 0 is.default;
  guests =
      Each-weaker (λ (ask : Ask). ask.partition ≡ 0 → HasGuestPlaces items old.chains) (λ (ask : Ask). ask.partition ≡ 0 → HasGuestPlaces items new.chains)
      (λ ask h zero p part small there takes. live p (h zero p part small there takes)) new.asks (asks (λ p. p ≡ 0 → HasGuestPlaces items old.chains) is.guests);
}

-- it has them while a part of a partition changes that takes guests as before
pub same-places : (items : List Partition) (p : ℕ) (part new : Partition) → slice_get items p ≡ Some part → new.guests ≡ part.guests → (r : AppPart) → HasPlaces items r → HasPlaces (slice_set items p new) r
same-places items p part new there guests r is = record {
  home = is.home;
  default = is.default;
  guests =
      Each-weaker (λ (ask : Ask). ask.partition ≡ 0 → HasGuestPlaces items r.chains) (λ (ask : Ask). ask.partition ≡ 0 → HasGuestPlaces (slice_set items p new) r.chains)
      (λ ask h zero. same (h zero)) r.asks is.guests;
}
  where
    same : HasGuestPlaces items r.chains → HasGuestPlaces (slice_set items p new) r.chains
    same h q x small here takes =
        elim (set-cases items p q part new x there here) [
          | inl own ↦
              subst (λ m. IsLive m r.chains) (sym own.0)
              (h p part (subst (λ m. m < 2 ^ 8) own.0 small) there (sym guests ∙ ap (λ (y : Partition). y.guests) (sym own.1) ∙ takes))
          | inr elsewhere ↦ h q x small elsewhere.1 takes
        ]

-- after such a change the parts still go together
pub kept-linked : (items : List Partition) (nodes : List (ℕ × NodePart)) (apps : List (ℕ × AppPart)) → AreLinked items nodes apps → (app : ℕ) (change : AppPart → AppPart) → LeavesLinks change
    → ((r : AppPart) → lookup (nat_eq app) apps ≡ Some r → HasPlaces items (change r)) → AreLinked items nodes (with_change app change apps)
kept-linked items nodes apps linked app change leaves places = record {
  node = linked.node;
  app = λ n r p part found there.
      let old = was-found n app change apps r found in
      subst (λ chain. IsAppChain part.containers chain n)
      (sym (ap (λ (r : AppPart). chain_of p r.chains) old.2 ∙ read-after (λ (r : AppPart). chain_of p r.chains) n app change old.0 (leaves.chains old.0 p)))
      (linked.app n old.0 p part old.1 there);
  free = linked.free;
  fits = linked.fits;
  small = linked.small;
  master = λ n r part found there.
      let old = was-found n app change apps r found in
      let home : r.home ≡ old.0.home = ap (λ (r : AppPart). r.home) old.2 ∙ read-after (λ (r : AppPart). r.home) n app change old.0 (leaves.home old.0) in
      ap (λ (r : AppPart). r.master) old.2 ∙ read-after (λ (r : AppPart). r.master) n app change old.0 (leaves.master old.0)
      ∙ linked.master n old.0 part old.1 (ap (slice_get items) (sym home) ∙ there);
  places = λ n r found.
      let old = was-found n app change apps r found in
      elim (cases_eq n app) [
        | inl same ↦
            let now : r ≡ change old.0 = old.2 ∙ ap (λ b. cond b (change old.0) old.0) (ap (λ m. nat_eq m app) same ∙ itself app) in
            subst (HasPlaces items) (sym now) (places old.0 (ap (λ m. lookup (nat_eq m) apps) (sym same) ∙ old.1))
        | inr apart ↦
            let now : r ≡ old.0 = old.2 ∙ ap (λ b. cond b (change old.0) old.0) (other n app apart) in
            subst (HasPlaces items) (sym now) (linked.places n old.0 old.1)
      ];
}

module _ (items : List Partition) (nodes : List (ℕ × NodePart)) (apps : List (ℕ × AppPart)) (linked : AreLinked items nodes apps)
    (p : ℕ) (part new : Partition) (there : slice_get items p ≡ Some part) (guests : new.guests ≡ part.guests)
    (node : ℕ) (row : NodePart) (at : lookup (nat_eq node) nodes ≡ Some row) (stands : row.partition ≡ p)
    (change : NodePart → NodePart) (partition : (r : NodePart) → (change r).partition ≡ r.partition) (size : (r : NodePart) → (change r).size ≡ r.size)
    (own : IsRight node (change row) new) (used : (n : ℕ) → n ≢ node → used_of new.containers.entries n ≡ used_of part.containers.entries n)
    (app : ℕ) (touch : AppPart → AppPart) (touched : (r : AppPart) → lookup (nat_eq app) apps ≡ Some r → IsTouched p app new touch r)
    (masters : (n : ℕ) → n ≢ app → master_in n new.containers.entries ≡ master_in n part.containers.entries)
    (keeps-nodes : KeepsNodes node part.containers new.containers) (keeps-apps : KeepsApps app part.containers new.containers) where
  abbrev parts : List Partition
  parts = slice_set items p new

  other-right : (n : ℕ) (r : NodePart) (x : Partition) → n ≢ node → lookup (nat_eq n) nodes ≡ Some r → slice_get parts r.partition ≡ Some x → IsRight n r x
  other-right n r x apart found here =
      elim (set-cases items p r.partition part new x there here) [
        | inl same ↦
            let stood : slice_get items r.partition ≡ Some part = ap (slice_get items) same.0 ∙ there in
            subst (IsRight n r) (sym same.1)
            (record {
              chain = keeps-nodes n r.containers apart (linked.node n r part found stood);
              free = linked.free n r part found stood ∙ ap (less r.size) (sym (used n apart));
              fits = ap (λ u. fits_in u r.size) (used n apart) ∙ linked.fits n r part found stood;
            })
        | inr elsewhere ↦ record { chain = linked.node n r x found elsewhere.1; free = linked.free n r x found elsewhere.1; fits = linked.fits n r x found elsewhere.1 }
      ]

  each-right : (n : ℕ) (r : NodePart) (x : Partition) → lookup (nat_eq n) (with_change node change nodes) ≡ Some r → slice_get parts r.partition ≡ Some x → IsRight n r x
  each-right n r x found here =
      let old = was-found n node change nodes r found in
      elim (cases_eq n node) [
        | inl same ↦
            let stood : old.0 ≡ row = same_Some old.0 row (sym old.1 ∙ ap (λ m. lookup (nat_eq m) nodes) same ∙ at) in
            let now : r ≡ change row = old.2 ∙ ap (λ b. cond b (change old.0) old.0) (ap (λ m. nat_eq m node) same ∙ itself node) ∙ ap change stood in
            let place : r.partition ≡ p = ap (λ (r : NodePart). r.partition) now ∙ partition row ∙ stands in
            let its : x ≡ new = same_Some x new (sym here ∙ ap (slice_get parts) place ∙ set-same items p part new there) in
            subst (λ m. IsRight m r x) (sym same) (subst (λ s. IsRight node s x) (sym now) (subst (IsRight node (change row)) (sym its) own))
        | inr apart ↦
            let now : r ≡ old.0 = old.2 ∙ ap (λ b. cond b (change old.0) old.0) (other n node apart) in
            subst (λ s. IsRight n s x) (sym now) (other-right n old.0 x apart old.1 (ap (λ (r : NodePart). slice_get parts r.partition) (sym now) ∙ here))
      ]

  own-chain : (r : AppPart) (q : ℕ) (x : Partition) → lookup (nat_eq app) apps ≡ Some r → slice_get parts q ≡ Some x → IsAppChain x.containers (chain_of q (touch r).chains) app
  own-chain r q x found here =
      elim (set-cases items p q part new x there here) [
        | inl same ↦
            subst (λ m. IsAppChain x.containers (chain_of m (touch r).chains) app) (sym same.0)
            (subst (λ (y : Partition). IsAppChain y.containers (chain_of p (touch r).chains) app) (sym same.1) (touched r found).chain)
        | inr elsewhere ↦
            subst (λ chain. IsAppChain x.containers chain app) (sym ((touched r found).others q elsewhere.0)) (linked.app app r q x found elsewhere.1)
      ]

  other-chain : (n : ℕ) (r : AppPart) (q : ℕ) (x : Partition) → n ≢ app → lookup (nat_eq n) apps ≡ Some r → slice_get parts q ≡ Some x → IsAppChain x.containers (chain_of q r.chains) n
  other-chain n r q x apart found here =
      elim (set-cases items p q part new x there here) [
        | inl same ↦
            subst (λ (y : Partition). IsAppChain y.containers (chain_of q r.chains) n) (sym same.1)
            (keeps-apps n (chain_of q r.chains) apart (linked.app n r q part found (ap (slice_get items) same.0 ∙ there)))
        | inr elsewhere ↦ linked.app n r q x found elsewhere.1
      ]

  each-chain : (n : ℕ) (r : AppPart) (q : ℕ) (x : Partition) → lookup (nat_eq n) (with_change app touch apps) ≡ Some r → slice_get parts q ≡ Some x → IsAppChain x.containers (chain_of q r.chains) n
  each-chain n r q x found here =
      let old = was-found n app touch apps r found in
      elim (cases_eq n app) [
        | inl same ↦
            let now : r ≡ touch old.0 = old.2 ∙ ap (λ b. cond b (touch old.0) old.0) (ap (λ m. nat_eq m app) same ∙ itself app) in
            subst (λ m. IsAppChain x.containers (chain_of q r.chains) m) (sym same)
            (subst (λ (s : AppPart). IsAppChain x.containers (chain_of q s.chains) app) (sym now) (own-chain old.0 q x (ap (λ m. lookup (nat_eq m) apps) (sym same) ∙ old.1) here))
        | inr apart ↦
            let now : r ≡ old.0 = old.2 ∙ ap (λ b. cond b (touch old.0) old.0) (other n app apart) in
            subst (λ (s : AppPart). IsAppChain x.containers (chain_of q s.chains) n) (sym now) (other-chain n old.0 q x apart old.1 here)
      ]

  own-master : (r : AppPart) (x : Partition) → lookup (nat_eq app) apps ≡ Some r → slice_get parts r.home ≡ Some x → (touch r).master ≡ master_in app x.containers.entries
  own-master r x found here =
      elim (set-cases items p r.home part new x there here) [
        | inl same ↦ (touched r found).master same.0 ∙ ap (λ (y : Partition). master_in app y.containers.entries) (sym same.1)
        | inr elsewhere ↦ (touched r found).away elsewhere.0 ∙ linked.master app r x found elsewhere.1
      ]

  other-master : (n : ℕ) (r : AppPart) (x : Partition) → n ≢ app → lookup (nat_eq n) apps ≡ Some r → slice_get parts r.home ≡ Some x → r.master ≡ master_in n x.containers.entries
  other-master n r x apart found here =
      elim (set-cases items p r.home part new x there here) [
        | inl same ↦
            linked.master n r part found (ap (slice_get items) same.0 ∙ there) ∙ sym (masters n apart)
            ∙ ap (λ (y : Partition). master_in n y.containers.entries) (sym same.1)
        | inr elsewhere ↦ linked.master n r x found elsewhere.1
      ]

  each-master : (n : ℕ) (r : AppPart) (x : Partition) → lookup (nat_eq n) (with_change app touch apps) ≡ Some r → slice_get parts r.home ≡ Some x → r.master ≡ master_in n x.containers.entries
  each-master n r x found here =
      let old = was-found n app touch apps r found in
      elim (cases_eq n app) [
        | inl same ↦
            let now : r ≡ touch old.0 = old.2 ∙ ap (λ b. cond b (touch old.0) old.0) (ap (λ m. nat_eq m app) same ∙ itself app) in
            let was : lookup (nat_eq app) apps ≡ Some old.0 = ap (λ m. lookup (nat_eq m) apps) (sym same) ∙ old.1 in
            let home : old.0.home ≡ r.home = sym (ap (λ (r : AppPart). r.home) now ∙ (touched old.0 was).home) in
            subst (λ m. r.master ≡ master_in m x.containers.entries) (sym same)
            (ap (λ (r : AppPart). r.master) now ∙ own-master old.0 x was (ap (slice_get parts) home ∙ here))
        | inr apart ↦
            let now : r ≡ old.0 = old.2 ∙ ap (λ b. cond b (touch old.0) old.0) (other n app apart) in
            ap (λ (r : AppPart). r.master) now ∙ other-master n old.0 x apart old.1 (ap (λ (r : AppPart). slice_get parts r.home) (sym now) ∙ here)
      ]

  each-places : (n : ℕ) (r : AppPart) → lookup (nat_eq n) (with_change app touch apps) ≡ Some r → HasPlaces parts r
  each-places n r found =
      let old = was-found n app touch apps r found in
      elim (cases_eq n app) [
        | inl same ↦
            let now : r ≡ touch old.0 = old.2 ∙ ap (λ b. cond b (touch old.0) old.0) (ap (λ m. nat_eq m app) same ∙ itself app) in
            let was : lookup (nat_eq app) apps ≡ Some old.0 = ap (λ m. lookup (nat_eq m) apps) (sym same) ∙ old.1 in
            subst (HasPlaces parts) (sym now) (same-places items p part new there guests (touch old.0) (touched-places old.0 was))
        | inr apart ↦
            let now : r ≡ old.0 = old.2 ∙ ap (λ b. cond b (touch old.0) old.0) (other n app apart) in
            subst (HasPlaces parts) (sym now) (same-places items p part new there guests old.0 (linked.places n old.0 old.1))
      ]
    where
      touched-places : (r : AppPart) → lookup (nat_eq app) apps ≡ Some r → HasPlaces items (touch r)
      touched-places r found = (touched r found).places items (linked.places app r found)

  -- the parts still go together
  pub still-linked : AreLinked parts (with_change node change nodes) (with_change app touch apps)
  still-linked = record {
    node = λ n r x found here. (each-right n r x found here).chain;
    app = each-chain;
    free = λ n r x found here. (each-right n r x found here).free;
    fits = λ n r x found here. (each-right n r x found here).fits;
    small = λ n r found.
        let old = was-found n node change nodes r found in
        subst IsSmall (sym (ap (λ (r : NodePart). r.size) old.2 ∙ read-after (λ r. r.size) n node change old.0 (size old.0))) (linked.small n old.0 old.1);
    master = each-master;
    places = each-places;
  }
