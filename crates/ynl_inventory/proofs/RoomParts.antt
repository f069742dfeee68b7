-- Room is reserved in a partition, or its clock rises: the containers there stay.
use Rattle.std.proofs.Common.{◌≡◌, ◌<◌, ◌≤◌, ◌+◌, IfSome, option_map, ℕ, zero, suc, List, [], ◌∷◌, map, length, get_or, slice_get, Some, refl, sym, ap, subst, ◌∙◌, inl, inr}
use Rattle.std.specs.Prelude.{slice_set}
use Rattle.std.proofs.lemmas.Option.{none-some, same_Some, slice_get_read, slice_get-map}
use Rattle.std.proofs.lemmas.List.{length-map}
use Rattle.ynl_inventory.specs.declared.inventory.Inventory.TheInside.{Inside}
use Rattle.ynl_inventory.specs.Sound.{HasPartition}
use Rattle.ynl_resource.specs.Amounts.{less, fits_in}
use Rattle.ynl_tables.specs.declared.nodes.nodes.NodeRow.{NodeRow as NodePart}
use Rattle.ynl_tables.specs.declared.apps.app.AppRow.{AppRow as AppPart}
use Rattle.ynl_tables.specs.apps.Chains.{chain_of}
use Rattle.ynl_tables.specs.containers.Table.{Table}
use Rattle.ynl_tables.specs.containers.Chains.{IsNodeChain, IsAppChain}
use Rattle.ynl_inventory.specs.declared.partition.Partition.{Partition}
use Rattle.ynl_inventory.specs.Apps.{master_in}
use Rattle.ynl_inventory.specs.Parts.{Held, LeavesRoom, held_of, partition_row, used_of, AreLinked}
use Rattle.ynl_inventory.proofs.PartsChange.{same-places}
use Rattle.ynl_inventory.proofs.PartLists.{set-cases, set-same, set-other}

-- a part that is set and means the same leaves what all mean
pub map-kept : {X Y : Type 0} (f : X → Y) (xs : List X) (p : ℕ) (x new : X) → slice_get xs p ≡ Some x → f new ≡ f x → map f (slice_set xs p new) ≡ map f xs
map-kept f [] p x new at is = absurd (none-some x at)
map-kept f (y ∷ xs) zero x new at is = ap (λ z. z ∷ map f xs) (is ∙ ap f (sym (same_Some y x at)))
map-kept f (y ∷ xs) (suc p) x new at is = ap (λ ys. f y ∷ ys) (map-kept f xs p x new at is)

module _ (items : List Partition) (p : ℕ) (part new : Partition) (there : slice_get items p ≡ Some part)
    (same : new.containers ≡ record part.containers { room = new.containers.room }) where
  -- the rows stay
  pub room-rows : new ≡ record part { containers = new.containers } → map partition_row (slice_set items p new) ≡ map partition_row items
  room-rows own = map-kept partition_row items p part new there (ap partition_row own ∙ (λ i. record { label = part.label; guests = part.guests; limit = part.limit; clock = part.clock; containers = (same i).entries }))

  -- and the parts still go together
  pub room-linked : new.guests ≡ part.guests → (nodes : List (ℕ × NodePart)) (apps : List (ℕ × AppPart)) → AreLinked items nodes apps → AreLinked (slice_set items p new) nodes apps
  room-linked guests nodes apps linked = record {
    node = λ n r x found here.
        elim (set-cases items p r.partition part new x there here) [
          | inl is ↦
              subst (λ (y : Partition). IsNodeChain y.containers r.containers n) (sym is.1)
              (subst (λ (t : Table). IsNodeChain t r.containers n) (sym same) (linked.node n r part found (ap (slice_get items) is.0 ∙ there)))
          | inr elsewhere ↦ linked.node n r x found elsewhere.1
        ];
    app = λ n r q x found here.
        elim (set-cases items p q part new x there here) [
          | inl is ↦
              subst (λ (y : Partition). IsAppChain y.containers (chain_of q r.chains) n) (sym is.1)
              (subst (λ (t : Table). IsAppChain t (chain_of q r.chains) n) (sym same) (linked.app n r q part found (ap (slice_get items) is.0 ∙ there)))
          | inr elsewhere ↦ linked.app n r q x found elsewhere.1
        ];
    free = λ n r x found here.
        elim (set-cases items p r.partition part new x there here) [
          | inl is ↦
              linked.free n r part found (ap (slice_get items) is.0 ∙ there)
              ∙ sym (ap (λ (y : Partition). less r.size (used_of y.containers.entries n)) is.1 ∙ ap (λ (t : Table). less r.size (used_of t.entries n)) same)
          | inr elsewhere ↦ linked.free n r x found elsewhere.1
        ];
    fits = λ n r x found here.
        elim (set-cases items p r.partition part new x there here) [
          | inl is ↦
              ap (λ (y : Partition). fits_in (used_of y.containers.entries n) r.size) is.1 ∙ ap (λ (t : Table). fits_in (used_of t.entries n) r.size) same
              ∙ linked.fits n r part found (ap (slice_get items) is.0 ∙ there)
          | inr elsewhere ↦ linked.fits n r x found elsewhere.1
        ];
    small = linked.small;
    master = λ n r x found here.
        elim (set-cases items p r.home part new x there here) [
          | inl is ↦
              linked.master n r part found (ap (slice_get items) is.0 ∙ there)
              ∙ sym (ap (λ (y : Partition). master_in n y.containers.entries) is.1 ∙ ap (λ (t : Table). master_in n t.entries) same)
          | inr elsewhere ↦ linked.master n r x found elsewhere.1
        ];
    places = λ n r found. same-places items p part new there guests r (linked.places n r found);
  }

-- a partition that is there has a part, which is the one that was read
pub part-there : (a : Inside) (h : Held) (p : ℕ) → held_of a ≡ h → HasPartition h.rows p → p < length a.partitions.items
part-there a h p view required =
    subst (λ n. p < n) (length-map a.partitions.items partition_row) (subst (λ (h : Held). HasPartition h.rows p) (sym view) required)

pub part-read : (a : Inside) (h : Held) (p : ℕ) → held_of a ≡ h → HasPartition h.rows p → (part : Partition) → part ≡ get_or a.partitions.items p part → slice_get a.partitions.items p ≡ Some part
part-read a h p view required part read = slice_get_read a.partitions.items (length a.partitions.items) p part refl (part-there a h p view required) read

-- what a part that is set leaves of the rooms
pub rooms-left : (items : List Partition) (p : ℕ) (part new : Partition) (most : ℕ) → slice_get items p ≡ Some part → part.containers.room ≤ new.containers.room + most
    → LeavesRoom p most (map (λ x. x.containers.room) items) (map (λ x. x.containers.room) (slice_set items p new))
rooms-left items p part new most there enough = record {
  own = λ room at.
      let same : room ≡ part.containers.room =
      same_Some room part.containers.room (sym at ∙ slice_get-map (λ (x : Partition). x.containers.room) items p ∙ ap (option_map (λ (x : Partition). x.containers.room)) there)
      in
      subst (λ o. IfSome o (λ left. room ≤ left + most)) (sym now) (subst (λ r. r ≤ new.containers.room + most) (sym same) enough);
  others = λ q apart.
      slice_get-map (λ (x : Partition). x.containers.room) (slice_set items p new) q ∙ ap (option_map (λ (x : Partition). x.containers.room)) (set-other items p q new apart)
      ∙ sym (slice_get-map (λ (x : Partition). x.containers.room) items q);
}
  where
    now : slice_get (map (λ (x : Partition). x.containers.room) (slice_set items p new)) p ≡ Some new.containers.room
    now =
        slice_get-map (λ (x : Partition). x.containers.room) (slice_set items p new) p ∙ ap (option_map (λ (x : Partition). x.containers.room)) (set-same items p part new there)
