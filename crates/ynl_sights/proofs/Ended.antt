-- A container of an application ends: what is wanted of each other leaf stays as it is.
use Rattle.std.proofs.Common.{◌≡◌, ◌≢◌, ℕ, cond, nat_eq, List, [], slice_get, Option, None, Some, refl, sym, ap, ◌∙◌, inl, inr}
use Rattle.std.specs.List.{list_any}
use Rattle.std.specs.Map.{lookup}
use Rattle.std.specs.Option.{option_and_then, option_map_or}
use Rattle.std.proofs.lemmas.Bool.{cases_eq}
use Rattle.std.proofs.lemmas.Option.{none-some, slice_get_within}
use Rattle.ynl_resource.specs.Amounts.{nothing, plus}
use Rattle.ynl_slots.specs.Slots.{HasDistinctNumbers, without}
use Rattle.ynl_tables.specs.declared.containers.container.Container.{Container}
use Rattle.ynl_inventory.specs.Rows.{Rows, PartitionRow, AppRow}
use Rattle.ynl_inventory.specs.Apps.{containers_of, is_master_of, runs_at}
use Rattle.ynl_inventory.specs.Changes.{with_ended}
use Rattle.ynl_inventory.specs.Parts.{held_at}
use Rattle.ynl_inventory.specs.Sound.{HasPartition, IsSound}
use Rattle.ynl_inventory.proofs.Used.{nothing-plus}
use Rattle.ynl_cluster.specs.seating.Seating.{counts, user_use}
use Rattle.ynl_cluster.proofs.seating.Carrying.{ChangesContainers}
use Rattle.ynl_cluster.proofs.seating.RowChanges.{ended-changes}
use Rattle.ynl_cluster.proofs.seating.Sums.{any-gone, sum, sum-gone}
use Rattle.ynl_sights.proofs.Others.{no-master, no-use}
use Rattle.ynl_sights.proofs.Staying.{StaysAt}

module _ (v : Rows) (sound : IsSound v) (p number node : ℕ) (container : Container) (held : held_at v p number ≡ Some container) where
  abbrev after : Rows
  after = with_ended p number node v

  abbrev there : List (ℕ × Container)
  there = containers_of v p

  -- the container stood there, and its number was its own
  stood : (lookup (nat_eq number) there ≡ Some container) × HasDistinctNumbers there × HasPartition v p
  stood = go (slice_get v.partitions p) refl held
    where
      go : (o : Option PartitionRow) → slice_get v.partitions p ≡ o → option_and_then (λ (part : PartitionRow). lookup (nat_eq number) part.containers) o ≡ Some container
          → (lookup (nat_eq number) (option_map_or (λ (part : PartitionRow). part.containers) o []) ≡ Some container)
          × HasDistinctNumbers (option_map_or (λ (part : PartitionRow). part.containers) o []) × HasPartition v p
      go None none at = absurd (none-some container at)
      go (Some part) its at = (at, (sound.partitions p part its).numbers, slice_get_within v.partitions p part its)

  changes : ChangesContainers p (without number) v after
  changes = ended-changes v p number node stood.2

  -- what does not see that it goes reads each partition as before
  unseen : {Y : Type 0} (f : List (ℕ × Container) → Y) → f (without number there) ≡ f there → (r : ℕ) → f (containers_of after r) ≡ f (containers_of v r)
  unseen f same r =
      elim (cases_eq r p) [
        | inl is ↦ ap (λ m. f (containers_of after m)) is ∙ ap f changes.own ∙ same ∙ sym (ap (λ m. f (containers_of v m)) is)
        | inr far ↦ ap f (changes.others r far)
      ]

  module _ (row : AppRow) (found : lookup (nat_eq container.app) v.apps ≡ Some row) (q : ℕ) (other : q ≢ row.leaf) where
    -- the leaf's applications run if they did
    runs-stay : (e : ℕ × AppRow) → lookup (nat_eq e.0) v.apps ≡ Some e.1 → e.1.leaf ≡ q → runs_at after e.0 e.1 ≡ runs_at v e.0 e.1
    runs-stay e at own =
        unseen (list_any (is_master_of e.0)) (any-gone (is_master_of e.0) number container there stood.1 stood.0 (no-master v number container row found q other e.0 e.1 at own)) e.1.home

    -- and their users use the same
    use-stays : (r user : ℕ) → user_use after r q user ≡ user_use v r q user
    use-stays r user =
        unseen (sum (counts v r q user))
        (sym (sum-gone (counts v r q user) number container there stood.1 stood.0
        ∙ ap (λ b. plus (sum (counts v r q user) (without number there)) (cond b container.size nothing)) (no-use v number container row found q other r user)
        ∙ nothing-plus (sum (counts v r q user) (without number there)))) r

    pub ended-elsewhere : StaysAt v sound after q
    ended-elsewhere = record {
      apps = refl;
      runs = λ e its. runs-stay e its.found its.own;
      uses = use-stays;
      names = λ e its. refl;
      users = λ e its. refl;
    }
