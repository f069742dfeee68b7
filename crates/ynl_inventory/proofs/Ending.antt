-- A container ends: the rows stay sound, and mean what the model's end of it gives.
use Rattle.std.proofs.Common.{◌≡◌, ◌≢◌, ◌==◌, ◌&&◌, ℕ, Bool, true, false, not, cond, List, [], map, slice_get, Some, None, nat_eq, refl, sym, ap, ◌∙◌, arith}
use Rattle.std.specs.Map.{lookup}
use Rattle.std.specs.Option.{option_map_or}
use Rattle.std.proofs.lemmas.Bool.{and_from, and_parts}
use Rattle.std.proofs.lemmas.Bool.Decides.{nat_tests}
use Rattle.std.proofs.lemmas.Option.{none-some, same_Some}
use Rattle.ynl_resource.specs.Names.{same_label, same_id}
use Rattle.ynl_resource.specs.Tables.{without as dropped}
use Rattle.ynl_laws.proofs.Names.{same-label_self}
use Rattle.ynl_model.specs.declared.containers.Placed.{Placed}
use Rattle.ynl_model.specs.declared.queues.StopRow.{StopRow}
use Rattle.ynl_model.specs.declared.queues.MaximumRow.{MaximumRow}
use Rattle.ynl_model.specs.Queues.{Config}
use Rattle.ynl_model.specs.Changes.{changed_at, end}
use Rattle.ynl_slots.specs.Slots.{without}
use Rattle.ynl_slots.proofs.Entries.{itself, distinct_without}
use Rattle.ynl_slots.proofs.Lookups.{lookup-without}
use Rattle.ynl_tables.specs.declared.containers.container.Container.{Container}
use Rattle.ynl_tables.proofs.containers.Clocks.{rising_without}
use Rattle.ynl_inventory.specs.Rows.{Rows, PartitionRow, NodeRow}
use Rattle.ynl_inventory.specs.Meaning.{node_name, placed_of, state_of}
use Rattle.ynl_inventory.specs.Changes.{next_clock as next_of_row, with_ended}
use Rattle.ynl_inventory.specs.Sound.{IsFor, IsContainer, IsPartition, IsSound}
use Rattle.ynl_inventory.proofs.Clocks.{rising-numbers}
use Rattle.ynl_inventory.proofs.Updates.{each-number, without-number}
use Rattle.ynl_inventory.proofs.Finding.{not-true}
use Rattle.ynl_inventory.proofs.Filters.{filter-masters}
use Rattle.ynl_inventory.proofs.Kept.{kept-container}
use Rattle.ynl_inventory.proofs.Containers.{AreContainers, rises-more, changed-sound, changed-for, changed-means}

module _ (v : Rows) (sound : IsSound v) (p : ℕ) (row : PartitionRow) (there : slice_get v.partitions p ≡ Some row)
    (number : ℕ) (gone : Container) (found : lookup (nat_eq number) row.containers ≡ Some gone) where
  old-partition : IsPartition v p row
  old-partition = sound.partitions p row there

  each-left : (n : ℕ) (c : Container) → lookup (nat_eq n) (without number row.containers) ≡ Some c → IsContainer v p (next_of_row row) c
  each-left n c at = go (nat_eq n number) (sym (lookup-without n number row.containers) ∙ at)
    where
      go : (b : Bool) → cond b None (lookup (nat_eq n) row.containers) ≡ Some c → IsContainer v p (next_of_row row) c
      go true e = absurd (none-some c e)
      go false e =
          kept-container v v refl p row.clock (next_of_row row) c (old-partition.each n c e) (rises-more row.limit row.clock) (λ app at. (app, at, refl)) (λ other at. (other, at, refl))

  containers : AreContainers v p gone.node (without number) sound row there
  containers = record {
    numbers = distinct_without number row.containers old-partition.numbers;
    rising = rising_without number row.containers old-partition.rising;
    masters = filter-masters (λ e. not (nat_eq number e.0)) row.containers old-partition.numbers old-partition.masters;
    each = each-left;
  }

  -- the rows stay sound
  pub ended-sound : IsSound (with_ended p number gone.node v)
  ended-sound = changed-sound v p gone.node (without number) sound row there containers

  -- and are still those of the configuration
  pub ended-for : (c : Config) → IsFor c v → IsFor c (with_ended p number gone.node v)
  ended-for c is = changed-for v p gone.node (without number) sound row there c is

  -- it alone has its id
  abbrev is_gone : Placed → Bool
  is_gone = λ other. same_id other.id (placed_of v row.label gone).id

  other-id : (n : ℕ) (c : Container) → lookup (nat_eq n) row.containers ≡ Some c → n ≢ number → (is_gone (placed_of v row.label c) ≡ false) × (placed_of v row.label c ≡ placed_of v row.label c)
  other-id n c at apart = (
    not-true (same_label row.label row.label && (c.clock == gone.clock))
        (λ same. apart (rising-numbers row.containers n number c gone old-partition.rising at found (grind (arith, nat_tests, (and_parts (same_label row.label row.label) (c.clock == gone.clock) same).1)))),
    refl,
  )

  own-id : (n : ℕ) (c : Container) → lookup (nat_eq n) row.containers ≡ Some c → n ≡ number → is_gone (placed_of v row.label c) ≡ true
  own-id n c at same =
      let is : c ≡ gone = same_Some c gone (sym at ∙ ap (λ m. lookup (nat_eq m) row.containers) same ∙ found) in
      and_from (same_label row.label row.label) (c.clock == gone.clock) (same-label_self row.label) (ap (λ (c : Container). c.clock == gone.clock) is ∙ itself gone.clock)

  left-means : map (λ e. placed_of v row.label e.1) (without number row.containers) ≡ dropped is_gone (map (λ e. placed_of v row.label e.1) row.containers)
  left-means =
      without-number (placed_of v row.label) is_gone (placed_of v row.label) number row.containers
      (each-number (λ n c. n ≢ number → (is_gone (placed_of v row.label c) ≡ false) × (placed_of v row.label c ≡ placed_of v row.label c)) row.containers old-partition.numbers other-id)
      (each-number (λ n c. n ≡ number → is_gone (placed_of v row.label c) ≡ true) row.containers old-partition.numbers own-id)

  -- and they mean what the model's end of the container gives
  pub ended-means : (c : Config) → IsFor c v → (stops : List StopRow) (maxima : List MaximumRow)
      → state_of (with_ended p number gone.node v) stops maxima ≡ end c (state_of v stops maxima) (placed_of v row.label gone)
  unfolding end
  ended-means c is stops maxima =
      let on = old-partition.each number gone found in
      let name : on.node.name ≡ node_name v.nodes gone.node = sym (ap (λ o. option_map_or (λ (r : NodeRow). r.name) o []) on.node_found) in
      changed-means v p gone.node (without number) sound row there c is stops maxima on.node on.node_found on.node_there (dropped is_gone) left-means
      ∙ ap (λ name. changed_at c name row.label (dropped is_gone) (state_of v stops maxima)) name
