-- A node is relabelled: it leaves, and joins another partition under a number of its own.
use Rattle.std.proofs.Common.{◌≡◌, ◌≢◌, ℕ, true, false, not, List, slice_get, Some, nat_eq, sym, ◌∙◌, arith}
use Rattle.std.specs.List.{AllByRecursion}
use Rattle.std.specs.Map.{lookup}
use Rattle.std.proofs.lemmas.Bool.Decides.{nat_tests}
use Rattle.ynl_resource.specs.Names.{same_name}
use Rattle.ynl_laws.proofs.Lists.{Each-kept, Each-weaker}
use Rattle.ynl_model.specs.declared.queues.StopRow.{StopRow}
use Rattle.ynl_model.specs.declared.queues.MaximumRow.{MaximumRow}
use Rattle.ynl_model.specs.Queues.{Config}
use Rattle.ynl_model.specs.Changes.{node_joins, node_leaves}
use Rattle.ynl_slots.specs.Slots.{IsUnused, without}
use Rattle.ynl_inventory.specs.Rows.{Rows, PartitionRow, NodeRow}
use Rattle.ynl_inventory.specs.Meaning.{label_at, node_of, state_of}
use Rattle.ynl_inventory.specs.Changes.{with_left, with_joined}
use Rattle.ynl_inventory.specs.Sound.{IsFor, HasPartition, IsJoinable, IsSound}
use Rattle.ynl_inventory.proofs.Lookups.{place-there}
use Rattle.ynl_inventory.proofs.Finding.{own-label, other-names}
use Rattle.ynl_inventory.proofs.Kept.{kept-partition}
use Rattle.ynl_inventory.proofs.Joining.{joined-sound, joined-for, joined-means}
use Rattle.ynl_inventory.proofs.Leaving.{left-many, left-labels, left-sound, left-for, left-means}

module _ (v : Rows) (sound : IsSound v) (node : ℕ) (nrow : NodeRow) (found : lookup (nat_eq node) v.nodes ≡ Some nrow)
    (number p : ℕ) (unused : IsUnused number (without node v.nodes)) (has : HasPartition v p) where
  abbrev gone : Rows
  gone = with_left node v

  -- no node has the name once it left
  unnamed : AllByRecursion (λ e. same_name e.1.name nrow.name ≡ false) gone.nodes
  unnamed =
      Each-kept (λ e. same_name e.1.name nrow.name ≡ false) (λ e. not (nat_eq node e.0)) v.nodes
      (Each-weaker (λ e. e.0 ≢ node → same_name e.1.name nrow.name ≡ false) (λ e. not (nat_eq node e.0) ≡ true → same_name e.1.name nrow.name ≡ false)
      (λ e h passes. h (grind (arith, nat_tests, passes))) v.nodes (other-names v sound node nrow found))

  abbrev to : (row : PartitionRow) × (slice_get gone.partitions p ≡ Some row)
  to = place-there gone.partitions p (kept-partition v gone (left-many v sound node nrow found) p has)

  can : IsJoinable gone number nrow.name p
  can = record { unused = unused; unnamed = unnamed; partition = to.0; found = to.1 }

  -- the rows stay sound
  pub relabelled-sound : IsSound (with_joined number nrow.name p nrow.size gone)
  relabelled-sound = joined-sound gone (left-sound v sound node nrow found) number nrow.name p nrow.size can

  -- and are still those of the configuration
  pub relabelled-for : (c : Config) → IsFor c v → IsFor c (with_joined number nrow.name p nrow.size gone)
  relabelled-for c is = joined-for gone (left-sound v sound node nrow found) number nrow.name p nrow.size can c (left-for v sound node nrow found c is)

  label : to.0.label ≡ label_at v.partitions p
  label = sym (own-label gone (left-sound v sound node nrow found) p to.0 to.1) ∙ left-labels v sound node nrow found p

  -- and they mean what leaving and joining give in the model
  pub relabelled-means : (c : Config) → IsFor c v → (stops : List StopRow) (maxima : List MaximumRow)
      → state_of (with_joined number nrow.name p nrow.size gone) stops maxima
      ≡ node_joins c nrow.name (label_at v.partitions p) nrow.size (node_leaves (node_of v.partitions nrow) (state_of v stops maxima))
  unfolding can
  relabelled-means c is stops maxima =
      joined-means gone (left-sound v sound node nrow found) number nrow.name p nrow.size can c (left-for v sound node nrow found c is) stops maxima
      ∙ (λ i. node_joins c nrow.name (label i) nrow.size (left-means v sound node nrow found stops maxima i))
