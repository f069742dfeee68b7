-- Which fault of queues that are written is told.
use Rattle.std.proofs.Common.{◌≡◌, ℕ, List, true, false, Err}
use Rattle.std.specs.List.{list_any, list_all}
use Rattle.ynl_resource.specs.Refusals.{first_that_holds}
use Rattle.ynl_resource.specs.Texts.{read_path}
use Rattle.ynl_resource.specs.declared.amounts.Resource.{Resource}
use Rattle.ynl_model.specs.Nodes.{Labels}
use Rattle.ynl_model.specs.Accepted.{tree_faults}
use Rattle.ynl_model.specs.declared.faults.TreeFault.TheVariants.{TooDeep, TooMany, BadPath}
use Rattle.ynl_queues.specs.Written.{WrittenRow, is_too_deep, are_too_many, is_below_root, made_of, written_faults, unless_fault, built_of}

module _ (labels : Labels) (rows : List WrittenRow) (n : ℕ) (size : Resource) where
  pub told_deep : list_any (λ row. is_too_deep row.path) rows ≡ true → built_of labels rows n size ≡ Err TooDeep
  unfolding built_of written_faults
  told_deep deep = rw deep

  pub told_many : list_any (λ row. is_too_deep row.path) rows ≡ false → are_too_many rows ≡ true → built_of labels rows n size ≡ Err TooMany
  unfolding built_of written_faults
  told_many deep many = rw (deep, many)

  pub told_bad : list_any (λ row. is_too_deep row.path) rows ≡ false → are_too_many rows ≡ false → list_all (λ row. is_below_root (read_path row.path)) rows ≡ false → built_of labels rows n size ≡ Err BadPath
  unfolding built_of written_faults
  told_bad deep many below = rw (deep, many, below)

  pub told_tree : list_any (λ row. is_too_deep row.path) rows ≡ false → are_too_many rows ≡ false → list_all (λ row. is_below_root (read_path row.path)) rows ≡ true
      → built_of labels rows n size ≡ unless_fault (first_that_holds (tree_faults (made_of labels rows n size))) (made_of labels rows n size)
  unfolding built_of written_faults
  told_tree deep many below = rw (deep, many, below)
