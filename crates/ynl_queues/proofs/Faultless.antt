-- What is built has no fault, and what has none is a tree.
use Rattle.std.proofs.Common.{◌≡◌, ℕ, Bool, true, false, not, List, [], ◌∷◌, map, Option, Some, None, Ok, refl, subst}
use Rattle.std.specs.Prelude.{◌&&◌, ◌||◌}
use Rattle.std.specs.List.{list_any, list_all}
use Rattle.ynl_resource.specs.Names.{same_name, same_path, root}
use Rattle.ynl_resource.specs.Texts.{read_path}
use Rattle.ynl_resource.specs.declared.amounts.Resource.{Resource}
use Rattle.ynl_resource.specs.Refusals.{first_that_holds}
use Rattle.ynl_model.specs.Nodes.{Labels}
use Rattle.ynl_model.specs.Queues.{Config, is_queue, is_leaf}
use Rattle.ynl_model.specs.Accepted.{tree_faults, all_differ, all_queues, parent_of, names_known_labels, stays_within, maximum_covers, adds_up}
use Rattle.ynl_model.specs.declared.faults.TreeFault.{TreeFault}
use Rattle.ynl_model.specs.declared.faults.TreeFault.TheVariants.{TooDeep, TooMany, BadPath, DuplicateQueue, NoParent, NoSuchLabel, NotSubset, MaximumBelowCapacity, SumNot100}
use Rattle.ynl_queues.specs.Trees.{HasTree}
use Rattle.ynl_queues.specs.Written.{WrittenRow, is_crowded, is_too_deep, are_too_many, is_below_root, made_of, written_faults, unless_fault, built_of}

-- where none of a list holds, none behind the first three does
none_behind : (a b d : TreeFault) (x y z : Bool) (xs : List (TreeFault × Bool)) → first_that_holds ((a, x) ∷ (b, y) ∷ (d, z) ∷ xs) ≡ None → first_that_holds xs ≡ None
none_behind a b d true y z xs h = absurd cc
none_behind a b d false true z xs h = absurd cc
none_behind a b d false false true xs h = absurd cc
none_behind a b d false false false xs h = h

-- and neither the second nor the third does
neither_holds : (a b d : TreeFault) (x y z : Bool) (xs : List (TreeFault × Bool)) → first_that_holds ((a, x) ∷ (b, not y) ∷ (d, not z) ∷ xs) ≡ None → (y ≡ true) × (z ≡ true)
neither_holds a b d true y z xs h = absurd cc
neither_holds a b d false false z xs h = absurd cc
neither_holds a b d false true false xs h = absurd cc
neither_holds a b d false true true xs h = (refl, refl)

-- what is given is given where no fault holds
given_none : {X : Type 0} (fault : Option TreeFault) (x y : X) → unless_fault fault x ≡ Ok y → (fault ≡ None) × (x ≡ y)
given_none None x y h = (refl, cc)
given_none (Some fault) x y h = absurd cc

-- what is built is what is written, and has no fault
pub built_faultless : (labels : Labels) (rows : List WrittenRow) (n : ℕ) (size : Resource) (c : Config) → built_of labels rows n size ≡ Ok c → (made_of labels rows n size ≡ c) × (first_that_holds (tree_faults c) ≡ None)
unfolding built_of written_faults
built_faultless labels rows n size c h =
    let made : Config = made_of labels rows n size in
    let told = given_none (first_that_holds (written_faults made rows)) made c h in (
      told.1,
      subst (λ (c : Config). first_that_holds (tree_faults c) ≡ None) told.1
          (none_behind TooDeep TooMany BadPath (list_any (λ row. is_too_deep row.path) rows) (are_too_many rows) (not (list_all (λ row. is_below_root (read_path row.path)) rows)) (tree_faults made) told.0),
    )

-- queues without a fault, whose labels differ, are a tree
pub tree_without_fault : (c : Config) → all_differ same_name (map (λ row. row.name) c.labels.rows) ≡ true → first_that_holds (tree_faults c) ≡ None → HasTree c
unfolding tree_faults
tree_without_fault c labels h =
    let both = neither_holds TooMany DuplicateQueue NoParent (is_crowded c) (all_differ same_path (all_queues c)) (list_all (λ row. is_queue c (parent_of row.path)) c.queues)
    ((NoSuchLabel, not (list_all (names_known_labels c) c.queues))
    ∷ (NotSubset, not (list_all (stays_within c) c.queues))
    ∷ (MaximumBelowCapacity, not (list_all (maximum_covers c) c.queues))
    ∷ (SumNot100, not (adds_up c root && list_all (λ row. is_leaf c row.path || adds_up c row.path) c.queues)) ∷ []) h in
    record { labels = labels; paths = both.0; parents = both.1 }
