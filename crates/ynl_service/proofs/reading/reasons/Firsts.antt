-- The first of some nodes by name is one of them.
use Rattle.std.proofs.Common.{◌≡◌, Bool, true, false, List, [], ◌∷◌, Option, Some, None, fold, subst, if◌then◌else◌}
use Rattle.std.specs.Prelude.{IfSome}
use Rattle.std.specs.List.{AllByRecursion}
use Rattle.std.specs.Ordering.{is_gt}
use Rattle.ynl_resource.specs.Names.{name_order}
use Rattle.ynl_waits.specs.Grounds.{earlier, first_by_name}
use Rattle.ynl_waits.specs.declared.grounds.Spot.{Spot}

module _ (P : Spot → Type 0) where
  one-of : (test : Bool) (a b : Spot) → P a → P b → IfSome (if test then Some b else Some a) P
  one-of true a b p q = q
  one-of false a b p q = p

  earlier-holds : (first : Option Spot) (spot : Spot) → IfSome first P → P spot → IfSome (earlier first spot) P
  earlier-holds None spot p q = q
  earlier-holds (Some first) spot p q = one-of (is_gt (name_order first.node.name spot.node.name)) first spot p q

  all-hold : (first : Option Spot) (spots : List Spot) → IfSome first P → AllByRecursion P spots → IfSome (fold earlier first spots) P
  all-hold first [] p q = p
  all-hold first (spot ∷ spots) p q = all-hold (earlier first spot) spots (earlier-holds first spot p q.0) q.1

  pub first-holds : (spots : List Spot) (first : Spot) → AllByRecursion P spots → first_by_name spots ≡ Some first → P first
  first-holds spots first p is = subst (λ (o : Option Spot). IfSome o P) is (all-hold None spots tt p)
