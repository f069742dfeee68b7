-- All nodes with what is free on them are nodes of the cluster.
use Rattle.std.proofs.Common.{suc, List, [], ◌∷◌, map, refl, arith}
use Rattle.std.specs.List.{AllByRecursion, Contains}
use Rattle.ynl_model.specs.declared.nodes.Node.{Node}
use Rattle.ynl_model.specs.Cluster.{State}
use Rattle.ynl_waits.specs.Grounds.{all_spots, spot}
use Rattle.ynl_service.specs.reading.reasons.Facts.{IsSpotOf}

-- each of a list is in it
module _ {X : Type 0} where
  later : (x y : X) (xs : List X) → Contains xs x → Contains (y ∷ xs) x
  later x y xs there = (suc there.0, omega (arith, there.1), there.2)

  each-there : (all xs : List X) → ((x : X) → Contains xs x → Contains all x) → AllByRecursion (Contains all) xs
  each-there all [] h = tt
  each-there all (x ∷ xs) h = (h x (0, omega arith, refl), each-there all xs (λ y there. h y (later y x xs there)))

of-each : (s : State) (nodes : List Node) → AllByRecursion (Contains s.nodes) nodes → AllByRecursion (IsSpotOf s) (map (spot s) nodes)
of-each s [] h = tt
of-each s (node ∷ nodes) h = (record { free = refl; node = h.0 }, of-each s nodes h.1)

pub spots-are : (s : State) → AllByRecursion (IsSpotOf s) (all_spots s)
spots-are s = of-each s s.nodes (each-there s.nodes s.nodes (λ node there. there))
