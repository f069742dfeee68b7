-- What holds of all nodes holds of those of partitions.
use Rattle.std.proofs.Common.{Bool, true, false, List, [], ◌∷◌, ◌++◌, map, filter, if◌then◌else◌}
use Rattle.std.specs.Prelude.{flat_map}
use Rattle.std.specs.List.{AllByRecursion}
use Rattle.ynl_resource.specs.Amounts.{fits_in}
use Rattle.ynl_resource.specs.Names.{same_label}
use Rattle.ynl_resource.specs.declared.amounts.Resource.{Resource}
use Rattle.ynl_resource.specs.declared.labels.Label.{Label}
use Rattle.ynl_model.specs.declared.proposals.What.{What}
use Rattle.ynl_model.specs.Queues.{Config}
use Rattle.ynl_model.specs.Cluster.{State}
use Rattle.ynl_waits.specs.Grounds.{Spot, Ground, all_spots, ground, guest_labels, guest_grounds, has_nodes, open_spots}
use Rattle.ynl_waits.specs.Waits.{Applicant, Request, places}

module _ {X : Type 0} (P : X → Type 0) where
  pub all_joined : (xs ys : List X) → AllByRecursion P xs → AllByRecursion P ys → AllByRecursion P (xs ++ ys)
  all_joined [] ys p q = q
  all_joined (x ∷ xs) ys p q = (p.0, all_joined xs ys p.1 q)

  pub all_filtered : (test : X → Bool) (xs : List X) → AllByRecursion P xs → AllByRecursion P (filter test xs)
  all_filtered test [] p = tt
  all_filtered test (x ∷ xs) p = elim (test x) as (λ b. AllByRecursion P (if b then x ∷ filter test xs else filter test xs)) [ true ↦ (p.0, all_filtered test xs p.1) | false ↦ all_filtered test xs p.1 ]

  pub all_if : (test : Bool) (xs : List X) → AllByRecursion P xs → AllByRecursion P (if test then xs else [])
  all_if true xs p = p
  all_if false xs p = tt

  pub all_unless : (test : Bool) (xs : List X) → AllByRecursion P xs → AllByRecursion P (if test then [] else xs)
  all_unless true xs p = tt
  all_unless false xs p = p

all_flat : {X Y : Type 0} (P : Y → Type 0) (f : X → List Y) (xs : List X) → AllByRecursion (λ x. AllByRecursion P (f x)) xs → AllByRecursion P (flat_map f xs)
all_flat P f [] p = tt
all_flat P f (x ∷ xs) p = all_joined P (f x) (flat_map f xs) p.0 (all_flat P f xs p.1)

all_mapped : {X Y : Type 0} (P : Y → Type 0) (f : X → Y) (xs : List X) → ((x : X) → P (f x)) → AllByRecursion P (map f xs)
all_mapped P f [] p = tt
all_mapped P f (x ∷ xs) p = (p x, all_mapped P f xs p)

all_weaker : {X : Type 0} (P Q : X → Type 0) (xs : List X) → ((x : X) → P x → Q x) → AllByRecursion P xs → AllByRecursion Q xs
all_weaker P Q [] w p = tt
all_weaker P Q (x ∷ xs) w p = (w x p.0, all_weaker P Q xs w p.1)

-- what holds of all nodes with what is free on them
module _ (c : Config) (s : State) (P : Spot → Type 0) (all : AllByRecursion P (all_spots s)) where
  abbrev AreSpots : Ground → Type 0
  AreSpots there = AllByRecursion P there.spots

  ground-spots : (label : Label) → AreSpots (ground c s label)
  unfolding ground
  ground-spots label = all_filtered P (λ (there : Spot). same_label there.node.label label) (all_spots s) all

  guest-spots : (what : What) → AllByRecursion AreSpots (guest_grounds c s what)
  unfolding guest_grounds
  guest-spots what = all_filtered AreSpots has_nodes (map (ground c s) (guest_labels c what)) (all_mapped AreSpots (ground c s) (guest_labels c what) ground-spots)

  open-spots : (size : Resource) (there : Ground) → AreSpots there → AllByRecursion P (open_spots size there)
  open-spots size there p = all_unless P there.is_spent _ (all_filtered P (λ (spot : Spot). fits_in size spot.free) there.spots p)

  -- holds of those on which a request may be placed
  pub places-are : (app : Applicant) (request : Request) (passes : Bool) → AllByRecursion P (places app request passes (ground c s request.label) (guest_grounds c s request.what))
  unfolding places
  places-are app request passes =
      all_joined P _ _ (all_if P passes _ (open-spots request.size (ground c s request.label) (ground-spots request.label)))
      (all_if P app.runs _
      (all_flat P (open_spots request.size) (guest_grounds c s request.what)
      (all_weaker AreSpots (λ there. AllByRecursion P (open_spots request.size there)) (guest_grounds c s request.what) (open-spots request.size) (guest-spots request.what))))
