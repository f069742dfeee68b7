-- What is added request by request are the requests with their reasons.
use Rattle.std.proofs.Common.{◌≡◌, Bool, true, false, List, [], ◌∷◌, ◌++◌, map, refl, sym, ap, ap₂, ◌∙◌, if◌then◌else◌}
use Rattle.std.specs.Prelude.{flat_map}
use Rattle.std.proofs.lemmas.List.{map-append}
use Rattle.ynl_resource.specs.declared.labels.Label.{Label}
use Rattle.ynl_model.specs.Applications.{Application}
use Rattle.ynl_model.specs.Cluster.{State, runs}
use Rattle.ynl_model.specs.Events.{pending_on}
use Rattle.ynl_model.specs.Nodes.{partition_labels}
use Rattle.ynl_model.specs.Queues.{Config}
use Rattle.ynl_waits.specs.Waits.{applicant, ask_request, asks_under, master_request, requests, wait}
use Rattle.ynl_service.specs.reading.reasons.Facts.{asks_waiting, found_of, masters_waiting}

map-twice : {X Y Z : Type 0} (f : Y → Z) (g : X → Y) (xs : List X) → map (λ x. f (g x)) xs ≡ map f (map g xs)
map-twice f g [] = refl
map-twice f g (x ∷ xs) = ap (λ zs. f (g x) ∷ zs) (map-twice f g xs)

module _ (c : Config) (s : State) (live : Application) where
  asks-told : (labels : List Label) → flat_map (asks_waiting c s (applicant s live) live) labels ≡ map (wait c s (applicant s live)) (flat_map (asks_under live) labels)
  asks-told [] = refl
  asks-told (label ∷ labels) =
      ap₂ (λ xs ys. xs ++ ys) (map-twice (wait c s (applicant s live)) (ask_request label) (pending_on label live)) (asks-told labels)
      ∙ sym (map-append (wait c s (applicant s live)) (asks_under live label) (flat_map (asks_under live) labels))

  master-told : (running : Bool) → (if running then [] else wait c s (applicant s live) (master_request live) ∷ []) ≡ map (wait c s (applicant s live)) (if running then [] else master_request live ∷ [])
  master-told true = refl
  master-told false = refl

  pub all-told : masters_waiting c s (found_of s live) ++ flat_map (asks_waiting c s (applicant s live) live) (partition_labels c.labels) ≡ map (wait c s (applicant s live)) (requests c s live)
  unfolding requests
  all-told =
      ap₂ (λ xs ys. xs ++ ys) (master-told (runs s live)) (asks-told (partition_labels c.labels))
      ∙ sym (map-append (wait c s (applicant s live)) (if runs s live then [] else master_request live ∷ []) (flat_map (asks_under live) (partition_labels c.labels)))
