-- Who may stand where: which homes and asks an application has, and which containers a partition holds.
use Rattle.std.specs.Prelude.{◌≡◌, Bool, false, IsTrue, IsFalse, List, All, if◌then◌else◌}
use Rattle.std.specs.Option.{option_map_or}
use Rattle.ynl_resource.specs.declared.labels.Label.{Label}
use Rattle.ynl_model.specs.Queues.{Config, may_use}
use Rattle.ynl_model.specs.Applications.{Application, LeafApps, leaf_of, all_apps}
use Rattle.ynl_model.specs.declared.containers.Placed.{Placed as Container}
use Rattle.ynl_model.specs.Cluster.{containers_on, is_guest}
use Rattle.ynl_model.specs.Service.{takes_guests}
use Rattle.ynl_model.specs.Events.{is_foreign, state_after}
use Rattle.ynl_model.specs.declared.events.Event.{Event}

-- in each state each live application stands in the row of its leaf, whose tenant is its tenant
abbrev pub AreAppsInTheirLeaves : Type 0
AreAppsInTheirLeaves = (c : Config) (events : List Event) → All (λ (row : LeafApps). All (λ (app : Application). app.leaf ≡ row.leaf) row.apps) (state_after c events).leaves

-- in each state the leaf of each live application may use its home label
abbrev pub MayLeavesUseHomes : Type 0
MayLeavesUseHomes = (c : Config) (events : List Event) → All (λ (app : Application). IsTrue (may_use c app.leaf app.home)) (all_apps (state_after c events).leaves)

-- in each state what an application asks for is for its home label or for DEFAULT
abbrev pub AreAsksForHome : Type 0
AreAsksForHome = (c : Config) (events : List Event) → All (λ (app : Application). All (λ ask. IsFalse (is_foreign ask.label app)) app.asks) (all_apps (state_after c events).leaves)

-- whether a container may be where it is: a guest where guests may come, and any other where its leaf may use the partition
abbrev pub is_entitled : Config → List LeafApps → Container → Bool
is_entitled c leaves container =
    if is_guest container
    then takes_guests c container.id.label
    else option_map_or (λ leaf. may_use c leaf container.id.label) (leaf_of leaves container.tenant container.app) false

-- in each state each container may be where it is
abbrev pub AreAllEntitled : Type 0
AreAllEntitled = (c : Config) (events : List Event) (p : Label) → All (λ container. IsTrue (is_entitled c (state_after c events).leaves container)) (containers_on (state_after c events) p)
