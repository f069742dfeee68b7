-- From a container its links lead to the next one of its node, and of its application.
use Rattle.std.proofs.Common.{◌≡◌, ◌<◌, ℕ, is_some, IsSome, IfSome, length, slice_get, Option, Some, nat_eq, sym, ap, subst, ◌∙◌}
use Rattle.std.specs.Map.{lookup}
use Rattle.std.proofs.lemmas.Option.{same_Some, slice_get_within}
use Rattle.ynl_slots.specs.Slots.{IsLive}
use Rattle.ynl_tables.specs.apps.Chains.{chain_of}
use Rattle.ynl_tables.specs.declared.containers.container.Container.{Container}
use Rattle.ynl_tables.specs.containers.Chains.{IsNext, IsNextOfNode, IsNextOfApp}
use Rattle.ynl_inventory.specs.declared.partition.Partition.{Partition}
use Rattle.ynl_inventory.specs.declared.inventory.Inventory.TheInside.{Inside}
use Rattle.ynl_inventory.specs.Parts.{Held, held_of, held_at, containers_of, IsInventory}
use Rattle.ynl_inventory.proofs.Lookups.{live-found}
use Rattle.ynl_inventory.proofs.EndingParts.{held-part, held-is, node-there, app-there, node-chain, app-chain}
use Rattle.ynl_inventory.proofs.ChainsRead.{containers-are}

module _ (a : Inside) (h : Held) (p number : ℕ) (view : held_of a ≡ h) (required : IsSome (held_at h.rows p number)) where
  its : (part : Partition) × (c : Container) × (slice_get a.partitions.items p ≡ Some part) × (lookup (nat_eq number) part.containers.entries ≡ Some c)
  its = held-part a p number (subst (λ (h : Held). IsSome (held_at h.rows p number)) (sym view) required)

  -- the partition is there
  pub partition-inside : p < length a.partitions.items
  partition-inside = slice_get_within a.partitions.items p its.0 its.2

  module _ (part : Partition) (there : slice_get a.partitions.items p ≡ Some part) where
    found : lookup (nat_eq number) part.containers.entries ≡ Some its.1
    found = ap (λ (x : Partition). lookup (nat_eq number) x.containers.entries) (same_Some part its.0 (sym there ∙ its.2)) ∙ its.3

    -- and in it the container
    pub number-live : IsLive number part.containers.entries
    number-live = ap is_some found

    module _ (inv : IsInventory a) (next : Option ℕ) where
      pub node-next : IsNextOfNode part.containers number next → IfSome (held_at h.rows p number) (λ c. IsNext (λ (x : Container). x.node) c.node (containers_of h.rows p) number next)
      node-next is =
          let row = live-found its.1.node a.nodes.entries (node-there a inv p number part there its.1 found) in
          subst (λ (h : Held). IfSome (held_at h.rows p number) (λ c. IsNext (λ (x : Container). x.node) c.node (containers_of h.rows p) number next)) view
          (subst (λ o. IfSome o (λ (c : Container). IsNext (λ (x : Container). x.node) c.node (containers_of (held_of a).rows p) number next)) (sym (held-is a p number part its.1 there found))
          (subst (λ es. IsNext (λ (x : Container). x.node) its.1.node es number next) (sym (containers-are a p part there))
          (is its.1 row.0.containers found (node-chain a inv p number part there its.1 found row.0 row.1))))

      pub app-next : IsNextOfApp part.containers number next → IfSome (held_at h.rows p number) (λ c. IsNext (λ (x : Container). x.app) c.app (containers_of h.rows p) number next)
      app-next is =
          let row = live-found its.1.app a.apps.entries (app-there a inv p number part there its.1 found) in
          subst (λ (h : Held). IfSome (held_at h.rows p number) (λ c. IsNext (λ (x : Container). x.app) c.app (containers_of h.rows p) number next)) view
          (subst (λ o. IfSome o (λ (c : Container). IsNext (λ (x : Container). x.app) c.app (containers_of (held_of a).rows p) number next)) (sym (held-is a p number part its.1 there found))
          (subst (λ es. IsNext (λ (x : Container). x.app) its.1.app es number next) (sym (containers-are a p part there))
          (is its.1 (chain_of p row.0.chains) found (app-chain a inv p number part there its.1 found row.0 row.1))))
