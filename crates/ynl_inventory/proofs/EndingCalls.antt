-- What a call knows that takes a container out, by its number.
use Rattle.std.proofs.Common.{◌≡◌, ◌<◌, ℕ, is_some, IsSome, IfSome, List, length, get_or, slice_get, Some, nat_eq, refl, sym, ap, subst, ◌∙◌}
use Rattle.std.specs.Map.{lookup}
use Rattle.std.proofs.lemmas.Option.{same_Some, slice_get_read, slice_get_within}
use Rattle.ynl_resource.specs.Amounts.{plus, IsSmall}
use Rattle.ynl_slots.specs.Slots.{IsLive}
use Rattle.ynl_slots.specs.declared.chain.Chain.{Chain}
use Rattle.ynl_tables.specs.declared.apps.app.AppRow.{AppRow as AppPart}
use Rattle.ynl_tables.specs.apps.Chains.{chain_of}
use Rattle.ynl_tables.specs.declared.nodes.nodes.NodeRow.{NodeRow as NodePart}
use Rattle.ynl_tables.specs.declared.containers.container.Container.{Container}
use Rattle.ynl_tables.specs.containers.Chains.{IsNodeChain, IsAppChain}
use Rattle.ynl_tables.proofs.containers.Removing.{at_live}
use Rattle.ynl_inventory.specs.declared.partition.Partition.{Partition}
use Rattle.ynl_inventory.specs.declared.inventory.Inventory.TheInside.{Inside}
use Rattle.ynl_inventory.specs.Parts.{Held, held_of, held_at, IsInventory}
use Rattle.ynl_inventory.proofs.Lookups.{live-found}
use Rattle.ynl_inventory.proofs.EndingParts.{held-part, node-there, app-there, node-chain, small, app-chain, place}

module _ (a : Inside) (h : Held) (p number : ℕ) (view : held_of a ≡ h) (required : IsSome (held_at h.rows p number)) (items : List Partition) (items-are : items ≡ a.partitions.items)
    (held : Container) (told : IfSome (slice_get items p) (λ part. lookup (nat_eq number) part.containers.entries ≡ Some held)) where
  pub its : (part : Partition) × (c : Container) × (slice_get a.partitions.items p ≡ Some part) × (lookup (nat_eq number) part.containers.entries ≡ Some c)
  its = held-part a p number (subst (λ (h : Held). IsSome (held_at h.rows p number)) (sym view) required)

  -- the partition is there
  pub has : p < length a.partitions.items
  has = slice_get_within a.partitions.items p its.0 its.2

  pub there-of : (part : Partition) → part ≡ get_or a.partitions.items p part → slice_get a.partitions.items p ≡ Some part
  there-of part read = slice_get_read a.partitions.items (length a.partitions.items) p part refl has read

  -- and in it the container
  pub found-in : (part : Partition) → slice_get a.partitions.items p ≡ Some part → lookup (nat_eq number) part.containers.entries ≡ Some held
  found-in part there = at_live (λ (part : Partition). lookup (nat_eq number) part.containers.entries ≡ Some held) (slice_get items p) part told (ap (λ xs. slice_get xs p) items-are ∙ there)

  module _ (inv : IsInventory a) where
    pub node-live : IsLive held.node a.nodes.entries
    node-live = node-there a inv p number its.0 its.2 held (found-in its.0 its.2)

    pub app-live : IsLive held.app a.apps.entries
    app-live = app-there a inv p number its.0 its.2 held (found-in its.0 its.2)

    pub chain-there : IfSome (lookup (nat_eq held.app) a.apps.entries) (λ r. IsLive p r.chains)
    chain-there =
        let own = live-found held.app a.apps.entries app-live in
        subst (λ o. IfSome o (λ (r : AppPart). IsLive p r.chains)) (sym own.1) (place a inv p number its.0 its.2 held (found-in its.0 its.2) own.0 own.1)

    module _ (row : NodePart) (at : lookup (nat_eq held.node) a.nodes.entries ≡ Some row) where
      pub small-there : IfSome (lookup (nat_eq held.node) a.nodes.entries) (λ r. IsSmall (plus r.free held.size))
      small-there = subst (λ o. IfSome o (λ (r : NodePart). IsSmall (plus r.free held.size))) (sym at) (small a inv p number its.0 its.2 held (found-in its.0 its.2) row at)

      module _ (part : Partition) (read : part ≡ get_or a.partitions.items p part) where
        pub live : IsLive number part.containers.entries
        live = ap is_some (found-in part (there-of part read))

        pub of_node : IfSome (lookup (nat_eq number) part.containers.entries) (λ c. IsNodeChain part.containers row.containers c.node)
        of_node =
            subst (λ o. IfSome o (λ (c : Container). IsNodeChain part.containers row.containers c.node)) (sym (found-in part (there-of part read)))
            (node-chain a inv p number part (there-of part read) held (found-in part (there-of part read)) row at)

        pub of_app : (chain : Chain) → IfSome (lookup (nat_eq held.app) a.apps.entries) (λ r. chain ≡ chain_of p r.chains)
            → IfSome (lookup (nat_eq number) part.containers.entries) (λ c. IsAppChain part.containers chain c.app)
        of_app chain is =
            let own = live-found held.app a.apps.entries app-live in
            subst (λ o. IfSome o (λ (c : Container). IsAppChain part.containers chain c.app)) (sym (found-in part (there-of part read)))
            (subst (λ chain. IsAppChain part.containers chain held.app) (sym (at_live (λ (r : AppPart). chain ≡ chain_of p r.chains) (lookup (nat_eq held.app) a.apps.entries) own.0 is own.1))
            (app-chain a inv p number part (there-of part read) held (found-in part (there-of part read)) own.0 own.1))

        -- what ended is what was held
        pub same : (ended : Container) → lookup (nat_eq number) part.containers.entries ≡ Some ended → ended ≡ held
        same ended is = same_Some ended held (sym is ∙ found-in part (there-of part read))
