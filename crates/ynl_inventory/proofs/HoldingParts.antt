-- A container comes to a partition: how the parts go together after.
use Rattle.std.proofs.Common.{◌≡◌, ◌≢◌, ℕ, Bool, true, false, cond, find, IfSome, [], ◌∷◌, ◌++◌, slice_get, Some, None, option_map, nat_eq, refl, sym, ap, subst, ◌∙◌}
use Rattle.std.specs.Prelude.{slice_set}
use Rattle.std.specs.List.{AllByRecursion}
use Rattle.std.specs.Map.{lookup}
use Rattle.ynl_resource.specs.Amounts.{nothing, plus, less, fits_in}
use Rattle.ynl_slots.specs.Slots.{IsLive, IsUnused, with_row}
use Rattle.ynl_slots.specs.declared.chain.Chain.{Chain}
use Rattle.ynl_slots.proofs.Entries.{itself, other}
use Rattle.ynl_tables.specs.declared.nodes.nodes.NodeRow.{NodeRow as NodePart}
use Rattle.ynl_tables.specs.declared.apps.app.AppRow.{AppRow as AppPart}
use Rattle.ynl_tables.specs.apps.Apps.{with_change}
use Rattle.ynl_tables.specs.apps.Chains.{chain_of}
use Rattle.ynl_tables.specs.declared.containers.container.Container.{Container}
use Rattle.ynl_tables.specs.declared.containers.container.Role.{Role}
use Rattle.ynl_tables.specs.containers.Table.{Table}
use Rattle.ynl_tables.specs.containers.Chains.{IsNodeChain, IsAppChain, KeepsNodes, KeepsApps}
use Rattle.ynl_tables.proofs.containers.Removing.{at_live}
use Rattle.ynl_inventory.specs.declared.partition.Placement.{Placement}
use Rattle.ynl_inventory.specs.declared.partition.Partition.{Partition}
use Rattle.ynl_inventory.specs.declared.inventory.Inventory.TheInside.{Inside}
use Rattle.ynl_inventory.specs.Apps.{is_master_role, is_master_of, master_in}
use Rattle.ynl_inventory.specs.Parts.{placed_on, used_of, AreLinked, IsInventory}
use Rattle.ynl_inventory.proofs.Masters.{not-own, no-master, master-stays, master-comes}
use Rattle.ynl_inventory.proofs.Used.{fits-left, less-twice, used-push, nothing-plus}
use Rattle.ynl_inventory.proofs.PartLists.{chain-other, live-row}
use Rattle.ynl_inventory.proofs.PartsChange.{IsRight, IsTouched, more-places, still-linked}
use Rattle.ynl_inventory.proofs.Lookups.{changed-same}

-- what `Partition::hold` leaves, whatever the partition's clock is after
pub record IsHeld (placed : Placement) (clock number : ℕ) (old new : Partition) (of_node of_app : Chain) : Type 0 where
  pub label : new.label ≡ old.label
  pub limit : new.limit ≡ old.limit
  pub guests : new.guests ≡ old.guests
  pub entries : new.containers.entries ≡ old.containers.entries ++ (number, placed_on placed clock) ∷ []
  pub unused : IsUnused number old.containers.entries
  pub node_chain : IsNodeChain new.containers of_node placed.node
  pub app_chain : IsAppChain new.containers of_app placed.app
  pub nodes : KeepsNodes placed.node old.containers new.containers
  pub apps : KeepsApps placed.app old.containers new.containers

-- so it is with a partition in which room was reserved first
pub held-reserved : (placed : Placement) (clock number : ℕ) (old reserved new : Partition) (of_node of_app : Chain) → reserved ≡ record old { containers = reserved.containers }
    → reserved.containers ≡ record old.containers { room = reserved.containers.room } → IsHeld placed clock number reserved new of_node of_app → IsHeld placed clock number old new of_node of_app
held-reserved placed clock number old reserved new of_node of_app own same held = record {
  label = held.label ∙ ap (λ (x : Partition). x.label) own;
  limit = held.limit ∙ ap (λ (x : Partition). x.limit) own;
  guests = held.guests ∙ ap (λ (x : Partition). x.guests) own;
  entries = held.entries ∙ ap (λ (t : Table). t.entries ++ (number, placed_on placed clock) ∷ []) same;
  unused = subst (λ (t : Table). IsUnused number t.entries) same held.unused;
  node_chain = held.node_chain;
  app_chain = held.app_chain;
  nodes = subst (λ (t : Table). KeepsNodes placed.node t new.containers) same held.nodes;
  apps = subst (λ (t : Table). KeepsApps placed.app t new.containers) same held.apps;
}

-- what a change makes of an application that has one more container of this role
pub record IsOwning (r : Role) (number p : ℕ) (chain : Chain) (change : AppPart → AppPart) : Type 1 where
  pub home : (part : AppPart) → (change part).home ≡ part.home
  pub chains : (part : AppPart) → (change part).chains ≡ with_row p chain part.chains
  pub master : is_master_role r ≡ true → (part : AppPart) → (change part).master ≡ Some number
  pub other : is_master_role r ≡ false → (part : AppPart) → (change part).master ≡ part.master
  pub asks : (P : ℕ → Type 0) (part : AppPart) → AllByRecursion (λ ask. P ask.partition) part.asks → AllByRecursion (λ ask. P ask.partition) (change part).asks

module _ (a : Inside) (inv : IsInventory a) (placed : Placement) (row : NodePart) (at : lookup (nat_eq placed.node) a.nodes.entries ≡ Some row)
    (part : Partition) (there : slice_get a.partitions.items row.partition ≡ Some part) (free : fits_in placed.size row.free ≡ true)
    (home : is_master_role placed.role ≡ true → (r : AppPart) → lookup (nat_eq placed.app) a.apps.entries ≡ Some r → r.home ≡ row.partition)
    (none : is_master_role placed.role ≡ true → find (is_master_of placed.app) part.containers.entries ≡ None)
    (clock number : ℕ) (new : Partition) (of_node of_app : Chain) (is : IsHeld placed clock number part new of_node of_app)
    (stamp : ℕ) (change : AppPart → AppPart) (owning : IsOwning placed.role number row.partition of_app change)
    (chained : IfSome (lookup (nat_eq placed.app) (with_change placed.app change a.apps.entries)) (λ r. chain_of row.partition r.chains ≡ of_app)) where
  abbrev used_one : NodePart → NodePart
  used_one r = record r { containers = of_node; stamp = stamp; free = less r.free placed.size }

  abbrev container : Container
  container = placed_on placed clock

  used-is : (n : ℕ) → used_of new.containers.entries n ≡ plus (used_of part.containers.entries n) (cond (nat_eq placed.node n) placed.size nothing)
  used-is n = ap (λ es. used_of es n) is.entries ∙ used-push n number container part.containers.entries

  own-right : IsRight placed.node (used_one row) new
  own-right = record {
    chain = is.node_chain;
    free =
        ap (λ free. less free placed.size) (inv.linked.free placed.node row part at there)
        ∙ less-twice row.size (used_of part.containers.entries placed.node) placed.size
        ∙ ap (less row.size) (sym own-used);
    fits =
        ap (λ used. fits_in used row.size) own-used
        ∙ fits-left (used_of part.containers.entries placed.node) placed.size row.size (inv.linked.fits placed.node row part at there)
        (ap (fits_in placed.size) (sym (inv.linked.free placed.node row part at there)) ∙ free);
  }
    where
      own-used : used_of new.containers.entries placed.node ≡ plus (used_of part.containers.entries placed.node) placed.size
      own-used = used-is placed.node ∙ ap (λ b. plus (used_of part.containers.entries placed.node) (cond b placed.size nothing)) (itself placed.node)

  others-use : (n : ℕ) → n ≢ placed.node → used_of new.containers.entries n ≡ used_of part.containers.entries n
  others-use n apart =
      used-is n ∙ ap (λ b. plus (used_of part.containers.entries n) (cond b placed.size nothing)) (other placed.node n (λ same. apart (sym same)))
      ∙ nothing-plus (used_of part.containers.entries n)

  -- the masters of other applications stay
  masters : (n : ℕ) → n ≢ placed.app → master_in n new.containers.entries ≡ master_in n part.containers.entries
  masters n apart =
      ap (master_in n) is.entries ∙ master-stays number container part.containers.entries n (not-own n number container (λ same. apart (sym same)))

  -- its own is the container, or stays
  own-master : (r : AppPart) → lookup (nat_eq placed.app) a.apps.entries ≡ Some r → r.home ≡ row.partition → (change r).master ≡ master_in placed.app new.containers.entries
  own-master r found stands = go (is_master_role placed.role) refl
    where
      go : (b : Bool) → is_master_role placed.role ≡ b → (change r).master ≡ master_in placed.app new.containers.entries
      go true master = owning.master master r ∙ sym (ap (master_in placed.app) is.entries ∙ master-comes number container part.containers.entries master (none master))
      go false fails =
          owning.other fails r ∙ inv.linked.master placed.app r part found (ap (slice_get a.partitions.items) stands ∙ there)
          ∙ sym (ap (master_in placed.app) is.entries ∙ master-stays number container part.containers.entries placed.app (no-master placed.app number container fails))

  away : (r : AppPart) → lookup (nat_eq placed.app) a.apps.entries ≡ Some r → r.home ≢ row.partition → (change r).master ≡ r.master
  away r found apart = go (is_master_role placed.role) refl
    where
      go : (b : Bool) → is_master_role placed.role ≡ b → (change r).master ≡ r.master
      go true master = absurd (apart (home master r found))
      go false fails = owning.other fails r

  touched : (r : AppPart) → lookup (nat_eq placed.app) a.apps.entries ≡ Some r → IsTouched row.partition placed.app new change r
  touched r found = record {
    chain =
        subst (λ chain. IsAppChain new.containers chain placed.app)
        (sym
        (at_live (λ (r : AppPart). chain_of row.partition r.chains ≡ of_app) (lookup (nat_eq placed.app) (with_change placed.app change a.apps.entries)) (change r) chained
        (changed-same placed.app change a.apps.entries ∙ ap (option_map change) found)))
        is.app_chain;
    others = λ q apart. ap (chain_of q) (owning.chains r) ∙ chain-other row.partition q of_app r.chains apart;
    home = owning.home r;
    master = own-master r found;
    away = away r found;
    places = λ partitions.
        more-places partitions r (change r) (owning.home r)
        (λ q live. subst (IsLive q) (sym (owning.chains r)) (live-row q row.partition of_app r.chains live))
        (λ P each. owning.asks P r each);
  }

  -- the parts go together
  pub held-linked : AreLinked (slice_set a.partitions.items row.partition new) (with_change placed.node used_one a.nodes.entries) (with_change placed.app change a.apps.entries)
  held-linked =
      still-linked a.partitions.items a.nodes.entries a.apps.entries inv.linked row.partition part new there is.guests placed.node row at refl used_one (λ r. refl) (λ r. refl) own-right others-use placed.app
      change touched masters is.nodes is.apps
