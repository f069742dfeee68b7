-- A container ends: what the parts give before, and how they go together after.
use Rattle.std.proofs.Common.{◌≡◌, ◌≢◌, ℕ, true, false, cond, is_some, IsSome, List, [], ◌∷◌, map, slice_get, Option, Some, None, option_map, nat_eq, refl, sym, ap, subst, ◌∙◌}
use Rattle.std.specs.Prelude.{slice_set, unwrap_or}
use Rattle.std.specs.List.{AllByRecursion}
use Rattle.std.specs.Map.{lookup}
use Rattle.std.specs.Option.{option_map_or, option_and_then}
use Rattle.std.proofs.lemmas.Option.{none-some, same_Some, slice_get-map}
use Rattle.ynl_resource.specs.Amounts.{nothing, plus, less, fits_in, IsSmall}
use Rattle.ynl_model.specs.Nodes.{rises}
use Rattle.ynl_slots.specs.Slots.{Numbered, HasDistinctNumbers, IsLive, with_row, without}
use Rattle.ynl_slots.specs.declared.chain.Chain.{Chain}
use Rattle.ynl_slots.specs.Chain.{first_or}
use Rattle.ynl_slots.proofs.Entries.{itself, other}
use Rattle.ynl_tables.specs.declared.nodes.nodes.NodeRow.{NodeRow as NodePart}
use Rattle.ynl_tables.specs.declared.apps.app.AppRow.{AppRow as AppPart}
use Rattle.ynl_tables.specs.apps.Apps.{with_change, with_app}
use Rattle.ynl_tables.specs.apps.Chains.{chain_of, no_chain}
use Rattle.ynl_tables.specs.declared.containers.container.Container.{Container}
use Rattle.ynl_tables.specs.declared.containers.container.Role.{Role}
use Rattle.ynl_tables.specs.declared.containers.container.Role.TheVariants.{Master, Ask as Asked}
use Rattle.ynl_tables.specs.containers.Chains.{numbers_of, IsNodeChain, IsAppChain, KeepsNodes, KeepsApps}
use Rattle.ynl_tables.specs.containers.Fields.{of_rows}
use Rattle.ynl_tables.proofs.containers.Numbers.{none_from_numbers}
use Rattle.ynl_tables.proofs.containers.Removing.{at_live}
use Rattle.ynl_tables.proofs.containers.Rows.{lookup-of_rows}
use Rattle.ynl_inventory.specs.declared.partition.Partition.{Partition}
use Rattle.ynl_inventory.specs.declared.inventory.Inventory.TheInside.{Inside}
use Rattle.ynl_inventory.specs.Rows.{Rows, PartitionRow, NodeRow, AppRow}
use Rattle.ynl_inventory.specs.Changes.{with_at, ticked, next_clock, next_clock_at, with_ended}
use Rattle.ynl_inventory.specs.Apps.{is_master_role, master_in}
use Rattle.ynl_inventory.specs.Sound.{IsRole, IsSound, IsPartition, IsContainer}
use Rattle.ynl_inventory.specs.Parts.{held_of, partition_row, node_row, app_row, released_part, held_at, used_of, AreLinked, IsInventory}
use Rattle.ynl_inventory.proofs.Lookups.{live-found}
use Rattle.ynl_inventory.proofs.Updates.{at-number}
use Rattle.ynl_inventory.proofs.Masters.{not-own, no-master, master-left, master-goes}
use Rattle.ynl_inventory.proofs.Ending.{ended-sound}
use Rattle.ynl_inventory.proofs.Used.{used-without, nothing-plus, given-back, fits-less, small-back}
use Rattle.ynl_inventory.proofs.PartLists.{unmapped, map-set, of_rows-changed, of_rows-kept, chain-same, chain-other, live-row}
use Rattle.ynl_inventory.proofs.PartsChange.{IsRight, IsTouched, more-places, still-linked}

-- an application that has a container has a place for its chain
chain-place : (a : Inside) (app p : ℕ) (entries : List (ℕ × Container)) (chains : List (ℕ × Chain)) (number : ℕ) (held : Container) → lookup (nat_eq number) entries ≡ Some held → held.app ≡ app
    → (chain_of p chains).first ≡ first_or None (numbers_of (λ (c : Container). c.app) app entries) → IsLive p chains
chain-place a app p entries chains number held found own first = by (lookup (nat_eq p) chains) refl
  where
    none : (numbers : List ℕ) → None ≡ first_or None numbers → numbers ≡ []
    none [] h = refl
    none (n ∷ numbers) h = absurd (none-some n h)

    by : (o : Option Chain) → lookup (nat_eq p) chains ≡ o → IsSome (lookup (nat_eq p) chains)
    by (Some chain) is = ap is_some is
    by None is =
        let empty : numbers_of (λ (c : Container). c.app) app entries ≡ [] =
        none (numbers_of (λ (c : Container). c.app) app entries) (sym (ap (λ (o : Option Chain). (unwrap_or o no_chain).first) is) ∙ first)
        in
        absurd (at-number (λ n (c : Container). c.app ≢ app) entries number held (none_from_numbers (λ (c : Container). c.app) app entries empty) found own)

-- the partition and the container of a number
pub held-part : (a : Inside) (p number : ℕ) → IsSome (held_at (held_of a).rows p number) → (part : Partition) × (held : Container) × (slice_get a.partitions.items p ≡ Some part) × (lookup (nat_eq number) part.containers.entries ≡ Some held)
held-part a p number some = by (slice_get a.partitions.items p) refl
  where
    by : (o : Option Partition) → slice_get a.partitions.items p ≡ o
        → (part : Partition) × (held : Container) × (slice_get a.partitions.items p ≡ Some part) × (lookup (nat_eq number) part.containers.entries ≡ Some held)
    by None is =
        absurd
        (none-is-none
        (ap is_some (sym (ap (option_and_then (λ (r : PartitionRow). lookup (nat_eq number) r.containers)) (slice_get-map partition_row a.partitions.items p ∙ ap (option_map partition_row) is))) ∙ some))
      where
        none-is-none : false ≡ true → ⊥
        none-is-none h = absurd (cc h)
    by (Some part) is =
        let live : IsLive number part.containers.entries =
        ap is_some (sym (ap (option_and_then (λ (r : PartitionRow). lookup (nat_eq number) r.containers)) (slice_get-map partition_row a.partitions.items p ∙ ap (option_map partition_row) is))) ∙ some
        in
        let held = live-found number part.containers.entries live in (part, held.0, is, held.1)

-- ---- before

module _ (a : Inside) (inv : IsInventory a) (p number : ℕ) (part : Partition) (there : slice_get a.partitions.items p ≡ Some part) (held : Container) (found : lookup (nat_eq number) part.containers.entries ≡ Some held) where
  abbrev v : Rows
  v = (held_of a).rows

  pub row-there : slice_get v.partitions p ≡ Some (partition_row part)
  row-there = slice_get-map partition_row a.partitions.items p ∙ ap (option_map partition_row) there

  is-partition : IsPartition v p (partition_row part)
  is-partition = inv.sound.partitions p (partition_row part) row-there

  on : IsContainer v p part.clock held
  on = is-partition.each number held found

  -- its node and its application are there
  pub node-there : IsLive held.node a.nodes.entries
  node-there = ap is_some (unmapped node_row (lookup (nat_eq held.node) a.nodes.entries) on.node (sym (lookup-of_rows node_row held.node a.nodes.entries) ∙ on.node_found)).1

  pub app-there : IsLive held.app a.apps.entries
  app-there =
      let row = live-found held.app v.apps on.app in
      ap is_some (unmapped app_row (lookup (nat_eq held.app) a.apps.entries) row.0 (sym (lookup-of_rows app_row held.app a.apps.entries) ∙ row.1)).1

  module _ (row : NodePart) (at : lookup (nat_eq held.node) a.nodes.entries ≡ Some row) where
    pub stands : row.partition ≡ p
    stands = ap (λ (r : NodeRow). r.partition) (same_Some (node_row row) on.node (sym (lookup-of_rows node_row held.node a.nodes.entries ∙ ap (option_map node_row) at) ∙ on.node_found)) ∙ on.node_there

    its-part : slice_get a.partitions.items row.partition ≡ Some part
    its-part = ap (slice_get a.partitions.items) stands ∙ there

    pub node-chain : IsNodeChain part.containers row.containers held.node
    node-chain = inv.linked.node held.node row part at its-part

    used-with : used_of part.containers.entries held.node ≡ plus (used_of (without number part.containers.entries) held.node) held.size
    used-with =
        used-without held.node number held part.containers.entries is-partition.numbers found
        ∙ ap (λ b. plus (used_of (without number part.containers.entries) held.node) (cond b held.size nothing)) (itself held.node)

    fit : fits_in (plus (used_of (without number part.containers.entries) held.node) held.size) row.size ≡ true
    fit = ap (λ u. fits_in u row.size) (sym used-with) ∙ inv.linked.fits held.node row part at its-part

    free : row.free ≡ less row.size (plus (used_of (without number part.containers.entries) held.node) held.size)
    free = inv.linked.free held.node row part at its-part ∙ ap (less row.size) used-with

    -- what is given back is small
    pub small : IsSmall (plus row.free held.size)
    small = subst (λ f. IsSmall (plus f held.size)) (sym free) (small-back row.size (used_of (without number part.containers.entries) held.node) held.size fit (inv.linked.small held.node row at))

  module _ (arow : AppPart) (app-at : lookup (nat_eq held.app) a.apps.entries ≡ Some arow) where
    pub app-chain : IsAppChain part.containers (chain_of p arow.chains) held.app
    app-chain = inv.linked.app held.app arow p part app-at there

    pub place : IsLive p arow.chains
    place = chain-place a held.app p part.containers.entries arow.chains number held found refl app-chain.first

-- the container that was found is that of the number
pub held-is : (a : Inside) (p number : ℕ) (part : Partition) (held : Container) → slice_get a.partitions.items p ≡ Some part → lookup (nat_eq number) part.containers.entries ≡ Some held
    → held_at (held_of a).rows p number ≡ Some held
held-is a p number part held there found =
    ap (option_and_then (λ (r : PartitionRow). lookup (nat_eq number) r.containers)) (slice_get-map partition_row a.partitions.items p ∙ ap (option_map partition_row) there) ∙ found

-- ---- after

-- a container is out of its partition
pub record IsOut (number : ℕ) (held : Container) (old new : Partition) (of_node of_app : Chain) : Type 0 where
  pub guests : new.guests ≡ old.guests
  pub entries : new.containers.entries ≡ without number old.containers.entries
  pub node_chain : IsNodeChain new.containers of_node held.node
  pub app_chain : IsAppChain new.containers of_app held.app
  pub nodes : KeepsNodes held.node old.containers new.containers
  pub apps : KeepsApps held.app old.containers new.containers

-- what `Partition::end` leaves
pub record IsEnded (number : ℕ) (held : Container) (old new : Partition) (of_node of_app : Chain) : Type 0 where
  pub label : new.label ≡ old.label
  pub limit : new.limit ≡ old.limit
  pub clock : new.clock ≡ rises old.limit old.clock
  pub out : IsOut number held old new of_node of_app

-- an application's row stays, and its chains
released-row : (r : Role) (chains : List (ℕ × Chain) → List (ℕ × Chain)) (part : AppPart) → app_row (released_part r (record part { chains = chains part.chains })) ≡ app_row part
released-row Master chains part = refl
released-row (Asked p priority) chains part = refl

released-asks : (P : ℕ → Type 0) (r : Role) (part : AppPart) → AllByRecursion (λ ask. P ask.partition) part.asks → AllByRecursion (λ ask. P ask.partition) (released_part r part).asks
released-asks P Master part each = each
released-asks P (Asked p priority) part each = each

released-home : (r : Role) (part : AppPart) → (released_part r part).home ≡ part.home
released-home Master part = refl
released-home (Asked p priority) part = refl

released-chains : (r : Role) (part : AppPart) → (released_part r part).chains ≡ part.chains
released-chains Master part = refl
released-chains (Asked p priority) part = refl

module _ (a : Inside) (inv : IsInventory a) (p number : ℕ) (part : Partition) (there : slice_get a.partitions.items p ≡ Some part) (held : Container) (found : lookup (nat_eq number) part.containers.entries ≡ Some held)
    (row : NodePart) (at : lookup (nat_eq held.node) a.nodes.entries ≡ Some row) (new : Partition) (of_node of_app : Chain) (is : IsOut number held part new of_node of_app) (stamp : ℕ)
    (nodes' : List (ℕ × NodePart)) (apps' : Numbered AppPart)
    (nodes-are : nodes' ≡ with_change held.node (λ r. record r { containers = of_node; stamp = stamp; free = plus r.free held.size }) a.nodes.entries)
    (apps-are : apps' ≡ with_app held.app (λ r. released_part held.role (record r { chains = with_row p of_app r.chains })) a.apps) where
  abbrev freed_one : NodePart → NodePart
  freed_one r = record r { containers = of_node; stamp = stamp; free = plus r.free held.size }

  abbrev released_one : AppPart → AppPart
  released_one r = released_part held.role (record r { chains = with_row p of_app r.chains })

  -- the rows of applications stay
  pub out-apps : of_rows app_row apps'.entries ≡ of_rows app_row a.apps.entries
  out-apps =
      ap (λ (apps : Numbered AppPart). of_rows app_row apps.entries) apps-are
      ∙ of_rows-kept app_row released_one held.app a.apps.entries (λ r. released-row held.role (with_row p of_app) r)

  -- those of the nodes have the stamp
  pub out-nodes : of_rows node_row nodes' ≡ with_change held.node (λ r. record r { stamp = stamp }) (of_rows node_row a.nodes.entries)
  out-nodes = ap (of_rows node_row) nodes-are ∙ of_rows-changed node_row freed_one (λ r. record r { stamp = stamp }) held.node a.nodes.entries (λ r. refl)

  own-right : IsRight held.node (freed_one row) new
  own-right = record {
    chain = is.node_chain;
    free =
        ap (λ f. plus f held.size) (free a inv p number part there held found row at)
        ∙ given-back row.size (used_of (without number part.containers.entries) held.node) held.size (fit a inv p number part there held found row at)
        ∙ ap (less row.size) (sym (ap (λ es. used_of es held.node) is.entries));
    fits =
        ap (λ es. fits_in (used_of es held.node) row.size) is.entries
        ∙ fits-less row.size (used_of (without number part.containers.entries) held.node) held.size (fit a inv p number part there held found row at);
  }

  others-use : (n : ℕ) → n ≢ held.node → used_of new.containers.entries n ≡ used_of part.containers.entries n
  others-use n apart =
      ap (λ es. used_of es n) is.entries
      ∙ sym
      (used-without n number held part.containers.entries (is-partition a inv p number part there held found).numbers found
      ∙ ap (λ b. plus (used_of (without number part.containers.entries) n) (cond b held.size nothing)) (other held.node n (λ same. apart (sym same)))
      ∙ nothing-plus (used_of (without number part.containers.entries) n))

  distinct : HasDistinctNumbers part.containers.entries
  distinct = (is-partition a inv p number part there held found).numbers

  -- the masters of other applications stay
  masters : (n : ℕ) → n ≢ held.app → master_in n new.containers.entries ≡ master_in n part.containers.entries
  masters n apart = ap (master_in n) is.entries ∙ master-left number held part.containers.entries distinct found n (not-own n number held (λ same. apart (sym same)))

  -- its own goes, if it was the container
  own-master : (r : AppPart) → lookup (nat_eq held.app) a.apps.entries ≡ Some r → r.home ≡ p → (released_one r).master ≡ master_in held.app new.containers.entries
  own-master r its home = go held.role refl
    where
      go : (s : Role) → held.role ≡ s → (released_part s (record r { chains = with_row p of_app r.chains })).master ≡ master_in held.app new.containers.entries
      go Master role =
          sym
          (ap (master_in held.app) is.entries
          ∙ master-goes number held part.containers.entries distinct found (ap is_master_role role) (is-partition a inv p number part there held found).masters)
      go (Asked q priority) role =
          inv.linked.master held.app r part its (ap (slice_get a.partitions.items) home ∙ there)
          ∙ sym (ap (master_in held.app) is.entries ∙ master-left number held part.containers.entries distinct found held.app (no-master held.app number held (ap is_master_role role)))

  away : (r : AppPart) → lookup (nat_eq held.app) a.apps.entries ≡ Some r → r.home ≢ p → (released_one r).master ≡ r.master
  away r its apart = go held.role (on a inv p number part there held found).role
    where
      go : (s : Role) → IsRole (held_of a).rows p held.app s → (released_part s (record r { chains = with_row p of_app r.chains })).master ≡ r.master
      go Master home =
          absurd
          (apart
          (at_live (λ (row : AppRow). row.home ≡ p) (lookup (nat_eq held.app) (held_of a).rows.apps) (app_row r) home
          (lookup-of_rows app_row held.app a.apps.entries ∙ ap (option_map app_row) its)))
      go (Asked q priority) home = refl

  touched : (r : AppPart) → lookup (nat_eq held.app) a.apps.entries ≡ Some r → IsTouched p held.app new released_one r
  touched r its = record {
    chain =
        subst (λ chain. IsAppChain new.containers chain held.app)
        (sym (ap (chain_of p) (released-chains held.role (record r { chains = with_row p of_app r.chains })) ∙ chain-same p of_app r.chains (place a inv p number part there held found r its)))
        is.app_chain;
    others = λ q apart. ap (chain_of q) (released-chains held.role (record r { chains = with_row p of_app r.chains })) ∙ chain-other p q of_app r.chains apart;
    home = released-home held.role (record r { chains = with_row p of_app r.chains });
    master = own-master r its;
    away = away r its;
    places = λ partitions.
        more-places partitions r (released_one r) (released-home held.role (record r { chains = with_row p of_app r.chains }))
        (λ q live. subst (IsLive q) (sym (released-chains held.role (record r { chains = with_row p of_app r.chains }))) (live-row q p of_app r.chains live))
        (λ P each. released-asks P held.role (record r { chains = with_row p of_app r.chains }) each);
  }

  -- and the parts go together
  pub out-linked : AreLinked (slice_set a.partitions.items p new) nodes' apps'.entries
  out-linked =
      subst (λ (apps : Numbered AppPart). AreLinked (slice_set a.partitions.items p new) nodes' apps.entries) (sym apps-are)
      (subst (λ nodes. AreLinked (slice_set a.partitions.items p new) nodes (with_change held.app released_one a.apps.entries)) (sym nodes-are)
      (still-linked a.partitions.items a.nodes.entries a.apps.entries inv.linked p part new there is.guests held.node row at (stands a inv p number part there held found row at) freed_one (λ r. refl) (λ r. refl)
      own-right others-use held.app released_one touched masters is.nodes is.apps))

module _ (a : Inside) (inv : IsInventory a) (p number : ℕ) (part : Partition) (there : slice_get a.partitions.items p ≡ Some part) (held : Container) (found : lookup (nat_eq number) part.containers.entries ≡ Some held)
    (row : NodePart) (at : lookup (nat_eq held.node) a.nodes.entries ≡ Some row) (new : Partition) (of_node of_app : Chain) (is : IsEnded number held part new of_node of_app)
    (nodes' : List (ℕ × NodePart)) (apps' : Numbered AppPart)
    (nodes-are : nodes' ≡ with_change held.node (λ r. record r { containers = of_node; stamp = new.clock; free = plus r.free held.size }) a.nodes.entries)
    (apps-are : apps' ≡ with_app held.app (λ r. released_part held.role (record r { chains = with_row p of_app r.chains })) a.apps) where
  abbrev before : Rows
  before = (held_of a).rows

  clock-is : new.clock ≡ next_clock_at before.partitions p
  clock-is = is.clock ∙ sym (ap (λ o. option_map_or next_clock o 0) (row-there a inv p number part there held found))

  part-is : partition_row new ≡ ticked (without number) (partition_row part)
  part-is = λ i. record { label = is.label i; guests = is.out.guests i; limit = is.limit i; clock = is.clock i; containers = is.out.entries i }

  abbrev rows_after : Rows
  rows_after = record {
    paths = a.layout;
    partitions = map partition_row (slice_set a.partitions.items p new);
    nodes = of_rows node_row nodes';
    apps = of_rows app_row apps'.entries;
    tenants = before.tenants;
    users = a.users;
  }

  -- the rows are those without the container
  pub ended-rows : rows_after ≡ with_ended p number held.node before
  ended-rows = λ i. record { paths = a.layout; partitions = partitions i; nodes = nodes i; apps = apps i; tenants = before.tenants; users = a.users }
    where
      partitions : map partition_row (slice_set a.partitions.items p new) ≡ with_at p (ticked (without number)) before.partitions
      partitions = map-set partition_row (ticked (without number)) a.partitions.items p part new there part-is

      nodes : of_rows node_row nodes' ≡ with_change held.node (λ r. record r { stamp = next_clock_at before.partitions p }) before.nodes
      nodes =
          out-nodes a inv p number part there held found row at new of_node of_app is.out new.clock nodes' apps' nodes-are apps-are
          ∙ ap (λ t. with_change held.node (λ (r : NodeRow). record r { stamp = t }) before.nodes) clock-is

      apps : of_rows app_row apps'.entries ≡ before.apps
      apps = out-apps a inv p number part there held found row at new of_node of_app is.out new.clock nodes' apps' nodes-are apps-are

  -- they are sound
  pub ended-rows-sound : IsSound rows_after
  ended-rows-sound = subst IsSound (sym ended-rows) (ended-sound before inv.sound p (partition_row part) (row-there a inv p number part there held found) number held found)
