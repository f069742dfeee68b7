-- The lines of the containers are read, partition by partition.
use Rattle.std.proofs.Common.{◌≡◌, ◌⊎◌, inl, inr, ◌≤◌, ◌<◌, ℕ, Bool, true, false, cond, not, ◌&&◌, ◌||◌, ◌==◌, List, [], ◌∷◌, ◌++◌, map, Option, Some, None, option_map, filter, find, fold, refl, sym, ap, subst, ◌∙◌, arith, append-nil}
use Rattle.std.specs.Prelude.{IsTrue, IfSome, flat_map, nat_lt}
use Rattle.std.specs.List.{AllByRecursion, list_any}
use Rattle.std.specs.Option.{option_map_or, option_and_then}
use Rattle.std.proofs.lemmas.Bool.{and_from, and_parts, or_left, or_right}
use Rattle.std.proofs.lemmas.Bool.Decides.{nat_tests}
use Rattle.std.proofs.lemmas.List.Elements.{filter-append}
use mathlib.Core.Bool.{true≢false}
use Rattle.ynl_resource.specs.Amounts.{fits_in, less, plus, total_of}
use Rattle.ynl_resource.specs.Names.{is_default, same_label, same_name, tenant_of}
use Rattle.ynl_resource.specs.declared.amounts.Resource.{Resource}
use Rattle.ynl_resource.specs.declared.labels.Label.{Label}
use Rattle.ynl_resource.specs.declared.names.Name.{Name}
use Rattle.ynl_model.specs.Accepted.{is_accepted}
use Rattle.ynl_model.specs.Applications.{Application, LeafApps, find_app, row_of}
use Rattle.ynl_model.specs.Cluster.{State, Partition, containers_on, free, in_partition, is_master, is_of, is_partition, node_of, runs, sizes}
use Rattle.ynl_model.specs.Nodes.{is_exclusive}
use Rattle.ynl_model.specs.Promises.{without_stamp}
use Rattle.ynl_model.specs.Queues.{Config}
use Rattle.ynl_model.specs.Service.{takes_guests}
use Rattle.ynl_model.specs.declared.containers.Placed.{Placed}
use Rattle.ynl_model.specs.declared.nodes.Node.{Node}
use Rattle.ynl_model.specs.declared.proposals.What.{What}
use Rattle.ynl_model.specs.declared.proposals.What.TheVariants.{Master, Ask as Asked}
use Rattle.ynl_model.specs.declared.nodes.Tracked.{Tracked}
use Rattle.ynl_saved.specs.declared.lines.StateLine.TheVariants.{Container}
use Rattle.ynl_saved.specs.Restoring.{may_have, may_stand}
use Rattle.ynl_laws.specs.Working.{IsHoused, Pairs, StandsOn, filled, on_in, places}
use Rattle.ynl_laws.proofs.Events.Found.{FindsAll, IsFound}
use Rattle.ynl_laws.proofs.Lists.{Each-both, Each-find, Each-found, Each-map, Each-split, Each-unmap, Each-weaker, Each-with, found-passes}
use Rattle.ynl_laws.proofs.Names.{same-label_path, same-label_self, same-name_self, same-name_sym}
use Rattle.ynl_laws.proofs.Soundness.Tracked.{tracked-is}
use Rattle.ynl_saved.proofs.Changing.{Base}
use Rattle.ynl_saved.proofs.Leaved.{found-name}
use Rattle.ynl_saved.proofs.Parts.{partitions-apart, settled}
use Rattle.ynl_saved.proofs.Rows.{find-in, one-done, pairs-before, pairs-behind, turned, update-in}
use Rattle.ynl_saved.proofs.Served.{same-number_self}
use Rattle.ynl_saved.proofs.Sound.{nat-le, off, reads-container}
use Rattle.ynl_saved.proofs.Stamps.{IsEarlier, Stamped}
use Rattle.ynl_saved.proofs.Suited.{May, Sole, Suited, Suits}
use Rattle.ynl_saved.proofs.Told.{Reads, Side, flat-ones, plain-section}
use Rattle.ynl_saved.proofs.Traits.{traits}

-- the application that a tenant finds is the tenant's
pub found-tenant : (leaves : List LeafApps) → FindsAll leaves → (tenant name : Name) (app : Application) → find_app leaves tenant name ≡ Some app → tenant_of app.leaf ≡ tenant
unfolding find_app
found-tenant leaves finds tenant name app e = go (row_of leaves tenant name) (Each-found _ _ leaves finds) (found-passes (λ row. same_name (tenant_of row.leaf) tenant && list_any (same_name name) row.names) leaves) e
  where
    go : (o : Option LeafApps) → IfSome o (λ row. AllByRecursion (IsFound leaves row) row.apps) → IfSome o (λ row. (same_name (tenant_of row.leaf) tenant && list_any (same_name name) row.names) ≡ true) →
        option_and_then (λ row. find (λ app. same_name app.name name) row.apps) o ≡ Some app → tenant_of app.leaf ≡ tenant
    go None k t e = cc
    go (Some row) k t e =
        let is : IsFound leaves row app = (Each-find (IsFound leaves row) (λ app. same_name app.name name) row.apps k app e).0 in
        ap tenant_of is.at ∙ same-name_sym (tenant_of row.leaf) tenant (and_parts (same_name (tenant_of row.leaf) tenant) _ t).0

-- sizes of two lists
total-both : {X : Type 0} (size : X → Resource) (xs ys : List X) → total_of size (xs ++ ys) ≡ plus (total_of size xs) (total_of size ys)
total-both size [] ys = grind (arith)
total-both size (x ∷ xs) ys = grind (arith, total-both size xs ys)

-- where all fits, one fits in what those before it leave
fits-left : (used one more size : Resource) → fits_in (plus used (plus one more)) size ≡ true → fits_in one (less size used) ≡ true
fits-left used one more size h = grind (arith, nat_tests, h)

-- the last number of a list whose numbers are below another
last-below : (n first : ℕ) (xs : List Placed) → first < n → AllByRecursion (λ (x : Placed). x.id.clock < n) xs → fold (λ (before : ℕ) (x : Placed). x.id.clock) first xs < n
last-below n first [] h all = h
last-below n first (x ∷ xs) h all = last-below n x.id.clock xs all.0 all.1

-- what is known of a container on a partition
record IsReady (c : Config) (s : State) (p : Label) (k : Placed) : Type 0 where
  early : 1 ≤ k.id.clock
  stands : StandsOn (places s) p k
  suits : Suits c s.leaves p k

module _ (c : Config) (accepted : IsTrue (is_accepted c)) (s : State) (base : Base c s) (stamped : Stamped c s) (suited : Suited c s) (housed : IsHoused s) (side : Side) (s3 : State) where
  -- the state with the partitions that are told
  abbrev at : List Partition → State
  at rows = record s3 { nodes = s.nodes; partitions = rows; leaves = s.leaves }

  module _ (done : List Partition) (row : Partition) (todo : List Partition) (e : done ++ row ∷ todo ≡ s.partitions) (is : find (is_partition row.label) s.partitions ≡ Some row) where
    -- the partition with the containers that are told
    abbrev partial : List Placed → Partition
    partial containers = record { label = row.label; clock = row.clock; containers = containers }

    -- all partitions with it
    abbrev rows_with : List Placed → List Partition
    rows_with containers = done ++ partial containers ∷ map settled todo

    -- the partitions before and behind it have other labels
    differ : Pairs (λ (a b : Partition). same_label a.label b.label ≡ false) (done ++ row ∷ todo)
    differ = let leaved = suited.leaved in subst (Pairs (λ (a b : Partition). same_label a.label b.label ≡ false)) (sym e) (partitions-apart c accepted s leaved.shaped base)

    -- those before it
    before : AllByRecursion (λ (other : Partition). same_label other.label row.label ≡ false) done
    before = pairs-before (λ (a b : Partition). same_label a.label b.label ≡ false) done row todo differ

    -- those behind it
    behind : AllByRecursion (λ (other : Partition). same_label other.label row.label ≡ false) (map settled todo)
    behind = Each-map (λ (other : Partition). same_label row.label other.label ≡ false) _ settled (λ other k. turned same_label same-label_path same-label_self row.label other.label k) todo (pairs-behind (λ (a b : Partition). same_label a.label b.label ≡ false) done row todo differ)

    -- the containers on the partition, in the state and as far as they are told
    all-on : on_in s.partitions row.label ≡ row.containers
    all-on = ap (λ o. option_map_or (λ (row : Partition). row.containers) o []) is

    -- the containers that are told are those on the partition so far
    told-on : (dk : List Placed) (label : Label) → label ≡ row.label → containers_on (at (rows_with dk)) label ≡ dk
    told-on dk label same = ap (containers_on (at (rows_with dk))) same ∙ ap (λ o. option_map_or (λ (row : Partition). row.containers) o []) (find-in (is_partition row.label) done (partial dk) (map settled todo) before (same-label_self row.label))

    -- all of that is known of each container
    ready : AllByRecursion (IsReady c s row.label) row.containers
    ready = subst (AllByRecursion (IsReady c s row.label)) all-on
        (Each-with (λ (k : Placed). 1 ≤ k.id.clock) (λ k. StandsOn (places s) row.label k × Suits c s.leaves row.label k) (IsReady c s row.label) (λ k early j. record { early = early; stands = j.0; suits = j.1 }) (on_in s.partitions row.label) (stamped.early row.label)
        (Each-both (StandsOn (places s) row.label) (Suits c s.leaves row.label) (on_in s.partitions row.label) (housed.standing row.label) (suited.suits row.label)))

    module _ (dk : List Placed) (k : Placed) (tk : List Placed) (f : dk ++ k ∷ tk ≡ row.containers) where
      here : (P : Placed → Type 0) → AllByRecursion P row.containers → P k
      here P all = (Each-split P dk (k ∷ tk) (subst (AllByRecursion P) (sym f) all)).1.0

      -- the node
      stand : (node : Node) → node_of s k.node ≡ Some node → node.label ≡ row.label → k.id.label ≡ row.label → may_stand (at (rows_with dk)) k node ≡ true
      unfolding free
      stand node found on label = and_from _ _ (and_from _ _ (ap (same_label node.label) (label ∙ sym on) ∙ same-label_self node.label) (nat-le k.id.clock node.stamp (here (IsEarlier node) earlier named))) fits
        where
          named : same_name k.node node.name ≡ true
          named = ap (same_name k.node) (same-name_sym node.name k.node (Each-find (λ (node : Node). AllByRecursion (IsEarlier node) (on_in s.partitions node.label)) (λ node. same_name node.name k.node) s.nodes stamped.later node found).1) ∙ same-name_self k.node

          earlier : AllByRecursion (IsEarlier node) row.containers
          earlier = subst (AllByRecursion (IsEarlier node)) (ap (on_in s.partitions) on ∙ all-on)
              (Each-find (λ (node : Node). AllByRecursion (IsEarlier node) (on_in s.partitions node.label)) (λ node. same_name node.name k.node) s.nodes stamped.later node found).0

          mine : List Placed → List Placed
          mine containers = filter (λ container. same_name container.node node.name) containers

          room : fits_in (sizes (mine row.containers)) node.size ≡ true
          room = subst (λ containers. fits_in (sizes (mine containers)) node.size ≡ true) (ap (on_in s.partitions) on ∙ all-on)
              (Each-find (λ (node : Node). fits_in (filled (on_in s.partitions node.label) node.name) node.size ≡ true) (λ node. same_name node.name k.node) s.nodes
              (Each-unmap without_stamp (λ (node : Tracked). fits_in (filled (on_in s.partitions node.label) node.name) node.size ≡ true) s.nodes housed.room) node found).0

          split : sizes (mine row.containers) ≡ plus (sizes (mine dk)) (plus k.size (sizes (mine tk)))
          split = ap (λ containers. sizes (mine containers)) (sym f) ∙ ap sizes (filter-append (λ container. same_name container.node node.name) dk (k ∷ tk) ∙ (λ i. mine dk ++ cond (named i) (k ∷ mine tk) (mine tk))) ∙ total-both (λ (container : Placed). container.size) (mine dk) (k ∷ mine tk)

          fits : fits_in k.size (less node.size (sizes (mine (containers_on (at (rows_with dk)) node.label)))) ≡ true
          fits = ap (λ containers. fits_in k.size (less node.size (sizes (mine containers)))) (told-on dk node.label on) ∙ fits-left (sizes (mine dk)) k.size (sizes (mine tk)) node.size (ap (λ a. fits_in a node.size) (sym split) ∙ room)

      -- the number
      after : k.id.label ≡ row.label → 1 ≤ k.id.clock → nat_lt (fold (λ (before : ℕ) (container : Placed). container.id.clock) 0 (containers_on (at (rows_with dk)) k.id.label)) k.id.clock ≡ true
      after label early =
          let ordered = base.ordered in
          let numbered = ordered.ids row.label in
          ap (λ containers. nat_lt (fold (λ (before : ℕ) (container : Placed). container.id.clock) 0 containers) k.id.clock) (told-on dk k.id.label label)
          ∙ below (fold (λ (before : ℕ) (container : Placed). container.id.clock) 0 dk) k.id.clock (last-below k.id.clock 0 dk early
          (pairs-before (λ (a b : Placed). a.id.clock < b.id.clock) dk k tk (subst (Pairs (λ (a b : Placed). a.id.clock < b.id.clock)) (all-on ∙ sym f) numbered.rising)))
        where
          below : (m n : ℕ) → m < n → nat_lt m n ≡ true
          below m n h = grind (arith, nat_tests, h)

      -- the application
      have : (app : Application) → find_app s.leaves k.tenant k.app ≡ Some app → k.id.label ≡ row.label → (what : What) → k.what ≡ what → May c row.label (traits app) what k.size → may_have c (at (rows_with dk)) k what app ≡ true
      unfolding runs
      have app found label Master w may =
          let home : app.home ≡ row.label = may.0 in
          and_from _ _ (and_from _ _ (and_from _ _ (ap (same_label k.id.label) (home ∙ sym label) ∙ same-label_self k.id.label) (ap (λ (size : Resource). size.memory == app.master.memory) may.1 ∙ same-number_self app.master.memory))
          (ap (λ (size : Resource). size.vcores == app.master.vcores) may.1 ∙ same-number_self app.master.vcores))
          (off (ap (list_any (λ container. is_master container && is_of (tenant_of app.leaf) app.name container)) (told-on dk app.home home) ∙ none dk alone))
        where
          sole : AllByRecursion (λ a. Sole a k) dk
          sole = pairs-before Sole dk k tk (subst (Pairs Sole) (all-on ∙ sym f) (suited.sole row.label))

          master : is_master k ≡ true
          master = ap is_what w
            where
              is_what : What → Bool
              is_what Master = true
              is_what (Asked label priority) = false

          alone : AllByRecursion (λ a. (is_master a && is_of (tenant_of app.leaf) app.name a) ≡ false) dk
          alone = Each-weaker (λ a. Sole a k) _ (λ a s1. (λ i. is_master a && is_of (found-tenant s.leaves base.finds k.tenant k.app app found i) (found-name s.leaves k.tenant k.app app found i) a) ∙ s1 master) dk sole

          none : (xs : List Placed) → AllByRecursion (λ a. (is_master a && is_of (tenant_of app.leaf) app.name a) ≡ false) xs → list_any (λ container. is_master container && is_of (tenant_of app.leaf) app.name container) xs ≡ false
          none [] h = refl
          none (x ∷ xs) h = (λ i. h.0 i || list_any (λ container. is_master container && is_of (tenant_of app.leaf) app.name container) xs) ∙ none xs h.1
      have app found label (Asked asked priority) w may = and_from _ _ may.0 (place may.1)
        where
          place : (asked ≡ row.label) ⊎ ((is_default asked ≡ true) × (takes_guests c row.label ≡ true)) → (same_label asked k.id.label || (is_default asked && not (is_exclusive c.labels k.id.label))) ≡ true
          place (inl same) = or_left (same_label asked k.id.label) _ (ap (same_label asked) (label ∙ sym same) ∙ same-label_self asked)
          place (inr guest) = or_right (same_label asked k.id.label) _ (and_from _ _ guest.0 (ap (λ l. not (is_exclusive c.labels l)) label ∙ (and_parts (not (is_default row.label)) _ guest.1).1))

      changed : k.id.label ≡ row.label → in_partition k.id.label (λ row. record row { containers = row.containers ++ k ∷ [] }) (rows_with dk) ≡ rows_with (dk ++ k ∷ [])
      changed label = ap (λ l. in_partition l (λ row. record row { containers = row.containers ++ k ∷ [] }) (rows_with dk)) label
          ∙ update-in (is_partition row.label) (λ row. record row { containers = row.containers ++ k ∷ [] }) done (partial dk) (map settled todo) before (same-label_self row.label) behind

      container-step : Reads c (at (rows_with dk)) side (Container k ∷ []) (at (rows_with (dk ++ k ∷ []))) side
      container-step = by-node (node_of s k.node) refl (sym (ap (λ o. option_map_or (λ (node : Tracked). same_label node.label row.label) o false) (tracked-is k.node s)) ∙ all.stands)
        where
          all : IsReady c s row.label k
          all = here (IsReady c s row.label) ready

          suits : Suits c s.leaves row.label k
          suits = all.suits

          by-app : (node : Node) → node_of s k.node ≡ Some node → node.label ≡ row.label → (o : Option Application) → find_app s.leaves k.tenant k.app ≡ o → option_map traits o ≡ Some suits.traits → Reads c (at (rows_with dk)) side (Container k ∷ []) (at (rows_with (dk ++ k ∷ []))) side
          by-app node found on None g t = cc
          by-app node found on (Some app) g t =
              let same : suits.traits ≡ traits app = cc in
              subst (λ rows. Reads c (at (rows_with dk)) side (Container k ∷ []) (at rows) side) (changed suits.label)
              (reads-container c (at (rows_with dk)) side k node app found (stand node found on suits.label) (after suits.label all.early) suits.given g
              (have app g suits.label k.what refl (subst (λ is. May c row.label is k.what k.size) same suits.may)))

          by-node : (o : Option Node) → node_of s k.node ≡ o → option_map_or (λ (node : Tracked). same_label node.label row.label) (option_map without_stamp o) false ≡ true → Reads c (at (rows_with dk)) side (Container k ∷ []) (at (rows_with (dk ++ k ∷ []))) side
          by-node None found h = absurd (true≢false (sym h))
          by-node (Some node) found h = by-app node found (same-label_path node.label row.label h) (find_app s.leaves k.tenant k.app) refl suits.found

    -- the lines of the partition's containers
    reads-row : Reads c (at (done ++ map settled (row ∷ todo))) side (map Container row.containers) (at ((done ++ row ∷ []) ++ map settled todo)) side
    reads-row =
        subst (λ lines. Reads c (at (rows_with [])) side lines (at ((done ++ row ∷ []) ++ map settled todo)) side) (sym (flat-ones Container row.containers))
        (subst (λ rows. Reads c (at (rows_with [])) side (flat_map (λ k. Container k ∷ []) row.containers) (at rows) side) (one-done done row (map settled todo))
        (plain-section c (λ k. Container k ∷ []) (λ dk tk. at (rows_with dk)) side row.containers container-step [] row.containers refl))

  -- the lines of all containers
  pub reads-containers : Reads c (record s3 { nodes = s.nodes; partitions = map settled s.partitions; leaves = s.leaves }) side (flat_map (λ row. map Container row.containers) s.partitions) (record s3 { nodes = s.nodes; partitions = s.partitions; leaves = s.leaves }) side
  reads-containers =
      subst (λ rows. Reads c (at (map settled s.partitions)) side (flat_map (λ row. map Container row.containers) s.partitions) (at rows) side) (append-nil s.partitions)
      (plain-section c (λ row. map Container row.containers) (λ done todo. at (done ++ map settled todo)) side s.partitions
      (λ done row todo e. reads-row done row todo e (here-row done row todo e)) [] s.partitions refl)
    where
      here-row : (done : List Partition) (row : Partition) (todo : List Partition) → done ++ row ∷ todo ≡ s.partitions → find (is_partition row.label) s.partitions ≡ Some row
      here-row done row todo e = let ordered = base.ordered in (Each-split (λ row. find (is_partition row.label) s.partitions ≡ Some row) done (row ∷ todo) (subst (AllByRecursion (λ row. find (is_partition row.label) s.partitions ≡ Some row)) (sym e) ordered.found)).1.0
