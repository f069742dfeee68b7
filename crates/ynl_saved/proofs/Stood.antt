-- The line of a container keeps what is known of a state: it comes last on its partition, where its application may have it, its node is, and there is room.
use Rattle.std.proofs.Common.{◌≡◌, ◌⊎◌, inl, inr, ◌≤◌, ◌<◌, ℕ, Bool, true, false, cond, not, ◌&&◌, ◌||◌, ◌==◌, is_some, List, [], ◌∷◌, ◌++◌, Some, option_map, filter, find, fold, refl, sym, ap, subst, ◌∙◌, arith, append-nil, le_trans}
use Rattle.std.specs.List.{AllByRecursion, list_any}
use Rattle.std.specs.Option.{option_map_or}
use Rattle.std.specs.Prelude.{IfSome, nat_le, nat_lt}
use Rattle.std.proofs.lemmas.Bool.Decides.{nat_tests}
use Rattle.std.proofs.lemmas.Bool.{and_from, and_parts, leb-true, ltb-true}
use Rattle.std.proofs.lemmas.List.Elements.{filter-append}
use mathlib.Core.Bool.{true≢false}
use Rattle.ynl_resource.specs.Amounts.{fits_in, less, plus}
use Rattle.ynl_resource.specs.Names.{is_default, same_label, same_name, tenant_of}
use Rattle.ynl_resource.specs.declared.amounts.Resource.{Resource}
use Rattle.ynl_resource.specs.declared.labels.Label.TheVariants.{Unlabelled, Named}
use Rattle.ynl_resource.specs.declared.labels.Label.{Label}
use Rattle.ynl_resource.specs.declared.names.Name.{Name}
use Rattle.ynl_model.specs.Applications.{Application, find_app, leaf_of}
use Rattle.ynl_model.specs.Cluster.{State, Partition, free, is_guest_on, is_master, is_master_what, is_of, is_partition, node_of, runs, sizes}
use Rattle.ynl_model.specs.Nodes.{is_exclusive}
use Rattle.ynl_model.specs.Promises.{without_stamp}
use Rattle.ynl_model.specs.Queues.{Config, may_use}
use Rattle.ynl_model.specs.Service.{takes_guests}
use Rattle.ynl_model.specs.View.{tracked}
use Rattle.ynl_model.specs.declared.containers.Placed.{Placed as Container}
use Rattle.ynl_model.specs.declared.nodes.Node.{Node}
use Rattle.ynl_model.specs.declared.nodes.Tracked.{Tracked}
use Rattle.ynl_model.specs.declared.proposals.What.TheVariants.{Master, Ask as Asked}
use Rattle.ynl_model.specs.declared.proposals.What.{What}
use Rattle.ynl_model.specs.Changes.{with_container}
use Rattle.ynl_saved.specs.Restoring.{last_clock, may_have, may_stand}
use Rattle.ynl_laws.specs.Entitled.{is_entitled}
use Rattle.ynl_laws.specs.Working.{IsHoused, IsKnown, IsOrdered, Ordered, Pairs, StandsOn, UsesAll, clock_in, filled, has_row, on_in, places}
use Rattle.ynl_laws.proofs.Amounts.{total-append}
use Rattle.ynl_laws.proofs.Events.Kept.{by-row, kept-find}
use Rattle.ynl_laws.proofs.Lists.{Each-all, Each-append, Each-find, Each-update, Each-weaker, Each-with, Pairs-last, pairs-unmap}
use Rattle.ynl_laws.proofs.Lives.Entitled.{fitting-found}
use Rattle.ynl_laws.proofs.Lives.Homes.{each-in}
use Rattle.ynl_laws.proofs.Logic.{either-true, not-true, some-same}
use Rattle.ynl_laws.proofs.Names.{same-label_path, same-label_self, same-name_self, same-name_sym}
use Rattle.ynl_laws.proofs.Soundness.Apart.{FindsItself, each-itself}
use Rattle.ynl_laws.proofs.Soundness.Tracked.{tracked-is}
use Rattle.ynl_saved.proofs.Leaved.{found-name}
use Rattle.ynl_saved.proofs.Rows.{keyed-of}
use Rattle.ynl_saved.proofs.Served.{size-same}
use Rattle.ynl_saved.proofs.Shapes.{shaped-partition}
use Rattle.ynl_saved.proofs.Stamps.{IsEarlier}
use Rattle.ynl_saved.proofs.Stand.{found-tenant}
use Rattle.ynl_saved.proofs.Suited.{May, Sole, Suits, each-none, pairs-in}
use Rattle.ynl_saved.proofs.Tellable.{IsTellable}
use Rattle.ynl_saved.proofs.Ticks.{ordered-ticked, ticked-same}
use Rattle.ynl_saved.proofs.Traits.{traits}

-- ---- what an application may have

-- guests come where a partition is not exclusive
takes : (c : Config) (p : Label) → not (is_exclusive c.labels p) ≡ true → takes_guests c p ≡ true
takes c Unlabelled h = absurd (true≢false (sym h))
takes c (Named name) h = h

-- what the test of a container says of its application
may-of : (c : Config) (s : State) (k : Container) (what : What) (app : Application) → may_have c s k what app ≡ true → May c k.id.label (traits app) what k.size
may-of c s k Master app h =
    let all = and_parts (same_label k.id.label app.home && (k.size.memory == app.master.memory) && (k.size.vcores == app.master.vcores)) _ h in
    let sized = and_parts (same_label k.id.label app.home && (k.size.memory == app.master.memory)) _ all.0 in
    let first = and_parts (same_label k.id.label app.home) _ sized.0 in
    (sym (same-label_path k.id.label app.home first.0), size-same k.size app.master (and_from _ _ first.1 sized.1))
may-of c s k (Asked label priority) app h =
    let both = and_parts (is_default label || same_label label app.home) _ h in
    (both.0, go (either-true (same_label label k.id.label) _ both.1))
  where
    go : (same_label label k.id.label ≡ true) ⊎ ((is_default label && not (is_exclusive c.labels k.id.label)) ≡ true) →
        (label ≡ k.id.label) ⊎ ((is_default label ≡ true) × (takes_guests c k.id.label ≡ true))
    go (inl same) = inl (same-label_path label k.id.label same)
    go (inr guest) = let both = and_parts (is_default label) _ guest in inr (both.0, takes c k.id.label both.1)

-- a container that an application may have is where it may be
may-entitled : (c : Config) (p : Label) (app : Application) (what : What) (size : Resource) → may_use c app.leaf app.home ≡ true → May c p (traits app) what size →
    cond (is_guest_on p what) (takes_guests c p) (may_use c app.leaf p) ≡ true
unfolding may_use
may-entitled c p app Master size fits may = ap (may_use c app.leaf) (sym may.0) ∙ fits
may-entitled c p app (Asked label priority) size fits may = go may.1
  where
    own : (label : Label) → (is_default label || same_label label app.home) ≡ true → cond (is_default label && not (is_default label)) (takes_guests c label) (may_use c app.leaf label) ≡ true
    own Unlabelled at = refl
    own (Named name) at = ap (may_use c app.leaf) (same-label_path (Named name) app.home at) ∙ fits

    go : (label ≡ p) ⊎ ((is_default label ≡ true) × (takes_guests c p ≡ true)) → cond (is_default label && not (is_default p)) (takes_guests c p) (may_use c app.leaf p) ≡ true
    go (inl same) = subst (λ l. cond (is_default label && not (is_default l)) (takes_guests c l) (may_use c app.leaf l) ≡ true) same (own label may.0)
    go (inr guest) = (λ i. cond (guest.0 i && (and_parts (not (is_default p)) _ guest.1).0 i) (takes_guests c p) (may_use c app.leaf p)) ∙ guest.1

-- a master comes where its application has none
sole-of : (c : Config) (s : State) (k : Container) (what : What) (app : Application) → may_have c s k what app ≡ true → k.what ≡ what →
    AllByRecursion (λ a. is_master k ≡ true → (is_master a && is_of (tenant_of app.leaf) app.name a) ≡ false) (on_in s.partitions k.id.label)
unfolding runs
sole-of c s k Master app h is =
    let all = and_parts (same_label k.id.label app.home && (k.size.memory == app.master.memory) && (k.size.vcores == app.master.vcores)) _ h in
    let home : app.home ≡ k.id.label = (may-of c s k Master app h).0 in
    Each-weaker (λ a. (is_master a && is_of (tenant_of app.leaf) app.name a) ≡ false) _ (λ a off _. off) (on_in s.partitions k.id.label)
    (each-none (λ a. is_master a && is_of (tenant_of app.leaf) app.name a) (on_in s.partitions k.id.label)
    (ap (λ l. list_any (λ a. is_master a && is_of (tenant_of app.leaf) app.name a) (on_in s.partitions l)) (sym home) ∙ not-true (runs s app) all.1))
sole-of c s k (Asked label priority) app h is = Each-all _ (λ a master. absurd (true≢false (sym master ∙ ap is_master_what is))) (on_in s.partitions k.id.label)

-- ---- numbers

-- where numbers rise, and the last is below another, all are
last-above : (xs : List Container) (first n : ℕ) → Pairs (λ (a b : Container). a.id.clock < b.id.clock) xs → fold (λ (before : ℕ) (x : Container). x.id.clock) first xs < n →
    AllByRecursion (λ (x : Container). x.id.clock < n) xs
last-above [] first n h last = tt
last-above (x ∷ []) first n h last = (last, tt)
last-above (x ∷ y ∷ xs) first n h last =
    let rest = last-above (y ∷ xs) x.id.clock n h.1 last in
    (less x.id.clock y.id.clock h.0.0 rest.0, rest)
  where
    less : (a b : ℕ) → a < b → b < n → a < n
    less a b k j = grind (arith, k, j)

-- what fits in what is left fits beside the rest
fits-beside : (used one size : Resource) → fits_in used size ≡ true → fits_in one (less size used) ≡ true → fits_in (plus used one) size ≡ true
fits-beside used one size h k = grind (arith, nat_tests)

module _ (c : Config) (s : State) (k : Container) (h : IsTellable c s) (node : Node) (at : node_of s k.node ≡ Some node) (stand : may_stand s k node ≡ true)
    (later : nat_lt (last_clock s k.id.label) k.id.clock ≡ true)
    (given : fits_in k.size c.maximum_allocation ≡ true) (app : Application) (found : find_app s.leaves k.tenant k.app ≡ Some app) (have : may_have c s k k.what app ≡ true) where
  -- the partition
  abbrev p : Label
  p = k.id.label

  -- one more comes last
  abbrev adds : List Container → List Container
  adds containers = containers ++ k ∷ []

  -- the partitions after the line
  abbrev rows : List Partition
  rows = (with_container k s).partitions

  -- the node is on the partition
  on : node.label ≡ p
  on = same-label_path node.label p (and_parts (same_label node.label p) _ (and_parts (same_label node.label p && nat_le k.id.clock node.stamp) _ stand).0).0

  -- its stamp is no earlier
  no-later : k.id.clock ≤ node.stamp
  no-later = leb-true k.id.clock node.stamp (and_parts (same_label node.label p) _ (and_parts (same_label node.label p && nat_le k.id.clock node.stamp) _ stand).0).1

  -- and it has room
  roomy : fits_in k.size (free s node) ≡ true
  roomy = (and_parts (same_label node.label p && nat_le k.id.clock node.stamp) _ stand).1

  -- the leaf of the application is found
  known : leaf_of s.leaves k.tenant k.app ≡ Some app.leaf
  known =
      let base = h.base in
      (λ i. leaf_of s.leaves (sym (found-tenant s.leaves base.finds k.tenant k.app app found) i) (sym (found-name s.leaves k.tenant k.app app found) i))
      ∙ subst (λ o. IfSome o (λ app. IsKnown s.leaves app.leaf app.name)) found (kept-find s base.kept k.tenant k.app)

  -- ids still rise
  ordered-container : IsOrdered c (with_container k s)
  ordered-container =
      let base = h.base in
      let ordered = base.ordered in
      let numbered = ordered.ids p in
      subst (Ordered c s.nodes) (sym (ticked-same p adds s.partitions ordered.found))
      (ordered-ticked c s.nodes s.partitions p (clock_in s.partitions p) adds ordered (ordered.clocks p)
      (Each-weaker _ _ (λ other j same. subst (λ l. other.stamp ≤ clock_in s.partitions l) (sym same) j.1) s.nodes ordered.stamps)
      (record {
        own = Each-append _ (on_in s.partitions p) (k ∷ []) numbered.own ((refl, le_trans no-later (shown ordered.stamps)), tt);
        rising = Pairs-last _ (on_in s.partitions p) k numbered.rising (last-above (on_in s.partitions p) 0 k.id.clock numbered.rising (ltb-true (last_clock s p) k.id.clock later));
      }))
    where
      shown : AllByRecursion (λ (node : Node). (has_row s.partitions node.label ≡ true) × (node.stamp ≤ clock_in s.partitions node.label)) s.nodes → node.stamp ≤ clock_in s.partitions p
      shown stamps = subst (λ l. node.stamp ≤ clock_in s.partitions l) on (Each-find (λ (node : Node). (has_row s.partitions node.label ≡ true) × (node.stamp ≤ clock_in s.partitions node.label))
          (λ node. same_name node.name k.node) s.nodes stamps node at).0.1

  -- what held of each container, and holds of this one, holds of each
  each-stood : (P : Container → Type 0) (q : Label) → AllByRecursion P (on_in s.partitions q) → (p ≡ q → P k) → AllByRecursion P (on_in rows q)
  each-stood P q old new = each-in P p q (λ row. record row { containers = adds row.containers }) (λ row. refl)
      (λ row there here j. Each-append P row.containers (k ∷ []) j (new (sym (same-label_path row.label p here) ∙ same-label_path row.label q there), tt)) s.partitions old

  -- a node of the name is the node
  is-node : AllByRecursion (λ (other : Node). k.node ≡ other.name → other ≡ node) s.nodes
  is-node =
      let base = h.base in
      Each-weaker (λ (other : Node). node_of s other.name ≡ Some other) _ (λ other self same. some-same other node (node_of s k.node) (ap (node_of s) same ∙ self) at) s.nodes
      (keyed-of same_name (λ (other : Node). other.name) same-name_sym same-name_self s.nodes (pairs-unmap without_stamp (λ a b. same_name a.name b.name ≡ false) s.nodes base.apart))

  -- containers stand on nodes that are there, and no node is overfull
  housed-container : IsHoused (with_container k s)
  unfolding free
  housed-container =
      let base = h.base in
      let housed = h.housed in
      record {
        standing = λ q. each-stood (StandsOn (places s) q) q (housed.standing q) (λ same. ap (λ o. option_map_or (λ (node : Tracked). same_label node.label q) o false) tracked-at
            ∙ ap (λ l. same_label l q) (on ∙ same) ∙ same-label_self q);
        room = Each-with (FindsItself (places s)) (λ other. fits_in (filled (on_in s.partitions other.label) other.name) other.size ≡ true) _ fill (places s)
            (each-itself (places s) base.apart) housed.room;
      }
    where
      tracked-at : tracked (places s) k.node ≡ Some (without_stamp node)
      tracked-at = tracked-is k.node s ∙ ap (option_map without_stamp) at

      mine : Name → List Container → List Container
      mine name containers = filter (λ container. same_name container.node name) containers

      more : (other : Tracked) → FindsItself (places s) other → p ≡ other.label → (b : Bool) → same_name k.node other.name ≡ b →
          fits_in (sizes (mine other.name (on_in s.partitions other.label))) other.size ≡ true →
          fits_in (sizes (mine other.name (on_in s.partitions other.label) ++ cond b (k ∷ []) [])) other.size ≡ true
      more other self here false e j = subst (λ xs. fits_in (sizes xs) other.size ≡ true) (sym (append-nil (mine other.name (on_in s.partitions other.label)))) j
      more other self here true e j =
          let same : without_stamp node ≡ other = some-same (without_stamp node) other (tracked (places s) other.name)
          (ap (tracked (places s)) (sym (same-name_sym k.node other.name e)) ∙ tracked-at) self in
          subst (λ t. fits_in t other.size ≡ true) (sym (total-append (λ (container : Container). container.size) (mine other.name (on_in s.partitions other.label)) k))
          (fits-beside (sizes (mine other.name (on_in s.partitions other.label))) k.size other.size j
          (subst (λ n. fits_in k.size (less n.size (sizes (mine n.name (on_in s.partitions n.label)))) ≡ true) same roomy))

      fill : (other : Tracked) → FindsItself (places s) other → fits_in (filled (on_in s.partitions other.label) other.name) other.size ≡ true →
          fits_in (filled (on_in rows other.label) other.name) other.size ≡ true
      fill other self = by-row (λ a b. fits_in (filled a other.name) other.size ≡ true → fits_in (filled b other.name) other.size ≡ true) (λ row. row.containers) [] p other.label
          (λ row. record row { containers = adds row.containers }) (λ row. refl) s.partitions (λ row is there. go row is there (same_label row.label p) refl) (λ j. j)
        where
          go : (row : Partition) → find (is_partition other.label) s.partitions ≡ Some row → same_label row.label other.label ≡ true → (b : Bool) → same_label row.label p ≡ b →
              fits_in (filled row.containers other.name) other.size ≡ true → fits_in (filled (cond b (record row { containers = adds row.containers }) row).containers other.name) other.size ≡ true
          go row is there false here j = j
          go row is there true here j =
              let on-row : on_in s.partitions other.label ≡ row.containers = ap (λ o. option_map_or (λ (row : Partition). row.containers) o []) is in
              let label : p ≡ other.label = sym (same-label_path row.label p here) ∙ same-label_path row.label other.label there in
              subst (λ xs. fits_in (sizes xs) other.size ≡ true) (sym (filter-append (λ container. same_name container.node other.name) row.containers (k ∷ [])))
              (subst (λ xs. fits_in (sizes (mine other.name xs ++ cond (same_name k.node other.name) (k ∷ []) [])) other.size ≡ true) on-row
              (more other self label (same_name k.node other.name) refl (subst (λ xs. fits_in (filled xs other.name) other.size ≡ true) (sym on-row) j)))

  -- all that is known is known after the line
  pub tellable-container : IsTellable c (with_container k s)
  tellable-container =
      let base = h.base in
      let kept = base.kept in
      let entitled = base.entitled in
      let stamped = h.stamped in
      let suited = h.suited in
      let leaved = suited.leaved in
      record {
        base = record {
          kept = record {
            apps = kept.apps;
            uses = Each-update (λ (row : Partition). UsesAll s.leaves row.containers) (is_partition p) (λ row. record row { containers = adds row.containers })
                (λ row j. Each-append _ row.containers (k ∷ []) j (ap is_some known, tt)) s.partitions kept.uses;
          };
          finds = base.finds;
          apart = base.apart;
          ordered = ordered-container;
          entitled = record {
            apps = entitled.apps;
            containers = λ q. each-stood (λ other. is_entitled c s.leaves other ≡ true) q (entitled.containers q)
                (λ same. (λ i. cond (is_guest_on p k.what) (takes_guests c p) (option_map_or (λ leaf. may_use c leaf p) (known i) false))
                ∙ may-entitled c p app k.what k.size (fitting-found c s.leaves entitled.apps k.tenant k.app app found).0 (may-of c s k k.what app have));
          };
        };
        stamped = record {
          known = stamped.known;
          counts = stamped.counts;
          later = Each-with (λ (other : Node). k.node ≡ other.name → other ≡ node) (λ other. AllByRecursion (IsEarlier other) (on_in s.partitions other.label)) _
              (λ other one j. each-stood (IsEarlier other) other.label j (λ here of. subst (λ (n : Node). k.id.clock ≤ n.stamp)
              (sym (one (same-name_sym k.node other.name of))) no-later)) s.nodes is-node stamped.later;
          early = λ q. each-stood (λ other. 1 ≤ other.id.clock) q (stamped.early q) (λ same. above (last_clock s p) k.id.clock later);
        };
        suited = record {
          leaved = record { shaped = shaped-partition c s (with_container k s) p _ (λ row. refl) leaved.shaped refl refl refl refl; rows = leaved.rows; names = leaved.names };
          suits = λ q. each-stood (Suits c s.leaves q) q (suited.suits q)
              (λ same. record {
                label = same;
                given = given;
                traits = traits app;
                found = ap (option_map traits) found;
                may = subst (λ l. May c l (traits app) k.what k.size) same (may-of c s k k.what app have);
              });
          sole = λ q. pairs-in Sole p q (λ row. record row { containers = adds row.containers }) (λ row. refl) s.partitions
              (λ row is there here j. Pairs-last Sole row.containers k j (alone row is (sym (same-label_path row.label p here) ∙ same-label_path row.label q there))) (suited.sole q);
        };
        housed = housed-container;
        distinct = h.distinct;
      }
    where
      above : (m n : ℕ) → nat_lt m n ≡ true → 1 ≤ n
      above m n e = grind (arith, nat_tests, e)

      alone : {q : Label} (row : Partition) → find (is_partition q) s.partitions ≡ Some row → p ≡ q → AllByRecursion (λ a. Sole a k) row.containers
      alone row is same =
          let base = h.base in
          subst (AllByRecursion (λ a. Sole a k)) (ap (on_in s.partitions) same ∙ ap (λ o. option_map_or (λ (row : Partition). row.containers) o []) is)
          (Each-weaker _ (λ a. Sole a k) (λ a off master. (λ i. is_master a && is_of (sym (found-tenant s.leaves base.finds k.tenant k.app app found) i)
          (sym (found-name s.leaves k.tenant k.app app found) i) a) ∙ off master) (on_in s.partitions p)
          (sole-of c s k k.what app have refl))
