-- In each state each container is one that its application may have where it stands, and no application has two masters on a partition.
use Rattle.std.proofs.Common.{◌≡◌, ◌⊎◌, Bool, true, false, cond, not, ◌&&◌, ◌||◌, List, [], ◌∷◌, Option, Some, None, find, option_map, refl, sym, ap, subst, ◌∙◌}
use Rattle.std.specs.Prelude.{IfSome, IsTrue}
use Rattle.std.specs.List.{AllByRecursion, list_any}
use Rattle.std.specs.Option.{option_map_or, option_and_then}
use mathlib.Core.Bool.{true≢false}
use Rattle.ynl_resource.specs.Amounts.{fits_in}
use Rattle.ynl_resource.specs.Names.{is_default, same_id, same_label, same_name, tenant_of}
use Rattle.ynl_resource.specs.declared.amounts.Resource.{Resource}
use Rattle.ynl_resource.specs.declared.labels.Label.{Label}
use Rattle.ynl_resource.specs.declared.names.Name.{Name}
use Rattle.ynl_model.specs.Accepted.{is_accepted}
use Rattle.ynl_model.specs.Applications.{Application, LeafApps, find_app, finished, in_leaf, row_of, set_ask, submitted, with_app}
use Rattle.ynl_model.specs.declared.applications.AskRow.{AskRow}
use Rattle.ynl_model.specs.Changes.{all_end, all_own, app_finishes, changed_at, container_of, end, node_joins, node_leaves, place, taken}
use Rattle.ynl_model.specs.Check.{same_size}
use Rattle.ynl_model.specs.Cluster.{State, Partition, in_partition, is_master, is_master_what, is_of, is_partition, no_containers, opening, runs, waits}
use Rattle.ynl_model.specs.Events.{is_foreign}
use Rattle.ynl_model.specs.declared.nodes.Node.{Node}
use Rattle.ynl_model.specs.declared.containers.Placed.{Placed as Container}
use Rattle.ynl_model.specs.declared.proposals.What.{What}
use Rattle.ynl_model.specs.declared.proposals.What.TheVariants.{Master, Ask as Asked}
use Rattle.ynl_model.specs.Nodes.{Labels}
use Rattle.ynl_model.specs.Queues.{Config}
use Rattle.ynl_model.specs.Service.{Item, takes_guests}
use Rattle.ynl_laws.specs.Working.{Pairs, on_in}
use Rattle.ynl_laws.proofs.Events.Changed.{taken-name}
use Rattle.ynl_laws.proofs.Events.Kept.{by-row}
use Rattle.ynl_laws.proofs.Events.Wanted.{IsFor, IsWanted}
use Rattle.ynl_laws.proofs.Lists.{Each-append, Each-filter, Each-find, Each-found, Each-weaker, Each-with, Pairs-filter, Pairs-last}
use Rattle.ynl_laws.proofs.Lives.Entitled.{fitting-found}
use Rattle.ynl_laws.proofs.Lives.Homes.{all-ended, each-in, none-left, opening-each}
use Rattle.ynl_laws.proofs.Logic.{not-true, some-same}
use Rattle.ynl_laws.proofs.Names.{same-label_path, same-label_self}
use Rattle.ynl_laws.proofs.Soundness.Ordered.{opening-empty}
use Rattle.ynl_saved.proofs.Changing.{Base, Goes}
use Rattle.ynl_saved.proofs.Leaved.{Leaved, found-name, leaved-goes, leaved-opening}
use Rattle.ynl_saved.proofs.Leaves.{Given, IsCounted, IsLeaf}
use Rattle.ynl_saved.proofs.Served.{IsServed, Wanting, size-same}
use Rattle.ynl_saved.proofs.Traits.{traits, traits-changed, traits-finished, traits-submitted, traits_in}

-- whether an application of such a home and such a master may have a container on a partition: its master at home and of its size, or what it may ask for, there or as a guest
abbrev pub May : Config → Label → Label × Resource → What → Resource → Type 0
May c p is Master size = (is.0 ≡ p) × (size ≡ is.1)
May c p is (Asked label priority) size = ((is_default label || same_label label is.0) ≡ true) × ((label ≡ p) ⊎ ((is_default label ≡ true) × (takes_guests c p ≡ true)))

-- a container of a partition is one that its application may have
pub record Suits (c : Config) (leaves : List LeafApps) (p : Label) (k : Container) : Type 0 where
  pub label : k.id.label ≡ p
  pub given : fits_in k.size c.maximum_allocation ≡ true
  pub traits : Label × Resource
  pub found : traits_in leaves k.tenant k.app ≡ Some traits
  pub may : May c p traits k.what k.size

-- where the later one is a master, the earlier one is no master of the same application
abbrev pub Sole : Container → Container → Type 0
Sole a b = is_master b ≡ true → (is_master a && is_of b.tenant b.app a) ≡ false

-- what is known of all containers
pub record Suited (c : Config) (s : State) : Type 0 where
  pub leaved : Leaved c s
  pub suits : (p : Label) → AllByRecursion (Suits c s.leaves p) (on_in s.partitions p)
  pub sole : (p : Label) → Pairs Sole (on_in s.partitions p)

-- ---- what is placed

-- what is found in leaves has what the applications of each have
given-found : (c : Config) (leaves : List LeafApps) → AllByRecursion (IsLeaf c) leaves → (tenant name : Name) (app : Application) → find_app leaves tenant name ≡ Some app → Given c app
unfolding find_app
given-found c leaves h tenant name app e = go (row_of leaves tenant name) (Each-found (IsLeaf c) _ leaves h) e
  where
    go : (o : Option LeafApps) → IfSome o (IsLeaf c) → option_and_then (λ row. find (λ app. same_name app.name name) row.apps) o ≡ Some app → Given c app
    go None k e = cc
    go (Some row) k e = (Each-find (Given c) (λ app. same_name app.name name) row.apps k.given app e).0

-- a size that something is asked for of is within the largest
size-given : (c : Config) (size : Resource) (asks : List AskRow) → AllByRecursion (IsCounted c) asks → list_any (λ ask. same_size ask.size size) asks ≡ true → fits_in size c.maximum_allocation ≡ true
size-given c size [] h any = absurd (true≢false (sym any))
size-given c size (ask ∷ asks) h any = go (same_size ask.size size) refl any (size-given c size asks h.1)
  where
    go : (b : Bool) → same_size ask.size size ≡ b → (b || list_any (λ ask. same_size ask.size size) asks) ≡ true → (list_any (λ ask. same_size ask.size size) asks ≡ true → fits_in size c.maximum_allocation ≡ true) → fits_in size c.maximum_allocation ≡ true
    go true e any rest = ap (λ a. fits_in a c.maximum_allocation) (sym (size-same ask.size size e)) ∙ h.0.1
    go false e any rest = rest any

-- the size of a request is within the largest
served-given : (c : Config) (s : State) (app : Application) (what : What) (size : Resource) → Given c app → Wanting s app what size → fits_in size c.maximum_allocation ≡ true
served-given c s app Master size g w = ap (λ a. fits_in a c.maximum_allocation) w.1 ∙ g.master
served-given c s app (Asked label priority) size g w = size-given c size app.asks g.asks w

-- what is asked for is for DEFAULT or the home label
own-asked : (label : Label) (app : Application) (asks : List AskRow) → list_any (λ ask. same_label ask.label label) asks ≡ true → AllByRecursion (λ ask. is_foreign ask.label app ≡ false) asks → is_foreign label app ≡ false
own-asked label app [] any own = absurd (true≢false (sym any))
own-asked label app (ask ∷ asks) any own = go (same_label ask.label label) refl any (λ rest. own-asked label app asks rest own.1)
  where
    go : (b : Bool) → same_label ask.label label ≡ b → (b || list_any (λ ask. same_label ask.label label) asks) ≡ true → (list_any (λ ask. same_label ask.label label) asks ≡ true → is_foreign label app ≡ false) → is_foreign label app ≡ false
    go true e any rest = ap (λ l. is_foreign l app) (sym (same-label_path ask.label label e)) ∙ own.0
    go false e any rest = rest any

-- what is not foreign is for DEFAULT or the home label
pub not-foreign : (label : Label) (app : Application) → is_foreign label app ≡ false → (is_default label || same_label label app.home) ≡ true
not-foreign label app h = go (is_default label) (same_label app.home label) refl h
  where
    turn : (b : Bool) → same_label app.home label ≡ b → b ≡ true → same_label label app.home ≡ true
    turn b e t = ap (same_label label) (same-label_path app.home label (e ∙ t)) ∙ same-label_self label

    go : (a b : Bool) → same_label app.home label ≡ b → (not a && not b) ≡ false → (a || same_label label app.home) ≡ true
    go true b e h = refl
    go false true e h = turn true e refl
    go false false e h = absurd (true≢false h)

-- what is wanted on a partition may stand there
may-new : (c : Config) (s : State) (p : Label) (app : Application) (what : What) (size : Resource) → AllByRecursion (λ ask. is_foreign ask.label app ≡ false) app.asks → IsFor c p app what → Wanting s app what size → May c p (traits app) what size
may-new c s p app Master size own for w = (for, w.1)
may-new c s p app (Asked label priority) size own for w = (not-foreign label app (own-asked label app app.asks for.0 own), for.1)

-- the same application is wanted and served
same-app : (c : Config) (s : State) (p : Label) (item : Item) → (wanted : IsWanted c s p item) (served : IsServed s item) → served.app ≡ wanted.app
same-app c s p item wanted served = some-same served.app wanted.app (find_app s.leaves (tenant_of item.leaf) item.app) served.found wanted.found

-- the container that is placed is one that its application may have
suits-new : (c : Config) (s : State) (node : Node) (item : Item) → Base c s → AllByRecursion (IsLeaf c) s.leaves → IsWanted c s node.label item → IsServed s item → (p : Label) → node.label ≡ p → Suits c s.leaves p (container_of c s node item)
unfolding container_of
suits-new c s node item b h wanted served p at = record {
  label = at;
  given = served-given c s served.app item.what item.size (given-found c s.leaves h (tenant_of item.leaf) item.app served.app served.found) served.wanting;
  traits = traits served.app;
  found = ap (option_map traits) served.found;
  may = may-new c s p served.app item.what item.size (fitting-found c s.leaves b.entitled.apps (tenant_of item.leaf) item.app served.app served.found).1
      (subst (λ l. IsFor c l served.app item.what) at (subst (λ app. IsFor c node.label app item.what) (sym (same-app c s node.label item wanted served)) wanted.what)) served.wanting;
}

-- where none of a list passes a test, each fails it
pub each-none : {X : Type 0} (f : X → Bool) (xs : List X) → list_any f xs ≡ false → AllByRecursion (λ x. f x ≡ false) xs
each-none f [] h = tt
each-none f (x ∷ xs) h = go (f x) refl h (each-none f xs)
  where
    go : (b : Bool) → f x ≡ b → (b || list_any f xs) ≡ false → (list_any f xs ≡ false → AllByRecursion (λ x. f x ≡ false) xs) → (f x ≡ false) × AllByRecursion (λ x. f x ≡ false) xs
    go true e h rest = absurd (true≢false h)
    go false e h rest = (e, rest h)

-- a master is placed of an application that has none
sole-new : (c : Config) (s : State) (p : Label) (item : Item) → IsWanted c s p item → IsServed s item → AllByRecursion (λ a. is_master_what item.what ≡ true → (is_master a && is_of (tenant_of item.leaf) item.app a) ≡ false) (on_in s.partitions p)
unfolding runs
sole-new c s p item wanted served = go item.what wanted.what served.wanting
  where
    app : Application
    app = wanted.app

    mine : IsFor c p wanted.app Master → waits s wanted.app ≡ true → AllByRecursion (λ a. (is_master a && is_of (tenant_of item.leaf) item.app a) ≡ false) (on_in s.partitions p)
    mine home waiting =
        let name : wanted.app.name ≡ item.app = found-name s.leaves (tenant_of item.leaf) item.app wanted.app wanted.found in
        each-none (λ a. is_master a && is_of (tenant_of item.leaf) item.app a) (on_in s.partitions p)
        ((λ i. list_any (λ a. is_master a && is_of (tenant_of (sym wanted.leaf i)) (sym name i) a) (on_in s.partitions (sym home i))) ∙ not-true _ waiting)

    go : (what : What) → IsFor c p wanted.app what → Wanting s served.app what item.size → AllByRecursion (λ a. is_master_what what ≡ true → (is_master a && is_of (tenant_of item.leaf) item.app a) ≡ false) (on_in s.partitions p)
    go Master for w = Each-weaker _ _ (λ a off is. off) (on_in s.partitions p) (mine for (ap (waits s) (sym (same-app c s p item wanted served)) ∙ w.0))
    go (Asked label priority) for w = each (on_in s.partitions p)
      where
        each : (xs : List Container) → AllByRecursion (λ a. false ≡ true → (is_master a && is_of (tenant_of item.leaf) item.app a) ≡ false) xs
        each [] = tt
        each (x ∷ xs) = ((λ is. absurd (true≢false (sym is))), each xs)

-- ---- what stays

-- the pairs of containers of a partition, after a change of one partition
pub pairs-in : (R : Container → Container → Type 0) (label p : Label) (change : Partition → Partition) → ((row : Partition) → (change row).label ≡ row.label) → (rows : List Partition) →
    ((row : Partition) → find (is_partition p) rows ≡ Some row → same_label row.label p ≡ true → same_label row.label label ≡ true → Pairs R row.containers → Pairs R (change row).containers) → Pairs R (on_in rows p) → Pairs R (on_in (in_partition label change rows) p)
pairs-in R label p change keeps rows step h = by-row (λ a b. Pairs R a → Pairs R b) (λ row. row.containers) [] label p change keeps rows (λ row is at. go row is at (same_label row.label label) refl) (λ k. k) h
  where
    go : (row : Partition) → find (is_partition p) rows ≡ Some row → same_label row.label p ≡ true → (b : Bool) → same_label row.label label ≡ b → Pairs R row.containers → Pairs R (cond b (change row) row).containers
    go row is at true e k = step row is at e k
    go row is at false e k = k

-- the pairs of containers where containers end
pairs-ended : (c : Config) (R : Container → Container → Type 0) (list : List Container) (s : State) → ((p : Label) → Pairs R (on_in s.partitions p)) → (p : Label) → Pairs R (on_in (all_end c list s).partitions p)
unfolding end changed_at
pairs-ended c R [] s h p = h p
pairs-ended c R (container ∷ list) s h p =
    pairs-ended c R list (end c s container) (λ q. pairs-in R container.id.label q _ (λ row. refl) s.partitions (λ row is at here k. Pairs-filter R (λ other. not (same_id other.id container.id)) row.containers k) (h q)) p

-- the leaves change, and the traits stay
pub suits-moved : (c : Config) (old new : List LeafApps) → ((tenant name : Name) (is : Label × Resource) → traits_in old tenant name ≡ Some is → traits_in new tenant name ≡ Some is) → (p : Label) (containers : List Container) → AllByRecursion (Suits c old p) containers → AllByRecursion (Suits c new p) containers
suits-moved c old new same p containers h = Each-weaker (Suits c old p) (Suits c new p) (λ k j. record { label = j.label; given = j.given; traits = j.traits; found = same k.tenant k.app j.traits j.found; may = j.may }) containers h

-- one less asked for changes neither home nor master
taken-traits : (what : What) (app : Application) → traits (taken what app) ≡ traits app
taken-traits Master app = refl
taken-traits (Asked label priority) app = refl

-- at first nothing stands anywhere
opening-none : (labels : Labels) (p : Label) → on_in (no_containers labels) p ≡ []
opening-none labels p = go (find (is_partition p) (no_containers labels)) (Each-found _ (is_partition p) (no_containers labels) (opening-empty labels))
  where
    go : (o : Option Partition) → IfSome o (λ row. (row.clock ≡ 0) × (row.containers ≡ [])) → option_map_or (λ row. row.containers) o [] ≡ []
    go None h = refl
    go (Some row) h = h.1

module _ (c : Config) (accepted : IsTrue (is_accepted c)) where
  -- that stays with each change
  pub suited-goes : Goes (Suited c) c
  unfolding node_joins node_leaves end place changed_at container_of app_finishes
  suited-goes = let leaved = leaved-goes c accepted in record {
    joins = λ s name label size b h known room. record {
      leaved = leaved.joins s name label size b h.leaved known room;
      suits = λ p. each-in (Suits c s.leaves p) label p _ (λ row. refl) (λ row at here k. k) s.partitions (h.suits p);
      sole = λ p. pairs-in Sole label p _ (λ row. refl) s.partitions (λ row is at here k. k) (h.sole p);
    };
    leaves = λ s node b h. record {
      leaved = leaved.leaves s node b h.leaved;
      suits = λ p. each-in (Suits c s.leaves p) node.label p _ (λ row. refl) (λ row at here k. Each-filter (Suits c s.leaves p) (λ container. not (same_name container.node node.name)) row.containers k) s.partitions (h.suits p);
      sole = λ p. pairs-in Sole node.label p _ (λ row. refl) s.partitions (λ row is at here k. Pairs-filter Sole (λ container. not (same_name container.node node.name)) row.containers k) (h.sole p);
    };
    ends = λ s container b h. record {
      leaved = leaved.ends s container b h.leaved;
      suits = λ p. each-in (Suits c s.leaves p) container.id.label p _ (λ row. refl) (λ row at here k. Each-filter (Suits c s.leaves p) (λ other. not (same_id other.id container.id)) row.containers k) s.partitions (h.suits p);
      sole = λ p. pairs-in Sole container.id.label p _ (λ row. refl) s.partitions (λ row is at here k. Pairs-filter Sole (λ other. not (same_id other.id container.id)) row.containers k) (h.sole p);
    };
    placed = λ s node item b h fits wanted served fresh. record {
      leaved = leaved.placed s node item b h.leaved fits wanted served fresh;
      suits = λ p. suits-moved c s.leaves (in_leaf item.leaf (with_app item.app (taken item.what)) s.leaves)
          (λ tenant name is e. traits-changed item.leaf item.app (taken item.what) (taken-name item.what) (taken-traits item.what) s.leaves tenant name ∙ e) p _
          (each-in (Suits c s.leaves p) node.label p _ (λ row. refl)
          (λ row at here k. Each-append (Suits c s.leaves p) row.containers _ k (suits-new c s node item b h.leaved.rows wanted served p (sym (same-label_path row.label node.label here) ∙ same-label_path row.label p at), tt)) s.partitions (h.suits p));
      sole = λ p. pairs-in Sole node.label p _ (λ row. refl) s.partitions
          (λ row is at here k. Pairs-last Sole row.containers (container_of c s node item) k
          (subst (AllByRecursion (λ a. Sole a (container_of c s node item))) (ap (λ o. option_map_or (λ (row : Partition). row.containers) o []) is)
          (subst (λ l. AllByRecursion (λ a. Sole a (container_of c s node item)) (on_in s.partitions l)) (sym (same-label_path row.label node.label here) ∙ same-label_path row.label p at) (sole-new c s node.label item wanted served)))) (h.sole p);
    };
    submits = λ s app b h comes. record {
      leaved = leaved.submits s app b h.leaved comes;
      suits = λ p. suits-moved c s.leaves (in_leaf app.leaf (submitted app) s.leaves) (traits-submitted app s.leaves comes.unused b.kept.apps b.finds) p (on_in s.partitions p) (h.suits p);
      sole = h.sole;
    };
    asks = λ s tenant name label priority count size found b h e own given few. record {
      leaved = leaved.asks s tenant name label priority count size found b h.leaved e own given few;
      suits = λ p. suits-moved c s.leaves (in_leaf found.leaf (with_app name (set_ask (record { label = label; priority = priority; count = count; size = size }))) s.leaves)
          (λ t n is k. traits-changed found.leaf name (set_ask (record { label = label; priority = priority; count = count; size = size })) (λ app. refl) (λ app. refl) s.leaves t n ∙ k) p (on_in s.partitions p) (h.suits p);
      sole = h.sole;
    };
    finishes = λ s found b h. record {
      leaved = leaved.finishes s found b h.leaved;
      suits = λ p. Each-with (Suits c s.leaves p) (λ k. is_of (tenant_of found.leaf) found.name k ≡ false) (Suits c (in_leaf found.leaf (finished found.name) s.leaves) p)
          (λ k j off. record { label = j.label; given = j.given; traits = j.traits; found = traits-finished found.leaf found.name s.leaves k.tenant k.app off ∙ j.found; may = j.may }) _
          (all-ended c (λ q k. Suits c s.leaves q k) (all_own s (tenant_of found.leaf) found.name) s h.suits p)
          (none-left c (tenant_of found.leaf) found.name s (λ q. Each-weaker (Suits c s.leaves q) (λ k. k.id.label ≡ q) (λ k j. j.label) (on_in s.partitions q) (h.suits q)) p);
      sole = pairs-ended c Sole (all_own s (tenant_of found.leaf) found.name) s h.sole;
    };
    stops = λ s queue stopped h. record { leaved = leaved.stops s queue stopped h.leaved; suits = h.suits; sole = h.sole };
    maxima = λ s queue label share h may high. record { leaved = leaved.maxima s queue label share h.leaved may high; suits = h.suits; sole = h.sole };
  }

  -- it holds at first
  pub suited-opening : Suited c (opening c)
  suited-opening = record {
    leaved = leaved-opening c accepted;
    suits = λ p. opening-each _ c.labels p;
    sole = λ p. subst (Pairs Sole) (sym (opening-none c.labels p)) tt;
  }
