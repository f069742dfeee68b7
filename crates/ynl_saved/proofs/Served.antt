-- What is known of a request that is placed: its application waits for a master of just that size, or asks for something of just that size.
use Rattle.std.proofs.Common.{◌≡◌, ℕ, Bool, true, false, cond, not, ◌&&◌, ◌||◌, ◌==◌, List, [], ◌∷◌, Option, Some, None, filter, find, refl, sym, ap, ◌∙◌, arith}
use Rattle.std.specs.Prelude.{IfSome, nat_lt}
use Rattle.std.specs.List.{AllByRecursion, list_any}
use Rattle.std.specs.Option.{option_map_or, option_or}
use Rattle.std.proofs.lemmas.Bool.Decides.{nat_tests}
use Rattle.std.proofs.lemmas.Bool.{and_from, and_parts}
use Rattle.ynl_resource.specs.declared.amounts.Resource.{Resource}
use Rattle.ynl_resource.specs.Names.{same_label, tenant_of}
use Rattle.ynl_resource.specs.declared.labels.Label.{Label}
use Rattle.ynl_resource.specs.declared.labels.Label.TheVariants.{Unlabelled}
use Rattle.ynl_resource.specs.Refusals.{first_that_holds}
use Rattle.ynl_model.specs.declared.nodes.Node.{Node}
use Rattle.ynl_model.specs.Queues.{Config}
use Rattle.ynl_model.specs.Applications.{Application, all_apps, find_app, is_ask_of}
use Rattle.ynl_model.specs.declared.applications.AskRow.{AskRow}
use Rattle.ynl_model.specs.Cluster.{State, node_of, runs, waits}
use Rattle.ynl_model.specs.declared.proposals.What.{What}
use Rattle.ynl_model.specs.declared.proposals.What.TheVariants.{Master, Ask as Asked}
use Rattle.ynl_model.specs.declared.proposals.Proposal.{Proposal}
use Rattle.ynl_model.specs.Service.{Item, master_item, ask_item, asks_of, masters_for, asks_for, items_for, has_room, is_eligible, eligible, takes_guests, some_eligible, guests_for, key, first_of, choice}
use Rattle.ynl_model.specs.Check.{wants, same_size, proposed_item, commit_reasons}
use Rattle.ynl_laws.specs.Found.{FindsItself}
use Rattle.ynl_laws.proofs.Events.Chosen.{none-holds}
use Rattle.ynl_laws.proofs.Events.Found.{FindsAll, finds-apps, finds-found}
use Rattle.ynl_laws.proofs.Lists.{Each-filter, Each-append, Each-map, Each-flat, Each-weaker, filter-passes, Each-both, Each-found, any-later}
use Rattle.ynl_laws.proofs.Logic.{not-false}

-- what an application wants: a master of its size while it waits, or the size of something that it asks for
abbrev pub Wanting : State → Application → What → Resource → Type 0
Wanting s app Master size = (waits s app ≡ true) × (size ≡ app.master)
Wanting s app (Asked label priority) size = list_any (λ ask. same_size ask.size size) app.asks ≡ true

-- a request is what a live application wants
pub record IsServed (s : State) (item : Item) : Type 0 where
  pub app : Application
  pub found : find_app s.leaves (tenant_of item.leaf) item.app ≡ Some app
  pub wanting : Wanting s app item.what item.size

-- numbers and sizes that are the same are equal
pub same-number : (a b : ℕ) → (a == b) ≡ true → a ≡ b
same-number a b h = grind (arith, nat_tests, h)

-- a number is the same as itself
pub same-number_self : (a : ℕ) → (a == a) ≡ true
same-number_self a = grind (arith, nat_tests)

-- sizes that are the same are equal
pub size-same : (a b : Resource) → same_size a b ≡ true → a ≡ b
size-same a b h = λ i. record { memory = same-number a.memory b.memory (and_parts (a.memory == b.memory) _ h).0 i; vcores = same-number a.vcores b.vcores (and_parts (a.memory == b.memory) _ h).1 i }

-- a size is the same as itself
pub size-self : (a : Resource) → same_size a a ≡ true
size-self a = and_from _ _ (same-number_self a.memory) (same-number_self a.vcores)

-- each ask's size is among the sizes of the asks
each-sized : (asks : List AskRow) → AllByRecursion (λ ask. list_any (λ other. same_size other.size ask.size) asks ≡ true) asks
each-sized [] = tt
each-sized (ask ∷ asks) = (
  ap (λ b. b || list_any (λ other. same_size other.size ask.size) asks) (size-self ask.size),
  Each-weaker _ _ (λ other k. any-later (λ another. same_size another.size other.size) ask asks k) asks (each-sized asks),
)

module _ (c : Config) (s : State) (finds : FindsAll s.leaves) where
  -- each master that is wanted on a partition is wanted by its application
  masters-served : (p : Label) → AllByRecursion (IsServed s) (masters_for s p)
  masters-served p = Each-map (λ app. FindsItself s app × ((waits s app && same_label app.home p) ≡ true)) (IsServed s) master_item
      (λ app k. record { app = app; found = k.0; wanting = ((and_parts (waits s app) _ k.1).0, refl) }) (filter (λ app. waits s app && same_label app.home p) (all_apps s.leaves))
      (Each-both (FindsItself s) _ (filter (λ app. waits s app && same_label app.home p) (all_apps s.leaves)) (Each-filter (FindsItself s) _ (all_apps s.leaves) (finds-apps s finds)) (filter-passes _ (all_apps s.leaves)))

  -- and so is what is asked for on a label
  asks-served : (label : Label) → AllByRecursion (IsServed s) (asks_for s label)
  unfolding asks_for
  asks-served label = Each-flat (FindsItself s) (IsServed s) (asks_of label)
      (λ app k. Each-map (λ ask. list_any (λ other. same_size other.size ask.size) app.asks ≡ true) (IsServed s) (ask_item app)
      (λ ask e. record { app = app; found = k; wanting = e }) (filter (λ ask. same_label ask.label label && nat_lt 0 ask.count) app.asks)
      (Each-filter _ _ app.asks (each-sized app.asks)))
      (filter (runs s) (all_apps s.leaves)) (Each-filter (FindsItself s) (runs s) (all_apps s.leaves) (finds-apps s finds))

  -- and each request that is eligible on a node
  eligible-served : (node : Node) → AllByRecursion (IsServed s) (eligible c s node)
  unfolding items_for
  eligible-served node = Each-filter (IsServed s) (is_eligible c s node) (items_for s node.label)
      (Each-append (IsServed s) (masters_for s node.label) (asks_for s node.label) (masters-served node.label) (asks-served node.label))

  -- and each guest
  guests-served : (node : Node) → AllByRecursion (IsServed s) (guests_for c s node)
  unfolding guests_for
  guests-served node = go (takes_guests c node.label && not (some_eligible c s node))
    where
      go : (b : Bool) → AllByRecursion (IsServed s) (cond b (filter (λ item. has_room s node item.size) (asks_for s Unlabelled)) [])
      go true = Each-filter (IsServed s) (λ item. has_room s node item.size) (asks_for s Unlabelled) (asks-served Unlabelled)
      go false = tt

  -- what is chosen for a node is wanted
  pub choice-served : (node : Node) → IfSome (choice c s node) (IsServed s)
  unfolding choice
  choice-served node = go (first_of (key c s node.label) (eligible c s node)) (first_of (key c s Unlabelled) (guests_for c s node))
      (Each-found (IsServed s) _ (eligible c s node) (eligible-served node)) (Each-found (IsServed s) _ (guests_for c s node) (guests-served node))
    where
      go : (a b : Option Item) → IfSome a (IsServed s) → IfSome b (IsServed s) → IfSome (option_or a b) (IsServed s)
      go None b h k = k
      go (Some item) b h k = h

-- what is found passes a test, and so some element does
found-any : {X : Type 0} (test q : X → Bool) (xs : List X) → option_map_or test (find q xs) false ≡ true → list_any test xs ≡ true
found-any test q [] h = h
found-any test q (x ∷ xs) h = go (q x) h (found-any test q xs)
  where
    go : (b : Bool) → option_map_or test (cond b (Some x) (find q xs)) false ≡ true → (option_map_or test (find q xs) false ≡ true → list_any test xs ≡ true) → list_any test (x ∷ xs) ≡ true
    go true h rest = ap (λ b. b || list_any test xs) h
    go false h rest = any-later test x xs (rest h)

-- the test of a proposal says that it is wanted
wanting-of : (s : State) (p : Label) (what : What) (size : Resource) (app : Application) → wants s p what size app ≡ true → Wanting s app what size
wanting-of s p Master size app h =
    let first : (waits s app && same_label app.home p) ≡ true = (and_parts (waits s app && same_label app.home p) _ h).0 in
    ((and_parts (waits s app) _ first).0, sym (size-same app.master size (and_parts (waits s app && same_label app.home p) _ h).1))
wanting-of s p (Asked label priority) size app h = found-any (λ ask. same_size ask.size size) (is_ask_of label priority) app.asks (and_parts (runs s app) _ h).1

-- what is committed is wanted
pub commit-served : (c : Config) (s : State) (proposal : Proposal) (node : Node) (app : Application) → FindsAll s.leaves → first_that_holds (commit_reasons c s proposal) ≡ None → node_of s proposal.node ≡ Some node
    → find_app s.leaves proposal.tenant proposal.app ≡ Some app → IsServed s (proposed_item proposal app)
unfolding commit_reasons
commit-served c s proposal node app finds none e f =
    let all = none-holds (commit_reasons c s proposal) none in
    record {
      app = app;
      found = finds-found s finds proposal.tenant proposal.app app f;
      wanting = wanting-of s node.label proposal.what proposal.size app
          (not-false _ (sym (λ i. option_map_or (λ node. option_map_or (λ app. not (wants s node.label proposal.what proposal.size app)) (f i) false) (e i) false) ∙ all.1.1.1.1.1.0));
    }
