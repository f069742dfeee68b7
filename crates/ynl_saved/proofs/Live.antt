-- The lines of one leaf are read: each name in turn, and behind a live application what it asks for.
use Rattle.std.proofs.Common.{◌≡◌, inl, inr, ◌≤◌, ◌<◌, ℕ, Bool, true, false, cond, ◌&&◌, ◌||◌, is_some, List, [], ◌∷◌, ◌++◌, length, map, Option, Some, None, option_map, find, refl, sym, ap, subst, ◌∙◌, arith, append-nil, length-append}
use Rattle.std.specs.Prelude.{IfSome, flat_map, nat_lt, count_by}
use Rattle.std.specs.List.{AllByRecursion, list_any}
use Rattle.std.specs.Option.{option_map_or, option_and_then}
use Rattle.std.proofs.lemmas.Bool.{and_from}
use Rattle.std.proofs.lemmas.Bool.Decides.{nat_tests}
use Rattle.std.proofs.lemmas.Grind.{flat_map-append}
use Rattle.std.proofs.lemmas.List.Elements.{filter-append}
use Rattle.std.proofs.lemmas.List.Sums.{length-filter}
use Rattle.ynl_resource.specs.Names.{same_label, same_name, same_path, tenant_of}
use Rattle.ynl_resource.specs.Ranges.{most_asks}
use Rattle.ynl_resource.specs.declared.names.Name.{Name}
use Rattle.ynl_model.specs.Applications.{Application, LeafApps, find_app, in_leaf, is_ask_of, is_used, leaf_of, submitted, with_app}
use Rattle.ynl_model.specs.declared.applications.AskRow.{AskRow}
use Rattle.ynl_model.specs.Cluster.{State}
use Rattle.ynl_model.specs.Events.{is_foreign}
use Rattle.ynl_model.specs.Queues.{Config, is_leaf, is_queue, setting}
use Rattle.ynl_saved.specs.declared.lines.StateLine.TheVariants.{Live, Ask, Finished}
use Rattle.ynl_saved.specs.Saving.{app_lines, leaf_lines, live_lines}
use Rattle.ynl_saved.specs.Restoring.{has_place, may_ask}
use Rattle.ynl_laws.specs.Untied.{Differs, Distinct}
use Rattle.ynl_laws.specs.Working.{Pairs}
use Rattle.ynl_laws.proofs.Lists.{Each-append, Each-find, Each-split, any-last, find-nothing, found-passes}
use Rattle.ynl_laws.proofs.Lives.Entitled.{Fitting}
use Rattle.ynl_laws.proofs.Names.{same-label_self, same-name_self, same-name_sym}
use Rattle.ynl_saved.proofs.Leaved.{same-path_self}
use Rattle.ynl_saved.proofs.Leaves.{Given, InOrder, IsCounted, IsLeaf, asks_on}
use Rattle.ynl_saved.proofs.Rows.{find-in, pairs-before, turned, update-in}
use Rattle.ynl_saved.proofs.Sound.{off, reads-ask, reads-finished, reads-live}
use Rattle.ynl_saved.proofs.Suited.{not-foreign}
use Rattle.ynl_saved.proofs.Told.{Reads, Side, flat-ones, plain-section, reads-append}

-- ---- the live applications of names

-- the live application of a name, if there is one
abbrev pub live : List Application → Name → List Application
live apps name = option_map_or (λ app. app ∷ []) (find (λ app. same_name app.name name) apps) []

-- and those of names, in their order
abbrev pub lives : List Application → List Name → List Application
lives apps names = flat_map (live apps) names

-- applications in the order of names that another name differs from have not that name
order-none : (name : Name) (names : List Name) (apps : List Application) → InOrder names apps → AllByRecursion (λ other. same_name name other ≡ false) names → AllByRecursion (λ (app : Application). same_name app.name name ≡ false) apps
order-none name [] apps h away = subst (AllByRecursion (λ (app : Application). same_name app.name name ≡ false)) (sym h) tt
order-none name (other ∷ names) apps (inl k) away =
    subst (AllByRecursion (λ (app : Application). same_name app.name name ≡ false)) (sym k.2)
    (ap (λ n. same_name n name) k.3 ∙ turned same_name same-name_sym same-name_self name other away.0, order-none name names k.1 k.4 away.1)
order-none name (other ∷ names) apps (inr k) away = order-none name names apps k away.1

-- an application more of another name does not matter
lives-more : (app : Application) (rest : List Application) (names : List Name) → AllByRecursion (λ name. same_name app.name name ≡ false) names → lives (app ∷ rest) names ≡ lives rest names
lives-more app rest [] away = refl
lives-more app rest (name ∷ names) away = λ i. option_map_or (λ a. a ∷ []) (cond (away.0 i) (Some app) (find (λ a. same_name a.name name) rest)) [] ++ lives-more app rest names away.1 i

-- the live applications of the names in whose order they come are all
pub lives-all : (names : List Name) (apps : List Application) → InOrder names apps → Pairs (λ a b. same_name a b ≡ false) names → lives apps names ≡ apps
lives-all [] apps h differ = sym h
lives-all (name ∷ names) apps (inl k) differ =
    ap (λ a. lives a (name ∷ names)) k.2
    ∙ (λ i. option_map_or (λ a. a ∷ []) (cond (self i) (Some k.0) (find (λ a. same_name a.name name) k.1)) [] ++ lives-more k.0 k.1 names (subst (λ n. AllByRecursion (λ other. same_name n other ≡ false) names) (sym k.3) differ.0) i)
    ∙ ap (λ a. k.0 ∷ a) (lives-all names k.1 k.4 differ.1) ∙ sym k.2
  where
    self : same_name k.0.name name ≡ true
    self = ap (λ n. same_name n name) k.3 ∙ same-name_self name
lives-all (name ∷ names) apps (inr k) differ =
    (λ i. option_map_or (λ a. a ∷ []) (find-nothing (λ a. same_name a.name name) apps (order-none name names apps k differ.0) i) [] ++ lives apps names) ∙ lives-all names apps k differ.1

-- the live applications of names that a name differs from have not that name
lives-away : (apps : List Application) (name : Name) (names : List Name) → AllByRecursion (λ other. same_name other name ≡ false) names → AllByRecursion (λ (app : Application). same_name app.name name ≡ false) (lives apps names)
lives-away apps name [] away = tt
lives-away apps name (other ∷ names) away = Each-append (λ (app : Application). same_name app.name name ≡ false) (live apps other) (lives apps names) (one (find (λ app. same_name app.name other) apps) (found-passes (λ app. same_name app.name other) apps)) (lives-away apps name names away.1)
  where
    one : (o : Option Application) → IfSome o (λ app. same_name app.name other ≡ true) → AllByRecursion (λ (app : Application). same_name app.name name ≡ false) (option_map_or (λ app. app ∷ []) o [])
    one None h = tt
    one (Some app) h = (ap (λ n. same_name n name) (same-name_sym app.name other h) ∙ away.0, tt)

-- ---- one leaf among others

-- a leaf before its lines
abbrev pub empty : LeafApps → LeafApps
empty row = record { leaf = row.leaf; names = []; apps = [] }

-- whether a row is that of a tenant's name
abbrev named : Name → Name → LeafApps → Bool
named tenant name row = same_name (tenant_of row.leaf) tenant && list_any (same_name name) row.names

-- a row without names is none
empty-off : (tenant name : Name) (todo : List LeafApps) → AllByRecursion (λ row. named tenant name row ≡ false) (map empty todo)
empty-off tenant name [] = tt
empty-off tenant name (row ∷ todo) = (both (same_name (tenant_of row.leaf) tenant), empty-off tenant name todo)
  where
    both : (b : Bool) → (b && false) ≡ false
    both true = refl
    both false = refl

-- what is known of a leaf whose lines are read: the leaves before it are others, no name of it is one of theirs, and it is as it was tested
pub record Reading (c : Config) (done : List LeafApps) (row : LeafApps) (todo : List LeafApps) : Type 0 where
  pub before : AllByRecursion (λ (other : LeafApps). same_path other.leaf row.leaf ≡ false) done
  pub behind : AllByRecursion (λ (other : LeafApps). same_path other.leaf row.leaf ≡ false) (map empty todo)
  pub names : AllByRecursion (λ name. AllByRecursion (λ (other : LeafApps). named (tenant_of row.leaf) name other ≡ false) done) row.names
  pub is : IsLeaf c row
  pub apps : AllByRecursion (λ (app : Application). (app.leaf ≡ row.leaf) × Fitting c app × Distinct app × Given c app) row.apps
  pub queue : is_queue c row.leaf ≡ true
  pub leaf : is_leaf c row.leaf ≡ true

module _ (c : Config) (side : Side) (s2 : State) (done : List LeafApps) (row : LeafApps) (todo : List LeafApps) (h : Reading c done row todo) where
  -- the state with the leaf as far as it is told
  abbrev at : LeafApps → State
  at y = record s2 { leaves = done ++ y ∷ map empty todo }

  -- the leaf with the names and applications that are told
  abbrev partial : List Name → List Application → LeafApps
  partial names apps = record { leaf = row.leaf; names = names; apps = apps }

  -- the leaf alone changes
  one-leaf : (change : LeafApps → LeafApps) (names : List Name) (apps : List Application) → in_leaf row.leaf change (done ++ partial names apps ∷ map empty todo) ≡ done ++ change (partial names apps) ∷ map empty todo
  one-leaf change names apps = update-in (λ other. same_path other.leaf row.leaf) change done (partial names apps) (map empty todo) h.before (same-path_self row.leaf) h.behind

  -- a name whose line is to come is not used
  unused : (dn : List Name) (name : Name) (apps : List Application) → AllByRecursion (λ (other : LeafApps). named (tenant_of row.leaf) name other ≡ false) done → AllByRecursion (λ other. same_name other name ≡ false) dn →
      is_used (done ++ partial dn apps ∷ map empty todo) (tenant_of row.leaf) name ≡ false
  unfolding leaf_of
  unused dn name apps others away = ap (λ o. is_some (option_map (λ (row : LeafApps). row.leaf) o)) (find-nothing (named (tenant_of row.leaf) name) (done ++ partial dn apps ∷ map empty todo)
      (Each-append (λ other. named (tenant_of row.leaf) name other ≡ false) done (partial dn apps ∷ map empty todo) others (none (same_name (tenant_of row.leaf) (tenant_of row.leaf)) (any dn away), empty-off (tenant_of row.leaf) name todo)))
    where
      none : (b : Bool) {a : Bool} → a ≡ false → (b && a) ≡ false
      none true e = e
      none false e = refl

      any : (xs : List Name) → AllByRecursion (λ other. same_name other name ≡ false) xs → list_any (same_name name) xs ≡ false
      any [] k = refl
      any (x ∷ xs) k = (λ i. turned same_name same-name_sym same-name_self x name k.0 i || list_any (same_name name) xs) ∙ any xs k.1

  -- an application that is told last is found
  found-last : (dn : List Name) (apps : List Application) (app : Application) → AllByRecursion (λ (other : LeafApps). named (tenant_of row.leaf) app.name other ≡ false) done → AllByRecursion (λ (other : Application). same_name other.name app.name ≡ false) apps →
      find_app (done ++ partial (dn ++ app.name ∷ []) (apps ++ app ∷ []) ∷ map empty todo) (tenant_of row.leaf) app.name ≡ Some app
  unfolding find_app
  found-last dn apps app others away =
      ap (option_and_then (λ (row : LeafApps). find (λ other. same_name other.name app.name) row.apps))
      (find-in (named (tenant_of row.leaf) app.name) done (partial (dn ++ app.name ∷ []) (apps ++ app ∷ [])) (map empty todo) others
      (and_from _ _ (same-name_self (tenant_of row.leaf)) (any-last (same_name app.name) dn app.name (same-name_self app.name))))
      ∙ find-in (λ other. same_name other.name app.name) apps app [] away (same-name_self app.name)

  -- there is a place for one more
  place : (dn : List Name) (apps : List Application) → length apps < setting (λ row. row.leaf.maximum_applications) 0 c row.leaf → has_place c (at (partial dn apps)) row.leaf ≡ true
  place dn apps few =
      ap (λ o. nat_lt (length (option_map_or (λ (row : LeafApps). row.apps) o [])) (setting (λ row. row.leaf.maximum_applications) 0 c row.leaf))
      (find-in (λ other. same_path other.leaf row.leaf) done (partial dn apps) (map empty todo) h.before (same-path_self row.leaf))
      ∙ less (length apps) (setting (λ row. row.leaf.maximum_applications) 0 c row.leaf) few
    where
      less : (m n : ℕ) → m < n → nat_lt m n ≡ true
      less m n k = grind (arith, nat_tests, k)

  -- ---- what one application asks for

  module _ (app : Application) (dn : List Name) (apps : List Application) (others : AllByRecursion (λ (other : LeafApps). named (tenant_of row.leaf) app.name other ≡ false) done) (away : AllByRecursion (λ (other : Application). same_name other.name app.name ≡ false) apps)
      (leaf : app.leaf ≡ row.leaf) (fitting : Fitting c app) (distinct : Distinct app) (given : Given c app) where
    -- the state with the asks that are told of the application
    abbrev with_asks : List AskRow → State
    with_asks da = at (partial (dn ++ app.name ∷ []) (apps ++ record app { asks = da } ∷ []))

    -- each ask may come behind those before it
    may : (da : List AskRow) (ask : AskRow) (ta : List AskRow) → da ++ ask ∷ ta ≡ app.asks → may_ask c ask (record app { asks = da }) ≡ true
    may da ask ta e =
        let own : is_foreign ask.label app ≡ false = here (λ (ask : AskRow). is_foreign ask.label app ≡ false) fitting.1 in
        let counted : IsCounted c ask = here (IsCounted c) given.asks in
        and_from _ _ (and_from _ _ (and_from _ _ (and_from _ _ (not-foreign ask.label app own) counted.0) counted.1)
        (off (ap is_some (find-nothing (is_ask_of ask.label ask.priority) da (pairs-before Differs da ask ta (subst (Pairs Differs) (sym e) distinct))))))
        (less (count_by (λ (other : AskRow). same_label other.label ask.label) da) most_asks (subst (λ n. n < most_asks) (length-filter (λ (other : AskRow). same_label other.label ask.label) da) fewer))
      where
        here : (P : AskRow → Type 0) → AllByRecursion P app.asks → P ask
        here P all = (Each-split P da (ask ∷ ta) (subst (AllByRecursion P) (sym e) all)).1.0

        less : (m n : ℕ) → m < n → nat_lt m n ≡ true
        less m n k = grind (arith, nat_tests, k)

        with-one : (xs ys : List AskRow) (n : ℕ) → length (xs ++ ask ∷ ys) ≤ n → length xs < n
        with-one xs ys n k = omega (arith, k, length-append xs (ask ∷ ys))

        fewer : length (asks_on ask.label da) < most_asks
        fewer = with-one (asks_on ask.label da) (asks_on ask.label ta) most_asks
            (subst (λ xs. length xs ≤ most_asks) (ap (asks_on ask.label) (sym e) ∙ filter-append (λ other. same_label other.label ask.label) da (ask ∷ ta) ∙ (λ i. asks_on ask.label da ++ cond (same-label_self ask.label i) (ask ∷ asks_on ask.label ta) (asks_on ask.label ta)))
            (given.few ask.label))

    -- the line of one ask is read
    ask-step : (da : List AskRow) (ask : AskRow) (ta : List AskRow) → da ++ ask ∷ ta ≡ app.asks → Reads c (with_asks da) side (Ask (tenant_of app.leaf) app.name ask ∷ []) (with_asks (da ++ ask ∷ [])) side
    ask-step da ask ta e =
        subst (λ leaves. Reads c (with_asks da) side (Ask (tenant_of app.leaf) app.name ask ∷ []) (record s2 { leaves = leaves }) side) changed
        (reads-ask c (with_asks da) side (tenant_of app.leaf) app.name ask (record app { asks = da })
        (ap (λ path. find_app (done ++ partial (dn ++ app.name ∷ []) (apps ++ record app { asks = da } ∷ []) ∷ map empty todo) (tenant_of path) app.name) leaf ∙ found-last dn apps (record app { asks = da }) others away) (may da ask ta e))
      where
        adds : Application → Application
        adds app = record app { asks = app.asks ++ ask ∷ [] }

        changed : in_leaf app.leaf (with_app app.name adds) (done ++ partial (dn ++ app.name ∷ []) (apps ++ record app { asks = da } ∷ []) ∷ map empty todo) ≡ done ++ partial (dn ++ app.name ∷ []) (apps ++ record app { asks = da ++ ask ∷ [] } ∷ []) ∷ map empty todo
        changed =
            ap (λ path. in_leaf path (with_app app.name adds) (done ++ partial (dn ++ app.name ∷ []) (apps ++ record app { asks = da } ∷ []) ∷ map empty todo)) leaf
            ∙ one-leaf (with_app app.name adds) (dn ++ app.name ∷ []) (apps ++ record app { asks = da } ∷ [])
            ∙ ap (λ more. done ++ partial (dn ++ app.name ∷ []) more ∷ map empty todo) (update-in (λ other. same_name other.name app.name) adds apps (record app { asks = da }) [] away (same-name_self app.name) tt)

    -- the lines of a live application
    reads-app : AllByRecursion (λ other. same_name other app.name ≡ false) dn → length apps < setting (λ row. row.leaf.maximum_applications) 0 c row.leaf → Reads c (at (partial dn apps)) side (live_lines app) (at (partial (dn ++ app.name ∷ []) (apps ++ app ∷ []))) side
    reads-app fresh few =
        reads-append c (at (partial dn apps)) (with_asks []) (with_asks app.asks) side side side (Live app.leaf app.name app.user app.home app.master ∷ []) (map (Ask (tenant_of app.leaf) app.name) app.asks) first
        (subst (λ lines. Reads c (with_asks []) side lines (with_asks app.asks) side) (sym (flat-ones (Ask (tenant_of app.leaf) app.name) app.asks))
        (plain-section c (λ ask. Ask (tenant_of app.leaf) app.name ask ∷ []) (λ da ta. with_asks da) side app.asks ask-step [] app.asks refl))
      where
        first : Reads c (at (partial dn apps)) side (Live app.leaf app.name app.user app.home app.master ∷ []) (with_asks []) side
        first = subst (λ leaves. Reads c (at (partial dn apps)) side (Live app.leaf app.name app.user app.home app.master ∷ []) (record s2 { leaves = leaves }) side)
            (ap (λ path. in_leaf path (submitted (record app { asks = [] })) (done ++ partial dn apps ∷ map empty todo)) leaf ∙ one-leaf (submitted (record app { asks = [] })) dn apps)
            (reads-live c (at (partial dn apps)) side app.leaf app.name app.user app.home app.master (ap (is_queue c) leaf ∙ h.queue) (ap (is_leaf c) leaf ∙ h.leaf)
            (ap (λ path. is_used (done ++ partial dn apps ∷ map empty todo) (tenant_of path) app.name) leaf ∙ unused dn app.name apps others fresh) fitting.0 given.master (ap (has_place c (at (partial dn apps))) leaf ∙ place dn apps few))

  -- ---- names in turn

  -- the lines of one name are read
  name-step : (dn : List Name) (name : Name) (tn : List Name) → dn ++ name ∷ tn ≡ row.names → Reads c (at (partial dn (lives row.apps dn))) side (app_lines row name) (at (partial (dn ++ name ∷ []) (lives row.apps (dn ++ name ∷ [])))) side
  name-step dn name tn e =
      subst (λ apps. Reads c (at (partial dn (lives row.apps dn))) side (app_lines row name) (at (partial (dn ++ name ∷ []) apps)) side)
      (sym (flat_map-append (live row.apps) dn (name ∷ []) ∙ ap (λ a. lives row.apps dn ++ a) (append-nil (live row.apps name))))
      (go (find (λ app. same_name app.name name) row.apps) refl)
    where
      others : AllByRecursion (λ (other : LeafApps). named (tenant_of row.leaf) name other ≡ false) done
      others = (Each-split (λ name. AllByRecursion (λ (other : LeafApps). named (tenant_of row.leaf) name other ≡ false) done) dn (name ∷ tn) (subst (AllByRecursion (λ name. AllByRecursion (λ (other : LeafApps). named (tenant_of row.leaf) name other ≡ false) done)) (sym e) h.names)).1.0

      fresh : AllByRecursion (λ other. same_name other name ≡ false) dn
      fresh = let is = h.is in pairs-before (λ a b. same_name a b ≡ false) dn name tn (subst (Pairs (λ a b. same_name a b ≡ false)) (sym e) is.differ)

      with-one : (xs : List Application) (app : Application) (ys : List Application) (n : ℕ) → length (xs ++ app ∷ ys) ≤ n → length xs < n
      with-one xs app ys n k = omega (arith, k, length-append xs (app ∷ ys))

      few : (app : Application) → find (λ app. same_name app.name name) row.apps ≡ Some app → length (lives row.apps dn) < setting (λ row. row.leaf.maximum_applications) 0 c row.leaf
      few app f = let is = h.is in with-one (lives row.apps dn) app (lives row.apps tn) (setting (λ row. row.leaf.maximum_applications) 0 c row.leaf)
          (subst (λ xs. length xs ≤ setting (λ row. row.leaf.maximum_applications) 0 c row.leaf)
          (sym (lives-all row.names row.apps is.order is.differ) ∙ ap (lives row.apps) (sym e) ∙ flat_map-append (live row.apps) dn (name ∷ tn) ∙ (λ i. lives row.apps dn ++ (option_map_or (λ a. a ∷ []) (f i) [] ++ lives row.apps tn))) is.few)

      go : (o : Option Application) → find (λ app. same_name app.name name) row.apps ≡ o →
          Reads c (at (partial dn (lives row.apps dn))) side (option_map_or live_lines o (Finished row.leaf name ∷ [])) (at (partial (dn ++ name ∷ []) (lives row.apps dn ++ option_map_or (λ app. app ∷ []) o []))) side
      go None f =
          subst (λ leaves. Reads c (at (partial dn (lives row.apps dn))) side (Finished row.leaf name ∷ []) (record s2 { leaves = leaves }) side)
          (one-leaf (λ row. record row { names = row.names ++ name ∷ [] }) dn (lives row.apps dn) ∙ ap (λ apps. done ++ partial (dn ++ name ∷ []) apps ∷ map empty todo) (sym (append-nil (lives row.apps dn))))
          (reads-finished c (at (partial dn (lives row.apps dn))) side row.leaf name h.queue h.leaf (unused dn name (lives row.apps dn) others fresh))
      go (Some app) f =
          let all = Each-find (λ (app : Application). (app.leaf ≡ row.leaf) × Fitting c app × Distinct app × Given c app) (λ app. same_name app.name name) row.apps h.apps app f in
          let same : name ≡ app.name = sym (same-name_sym app.name name all.1) in
          subst (λ n. Reads c (at (partial dn (lives row.apps dn))) side (live_lines app) (at (partial (dn ++ n ∷ []) (lives row.apps dn ++ app ∷ []))) side) (sym same)
          (reads-app app dn (lives row.apps dn) (subst (λ n. AllByRecursion (λ (other : LeafApps). named (tenant_of row.leaf) n other ≡ false) done) same others)
          (lives-away row.apps app.name dn (subst (λ n. AllByRecursion (λ other. same_name other n ≡ false) dn) same fresh)) all.0.0 all.0.1 all.0.2 all.0.3
          (subst (λ n. AllByRecursion (λ other. same_name other n ≡ false) dn) same fresh) (few app f))

  -- the lines of the leaf
  pub reads-leaf : Reads c (at (empty row)) side (leaf_lines row) (at row) side
  reads-leaf =
      let is = h.is in
      subst (λ apps. Reads c (at (empty row)) side (leaf_lines row) (at (partial row.names apps)) side) (lives-all row.names row.apps is.order is.differ)
      (plain-section c (app_lines row) (λ dn tn. at (partial dn (lives row.apps dn))) side row.names name-step [] row.names refl)
