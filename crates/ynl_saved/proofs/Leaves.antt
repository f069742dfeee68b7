-- In each state the live applications of a leaf come in the order of the names, which differ; and sizes, counts and numbers of asks are as they were tested.
use Rattle.std.proofs.Common.{◌≡◌, ◌⊎◌, inl, inr, ◌≤◌, ◌<◌, ◌+◌, ◌-◌, ℕ, Bool, true, false, cond, not, ◌&&◌, ◌==◌, is_some, List, [], ◌∷◌, ◌++◌, length, map, Some, filter, find, refl, sym, ap, subst, ◌∙◌, arith, length-append, le_trans}
use Rattle.std.specs.Prelude.{nat_le, nat_lt, count_by, if◌then◌else◌}
use Rattle.std.specs.List.{AllByRecursion}
use Rattle.std.proofs.lemmas.Bool.Decides.{nat_tests}
use Rattle.std.proofs.lemmas.Bool.{and_parts}
use Rattle.std.proofs.lemmas.List.{length-map}
use Rattle.std.proofs.lemmas.List.Sums.{length-filter, count_by-le-length}
use mathlib.Core.Bool.{true≢false}
use Rattle.ynl_resource.specs.Amounts.{fits_in}
use Rattle.ynl_resource.specs.Names.{same_label, same_name}
use Rattle.ynl_resource.specs.Ranges.{most_asks}
use Rattle.ynl_resource.specs.Tables.{put, update, without}
use Rattle.ynl_resource.specs.declared.amounts.Resource.{Resource}
use Rattle.ynl_resource.specs.declared.labels.Label.{Label}
use Rattle.ynl_resource.specs.declared.names.Name.{Name}
use Rattle.ynl_model.specs.Applications.{Application, LeafApps, is_ask_of, set_ask, with_app, finished, submitted}
use Rattle.ynl_model.specs.declared.applications.AskRow.{AskRow}
use Rattle.ynl_model.specs.declared.proposals.What.{What}
use Rattle.ynl_model.specs.declared.proposals.What.TheVariants.{Master, Ask as Asked}
use Rattle.ynl_model.specs.Changes.{taken}
use Rattle.ynl_model.specs.Events.{is_one_too_many}
use Rattle.ynl_model.specs.Queues.{Config, setting}
use Rattle.ynl_laws.specs.Working.{Pairs}
use Rattle.ynl_laws.proofs.Lists.{Each-append, Each-both, Each-filter, Each-kept, Each-put, Pairs-last, filter-swap, filter-update}
use Rattle.ynl_laws.proofs.Names.{same-label_path}
use Rattle.ynl_laws.proofs.Logic.{not-true}
use Rattle.ynl_saved.proofs.Rows.{Each-updated}

-- ---- names and applications in one order

-- applications come in the order of names, and each has one of them
abbrev pub InOrder : List Name → List Application → Type 0
InOrder [] apps = apps ≡ []
InOrder (name ∷ names) apps = ((app : Application) × (rest : List Application) × (apps ≡ app ∷ rest) × (app.name ≡ name) × InOrder names rest) ⊎ InOrder names apps

-- one more comes last
pub order-last : (names : List Name) (apps : List Application) (app : Application) → InOrder names apps → InOrder (names ++ app.name ∷ []) (apps ++ app ∷ [])
order-last [] apps app h = inl (app, [], ap (λ a. a ++ app ∷ []) h, refl, refl)
order-last (name ∷ names) apps app (inl k) = inl (k.0, k.1 ++ app ∷ [], ap (λ a. a ++ app ∷ []) k.2, k.3, order-last names k.1 app k.4)
order-last (name ∷ names) apps app (inr k) = inr (order-last names apps app k)

-- some go
pub order-filter : (f : Application → Bool) (names : List Name) (apps : List Application) → InOrder names apps → InOrder names (filter f apps)
order-filter f [] apps h = ap (filter f) h
order-filter f (name ∷ names) apps (inl k) = go (f k.0) refl (order-filter f names k.1 k.4)
  where
    go : (b : Bool) → f k.0 ≡ b → InOrder names (filter f k.1) → InOrder (name ∷ names) (filter f apps)
    go true e rest = inl (k.0, filter f k.1, ap (filter f) k.2 ∙ (λ i. cond (e i) (k.0 ∷ filter f k.1) (filter f k.1)), k.3, rest)
    go false e rest = inr (subst (InOrder names) (sym (ap (filter f) k.2 ∙ (λ i. cond (e i) (k.0 ∷ filter f k.1) (filter f k.1)))) rest)
order-filter f (name ∷ names) apps (inr k) = inr (order-filter f names apps k)

-- they change, and keep their names
pub order-map : (f : Application → Application) → ((app : Application) → (f app).name ≡ app.name) → (names : List Name) (apps : List Application) → InOrder names apps → InOrder names (map f apps)
order-map f keeps [] apps h = ap (map f) h
order-map f keeps (name ∷ names) apps (inl k) = inl (f k.0, map f k.1, ap (map f) k.2, keeps k.0 ∙ k.3, order-map f keeps names k.1 k.4)
order-map f keeps (name ∷ names) apps (inr k) = inr (order-map f keeps names apps k)

-- ---- sizes, counts and numbers of asks

-- an ask counts something, and its size is within the largest
abbrev pub IsCounted : Config → AskRow → Type 0
IsCounted c ask = (nat_lt 0 ask.count ≡ true) × (fits_in ask.size c.maximum_allocation ≡ true)

-- an application's asks of a label
abbrev pub asks_on : Label → List AskRow → List AskRow
asks_on label asks = filter (λ other. same_label other.label label) asks

-- what is known of a live application: sizes within the largest, and not too many asks on any label
pub record Given (c : Config) (app : Application) : Type 0 where
  pub master : fits_in app.master c.maximum_allocation ≡ true
  pub asks : AllByRecursion (IsCounted c) app.asks
  pub few : (label : Label) → length (asks_on label app.asks) ≤ most_asks

-- what a filter leaves of asks is no more
fewer-asks : (f : AskRow → Bool) (label : Label) (asks : List AskRow) → length (asks_on label (filter f asks)) ≤ length (asks_on label asks)
fewer-asks f label asks = subst (λ few. length few ≤ length (asks_on label asks)) (sym (filter-swap f (λ other. same_label other.label label) asks))
    (omega (arith, length-filter f (asks_on label asks), count_by-le-length f (asks_on label asks)))

-- one less is asked for
pub given-taken : (c : Config) (what : What) (app : Application) → Given c app → Given c (taken what app)
given-taken c Master app h = h
given-taken c (Asked label priority) app h = record {
  master = h.master;
  asks = Each-kept (IsCounted c) (λ ask. not (is_ask_of label priority ask && (ask.count == 0))) (update (is_ask_of label priority) (λ ask. record ask { count = ask.count - 1 }) app.asks)
      (Each-updated (IsCounted c) (λ ask. not (is_ask_of label priority ask && (ask.count == 0)) ≡ true → IsCounted c ask) (is_ask_of label priority) (λ ask. record ask { count = ask.count - 1 })
      (λ ask e k left. (above (ask.count - 1) (is_ask_of label priority ask) e left, k.1)) (λ ask e k left. k) app.asks h.asks);
  few = λ other. le_trans (fewer-asks (λ ask. not (is_ask_of label priority ask && (ask.count == 0))) other (update (is_ask_of label priority) (λ ask. record ask { count = ask.count - 1 }) app.asks))
      (subst (λ n. n ≤ most_asks) (sym (ap length (filter-update (λ ask. same_label ask.label other) (is_ask_of label priority) (λ ask. record ask { count = ask.count - 1 }) (λ ask. refl) app.asks)
      ∙ length-map (asks_on other app.asks) (λ ask. if is_ask_of label priority ask then record ask { count = ask.count - 1 } else ask))) (h.few other));
}
  where
    above : (n : ℕ) (b : Bool) → b ≡ true → not (b && (n == 0)) ≡ true → nat_lt 0 n ≡ true
    above n true e left = let off : (n == 0) ≡ false = not-true _ left in grind (arith, nat_tests, off)
    above n false e left = absurd (true≢false (sym e))

-- an ask is put in the place of the one of its label and priority, or last
put-on : (new : AskRow) (label : Label) (asks : List AskRow) → (b : Bool) → is_some (find (is_ask_of new.label new.priority) asks) ≡ b →
    length (asks_on label (put (is_ask_of new.label new.priority) new asks)) ≡ length (asks_on label asks) + cond b 0 (cond (same_label new.label label) 1 0)
put-on new label [] true e = absurd (true≢false (sym e))
put-on new label [] false e = go (same_label new.label label)
  where
    go : (b : Bool) → length (cond b (new ∷ []) []) ≡ 0 + cond b 1 0
    go true = refl
    go false = refl
put-on new label (ask ∷ asks) b e = go (is_ask_of new.label new.priority ask) refl e (put-on new label asks b)
  where
    first : (same : is_ask_of new.label new.priority ask ≡ true) → same_label new.label label ≡ same_label ask.label label
    first same = ap (λ l. same_label l label) (sym (same-label_path ask.label new.label (and_parts (same_label ask.label new.label) _ same).0))

    one : (t : Bool) (x y : AskRow) (xs : List AskRow) → length (cond t (x ∷ xs) xs) ≡ length (cond t (y ∷ xs) xs) + 0
    one true x y xs = omega arith
    one false x y xs = omega arith

    more : (t : Bool) (xs ys : List AskRow) (n : ℕ) → length xs ≡ length ys + n → length (cond t (ask ∷ xs) xs) ≡ length (cond t (ask ∷ ys) ys) + n
    more true xs ys n k = omega (arith, k)
    more false xs ys n k = k

    go : (t : Bool) → is_ask_of new.label new.priority ask ≡ t → is_some (cond t (Some ask) (find (is_ask_of new.label new.priority) asks)) ≡ b →
        (is_some (find (is_ask_of new.label new.priority) asks) ≡ b → length (asks_on label (put (is_ask_of new.label new.priority) new asks)) ≡ length (asks_on label asks) + cond b 0 (cond (same_label new.label label) 1 0)) →
        length (asks_on label (cond t (new ∷ asks) (ask ∷ put (is_ask_of new.label new.priority) new asks))) ≡ length (asks_on label (ask ∷ asks)) + cond b 0 (cond (same_label new.label label) 1 0)
    go true same k rest =
        (λ i. length (cond (first same i) (new ∷ asks_on label asks) (asks_on label asks)))
        ∙ one (same_label ask.label label) new ask (asks_on label asks)
        ∙ (λ i. length (asks_on label (ask ∷ asks)) + cond (k i) 0 (cond (same_label new.label label) 1 0))
    go false same k rest = more (same_label ask.label label) (asks_on label (put (is_ask_of new.label new.priority) new asks)) (asks_on label asks) _ (rest k)

-- an ask is set that is not one too many
pub given-asked : (c : Config) (label : Label) (priority count : ℕ) (size : Resource) (app : Application) → fits_in size c.maximum_allocation ≡ true → is_one_too_many label priority count app ≡ false → Given c app →
    Given c (set_ask (record { label = label; priority = priority; count = count; size = size }) app)
given-asked c label priority count size app fits room h = go (count == 0) refl
  where
    new : AskRow
    new = record { label = label; priority = priority; count = count; size = size }

    some : (n : ℕ) → (n == 0) ≡ false → nat_lt 0 n ≡ true
    some n e = grind (arith, nat_tests, e)

    -- where the ask is new there is a place for it
    place : (a b : Bool) (n : ℕ) → a ≡ true → b ≡ false → (a && not b && nat_le most_asks n) ≡ false → n < most_asks
    place true false n e f k = grind (arith, nat_tests, k)
    place true true n e f k = absurd (true≢false f)
    place false b n e f k = absurd (true≢false (sym e))

    below : (count == 0) ≡ false → (b : Bool) → is_some (find (is_ask_of label priority) app.asks) ≡ b → (t : Bool) (other : Label) → same_label label other ≡ t → length (asks_on other app.asks) + cond b 0 (cond t 1 0) ≤ most_asks
    below e true f t other same = le_add (h.few other)
      where
        le_add : {m n : ℕ} → m ≤ n → m + 0 ≤ n
        le_add k = omega (arith, k)
    below e false f true other same =
        next (subst (λ l. length (asks_on l app.asks) < most_asks) (same-label_path label other same)
        (subst (λ n. n < most_asks) (sym (length-filter (λ (ask : AskRow). same_label ask.label label) app.asks)) (place (nat_lt 0 count) _ (count_by (λ (ask : AskRow). same_label ask.label label) app.asks) (some count e) f room)))
      where
        next : {m n : ℕ} → m < n → m + 1 ≤ n
        next k = omega (arith, k)
    below e false f false other same = le_add (h.few other)
      where
        le_add : {m n : ℕ} → m ≤ n → m + 0 ≤ n
        le_add k = omega (arith, k)

    go : (b : Bool) → (count == 0) ≡ b → Given c (record app { asks = cond b (without (is_ask_of label priority) app.asks) (put (is_ask_of label priority) new app.asks) })
    go true e = record {
      master = h.master;
      asks = Each-filter (IsCounted c) (λ ask. not (is_ask_of label priority ask)) app.asks h.asks;
      few = λ other. le_trans (fewer-asks (λ ask. not (is_ask_of label priority ask)) other app.asks) (h.few other);
    }
    go false e = record {
      master = h.master;
      asks = Each-put (IsCounted c) (is_ask_of label priority) new (some count e, fits) app.asks h.asks;
      few = λ other. subst (λ n. n ≤ most_asks) (sym (put-on new other app.asks (is_some (find (is_ask_of label priority) app.asks)) refl))
          (below e (is_some (find (is_ask_of label priority) app.asks)) refl (same_label label other) other refl);
    }

-- ---- one leaf

-- what is known of each leaf
pub record IsLeaf (c : Config) (row : LeafApps) : Type 0 where
  pub differ : Pairs (λ a b. same_name a b ≡ false) row.names
  pub order : InOrder row.names row.apps
  pub few : length row.apps ≤ setting (λ row. row.leaf.maximum_applications) 0 c row.leaf
  pub given : AllByRecursion (Given c) row.apps

-- one of its applications changes, and keeps its name
pub leaf-changed : (c : Config) (R : Application → Type 0) (name : Name) (change : Application → Application) → ((app : Application) → (change app).name ≡ app.name) → (row : LeafApps) →
    ((app : Application) → same_name app.name name ≡ true → R app → Given c app → Given c (change app)) → AllByRecursion R row.apps → IsLeaf c row → IsLeaf c (with_app name change row)
leaf-changed c R name change keeps row step more h = record {
  differ = h.differ;
  order = order-map (λ app. if same_name app.name name then change app else app) (λ app. elim (same_name app.name name) as (λ b. (cond b (change app) app).name ≡ app.name) [ true ↦ keeps app | false ↦ refl ]) row.names row.apps h.order;
  few = subst (λ n. n ≤ setting (λ row. row.leaf.maximum_applications) 0 c row.leaf) (sym (length-map row.apps (λ app. if same_name app.name name then change app else app))) h.few;
  given = Each-updated (λ app. R app × Given c app) (Given c) (λ app. same_name app.name name) change (λ app e k. step app e k.0 k.1) (λ app e k. k.1) row.apps (Each-both R (Given c) row.apps more h.given);
}

-- one of its applications is finished
pub leaf-finished : (c : Config) (name : Name) (row : LeafApps) → IsLeaf c row → IsLeaf c (finished name row)
leaf-finished c name row h = record {
  differ = h.differ;
  order = order-filter (λ app. not (same_name app.name name)) row.names row.apps h.order;
  few = le_trans (omega (arith, length-filter (λ (app : Application). not (same_name app.name name)) row.apps, count_by-le-length (λ (app : Application). not (same_name app.name name)) row.apps)) h.few;
  given = Each-filter (Given c) (λ app. not (same_name app.name name)) row.apps h.given;
}

-- an application is submitted to it
pub leaf-submitted : (c : Config) (app : Application) (row : LeafApps) → AllByRecursion (λ name. same_name name app.name ≡ false) row.names → nat_le (setting (λ row. row.leaf.maximum_applications) 0 c row.leaf) (length row.apps) ≡ false →
    Given c app → IsLeaf c row → IsLeaf c (submitted app row)
leaf-submitted c app row free room given h = record {
  differ = Pairs-last (λ a b. same_name a b ≡ false) row.names app.name h.differ free;
  order = order-last row.names row.apps app h.order;
  few = more (setting (λ row. row.leaf.maximum_applications) 0 c row.leaf) room;
  given = Each-append (Given c) row.apps (app ∷ []) h.given (given, tt);
}
  where
    more : (most : ℕ) → nat_le most (length row.apps) ≡ false → length (row.apps ++ app ∷ []) ≤ most
    more most k = let one = length-append row.apps (app ∷ []) in above most (length row.apps) (length (row.apps ++ app ∷ [])) one k
      where
        above : (most m n : ℕ) → n ≡ m + 1 → nat_le most m ≡ false → n ≤ most
        above most m n e k = grind (arith, nat_tests, e, k)
