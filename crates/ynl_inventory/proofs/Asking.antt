-- An application asks, or one less is asked for.
use Rattle.std.proofs.Common.{◌≡◌, ℕ, ◌-◌, Bool, true, false, cond, not, ◌&&◌, ◌==◌, nat_eq, List, [], ◌∷◌, map, refl, sym, ap, ◌∙◌, arith, true≢false}
use Rattle.std.specs.List.{AllByRecursion}
use Rattle.std.proofs.lemmas.Bool.Decides.{nat_tests}
use Rattle.ynl_resource.specs.declared.names.Name.{Name}
use Rattle.ynl_resource.specs.Names.{same_label}
use Rattle.ynl_resource.specs.Tables.{put, update, without}
use Rattle.ynl_model.specs.declared.applications.AskRow.{AskRow}
use Rattle.ynl_model.specs.Applications.{is_ask_of as is_model_ask, set_ask, take_one}
use Rattle.ynl_tables.specs.declared.apps.asks.Ask.{Ask}
use Rattle.ynl_tables.specs.apps.Asks.{is_ask_of, is_spent, lowered, with_ask, with_one_taken}
use Rattle.ynl_laws.proofs.Lists.{Each-update, Each-weaker}
use Rattle.ynl_laws.proofs.Names.{same-label_path, same-label_self}
use Rattle.ynl_slots.proofs.Entries.{itself}
use Rattle.ynl_inventory.specs.Rows.{Rows, AppRow}
use Rattle.ynl_inventory.specs.Meaning.{application_of, ask_of, label_at}
use Rattle.ynl_inventory.specs.Sound.{IsSound, HasPartition}

-- ---- rows that mean others

module _ {X Y : Type 0} (f : X → Y) (p : X → Bool) (q : Y → Bool) where
  map-put : (new : X) (xs : List X) → AllByRecursion (λ x. q (f x) ≡ p x) xs → map f (put p new xs) ≡ put q (f new) (map f xs)
  map-put new [] h = refl
  map-put new (x ∷ xs) h = go (p x) (map-put new xs h.1) ∙ ap (λ (b : Bool). cond b (f new ∷ map f xs) (f x ∷ put q (f new) (map f xs))) (sym h.0)
    where
      go : (b : Bool) → map f (put p new xs) ≡ put q (f new) (map f xs) → map f (cond b (new ∷ xs) (x ∷ put p new xs)) ≡ cond b (f new ∷ map f xs) (f x ∷ put q (f new) (map f xs))
      go true k = refl
      go false k = ap (λ ys. f x ∷ ys) k

  map-without : (xs : List X) → AllByRecursion (λ x. q (f x) ≡ p x) xs → map f (without p xs) ≡ without q (map f xs)
  map-without [] h = refl
  map-without (x ∷ xs) h = go (p x) (map-without xs h.1) ∙ ap (λ (b : Bool). let r : List Y = cond (not b) (f x ∷ without q (map f xs)) (without q (map f xs)) in r) (sym h.0)
    where
      go : (b : Bool) → map f (without p xs) ≡ without q (map f xs) → map f (cond (not b) (x ∷ without p xs) (without p xs)) ≡ cond (not b) (f x ∷ without q (map f xs)) (without q (map f xs))
      go true k = k
      go false k = ap (λ ys. f x ∷ ys) k

  map-update : (change : X → X) (other : Y → Y) → ((x : X) → f (change x) ≡ other (f x)) → (xs : List X) → AllByRecursion (λ x. q (f x) ≡ p x) xs → map f (update p change xs) ≡ update q other (map f xs)
  map-update change other means [] h = refl
  map-update change other means (x ∷ xs) h = ap (λ y. y ∷ map f (update p change xs)) (go (p x) ∙ ap (λ (b : Bool). cond b (other (f x)) (f x)) (sym h.0)) ∙ ap (λ ys. cond (q (f x)) (other (f x)) (f x) ∷ ys) (map-update change other means xs h.1)
    where
      go : (b : Bool) → f (cond b (change x) x) ≡ cond b (other (f x)) (f x)
      go true = means x
      go false = refl

-- ---- asks

module _ (v : Rows) (h : IsSound v) where
  -- partitions and their labels are told apart alike
  pub same-label : (p q : ℕ) → HasPartition v p → HasPartition v q → same_label (label_at v.partitions p) (label_at v.partitions q) ≡ nat_eq p q
  same-label p q there other = go (nat_eq p q) refl
    where
      go : (b : Bool) → nat_eq p q ≡ b → same_label (label_at v.partitions p) (label_at v.partitions q) ≡ b
      go true is = let eq : p ≡ q = grind (arith, nat_tests) in ap (λ (r : ℕ). same_label (label_at v.partitions p) (label_at v.partitions r)) (sym eq) ∙ same-label_self (label_at v.partitions p)
      go false is = no (same_label (label_at v.partitions p) (label_at v.partitions q)) refl
        where
          no : (b : Bool) → same_label (label_at v.partitions p) (label_at v.partitions q) ≡ b → b ≡ false
          no false same = refl
          no true same = let eq : p ≡ q = h.labels p q there other (same-label_path _ _ same) in absurd (true≢false (sym (ap (λ (r : ℕ). nat_eq p r) (sym eq) ∙ itself p) ∙ is))

  abbrev pub model : Ask → AskRow
  model ask = ask_of v.partitions ask

  -- an ask is that of a partition and a priority as in the model
  pub same-ask : (p priority : ℕ) → HasPartition v p → (ask : Ask) → HasPartition v ask.partition → is_model_ask (label_at v.partitions p) priority (model ask) ≡ is_ask_of p priority ask
  same-ask p priority there ask asked = ap (λ (b : Bool). b && (ask.priority == priority)) (same-label ask.partition p asked there)

  module _ (p priority : ℕ) (there : HasPartition v p) (asks : List Ask) (asked : AllByRecursion (λ ask. HasPartition v ask.partition) asks) where
    alike : AllByRecursion (λ ask. is_model_ask (label_at v.partitions p) priority (model ask) ≡ is_ask_of p priority ask) asks
    alike = Each-weaker _ _ (same-ask p priority there) asks asked

    abbrev pub lower : List Ask
    lower = update (is_ask_of p priority) lowered asks

    spent-alike : AllByRecursion (λ ask. (is_model_ask (label_at v.partitions p) priority (model ask) && ((model ask).count == 0)) ≡ is_spent p priority ask) lower
    spent-alike =
        Each-weaker _ _ (λ ask at. ap (λ (b : Bool). b && (ask.count == 0)) (same-ask p priority there ask at)) lower
        (Each-update (λ ask. HasPartition v ask.partition) (is_ask_of p priority) lowered (λ ask at. at) asks asked)

    -- one container less is asked for
    taken : map model (with_one_taken p priority asks)
        ≡ without (λ ask. is_model_ask (label_at v.partitions p) priority ask && (ask.count == 0))
        (update (is_model_ask (label_at v.partitions p) priority) (λ ask. record ask { count = ask.count - 1 }) (map model asks))
    taken =
        map-without model (is_spent p priority) (λ ask. is_model_ask (label_at v.partitions p) priority ask && (ask.count == 0)) lower spent-alike
        ∙ ap (without (λ ask. is_model_ask (label_at v.partitions p) priority ask && (ask.count == 0)))
        (map-update model (is_ask_of p priority) (is_model_ask (label_at v.partitions p) priority) lowered (λ ask. record ask { count = ask.count - 1 }) (λ ask. refl) asks alike)

  -- an ask is set
  set : (ask : Ask) → HasPartition v ask.partition → (asks : List Ask) → AllByRecursion (λ other. HasPartition v other.partition) asks
      → map model (with_ask ask asks)
      ≡ cond (ask.count == 0) (without (is_model_ask (label_at v.partitions ask.partition) ask.priority) (map model asks))
      (put (is_model_ask (label_at v.partitions ask.partition) ask.priority) (model ask) (map model asks))
  set ask there asks asked = go (ask.count == 0)
    where
      go : (b : Bool) → map model (cond b (without (is_ask_of ask.partition ask.priority) asks) (put (is_ask_of ask.partition ask.priority) ask asks))
          ≡ cond b (without (is_model_ask (label_at v.partitions ask.partition) ask.priority) (map model asks))
          (put (is_model_ask (label_at v.partitions ask.partition) ask.priority) (model ask) (map model asks))
      go true = map-without model (is_ask_of ask.partition ask.priority) (is_model_ask (label_at v.partitions ask.partition) ask.priority) asks (alike ask.partition ask.priority there asks asked)
      go false = map-put model (is_ask_of ask.partition ask.priority) (is_model_ask (label_at v.partitions ask.partition) ask.priority) ask asks (alike ask.partition ask.priority there asks asked)

  -- ---- applications

  abbrev pub AreAsked : AppRow → Type 0
  AreAsked row = AllByRecursion (λ ask. HasPartition v ask.partition) row.asks

  -- an application of which one container less is wanted
  pub app-taken : (p priority : ℕ) → HasPartition v p → (name : Name) (row : AppRow) → AreAsked row
      → application_of v name (record row { asks = with_one_taken p priority row.asks }) ≡ take_one (label_at v.partitions p) priority (application_of v name row)
  app-taken p priority there name row asked = λ i. record (application_of v name row) { asks = taken p priority there row.asks asked i }

  -- one that asks
  pub app-asked : (ask : Ask) → HasPartition v ask.partition → (name : Name) (row : AppRow) → AreAsked row
      → application_of v name (record row { asks = with_ask ask row.asks }) ≡ set_ask (model ask) (application_of v name row)
  app-asked ask there name row asked = λ i. record (application_of v name row) { asks = set ask there row.asks asked i }
