-- Rows with keys of their own: one of them is found and changed where the rows before and behind it have other keys.
use Rattle.std.proofs.Common.{◌≡◌, Bool, true, false, not, ◌||◌, cond, List, [], ◌∷◌, ◌++◌, map, Some, find, refl, sym, ap, subst, ◌∙◌, append_assoc}
use Rattle.std.specs.Prelude.{if◌then◌else◌}
use Rattle.std.specs.List.{AllByRecursion, list_any}
use Rattle.std.proofs.lemmas.Bool.{and_parts}
use mathlib.Core.Bool.{true≢false}
use Rattle.ynl_resource.specs.Tables.{update}
use Rattle.ynl_laws.specs.Working.{Pairs}
use Rattle.ynl_model.specs.Accepted.{all_differ}
use Rattle.ynl_laws.proofs.Lists.{Each-map, Each-with, Each-split, find-append_none, find-nothing, pairs-unmap}
use Rattle.ynl_laws.proofs.Logic.{not-true}

-- what is the same in one order is so in the other
pub turned : {K : Type 0} (same : K → K → Bool) → ((a b : K) → same a b ≡ true → a ≡ b) → ((a : K) → same a a ≡ true) → (a b : K) → same a b ≡ false → same b a ≡ false
turned same decides self a b off = go (same b a) refl
  where
    go : (t : Bool) → same b a ≡ t → same b a ≡ false
    go false e = e
    go true e = absurd (true≢false (sym (self a) ∙ ap (same a) (sym (decides b a e)) ∙ off))

-- the rows before one, and those behind it, in a list whose pairs are related
pub pairs-before : {X : Type 0} (R : X → X → Type 0) (done : List X) (x : X) (todo : List X) → Pairs R (done ++ x ∷ todo) → AllByRecursion (λ a. R a x) done
pairs-before R [] x todo h = tt
pairs-before R (a ∷ done) x todo h = ((Each-split (R a) done (x ∷ todo) h.0).1.0, pairs-before R done x todo h.1)

-- the same of the rows behind it
pub pairs-behind : {X : Type 0} (R : X → X → Type 0) (done : List X) (x : X) (todo : List X) → Pairs R (done ++ x ∷ todo) → AllByRecursion (R x) todo
pairs-behind R [] x todo h = h.0
pairs-behind R (a ∷ done) x todo h = pairs-behind R done x todo h.1

-- one row among others that fail the test
pub find-in : {X : Type 0} (test : X → Bool) (done : List X) (x : X) (todo : List X) → AllByRecursion (λ a. test a ≡ false) done → test x ≡ true → find test (done ++ x ∷ todo) ≡ Some x
find-in test done x todo off on = find-append_none test done (x ∷ todo) (find-nothing test done off) ∙ (λ i. cond (on i) (Some x) (find test todo))

-- rows that fail the test stay as they are
pub update-off : {X : Type 0} (test : X → Bool) (change : X → X) (xs : List X) → AllByRecursion (λ x. test x ≡ false) xs → update test change xs ≡ xs
update-off test change [] h = refl
update-off test change (x ∷ xs) h = λ i. cond (h.0 i) (change x) x ∷ update-off test change xs h.1 i

-- one row that passes the test changes among others that fail it
pub update-in : {X : Type 0} (test : X → Bool) (change : X → X) (done : List X) (x : X) (todo : List X) → AllByRecursion (λ a. test a ≡ false) done → test x ≡ true → AllByRecursion (λ a. test a ≡ false) todo →
    update test change (done ++ x ∷ todo) ≡ done ++ change x ∷ todo
update-in test change [] x todo off on behind = λ i. cond (on i) (change x) x ∷ update-off test change todo behind i
update-in test change (a ∷ done) x todo off on behind = λ i. cond (off.0 i) (change a) a ∷ update-in test change done x todo off.1 on behind i

-- one more row is done
pub one-done : {X : Type 0} (done : List X) (x : X) (todo : List X) → done ++ x ∷ todo ≡ (done ++ x ∷ []) ++ todo
one-done done x todo = sym (append_assoc done (x ∷ []) todo)

-- each row is the one that its key finds, where keys differ
pub keyed-of : {X K : Type 0} (same : K → K → Bool) (key : X → K) → ((a b : K) → same a b ≡ true → a ≡ b) → ((a : K) → same a a ≡ true) → (rows : List X) → Pairs (λ a b. same (key a) (key b) ≡ false) rows →
    AllByRecursion (λ row. find (λ other. same (key other) (key row)) rows ≡ Some row) rows
keyed-of same key decides self [] h = tt
keyed-of {X} same key decides self (x ∷ rows) h = (
  (λ i. cond (self (key x) i) (Some x) (find (λ other. same (key other) (key x)) rows)),
  Each-with (λ b. same (key x) (key b) ≡ false) (λ row. find (λ other. same (key other) (key row)) rows ≡ Some row) (λ row. find (λ other. same (key other) (key row)) (x ∷ rows) ≡ Some row)
      (λ b off e. (λ i. cond (off i) (Some x) (find (λ other. same (key other) (key b)) rows)) ∙ e) rows h.0 (keyed-of same key decides self rows h.1),
)

-- an update of rows that keeps what holds of each, where the test says more of what is changed
pub Each-updated : {X : Type 0} (P Q : X → Type 0) (w : X → Bool) (change : X → X) → ((x : X) → w x ≡ true → P x → Q (change x)) → ((x : X) → w x ≡ false → P x → Q x) → (xs : List X) → AllByRecursion P xs → AllByRecursion Q (update w change xs)
Each-updated P Q w change step stay xs h = Each-map P Q (λ x. if w x then change x else x) (λ x k. go x (w x) refl k) xs h
  where
    go : (x : _) (b : Bool) → w x ≡ b → P x → Q (cond b (change x) x)
    go x true e k = step x e k
    go x false e k = stay x e k

-- rows whose keys are those of a list that differ have keys that differ
pub pairs-keys : {X K : Type 0} (same : K → K → Bool) (key : X → K) (rows : List X) (keys : List K) → map key rows ≡ keys → Pairs (λ a b. same a b ≡ false) keys → Pairs (λ a b. same (key a) (key b) ≡ false) rows
pairs-keys same key rows keys e h = pairs-unmap key (λ a b. same a b ≡ false) rows (subst (Pairs (λ a b. same a b ≡ false)) (sym e) h)

-- pairs of what is made of elements
pub pairs-made : {X Y : Type 0} (f : X → Y) (R : Y → Y → Type 0) (xs : List X) → Pairs (λ a b. R (f a) (f b)) xs → Pairs R (map f xs)
pairs-made f R [] h = tt
pairs-made f R (x ∷ xs) h = (Each-map (λ b. R (f x) (f b)) (R (f x)) f (λ b k. k) xs h.0, pairs-made f R xs h.1)

-- a test of all pairs, and what it says of each
pub differ-of : {X : Type 0} (same : X → X → Bool) (xs : List X) → all_differ same xs ≡ true → Pairs (λ a b. same a b ≡ false) xs
differ-of same [] h = tt
differ-of same (x ∷ xs) h = let both = and_parts (not (list_any (same x) xs)) (all_differ same xs) h in (none-of same x xs (not-true _ both.0), differ-of same xs both.1)
  where
    none-of : {X : Type 0} (same : X → X → Bool) (x : X) (xs : List X) → list_any (same x) xs ≡ false → AllByRecursion (λ y. same x y ≡ false) xs
    none-of same x [] h = tt
    none-of same x (y ∷ ys) h = go (same x y) refl h (none-of same x ys)
      where
        go : (b : Bool) → same x y ≡ b → (b || list_any (same x) ys) ≡ false → (list_any (same x) ys ≡ false → AllByRecursion (λ y. same x y ≡ false) ys) → (same x y ≡ false) × AllByRecursion (λ y. same x y ≡ false) ys
        go true e h rest = absurd (true≢false h)
        go false e h rest = (e, rest h)

-- what is made of elements by functions that agree on them
pub map-agree : {X Y : Type 0} (f g : X → Y) (xs : List X) → AllByRecursion (λ x. f x ≡ g x) xs → map f xs ≡ map g xs
map-agree f g [] h = refl
map-agree f g (x ∷ xs) h = λ i. h.0 i ∷ map-agree f g xs h.1 i
