-- A list with one thing more: what filters, sums and lengths make of it.
use Rattle.std.proofs.Common.{◌≡◌, suc, ◌+◌, Bool, true, false, not, cond, ◌&&◌, List, [], ◌∷◌, ◌++◌, length, filter, refl, sym, ap, ◌∙◌, arith, length-append}
use Rattle.std.proofs.lemmas.List.Elements.{filter-append}
use Rattle.ynl_resource.specs.Amounts.{plus, total_of}
use Rattle.ynl_resource.specs.declared.amounts.Resource.{Resource}
use Rattle.ynl_resource.specs.Tables.{without}

-- where the test says so, one list has a thing somewhere among those of the other; else they are the same
pub record Inserted {X : Type 0} (here : Bool) (x : X) (more fewer : List X) : Type 0 where
  pub before : List X
  pub after : List X
  pub more_is : more ≡ before ++ cond here (x ∷ after) after
  pub fewer_is : fewer ≡ before ++ after

pub inserted : {X : Type 0} (before after : List X) (x : X) → Inserted true x (before ++ x ∷ after) (before ++ after)
inserted before after x = record { before = before; after = after; more_is = refl; fewer_is = refl }

pub inserted-filter : {X : Type 0} (f : X → Bool) (here : Bool) (x : X) (more fewer : List X) → Inserted here x more fewer → Inserted (here && f x) x (filter f more) (filter f fewer)
inserted-filter {X = X} f here x more fewer h = record {
  before = filter f h.before;
  after = filter f h.after;
  more_is = ap (filter f) h.more_is ∙ filter-append f h.before (cond here (x ∷ h.after) h.after) ∙ ap (λ ys. filter f h.before ++ ys) (go here h.after);
  fewer_is = ap (filter f) h.fewer_is ∙ filter-append f h.before h.after;
}
  where
    go : (b : Bool) (after : List X) → filter f (cond b (x ∷ after) after) ≡ cond (b && f x) (x ∷ filter f after) (filter f after)
    go true after = refl
    go false after = refl

total-with : {X : Type 0} (size : X → Resource) (before after : List X) (x : X) → total_of size (before ++ x ∷ after) ≡ plus (total_of size (before ++ after)) (size x)
total-with size [] after x = grind (arith)
total-with size (y ∷ before) after x = let e : total_of size (before ++ x ∷ after) ≡ plus (total_of size (before ++ after)) (size x) = total-with size before after x in grind (arith, e)

pub inserted-total : {X : Type 0} (size : X → Resource) (here : Bool) (x : X) (more fewer : List X) → Inserted here x more fewer → total_of size more ≡ cond here (plus (total_of size fewer) (size x)) (total_of size fewer)
inserted-total size here x more fewer h = go here h.more_is
  where
    go : (b : Bool) → more ≡ h.before ++ cond b (x ∷ h.after) h.after → total_of size more ≡ cond b (plus (total_of size fewer) (size x)) (total_of size fewer)
    go true e = ap (total_of size) e ∙ total-with size h.before h.after x ∙ sym (ap (λ xs. plus (total_of size xs) (size x)) h.fewer_is)
    go false e = ap (total_of size) (e ∙ sym h.fewer_is)

pub inserted-length : {X : Type 0} (here : Bool) (x : X) (more fewer : List X) → Inserted here x more fewer → length more ≡ cond here (length fewer + 1) (length fewer)
inserted-length here x more fewer h = go here h.more_is
  where
    go : (b : Bool) → more ≡ h.before ++ cond b (x ∷ h.after) h.after → length more ≡ cond b (length fewer + 1) (length fewer)
    go true e =
        let longer : length more ≡ length h.before + suc (length h.after) = ap length e ∙ length-append h.before (x ∷ h.after) in
        let long : length fewer ≡ length h.before + length h.after = ap length h.fewer_is ∙ length-append h.before h.after in
        omega (arith, longer, long)
    go false e = ap length (e ∙ sym h.fewer_is)

none-without : {X : Type 0} (test : X → Bool) (xs : List X) → filter test xs ≡ [] → without test xs ≡ xs
none-without test [] e = refl
none-without {X = X} test (x ∷ xs) e = go (test x) e (none-without test xs)
  where
    go : (b : Bool) → cond b (x ∷ filter test xs) (filter test xs) ≡ [] → (filter test xs ≡ [] → without test xs ≡ xs) → cond (not b) (x ∷ without test xs) (without test xs) ≡ x ∷ xs
    go true f rest = absurd (cc)
    go false f rest = ap (λ ys. x ∷ ys) (rest f)

-- where one thing alone passes a test, the list is the one without it with that thing more
pub inserted-once : {X : Type 0} (test : X → Bool) (xs : List X) (x : X) → filter test xs ≡ x ∷ [] → Inserted true x xs (without test xs)
inserted-once test [] x e = absurd (cc)
inserted-once {X = X} test (y ∷ xs) x e = go (test y) e (inserted-once test xs x)
  where
    go : (b : Bool) → cond b (y ∷ filter test xs) (filter test xs) ≡ x ∷ [] → (filter test xs ≡ x ∷ [] → Inserted true x xs (without test xs)) → Inserted true x (y ∷ xs) (cond (not b) (y ∷ without test xs) (without test xs))
    go true f rest =
        let same : y ≡ x = cc in
        let none : filter test xs ≡ [] = cc in
        record { before = []; after = xs; more_is = ap (λ z. z ∷ xs) same; fewer_is = none-without test xs none }
    go false f rest =
        let h : Inserted true x xs (without test xs) = rest f in
        record { before = y ∷ h.before; after = h.after; more_is = ap (λ ys. y ∷ ys) h.more_is; fewer_is = ap (λ ys. y ∷ ys) h.fewer_is }
