-- Names with one more.
use Rattle.std.proofs.Common.{◌≡◌, ℕ, zero, suc, ◌<◌, ◌^◌, Bool, true, false, cond, List, [], ◌∷◌, ◌++◌, length, slice_get, Vec, Some, None, refl, sym, ap, subst, ◌∙◌}
use Rattle.std.specs.Global.{Global}
use Rattle.std.specs.List.{AllByRecursion}
use Rattle.std.specs.BTreeMap.{BTreeMap, get, is_at}
use Rattle.std.specs.Cmp.Lexicographic.{texts_ties, bytes_decides}
use Rattle.std.proofs.lemmas.Option.{none-some, same_Some}
use Rattle.ynl_resource.specs.declared.names.Name.{Name}
use Rattle.ynl_resource.specs.Names.{same_name, name_order}
use Rattle.ynl_tables.specs.declared.users.users.Users.TheInside.{Inside}
use Rattle.ynl_tables.specs.users.Fields.{IsKept}
use Rattle.ynl_tables.specs.users.Users.{AreApart, IsNew}

at-last : (name : Name) (names : List Name) → slice_get (names ++ name ∷ []) (length names) ≡ Some name
at-last name [] = refl
at-last name (x ∷ xs) = at-last name xs

before-last : (name : Name) (names : List Name) (n : ℕ) (x : Name) → slice_get names n ≡ Some x → slice_get (names ++ name ∷ []) n ≡ Some x
before-last name [] n x at = absurd (none-some x at)
before-last name (y ∷ ys) zero x at = at
before-last name (y ∷ ys) (suc n) x at = before-last name ys n x at

new-last : (name other : Name) (names : List Name) → same_name other name ≡ false → IsNew name names → IsNew name (names ++ other ∷ [])
new-last name other [] apart new = (apart, tt)
new-last name other (x ∷ xs) apart new = (new.0, new-last name other xs apart new.1)

apart-last : (name : Name) (names : List Name) → IsNew name names → AreApart names → AreApart (names ++ name ∷ [])
apart-last name [] new apart = (tt, tt)
apart-last name (x ∷ xs) new apart = (go xs apart.0, apart-last name xs new.1 apart.1)
  where
    go : (ys : List Name) → AllByRecursion (λ other. same_name x other ≡ false) ys → AllByRecursion (λ other. same_name x other ≡ false) (ys ++ name ∷ [])
    go [] h = (new.0, tt)
    go (y ∷ ys) h = (h.0, go ys h.1)

-- one more name, of a number of its own
pub added : (a : Inside) → IsKept a → (name : Name) → IsNew name a.names.items → (names : Vec Name Global) (numbers : BTreeMap Name ℕ) → names.items ≡ a.names.items ++ name ∷ [] → length names.items < 2 ^ 32
    → ((q : Name) → get name_order numbers q ≡ cond (is_at (name_order name) q) (Some (length a.names.items)) (get name_order a.numbers q))
    → IsKept (record { names = names; numbers = numbers })
added a h name new names numbers is fits put = record {
  apart = subst AreApart (sym is) (apart-last name a.names.items new h.apart);
  own = λ q n at. subst (λ (xs : List Name). slice_get xs n ≡ Some q) (sym is) (own q n (sym (put q) ∙ at));
  none = λ q at. subst (IsNew q) (sym is) (none q (sym (put q) ∙ at));
  fits = fits;
}
  where
    own : (q : Name) (n : ℕ) → cond (is_at (name_order name) q) (Some (length a.names.items)) (get name_order a.numbers q) ≡ Some n → slice_get (a.names.items ++ name ∷ []) n ≡ Some q
    own q n at = go (same_name name q) refl (ap (λ (b : Bool). cond b (Some (length a.names.items)) (get name_order a.numbers q)) (texts_ties name q) ∙ at)
      where
        go : (b : Bool) → same_name name q ≡ b → cond b (Some (length a.names.items)) (get name_order a.numbers q) ≡ Some n → slice_get (a.names.items ++ name ∷ []) n ≡ Some q
        go true same k = ap (slice_get (a.names.items ++ name ∷ [])) (sym (same_Some (length a.names.items) n k)) ∙ at-last name a.names.items ∙ ap (λ (x : Name). Some x) ((bytes_decides name q).0 same)
        go false same k = before-last name a.names.items n q (h.own q n k)

    none : (q : Name) → cond (is_at (name_order name) q) (Some (length a.names.items)) (get name_order a.numbers q) ≡ None → IsNew q (a.names.items ++ name ∷ [])
    none q at = go (same_name name q) refl (ap (λ (b : Bool). cond b (Some (length a.names.items)) (get name_order a.numbers q)) (texts_ties name q) ∙ at)
      where
        go : (b : Bool) → same_name name q ≡ b → cond b (Some (length a.names.items)) (get name_order a.numbers q) ≡ None → IsNew q (a.names.items ++ name ∷ [])
        go true same k = absurd (none-some (length a.names.items) (sym k))
        go false same k = new-last q name a.names.items same (h.none q k)

-- more room for names changes none of it
pub grown : (a : Inside) → IsKept a → (names : Vec Name Global) (numbers : BTreeMap Name ℕ) → names.items ≡ a.names.items → ((q : Name) → get name_order numbers q ≡ get name_order a.numbers q) → IsKept (record { names = names; numbers = numbers })
grown a h names numbers is same = record {
  apart = subst AreApart (sym is) h.apart;
  own = λ q n at. subst (λ (xs : List Name). slice_get xs n ≡ Some q) (sym is) (h.own q n (sym (same q) ∙ at));
  none = λ q at. subst (IsNew q) (sym is) (h.none q (sym (same q) ∙ at));
  fits = subst (λ (xs : List Name). length xs < 2 ^ 32) (sym is) h.fits;
}
