-- Names that are listed once each, and the set that has them.
use Rattle.std.proofs.Common.{◌≡◌, Bool, true, false, cond, ◌||◌, List, [], ◌∷◌, ◌++◌, refl, sym, ap, ◌∙◌, true≢false}
use Rattle.std.specs.BTreeMap.{is_at}
use Rattle.std.specs.BTreeSet.{BTreeSet, contains}
use Rattle.std.specs.Cmp.Lexicographic.{bytes_decides}
use Rattle.std.specs.List.{list_any}
use Rattle.std.proofs.lemmas.List.Folds.{list_any-append}
use Rattle.std.proofs.lemmas.Map.Text.{is_eq-slice_cmp}
use Rattle.ynl_resource.specs.declared.names.Name.{Name}
use Rattle.ynl_resource.specs.Names.{name_order, same_name}
use Rattle.ynl_config.specs.Access.{AreSeen}

same_sym : (a b : Name) → same_name a b ≡ same_name b a
same_sym a b = go (same_name a b) (same_name b a) refl refl
  where
    go : (x y : Bool) → same_name a b ≡ x → same_name b a ≡ y → x ≡ y
    go true true p q = refl
    go false false p q = refl
    go true false p q = absurd (true≢false (sym ((bytes_decides b a).1 (sym ((bytes_decides a b).0 p))) ∙ q))
    go false true p q = absurd (true≢false (sym ((bytes_decides a b).1 (sym ((bytes_decides b a).0 q))) ∙ p))

last_or : (b l : Bool) → cond b true l ≡ (l || (b || false))
last_or true true = refl
last_or true false = refl
last_or false true = refl
last_or false false = refl

-- one name more is in the set, and comes last
pub more_seen : (old new : BTreeSet Name) (names : List Name) (name : Name) → AreSeen old names
    → ((q : Name) → contains name_order new q ≡ cond (is_at (name_order name) q) true (contains name_order old q)) → AreSeen new (names ++ name ∷ [])
more_seen old new names name are update q =
    update q
    ∙ ap (λ b. cond b true (contains name_order old q)) (is_eq-slice_cmp name q ∙ same_sym name q)
    ∙ ap (cond (same_name q name) true) (are q)
    ∙ last_or (same_name q name) (list_any (same_name q) names)
    ∙ sym (list_any-append (same_name q) names (name ∷ []))
