-- Names, labels and paths that are the same are equal, and ways that lead below a queue stay below it.
use Rattle.std.proofs.Common.{◌≡◌, refl, sym, ap, subst, true, [], ◌∷◌}
use Rattle.std.specs.List.{list_all}
use Rattle.std.specs.Cmp.Lexicographic.{pointwise_decides, bytes_decides}
use Rattle.std.proofs.lemmas.Bool.{and_from, and_parts}
use mathlib.Core.Bool.{true≢false}
use Rattle.ynl_resource.specs.Names.{same_name, same_label, same_path, top_level, is_within, way_to}
use Rattle.ynl_resource.specs.declared.names.Name.{Name}
use Rattle.ynl_resource.specs.declared.labels.Label.{Label}
use Rattle.ynl_resource.specs.declared.labels.Label.TheVariants.{Unlabelled, Named}
use Rattle.ynl_resource.specs.declared.paths.Path.{Path}
use Rattle.ynl_laws.proofs.Lists.{all-map}

abbrev pub same-path : (a b : Path) → same_path a b ≡ true → a ≡ b
same-path a b h = (pointwise_decides bytes_decides a b).0 h

pub same-name_sym : (a b : Name) → same_name a b ≡ true → a ≡ b
same-name_sym a b h = (bytes_decides a b).0 h

pub same-name_self : (a : Name) → same_name a a ≡ true
same-name_self a = (bytes_decides a a).1 refl

-- labels that are the same are equal
pub same-label_path : (a b : Label) → same_label a b ≡ true → a ≡ b
same-label_path Unlabelled Unlabelled h = refl
same-label_path Unlabelled (Named n) h = absurd (true≢false (sym h))
same-label_path (Named n) Unlabelled h = absurd (true≢false (sym h))
same-label_path (Named n) (Named m) h = ap (λ name. Named name) (same-name_sym n m h)

pub same-label_self : (a : Label) → same_label a a ≡ true
same-label_self Unlabelled = refl
same-label_self (Named n) = (bytes_decides n n).1 refl

-- a way below root is within the first name's queue
pub way-within : (t : Name) (q : Path) → is_within (top_level t) q ≡ true → list_all (is_within (top_level t)) (way_to q) ≡ true
way-within t [] h = refl
way-within t (name ∷ path) h = and_from _ _ h (all-map (is_within (top_level t)) (λ below. name ∷ below) (λ below. h) (way_to path))

-- what is below a queue that is below another is below that
pub within-trans : (a b d : Path) → is_within a b ≡ true → is_within b d ≡ true → is_within a d ≡ true
within-trans [] b d h k = refl
within-trans (x ∷ a) [] d h k = absurd (true≢false (sym h))
within-trans (x ∷ a) (y ∷ b) [] h k = absurd (true≢false (sym k))
within-trans (x ∷ a) (y ∷ b) (z ∷ d) h k =
    and_from _ _ (subst (λ n. same_name x n ≡ true) (same-name_sym y z (and_parts _ _ k).0) (and_parts _ _ h).0) (within-trans a b d (and_parts _ _ h).1 (and_parts _ _ k).1)

pub within-self : (path : Path) → is_within path path ≡ true
within-self [] = refl
within-self (name ∷ path) = and_from _ _ (same-name_self name) (within-self path)
