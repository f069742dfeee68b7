-- A search: what has been passed over, and what one step more says.
use Rattle.std.proofs.Common.{◌≡◌, ℕ, zero, suc, ◌+◌, ◌-◌, ◌*◌, ◌/◌, ◌%◌, ◌^◌, ◌<◌, ◌≤◌, List, length, get_or, refl, sym, ap, subst, ◌∙◌, ⊎_elim, arith, mod-eq_of_lt, length-drop, get_or-drop, w64}
use Rattle.std.specs.Int.{trailing_zeros}
use Rattle.std.proofs.lemmas.Nat.{pow_pos, shl-shr, shr_le, shr_high}
use Rattle.std.proofs.lemmas.Bool.{cases_lt}
use Rattle.std.proofs.lemmas.List.{get_or_read}
use Rattle.ynl_lanes.specs.firsts.Firsts.{NonePasses}
use Rattle.ynl_lanes.specs.firsts.Tree.{values_of, IsOrdered, IsShape}
use Rattle.ynl_lanes.proofs.firsts.Aligned.{aligned-zeros, doubled, multiple-le}
use Rattle.ynl_lanes.proofs.firsts.Ordered.{below_descendant}

-- no leaf from the place `from` on passes that comes before this one
abbrev pub IsPassed : {T : Type 0} → (T → Type 0) → List T → ℕ → ℕ → Type 0
IsPassed {T} holds tree from leaf = (p : ℕ) (d : T) → length tree / 2 + from ≤ p → p < leaf → p < length tree → ¬ (holds (get_or tree p d))

-- nor any before the first leaf under the node, which is so many levels above it
pub record IsReached {T : Type 0} (holds : T → Type 0) (tree : List T) (from node height : ℕ) : Type 0 where
  pub low : length tree / 2 + from ≤ node * 2 ^ height
  pub inside : node * 2 ^ height < length tree
  pub fits : height < 64
  pub passed : IsPassed holds tree from (node * 2 ^ height)

-- how much is left: of two nodes with one first leaf the lower one has less
abbrev pub left : ℕ → ℕ → ℕ → ℕ
left nodes node height = (nodes - node * 2 ^ height) * 64 + height

module _ {T : Type 0} (holds : T → Type 0) (tree : List T) (shape : IsShape tree) (from : ℕ) where
  -- the highest node whose first leaf this is
  pub reached_at : (leaf height : ℕ) → length tree / 2 + from ≤ leaf → leaf < length tree → IsPassed holds tree from leaf → height ≡ trailing_zeros w64 leaf → IsReached holds tree from (leaf / 2 ^ height) height
  reached_at leaf height low inside passed e =
      let zeros : (trailing_zeros w64 leaf < 64) × (leaf / 2 ^ trailing_zeros w64 leaf * 2 ^ trailing_zeros w64 leaf ≡ leaf) = aligned-zeros leaf (omega (arith, low, inside, shape.even)) (omega (arith, inside, shape.small)) in
      let first : leaf / 2 ^ height * 2 ^ height ≡ leaf = subst (λ (h : ℕ). leaf / 2 ^ h * 2 ^ h ≡ leaf) (sym e) zeros.1 in
      record {
        low = omega (arith, first, low);
        inside = omega (arith, first, inside);
        fits = omega (arith, e, zeros.0);
        passed = λ p d from_on before within. passed p d from_on (omega (arith, before, first)) within;
      }

  -- the search begins
  pub reached_first : (leaf height : ℕ) → from < length tree / 2 → leaf ≡ length tree / 2 + from → height ≡ trailing_zeros w64 leaf → IsReached holds tree from (leaf / 2 ^ height) height
  reached_first leaf height some at e = reached_at leaf height (omega (arith, at)) (omega (arith, at, some)) (λ p d from_on before within. absurd (omega (arith, at, from_on, before))) e

  -- the node passes, and its first child is next
  pub reached_down : (node height : ℕ) → 0 < height → IsReached holds tree from node height → IsReached holds tree from (node * 2) (height - 1)
  reached_down node zero some reached = absurd (omega arith)
  reached_down node (suc height) some reached =
      let same : node * 2 ^ suc height ≡ node * 2 * 2 ^ height = doubled node height in
      let lower : height ≡ suc height - 1 = omega arith in
      subst (IsReached holds tree from (node * 2)) lower (record {
        low = omega (arith, same, reached.low);
        inside = omega (arith, same, reached.inside);
        fits = omega (arith, reached.fits);
        passed = λ p d from_on before within. reached.passed p d from_on (omega (arith, before, same)) within;
      })

  pub left_down : (node height : ℕ) → 0 < height → left (length tree) (node * 2) (height - 1) < left (length tree) node height
  left_down node zero some = absurd (omega arith)
  left_down node (suc height) some =
      let same : node * 2 ^ suc height ≡ node * 2 * 2 ^ height = doubled node height in
      let lower : height ≡ suc height - 1 = omega arith in
      subst (λ (h : ℕ). left (length tree) (node * 2) h < left (length tree) node (suc height)) lower (omega (arith, same))

  width-le : (node height : ℕ) → IsReached holds tree from node height → (0 < node) × (2 ^ height ≤ node * 2 ^ height)
  width-le node height reached = multiple-le node (2 ^ height) (node * 2 ^ height) refl (omega (arith, reached.low, reached.inside, shape.even))

  node_inside : (node height : ℕ) → IsReached holds tree from node height → (0 < node) × (node < length tree)
  node_inside node height reached =
      let some : (0 < node) × (2 ^ height ≤ node * 2 ^ height) = width-le node height reached in
      (some.0, omega (arith, shr_le (node * 2 ^ height) height, shl-shr node height, reached.inside))

  -- the number of the first leaf behind the node fits
  pub leaf_behind : (node height : ℕ) → IsReached holds tree from node height → (node + 1) * 2 ^ height % 2 ^ 64 ≡ (node + 1) * 2 ^ height
  leaf_behind node height reached =
      let width : (0 < node) × (2 ^ height ≤ node * 2 ^ height) = width-le node height reached in
      let small : (node + 1) * 2 ^ height < 2 ^ 64 = omega (arith, width, reached.inside, shape.small) in
      mod-eq_of_lt small

  pub left_behind : (node height next : ℕ) → IsReached holds tree from node height → next ≡ (node + 1) * 2 ^ height → next < length tree → left (length tree) (next / 2 ^ trailing_zeros w64 next) (trailing_zeros w64 next) < left (length tree) node height
  left_behind node height next reached at inside =
      let zeros : (trailing_zeros w64 next < 64) × (next / 2 ^ trailing_zeros w64 next * 2 ^ trailing_zeros w64 next ≡ next) = aligned-zeros next (omega (arith, at, reached.low, reached.inside, shape.even)) (omega (arith, inside, shape.small)) in
      omega (arith, zeros, at, pow_pos height, reached.inside)

  length-values : length (values_of tree) ≡ length tree / 2
  length-values = length-drop (length tree / 2) tree ∙ omega (arith, shape.even)

  passed_value : (leaf : ℕ) → IsPassed holds tree from leaf → (k : ℕ) (d : T) → from ≤ k → length tree / 2 + k < leaf → length tree / 2 + k < length tree → ¬ (holds (get_or (values_of tree) k d))
  passed_value leaf passed k d from_on before within =
      subst (λ (y : T). ¬ (holds y)) (sym (get_or-drop (length tree / 2) tree k d)) (passed (length tree / 2 + k) d (omega (arith, from_on)) before within)

  -- where all leaves are passed none passes
  pub none_passes : (leaf : ℕ) → IsPassed holds tree from leaf → length tree ≤ leaf → NonePasses holds (values_of tree) from
  none_passes leaf passed end k d from_on within =
      let inside : length tree / 2 + k < length tree = omega (arith, length-values, within, shape.even) in
      passed_value leaf passed k d from_on (omega (arith, inside, end)) inside

module _ {T : Type 0} (below : T → T → Type 0) (reflexive : (x : T) → below x x) (transitive : (x y z : T) → below x y → below y z → below x z) (holds : T → Type 0) (holds_below : (x y : T) → below x y → holds y → holds x) (tree : List T) (shape : IsShape tree) (ordered : IsOrdered below tree) (from : ℕ) where
  -- the node does not pass, so no leaf under it does
  pub passed_node : (node height : ℕ) (x : T) → IsReached holds tree from node height → x ≡ get_or tree node x → ¬ (holds x) → IsPassed holds tree from ((node + 1) * 2 ^ height)
  passed_node node height x reached read fails p d from_on before within =
      let inside : (0 < node) × (node < length tree) = node_inside holds tree shape from node height reached in
      let first : ℕ = node * 2 ^ height in
      ⊎_elim
      (λ (early : p < first). reached.passed p d from_on early within)
      (λ (late : first ≤ p).
      let split : p ≡ node * 2 ^ height + (p - first) = omega (arith, late) in
      let above : p / 2 ^ height ≡ node = ap (λ (n : ℕ). n / 2 ^ height) split ∙ shr_high node height (p - first) (omega (arith, late, before)) in
      let under : below (get_or tree (p / 2 ^ height) d) (get_or tree p d) = below_descendant below reflexive transitive tree ordered height p within (omega (arith, above, inside)) d in
      let at : x ≡ get_or tree (p / 2 ^ height) d = get_or_read tree node x inside.1 read d ∙ ap (λ (n : ℕ). get_or tree n d) (sym above) in
      λ (passes : holds (get_or tree p d)). fails (holds_below x (get_or tree p d) (subst (λ (y : T). below y (get_or tree p d)) (sym at) under) passes))
      (cases_lt p first)
