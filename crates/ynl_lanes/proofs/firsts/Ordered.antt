-- Trees whose nodes are at or below their children: what that says of all leaves, and how it is kept.
use Rattle.std.proofs.Common.{◌≡◌, ◌≢◌, ℕ, zero, suc, ◌+◌, ◌/◌, ◌^◌, ◌<◌, ◌≤◌, List, length, get_or, set, drop, HoldsAt, sym, ap, subst, ◌∙◌, ⊎_elim, arith, length-set, length-drop, get_or-drop, get_or-set_same, get_or-set_other, drop-set-lt}
use Rattle.std.proofs.lemmas.Nat.{shr_le}
use Rattle.std.proofs.lemmas.Bool.{cases_eq}
use Rattle.std.proofs.lemmas.List.{get_or_read, drop-set-add}
use Rattle.ynl_lanes.specs.firsts.Tree.{values_of, IsAboveParent, IsOrdered, IsOrderedBut}
use Rattle.ynl_lanes.proofs.firsts.Aligned.{halved}

module _ {T : Type 0} (below : T → T → Type 0) (reflexive : (x : T) → below x x) (transitive : (x y z : T) → below x y → below y z → below x z) (tree : List T) (ordered : IsOrdered below tree) where
  -- a node is at or below the one so many levels under it
  pub below_descendant : (levels p : ℕ) → p < length tree → 0 < p / 2 ^ levels → (d : T) → below (get_or tree (p / 2 ^ levels) d) (get_or tree p d)
  below_descendant zero p inside some d =
      let itself : p / 2 ^ 0 ≡ p = omega arith in
      subst (λ (q : ℕ). below (get_or tree q d) (get_or tree p d)) (sym itself) (reflexive (get_or tree p d))
  below_descendant (suc levels) p inside some d =
      let half : p / 2 ^ suc levels ≡ p / 2 ^ levels / 2 = halved p levels in
      let here : below (get_or tree (p / 2 ^ levels) d) (get_or tree p d) = below_descendant levels p inside (omega (arith, half, some)) d in
      let step : below (get_or tree (p / 2 ^ levels / 2) d) (get_or tree (p / 2 ^ levels) d) = ordered (p / 2 ^ levels) (omega (arith, half, some)) (omega (arith, inside, shr_le p levels)) d in
      subst (λ (q : ℕ). below (get_or tree q d) (get_or tree p d)) (sym half) (transitive _ _ _ step here)

  root_upto : (n p : ℕ) → p ≤ n → 0 < p → p < length tree → (d : T) → below (get_or tree 1 d) (get_or tree p d)
  root_upto zero p le some inside d = absurd (omega arith)
  root_upto (suc n) zero le some inside d = absurd (omega arith)
  root_upto (suc n) (suc zero) le some inside d = reflexive (get_or tree 1 d)
  root_upto (suc n) (suc (suc q)) le some inside d =
      let up : below (get_or tree 1 d) (get_or tree (suc (suc q) / 2) d) = root_upto n (suc (suc q) / 2) (omega arith) (omega arith) (omega arith) d in
      transitive _ _ _ up (ordered (suc (suc q)) (omega arith) inside d)

  -- the root is at or below all leaves
  pub root_below : (x : T) → x ≡ get_or tree 1 x → 1 < length tree → (k : ℕ) (d : T) → k < length (values_of tree) → below x (get_or (values_of tree) k d)
  root_below x read inside k d within =
      let room : ℕ = length tree / 2 in
      let at : room + k < length tree = omega (arith, length-drop room tree, within) in
      subst (λ (y : T). below y (get_or (values_of tree) k d)) (sym (get_or_read tree 1 x inside read d))
      (subst (λ (y : T). below (get_or tree 1 d) y) (sym (get_or-drop room tree k d)) (root_upto (room + k) (room + k) (omega arith) (omega arith) at d))

module _ {T : Type 0} (below : T → T → Type 0) (tree : List T) where
  -- a node that is set to a value at or below its children: each other node is at or above its parent if it was
  above_parent-set : (node : ℕ) (x : T) → node < length tree → ((i : ℕ) → i / 2 ≡ node → HoldsAt (below x) tree i) → (i : ℕ) → i ≢ node → (i / 2 ≢ node → IsAboveParent below tree i) → IsAboveParent below (set tree node x) i
  above_parent-set node x inside low i apart old d =
      let here : get_or (set tree node x) i d ≡ get_or tree i d = get_or-set_other tree node i x d apart in
      ⊎_elim
      (λ (e : i / 2 ≡ node).
      let top : get_or (set tree node x) (i / 2) d ≡ x = ap (λ (q : ℕ). get_or (set tree node x) q d) e ∙ get_or-set_same tree node x d inside in
      subst (λ (y : T). below y (get_or (set tree node x) i d)) (sym top) (subst (λ (y : T). below x y) (sym here) (low i e d)))
      (λ (ne : i / 2 ≡ node → ⊥).
      let top : get_or (set tree node x) (i / 2) d ≡ get_or tree (i / 2) d = get_or-set_other tree node (i / 2) x d ne in
      subst (λ (y : T). below y (get_or (set tree node x) i d)) (sym top) (subst (λ (y : T). below (get_or tree (i / 2) d) y) (sym here) (old ne d)))
      (cases_eq (i / 2) node)

  -- one step up
  pub climbed : (node : ℕ) (x : T) → 0 < node → node < length tree → ((i : ℕ) → i / 2 ≡ node → HoldsAt (below x) tree i) → IsOrderedBut below node tree → IsOrderedBut below (node / 2) (set tree node x)
  climbed node x some inside low old i two within other =
      above_parent-set node x inside low i (λ (e : i ≡ node). other (ap (λ (q : ℕ). q / 2) e)) (old i two (omega (arith, within, length-set tree node x)))

-- a node that is set leaves the values
pub values-set_node : {T : Type 0} (tree : List T) (node : ℕ) (x : T) → node < length tree / 2 → values_of (set tree node x) ≡ values_of tree
values-set_node tree node x low = ap (λ (n : ℕ). drop (n / 2) (set tree node x)) (length-set tree node x) ∙ drop-set-lt (length tree / 2) tree node x low

pub values-set_leaf : {T : Type 0} (tree : List T) (place : ℕ) (x : T) → values_of (set tree (length tree / 2 + place) x) ≡ set (values_of tree) place x
values-set_leaf tree place x =
    ap (λ (n : ℕ). drop (n / 2) (set tree (length tree / 2 + place) x)) (length-set tree (length tree / 2 + place) x) ∙ drop-set-add (length tree / 2) tree place x
