-- Nodes that are dealt out one after another.
use Rattle.std.proofs.Common.{◌≡◌, ◌≢◌, ℕ, zero, suc, ◌+◌, ◌%◌, ◌<◌, ◌≤◌, refl, sym, ap, ◌∙◌, arith, List, [], ◌∷◌, ◌++◌, Bool, true, false, cond, eqb, length, take, get_or, set, Vec, append-nil, length-append, ◌⊎◌, inl, inr, get_or-set_same, get_or-set_other}
use Rattle.std.specs.declared.alloc.Global.{Global}
use Rattle.std.proofs.Math.Seq.{get_or-append_seam}
use Rattle.std.proofs.lemmas.Bool.{eqb-true, false≢true, cases_lt}
use Rattle.std.proofs.lemmas.List.{take_more, get_or_append_left, length-set, length-take-le}
use Rattle.std.proofs.lemmas.List.Sums.{sum_by-append, sum_by_push}
use Rattle.std.proofs.lemmas.List.Concat.{flat_map-append}
use Rattle.ynl_resource.specs.declared.names.Name.{Name}
use Rattle.ynl_resource.specs.Names.{same_name}
use Rattle.ynl_workers.specs.session.Dealt.{times_in, all_dealt, AreDealt, every, AreInTurn}

abbrev counts : Name → Name → ℕ
counts n x = cond (same_name x n) 1 0

-- one node more in one of the lists
one_dealt : (lists : List (Vec Name Global)) (k : ℕ) (v d : Vec Name Global) (node n : Name) → k < length lists → v.items ≡ (get_or lists k d).items ++ node ∷ [] → times_in n (all_dealt (set lists k v)) ≡ times_in n (all_dealt lists) + counts n node
one_dealt [] k v d node n inside is = absurd (omega (arith, inside))
one_dealt (x ∷ xs) zero v d node n inside is =
    let a = sum_by-append (counts n) v.items (all_dealt xs) in
    let b = sum_by-append (counts n) x.items (all_dealt xs) in
    let c = ap (times_in n) is ∙ sum_by_push (counts n) x.items node in
    omega (arith, a, b, c)
one_dealt (x ∷ xs) (suc k) v d node n inside is =
    let a = sum_by-append (counts n) x.items (all_dealt (set xs k v)) in
    let b = sum_by-append (counts n) x.items (all_dealt xs) in
    let c = one_dealt xs k v d node n (omega (arith, inside)) is in
    omega (arith, a, b, c)

pub AreDealt-more : (nodes : List Name) (i : ℕ) (node : Name) (lists now : List (Vec Name Global)) (k : ℕ) (v d : Vec Name Global) → i < length nodes → node ≡ get_or nodes i node → k < length lists → now ≡ set lists k v → v.items ≡ (get_or lists k d).items ++ node ∷ [] → AreDealt (take i nodes) lists → AreDealt (take (i + 1) nodes) now
AreDealt-more nodes i node lists now k v d inside at within is one dealt = λ n.
    let more : take (i + 1) nodes ≡ take i nodes ++ node ∷ [] = take_more nodes i node inside ∙ ap (λ (x : Name). take i nodes ++ x ∷ []) (sym at) in
    ap (λ ls. times_in n (all_dealt ls)) is ∙ one_dealt lists k v d node n within one ∙ ap (λ m. m + counts n node) (dealt n) ∙ sym (ap (times_in n) more ∙ sum_by_push (counts n) (take i nodes) node)

-- one empty list more
pub AreDealt-empty : (nodes : List Name) (lists now : List (Vec Name Global)) (v : Vec Name Global) → now ≡ lists ++ v ∷ [] → v.items ≡ [] → AreDealt nodes lists → AreDealt nodes now
AreDealt-empty nodes lists now v is none dealt = λ n.
    let both : all_dealt (lists ++ v ∷ []) ≡ all_dealt lists ++ all_dealt (v ∷ []) = flat_map-append (λ (w : Vec Name Global). w.items) lists (v ∷ []) in
    let a = ap (times_in n) both ∙ sum_by-append (counts n) (all_dealt lists) (all_dealt (v ∷ [])) in
    let b = sum_by-append (counts n) v.items [] in
    let c = ap (times_in n) none in
    let s : times_in n (all_dealt now) ≡ times_in n (all_dealt (lists ++ v ∷ [])) = ap (λ ls. times_in n (all_dealt ls)) is in
    let e = dealt n in
    omega (arith, a, b, c, s, e)

-- ---- in turn

-- a number is itself
eqb-same : (n : ℕ) → eqb n n ≡ true
eqb-same n = grind arith

-- one node more, and one before the others
every-step : (count k m : ℕ) (x node : Name) (long short : List Name) (b : Bool) → long ≡ short ++ cond (eqb (m % count) k) (node ∷ []) [] → cond b (x ∷ long) long ≡ cond b (x ∷ short) short ++ cond (eqb (m % count) k) (node ∷ []) []
every-step count k m x node long short true is = ap (λ ys. x ∷ ys) is
every-step count k m x node long short false is = is

every-push : (count k n m : ℕ) (nodes : List Name) (node : Name) → m ≡ n + length nodes → every count k n (nodes ++ node ∷ []) ≡ every count k n nodes ++ cond (eqb (m % count) k) (node ∷ []) []
every-push count k n m [] node is = ap (λ j. cond (eqb (j % count) k) (node ∷ []) []) (let e : n ≡ m = omega (arith, is) in e)
every-push count k n m (x ∷ xs) node is = every-step count k m x node _ _ (eqb (n % count) k) (every-push count k (n + 1) m xs node (omega (arith, is)))

pub AreInTurn-more : (nodes : List Name) (i : ℕ) (node : Name) (lists now : List (Vec Name Global)) (k : ℕ) (v d : Vec Name Global) → i < length nodes → node ≡ get_or nodes i node → k < length lists → k ≡ i % length lists → now ≡ set lists k v → v.items ≡ (get_or lists k d).items ++ node ∷ [] → AreInTurn (take i nodes) lists → AreInTurn (take (i + 1) nodes) now
AreInTurn-more nodes i node lists now k v d inside at within turn is one so = λ j w low. at_list j w low (eqb k j) refl
  where
    more : take (i + 1) nodes ≡ take i nodes ++ node ∷ []
    more = take_more nodes i node inside ∙ ap (λ (x : Name). take i nodes ++ x ∷ []) (sym at)

    len : length now ≡ length lists
    len = ap length is ∙ length-set lists k v

    next : (j : ℕ) → every (length now) j 0 (take (i + 1) nodes) ≡ every (length lists) j 0 (take i nodes) ++ cond (eqb k j) (node ∷ []) []
    next j = ap (λ n. every n j 0 (take (i + 1) nodes)) len ∙ ap (every (length lists) j 0) more ∙ every-push (length lists) j 0 i (take i nodes) node (let t = length-take-le i nodes (omega (arith, inside)) in omega (arith, t)) ∙ ap (λ m. every (length lists) j 0 (take i nodes) ++ cond (eqb m j) (node ∷ []) []) (sym turn)

    at_list : (j : ℕ) (w : Vec Name Global) → j < length now → (b : Bool) → eqb k j ≡ b → (get_or now j w).items ≡ every (length now) j 0 (take (i + 1) nodes)
    at_list j w low true same =
        let e : k ≡ j = eqb-true k j same in
        ap (λ ls. (get_or ls j w).items) is ∙ ap (λ m. (get_or (set lists k v) m w).items) (sym e) ∙ ap (λ (x : Vec Name Global). x.items) (get_or-set_same lists k v w within) ∙ one
        ∙ ap (λ xs. xs ++ node ∷ []) (so k d within) ∙ ap (λ m. every (length lists) m 0 (take i nodes) ++ node ∷ []) e
        ∙ ap (λ b. every (length lists) j 0 (take i nodes) ++ cond b (node ∷ []) []) (sym same) ∙ sym (next j)
    at_list j w low false other =
        let apart : j ≢ k = λ e. false≢true (sym other ∙ ap (λ m. eqb k m) e ∙ eqb-same k) in
        ap (λ ls. (get_or ls j w).items) is ∙ ap (λ (x : Vec Name Global). x.items) (get_or-set_other lists k j v w apart) ∙ so j w (omega (arith, len, low))
        ∙ sym (append-nil (every (length lists) j 0 (take i nodes))) ∙ ap (λ b. every (length lists) j 0 (take i nodes) ++ cond b (node ∷ []) []) (sym other) ∙ sym (next j)

-- one empty list more
pub AreInTurn-empty : (lists now : List (Vec Name Global)) (v : Vec Name Global) → now ≡ lists ++ v ∷ [] → v.items ≡ [] → AreInTurn [] lists → AreInTurn [] now
AreInTurn-empty lists now v is none so = λ k w low. ap (λ ls. (get_or ls k w).items) is ∙ at k w (omega (arith, ap length is, length-append lists (v ∷ []), low)) (cases_lt k (length lists))
  where
    at : (k : ℕ) (w : Vec Name Global) → k < length lists + 1 → (k < length lists) ⊎ (length lists ≤ k) → (get_or (lists ++ v ∷ []) k w).items ≡ []
    at k w low (inl h) = ap (λ (x : Vec Name Global). x.items) (get_or_append_left lists (v ∷ []) w k h) ∙ so k w h
    at k w low (inr h) = ap (λ m. (get_or (lists ++ v ∷ []) m w).items) (let e : k ≡ length lists = omega (arith, low, h) in e) ∙ ap (λ (x : Vec Name Global). x.items) (get_or-append_seam lists v [] w) ∙ none
