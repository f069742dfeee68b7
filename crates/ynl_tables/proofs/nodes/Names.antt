-- Nodes by their names.
use Rattle.std.proofs.Common.{◌≡◌, ◌≢◌, ℕ, Bool, true, false, cond, not, List, [], ◌∷◌, ◌++◌, Option, Some, None, IfSome, option_map, nat_eq, refl, sym, ap, subst, ◌∙◌, arith}
use Rattle.std.specs.List.{AllByRecursion}
use Rattle.std.specs.Map.{lookup}
use Rattle.std.specs.BTreeMap.{is_at}
use Rattle.std.specs.Cmp.Lexicographic.{texts_ties, bytes_decides}
use Rattle.std.proofs.lemmas.Bool.Decides.{nat_tests}
use Rattle.std.proofs.lemmas.Option.{same_Some, none-some}
use Rattle.ynl_resource.specs.declared.names.Name.{Name}
use Rattle.ynl_resource.specs.Names.{same_name, name_order}
use Rattle.ynl_slots.specs.Slots.{IsUnused, HasDistinctNumbers, without}
use Rattle.ynl_slots.proofs.Lists.{all_append, all_then}
use Rattle.ynl_slots.proofs.Lookups.{lookup-unused}
use Rattle.ynl_slots.proofs.Entries.{itself, without-unused, all_without}
use Rattle.ynl_tables.specs.declared.nodes.nodes.NodeRow.{NodeRow}
use Rattle.ynl_tables.specs.nodes.Nodes.{HasDistinctNames, number_of}

same_is : (a b : Name) → same_name a b ≡ true → a ≡ b
same_is a b h = (bytes_decides a b).0 h

pub self_same : (a : Name) → same_name a a ≡ true
self_same a = (bytes_decides a a).1 refl

pub other_name : (a b : Name) → a ≢ b → same_name a b ≡ false
other_name a b apart = go (same_name a b) refl
  where
    go : (c : Bool) → same_name a b ≡ c → c ≡ false
    go true q = absurd (apart (same_is a b q))
    go false q = refl

turned : (a b : Name) → same_name a b ≡ same_name b a
turned a b = go (same_name a b) refl
  where
    go : (c : Bool) → same_name a b ≡ c → c ≡ same_name b a
    go true q = sym (ap (λ (x : Name). same_name b x) (same_is a b q) ∙ self_same b)
    go false q = sym (other_name b a (λ same. absurd (cc (q, sym (ap (λ (x : Name). same_name a x) (sym same)), self_same a))))

-- the map's test of a key is that of names
pub at_same : (name q : Name) → is_at (name_order name) q ≡ same_name name q
at_same name q = sym (texts_ties name q)

-- no node has a name without a number
nameless : (name : Name) (nodes : List (ℕ × NodeRow)) → number_of name nodes ≡ None → AllByRecursion (λ e. e.1.name ≢ name) nodes
nameless name [] h = tt
nameless name (e ∷ nodes) h = go (same_name name e.1.name) refl h (λ k. nameless name nodes k)
  where
    go : (b : Bool) → same_name name e.1.name ≡ b → cond b (Some e.0) (number_of name nodes) ≡ None → (number_of name nodes ≡ None → AllByRecursion (λ e. e.1.name ≢ name) nodes) → AllByRecursion (λ e. e.1.name ≢ name) (e ∷ nodes)
    go true q k rest = absurd (none-some e.0 (sym k))
    go false q k rest = ((λ same. absurd (cc (q, ap (λ (x : Name). same_name name x) same, self_same name))), rest k)

none_of : (name : Name) (nodes : List (ℕ × NodeRow)) → AllByRecursion (λ e. e.1.name ≢ name) nodes → number_of name nodes ≡ None
none_of name [] h = refl
none_of name (e ∷ nodes) h = ap (λ (b : Bool). cond b (Some e.0) (number_of name nodes)) (other_name name e.1.name (λ same. h.0 (sym same))) ∙ none_of name nodes h.1

pub names_pushed : (n : ℕ) (row : NodeRow) (nodes : List (ℕ × NodeRow)) → number_of row.name nodes ≡ None → HasDistinctNames nodes → HasDistinctNames (nodes ++ (n, row) ∷ [])
names_pushed n row nodes none h = go nodes (nameless row.name nodes none) h
  where
    go : (es : List (ℕ × NodeRow)) → AllByRecursion (λ e. e.1.name ≢ row.name) es → HasDistinctNames es → HasDistinctNames (es ++ (n, row) ∷ [])
    go [] k d = (tt, tt)
    go (e ∷ es) k d = (all_append (λ f. f.1.name ≢ e.1.name) es ((n, row) ∷ []) d.0 ((λ same. k.0 (sym same)), tt), go es k.1 d.1)

-- the number of a name after a push
pub number-pushed : (n : ℕ) (row : NodeRow) (nodes : List (ℕ × NodeRow)) (q : Name) → number_of row.name nodes ≡ None → number_of q (nodes ++ (n, row) ∷ []) ≡ cond (same_name row.name q) (Some n) (number_of q nodes)
number-pushed n row nodes q none = go nodes (nameless row.name nodes none)
  where
    go : (es : List (ℕ × NodeRow)) → AllByRecursion (λ e. e.1.name ≢ row.name) es → number_of q (es ++ (n, row) ∷ []) ≡ cond (same_name row.name q) (Some n) (number_of q es)
    go [] k = ap (λ (b : Bool). cond b (Some n) None) (turned q row.name)
    go (e ∷ es) k = by (same_name q e.1.name) refl (same_name row.name q) refl (go es k.1)
      where
        by : (a : Bool) → same_name q e.1.name ≡ a → (b : Bool) → same_name row.name q ≡ b → number_of q (es ++ (n, row) ∷ []) ≡ cond (same_name row.name q) (Some n) (number_of q es)
            → cond a (Some e.0) (number_of q (es ++ (n, row) ∷ [])) ≡ cond b (Some n) (cond a (Some e.0) (number_of q es))
        by true p true o r = absurd (k.0 (sym (same_is q e.1.name p) ∙ sym (same_is row.name q o)))
        by true p false o r = refl
        by false p b o r = r ∙ ap (λ (x : Bool). cond x (Some n) (number_of q es)) o

pub names_without : (n : ℕ) (nodes : List (ℕ × NodeRow)) → HasDistinctNames nodes → HasDistinctNames (without n nodes)
names_without n [] h = tt
names_without n (e ∷ nodes) h = go (nat_eq n e.0) (names_without n nodes h.1)
  where
    go : (b : Bool) → HasDistinctNames (without n nodes) → HasDistinctNames (cond (not b) (e ∷ without n nodes) (without n nodes))
    go true k = k
    go false k = (all_without (λ f. f.1.name ≢ e.1.name) n nodes h.0, k)

-- what holds of all nodes holds of the one under a number
at_found : (P : NodeRow → Type 0) (n : ℕ) (row : NodeRow) (nodes : List (ℕ × NodeRow)) → AllByRecursion (λ e. P e.1) nodes → lookup (nat_eq n) nodes ≡ Some row → P row
at_found P n row [] h found = absurd (none-some row found)
at_found P n row (e ∷ nodes) h found = go (nat_eq n e.0) found (λ k. at_found P n row nodes h.1 k)
  where
    go : (b : Bool) → cond b (Some e.1) (lookup (nat_eq n) nodes) ≡ Some row → (lookup (nat_eq n) nodes ≡ Some row → P row) → P row
    go true k rest = subst P (same_Some e.1 row k) h.0
    go false k rest = rest k

-- and after a removal
pub number-without : (n : ℕ) (row : NodeRow) (nodes : List (ℕ × NodeRow)) (q : Name) → HasDistinctNumbers nodes → HasDistinctNames nodes → lookup (nat_eq n) nodes ≡ Some row
    → number_of q (without n nodes) ≡ cond (same_name row.name q) None (number_of q nodes)
number-without n row [] q d h found = absurd (none-some row found)
number-without n row (e ∷ nodes) q d h found = go (nat_eq n e.0) refl found (λ k. number-without n row nodes q d.1 h.1 k)
  where
    -- the one that goes is the first
    first : n ≡ e.0 → e.1 ≡ row → number_of q (without n nodes) ≡ cond (same_name row.name q) None (cond (same_name q e.1.name) (Some e.0) (number_of q nodes))
    first same is = ap (number_of q) (without-unused n nodes (subst (λ (m : ℕ). IsUnused m nodes) (sym same) d.0)) ∙ by (same_name row.name q) refl
      where
        by : (b : Bool) → same_name row.name q ≡ b → number_of q nodes ≡ cond b None (cond (same_name q e.1.name) (Some e.0) (number_of q nodes))
        by true o = none_of q nodes (all_then (λ f. f.1.name ≢ e.1.name) (λ f. f.1.name ≢ q) (λ f apart k. apart (k ∙ sym (same_is row.name q o) ∙ sym (ap (λ (r : NodeRow). r.name) is))) nodes h.0)
        by false o =
            sym (ap (λ (b : Bool). cond b (Some e.0) (number_of q nodes)) (ap (λ (r : NodeRow). same_name q r.name) is ∙ turned q row.name ∙ o))

    behind : lookup (nat_eq n) nodes ≡ Some row → (a : Bool) → same_name q e.1.name ≡ a → (b : Bool) → same_name row.name q ≡ b → number_of q (without n nodes) ≡ cond (same_name row.name q) None (number_of q nodes)
        → cond a (Some e.0) (number_of q (without n nodes)) ≡ cond b None (cond a (Some e.0) (number_of q nodes))
    behind k true p true o r = absurd (at_found (λ x. x.name ≢ e.1.name) n row nodes h.0 k (same_is row.name q o ∙ same_is q e.1.name p))
    behind k true p false o r = refl
    behind k false p b o r = r ∙ ap (λ (x : Bool). let z : Option ℕ = cond x None (number_of q nodes) in z) o

    go : (b : Bool) → nat_eq n e.0 ≡ b → cond b (Some e.1) (lookup (nat_eq n) nodes) ≡ Some row → (lookup (nat_eq n) nodes ≡ Some row → number_of q (without n nodes) ≡ cond (same_name row.name q) None (number_of q nodes))
        → number_of q (without n (e ∷ nodes)) ≡ cond (same_name row.name q) None (number_of q (e ∷ nodes))
    go true p k rest =
        let same : n ≡ e.0 = grind (arith, nat_tests) in
        ap (λ (b : Bool). number_of q (cond (not b) (e ∷ without n nodes) (without n nodes))) p ∙ first same (same_Some e.1 row k)
    go false p k rest =
        ap (λ (b : Bool). number_of q (cond (not b) (e ∷ without n nodes) (without n nodes))) p ∙ behind k (same_name q e.1.name) refl (same_name row.name q) refl (rest k)

-- the number of a name is that of the node with it
number_own : (nodes : List (ℕ × NodeRow)) (name : Name) (n : ℕ) → HasDistinctNumbers nodes → number_of name nodes ≡ Some n → option_map (λ (r : NodeRow). r.name) (lookup (nat_eq n) nodes) ≡ Some name
number_own [] name n d found = absurd (none-some n found)
number_own (e ∷ nodes) name n d found = go (same_name name e.1.name) refl found (λ k. number_own nodes name n d.1 k)
  where
    go : (b : Bool) → same_name name e.1.name ≡ b → cond b (Some e.0) (number_of name nodes) ≡ Some n → (number_of name nodes ≡ Some n → option_map (λ (r : NodeRow). r.name) (lookup (nat_eq n) nodes) ≡ Some name)
        → option_map (λ (r : NodeRow). r.name) (lookup (nat_eq n) (e ∷ nodes)) ≡ Some name
    go true q is later =
        ap (λ (b : Bool). option_map (λ (r : NodeRow). r.name) (cond b (Some e.1) (lookup (nat_eq n) nodes))) (ap (nat_eq n) (same_Some e.0 n is) ∙ itself n) ∙ ap (λ (x : Name). Some x) (sym (same_is name e.1.name q))
    go false q is later = by (nat_eq n e.0) refl (later is)
      where
        by : (b : Bool) → nat_eq n e.0 ≡ b → option_map (λ (r : NodeRow). r.name) (lookup (nat_eq n) nodes) ≡ Some name → option_map (λ (r : NodeRow). r.name) (cond b (Some e.1) (lookup (nat_eq n) nodes)) ≡ Some name
        by true p k =
            let same : n ≡ e.0 = grind (arith, nat_tests) in
            absurd (none-some name (ap (option_map (λ (r : NodeRow). r.name)) (sym (lookup-unused n nodes (subst (λ (m : ℕ). IsUnused m nodes) (sym same) d.0))) ∙ k))
        by false p k = k

pub number_owns : (nodes : List (ℕ × NodeRow)) (name : Name) (o : Option ℕ) → HasDistinctNumbers nodes → o ≡ number_of name nodes → IfSome o (λ n. option_map (λ (r : NodeRow). r.name) (lookup (nat_eq n) nodes) ≡ Some name)
number_owns nodes name None d is = tt
number_owns nodes name (Some n) d is = number_own nodes name n d (sym is)

-- each node is found by its name
pub number_there : (n : ℕ) (row : NodeRow) (nodes : List (ℕ × NodeRow)) → HasDistinctNames nodes → lookup (nat_eq n) nodes ≡ Some row → number_of row.name nodes ≡ Some n
number_there n row [] h found = absurd (none-some row found)
number_there n row (e ∷ nodes) h found = go (nat_eq n e.0) refl found (λ k. number_there n row nodes h.1 k)
  where
    go : (b : Bool) → nat_eq n e.0 ≡ b → cond b (Some e.1) (lookup (nat_eq n) nodes) ≡ Some row → (lookup (nat_eq n) nodes ≡ Some row → number_of row.name nodes ≡ Some n) → number_of row.name (e ∷ nodes) ≡ Some n
    go true p k rest =
        let same : n ≡ e.0 = grind (arith, nat_tests) in
        let name = ap (λ (r : NodeRow). r.name) (same_Some e.1 row k) in
        ap (λ (b : Bool). cond b (Some e.0) (number_of row.name nodes)) (ap (same_name row.name) name ∙ self_same row.name) ∙ ap (λ (m : ℕ). Some m) (sym same)
    go false p k rest =
        let apart : row.name ≢ e.1.name = at_found (λ x. x.name ≢ e.1.name) n row nodes h.0 k in
        ap (λ (b : Bool). cond b (Some e.0) (number_of row.name nodes)) (other_name row.name e.1.name apart) ∙ rest k

pub unnamed_without : (n : ℕ) (row : NodeRow) (nodes : List (ℕ × NodeRow)) → HasDistinctNumbers nodes → HasDistinctNames nodes → lookup (nat_eq n) nodes ≡ Some row → number_of row.name (without n nodes) ≡ None
unnamed_without n row nodes d h found =
    number-without n row nodes row.name d h found ∙ ap (λ (b : Bool). let o : Option ℕ = cond b None (number_of row.name nodes) in o) (self_same row.name)
