-- Names that lead to numbers, and the nodes under these.
use Rattle.std.proofs.Common.{◌≡◌, ℕ, ◌<◌, ◌≤◌, Bool, true, false, cond, not, ◌&&◌, List, [], ◌∷◌, ◌++◌, length, Option, None, Some, refl, sym, ap, subst, ◌∙◌, arith}
use Rattle.std.specs.BTreeMap.{BTreeMap, IsOrdered, get, is_at}
use Rattle.std.specs.List.{AllByRecursion}
use Rattle.std.specs.Map.{lookup, remove_entry, keys_of, values_of}
use Rattle.std.specs.Option.{IfSome}
use Rattle.std.specs.Ordering.{eq_by_cmp, nat_cmp}
use Rattle.std.specs.Cmp.Lexicographic.{bytes_decides}
use Rattle.std.proofs.lemmas.Map.{NonePasses, none_passes_from_lookup}
use Rattle.std.proofs.lemmas.Map.Entries.{none_past_head}
use Rattle.std.proofs.lemmas.Map.Keys.{IsDistinct-tail}
use Rattle.std.proofs.lemmas.Map.Text.{is_eq-slice_cmp}
use mathlib.Core.Bool.{true≢false}
use Rattle.ynl_resource.specs.declared.labels.Label.{Label}
use Rattle.ynl_resource.specs.declared.names.Name.{Name}
use Rattle.ynl_resource.specs.Names.{same_name, same_label, name_order}
use Rattle.ynl_resource.specs.Tables.{without}
use Rattle.ynl_model.specs.declared.nodes.Node.{Node}
use Rattle.ynl_model.specs.Nodes.{find_node, left, nodes_of, is_at as stands}
use Rattle.ynl_view.specs.declared.nodes.nodes.Nodes.TheInside.{Inside}
use Rattle.ynl_view.specs.nodes.Counts.{count_at}
use Rattle.ynl_view.specs.nodes.Nodes.{nodes_in, is_number, AreKept, Leads}
use Rattle.ynl_view.proofs.nodes.Entries.{at, at_is, at_self, laws, not_at, not_above, differ, Differ, Under, each_append, each_removed, none_left}

same_is : (a b : Name) → same_name a b ≡ true → a ≡ b
same_is a b h = (bytes_decides a b).0 h

self_same : (a : Name) → same_name a a ≡ true
self_same a = (bytes_decides a a).1 refl

-- the test finds the nodes of the name
abbrev pub Finds : (ℕ → Bool) → Name → List (ℕ × Node) → Type 0
Finds test name es = AllByRecursion (λ e. test e.0 ≡ same_name e.1.name name) es

-- no node has the name
abbrev pub Absent : Name → List (ℕ × Node) → Type 0
Absent name es = Finds (λ n. false) name es

-- ---- what is found

found : (test : ℕ → Bool) (name : Name) (es : List (ℕ × Node)) → Finds test name es → lookup test es ≡ find_node (values_of es) name
found test name [] h = refl
found test name (e ∷ es) h = let same = h.0 in let rest = found test name es h.1 in λ i. cond (same i) (Some e.1) (rest i)

absent : (test : ℕ → Bool) (name : Name) (es : List (ℕ × Node)) → Finds test name es → NonePasses test es → Absent name es
absent test name [] h k = tt
absent test name (e ∷ es) h k = (sym k.0 ∙ h.0, absent test name es h.1 k.1)

none_found : (name : Name) (es : List (ℕ × Node)) → Absent name es → None ≡ find_node (values_of es) name
none_found name [] h = refl
none_found name (e ∷ es) h = none_found name es h.1 ∙ ap (λ b. cond b (Some e.1) (find_node (values_of es) name)) h.0

-- no node is found by the name
unfound : (name : Name) (es : List (ℕ × Node)) → find_node (values_of es) name ≡ None → Absent name es
unfound name [] h = tt
unfound name (e ∷ es) h = go (same_name e.1.name name) refl h (unfound name es)
  where
    go : (b : Bool) → same_name e.1.name name ≡ b → cond b (Some e.1) (find_node (values_of es) name) ≡ None → (find_node (values_of es) name ≡ None → Absent name es) → Absent name (e ∷ es)
    go true p k rest = absurd (cc)
    go false p k rest = (sym p, rest k)

-- ---- a node leaves

module _ (name : Name) (label : Label) where
  -- where no node has the name, none leaves
  stays : (es : List (ℕ × Node)) → Absent name es → values_of es ≡ without (stands name label) (values_of es)
  stays [] h = refl
  stays (e ∷ es) h = ap (λ rest. e.1 ∷ rest) (stays es h.1) ∙ ap (λ b. cond (not (b && same_label e.1.label label)) (e.1 ∷ without (stands name label) (values_of es)) (without (stands name label) (values_of es))) h.0

  -- what is under the number of the name goes if it stands on the partition
  goes : (n : ℕ) (node : Node) (b : Bool) → same_label node.label label ≡ b → (es : List (ℕ × Node)) → Differ es → Finds (at n) name es → lookup (at n) es ≡ Some node
      → values_of (cond b (remove_entry (at n) es) es) ≡ without (stands name label) (values_of es)
  goes n node b here [] d h k = absurd (cc)
  goes n node b here (e ∷ es) d h k = go (at n e.0) refl h.0 k (goes n node b here es (IsDistinct-tail (eq_by_cmp nat_cmp) e.0 (keys_of es) d) h.1)
    where
      others : List Node
      others = without (stands name label) (values_of es)

      first : (b : Bool) → values_of es ≡ others → values_of (cond b es (e ∷ es)) ≡ cond (not b) (e.1 ∷ others) others
      first true k = k
      first false k = ap (λ rest. e.1 ∷ rest) k

      later : (b : Bool) → values_of (cond b (remove_entry (at n) es) es) ≡ others → values_of (cond b (e ∷ remove_entry (at n) es) (e ∷ es)) ≡ e.1 ∷ others
      later true k = ap (λ rest. e.1 ∷ rest) k
      later false k = ap (λ rest. e.1 ∷ rest) k

      go : (c : Bool) → at n e.0 ≡ c → c ≡ same_name e.1.name name → cond c (Some e.1) (lookup (at n) es) ≡ Some node → (lookup (at n) es ≡ Some node → values_of (cond b (remove_entry (at n) es) es) ≡ others)
          → values_of (cond b (cond c es (e ∷ remove_entry (at n) es)) (e ∷ es)) ≡ cond (not (same_name e.1.name name && same_label e.1.label label)) (e.1 ∷ others) others
      go true p q k rest =
          let same : e.1 ≡ node = cc in
          let test : (same_name e.1.name name && same_label e.1.label label) ≡ b = ap (λ c. c && same_label e.1.label label) (sym q) ∙ ap (λ (m : Node). same_label m.label label) same ∙ here in
          first b (stays es (absent (at n) name es h.1 (none_past_head laws n e es d p))) ∙ sym (ap (λ c. cond (not c) (e.1 ∷ others) others) test)
      go false p q k rest = later b (rest k) ∙ ap (λ c. cond (not (c && same_label e.1.label label)) (e.1 ∷ others) others) q

-- ---- of nodes that are kept

module _ (t : Inside) (kept : AreKept t) where
  abbrev number_of : Name → Option ℕ
  number_of = get name_order t.numbers

  abbrev es : List (ℕ × Node)
  es = t.nodes.entries

  -- what is under the number of a name has the name
  finds : (name : Name) (n : ℕ) → number_of name ≡ Some n → Finds (at n) name es
  finds name n to = subst (λ o. Finds (is_number o) name es) to (kept.leads.names name)

  -- no node has a name that leads nowhere
  pub leads_nowhere : (name : Name) → number_of name ≡ None → Absent name es
  leads_nowhere name none = subst (λ o. Finds (is_number o) name es) none (kept.leads.names name)

  -- nor one whose number has nothing under it
  pub leads_astray : (name : Name) (n : ℕ) → number_of name ≡ Some n → lookup (at n) es ≡ None → Absent name es
  leads_astray name n to none = absent (at n) name es (finds name n to) (none_passes_from_lookup (at n) es none)

  -- where the entries of both maps and the counts are the same, all is kept
  pub kept_same : (nodes : BTreeMap ℕ Node) (numbers : BTreeMap Name ℕ) (counts : BTreeMap Label ℕ) → IsOrdered nat_cmp nodes → nodes.entries ≡ es → numbers.entries ≡ t.numbers.entries → ((p : Label) → count_at counts p ≡ count_at t.counts p)
      → AreKept (record { nodes = nodes; numbers = numbers; top = t.top; counts = counts })
  kept_same nodes numbers counts rises a b same = record {
    rises = rises;
    leads = subst (λ es. Leads (get name_order numbers) es t.top) (sym a) (subst (λ ns. Leads (λ q. lookup (is_at (name_order q)) ns) es t.top) (sym b) kept.leads);
    counts = λ p. same p ∙ kept.counts p ∙ ap (λ es. length (nodes_of (values_of es) p)) (sym a);
  }

  -- the numbers are under one above the highest
  pub under : (n : ℕ) → t.top < n → Under n es
  under n high = go es kept.leads.names
    where
      le : (o : Option ℕ) (k : ℕ) → IfSome o (λ m. m ≤ t.top) → is_number o k ≡ true → k < n
      le None k low found = absurd (true≢false (sym found))
      le (Some m) k low found = let same = at_is m k found in let l : m ≤ t.top = low in omega (arith, same, l)

      go : (es : List (ℕ × Node)) → ((q : Name) → Finds (is_number (number_of q)) q es) → Under n es
      go [] names = tt
      go (e ∷ es) names = (le (number_of e.1.name) e.0 (kept.leads.below e.1.name) ((names e.1.name).0 ∙ self_same e.1.name), go es (λ q. (names q).1))

  -- a name leads elsewhere, and the others lead where they led
  leads_set : (name : Name) (to : Option ℕ) (g : Name → Option ℕ) → ((q : Name) → g q ≡ cond (is_at (name_order name) q) to (number_of q)) → (new : List (ℕ × Node)) (top : ℕ) → t.top ≤ top → IfSome to (λ m. m ≤ top) → Finds (is_number to) name new
      → ((q : Name) → same_name name q ≡ false → Finds (is_number (number_of q)) q new) → Leads g new top
  leads_set name to g update new top more low this others = record {
    names = λ q. subst (λ o. Finds (is_number o) q new) (sym (update q ∙ ap (λ b. cond b to (number_of q)) (is_eq-slice_cmp name q))) (names q (same_name name q) refl);
    below = λ q. subst (λ o. IfSome o (λ m. m ≤ top)) (sym (update q)) (below q (is_at (name_order name) q));
  }
    where
      names : (q : Name) (b : Bool) → same_name name q ≡ b → Finds (is_number (cond b to (number_of q))) q new
      names q true p = subst (λ r. Finds (is_number to) r new) (same_is name q p) this
      names q false p = others q p

      raised : (o : Option ℕ) → IfSome o (λ m. m ≤ t.top) → IfSome o (λ m. m ≤ top)
      raised None low = tt
      raised (Some m) low = let l : m ≤ t.top = low in omega (arith, l, more)

      below : (q : Name) (b : Bool) → IfSome (cond b to (number_of q)) (λ m. m ≤ top)
      below q true = low
      below q false = raised (number_of q) (kept.leads.below q)

  -- a node comes last under its name, where no node has that
  comes : (n : ℕ) (node : Node) (g : Name → Option ℕ) → ((q : Name) → g q ≡ cond (is_at (name_order node.name) q) (Some n) (number_of q)) → t.top < n → (rest : List (ℕ × Node)) → Under n rest → Absent node.name rest
      → ((q : Name) → Finds (is_number (number_of q)) q rest) → Leads g (rest ++ (n, node) ∷ []) n
  comes n node g update high rest low none stay =
      leads_set node.name (Some n) g update (rest ++ (n, node) ∷ []) n (omega (arith, high)) (omega arith)
      (each_append (λ e. at n e.0 ≡ same_name e.1.name node.name) rest (n, node) (others rest low none) (at_self n ∙ sym (self_same node.name)))
      (λ q p. each_append (λ e. is_number (number_of q) e.0 ≡ same_name e.1.name q) rest (n, node) (stay q) (elsewhere (number_of q) (kept.leads.below q) ∙ sym p))
    where
      others : (es : List (ℕ × Node)) → Under n es → Absent node.name es → Finds (at n) node.name es
      others [] low none = tt
      others (e ∷ es) low none = (not_at n e.0 low.0 ∙ none.0, others es low.1 none.1)

      elsewhere : (o : Option ℕ) → IfSome o (λ m. m ≤ t.top) → is_number o n ≡ false
      elsewhere None low = refl
      elsewhere (Some m) low = let l : m ≤ t.top = low in not_above m n (omega (arith, l, high))

  pub leads_joined : (n : ℕ) (node : Node) (g : Name → Option ℕ) → ((q : Name) → g q ≡ cond (is_at (name_order node.name) q) (Some n) (number_of q)) → t.top < n → find_node (nodes_in t) node.name ≡ None → Leads g (es ++ (n, node) ∷ []) n
  leads_joined n node g update high new = comes n node g update high es (under n high) (unfound node.name es new) kept.leads.names

  module _ (name : Name) (n : ℕ) (to : number_of name ≡ Some n) where
    abbrev rest : List (ℕ × Node)
    rest = remove_entry (at n) es

    stay : (q : Name) → Finds (is_number (number_of q)) q rest
    stay q = each_removed (λ e. is_number (number_of q) e.0 ≡ same_name e.1.name q) (at n) es (kept.leads.names q)

    -- no node has the name once the one under its number has gone
    gone : Absent name rest
    gone = absent (at n) name rest (each_removed (λ e. at n e.0 ≡ same_name e.1.name name) (at n) es (finds name n to)) (none_left n es (differ es kept.rises))

    -- which the name leads to no more, or to the node under another number
    pub leads_left : (g : Name → Option ℕ) → ((q : Name) → g q ≡ cond (is_at (name_order name) q) None (number_of q)) → Leads g (remove_entry (at n) es) t.top
    leads_left g update = leads_set name None g update rest t.top (omega arith) tt gone (λ q p. stay q)

  pub leads_moved : (n m : ℕ) (node : Node) → number_of node.name ≡ Some n → (g : Name → Option ℕ) → ((q : Name) → g q ≡ cond (is_at (name_order node.name) q) (Some m) (number_of q)) → t.top < m → Leads g (remove_entry (at n) es ++ (m, node) ∷ []) m
  leads_moved n m node to g update high = comes m node g update high (remove_entry (at n) es) (each_removed (λ e. e.0 < m) (at n) es (under m high)) (gone node.name n to) (stay node.name n to)

  -- ---- and what a contract sees of them

  module _ (v : List Node) (view : nodes_in t ≡ v) where
    pub found_at : (name : Name) (n : ℕ) → number_of name ≡ Some n → lookup (at n) es ≡ find_node v name
    found_at name n to = found (at n) name es (finds name n to) ∙ ap (λ nodes. find_node nodes name) view

    pub found_nowhere : (name : Name) → number_of name ≡ None → None ≡ find_node v name
    found_nowhere name none = none_found name es (leads_nowhere name none) ∙ ap (λ nodes. find_node nodes name) view

    pub none_leaves : (node : Node) → Absent node.name es → v ≡ left node v
    unfolding left
    none_leaves node none = sym view ∙ stays node.name node.label es none ∙ ap (λ nodes. without (stands node.name node.label) nodes) view

    pub one_leaves : (node : Node) (n : ℕ) → number_of node.name ≡ Some n → (other : Node) → lookup (at n) es ≡ Some other → (b : Bool) → same_label other.label node.label ≡ b → values_of (cond b (remove_entry (at n) es) es) ≡ left node v
    unfolding left
    one_leaves node n to other there b on = goes node.name node.label n other b on es (differ es kept.rises) (finds node.name n to) there ∙ ap (λ nodes. without (stands node.name node.label) nodes) view
