-- Nodes of a label counted, where one comes or goes.
use Rattle.std.proofs.Common.{◌≡◌, ℕ, ◌+◌, ◌-◌, ◌<◌, Bool, true, false, cond, List, [], ◌∷◌, ◌++◌, length, Option, None, Some, is_some, refl, sym, ap, subst, ◌∙◌, arith}
use Rattle.std.specs.BTreeMap.{is_at}
use Rattle.std.specs.Cmp.Lexicographic.{bytes_decides}
use Rattle.std.specs.List.{count_by}
use Rattle.std.specs.Map.{lookup, remove_entry, values_of}
use Rattle.std.specs.Option.{unwrap_or, option_map}
use Rattle.std.proofs.lemmas.Bool.{leb-false, true≢false}
use Rattle.std.proofs.lemmas.List.Sums.{length-filter, sum_by-append}
use Rattle.std.proofs.lemmas.Map.Entries.{sum_by-remove_entry}
use Rattle.std.proofs.lemmas.Map.Text.{is_eq-slice_cmp}
use Rattle.ynl_resource.specs.declared.labels.Label.{Label}
use Rattle.ynl_resource.specs.declared.labels.Label.TheVariants.{Unlabelled, Named}
use Rattle.ynl_resource.specs.Names.{same_label}
use Rattle.ynl_resource.specs.Ranges.{most_nodes}
use Rattle.ynl_model.specs.declared.nodes.Node.{Node}
use Rattle.ynl_model.specs.Nodes.{nodes_of, is_full}
use Rattle.ynl_view.specs.nodes.Counts.{label_order}

-- the map's test of a key is that of labels
at_same : (label p : Label) → is_at (label_order label) p ≡ same_label label p
at_same Unlabelled Unlabelled = refl
at_same Unlabelled (Named b) = refl
at_same (Named a) Unlabelled = refl
at_same (Named a) (Named b) = is_eq-slice_cmp a b

pub label_self : (a : Label) → same_label a a ≡ true
label_self Unlabelled = refl
label_self (Named n) = (bytes_decides n n).1 refl

label_is : (a b : Label) → same_label a b ≡ true → a ≡ b
label_is Unlabelled Unlabelled h = refl
label_is Unlabelled (Named n) h = absurd (true≢false (sym h))
label_is (Named n) Unlabelled h = absurd (true≢false (sym h))
label_is (Named n) (Named m) h = ap (λ name. Named name) ((bytes_decides n m).0 h)

-- what a node adds to the count of a label
abbrev pub one : Label → Label → ℕ
one label p = cond (same_label label p) 1 0

-- a map where a label that had no row has one, which counts nothing
pub opened : (f g : Label → Option ℕ) (label : Label) → is_some (f label) ≡ false → ((p : Label) → g p ≡ cond (is_at (label_order label) p) (Some 0) (f p)) → (p : Label) → unwrap_or (g p) 0 ≡ unwrap_or (f p) 0
opened f g label none update p = ap (λ o. unwrap_or o 0) (update p ∙ ap (λ b. cond b (Some 0) (f p)) (at_same label p)) ∙ go (same_label label p) refl
  where
    nothing : (o : Option ℕ) → is_some o ≡ false → 0 ≡ unwrap_or o 0
    nothing None h = refl
    nothing (Some n) h = absurd (true≢false h)

    go : (b : Bool) → same_label label p ≡ b → unwrap_or (cond b (Some 0) (f p)) 0 ≡ unwrap_or (f p) 0
    go true q = nothing (f p) (sym (ap (λ l. is_some (f l)) (label_is label p q)) ∙ none)
    go false q = refl

-- a map where the count of one label is written, and is one more or one less
pub written : (f g : Label → Option ℕ) (label : Label) (n w : ℕ) (change : ℕ → ℕ → ℕ) → f label ≡ Some n → ((p : Label) → g p ≡ cond (is_at (label_order label) p) (Some w) (f p)) → w ≡ change n 1 → ((m : ℕ) → m ≡ change m 0)
    → (p : Label) → unwrap_or (g p) 0 ≡ change (unwrap_or (f p) 0) (one label p)
written f g label n w change here update is none p = ap (λ o. unwrap_or o 0) (update p ∙ ap (λ b. cond b (Some w) (f p)) (at_same label p)) ∙ go (same_label label p) refl
  where
    go : (b : Bool) → same_label label p ≡ b → unwrap_or (cond b (Some w) (f p)) 0 ≡ change (unwrap_or (f p) 0) (cond b 1 0)
    go true q = is ∙ ap (λ o. change (unwrap_or o 0) 1) (sym here ∙ ap f (label_is label p q))
    go false q = none (unwrap_or (f p) 0)

module _ (p : Label) where
  counted : (nodes : List Node) → length (nodes_of nodes p) ≡ count_by (λ node. same_label node.label p) nodes
  counted nodes = length-filter (λ (node : Node). same_label node.label p) nodes

  pub counted_joined : (nodes : List Node) (node : Node) → length (nodes_of (nodes ++ node ∷ []) p) ≡ length (nodes_of nodes p) + one node.label p
  counted_joined nodes node =
      let sum = sum_by-append (λ (node : Node). one node.label p) nodes (node ∷ []) in
      let all = counted (nodes ++ node ∷ []) in
      let before = counted nodes in
      omega (arith, sum, all, before)

  pub counted_left : (test : ℕ → Bool) (node : Node) (es : List (ℕ × Node)) → lookup test es ≡ Some node → length (nodes_of (values_of (remove_entry test es)) p) + one node.label p ≡ length (nodes_of (values_of es) p)
  counted_left test node es here =
      let sum = sum_by-remove_entry (λ (node : Node). one node.label p) test es in
      let found = ap (λ o. unwrap_or (option_map (λ (node : Node). one node.label p) o) 0) here in
      let all = counted (values_of es) in
      let after = counted (values_of (remove_entry test es)) in
      omega (arith, sum, found, all, after)

-- a count that was right is right where one has gone, and where one has gone and one come
pub less_one : (new old all rest gone : ℕ) → new ≡ old - gone → old ≡ all → rest + gone ≡ all → new ≡ rest
less_one new old all rest gone a b c = omega (arith, a, b, c)

pub one_moved : (new more old all rest gone come : ℕ) → new ≡ more - gone → more ≡ old + come → old ≡ all → rest + gone ≡ all → new ≡ rest + come
one_moved new more old all rest gone come a b c d = omega (arith, a, b, c, d)

-- a partition that is not full has a place
pub has_place : (nodes : List Node) (label : Label) → is_full nodes label ≡ false → (count : ℕ) → count ≡ length (nodes_of nodes label) → count < most_nodes
unfolding is_full
has_place nodes label h count is = subst (λ n. n < most_nodes) (sym is) (leb-false most_nodes (length (nodes_of nodes label)) h)
