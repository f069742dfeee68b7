-- What the nodes keep while one comes, goes or changes.
use Rattle.std.proofs.Common.{◌≡◌, ◌≢◌, ◌<◌, ◌≤◌, ℕ, Bool, true, false, cond, List, [], ◌∷◌, ◌++◌, Option, Some, None, IsTrue, nat_eq, refl, sym, ap, subst, ◌∙◌, arith}
use Rattle.std.specs.List.{AllByRecursion}
use Rattle.std.specs.Map.{lookup}
use Rattle.std.proofs.lemmas.Bool.Decides.{nat_tests}
use Rattle.ynl_resource.specs.declared.names.Name.{Name}
use Rattle.ynl_resource.specs.NameText.{is_name}
use Rattle.ynl_resource.specs.Names.{same_name}
use Rattle.ynl_resource.specs.declared.amounts.Resource.{Resource}
use Rattle.ynl_slots.specs.declared.chain.Chain.{Chain}
use Rattle.ynl_slots.specs.declared.chain.Links.{Links}
use Rattle.ynl_slots.specs.Chain.{IsChain}
use Rattle.ynl_slots.specs.Slots.{Numbered, IsUnused, IsOnly, HasDistinctNumbers, with_row, without}
use Rattle.ynl_slots.proofs.Chaining.{numbers_stay}
use Rattle.ynl_slots.proofs.Lookups.{only_from_distinct}
use Rattle.ynl_slots.proofs.Entries.{distinct_push, distinct_without, distinct_alike}
use Rattle.ynl_tables.specs.declared.nodes.nodes.NodeRow.{NodeRow}
use Rattle.ynl_tables.specs.declared.nodes.nodes.Nodes.TheInside.{Inside}
use Rattle.ynl_tables.specs.declared.nodes.numbers.Numbers.{Numbers}
use Rattle.ynl_tables.specs.nodes.Fields.{IsKept}
use Rattle.ynl_tables.specs.nodes.Nodes.{HasDistinctNames, by_name, number_of, no_chain, with_change}
use Rattle.ynl_tables.specs.nodes.Numbers.{number_in}
use Rattle.ynl_tables.proofs.nodes.Names.{names_pushed, number-pushed, names_without, number-without, number_there, unnamed_without}

-- what a push of a new node leaves
pub joined : (pushed reserved old : List (ℕ × NodeRow)) (n : ℕ) (name : Name) (partition : ℕ) (size : Resource) (stamp : ℕ) (free : Resource) (chain : Chain)
    → pushed ≡ reserved ++ (n, record { name = name; partition = partition; size = size; free = free; stamp = stamp; containers = chain }) ∷ [] → reserved ≡ old → free ≡ size
    → ((at : ℕ → Option Links) → IsChain at chain [])
    → pushed ≡ old ++ (n, record { name = name; partition = partition; size = size; free = size; stamp = stamp; containers = no_chain }) ∷ []
joined pushed reserved old n name partition size stamp free chain is same all empty =
    is ∙ (λ i. same i ++ (n, record { name = name; partition = partition; size = size; free = all i; stamp = stamp; containers = record { first = (empty (λ _. None)).first i; last = (empty (λ _. None)).last i } }) ∷ [])

-- ---- one node changes, and keeps its name

changed : (n : ℕ) (row : NodeRow) (change : NodeRow → NodeRow) (nodes : List (ℕ × NodeRow)) → IsOnly n row nodes → with_row n (change row) nodes ≡ with_change n change nodes
changed n row change [] only = refl
changed n row change (e ∷ nodes) only = go (nat_eq n e.0) refl (changed n row change nodes only.1)
  where
    go : (b : Bool) → nat_eq n e.0 ≡ b → with_row n (change row) nodes ≡ with_change n change nodes → cond b (e.0, change row) e ∷ with_row n (change row) nodes ≡ cond b (e.0, change e.1) e ∷ with_change n change nodes
    go true q r =
        let same : n ≡ e.0 = grind (arith, nat_tests) in
        ap (λ (x : NodeRow). (e.0, change x) ∷ with_row n (change row) nodes) (sym (only.0 (sym same))) ∙ ap (λ es. (e.0, change e.1) ∷ es) r
    go false q r = ap (λ es. e ∷ es) r

named_alike : (n : ℕ) (row next : NodeRow) (nodes : List (ℕ × NodeRow)) → IsOnly n row nodes → next.name ≡ row.name → by_name (with_row n next nodes) ≡ by_name nodes
named_alike n row next [] only is = refl
named_alike n row next (e ∷ nodes) only is = go (nat_eq n e.0) refl (named_alike n row next nodes only.1 is)
  where
    go : (b : Bool) → nat_eq n e.0 ≡ b → by_name (with_row n next nodes) ≡ by_name nodes → by_name (cond b (e.0, next) e ∷ with_row n next nodes) ≡ by_name (e ∷ nodes)
    go true q r =
        let same : n ≡ e.0 = grind (arith, nat_tests) in
        ap (λ (x : Name). (x, e.0) ∷ by_name (with_row n next nodes)) (is ∙ sym (ap (λ (x : NodeRow). x.name) (only.0 (sym same)))) ∙ ap (λ ps. (e.1.name, e.0) ∷ ps) r
    go false q r = ap (λ ps. (e.1.name, e.0) ∷ ps) r

first_alike : (p q : Name × ℕ) (ps qs : List (Name × ℕ)) → p ∷ ps ≡ q ∷ qs → p.0 ≡ q.0
first_alike p q ps qs same = let whole : p ≡ q = cc in ap (λ (r : Name × ℕ). r.0) whole

rest_alike : (p q : Name × ℕ) (ps qs : List (Name × ℕ)) → p ∷ ps ≡ q ∷ qs → ps ≡ qs
rest_alike p q ps qs same = cc

other_alike : (name : Name) (xs ys : List (ℕ × NodeRow)) → by_name xs ≡ by_name ys → AllByRecursion (λ f. f.1.name ≢ name) ys → AllByRecursion (λ f. f.1.name ≢ name) xs
other_alike name [] ys same h = tt
other_alike name (x ∷ xs) [] same h = absurd (cc)
other_alike name (x ∷ xs) (y ∷ ys) same h =
    let here : x.1.name ≡ y.1.name = first_alike (x.1.name, x.0) (y.1.name, y.0) (by_name xs) (by_name ys) same in
    let rest : by_name xs ≡ by_name ys = rest_alike (x.1.name, x.0) (y.1.name, y.0) (by_name xs) (by_name ys) same in
    ((λ is. h.0 (sym here ∙ is)), other_alike name xs ys rest h.1)

names_alike : (xs ys : List (ℕ × NodeRow)) → by_name xs ≡ by_name ys → HasDistinctNames ys → HasDistinctNames xs
names_alike [] ys same h = tt
names_alike (x ∷ xs) [] same h = absurd (cc)
names_alike (x ∷ xs) (y ∷ ys) same h =
    let here : x.1.name ≡ y.1.name = first_alike (x.1.name, x.0) (y.1.name, y.0) (by_name xs) (by_name ys) same in
    let rest : by_name xs ≡ by_name ys = rest_alike (x.1.name, x.0) (y.1.name, y.0) (by_name xs) (by_name ys) same in
    (other_alike x.1.name xs ys rest (subst (λ (name : Name). AllByRecursion (λ f. f.1.name ≢ name) ys) (sym here) h.0), names_alike xs ys rest h.1)

module _ (a : Inside) (h : IsKept a) where
  pub change_is : (n : ℕ) (row : NodeRow) (change : NodeRow → NodeRow) → lookup (nat_eq n) a.rows.entries ≡ Some row → with_row n (change row) a.rows.entries ≡ with_change n change a.rows.entries
  change_is n row change found = changed n row change a.rows.entries (only_from_distinct n row a.rows.entries h.distinct found)

  pub change_kept : (n : ℕ) (row next : NodeRow) (room : ℕ) → lookup (nat_eq n) a.rows.entries ≡ Some row → next.name ≡ row.name → a.rows.room ≤ room
      → IsKept (record { rows = record { entries = with_row n next a.rows.entries; room = room }; numbers = a.numbers; ready = a.ready })
  change_kept n row next room found is more = record {
    distinct = distinct_alike (with_row n next a.rows.entries) a.rows.entries (numbers_stay n next a.rows.entries) h.distinct;
    names = names_alike (with_row n next a.rows.entries) a.rows.entries alike h.names;
    found = λ name named. h.found name named ∙ ap (lookup (same_name name)) (sym alike);
    room = λ ready. let before = h.room ready in omega (arith, before, more);
  }
    where
      alike : by_name (with_row n next a.rows.entries) ≡ by_name a.rows.entries
      alike = named_alike n row next a.rows.entries (only_from_distinct n row a.rows.entries h.distinct found) is

  -- a node comes last
  pub push_kept : (n : ℕ) (row : NodeRow) (rows : Numbered NodeRow) (numbers : Numbers) (ready : Bool) → (ready ≡ true → 0 < rows.room) → rows.entries ≡ a.rows.entries ++ (n, row) ∷ [] → IsUnused n a.rows.entries → number_of row.name a.rows.entries ≡ None
      → ((q : Name) → IsTrue (is_name q) → number_in numbers q ≡ cond (same_name row.name q) (Some n) (number_in a.numbers q)) → IsKept (record { rows = rows; numbers = numbers; ready = ready })
  push_kept n row rows numbers ready room is unused new put = record {
    distinct = subst HasDistinctNumbers (sym is) (distinct_push n row a.rows.entries unused h.distinct);
    names = subst HasDistinctNames (sym is) (names_pushed n row a.rows.entries new h.names);
    found = λ q named.
        put q named ∙ ap (λ (o : Option ℕ). cond (same_name row.name q) (Some n) o) (h.found q named)
        ∙ sym (number-pushed n row a.rows.entries q new) ∙ ap (number_of q) (sym is);
    room = room;
  }

  -- a node goes
  pub without_kept : (n : ℕ) (row : NodeRow) (rows : Numbered NodeRow) (numbers : Numbers) (ready : Bool) → (ready ≡ true → 0 < rows.room) → rows.entries ≡ without n a.rows.entries → lookup (nat_eq n) a.rows.entries ≡ Some row
      → ((q : Name) → IsTrue (is_name q) → number_in numbers q ≡ cond (same_name row.name q) None (number_in a.numbers q)) → IsKept (record { rows = rows; numbers = numbers; ready = ready })
  without_kept n row rows numbers ready room is there gone = record {
    distinct = subst HasDistinctNumbers (sym is) (distinct_without n a.rows.entries h.distinct);
    names = subst HasDistinctNames (sym is) (names_without n a.rows.entries h.names);
    found = λ q named.
        gone q named ∙ ap (λ (o : Option ℕ). let p : Option ℕ = cond (same_name row.name q) None o in p) (h.found q named)
        ∙ sym (number-without n row a.rows.entries q h.distinct h.names there) ∙ ap (number_of q) (sym is);
    room = room;
  }

  -- a node goes, and one of its name comes last
  pub moved_kept : (n m : ℕ) (row next : NodeRow) (rows : Numbered NodeRow) (numbers : Numbers) (ready : Bool) → (ready ≡ true → 0 < rows.room) → rows.entries ≡ without n a.rows.entries ++ (m, next) ∷ [] → lookup (nat_eq n) a.rows.entries ≡ Some row → next.name ≡ row.name → IsUnused m (without n a.rows.entries)
      → ((q : Name) → IsTrue (is_name q) → number_in numbers q ≡ cond (same_name row.name q) (Some m) (number_in a.numbers q)) → IsKept (record { rows = rows; numbers = numbers; ready = ready })
  moved_kept n m row next rows numbers ready room is there same unused put = record {
    distinct = subst HasDistinctNumbers (sym is) (distinct_push m next (without n a.rows.entries) unused (distinct_without n a.rows.entries h.distinct));
    names = subst HasDistinctNames (sym is) (names_pushed m next (without n a.rows.entries) new (names_without n a.rows.entries h.names));
    found = λ q named.
        put q named ∙ ap (λ (o : Option ℕ). cond (same_name row.name q) (Some m) o) (h.found q named)
        ∙ over (same_name row.name q) (number_of q a.rows.entries)
        ∙ ap (λ (o : Option ℕ). cond (same_name row.name q) (Some m) o) (sym (number-without n row a.rows.entries q h.distinct h.names there))
        ∙ ap (λ (x : Name). cond (same_name x q) (Some m) (number_of q (without n a.rows.entries))) (sym same)
        ∙ sym (number-pushed m next (without n a.rows.entries) q new) ∙ ap (number_of q) (sym is);
    room = room;
  }
    where
      new : number_of next.name (without n a.rows.entries) ≡ None
      new = ap (λ (x : Name). number_of x (without n a.rows.entries)) same ∙ unnamed_without n row a.rows.entries h.distinct h.names there

      over : (b : Bool) (o : Option ℕ) → cond b (Some m) o ≡ cond b (Some m) (let p : Option ℕ = cond b None o in p)
      over true o = refl
      over false o = refl

  -- the map has the name of each node
  pub name_there : (n : ℕ) (row : NodeRow) → lookup (nat_eq n) a.rows.entries ≡ Some row → IsTrue (is_name row.name) → number_in a.numbers row.name ≡ Some n
  name_there n row there named = h.found row.name named ∙ number_there n row a.rows.entries h.names there

  -- the names stay where the nodes do
  pub same_kept : (rows : Numbered NodeRow) (numbers : Numbers) (ready : Bool) → (ready ≡ true → 0 < rows.room) → rows.entries ≡ a.rows.entries → ((q : Name) → number_in numbers q ≡ number_in a.numbers q) → IsKept (record { rows = rows; numbers = numbers; ready = ready })
  same_kept rows numbers ready room is same = record {
    distinct = subst HasDistinctNumbers (sym is) h.distinct;
    names = subst HasDistinctNames (sym is) h.names;
    found = λ q named. same q ∙ h.found q named ∙ ap (number_of q) (sym is);
    room = room;
  }
