-- How the chains of some key go with the rows, while one row comes last or goes.
use Rattle.std.proofs.Common.{◌≡◌, ◌≢◌, ℕ, List, [], ◌∷◌, ◌++◌, Option, Some, None, option_map, IfSome, IfNone, nat_eq, refl, sym, ap, subst, ◌∙◌}
use Rattle.std.specs.List.{AllByRecursion}
use Rattle.std.specs.Map.{lookup}
use Rattle.std.proofs.lemmas.Option.{same_Some, none-some}
use Rattle.ynl_slots.specs.declared.chain.Links.{Links}
use Rattle.ynl_slots.specs.declared.chain.Chain.{Chain}
use Rattle.ynl_slots.specs.Slots.{IsUnused, HasDistinctNumbers, without}
use Rattle.ynl_slots.specs.Chain.{first_or, last_or, links_at, IsChain, IsLinked, IsIn, Appends, AppendsAt, Removes, RemovesAt}
use Rattle.ynl_slots.proofs.Chaining.{all_last, all_first, run_same, beside}
use Rattle.ynl_slots.proofs.Lists.{all_then, all_both, all_front, all_back}
use Rattle.ynl_tables.specs.containers.Fields.{of_rows}
use Rattle.ynl_tables.specs.containers.Chains.{numbers_of, IsChainOf, IsFirst, IsNext}
use Rattle.ynl_slots.proofs.Entries.{lookup-push-other, lookup-without-other, unused_without}
use Rattle.ynl_tables.proofs.containers.Numbers.{all_numbers, all_of_key, numbers-push-own, numbers-push-other, numbers-without-other, none_from_numbers, Splits, splits}
use Rattle.ynl_tables.proofs.containers.Rows.{lookup-of_rows}

-- a chain stays one where the links of its numbers stay
chain_same : (at new : ℕ → Option Links) (chain : Chain) (ns : List ℕ) → AllByRecursion (λ n. new n ≡ at n) ns → IsChain at chain ns → IsChain new chain ns
chain_same at new chain ns h c = record {
  first = c.first;
  last = c.last;
  run = run_same at new None ns None h c.run;
  distinct = c.distinct;
}

module _ {X : Type 0} (links : X → Links) where
  links_of : (es : List (ℕ × X)) (ls : List (ℕ × Links)) (n : ℕ) → of_rows links es ≡ ls → links_at links es n ≡ lookup (nat_eq n) ls
  links_of es ls n is = sym (lookup-of_rows links n es) ∙ ap (lookup (nat_eq n)) is

  shown : (es : List (ℕ × X)) (chain : Chain) (ns : List ℕ) → IsChain (links_at links es) chain ns → IsChain (λ n. lookup (nat_eq n) (of_rows links es)) chain ns
  shown es chain ns c = subst (λ (at : ℕ → Option Links). IsChain at chain ns) (λ i n. sym (lookup-of_rows links n es) i) c

module _ {X C : Type 0} (links : X → Links) (key : C → ℕ) (mid : List (ℕ × X)) (ls : List (ℕ × Links)) (cs : List (ℕ × C)) (n : ℕ) (row : C) where
  -- what is known before a row comes last
  pub record Comes : Type 0 where
    pub shows : of_rows links mid ≡ ls ++ (n, record { prev = None; next = None }) ∷ []
    pub unlinked : IsUnused n ls
    pub unused : IsUnused n cs
    pub distinct : HasDistinctNumbers cs

  module _ (h : Comes) where
    still : (m : ℕ) → m ≢ n → links_at links mid m ≡ lookup (nat_eq m) ls
    still m apart =
        links_of links mid (ls ++ (n, record { prev = None; next = None }) ∷ []) m h.shows ∙ lookup-push-other m n (record { prev = None; next = None }) ls h.unlinked apart

    absent : (k : ℕ) → AllByRecursion (λ m. m ≢ n) (numbers_of key k cs)
    absent k = all_numbers key k (λ m. m ≢ n) cs h.unused

    pub chain_mid : (chain : Chain) (k : ℕ) → IsChainOf key ls cs chain k → IsChain (links_at links mid) chain (numbers_of key k cs)
    chain_mid chain k c = chain_same (λ m. lookup (nat_eq m) ls) (links_at links mid) chain (numbers_of key k cs) (all_then (λ m. m ≢ n) (λ m. links_at links mid m ≡ lookup (nat_eq m) ls) still (numbers_of key k cs) (absent k)) c

    pub linked_mid : (chain : Chain) (k : ℕ) → IsChainOf key ls cs chain k → IsLinked links mid chain
    linked_mid chain k c = (numbers_of key k cs, chain_mid chain k c)

    pub own_appended : (new : List (ℕ × X)) (chain chain' : Chain) → IsChainOf key ls cs chain (key row) → Appends links mid chain n new chain' → IsChainOf key (of_rows links new) (cs ++ (n, row) ∷ []) chain' (key row)
    own_appended new chain chain' c appends =
        let done = shown links new chain' (numbers_of key (key row) cs ++ n ∷ []) (appends (numbers_of key (key row) cs) (chain_mid chain (key row) c) (absent (key row))) in
        subst (IsChain (λ m. lookup (nat_eq m) (of_rows links new)) chain') (sym (numbers-push-own key (key row) n row cs refl)) done

    pub others_appended : (with_links : X → Links → X) (new : List (ℕ × X)) (chain : Chain) (k : ℕ) (other : Chain) → IsChainOf key ls cs chain (key row) → AppendsAt links with_links chain.last n mid new → k ≢ key row
        → IsChainOf key ls cs other k → IsChainOf key (of_rows links new) (cs ++ (n, row) ∷ []) other k
    others_appended with_links new chain k other c at apart o =
        let done = chain_same (λ m. lookup (nat_eq m) ls) (links_at links new) other (numbers_of key k cs) stays o in
        subst (IsChain (λ m. lookup (nat_eq m) (of_rows links new)) other) (sym (numbers-push-other key k n row cs (λ is. apart (sym is)))) (shown links new other (numbers_of key k cs) done)
      where
        not_last : (m : ℕ) → option_map key (lookup (nat_eq m) cs) ≡ Some k → chain.last ≢ Some m
        not_last m is last =
            apart (same_Some k (key row) (sym is ∙ all_last (λ j. option_map key (lookup (nat_eq j) cs) ≡ Some (key row)) (numbers_of key (key row) cs) m (all_of_key key (key row) cs h.distinct) (sym c.last ∙ last)))

        stays : AllByRecursion (λ m. links_at links new m ≡ lookup (nat_eq m) ls) (numbers_of key k cs)
        stays =
            all_both (λ m. m ≢ n) (λ m. option_map key (lookup (nat_eq m) cs) ≡ Some k) (λ m. links_at links new m ≡ lookup (nat_eq m) ls)
            (λ m away is.
            ap (option_map links) (at.2.others m (λ e. away (sym (same_Some n m e)))) ∙ ap (option_map links) (at.1.others m (not_last m is)) ∙ still m away)
            (numbers_of key k cs) (absent k) (all_of_key key k cs h.distinct)

  -- what is known before a row goes
  pub record Goes : Type 0 where
    pub shows : of_rows links mid ≡ ls
    pub found : lookup (nat_eq n) cs ≡ Some row
    pub distinct : HasDistinctNumbers cs

  module _ (h : Goes) where
    split : Splits key (key row) n cs
    split = splits key (key row) n row cs h.distinct h.found refl

    chain_there : (chain : Chain) → IsChainOf key ls cs chain (key row) → IsChain (links_at links mid) chain (split.front ++ n ∷ split.back)
    chain_there chain c =
        subst (IsChain (links_at links mid) chain) split.were
        (subst (λ (at : ℕ → Option Links). IsChain at chain (numbers_of key (key row) cs)) (λ i m. sym (links_of links mid ls m h.shows) i) c)

    pub is_in : (chain : Chain) → IsChainOf key ls cs chain (key row) → IsIn links mid chain n
    is_in chain c = (split.front, split.back, chain_there chain c)

    left : (k : ℕ) → AllByRecursion (λ m. m ≢ n) (numbers_of key k (without n cs))
    left k = all_numbers key k (λ m. m ≢ n) (without n cs) (unused_without n cs)

    -- the links of the row that goes may go too
    drops : (new : List (ℕ × X)) (chain : Chain) (ns : List ℕ) → AllByRecursion (λ m. m ≢ n) ns → IsChain (links_at links new) chain ns → IsChain (λ m. lookup (nat_eq m) (without n (of_rows links new))) chain ns
    drops new chain ns away c =
        chain_same (links_at links new) (λ m. lookup (nat_eq m) (without n (of_rows links new))) chain ns
        (all_then (λ m. m ≢ n) (λ m. lookup (nat_eq m) (without n (of_rows links new)) ≡ links_at links new m) (λ m apart. lookup-without-other m n (of_rows links new) apart ∙ lookup-of_rows links m new) ns away)
        c

    pub own_removed : (new : List (ℕ × X)) (chain chain' : Chain) → IsChainOf key ls cs chain (key row) → Removes links mid chain n new chain' → IsChainOf key (without n (of_rows links new)) (without n cs) chain' (key row)
    own_removed new chain chain' c removes =
        drops new chain' (numbers_of key (key row) (without n cs)) (left (key row))
        (subst (IsChain (links_at links new) chain') (sym split.are) (removes split.front split.back (chain_there chain c)))

    pub others_removed : (with_links : X → Links → X) (new : List (ℕ × X)) (chain : Chain) (k : ℕ) (other : Chain) → IsChainOf key ls cs chain (key row) → RemovesAt links with_links n mid new → k ≢ key row
        → IsChainOf key ls cs other k → IsChainOf key (without n (of_rows links new)) (without n cs) other k
    others_removed with_links new chain k other c at apart o =
        drops new other (numbers_of key k (without n cs)) (left k)
        (subst (IsChain (links_at links new) other) (sym (numbers-without-other key k n cs away)) (chain_same (λ m. lookup (nat_eq m) ls) (links_at links new) other (numbers_of key k cs) stays o))
      where
        all_own : AllByRecursion (λ j. option_map key (lookup (nat_eq j) cs) ≡ Some (key row)) (split.front ++ n ∷ split.back)
        all_own = subst (AllByRecursion (λ j. option_map key (lookup (nat_eq j) cs) ≡ Some (key row))) split.were (all_of_key key (key row) cs h.distinct)

        away : AllByRecursion (λ m. m ≢ n) (numbers_of key k cs)
        away =
            all_then (λ m. option_map key (lookup (nat_eq m) cs) ≡ Some k) (λ m. m ≢ n)
            (λ m is same. apart (same_Some k (key row) (sym is ∙ ap (λ j. option_map key (lookup (nat_eq j) cs)) same ∙ ap (option_map key) h.found)))
            (numbers_of key k cs) (all_of_key key k cs h.distinct)

        both : links at.1 ≡ record { prev = last_or None split.front; next = first_or None split.back }
        both = same_Some _ _ (sym (ap (option_map links) at.2) ∙ beside (links_at links mid) split.front n split.back chain (chain_there chain c))

        not_own : (m : ℕ) → option_map key (lookup (nat_eq m) cs) ≡ Some k → option_map key (lookup (nat_eq m) cs) ≡ Some (key row) → ⊥
        not_own m is own = apart (same_Some k (key row) (sym is ∙ own))

        not_prev : (m : ℕ) → option_map key (lookup (nat_eq m) cs) ≡ Some k → (links at.1).prev ≢ Some m
        not_prev m is e =
            not_own m is (all_last (λ j. option_map key (lookup (nat_eq j) cs) ≡ Some (key row)) split.front m (all_front (λ j. option_map key (lookup (nat_eq j) cs) ≡ Some (key row)) split.front (n ∷ split.back) all_own) (ap (λ (l : Links). l.prev) (sym both) ∙ e))

        not_next : (m : ℕ) → option_map key (lookup (nat_eq m) cs) ≡ Some k → (links at.1).next ≢ Some m
        not_next m is e =
            not_own m is (all_first (λ j. option_map key (lookup (nat_eq j) cs) ≡ Some (key row)) split.back m (all_back (λ j. option_map key (lookup (nat_eq j) cs) ≡ Some (key row)) split.front (n ∷ split.back) all_own).1 (ap (λ (l : Links). l.next) (sym both) ∙ e))

        stays : AllByRecursion (λ m. links_at links new m ≡ lookup (nat_eq m) ls) (numbers_of key k cs)
        stays =
            all_then (λ m. option_map key (lookup (nat_eq m) cs) ≡ Some k) (λ m. links_at links new m ≡ lookup (nat_eq m) ls)
            (λ m is. ap (option_map links) (at.4.others m (not_next m is)) ∙ ap (option_map links) (at.3.others m (not_prev m is)) ∙ links_of links mid ls m h.shows)
            (numbers_of key k cs) (all_of_key key k cs h.distinct)

module _ {C : Type 0} (key : C → ℕ) (cs : List (ℕ × C)) (distinct : HasDistinctNumbers cs) where
  own_first : (k : ℕ) (ns : List ℕ) (first : Option ℕ) → AllByRecursion (λ n. option_map key (lookup (nat_eq n) cs) ≡ Some k) ns → first ≡ first_or None ns → IfSome first (λ n. option_map key (lookup (nat_eq n) cs) ≡ Some k)
  own_first k ns None all is = tt
  own_first k ns (Some n) all is = all_first (λ n. option_map key (lookup (nat_eq n) cs) ≡ Some k) ns n all (sym is)

  no_first : (k : ℕ) (ns : List ℕ) (first : Option ℕ) → first ≡ first_or None ns → (ns ≡ [] → AllByRecursion (λ e. key e.1 ≢ k) cs) → IfNone first (AllByRecursion (λ e. key e.1 ≢ k) cs)
  no_first k ns (Some n) is none = tt
  no_first k [] None is none = none refl
  no_first k (n ∷ ns) None is none = absurd (none-some n is)

  -- the first of a chain
  pub first_is : (ls : List (ℕ × Links)) (chain : Chain) (k : ℕ) → IsChainOf key ls cs chain k → IsFirst key k cs chain.first
  first_is ls chain k c = record {
    number = c.first;
    own = own_first k (numbers_of key k cs) chain.first (all_of_key key k cs distinct) c.first;
    none = no_first k (numbers_of key k cs) chain.first c.first (none_from_numbers key k cs);
  }

  -- a number's link names the next of the chain
  pub next_is : {X : Type 0} (links : X → Links) (es : List (ℕ × X)) (n : ℕ) (row : X) → lookup (nat_eq n) es ≡ Some row
      → (c : C) (chain : Chain) → lookup (nat_eq n) cs ≡ Some c → IsChainOf key (of_rows links es) cs chain (key c) → IsNext key (key c) cs n (links row).next
  next_is {X = X} links es n row found c chain there is = record {
    number = next;
    own =
        own_first (key c) split.back (links row).next
        (all_back (λ m. option_map key (lookup (nat_eq m) cs) ≡ Some (key c)) split.front (n ∷ split.back)
        (subst (AllByRecursion (λ m. option_map key (lookup (nat_eq m) cs) ≡ Some (key c))) split.were (all_of_key key (key c) cs distinct))).1
        (next split.front split.back split.were);
  }
    where
      split : Splits key (key c) n cs
      split = splits key (key c) n c cs distinct there refl

      next : (front back : List ℕ) → numbers_of key (key c) cs ≡ front ++ n ∷ back → (links row).next ≡ first_or None back
      next front back same =
          let own : IsChain (λ m. lookup (nat_eq m) (of_rows links es)) chain (front ++ n ∷ back) = subst (IsChain (λ m. lookup (nat_eq m) (of_rows links es)) chain) same is in
          let read = sym (ap (option_map links) found) ∙ sym (lookup-of_rows links n es) ∙ beside (λ m. lookup (nat_eq m) (of_rows links es)) front n back chain own in
          ap (λ (l : Links). l.next) (same_Some (links row) _ read)

-- a chain of some links and rows is one of the same links and rows
pub moved : {C : Type 0} (key : C → ℕ) (ls ls' : List (ℕ × Links)) (cs cs' : List (ℕ × C)) (chain : Chain) (k : ℕ) → ls' ≡ ls → cs' ≡ cs → IsChainOf key ls cs chain k → IsChainOf key ls' cs' chain k
moved key ls ls' cs cs' chain k same alike c =
    subst (λ (es : List (ℕ × _)). IsChainOf key ls' es chain k) (sym alike) (subst (λ (l : List (ℕ × Links)). IsChainOf key l cs chain k) (sym same) c)
