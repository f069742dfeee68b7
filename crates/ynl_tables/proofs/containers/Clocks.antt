-- Containers by their clocks.
use Rattle.std.proofs.Common.{◌≡◌, ◌≢◌, ◌<◌, ℕ, Bool, true, false, cond, not, List, [], ◌∷◌, ◌++◌, Option, Some, None, option_map, IfSome, nat_eq, refl, sym, ap, subst, ◌∙◌, arith}
use Rattle.std.specs.List.{AllByRecursion}
use Rattle.std.specs.Map.{lookup}
use Rattle.std.proofs.lemmas.Bool.Decides.{nat_tests}
use Rattle.std.proofs.lemmas.List.{map-append}
use Rattle.std.proofs.lemmas.Option.{same_Some, none-some}
use Rattle.ynl_slots.specs.Slots.{IsUnused, HasDistinctNumbers, without}
use Rattle.ynl_slots.proofs.Lists.{all_append}
use Rattle.ynl_slots.proofs.Lookups.{lookup-push, lookup-unused, lookup-without}
use Rattle.ynl_tables.specs.declared.containers.container.Container.{Container}
use Rattle.ynl_tables.specs.containers.Table.{IsAbove, IsRising, by_clock, number_at}
use Rattle.ynl_slots.proofs.Entries.{itself, other, without-unused, all_without}

pub rising_push : (n : ℕ) (c : Container) (es : List (ℕ × Container)) → IsRising es → IsAbove c.clock es → IsRising (es ++ (n, c) ∷ [])
rising_push n c [] h above = (tt, tt)
rising_push n c (e ∷ es) h above = (all_append (λ f. e.1.clock < f.1.clock) es ((n, c) ∷ []) h.0 (above.0, tt), rising_push n c es h.1 above.1)

pub rising_without : (n : ℕ) (es : List (ℕ × Container)) → IsRising es → IsRising (without n es)
rising_without n [] h = tt
rising_without n (e ∷ es) h = go (nat_eq n e.0) (rising_without n es h.1)
  where
    go : (b : Bool) → IsRising (without n es) → IsRising (cond (not b) (e ∷ without n es) (without n es))
    go true k = k
    go false k = (all_without (λ f. e.1.clock < f.1.clock) n es h.0, k)

-- no container has a clock that is above all, or below all
unclocked_above : (clock : ℕ) (es : List (ℕ × Container)) → IsAbove clock es → IsUnused clock (by_clock es)
unclocked_above clock [] h = tt
unclocked_above clock (e ∷ es) h = let below = h.0 in ((λ same. absurd (omega arith)), unclocked_above clock es h.1)

unclocked_below : (clock : ℕ) (es : List (ℕ × Container)) → AllByRecursion (λ f. clock < f.1.clock) es → IsUnused clock (by_clock es)
unclocked_below clock [] h = tt
unclocked_below clock (e ∷ es) h = let above = h.0 in ((λ same. absurd (omega arith)), unclocked_below clock es h.1)

pub found_pushed : (n : ℕ) (c : Container) (es : List (ℕ × Container)) (clock : ℕ) → IsAbove c.clock es → number_at clock (es ++ (n, c) ∷ []) ≡ cond (nat_eq c.clock clock) (Some n) (number_at clock es)
found_pushed n c es clock above =
    let turned : nat_eq clock c.clock ≡ nat_eq c.clock clock = grind (arith, nat_tests) in
    ap (lookup (nat_eq clock)) (map-append (λ (e : ℕ × Container). (e.1.clock, e.0)) es ((n, c) ∷ []))
    ∙ lookup-push clock c.clock n (by_clock es) (unclocked_above c.clock es above)
    ∙ ap (λ (b : Bool). cond b (Some n) (number_at clock es)) turned

-- the one that goes by its number is the one that goes by its clock
clocks_without : (n : ℕ) (c : Container) (es : List (ℕ × Container)) → HasDistinctNumbers es → IsRising es → lookup (nat_eq n) es ≡ Some c → by_clock (without n es) ≡ without c.clock (by_clock es)
clocks_without n c [] d h found = absurd (none-some c found)
clocks_without n c (e ∷ es) d h found = go (nat_eq n e.0) refl found (λ k. clocks_without n c es d.1 h.1 k)
  where
    both : (a b : Bool) → a ≡ b → by_clock (without n es) ≡ without c.clock (by_clock es)
        → by_clock (cond (not a) (e ∷ without n es) (without n es)) ≡ cond (not b) ((e.1.clock, e.0) ∷ without c.clock (by_clock es)) (without c.clock (by_clock es))
    both a true is k = ap (λ (x : Bool). by_clock (cond (not x) (e ∷ without n es) (without n es))) is ∙ k
    both a false is k = ap (λ (x : Bool). by_clock (cond (not x) (e ∷ without n es) (without n es))) is ∙ ap (λ r. (e.1.clock, e.0) ∷ r) k

    here : e.1 ≡ c → n ≡ e.0 → by_clock (without n es) ≡ without c.clock (by_clock es)
    here is same =
        let unused : IsUnused n es = subst (λ (m : ℕ). IsUnused m es) (sym same) d.0 in
        let below : AllByRecursion (λ f. c.clock < f.1.clock) es = subst (λ (x : Container). AllByRecursion (λ f. x.clock < f.1.clock) es) is h.0 in
        ap by_clock (without-unused n es unused) ∙ sym (without-unused c.clock (by_clock es) (unclocked_below c.clock es below))

    clock_of : (fs : List (ℕ × Container)) → AllByRecursion (λ f. e.1.clock < f.1.clock) fs → lookup (nat_eq n) fs ≡ Some c → e.1.clock < c.clock
    clock_of [] k found = absurd (none-some c found)
    clock_of (f ∷ fs) k found = at (nat_eq n f.0) found (λ rest. clock_of fs k.1 rest)
      where
        at : (b : Bool) → cond b (Some f.1) (lookup (nat_eq n) fs) ≡ Some c → (lookup (nat_eq n) fs ≡ Some c → e.1.clock < c.clock) → e.1.clock < c.clock
        at true is later = subst (λ (x : Container). e.1.clock < x.clock) (same_Some f.1 c is) k.0
        at false is later = later is

    go : (a : Bool) → nat_eq n e.0 ≡ a → cond a (Some e.1) (lookup (nat_eq n) es) ≡ Some c → (lookup (nat_eq n) es ≡ Some c → by_clock (without n es) ≡ without c.clock (by_clock es))
        → by_clock (without n (e ∷ es)) ≡ without c.clock (by_clock (e ∷ es))
    go true q there rest =
        let same : n ≡ e.0 = grind (arith, nat_tests) in
        let is : e.1 ≡ c = same_Some e.1 c there in
        both (nat_eq n e.0) (nat_eq c.clock e.1.clock) (q ∙ sym (ap (λ (x : Container). nat_eq c.clock x.clock) is ∙ itself c.clock)) (here is same)
    go false q there rest =
        let less = clock_of es h.0 there in
        let away : c.clock ≢ e.1.clock = λ same. absurd (omega arith) in
        both (nat_eq n e.0) (nat_eq c.clock e.1.clock) (q ∙ sym (other c.clock e.1.clock away)) (rest there)

pub found_removed : (n : ℕ) (c : Container) (es : List (ℕ × Container)) (clock : ℕ) → HasDistinctNumbers es → IsRising es → lookup (nat_eq n) es ≡ Some c
    → number_at clock (without n es) ≡ cond (nat_eq c.clock clock) None (number_at clock es)
found_removed n c es clock d h found =
    let turned : nat_eq clock c.clock ≡ nat_eq c.clock clock = grind (arith, nat_tests) in
    ap (lookup (nat_eq clock)) (clocks_without n c es d h found)
    ∙ lookup-without clock c.clock (by_clock es)
    ∙ ap (λ (b : Bool). let o : Option ℕ = cond b None (number_at clock es) in o) turned

-- the number of a clock is that of the container with it
found_own : (es : List (ℕ × Container)) (clock n : ℕ) → HasDistinctNumbers es → number_at clock es ≡ Some n → option_map (λ (c : Container). c.clock) (lookup (nat_eq n) es) ≡ Some clock
found_own [] clock n d found = absurd (none-some n found)
found_own (e ∷ es) clock n d found = go (nat_eq clock e.1.clock) refl found (λ k. found_own es clock n d.1 k)
  where
    go : (b : Bool) → nat_eq clock e.1.clock ≡ b → cond b (Some e.0) (number_at clock es) ≡ Some n → (number_at clock es ≡ Some n → option_map (λ (c : Container). c.clock) (lookup (nat_eq n) es) ≡ Some clock)
        → option_map (λ (c : Container). c.clock) (lookup (nat_eq n) (e ∷ es)) ≡ Some clock
    go true q is later =
        let same : e.0 ≡ n = same_Some e.0 n is in
        let own : clock ≡ e.1.clock = grind (arith, nat_tests) in
        ap (λ (b : Bool). option_map (λ (c : Container). c.clock) (cond b (Some e.1) (lookup (nat_eq n) es))) (ap (nat_eq n) same ∙ itself n) ∙ ap (λ (k : ℕ). Some k) (sym own)
    go false q is later = by (nat_eq n e.0) refl (later is)
      where
        by : (b : Bool) → nat_eq n e.0 ≡ b → option_map (λ (c : Container). c.clock) (lookup (nat_eq n) es) ≡ Some clock → option_map (λ (c : Container). c.clock) (cond b (Some e.1) (lookup (nat_eq n) es)) ≡ Some clock
        by true p k =
            let same : n ≡ e.0 = grind (arith, nat_tests) in
            absurd (none-some clock (ap (option_map (λ (c : Container). c.clock)) (sym (lookup-unused n es (subst (λ (m : ℕ). IsUnused m es) (sym same) d.0))) ∙ k))
        by false p k = k

pub found_owns : (es : List (ℕ × Container)) (clock : ℕ) (o : Option ℕ) → HasDistinctNumbers es → o ≡ number_at clock es → IfSome o (λ n. option_map (λ (c : Container). c.clock) (lookup (nat_eq n) es) ≡ Some clock)
found_owns es clock None d is = tt
found_owns es clock (Some n) d is = found_own es clock n d (sym is)
