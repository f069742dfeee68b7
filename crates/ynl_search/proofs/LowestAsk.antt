-- The ask of the lowest priority number.
use Rattle.std.proofs.Common.{◌≡◌, ◌≤◌, ◌⊎◌, Bool, true, false, cond, List, [], ◌∷◌, fold, Option, None, Some, IfSome, nat_le, inl, inr, refl, sym, ap, ◌∙◌, arith, true≢false}
use Rattle.std.specs.List.{AllByRecursion}
use Rattle.std.proofs.lemmas.Bool.Decides.{nat_tests}
use Rattle.std.proofs.lemmas.Option.{none-some, same_Some}
use Rattle.ynl_tables.specs.declared.apps.asks.Ask.{Ask}
use Rattle.ynl_cluster.proofs.requests.Members.{Among}
use Rattle.ynl_search.specs.Lowest.{lower_of, lowest, with_one}

module _ (test : Ask → Bool) where
  -- each that passes has no lower number
  abbrev pub AreNoLower : Ask → List Ask → Type 0
  AreNoLower best asks = AllByRecursion (λ ask. test ask ≡ true → best.priority ≤ ask.priority) asks

  -- what is found where a best so far goes before some asks
  record IsFoundAfter (held : Option Ask) (asks : List Ask) (best : Ask) : Type 0 where
    there : (held ≡ Some best) ⊎ (Among best asks × (test best ≡ true))
    held_no_lower : IfSome held (λ ask. best.priority ≤ ask.priority)
    no_lower : AreNoLower best asks

  lower-some : (held : Option Ask) (ask : Ask) → (better : Ask) × (lower_of held ask ≡ Some better) × ((better ≡ ask) ⊎ (held ≡ Some better)) × (better.priority ≤ ask.priority) × IfSome held (λ other. better.priority ≤ other.priority)
  lower-some None ask = (ask, refl, inl refl, omega arith, tt)
  lower-some (Some best) ask = go (nat_le best.priority ask.priority) refl
    where
      go : (b : Bool) → nat_le best.priority ask.priority ≡ b
          → (better : Ask) × (cond b (Some best) (Some ask) ≡ Some better) × ((better ≡ ask) ⊎ (Some best ≡ Some better)) × (better.priority ≤ ask.priority) × (better.priority ≤ best.priority)
      go true e = (best, refl, inr refl, grind (arith, nat_tests, e), omega arith)
      go false e = (ask, refl, inl refl, omega arith, grind (arith, nat_tests, e))

  found-after : (held : Option Ask) (asks : List Ask) (best : Ask) → fold (with_one test) held asks ≡ Some best → IsFoundAfter held asks best
  found-after held [] best is = record { there = inl is; held_no_lower = at held is; no_lower = tt }
    where
      at : (held : Option Ask) → held ≡ Some best → IfSome held (λ ask. best.priority ≤ ask.priority)
      at None is = absurd (none-some best is)
      at (Some ask) is = let same : ask ≡ best = same_Some ask best is in (let e = ap (λ (a : Ask). a.priority) same in omega (arith, e))
  found-after held (ask ∷ asks) best is = go (test ask) refl is (found-after held asks best) (found-after (lower_of held ask) asks best)
    where
      go : (b : Bool) → test ask ≡ b → fold (with_one test) (cond b (lower_of held ask) held) asks ≡ Some best
          → (fold (with_one test) held asks ≡ Some best → IsFoundAfter held asks best)
          → (fold (with_one test) (lower_of held ask) asks ≡ Some best → IsFoundAfter (lower_of held ask) asks best)
          → IsFoundAfter held (ask ∷ asks) best
      go false e is rest with_ask = let further = rest is in record {
        there = later further.there;
        held_no_lower = further.held_no_lower;
        no_lower = (λ passes. absurd (true≢false (sym passes ∙ e)), further.no_lower);
      }
        where
          later : (held ≡ Some best) ⊎ (Among best asks × (test best ≡ true)) → (held ≡ Some best) ⊎ (Among best (ask ∷ asks) × (test best ≡ true))
          later (inl is) = inl is
          later (inr there) = inr (inr there.0, there.1)
      go true e is rest with_ask = from (lower-some held ask) (with_ask is)
        where
          from : (better : Ask) × (lower_of held ask ≡ Some better) × ((better ≡ ask) ⊎ (held ≡ Some better)) × (better.priority ≤ ask.priority) × IfSome held (λ other. better.priority ≤ other.priority)
              → IsFoundAfter (lower_of held ask) asks best → IsFoundAfter held (ask ∷ asks) best
          from (better, lower, whence, no_more, held_no_more) further = record {
            there = place further.there;
            held_no_lower = under held held_no_more;
            no_lower = (λ passes. let e = under_better in let k = no_more in omega (arith, e, k), further.no_lower);
          }
            where
              under_better : best.priority ≤ better.priority
              under_better = at (lower_of held ask) lower further.held_no_lower
                where
                  at : (o : Option Ask) → o ≡ Some better → IfSome o (λ other. best.priority ≤ other.priority) → best.priority ≤ better.priority
                  at None is h = absurd (none-some better is)
                  at (Some other) is h = let e = ap (λ (a : Ask). a.priority) (same_Some other better is) in omega (arith, h, e)

              under : (o : Option Ask) → IfSome o (λ other. better.priority ≤ other.priority) → IfSome o (λ other. best.priority ≤ other.priority)
              under None h = tt
              under (Some other) h = let k = under_better in omega (arith, h, k)

              own : (better ≡ ask) ⊎ (held ≡ Some better) → better ≡ best → (held ≡ Some best) ⊎ (Among best (ask ∷ asks) × (test best ≡ true))
              own (inl is) same = inr (inl (sym is ∙ same), ap test (sym same ∙ is) ∙ e)
              own (inr is) same = inl (is ∙ ap (λ a. Some a) same)

              place : (lower_of held ask ≡ Some best) ⊎ (Among best asks × (test best ≡ true)) → (held ≡ Some best) ⊎ (Among best (ask ∷ asks) × (test best ≡ true))
              place (inl is) = own whence (same_Some better best (sym lower ∙ is))
              place (inr there) = inr (inr there.0, there.1)

  none-after : (held : Option Ask) (asks : List Ask) → fold (with_one test) held asks ≡ None → (held ≡ None) × AllByRecursion (λ ask. test ask ≡ false) asks
  none-after held [] is = (is, tt)
  none-after held (ask ∷ asks) is = go (test ask) refl is (none-after held asks) (none-after (lower_of held ask) asks)
    where
      go : (b : Bool) → test ask ≡ b → fold (with_one test) (cond b (lower_of held ask) held) asks ≡ None
          → (fold (with_one test) held asks ≡ None → (held ≡ None) × AllByRecursion (λ ask. test ask ≡ false) asks)
          → (fold (with_one test) (lower_of held ask) asks ≡ None → (lower_of held ask ≡ None) × AllByRecursion (λ ask. test ask ≡ false) asks)
          → (held ≡ None) × AllByRecursion (λ ask. test ask ≡ false) (ask ∷ asks)
      go false e is rest with_ask = ((rest is).0, (e, (rest is).1))
      go true e is rest with_ask = let better = lower-some held ask in absurd (none-some better.0 (sym (with_ask is).0 ∙ better.1))

  -- what is found is one of the asks, passes, and has the lowest number of those that do
  pub record IsLowest (asks : List Ask) (best : Ask) : Type 0 where
    pub there : Among best asks
    pub passes : test best ≡ true
    pub no_lower : AreNoLower best asks

  pub lowest-is : (asks : List Ask) (best : Ask) → lowest test asks ≡ Some best → IsLowest asks best
  lowest-is asks best is = go (found-after None asks best is)
    where
      go : IsFoundAfter None asks best → IsLowest asks best
      go found = at found.there
        where
          at : (None ≡ Some best) ⊎ (Among best asks × (test best ≡ true)) → IsLowest asks best
          at (inl is) = absurd (none-some best is)
          at (inr there) = record { there = there.0; passes = there.1; no_lower = found.no_lower }

  -- where nothing is found none passes
  pub lowest-none : (asks : List Ask) → lowest test asks ≡ None → AllByRecursion (λ ask. test ask ≡ false) asks
  lowest-none asks is = (none-after None asks is).1
