-- One container of an ask was placed: only the ask at its place changes, and goes where it is for none.
use Rattle.std.proofs.Common.{◌≡◌, ◌<◌, ◌≤◌, ◌+◌, ◌-◌, ◌==◌, ◌&&◌, ℕ, suc, Bool, true, false, not, cond, List, [], ◌∷◌, length, get_or, refl, sym, ap, subst, ◌∙◌, arith}
use Rattle.std.proofs.Math.ListN.{set}
use Rattle.std.specs.List.{AllByRecursion, position_or_len}
use Rattle.std.proofs.lemmas.Bool.{and_parts}
use Rattle.ynl_resource.specs.Tables.{without, update}
use Rattle.ynl_tables.specs.declared.apps.asks.Ask.{Ask}
use Rattle.ynl_tables.specs.apps.Asks.{is_ask_of, is_spent, lowered, AreApart}
use Rattle.ynl_tables.proofs.apps.Asking.{same_key}
use Rattle.ynl_tables.proofs.apps.Places.{one_more}

module _ (partition priority : ℕ) where
  abbrev f : Ask → Bool
  f = is_ask_of partition priority

  abbrev spent : Ask → Bool
  spent = is_spent partition priority

  -- none of some asks is of the partition and the priority
  abbrev AreOthers : List Ask → Type 0
  AreOthers asks = AllByRecursion (λ ask. f ask ≡ false) asks

  others-stay : (asks : List Ask) → AreOthers asks → update f lowered asks ≡ asks
  others-stay [] off = refl
  others-stay (ask ∷ asks) off = λ i. ap (λ b. cond b (lowered ask) ask) off.0 i ∷ others-stay asks off.1 i

  others-kept : (test : Ask → Bool) → ((ask : Ask) → f ask ≡ false → test ask ≡ false) → (asks : List Ask) → AreOthers asks → without test asks ≡ asks
  others-kept test same [] off = refl
  others-kept test same (ask ∷ asks) off =
      ap (λ b. cond (not b) (ask ∷ without test asks) (without test asks)) (same ask off.0) ∙ ap (λ rest. ask ∷ rest) (others-kept test same asks off.1)

  not-spent : (ask : Ask) → f ask ≡ false → spent ask ≡ false
  not-spent ask off = ap (λ b. b && (ask.count == 0)) off

  -- behind the ask there is no other of its partition and priority
  behind : (ask : Ask) (asks : List Ask) → f ask ≡ true → AllByRecursion (λ other. is_ask_of ask.partition ask.priority other ≡ false) asks → AreOthers asks
  behind ask asks is apart =
      let keys = and_parts (ask.partition == partition) (ask.priority == priority) is in
      subst (λ p. AllByRecursion (λ other. is_ask_of p priority other ≡ false) asks) (same_key ask.partition partition keys.0)
      (subst (λ q. AllByRecursion (λ other. is_ask_of ask.partition q other ≡ false) asks) (same_key ask.priority priority keys.1) apart)

  missed : (asks : List Ask) → length asks ≤ position_or_len f asks → AreOthers asks
  missed [] h = tt
  missed (ask ∷ asks) h = go (missed asks) (f ask) refl h
    where
      go : (length asks ≤ position_or_len f asks → AreOthers asks) → (b : Bool) → f ask ≡ b → suc (length asks) ≤ cond (not b) (1 + position_or_len f asks) 0 → AreOthers (ask ∷ asks)
      go later true is h = absurd (omega arith)
      go later false is h = (is, later (omega arith))

  -- where there is none, nothing changes
  pub missed-asks : (asks : List Ask) → length asks ≤ position_or_len f asks → asks ≡ update f lowered asks
  missed-asks asks h = sym (others-stay asks (missed asks h))

  pub missed-spent : (asks : List Ask) → length asks ≤ position_or_len f asks → without spent asks ≡ asks
  missed-spent asks h = others-kept spent not-spent asks (missed asks h)

  module _ (d : Ask) where
    -- the ask, where there is one
    abbrev own : List Ask → Ask
    own asks = get_or asks (position_or_len f asks) d

    pub found-asks : (asks : List Ask) → AreApart asks → position_or_len f asks < length asks → set asks (position_or_len f asks) (lowered (own asks)) ≡ update f lowered asks
    found-asks [] apart h = absurd (omega arith)
    found-asks (ask ∷ asks) apart h = go (found-asks asks apart.1) (f ask) refl h
      where
        go : (position_or_len f asks < length asks → set asks (position_or_len f asks) (lowered (own asks)) ≡ update f lowered asks) → (b : Bool) → f ask ≡ b → cond (not b) (1 + position_or_len f asks) 0 < suc (length asks)
            → set (ask ∷ asks) (cond (not b) (1 + position_or_len f asks) 0) (lowered (get_or (ask ∷ asks) (cond (not b) (1 + position_or_len f asks) 0) d)) ≡ cond b (lowered ask) ask ∷ update f lowered asks
        go later true is h = ap (λ rest. lowered ask ∷ rest) (sym (others-stay asks (behind ask asks is apart.0)))
        go later false is h =
            ap (λ (m : ℕ). set (ask ∷ asks) m (lowered (get_or (ask ∷ asks) m d))) (one_more f ask asks)
            ∙ ap (λ rest. ask ∷ rest) (later (omega arith))

    pub found-spent : (asks : List Ask) → AreApart asks → position_or_len f asks < length asks
        → without spent (update f lowered asks) ≡ cond ((lowered (own asks)).count == 0) (without f (update f lowered asks)) (update f lowered asks)
    found-spent [] apart h = absurd (omega arith)
    found-spent (ask ∷ asks) apart h = go (found-spent asks apart.1) (f ask) refl h
      where
        rest : List Ask
        rest = update f lowered asks

        both : (b : Bool) → cond (not b) (lowered ask ∷ asks) asks ≡ cond b asks (lowered ask ∷ asks)
        both true = refl
        both false = refl

        apply : (b : Bool) (xs ys : List Ask) → ask ∷ cond b xs ys ≡ cond b (ask ∷ xs) (ask ∷ ys)
        apply true xs ys = refl
        apply false xs ys = refl

        go : (position_or_len f asks < length asks
            → without spent (update f lowered asks) ≡ cond ((lowered (own asks)).count == 0) (without f (update f lowered asks)) (update f lowered asks)) → (b : Bool) → f ask ≡ b → cond (not b) (1 + position_or_len f asks) 0 < suc (length asks)
            → without spent (cond b (lowered ask) ask ∷ rest)
            ≡ cond ((lowered (get_or (ask ∷ asks) (cond (not b) (1 + position_or_len f asks) 0) d)).count == 0) (without f (cond b (lowered ask) ask ∷ rest)) (cond b (lowered ask) ask ∷ rest)
        go later true is h =
            let off = behind ask asks is apart.0 in
            let stay = others-stay asks off in
            (λ i. without spent (lowered ask ∷ stay i))
            ∙ (λ i. cond (not (is i && (ask.count - 1 == 0))) (lowered ask ∷ others-kept spent not-spent asks off i) (others-kept spent not-spent asks off i))
            ∙ both (ask.count - 1 == 0)
            ∙ sym (λ i. cond (ask.count - 1 == 0) (cond (not (is i)) (lowered ask ∷ without f asks) (others-kept f (λ a k. k) asks off i)) (lowered ask ∷ asks))
            ∙ (λ i. cond (ask.count - 1 == 0) (without f (lowered ask ∷ sym stay i)) (lowered ask ∷ sym stay i))
        go later false is h =
            ap (λ b. cond (not (b && (ask.count == 0))) (ask ∷ without spent rest) (without spent rest)) is
            ∙ ap (λ zs. ask ∷ zs) (later (omega arith))
            ∙ apply ((lowered (own asks)).count == 0) (without f rest) rest
            ∙ sym (λ i. cond ((lowered (get_or (ask ∷ asks) (one_more f ask asks i) d)).count == 0) (cond (not (is i)) (ask ∷ without f rest) (without f rest)) (ask ∷ rest))

  -- what is written at the place of the ask, once it was read there
  module _ (asks : List Ask) (apart : AreApart asks) (place : ℕ) (is : place ≡ position_or_len f asks) (within : place < length asks)
      (d : Ask) (at : d ≡ get_or asks place d) (count : ℕ) (less : count ≡ d.count - 1) where
    there : position_or_len f asks < length asks
    there = subst (λ m. m < length asks) is within

    read : d ≡ own d asks
    read = at ∙ ap (λ m. get_or asks m d) is

    count-is : count ≡ (lowered (own d asks)).count
    count-is = less ∙ ap (λ (ask : Ask). ask.count - 1) read

    pub written-asks : set asks place (record d { count = count }) ≡ update f lowered asks
    written-asks = (λ i. set asks (is i) (record (read i) { count = count-is i })) ∙ found-asks d asks apart there

    pub written-spent : without spent (set asks place (record d { count = count }))
        ≡ cond (count == 0) (without f (set asks place (record d { count = count }))) (set asks place (record d { count = count }))
    written-spent =
        ap (without spent) written-asks ∙ found-spent d asks apart there ∙ sym (λ i. cond (count-is i == 0) (without f (written-asks i)) (written-asks i))
