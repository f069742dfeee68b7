-- The places of the chains of partitions.
use Rattle.std.proofs.Common.{◌≡◌, ℕ, suc, ◌+◌, ◌<◌, ◌≤◌, Bool, true, false, not, cond, List, [], ◌∷◌, ◌++◌, length, slice_get, Option, Some, None, is_some, option_map, unwrap_or, nat_eq, refl, sym, ap, subst, ◌∙◌, arith, true≢false}
use Rattle.std.proofs.Math.ListN.{set}
use Rattle.std.specs.List.{position_or_len}
use Rattle.std.specs.Map.{lookup}
use Rattle.std.proofs.lemmas.Bool.Decides.{nat_tests}
use Rattle.std.proofs.lemmas.Option.{same_Some}
use Rattle.ynl_slots.specs.declared.chain.Chain.{Chain}
use Rattle.ynl_slots.specs.declared.chain.Links.{Links}
use Rattle.ynl_slots.specs.Chain.{IsChain}
use Rattle.ynl_slots.specs.Slots.{IsLive, IsUnused, HasDistinctNumbers, with_row}
use Rattle.ynl_slots.proofs.Lookups.{lookup-push, lookup-unused}
use Rattle.ynl_slots.proofs.Entries.{itself, other, live-pushed, distinct_push}
use Rattle.ynl_tables.specs.apps.Chains.{no_chain, chain_of, with_place}

module _ {X : Type 0} (n : ℕ) where
  one_more : (es : List (ℕ × X)) → 1 + position_or_len (λ e. nat_eq n e.0) es ≡ suc (position_or_len (λ e. nat_eq n e.0) es)
  one_more es = omega arith

  -- what is under a number is at its place
  pub lookup-place : (es : List (ℕ × X)) → lookup (nat_eq n) es ≡ option_map (λ (e : ℕ × X). e.1) (slice_get es (position_or_len (λ e. nat_eq n e.0) es))
  lookup-place [] = refl
  lookup-place (e ∷ es) = go (nat_eq n e.0) (lookup-place es)
    where
      go : (b : Bool) → lookup (nat_eq n) es ≡ option_map (λ (f : ℕ × X). f.1) (slice_get es (position_or_len (λ f. nat_eq n f.0) es))
          → cond b (Some e.1) (lookup (nat_eq n) es) ≡ option_map (λ (f : ℕ × X). f.1) (slice_get (e ∷ es) (cond (not b) (1 + position_or_len (λ f. nat_eq n f.0) es) 0))
      go true k = refl
      go false k = k ∙ sym (ap (λ (m : ℕ). option_map (λ (f : ℕ × X). f.1) (slice_get (e ∷ es) m)) (one_more es))

  -- a row that is there has a place
  pub place_live : (es : List (ℕ × X)) → IsLive n es → position_or_len (λ e. nat_eq n e.0) es < length es
  place_live [] h = absurd (cc)
  place_live (e ∷ es) h = go (nat_eq n e.0) (λ k. place_live es k) h
    where
      go : (b : Bool) → (IsLive n es → position_or_len (λ f. nat_eq n f.0) es < length es) → is_some (cond b (Some e.1) (lookup (nat_eq n) es)) ≡ true
          → cond (not b) (1 + position_or_len (λ f. nat_eq n f.0) es) 0 < suc (length es)
      go true later k = omega arith
      go false later k = let below = later k in omega arith

  pub live_at : (es : List (ℕ × X)) → position_or_len (λ e. nat_eq n e.0) es < length es → IsLive n es
  live_at [] h = absurd (omega arith)
  live_at (e ∷ es) h = go (nat_eq n e.0) (λ k. live_at es k) h
    where
      go : (b : Bool) → (position_or_len (λ f. nat_eq n f.0) es < length es → IsLive n es) → cond (not b) (1 + position_or_len (λ f. nat_eq n f.0) es) 0 < suc (length es)
          → is_some (cond b (Some e.1) (lookup (nat_eq n) es)) ≡ true
      go true later k = refl
      go false later k = later (omega arith)

  -- and one that is not has none
  pub unused_past : (es : List (ℕ × X)) → length es ≤ position_or_len (λ e. nat_eq n e.0) es → IsUnused n es
  unused_past [] h = tt
  unused_past (e ∷ es) h = go (nat_eq n e.0) refl (λ k. unused_past es k) h
    where
      go : (b : Bool) → nat_eq n e.0 ≡ b → (length es ≤ position_or_len (λ f. nat_eq n f.0) es → IsUnused n es) → suc (length es) ≤ cond (not b) (1 + position_or_len (λ f. nat_eq n f.0) es) 0 → IsUnused n (e ∷ es)
      go true q later k = absurd (omega arith)
      go false q later k = ((λ same. true≢false (sym (ap (nat_eq n) same ∙ itself n) ∙ q)), later (omega arith))

  unwritten : (row : X) (es : List (ℕ × X)) → IsUnused n es → with_row n row es ≡ es
  unwritten row [] h = refl
  unwritten row (e ∷ es) h =
      ap (λ (b : Bool). cond b (e.0, row) e ∷ with_row n row es) (other n e.0 (λ same. h.0 (sym same))) ∙ ap (λ r. e ∷ r) (unwritten row es h.1)

  -- a write at the place is one under the number
  pub with_row-set : (row : X) (e : ℕ × X) (es : List (ℕ × X)) → HasDistinctNumbers es → slice_get es (position_or_len (λ f. nat_eq n f.0) es) ≡ Some e
      → with_row n row es ≡ set es (position_or_len (λ f. nat_eq n f.0) es) (e.0, row)
  with_row-set row e [] d at = refl
  with_row-set row e (f ∷ es) d at = go (nat_eq n f.0) refl at (λ k. with_row-set row e es d.1 k)
    where
      go : (b : Bool) → nat_eq n f.0 ≡ b → slice_get (f ∷ es) (cond (not b) (1 + position_or_len (λ g. nat_eq n g.0) es) 0) ≡ Some e
          → (slice_get es (position_or_len (λ g. nat_eq n g.0) es) ≡ Some e → with_row n row es ≡ set es (position_or_len (λ g. nat_eq n g.0) es) (e.0, row))
          → cond b (f.0, row) f ∷ with_row n row es ≡ set (f ∷ es) (cond (not b) (1 + position_or_len (λ g. nat_eq n g.0) es) 0) (e.0, row)
      go true q is rest =
          let same : n ≡ f.0 = grind (arith, nat_tests) in
          let found : f ≡ e = same_Some f e is in
          ap (λ r. (f.0, row) ∷ r) (unwritten row es (subst (λ (m : ℕ). IsUnused m es) (sym same) d.0)) ∙ ap (λ (g : ℕ × X). (g.0, row) ∷ es) found
      go false q is rest =
          ap (λ r. f ∷ r) (rest (sym (ap (λ (m : ℕ). slice_get (f ∷ es) m) (one_more es)) ∙ is)) ∙ sym (ap (λ (m : ℕ). set (f ∷ es) m (e.0, row)) (one_more es))

-- ---- places for chains

pub empty_chain : (chain : Chain) → ((at : ℕ → Option Links) → IsChain at chain []) → chain ≡ no_chain
empty_chain chain empty = (λ i. record { first = (empty (λ _. None)).first i; last = (empty (λ _. None)).last i })

pub with_place-live : (n : ℕ) (chains : List (ℕ × Chain)) → IsLive n chains → with_place n chains ≡ chains
with_place-live n chains live = ap (λ (b : Bool). cond b chains (chains ++ (n, no_chain) ∷ [])) live

with_place-unused : (n : ℕ) (chains : List (ℕ × Chain)) → IsUnused n chains → with_place n chains ≡ chains ++ (n, no_chain) ∷ []
with_place-unused n chains unused =
    ap (λ (o : Option Chain). cond (is_some o) chains (chains ++ (n, no_chain) ∷ [])) (lookup-unused n chains unused)

-- a new place changes no chain
chain_of-pushed : (p n : ℕ) (chains : List (ℕ × Chain)) → IsUnused n chains → chain_of p (chains ++ (n, no_chain) ∷ []) ≡ chain_of p chains
chain_of-pushed p n chains unused = ap (λ (o : Option Chain). unwrap_or o no_chain) (lookup-push p n no_chain chains unused) ∙ go (nat_eq p n) refl
  where
    go : (b : Bool) → nat_eq p n ≡ b → unwrap_or (cond b (Some no_chain) (lookup (nat_eq p) chains)) no_chain ≡ chain_of p chains
    go true q =
        let same : p ≡ n = grind (arith, nat_tests) in
        sym (ap (λ (o : Option Chain). unwrap_or o no_chain) (lookup-unused p chains (subst (λ (m : ℕ). IsUnused m chains) (sym same) unused)))
    go false q = refl

-- a chain of no containers is pushed
module _ (n : ℕ) (chains after : List (ℕ × Chain)) (chain : Chain) (unused : IsUnused n chains) (empty : (at : ℕ → Option Links) → IsChain at chain []) (is : after ≡ chains ++ (n, chain) ∷ []) where
  whole : after ≡ chains ++ (n, no_chain) ∷ []
  whole = is ∙ ap (λ (c : Chain). chains ++ (n, c) ∷ []) (empty_chain chain empty)

  pub place_pushed : after ≡ with_place n chains
  place_pushed = whole ∙ sym (with_place-unused n chains unused)

  pub chains_stay : (p : ℕ) → chain_of p after ≡ chain_of p chains
  chains_stay p = ap (chain_of p) whole ∙ chain_of-pushed p n chains unused

  pub live_after : IsLive n after
  live_after = subst (IsLive n) (sym is) (live-pushed n chain chains unused)

  pub distinct_after : HasDistinctNumbers chains → HasDistinctNumbers after
  distinct_after distinct = subst HasDistinctNumbers (sym is) (distinct_push n chain chains unused distinct)
