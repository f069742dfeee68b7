-- What an application asks for is asked for on partitions that are there.
use Rattle.std.proofs.Common.{◌≡◌, ◌==◌, ◌<◌, ℕ, Bool, true, false, cond, not, is_some, IsSome, List, Option, Some, None, refl, sym, subst, arith, true≢false, inl, inr}
use Rattle.std.specs.Prelude.{All}
use Rattle.std.specs.List.{AllByRecursion}
use Rattle.std.proofs.lemmas.Bool.{and_parts}
use Rattle.std.proofs.lemmas.Bool.Decides.{nat_tests}
use Rattle.ynl_resource.specs.Tables.{put, update, without}
use Rattle.ynl_laws.proofs.Lists.{Each-filter, Each-find, Each-put, Each-update}
use Rattle.ynl_tables.specs.declared.apps.asks.Ask.{Ask}
use Rattle.ynl_tables.specs.apps.Asks.{is_ask_of, is_spent, lowered, find_ask, with_ask, with_one_taken}
use Rattle.ynl_inventory.specs.Rows.{Rows}
use Rattle.ynl_inventory.specs.Sound.{HasPartition, IsAskedOn, IsSound}

-- a partition that it may ask on is there: its home, or DEFAULT
pub on-there : (v : Rows) → IsSound v → (home : ℕ) → HasPartition v home → (p : ℕ) → IsAskedOn home p → HasPartition v p
on-there v sound home has p (inl own) = subst (HasPartition v) (sym own) has
on-there v sound home has p (inr default) = subst (HasPartition v) (sym default) sound.some

-- so are all on which it asks
pub asked-there : (v : Rows) → IsSound v → (home : ℕ) → HasPartition v home → (asks : List Ask) → All (λ ask. IsAskedOn home ask.partition) asks → All (λ ask. HasPartition v ask.partition) asks
asked-there v sound home has asks asked k d below = on-there v sound home has _ (asked k d below)

-- what holds of the partition of each ask holds of one for which there is an ask
pub ask-there : (P : ℕ → Type 0) (p priority : ℕ) (asks : List Ask) → AllByRecursion (λ ask. P ask.partition) asks → IsSome (find_ask p priority asks) → P p
ask-there P p priority asks each some = go (find_ask p priority asks) refl some
  where
    go : (o : Option Ask) → find_ask p priority asks ≡ o → is_some o ≡ true → P p
    go None is none = absurd (true≢false (sym none))
    go (Some ask) is there =
        let its = Each-find (λ (ask : Ask). P ask.partition) (is_ask_of p priority) asks each ask is in
        let key : (ask.partition == p) ≡ true = (and_parts (ask.partition == p) (ask.priority == priority) its.1).0 in
        let same : ask.partition ≡ p = grind (arith, nat_tests, key) in
        subst P same its.0

-- what holds of the partition of each ask holds while one container less is asked for
pub one-taken : (P : ℕ → Type 0) (p priority : ℕ) (asks : List Ask) → AllByRecursion (λ ask. P ask.partition) asks → AllByRecursion (λ ask. P ask.partition) (with_one_taken p priority asks)
one-taken P p priority asks is =
    Each-filter (λ (ask : Ask). P ask.partition) (λ ask. not (is_spent p priority ask)) (update (is_ask_of p priority) lowered asks)
    (Each-update (λ (ask : Ask). P ask.partition) (is_ask_of p priority) lowered (λ ask h. h) asks is)

-- and with an ask of which it holds, or with one less
pub one-asked : (P : ℕ → Type 0) (ask : Ask) → (0 < ask.count → P ask.partition) → (asks : List Ask) → AllByRecursion (λ other. P other.partition) asks → AllByRecursion (λ other. P other.partition) (with_ask ask asks)
one-asked P ask its asks is = go (ask.count == 0) refl
  where
    go : (b : Bool) → (ask.count == 0) ≡ b
        → AllByRecursion (λ (other : Ask). P other.partition) (cond b (without (is_ask_of ask.partition ask.priority) asks) (put (is_ask_of ask.partition ask.priority) ask asks))
    go true none = Each-filter (λ (other : Ask). P other.partition) (λ other. not (is_ask_of ask.partition ask.priority other)) asks is
    go false some = Each-put (λ (other : Ask). P other.partition) (is_ask_of ask.partition ask.priority) ask (its (grind (arith, nat_tests, some))) asks is
