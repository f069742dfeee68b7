-- Asks that are set, lowered and dropped are asks.
use Rattle.std.proofs.Common.{◌≡◌, ◌<◌, ◌-◌, ◌==◌, ◌&&◌, ℕ, Bool, true, false, not, cond, List, [], ◌∷◌, filter, refl, sym, ap, subst, ◌∙◌, arith}
use Rattle.std.specs.List.{AllByRecursion}
use Rattle.std.proofs.lemmas.Bool.{and_parts}
use Rattle.std.proofs.lemmas.Bool.Decides.{nat_tests}
use Rattle.ynl_resource.specs.Tables.{without, put, update}
use Rattle.ynl_tables.specs.declared.apps.asks.Ask.{Ask}
use Rattle.ynl_tables.specs.apps.Asks.{is_ask_of, is_spent, lowered, with_one_taken, AreApart, AreAsks}

all_kept : (P : Ask → Type 0) (test : Ask → Bool) (asks : List Ask) → AllByRecursion P asks → AllByRecursion P (filter test asks)
all_kept P test [] h = tt
all_kept P test (ask ∷ asks) h = go (test ask) (all_kept P test asks h.1)
  where
    go : (b : Bool) → AllByRecursion P (filter test asks) → AllByRecursion P (cond b (ask ∷ filter test asks) (filter test asks))
    go true k = (h.0, k)
    go false k = k

all_put : (P : Ask → Type 0) (test : Ask → Bool) (new : Ask) → P new → (asks : List Ask) → AllByRecursion P asks → AllByRecursion P (put test new asks)
all_put P test new here [] h = (here, tt)
all_put P test new here (ask ∷ asks) h = go (test ask) (all_put P test new here asks h.1)
  where
    go : (b : Bool) → AllByRecursion P (put test new asks) → AllByRecursion P (cond b (new ∷ asks) (ask ∷ put test new asks))
    go true k = (here, h.1)
    go false k = (h.0, k)

all_lowered : (P : Ask → Type 0) (test : Ask → Bool) → ((ask : Ask) → P ask → P (lowered ask)) → (asks : List Ask) → AllByRecursion P asks → AllByRecursion P (update test lowered asks)
all_lowered P test f [] h = tt
all_lowered P test f (ask ∷ asks) h = (go (test ask), all_lowered P test f asks h.1)
  where
    go : (b : Bool) → P (cond b (lowered ask) ask)
    go true = f ask h.0
    go false = h.0

-- ---- no two of one partition and priority

apart_kept : (test : Ask → Bool) (asks : List Ask) → AreApart asks → AreApart (filter test asks)
apart_kept test [] h = tt
apart_kept test (ask ∷ asks) h = go (test ask) (apart_kept test asks h.1)
  where
    go : (b : Bool) → AreApart (filter test asks) → AreApart (cond b (ask ∷ filter test asks) (filter test asks))
    go true k = (all_kept (λ other. is_ask_of ask.partition ask.priority other ≡ false) test asks h.0, k)
    go false k = k

turned : (m n : ℕ) → (m == n) ≡ (n == m)
turned m n = grind (arith, nat_tests)

turned_of : (a b : Ask) → is_ask_of a.partition a.priority b ≡ is_ask_of b.partition b.priority a
turned_of a b = (λ i. turned b.partition a.partition i && turned b.priority a.priority i)

pub same_key : (m n : ℕ) → (m == n) ≡ true → m ≡ n
same_key m n e = grind (arith, nat_tests)

apart_put : (new : Ask) (asks : List Ask) → AreApart asks → AreApart (put (is_ask_of new.partition new.priority) new asks)
apart_put new [] h = (tt, tt)
apart_put new (ask ∷ asks) h = go (is_ask_of new.partition new.priority ask) refl (apart_put new asks h.1)
  where
    others : AllByRecursion (λ other. is_ask_of ask.partition ask.priority other ≡ false) asks
    others = h.0

    go : (b : Bool) → is_ask_of new.partition new.priority ask ≡ b → AreApart (put (is_ask_of new.partition new.priority) new asks)
        → AreApart (cond b (new ∷ asks) (ask ∷ put (is_ask_of new.partition new.priority) new asks))
    go true e k =
        let keys = and_parts (ask.partition == new.partition) (ask.priority == new.priority) e in
        let partition : ask.partition ≡ new.partition = same_key ask.partition new.partition keys.0 in
        let priority : ask.priority ≡ new.priority = same_key ask.priority new.priority keys.1 in
        (subst (λ (p : ℕ). AllByRecursion (λ other. is_ask_of p new.priority other ≡ false) asks) partition (subst (λ (q : ℕ). AllByRecursion (λ other. is_ask_of ask.partition q other ≡ false) asks) priority others), h.1)
    go false e k = (all_put (λ other. is_ask_of ask.partition ask.priority other ≡ false) (is_ask_of new.partition new.priority) new (turned_of ask new ∙ e) asks others, k)

apart_lowered : (test : Ask → Bool) (asks : List Ask) → AreApart asks → AreApart (update test lowered asks)
apart_lowered test [] h = tt
apart_lowered test (ask ∷ asks) h = go (test ask) (all_lowered (λ other. is_ask_of ask.partition ask.priority other ≡ false) test (λ other k. k) asks h.0) (apart_lowered test asks h.1)
  where
    go : (b : Bool) → AllByRecursion (λ other. is_ask_of ask.partition ask.priority other ≡ false) (update test lowered asks) → AreApart (update test lowered asks) → AreApart (cond b (lowered ask) ask ∷ update test lowered asks)
    go true here k = (here, k)
    go false here k = (here, k)

-- ---- each for a container

counted_taken : (partition priority : ℕ) (asks : List Ask) → AllByRecursion (λ ask. 0 < ask.count) asks → AllByRecursion (λ ask. 0 < ask.count) (with_one_taken partition priority asks)
counted_taken partition priority [] h = tt
counted_taken partition priority (ask ∷ asks) h = go (is_ask_of partition priority ask) refl (counted_taken partition priority asks h.1)
  where
    rest : List Ask
    rest = with_one_taken partition priority asks

    unless : (b : Bool) (next : Ask) → (b ≡ false → 0 < next.count) → AllByRecursion (λ ask. 0 < ask.count) rest → AllByRecursion (λ ask. 0 < ask.count) (cond (not b) (next ∷ rest) rest)
    unless true next some k = k
    unless false next some k = (some refl, k)

    left : is_ask_of partition priority ask ≡ true → is_spent partition priority (lowered ask) ≡ false → 0 < ask.count - 1
    left e off =
        let none : ((ask.count - 1) == 0) ≡ false = sym (ap (λ (b : Bool). b && ((ask.count - 1) == 0)) e) ∙ off in
        grind (arith, nat_tests)

    go : (b : Bool) → is_ask_of partition priority ask ≡ b → AllByRecursion (λ ask. 0 < ask.count) rest → AllByRecursion (λ ask. 0 < ask.count) (filter (λ row. not (is_spent partition priority row)) (cond b (lowered ask) ask ∷ update (is_ask_of partition priority) lowered asks))
    go true e k = unless (is_spent partition priority (lowered ask)) (lowered ask) (left e) k
    go false e k = unless (is_spent partition priority ask) ask (λ _. h.0) k

-- ---- both

pub asks_dropped : (test : Ask → Bool) (asks : List Ask) → AreAsks asks → AreAsks (without test asks)
asks_dropped test asks h = record {
  apart = apart_kept (λ ask. not (test ask)) asks h.apart;
  counted = all_kept (λ ask. 0 < ask.count) (λ ask. not (test ask)) asks h.counted;
}

pub asks_put : (new : Ask) (asks : List Ask) → 0 < new.count → AreAsks asks → AreAsks (put (is_ask_of new.partition new.priority) new asks)
asks_put new asks some h = record {
  apart = apart_put new asks h.apart;
  counted = all_put (λ ask. 0 < ask.count) (is_ask_of new.partition new.priority) new some asks h.counted;
}

pub asks_taken : (partition priority : ℕ) (asks : List Ask) → AreAsks asks → AreAsks (with_one_taken partition priority asks)
asks_taken partition priority asks h = record {
  apart = apart_kept (λ ask. not (is_spent partition priority ask)) (update (is_ask_of partition priority) lowered asks) (apart_lowered (is_ask_of partition priority) asks h.apart);
  counted = counted_taken partition priority asks h.counted;
}
