-- What an application asks for, as a contract sees it.
use Rattle.std.specs.Prelude.{◌≡◌, ◌<◌, ◌-◌, ◌==◌, ◌&&◌, ⊤, ℕ, Bool, false, List, [], ◌∷◌, find, Option, if◌then◌else◌}
use Rattle.std.specs.List.{AllByRecursion}
use Rattle.ynl_resource.specs.Tables.{without, put, update}
use Rattle.ynl_tables.specs.declared.apps.asks.Ask.{Ask}

-- whether an ask is that of the partition and the priority
abbrev pub is_ask_of : ℕ → ℕ → Ask → Bool
is_ask_of partition priority ask = (ask.partition == partition) && (ask.priority == priority)

-- whether it is, and for no container
abbrev pub is_spent : ℕ → ℕ → Ask → Bool
is_spent partition priority ask = is_ask_of partition priority ask && (ask.count == 0)

-- the ask for one container less
abbrev pub lowered : Ask → Ask
lowered ask = record ask { count = ask.count - 1 }

-- the ask of a partition and a priority
abbrev pub find_ask : ℕ → ℕ → List Ask → Option Ask
find_ask partition priority asks = find (is_ask_of partition priority) asks

-- an ask takes the place of the one of its partition and priority, or comes last; with count 0 that one goes
abbrev pub with_ask : Ask → List Ask → List Ask
with_ask ask asks =
    let same : Ask → Bool = is_ask_of ask.partition ask.priority in
    if ask.count == 0 then without same asks else put same ask asks

-- one container of an ask was placed: its count falls by 1, and at 0 the ask goes
abbrev pub with_one_taken : ℕ → ℕ → List Ask → List Ask
with_one_taken partition priority asks = without (is_spent partition priority) (update (is_ask_of partition priority) lowered asks)

-- no two asks are of one partition and priority
abbrev pub AreApart : List Ask → Type 0
AreApart [] = ⊤
AreApart (ask ∷ asks) = AllByRecursion (λ other. is_ask_of ask.partition ask.priority other ≡ false) asks × AreApart asks

-- and each is for a container
pub record AreAsks (asks : List Ask) : Type 0 where
  pub apart : AreApart asks
  pub counted : AllByRecursion (λ ask. 0 < ask.count) asks
