-- The chains of an application's containers, as a contract sees them.
use Rattle.std.specs.Prelude.{ℕ, List, [], ◌∷◌, ◌++◌, nat_eq, None, is_some, unwrap_or, if◌then◌else◌}
use Rattle.std.specs.Map.{lookup}
use Rattle.ynl_slots.specs.declared.chain.Chain.{Chain}

-- a chain of no containers
abbrev pub no_chain : Chain
no_chain = record { first = None; last = None }

-- the chain of a partition
abbrev pub chain_of : ℕ → List (ℕ × Chain) → Chain
chain_of partition chains = unwrap_or (lookup (nat_eq partition) chains) no_chain

-- the chains with a place for that of a partition
abbrev pub with_place : ℕ → List (ℕ × Chain) → List (ℕ × Chain)
with_place partition chains = if is_some (lookup (nat_eq partition) chains) then chains else chains ++ (partition, no_chain) ∷ []
