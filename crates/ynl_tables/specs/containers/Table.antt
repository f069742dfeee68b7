-- The containers of a partition, as a contract sees them.
use Rattle.std.specs.Prelude.{ℕ, ◌<◌, ⊤, List, [], ◌∷◌, map, Option, nat_eq}
use Rattle.std.specs.List.{AllByRecursion}
use Rattle.std.specs.Map.{lookup}
use Rattle.ynl_slots.specs.declared.chain.Links.{Links}
use Rattle.ynl_tables.specs.declared.containers.container.Container.{Container}

-- the containers under their numbers in the order of placement, their links by node and by application, and how many placements take no memory
pub record Table : Type 0 where
  pub entries : List (ℕ × Container)
  pub of_node : List (ℕ × Links)
  pub of_app : List (ℕ × Links)
  pub room : ℕ

-- the clock is above those of all containers
abbrev pub IsAbove : ℕ → List (ℕ × Container) → Type 0
IsAbove clock entries = AllByRecursion (λ e. e.1.clock < clock) entries

-- each container's clock is below those of all later ones
abbrev pub IsRising : List (ℕ × Container) → Type 0
IsRising [] = ⊤
IsRising (e ∷ entries) = AllByRecursion (λ f. e.1.clock < f.1.clock) entries × IsRising entries

-- the clocks of the containers, with their numbers
abbrev pub by_clock : List (ℕ × Container) → List (ℕ × ℕ)
by_clock entries = map (λ e. (e.1.clock, e.0)) entries

-- the number of the container with a clock
abbrev pub number_at : ℕ → List (ℕ × Container) → Option ℕ
number_at clock entries = lookup (nat_eq clock) (by_clock entries)
