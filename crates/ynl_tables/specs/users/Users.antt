-- The users of a cluster, as a contract sees them.
use Rattle.std.specs.Prelude.{◌≡◌, ℕ, false, ⊤, List, [], ◌∷◌, ◌++◌, length}
use Rattle.std.specs.List.{AllByRecursion}
use Rattle.ynl_resource.specs.declared.names.Name.{Name}
use Rattle.ynl_resource.specs.Names.{same_name}

-- a name is none of these
abbrev pub IsNew : Name → List Name → Type 0
IsNew name names = AllByRecursion (λ other. same_name other name ≡ false) names

-- no two of the names are the same
abbrev pub AreApart : List Name → Type 0
AreApart [] = ⊤
AreApart (name ∷ names) = AllByRecursion (λ other. same_name name other ≡ false) names × AreApart names

-- a user of a name comes last, under a number that says how many came before
pub record IsLast (number : ℕ) (name : Name) (old new : List Name) : Type 0 where
  pub number_is : number ≡ length old
  pub names : new ≡ old ++ name ∷ []
