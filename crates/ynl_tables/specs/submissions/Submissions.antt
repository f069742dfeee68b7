-- The applications that were submitted to a tenant, as a contract sees them.
use Rattle.std.specs.Prelude.{◌≢◌, ⊤, ℕ, zero, suc, List, [], ◌∷◌, map, position, Option, None}
use Rattle.std.specs.List.{AllByRecursion}
use Rattle.ynl_resource.specs.declared.names.Name.{Name}
use Rattle.ynl_resource.specs.Names.{same_name}
use Rattle.ynl_tables.specs.declared.submissions.submissions.Submission.{Submission}

-- the submissions under their names in the order of submission, and how many more take no memory
pub record Listing : Type 0 where
  pub entries : List (Name × Submission)
  pub room : ℕ

-- no two applications have one name
abbrev pub HasDistinctNames : List (Name × Submission) → Type 0
HasDistinctNames [] = ⊤
HasDistinctNames (e ∷ entries) = AllByRecursion (λ f. f.0 ≢ e.0) entries × HasDistinctNames entries

-- how many applications were submitted before the one of this name
abbrev pub turn_of : Name → List (Name × Submission) → Option ℕ
turn_of name entries = position (same_name name) (map (λ e. e.0) entries)

-- the application of a turn is live no more, and its name and its leaf stay
abbrev pub with_finished : ℕ → List (Name × Submission) → List (Name × Submission)
with_finished turn [] = []
with_finished zero (e ∷ entries) = (e.0, record e.1 { app = None }) ∷ entries
with_finished (suc turn) (e ∷ entries) = e ∷ with_finished turn entries
