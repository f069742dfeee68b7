-- Parts that the texts of several kinds of lines have, behind what stands before them.
use Rattle.std.specs.Prelude.{ℕ, List, ◌∷◌, [], ◌++◌, codes, decimal}
use Rattle.json.specs.Print.{escape}
use Rattle.ynl_resource.specs.declared.names.Name.{Name}
use Rattle.ynl_resource.specs.declared.labels.Label.{Label}
use Rattle.ynl_resource.specs.Texts.{label_text}

-- a label and the memory behind it
abbrev pub labelled : Label → ℕ → List ℕ
labelled label memory = (escape (label_text label) ++ 34 ∷ []) ++ (codes ",\"memory\":" ++ decimal memory)

-- the name of a user or a tenant, and the cores and what ends the line behind it
abbrev pub owned : Name → ℕ → List ℕ → List ℕ
owned owner vcores end = (escape owner ++ 34 ∷ []) ++ (codes ",\"vcores\":" ++ (decimal vcores ++ end))
