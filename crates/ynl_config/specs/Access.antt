-- The labels that a text gives a queue: names with commas between, `*` for all, and none where the text is blank.
use Rattle.std.specs.Prelude.{◌≡◌, ℕ, List, [], ◌∷◌, ◌++◌, Bool, ◌==◌, length, reverse, fold, Result, Ok, codes, if◌then◌else◌}
use Rattle.std.specs.BTreeSet.{BTreeSet, contains}
use Rattle.std.specs.List.{list_any, slice_split}
use Rattle.std.specs.Str.{bytes_eq}
use Rattle.toml.specs.Data.{Data}
use Rattle.ynl_resource.specs.declared.names.Name.{Name}
use Rattle.ynl_resource.specs.Names.{name_order, same_name}
use Rattle.ynl_model.specs.Queues.{Access, AllLabels, Listed}
use Rattle.ynl_config.specs.Earliest.{ConfigFault, ◌>>=◌, both}
use Rattle.ynl_config.specs.Readings.{text_of, name_of}

-- a space is the byte 32
abbrev pub is_space : ℕ → Bool
is_space b = b == 32

-- without the spaces that come first
abbrev pub skip_spaces : List ℕ → List ℕ
skip_spaces [] = []
skip_spaces (b ∷ text) = if is_space b then skip_spaces text else b ∷ text

-- without the spaces that come last
unfoldable pub cut_spaces : List ℕ → List ℕ
cut_spaces text = reverse (skip_spaces (reverse text))

-- without the spaces around it
abbrev pub trimmed : List ℕ → List ℕ
trimmed text = cut_spaces (skip_spaces text)

-- a comma is the byte 44
abbrev pub is_comma : ℕ → Bool
is_comma b = b == 44

-- the names, and one more unless it is there
abbrev pub with_name : List Name → Name → List Name
with_name names name = if list_any (same_name name) names then names else names ++ name ∷ []

-- a set has just these names
abbrev pub AreSeen : BTreeSet Name → List Name → Type 0
AreSeen seen names = (name : Name) → contains name_order seen name ≡ list_any (same_name name) names

-- the names so far, and that of one more part
unfoldable pub with_part : Result (List Name) ConfigFault → List ℕ → Result (List Name) ConfigFault
with_part names part = both names (name_of (trimmed part)) >>= λ p. Ok (with_name p.0 p.1)

-- the names that these parts of a text are, each once
abbrev pub names_in : List (List ℕ) → Result (List Name) ConfigFault
names_in parts = fold with_part (Ok []) parts

-- what a text without spaces around it gives
unfoldable pub given_by : List ℕ → Result Access ConfigFault
given_by text =
    if length text == 0 then Ok (Listed [])
    else if bytes_eq text (codes "*") then Ok AllLabels
    else names_in (slice_split is_comma text) >>= λ names. Ok (Listed names)

-- what a value gives
unfoldable pub access_of : Data → Result Access ConfigFault
access_of d = text_of d >>= λ text. given_by (trimmed text)
