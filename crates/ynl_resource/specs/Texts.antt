-- What texts say: the name, label, path or id that a text is, and the text of each.
use Rattle.std.specs.Prelude.{ℕ, Bool, ◌&&◌, not, ◌==◌, nat_lt, nat_le, List, [], ◌∷◌, ◌++◌, length, slice_index, take, drop, Option, Some, None, Result, Ok, Err, codes, decimal, if◌then◌else◌}
use Rattle.std.specs.List.{list_all, slice_split, join_with_byte, before_first, after_first, prefix_len}
use Rattle.std.specs.Str.{all_ascii_digits}
use Rattle.std.specs.Str.Parse.{digits_value}
use Rattle.ynl_resource.specs.declared.names.BadName.{BadName}
use Rattle.ynl_resource.specs.declared.paths.PathFault.{PathFault}
use Rattle.ynl_resource.specs.declared.paths.PathFault.TheVariants.{TooDeep, BadPath}
use Rattle.ynl_resource.specs.NameText.{is_name, is_name_byte}
use Rattle.ynl_resource.specs.Names.{Name, same_name, Label, Unlabelled, Named, Path, Id}
use Rattle.ynl_resource.specs.Ranges.{most_clock, most_names}

-- the text is no name
abbrev pub bad_name : BadName
bad_name = record {}

-- ---- names

-- the name that a text is
unfoldable pub read_name : List ℕ → Result Name BadName
read_name text = if is_name text then Ok text else Err bad_name

-- the first bytes, so many, and what stands behind them, if the first ones are a name
abbrev pub name_of_first : ℕ → List ℕ → Option (Name × List ℕ)
name_of_first n bytes = if is_name (take n bytes) then Some (take n bytes, drop n bytes) else None

-- the name in front of some bytes, which ends only where a byte may not be in a name, and what stands behind it
unfoldable pub name_in_front : List ℕ → Option (Name × List ℕ)
name_in_front bytes = name_of_first (prefix_len is_name_byte bytes) bytes

-- ---- labels: the empty text is DEFAULT

-- the label of that name
abbrev pub named : Result Name BadName → Result Label BadName
named (Ok name) = Ok (Named name)
named (Err e) = Err e

-- the label that a text is: DEFAULT if it is empty, and else that of a name
unfoldable pub read_label : List ℕ → Result Label BadName
read_label text = if length text == 0 then Ok Unlabelled else named (read_name text)

-- the text of a label
abbrev pub label_text : Label → List ℕ
label_text Unlabelled = []
label_text (Named name) = name

-- ---- paths: names with dots between, the first `root`

-- whether a byte is a dot
abbrev pub is_dot : ℕ → Bool
is_dot b = b == 46

-- the path that these parts of a text are
abbrev pub path_of : List (List ℕ) → Result Path PathFault
path_of [] = Err BadPath
path_of (first ∷ names) = if same_name first (codes "root") && list_all is_name names then Ok names else Err BadPath

-- the path that a text is: too many names are told before anything else
unfoldable pub read_path : List ℕ → Result Path PathFault
read_path text = if nat_lt most_names (length (slice_split is_dot text)) then Err TooDeep else path_of (slice_split is_dot text)

-- the text of a path
unfoldable pub path_text : Path → List ℕ
path_text path = join_with_byte 46 (codes "root" ∷ path)

-- ---- ids: the label, `#`, and the clock's number without leading zeros

-- whether a byte is `#`
abbrev pub is_mark : ℕ → Bool
is_mark b = b == 35

-- whether digits are the number of a clock after a placement
abbrev pub is_clock : List ℕ → Bool
is_clock digits =
    all_ascii_digits digits && nat_le 1 (digits_value 10 digits) && nat_le (digits_value 10 digits) most_clock && not (slice_index digits 0 == 48)

-- the id of a label and the digits of its number
abbrev pub id_of : Result Label BadName → List ℕ → Result Id BadName
id_of (Ok label) digits = if is_clock digits then Ok (record { label = label; clock = digits_value 10 digits }) else Err bad_name
id_of (Err e) digits = Err e

-- the first `#`, byte 35, ends the label, and after it comes the number
unfoldable pub read_id : List ℕ → Result Id BadName
read_id text = id_of (read_label (before_first is_mark text)) (after_first is_mark text)

-- the text of an id
abbrev pub id_text : Id → List ℕ
id_text id = label_text id.label ++ 35 ∷ decimal id.clock
