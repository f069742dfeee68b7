-- The sentence that tells a fault to a reader.
use Rattle.std.specs.Prelude.{ℕ, List, [], ◌∷◌, ◌++◌, decimal, Option, Some, None, codes}
use Rattle.std.specs.List.{concat}
use Rattle.ynl_config.specs.declared.faults.ConfigFault.{ConfigFault}
use Rattle.ynl_config.specs.declared.faults.ConfigFault.TheVariants as fault
use Rattle.ynl_config.specs.declared.places.RowKind.{RowKind}
use Rattle.ynl_config.specs.declared.places.RowKind.TheVariants.{Label, Queue}
use Rattle.ynl_config.specs.Places.{Place, Shown}
use Rattle.ynl_check.specs.Pieces.{or_dots, percent, plain, quoted}

-- a row of this kind, with its number and its name
abbrev pub named_row : List ℕ → Option ℕ → Option Shown → List ℕ
named_row kind number name = concat (kind ∷ or_dots decimal number ∷ codes " (" ∷ or_dots quoted name ∷ codes "): " ∷ [])

-- the row of a place, with its name
abbrev pub row_by : Option RowKind → Place → List ℕ
row_by None p = []
row_by (Some Label) p = named_row (codes "label row ") p.row p.label
row_by (Some Queue) p = named_row (codes "queue row ") p.row p.queue

unfoldable pub row_text : Place → List ℕ
row_text p = row_by p.table p

-- the label of a queue's share
abbrev pub share_of : Option Shown → List ℕ
share_of None = []
share_of (Some label) = concat (codes "label " ∷ quoted label ∷ codes ": " ∷ [])

abbrev pub share_by : Option RowKind → Option Shown → List ℕ
share_by None label = []
share_by (Some Label) label = []
share_by (Some Queue) label = share_of label

-- the table of a place: the row, or the share of a label in it
unfoldable pub table_text : Place → List ℕ
table_text p = row_text p ++ share_by p.table p.label

-- what is told of too many queues: all, or those just below one
abbrev pub crowd_by : Option Shown → Place → List ℕ
crowd_by None p = concat (or_dots quoted p.value ∷ codes " queues are too many: 1024 may be there, and 64 just below one" ∷ [])
crowd_by (Some queue) p = concat (or_dots quoted p.value ∷ codes " queues just below " ∷ quoted queue ∷ codes " are too many: 64 may be there" ∷ [])

-- a key, what is wrong with its value, and the value
abbrev pub of_value : Place → List ℕ → List ℕ
of_value p wrong = concat (or_dots quoted p.key ∷ wrong ∷ or_dots quoted p.value ∷ [])

-- a label at fault, where it stands, and what is wrong with it
abbrev pub of_label : Place → List ℕ → List ℕ
of_label p wrong = concat (or_dots quoted p.label ∷ codes " under " ∷ or_dots quoted p.key ∷ wrong ∷ [])

-- what is told of a fault behind its table or its row
abbrev pub told_of : ConfigFault → Place → List ℕ
told_of fault.Size p = codes "the text has more than 1048576 bytes"
told_of fault.Syntax p = concat (codes "the text is no TOML from line " ∷ or_dots decimal p.line ∷ codes " on" ∷ [])
told_of fault.UnknownKey p = concat (codes "there is no key " ∷ or_dots quoted p.key ∷ [])
told_of fault.MissingKey p = concat (or_dots quoted p.key ∷ codes " is missing" ∷ [])
told_of fault.WrongKind p = of_value p (codes " is of another kind: ")
told_of fault.Version p = of_value p (codes " is neither 1 nor 2: ")
told_of fault.Range p = of_value p (codes " is out of range: ")
told_of fault.BadLabel p = of_label p (codes " is no name of a label")
told_of fault.TooManyLabels p = concat (or_dots quoted p.value ∷ codes " labels are too many: 64 may be there" ∷ [])
told_of fault.DuplicateLabel p = codes "a row before has this name"
told_of fault.TooDeep p = codes "the path has more than eight names"
told_of fault.TooMany p = crowd_by p.queue p
told_of fault.BadPath p = codes "the path does not begin with root., or a part of it is no name"
told_of fault.DuplicateQueue p = codes "a row before has this path"
told_of fault.NoParent p = codes "the queue above it is not there"
told_of fault.NoSuchLabel p = of_label p (codes " is not configured")
told_of fault.NotSubset p = of_label p (codes " is beyond what the queue or its parent may use")
told_of fault.MaximumBelowCapacity p =
    concat (or_dots plain p.queue ∷ codes " may use at most " ∷ or_dots percent p.maximum ∷ codes " of " ∷ or_dots plain p.label ∷ codes " and is guaranteed " ∷ or_dots percent p.capacity ∷ codes ": maximum-capacity is below capacity" ∷ [])
told_of fault.SumNot100 p = concat (codes "the capacities just below " ∷ or_dots plain p.queue ∷ codes " sum to " ∷ or_dots percent p.sum ∷ codes " of " ∷ or_dots plain p.label ∷ codes ", and not to 100 %" ∷ [])

-- the faults of single tables and values are told behind the table, and those of rows behind the row
abbrev pub front_of : ConfigFault → Place → List ℕ
front_of fault.UnknownKey p = table_text p
front_of fault.MissingKey p = table_text p
front_of fault.WrongKind p = table_text p
front_of fault.Range p = table_text p
front_of fault.BadLabel p = row_text p
front_of fault.DuplicateLabel p = row_text p
front_of fault.TooDeep p = row_text p
front_of fault.BadPath p = row_text p
front_of fault.DuplicateQueue p = row_text p
front_of fault.NoParent p = row_text p
front_of fault.NoSuchLabel p = row_text p
front_of fault.NotSubset p = row_text p
front_of _ p = []

-- the whole sentence
unfoldable pub sentence : ConfigFault → Place → List ℕ
sentence fault p = front_of fault p ++ (told_of fault p ++ 10 ∷ [])
