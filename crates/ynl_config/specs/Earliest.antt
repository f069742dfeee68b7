-- The faults of a configuration: their words, and which of several is told.
use Rattle.std.specs.Prelude.{ℕ, List, [], ◌∷◌, ◌++◌, codes, Bool, ◌&&◌, nat_le, fold, Result, Ok, Err, if◌then◌else◌, Vec}
use Rattle.std.specs.declared.alloc.Global.{Global}
pub use Rattle.ynl_config.specs.declared.faults.ConfigFault.{ConfigFault}
use Rattle.ynl_config.specs.declared.faults.ConfigFault.TheVariants.{Size, Syntax, UnknownKey, MissingKey, WrongKind, Version, Range, BadLabel, TooManyLabels, DuplicateLabel, TooDeep, TooMany, BadPath, DuplicateQueue, NoParent, NoSuchLabel, NotSubset, MaximumBelowCapacity, SumNot100}

-- the word that is printed for a fault
abbrev pub fault_word : ConfigFault → List ℕ
fault_word Size = codes "size"
fault_word Syntax = codes "syntax"
fault_word UnknownKey = codes "unknown-key"
fault_word MissingKey = codes "missing-key"
fault_word WrongKind = codes "wrong-kind"
fault_word Version = codes "version"
fault_word Range = codes "range"
fault_word BadLabel = codes "bad-label"
fault_word TooManyLabels = codes "too-many-labels"
fault_word DuplicateLabel = codes "duplicate-label"
fault_word TooDeep = codes "too-deep"
fault_word TooMany = codes "too-many"
fault_word BadPath = codes "bad-path"
fault_word DuplicateQueue = codes "duplicate-queue"
fault_word NoParent = codes "no-parent"
fault_word NoSuchLabel = codes "no-such-label"
fault_word NotSubset = codes "not-subset"
fault_word MaximumBelowCapacity = codes "maximum-below-capacity"
fault_word SumNot100 = codes "sum-not-100"

-- the place of a fault in the order in which they are told
abbrev pub rank : ConfigFault → ℕ
rank Size = 0
rank Syntax = 1
rank UnknownKey = 2
rank MissingKey = 3
rank WrongKind = 4
rank Version = 5
rank Range = 6
rank BadLabel = 7
rank TooManyLabels = 8
rank DuplicateLabel = 9
rank TooDeep = 10
rank TooMany = 11
rank BadPath = 12
rank DuplicateQueue = 13
rank NoParent = 14
rank NoSuchLabel = 15
rank NotSubset = 16
rank MaximumBelowCapacity = 17
rank SumNot100 = 18

-- whether single tables and values of a text have the fault
abbrev pub is_of_tables : ConfigFault → Bool
is_of_tables fault = nat_le 2 (rank fault) && nat_le (rank fault) 7

-- whether several rows have it together
abbrev pub is_of_rows : ConfigFault → Bool
is_of_rows fault = nat_le 8 (rank fault)

-- the one of two that is told: that of the lower rank
abbrev pub earlier : ConfigFault → ConfigFault → ConfigFault
earlier a b = if nat_le (rank a) (rank b) then a else b

-- what follows on a value; a fault stays
infixl 10 ◌>>=◌
abbrev pub ◌>>=◌ : {A B : Type 0} → Result A ConfigFault → (A → Result B ConfigFault) → Result B ConfigFault
(Ok x) >>= f = f x
(Err e) >>= f = Err e

-- two readings that are told together: both values, or the earlier fault
abbrev pub both : {A B : Type 0} → Result A ConfigFault → Result B ConfigFault → Result (A × B) ConfigFault
both (Ok x) (Ok y) = Ok (x, y)
both (Ok x) (Err e) = Err e
both (Err e) (Ok y) = Err e
both (Err e) (Err f) = Err (earlier e f)

-- the values so far and one more, or the earlier fault
abbrev pub and_one : {A : Type 0} → Result (List A) ConfigFault → Result A ConfigFault → Result (List A) ConfigFault
and_one rows row = both rows row >>= λ p. Ok (p.0 ++ p.1 ∷ [])

-- the readings of a list: all values in their order, or the earliest fault
abbrev pub all_of : {A : Type 0} → List (Result A ConfigFault) → Result (List A) ConfigFault
all_of readings = fold and_one (Ok []) readings

-- what a function makes of a reading
abbrev pub made : {A B : Type 0} → (A → B) → Result A ConfigFault → Result B ConfigFault
made f (Ok x) = Ok (f x)
made f (Err e) = Err e

-- the list in a `Vec` that was read
abbrev pub items_in : {A : Type 0} → Result (Vec A Global) ConfigFault → Result (List A) ConfigFault
items_in = made (λ rows. rows.items)
