-- What a value of a table says, or its fault.
use Rattle.std.specs.Prelude.{◌≡◌, ℕ, ◌*◌, ℤ, pos, negsuc, List, Bool, true, false, ◌&&◌, ◌==◌, nat_le, Option, Some, None, Result, Ok, Err, codes, if◌then◌else◌}
use Rattle.std.specs.Str.{bytes_eq}
use Rattle.toml.specs.Data.{Data, Members, get_member, as_str, as_integer, as_bool}
use Rattle.ynl_resource.specs.Amounts.{amount}
use Rattle.ynl_resource.specs.Ranges.{whole, most_memory, most_vcores}
use Rattle.ynl_resource.specs.declared.amounts.Resource.{Resource}
use Rattle.ynl_resource.specs.declared.names.Name.{Name}
use Rattle.ynl_resource.specs.declared.labels.Label.{Label}
use Rattle.ynl_resource.specs.declared.labels.Label.TheVariants.{Unlabelled}
use Rattle.ynl_resource.specs.Texts.{read_name, read_label}
use Rattle.ynl_config.specs.Earliest.{ConfigFault, ◌>>=◌, both}
use Rattle.ynl_config.specs.declared.faults.ConfigFault.TheVariants as fault
use Rattle.ynl_config.specs.declared.values.Version.{Version}
use Rattle.ynl_config.specs.declared.values.Version.TheVariants.{Whole, Hundredth}

-- the fault, where there is nothing
abbrev pub or_fault : {A : Type 0} → ConfigFault → Option A → Result A ConfigFault
or_fault e None = Err e
or_fault e (Some x) = Ok x

-- the fault of a text that is no name of a label
abbrev pub or_bad_label : {A E : Type 0} → Result A E → Result A ConfigFault
or_bad_label (Ok x) = Ok x
or_bad_label (Err e) = Err fault.BadLabel

-- what a function returned, seen by view, is what is read
abbrev pub Gives : {X Y : Type 0} → (X → Y) → Result X ConfigFault → Result Y ConfigFault → Type 0
Gives view (Ok x) read = read ≡ Ok (view x)
Gives view (Err e) read = read ≡ Err e

-- the natural number that an integer is
abbrev pub natural : ℤ → Option ℕ
natural (pos n) = Some n
natural (negsuc n) = None

-- ---- what a value says

-- the text that a value is
unfoldable pub text_of : Data → Result (List ℕ) ConfigFault
text_of d = or_fault fault.WrongKind (as_str d)

-- the truth value that a value is
unfoldable pub flag_of : Data → Result Bool ConfigFault
flag_of d = or_fault fault.WrongKind (as_bool d)

-- the number, if it is from the first to the second
abbrev pub within : ℕ → ℕ → ℕ → Result ℕ ConfigFault
within low high n = if nat_le low n && nat_le n high then Ok n else Err fault.Range

-- an integer from the first to the second
unfoldable pub number_of : ℕ → ℕ → Data → Result ℕ ConfigFault
number_of low high d = do
  z ← or_fault fault.WrongKind (as_integer d)
  n ← or_fault fault.Range (natural z)
  within low high n

-- in how many hundredths of a percent a configuration of this version counts
abbrev pub unit : Version → ℕ
unit Whole = 100
unit Hundredth = 1

-- a percentage, which is at least so many of the version's units and at most the whole, in hundredths of a percent
unfoldable pub percent_of : Version → ℕ → Data → Result ℕ ConfigFault
percent_of version low d = do
  n ← number_of low whole d
  within 0 whole (n * unit version)

-- the name of a label that a text is
unfoldable pub name_of : List ℕ → Result Name ConfigFault
name_of text = or_bad_label (read_name text)

-- the label that a text is; the empty text is DEFAULT
unfoldable pub label_of : List ℕ → Result Label ConfigFault
label_of text = or_bad_label (read_label text)

-- whether a queue of this state is stopped
unfoldable pub stopped_of : List ℕ → Result Bool ConfigFault
stopped_of text =
    if bytes_eq text (codes "RUNNING") then Ok false
    else if bytes_eq text (codes "STOPPED") then Ok true
    else Err fault.Range

-- version 1 counts in percents, version 2 in hundredths of a percent
abbrev pub version_of : ℕ → Result Version ConfigFault
version_of n = if n == 1 then Ok Whole else if n == 2 then Ok Hundredth else Err fault.Version

-- ---- what stands at a key

-- what stands at a key, or what is taken where nothing does
abbrev pub or_given : {A : Type 0} → A → (Data → Result A ConfigFault) → Option Data → Result A ConfigFault
or_given given read None = Ok given
or_given given read (Some d) = read d

-- what stands at a key that has to be there
abbrev pub needed : {A : Type 0} → (Data → Result A ConfigFault) → Option Data → Result A ConfigFault
needed read None = Err fault.MissingKey
needed read (Some d) = read d

-- a text that has to be there
unfoldable pub text_at : List ℕ → Members → Result (List ℕ) ConfigFault
text_at key ms = needed text_of (get_member key ms)

-- a truth value, and what it is where none is given
unfoldable pub flag_at : List ℕ → Bool → Members → Result Bool ConfigFault
flag_at key given ms = or_given given flag_of (get_member key ms)

-- a number from the first to the second, and what it is where none is given
unfoldable pub number_at : List ℕ → ℕ → ℕ → ℕ → Members → Result ℕ ConfigFault
number_at key low high given ms = or_given given (number_of low high) (get_member key ms)

-- a percentage of at least so many of the version's units, and what it is where none is given
unfoldable pub percent_at : List ℕ → Version → ℕ → ℕ → Members → Result ℕ ConfigFault
percent_at key version low given ms = or_given given (percent_of version low) (get_member key ms)

-- a label's name
unfoldable pub name_at : List ℕ → Members → Result Name ConfigFault
name_at key ms = text_at key ms >>= name_of

-- a label, and DEFAULT where none is given
unfoldable pub label_at : List ℕ → Members → Result Label ConfigFault
label_at key ms = or_given Unlabelled (λ d. text_of d >>= label_of) (get_member key ms)

-- whether a queue is stopped; it is not where no state is given
unfoldable pub stopped_at : List ℕ → Members → Result Bool ConfigFault
stopped_at key ms = or_given false (λ d. text_of d >>= stopped_of) (get_member key ms)

-- the version
unfoldable pub version_at : Members → Result Version ConfigFault
version_at ms =
    needed (λ d. or_fault fault.WrongKind (as_integer d)) (get_member (codes "version") ms)
    >>= λ z. or_fault fault.Version (natural z)
    >>= version_of

-- the largest request: memory in MB, and vcores
unfoldable pub size_at : Members → Result Resource ConfigFault
size_at ms =
    both (number_at (codes "maximum-allocation-memory") 1 most_memory most_memory ms) (number_at (codes "maximum-allocation-vcores") 1 most_vcores most_vcores ms)
    >>= λ p. Ok (amount p.0 p.1)
