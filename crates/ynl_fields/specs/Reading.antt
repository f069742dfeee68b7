-- What lines of JSON have under their keys, and the first fault in that. Each kind of line has its own faults.
use Rattle.std.specs.Prelude.{◌≡◌, ◌≤◌, ℕ, List, Bool, ◌&&◌, ◌||◌, ◌==◌, nat_le, Option, Some, None, option_and_then, Result, Ok, Err, if◌then◌else◌}
use Rattle.std.specs.List.{list_all}
use Rattle.std.specs.Str.{is_utf8}
use Rattle.serde_json.specs.Data.{Data}
use Rattle.serde_json.specs.Read.{read}
use Rattle.serde_json.specs.Find.{get, as_str, as_number, as_u64, as_object}
use Rattle.serde_json.specs.Events.{members_len}
use Rattle.ynl_resource.specs.declared.amounts.Resource.{Resource}
use Rattle.ynl_resource.specs.Amounts.{amount}
use Rattle.ynl_resource.specs.Ranges.{most_clock, most_memory, most_vcores}
use Rattle.ynl_resource.specs.declared.names.Name.{Name}
use Rattle.ynl_resource.specs.declared.labels.Label.{Label}
use Rattle.ynl_resource.specs.declared.paths.Path.{Path}
use Rattle.ynl_resource.specs.declared.ids.Id.{Id}
use Rattle.ynl_resource.specs.Texts.{read_name, read_label, read_path, read_id}

-- spaces, tabs and carriage returns alone: such a line is passed over
abbrev pub is_blank : List ℕ → Bool
is_blank line = list_all (λ b. (b == 32) || (b == 9) || (b == 13)) line

-- the value that bytes are, if they are UTF-8 and the JSON text of one
abbrev pub reading : List ℕ → Option Data
reading bytes = if is_utf8 bytes then read bytes else None

-- what is read next from what was read; after a fault nothing is, and the fault stays
infixl 10 ◌>>=◌
abbrev pub ◌>>=◌ : {A B E : Type 0} → Result A E → (A → Result B E) → Result B E
(Ok x) >>= f = f x
(Err e) >>= f = Err e

-- what a function returned, seen by view, is what is read
abbrev pub Gives : {X Y E : Type 0} → (X → Y) → Result X E → Result Y E → Type 0
Gives view (Ok x) read = read ≡ Ok (view x)
Gives view (Err e) read = read ≡ Err e

-- the fault, where there is nothing
abbrev pub or_fault : {A E : Type 0} → E → Option A → Result A E
or_fault e None = Err e
or_fault e (Some x) = Ok x

-- the fault, where a text is not what was wanted
abbrev pub or_other : {A B E : Type 0} → E → Result A B → Result A E
or_other e (Ok x) = Ok x
or_other e (Err other) = Err e

-- the string under a key, or else the fault
unfoldable pub text_or : {E : Type 0} → E → List ℕ → Data → Result (List ℕ) E
text_or e key d = or_fault e (option_and_then as_str (get key d))

-- the whole number under a key, or else the fault
unfoldable pub number_or : {E : Type 0} → E → List ℕ → Data → Result ℕ E
number_or e key d = or_fault e (option_and_then as_u64 (option_and_then as_number (get key d)))

-- An object has each key once, so with as many members as keys, and each key found, it has just those keys.
unfoldable pub keys_or : {E : Type 0} → E → ℕ → Data → Result (Unit {0}) E
keys_or e count d = or_fault e (option_and_then (λ ms. if members_len ms == count then Some tt else None) (as_object d))

-- these are the name, label, path or id that a text spells, or else the fault
unfoldable pub name_or : {E : Type 0} → E → List ℕ → Result Name E
name_or e text = or_other e (read_name text)

unfoldable pub label_or : {E : Type 0} → E → List ℕ → Result Label E
label_or e text = or_other e (read_label text)

unfoldable pub path_or : {E : Type 0} → E → List ℕ → Result Path E
path_or e text = or_other e (read_path text)

unfoldable pub id_or : {E : Type 0} → E → List ℕ → Result Id E
id_or e text = or_other e (read_id text)

-- whether a size is in range
abbrev pub is_size : ℕ → ℕ → Bool
is_size memory vcores = nat_le 1 memory && nat_le memory most_memory && nat_le 1 vcores && nat_le vcores most_vcores

-- a size of so many MB and virtual cores, or else the fault
unfoldable pub size_or : {E : Type 0} → E → ℕ → ℕ → Result Resource E
size_or e memory vcores = if is_size memory vcores then Ok (amount memory vcores) else Err e

-- a number that is at most so large, or else the fault
unfoldable pub within_or : {E : Type 0} → E → ℕ → ℕ → Result ℕ E
within_or e most n = if nat_le n most then Ok n else Err e

-- an id's number is in range
abbrev pub HasClock : Id → Type 0
HasClock id = (1 ≤ id.clock) × (id.clock ≤ most_clock)
