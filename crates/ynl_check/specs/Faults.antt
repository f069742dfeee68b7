-- What is said of a text that is no configuration: the word of its fault, and the first place of it.
use Rattle.std.specs.Prelude.{ℕ, List, [], ◌∷◌, Some, option_map, codes}
use Rattle.std.specs.Fmt.{signed_decimal}
use Rattle.json.specs.Token.{Token, string, number}
use Rattle.ynl_config.specs.declared.faults.ConfigFault.{ConfigFault}
use Rattle.ynl_config.specs.Earliest.{fault_word}
use Rattle.ynl_config.specs.declared.places.RowKind.{RowKind}
use Rattle.ynl_config.specs.Places.{Shown, of_text, of_integer, Place, row_word}
use Rattle.ynl_check.specs.Objects.{count, object_line}

-- what is told of a value
abbrev pub shown_token : Shown → Token
shown_token (of_text s) = string s
shown_token (of_integer z) = number (signed_decimal z)

-- what is told of the rows to which a place belongs
abbrev pub kind_token : RowKind → Token
kind_token kind = string (row_word kind)

-- the line of a fault at a place
unfoldable pub fault_line : ConfigFault → Place → List ℕ
fault_line fault p = object_line (
    (codes "capacity", option_map count p.capacity)
    ∷ (codes "check", Some (string (fault_word fault)))
    ∷ (codes "key", option_map shown_token p.key)
    ∷ (codes "label", option_map shown_token p.label)
    ∷ (codes "line", option_map count p.line)
    ∷ (codes "maximum", option_map count p.maximum)
    ∷ (codes "queue", option_map shown_token p.queue)
    ∷ (codes "row", option_map count p.row)
    ∷ (codes "sum", option_map count p.sum)
    ∷ (codes "table", option_map kind_token p.table)
    ∷ (codes "value", option_map shown_token p.value) ∷ [])
