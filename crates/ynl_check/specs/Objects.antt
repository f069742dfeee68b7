-- Lines that are JSON objects in the compact form; a member may be missing.
use Rattle.std.specs.Prelude.{ℕ, List, [], ◌∷◌, ◌++◌, Bool, Option, Some, None, decimal, if◌then◌else◌}
use Rattle.std.specs.List.{flat_map}
use Rattle.std.specs.Fmt.{signed_decimal}
use Rattle.json.specs.Token.{Token, begin_object, end_object, key, string, number}
use Rattle.json.specs.Print.{print}
use Rattle.ynl_check.specs.declared.objects.Content.{Content}
use Rattle.ynl_check.specs.declared.objects.Content.TheVariants.{Text, Number, Integer}

-- a key, and what stands under it, if anything does
abbrev pub Member : Type 0
Member = List ℕ × Option Token

-- a whole number
unfoldable pub count : ℕ → Token
count n = number (decimal n)

-- what stands under a key, if the condition holds
abbrev pub only : Bool → Option Token → Option Token
only there value = if there then value else None

-- the tokens of a member
abbrev pub member_by : List ℕ → Option Token → List Token
member_by name None = []
member_by name (Some value) = key name ∷ value ∷ []

-- the line of an object with these tokens between its braces
unfoldable pub braced : List Token → List ℕ
braced tokens = print (begin_object ∷ (tokens ++ end_object ∷ [])) ++ 10 ∷ []

-- the tokens of members, one after another
abbrev pub tokens_in : List Member → List Token
tokens_in members = flat_map (λ m. member_by m.0 m.1) members

-- the line of an object of these members
abbrev pub object_line : List Member → List ℕ
object_line members = braced (tokens_in members)

-- a value as it is kept
abbrev pub token_of : Content → Token
token_of (Text s) = string s.now
token_of (Number n) = count n
token_of (Integer z) = number (signed_decimal z)
