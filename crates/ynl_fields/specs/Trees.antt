-- What stands under the keys of a line, whether it is read as a tree over the line's text or as a value with memory of its own.
use Rattle.std.specs.Prelude.{ℕ, List, Bool, true, false, ◌&&◌, is_none, Option, Some, None}
use Rattle.json.specs.Json as json
use Rattle.json.specs.Find.{get_member}
use Rattle.json.specs.Value.{value_view}
use Rattle.serde_json.specs.Data.{Data, Num, null, unsigned, negative, float}
use Rattle.serde_json.specs.Read.{number_of, of_json}
use Rattle.serde_json.specs.View.{view}
use Rattle.ynl_fields.specs.declared.fields.Stands.{Stands}
use Rattle.ynl_fields.specs.declared.fields.Stands.TheVariants.{Tree, Value}

abbrev pub is_unsigned : Option Num → Bool
is_unsigned None = false
is_unsigned (Some (unsigned n)) = true
is_unsigned (Some (negative z)) = false
is_unsigned (Some (float x)) = false

-- whether a number's text is a whole number that has 64 bits
abbrev pub is_whole : List ℕ → Bool
is_whole s = is_unsigned (number_of s)

-- whether no two members have one key
abbrev pub are_distinct : json.Members → Bool
are_distinct json.no_members = true
are_distinct (json.member k j ms) = is_none (get_member k ms) && are_distinct ms

-- whether it is a text, a whole number, or an object of such values with no key twice
abbrev mutual
  pub is_plain : json.Json → Bool
  is_plain json.null = false
  is_plain (json.boolean b) = false
  is_plain (json.number s) = is_whole s
  is_plain (json.string s) = true
  is_plain (json.array js) = false
  is_plain (json.object ms) = are_plain ms && are_distinct ms

  pub are_plain : json.Members → Bool
  are_plain json.no_members = true
  are_plain (json.member k j ms) = is_plain j && are_plain ms

abbrev pub or_null : Option Data → Data
or_null None = null
or_null (Some d) = d

-- what a tree is read as
abbrev pub data_of : json.Json → Data
data_of j = or_null (of_json j)

-- and what stands in either form
abbrev pub data_at : Stands → Data
data_at (Tree tree) = data_of (value_view tree.now)
data_at (Value value) = view value.now

-- a tree is plain
abbrev pub is_plain_at : Stands → Bool
is_plain_at (Tree tree) = is_plain (value_view tree.now)
is_plain_at (Value value) = true
