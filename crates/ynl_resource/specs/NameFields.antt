-- A name in its place of 64 bytes.
use Rattle.std.specs.Prelude.{◌≡◌, ℕ, List, take, length, IsTrue}
use Rattle.ynl_resource.specs.declared.names.Name.TheInside.{Inside}
use Rattle.ynl_resource.specs.Padded.{padded, IsPadded, padded-take, length-kept}
use Rattle.ynl_resource.specs.NameText.{is_name}

-- the text that stands in the place
abbrev pub text_of : Inside → List ℕ
text_of n = take n.len n.bytes

-- the place with a text in it
abbrev pub fields_of : List ℕ → Inside
fields_of text = record { bytes = padded 64 0 text; len = length text }

-- the bytes are a name, and zeros after it
pub record IsNamed (n : Inside) : Type 0 where
  pub padded : IsPadded 64 0 n.bytes n.len
  pub name : IsTrue (is_name (take n.len n.bytes))

-- the text of a place gives the place back
pub fields_back : (n : Inside) → IsNamed n → fields_of (text_of n) ≡ n
fields_back n p = λ i. record { bytes = padded-take 64 0 n.bytes n.len p.padded i; len = length-kept 64 0 n.bytes n.len p.padded i }
