-- Texts for a reader, put together from pieces.
use Rattle.std.specs.Prelude.{ℕ, ◌-◌, ◌/◌, ◌%◌, ◌==◌, List, [], ◌∷◌, ◌++◌, length, replicate, decimal, Option, Some, None, option_map, codes, if◌then◌else◌}
use Rattle.json.specs.Print.{token_text}
use Rattle.ynl_config.specs.Places.{Shown, of_text, of_integer, told_of}
use Rattle.ynl_check.specs.Faults.{shown_token}
use Rattle.ynl_check.specs.declared.pieces.Piece.{Piece}
use Rattle.ynl_check.specs.declared.pieces.Piece.TheVariants.{Word, Filled, Blanks, Millionths, Percent, Number, Told, Plain}

-- a text with blanks behind it, up to so many bytes
abbrev pub filled : ℕ → List ℕ → List ℕ
filled width text = text ++ replicate (width - length text) 32

-- the digits of a number with others before them, up to so many
abbrev pub led : ℕ → ℕ → ℕ → List ℕ
led width digit n = replicate (width - length (decimal n)) digit ++ decimal n

-- millionths of the whole as a percentage with four places
abbrev pub millionths : ℕ → List ℕ
millionths n = led 3 32 (n / 10000) ++ (46 ∷ (led 4 48 (n % 10000) ++ codes " %"))

-- the places of hundredths that are no whole percentage
abbrev pub places : ℕ → List ℕ
places n = if n % 100 == 0 then [] else 46 ∷ led 2 48 (n % 100)

-- hundredths of a percent as a percentage
abbrev pub percent : ℕ → List ℕ
percent n = decimal (n / 100) ++ (places n ++ codes " %")

-- what is told, or two dots where nothing is
abbrev pub or_dots : {X : Type 0} → (X → List ℕ) → Option X → List ℕ
or_dots text None = codes ".."
or_dots text (Some x) = text x

-- a value in the form of JSON
abbrev pub quoted : Shown → List ℕ
quoted value = token_text (shown_token value)

-- the name of a queue or of a partition, as it is
abbrev pub plain : Shown → List ℕ
plain (of_text []) = codes "DEFAULT"
plain (of_text (b ∷ bs)) = b ∷ bs
plain (of_integer z) = quoted (of_integer z)

-- the text of a piece
abbrev pub piece_text : Piece → List ℕ
piece_text (Word text) = text.now
piece_text (Filled width text) = filled width text.now
piece_text (Blanks n) = replicate n 32
piece_text (Millionths n) = millionths n
piece_text (Percent n) = or_dots percent n
piece_text (Number n) = or_dots decimal n
piece_text (Told value) = or_dots quoted (option_map told_of value.now)
piece_text (Plain value) = or_dots plain (option_map told_of value.now)
