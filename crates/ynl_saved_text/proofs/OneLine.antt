-- The text of a line is one line: no byte of it is a newline, and it is not blank.
use Rattle.std.proofs.Common.{◌≡◌, ◌≤◌, ◌<◌, ◌+◌, ◌/◌, ◌%◌, ℕ, zero, suc, Bool, true, false, ◌==◌, ◌||◌, nat_lt, List, [], ◌∷◌, ◌++◌, decimal, refl, arith}
use Rattle.std.specs.Prelude.{All, codes}
use Rattle.std.specs.List.{AllByRecursion}
use Rattle.std.specs.Char.{digit_char}
use Rattle.std.specs.Fmt.{digit_glyph, digits, digits_onto}
use Rattle.std.proofs.Math.IntN.{pos, negsuc}
use Rattle.std.proofs.lemmas.Bool.{cond_both}
use Rattle.std.proofs.lemmas.Bool.Decides.{nat_tests}
use Rattle.std.proofs.lemmas.List.Elements.{All-append, All-cons, All-from_recursion, All-nil}
use Rattle.json.specs.Print.{escape, escape_byte, escape_letter, quoted}
use Rattle.serde_json.specs.Data.{Num, unsigned, negative, float, Data, null, boolean, number, string, array, object, Items, no_items, item, Members, no_members, member}
use Rattle.serde_json.specs.Written.{number_text, comma_if, compact_text, items_text, members_text}
use Rattle.ynl_resource.proofs.Bytes.{Lacks}
use Rattle.ynl_fields.specs.Reading.{is_blank}
use Rattle.ynl_model.specs.declared.proposals.What.{What}
use Rattle.ynl_model.specs.declared.proposals.What.TheVariants.{Master, Ask as Asked}
use Rattle.ynl_model.specs.declared.containers.Placed.{Placed as Container}
use Rattle.ynl_saved.specs.declared.lines.StateLine.{StateLine}
use Rattle.ynl_saved.specs.declared.lines.StateLine.TheVariants.{Begin, Partition, Node, Live, Ask, Finished, Container as Holds, Stopped, Maximum, End}
use Rattle.ynl_saved_text.specs.StateLines.{container_by, line_data, state_line}

-- ---- what is written of a value has no control character

-- no byte is below 32, as a newline is
abbrev HasNoControls : List ℕ → Type 0
HasNoControls text = All (λ x. 32 ≤ x) text

-- one byte more in front
before : (x : ℕ) (xs : List ℕ) → 32 ≤ x → HasNoControls xs → HasNoControls (x ∷ xs)
before x xs h rest = All-cons (λ x. 32 ≤ x) x xs h rest

-- one text behind another
behind : (xs ys : List ℕ) → HasNoControls xs → HasNoControls ys → HasNoControls (xs ++ ys)
behind xs ys h k = All-append (λ x. 32 ≤ x) xs ys h k

-- some bytes, one by one
each : (xs : List ℕ) → AllByRecursion (λ x. 32 ≤ x) xs → HasNoControls xs
each xs h = All-from_recursion (λ x. 32 ≤ x) xs h

-- one byte alone
alone : (x : ℕ) → 32 ≤ x → HasNoControls (x ∷ [])
alone x h = before x [] h (All-nil (λ x. 32 ≤ x))

-- a hexadecimal digit
hexadecimal : (d : ℕ) → 32 ≤ digit_char d
hexadecimal d = cond_both (nat_lt d 10) (48 + d) (87 + d) (λ x. 32 ≤ x) (λ h. omega arith) (λ h. omega arith)

-- a quote and a backslash are their own letters
itself : (x : ℕ) → ((x == 34) || (x == 92)) ≡ true → 32 ≤ x
itself x h = grind (arith, nat_tests)

-- the letter of a short escape, where there is one
short : (x : ℕ) → 0 < escape_letter x → 32 ≤ escape_letter x
short x =
    cond_both ((x == 34) || (x == 92)) x _ IsLetter (λ h some. itself x h) (λ h.
    cond_both (x == 8) 98 _ IsLetter (λ h some. omega arith) (λ h. cond_both (x == 12) 102 _ IsLetter (λ h some. omega arith) (λ h.
    cond_both (x == 10) 110 _ IsLetter (λ h some. omega arith) (λ h. cond_both (x == 13) 114 _ IsLetter (λ h some. omega arith) (λ h.
    cond_both (x == 9) 116 0 IsLetter (λ h some. omega arith) (λ h some. omega arith))))))
  where
    IsLetter : ℕ → Type 0
    IsLetter l = 0 < l → 32 ≤ l

-- a test of a number above 0
positive : (x : ℕ) → nat_lt 0 x ≡ true → 0 < x
positive x h = grind (arith, nat_tests)

-- a test of a byte that is no control character
not_below : (x : ℕ) → nat_lt x 32 ≡ false → 32 ≤ x
not_below x h = grind (arith, nat_tests)

-- what stands in a string for a byte
escape_byte_visible : (x : ℕ) → HasNoControls (escape_byte x)
unfolding escape_byte
escape_byte_visible x =
    cond_both (nat_lt 0 (escape_letter x)) (92 ∷ escape_letter x ∷ []) _ HasNoControls
    (λ h. each (92 ∷ escape_letter x ∷ []) (omega arith, (short x (positive (escape_letter x) h), tt)))
    (λ h. cond_both (nat_lt x 32) (92 ∷ 117 ∷ 48 ∷ 48 ∷ digit_char (x / 16) ∷ digit_char (x % 16) ∷ []) (x ∷ []) HasNoControls
    (λ h. each (92 ∷ 117 ∷ 48 ∷ 48 ∷ digit_char (x / 16) ∷ digit_char (x % 16) ∷ [])
    (omega arith, (omega arith, (omega arith, (omega arith, (hexadecimal (x / 16), (hexadecimal (x % 16), tt)))))))
    (λ h. alone x (not_below x h)))

-- a string's bytes, whatever they are
escape_visible : (text : List ℕ) → HasNoControls (escape text)
escape_visible [] = All-nil (λ x. 32 ≤ x)
escape_visible (x ∷ xs) = behind (escape_byte x) (escape xs) (escape_byte_visible x) (escape_visible xs)

-- a string
quoted_visible : (text : List ℕ) → HasNoControls (quoted text)
quoted_visible text = before 34 (escape text ++ 34 ∷ []) (omega arith) (behind (escape text) (34 ∷ []) (escape_visible text) (alone 34 (omega arith)))

-- a digit
glyph : (d : ℕ) → 32 ≤ digit_glyph false d
glyph d = cond_both (nat_lt d 10) (48 + d) (87 + d) (λ x. 32 ≤ x) (λ h. omega arith) (λ h. omega arith)

-- digits in front of what has no control character
onto_visible : (k n : ℕ) (behind : List ℕ) → HasNoControls behind → HasNoControls (digits_onto k 10 false n behind)
onto_visible zero n more h = h
onto_visible (suc k) n more h =
    let next = before (digit_glyph false (n % 10)) more (glyph (n % 10)) h in
    cond_both (n / 10 == 0) (digit_glyph false (n % 10) ∷ more) _ HasNoControls (λ e. next) (λ e. onto_visible k (n / 10) (digit_glyph false (n % 10) ∷ more) next)

-- the digits of a number
decimal_visible : (n : ℕ) → HasNoControls (decimal n)
unfolding digits
decimal_visible n = onto_visible 64 n [] (All-nil (λ x. 32 ≤ x))

-- a number
number_visible : (n : Num) → HasNoControls (number_text n)
number_visible (unsigned n) = decimal_visible n
number_visible (negative (pos n)) = decimal_visible n
number_visible (negative (negsuc n)) = before 45 (decimal (suc n)) (omega arith) (decimal_visible (suc n))
number_visible (float x) = All-nil (λ x. 32 ≤ x)

-- a comma, or nothing
comma_visible : (later : Bool) → HasNoControls (comma_if later)
comma_visible true = alone 44 (omega arith)
comma_visible false = All-nil (λ x. 32 ≤ x)

mutual
  -- a value
  text_visible : (d : Data) → HasNoControls (compact_text d)
  text_visible null = each (codes "null") (omega arith, (omega arith, (omega arith, (omega arith, tt))))
  text_visible (boolean true) = each (codes "true") (omega arith, (omega arith, (omega arith, (omega arith, tt))))
  text_visible (boolean false) = each (codes "false") (omega arith, (omega arith, (omega arith, (omega arith, (omega arith, tt)))))
  text_visible (number n) = number_visible n
  text_visible (string s) = quoted_visible s
  text_visible (array ds) = before 91 (items_text false ds) (omega arith) (items_visible false ds)
  text_visible (object ms) = before 123 (members_text false ms) (omega arith) (members_visible false ms)

  -- the items of an array
  items_visible : (later : Bool) (ds : Items) → HasNoControls (items_text later ds)
  items_visible later no_items = alone 93 (omega arith)
  items_visible later (item d ds) =
      behind (comma_if later) (compact_text d ++ items_text true ds) (comma_visible later) (behind (compact_text d) (items_text true ds) (text_visible d) (items_visible true ds))

  -- the members of an object
  members_visible : (later : Bool) (ms : Members) → HasNoControls (members_text later ms)
  members_visible later no_members = alone 125 (omega arith)
  members_visible later (member k d ms) =
      let rest = compact_text d ++ members_text true ms in
      behind (comma_if later) (quoted k ++ 58 ∷ rest) (comma_visible later) (behind (quoted k) (58 ∷ rest) (quoted_visible k) (before 58 rest (omega arith)
      (behind (compact_text d) (members_text true ms) (text_visible d) (members_visible true ms))))

-- ---- lines

-- no byte of the text of a line is a newline
pub line-lacks : (line : StateLine) → Lacks 10 (state_line line)
line-lacks line i below same = let visible = text_visible (line_data line) i 0 below in omega (arith, visible, same)

-- the text of a container is not blank, whatever it is for
container-not-blank : (w : What) (p : Container) → is_blank (compact_text (container_by w p)) ≡ false
container-not-blank Master p = refl
container-not-blank (Asked label priority) p = refl

-- the text of a line is not blank: it begins with `{`
pub line-not-blank : (line : StateLine) → is_blank (state_line line) ≡ false
line-not-blank (Holds p) = container-not-blank p.what p
line-not-blank Begin = refl
line-not-blank (Partition label clock) = refl
line-not-blank (Node n) = refl
line-not-blank (Live queue app user label master) = refl
line-not-blank (Ask tenant app ask) = refl
line-not-blank (Finished queue app) = refl
line-not-blank (Stopped queue) = refl
line-not-blank (Maximum queue label maximum) = refl
line-not-blank (End lines) = refl
