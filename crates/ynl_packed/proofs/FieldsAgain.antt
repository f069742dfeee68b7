-- A field that was kept is read again, whatever stands behind it.
use Rattle.std.proofs.Common.{◌≡◌, ℕ, ◌^◌, ◌<◌, Bool, true, false, ltb, List, [], ◌∷◌, ◌++◌, length, Option, Some, refl, ap, ◌∙◌, append_assoc, arith}
use Rattle.std.proofs.lemmas.Bool.{le-ltb}
use Rattle.std.proofs.lemmas.Bool.Decides.{nat_tests}
use Rattle.std.proofs.lemmas.List.{take_at, drop_at, length-append}
use Rattle.std.proofs.lemmas.Nat.{from_be_bytes-to_be_bytes_4, from_be_bytes-to_be_bytes_8}
use Rattle.std.proofs.lemmas.Str.{is_utf8-from_IsUtf8, IsUtf8-from_is_utf8}
use Rattle.std.specs.Int.{w32, w64, from_be_bytes, to_be_bytes}
use Rattle.std.specs.Str.{IsUtf8, is_utf8}
use Rattle.ynl_resource.specs.Amounts.{IsSize}
use Rattle.ynl_resource.specs.declared.amounts.Resource.{Resource}
use Rattle.ynl_resource.specs.declared.names.Name.{Name}
use Rattle.ynl_resource.specs.declared.labels.Label.{Label}
use Rattle.ynl_resource.specs.declared.labels.Label.TheVariants.{Unlabelled, Named}
use Rattle.ynl_resource.specs.declared.paths.Path.{Path}
use Rattle.ynl_resource.specs.declared.ids.Id.{Id}
use Rattle.ynl_resource.specs.Texts.{path_text}
use Rattle.ynl_model.specs.declared.proposals.What.{What}
use Rattle.ynl_model.specs.declared.proposals.What.TheVariants.{Master, Ask as Asked}
use Rattle.ynl_model.specs.declared.proposals.Proposal.{Proposal}
use Rattle.ynl_packed.specs.Fits.{FitsName, FitsLabel, FitsLong, FitsPath, FitsId, FitsWhat, FitsProposal}
use Rattle.ynl_packed.specs.Spelling.{small_bytes, number_bytes, text_bytes, label_bytes, long_bytes, path_bytes, size_bytes, amount_bytes, id_bytes, what_bytes, proposal_bytes}
use Rattle.ynl_packed.specs.Reading.{◌>>=◌, front_at, small_at, number_at, text_of, text_at, name_at, label_at, long_at, path_at, size_of, size_at, amount_at, id_at, kind_at, kind_at, kind_at, kind_at, kind_at, what_at, proposal_at}

-- the last field of some, and then what is made of it
pub last : {A B : Type 0} (at : List ℕ → Option (A × List ℕ)) (f : A × List ℕ → Option B) (a rest : List ℕ) (x : A) (y : Option B) → at (a ++ rest) ≡ Some (x, rest) → f (x, rest) ≡ y → (at (a ++ rest) >>= f) ≡ y
last at f a rest x y read e = ap (λ r. r >>= f) read ∙ e

front_again : (n : ℕ) (front rest : List ℕ) → length front ≡ n → front_at n (front ++ rest) ≡ Some (front, rest)
unfolding front_at
front_again n front rest len =
    let long : ltb (length (front ++ rest)) n ≡ false = le-ltb _ _ (omega (arith, length-append front rest, len)) in
    rw (long, take_at front rest n len, drop_at front rest n len) refl

pub small_again : (n : ℕ) (rest : List ℕ) → n < 2 ^ 32 → small_at (small_bytes n ++ rest) ≡ Some (n, rest)
unfolding small_at small_bytes
small_again n rest lt =
    last (front_at 4) (λ front. Some (from_be_bytes w32 front.0, front.1)) (to_be_bytes w32 n) rest (to_be_bytes w32 n) (Some (n, rest))
    (front_again 4 (to_be_bytes w32 n) rest refl) (ap (λ (k : ℕ). Some (k, rest)) (from_be_bytes-to_be_bytes_4 n lt))

pub number_again : (n : ℕ) (rest : List ℕ) → n < 2 ^ 64 → number_at (number_bytes n ++ rest) ≡ Some (n, rest)
unfolding number_at number_bytes
number_again n rest lt =
    last (front_at 8) (λ front. Some (from_be_bytes w64 front.0, front.1)) (to_be_bytes w64 n) rest (to_be_bytes w64 n) (Some (n, rest))
    (front_again 8 (to_be_bytes w64 n) rest refl) (ap (λ (k : ℕ). Some (k, rest)) (from_be_bytes-to_be_bytes_8 n lt))

pub utf8_yes : (text : List ℕ) → IsUtf8 text → is_utf8 text ≡ true
utf8_yes = is_utf8-from_IsUtf8

is_false : (b : Bool) → (b ≡ true → ⊥) → b ≡ false
is_false true h = absurd (h refl)
is_false false h = refl

pub utf8_no : (text : List ℕ) → ¬ (IsUtf8 text) → is_utf8 text ≡ false
utf8_no text bad = is_false (is_utf8 text) (λ ok. bad (IsUtf8-from_is_utf8 text ok))

text_of_again : (text rest : List ℕ) → IsUtf8 text → text_of (length text) (text ++ rest) ≡ Some (text, rest)
unfolding text_of
text_of_again text rest utf8 = rw (front_again (length text) text rest refl, is_utf8-from_IsUtf8 text utf8) refl

pub text_again : (text rest : List ℕ) → IsUtf8 text → text_at (text_bytes text ++ rest) ≡ Some (text, rest)
unfolding text_at kind_at text_bytes
text_again text rest utf8 = text_of_again text rest utf8

pub name_again : (name : Name) (rest : List ℕ) → FitsName name → name_at (text_bytes name ++ rest) ≡ Some (name, rest)
unfolding name_at
name_again name rest fits = rw (text_again name rest fits.utf8, fits.reads) refl

pub label_again : (label : Label) (rest : List ℕ) → FitsLabel label → label_at (label_bytes label ++ rest) ≡ Some (label, rest)
unfolding label_at text_bytes
label_again Unlabelled rest fits = refl
label_again (Named []) rest fits = absurd (omega (arith, fits.some))
label_again (Named (c ∷ cs)) rest fits = ap (λ r. r >>= λ name. Some (Named name.0, name.1)) (name_again (c ∷ cs) rest fits)

pub long_again : (text rest : List ℕ) → FitsLong text → long_at (long_bytes text ++ rest) ≡ Some (text, rest)
unfolding long_at long_bytes
long_again text rest fits =
    rw (append_assoc (number_bytes (length text)) text rest, number_again (length text) (text ++ rest) fits.len, text_of_again text rest fits.utf8) refl

pub path_again : (path : Path) (rest : List ℕ) → FitsPath path → path_at (path_bytes path ++ rest) ≡ Some (path, rest)
unfolding path_at
path_again path rest fits = rw (long_again (path_text path) rest fits.text, fits.reads) refl

size_fits : (size : Resource) → IsSize size → size_of size.memory size.vcores ≡ Some size
size_fits size fits = grind (arith, nat_tests, fits.some_memory, fits.memory, fits.some_vcores, fits.vcores)

pub size_again : (size : Resource) (rest : List ℕ) → IsSize size → size_at (size_bytes size ++ rest) ≡ Some (size, rest)
unfolding size_at size_bytes
size_again size rest fits =
    rw (
      append_assoc (small_bytes size.memory) (small_bytes size.vcores) rest,
      small_again size.memory (small_bytes size.vcores ++ rest) fits.memory,
      small_again size.vcores rest (omega (arith, fits.vcores)),
      size_fits size fits,
    ) refl

pub amount_again : (amount : Resource) (rest : List ℕ) → amount.memory < 2 ^ 64 → amount.vcores < 2 ^ 64 → amount_at (amount_bytes amount ++ rest) ≡ Some (amount, rest)
unfolding amount_at amount_bytes
amount_again amount rest memory vcores =
    rw (
      append_assoc (number_bytes amount.memory) (number_bytes amount.vcores) rest,
      number_again amount.memory (number_bytes amount.vcores ++ rest) memory,
      number_again amount.vcores rest vcores,
    ) refl

pub id_again : (id : Id) (rest : List ℕ) → FitsId id → id_at (id_bytes id ++ rest) ≡ Some (id, rest)
unfolding id_at id_bytes
id_again id rest fits =
    rw (
      append_assoc (label_bytes id.label) (number_bytes id.clock) rest,
      label_again id.label (number_bytes id.clock ++ rest) fits.label,
      number_again id.clock rest fits.clock,
    ) refl

pub what_again : (what : What) (rest : List ℕ) → FitsWhat what → what_at (what_bytes what ++ rest) ≡ Some (what, rest)
unfolding what_at kind_at
what_again Master rest fits = refl
what_again (Asked label priority) rest fits =
    rw (
      append_assoc (label_bytes label) (small_bytes priority) rest,
      label_again label (small_bytes priority ++ rest) fits.0,
      small_again priority rest fits.1,
    ) refl

pub proposal_again : (p : Proposal) (rest : List ℕ) → FitsProposal p → proposal_at (proposal_bytes p ++ rest) ≡ Some (p, rest)
unfolding proposal_at proposal_bytes
proposal_again p rest fits =
    rw (
      append_assoc (text_bytes p.node ++ number_bytes p.stamp ++ text_bytes p.tenant ++ text_bytes p.app ++ what_bytes p.what) (size_bytes p.size) rest,
      append_assoc (text_bytes p.node ++ number_bytes p.stamp ++ text_bytes p.tenant ++ text_bytes p.app) (what_bytes p.what) (size_bytes p.size ++ rest),
      append_assoc (text_bytes p.node ++ number_bytes p.stamp ++ text_bytes p.tenant) (text_bytes p.app) (what_bytes p.what ++ (size_bytes p.size ++ rest)),
      append_assoc (text_bytes p.node ++ number_bytes p.stamp) (text_bytes p.tenant) (text_bytes p.app ++ (what_bytes p.what ++ (size_bytes p.size ++ rest))),
      append_assoc (text_bytes p.node) (number_bytes p.stamp) (text_bytes p.tenant ++ (text_bytes p.app ++ (what_bytes p.what ++ (size_bytes p.size ++ rest)))),
      name_again p.node (number_bytes p.stamp ++ (text_bytes p.tenant ++ (text_bytes p.app ++ (what_bytes p.what ++ (size_bytes p.size ++ rest))))) fits.node,
      number_again p.stamp (text_bytes p.tenant ++ (text_bytes p.app ++ (what_bytes p.what ++ (size_bytes p.size ++ rest)))) fits.stamp,
      name_again p.tenant (text_bytes p.app ++ (what_bytes p.what ++ (size_bytes p.size ++ rest))) fits.tenant,
      name_again p.app (what_bytes p.what ++ (size_bytes p.size ++ rest)) fits.app,
      what_again p.what (size_bytes p.size ++ rest) fits.what,
      size_again p.size rest fits.size,
    ) refl
