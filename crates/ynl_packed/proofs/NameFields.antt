-- A name that was kept is read with no test that its bytes are UTF-8: no other bytes are a name.
use Rattle.std.proofs.Common.{◌≡◌, ℕ, Bool, true, false, cond, List, Option, Some, None, Result, Ok, Err, refl, sym, ◌∙◌}
use Rattle.std.proofs.lemmas.Bool.{true≢false}
use Rattle.std.specs.Str.{is_utf8}
use Rattle.ynl_resource.specs.declared.names.BadName.{BadName}
use Rattle.ynl_resource.specs.declared.names.Name.{Name}
use Rattle.ynl_resource.specs.Texts.{read_name}
use Rattle.ynl_resource.proofs.Ascii.{utf8_name}
use Rattle.ynl_resource.proofs.IdTexts.{name_read}
use Rattle.ynl_packed.specs.Reading.{◌>>=◌, if_ok, kind_at, front_at, text_of, text_at, name_at}
use Rattle.ynl_packed.proofs.FieldsAgain.{utf8_yes}

unread : (front : List ℕ) (r : Result Name BadName) → read_name front ≡ r → is_utf8 front ≡ false → if_ok r ≡ None
unread front (Ok name) read bad = absurd (true≢false (sym (utf8_yes front (utf8_name front (name_read front name read).1)) ∙ bad))
unread front (Err e) read bad = refl

-- the name that a text is, and what stands behind the text
abbrev named : List ℕ × List ℕ → Option (Name × List ℕ)
named text = if_ok (read_name text.0) >>= λ name. Some (name, text.1)

untested : (b : Bool) (p : List ℕ × List ℕ) → (b ≡ false → if_ok (read_name p.0) ≡ None) → (cond b (Some p) None >>= named) ≡ named p
untested true p none = refl
untested false p none = rw (none refl) refl

-- the name is that of the bytes that its length takes
name_of_front : (bytes : List ℕ) (len : ℕ) (rest front behind : List ℕ) → kind_at bytes ≡ Some (len, rest) → front_at len rest ≡ Some (front, behind) →
    name_at bytes ≡ named (front, behind)
unfolding name_at text_at text_of
name_of_front bytes len rest front behind kind taken = rw (kind, taken) (untested (is_utf8 front) (front, behind) (unread front (read_name front) refl))

pub name_found : (bytes : List ℕ) (len : ℕ) (rest front behind : List ℕ) (name : Name) → kind_at bytes ≡ Some (len, rest) → front_at len rest ≡ Some (front, behind) →
    read_name front ≡ Ok name → name_at bytes ≡ Some (name, behind)
name_found bytes len rest front behind name kind taken read = name_of_front bytes len rest front behind kind taken ∙ rw read refl

pub name_other : (bytes : List ℕ) (len : ℕ) (rest front behind : List ℕ) (e : BadName) → kind_at bytes ≡ Some (len, rest) → front_at len rest ≡ Some (front, behind) →
    read_name front ≡ Err e → name_at bytes ≡ None
name_other bytes len rest front behind e kind taken read = name_of_front bytes len rest front behind kind taken ∙ rw read refl

pub no_kind : (bytes : List ℕ) → kind_at bytes ≡ None → name_at bytes ≡ None
unfolding name_at text_at
no_kind bytes kind = rw kind refl

pub no_front : (bytes : List ℕ) (len : ℕ) (rest : List ℕ) → kind_at bytes ≡ Some (len, rest) → front_at len rest ≡ None → name_at bytes ≡ None
unfolding name_at text_at text_of
no_front bytes len rest kind taken = rw (kind, taken) refl
