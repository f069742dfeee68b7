use Rattle.std.proofs.Common.{◌≡◌, ◌∙◌, ℕ, List, Bool, true, false, cond, None, refl, sym, ap}
use Rattle.std.specs.Prelude.{IsUtf8}
use Rattle.std.specs.Str.{is_utf8}
use Rattle.std.proofs.lemmas.Str.{IsUtf8-from_is_utf8, is_utf8-from_IsUtf8}
use Rattle.ynl_config.specs.Places.{told_text}
use Rattle.ynl_config.specs.RowPlaces.{told_bytes}
use Rattle.ynl_config.proofs.row_places.told_bytes.Goals as goal

-- bytes that are no text are not told
untold : (bytes : List ℕ) → ¬ (IsUtf8 bytes) → None ≡ told_bytes bytes
untold bytes h = go (is_utf8 bytes) refl
  where
    go : (b : Bool) → is_utf8 bytes ≡ b → None ≡ cond b (told_text bytes) None
    go true e = absurd (h (IsUtf8-from_is_utf8 bytes e))
    go false e = refl

pub returns-in-Ok : goal.returns-in-Ok
returns-in-Ok c =
    let bytes = c.args.bytes.now in
    let utf8 : is_utf8 bytes ≡ true = is_utf8-from_IsUtf8 bytes c.in-Ok.ensures.cases.1 in
    ap told_text c.in-Ok.ensures.cases.0 ∙ sym (ap (λ b. cond b (told_text bytes) None) utf8)

pub returns-in-Err : goal.returns-in-Err
returns-in-Err c = untold c.args.bytes.now c.in-Err.ensures.cases.0
