use Rattle.std.proofs.Common.{◌≡◌, ℕ, List, subst, sym, Some, None, Result, Ok, Err}
use Rattle.std.specs.Prelude.{IsUtf8, IfOk, IfErr, option_map}
use Rattle.serde_json.specs.Errors.{IsMemory}
use Rattle.serde_json.specs.Read.{read}
use Rattle.serde_json.specs.View.{view}
use Rattle.ynl_resource.proofs.ReadBytes.{read_found}
use Rattle.ynl_fields.specs.Reading.{reading}
use Rattle.ynl_fields.proofs.Treed.{no_text}
use Rattle.ynl_fields.proofs.values.parse.Goals as goal

-- what holds of a text holds of bytes that are one
ok_of_text : {V E : Type 0} (P : V → Type 0) (bytes : List ℕ) (r : Result V E) → IsUtf8 bytes → IfOk r P → IfOk r (λ v. IsUtf8 bytes × P v)
ok_of_text P bytes (Ok v) utf8 h = (utf8, h)
ok_of_text P bytes (Err e) utf8 h = tt

err_of_text : {V E : Type 0} (M : E → Type 0) (N : Type 0) (bytes : List ℕ) (r : Result V E) → IfErr r (λ e. ¬ M e → N) → IfErr r (λ e. ¬ M e → IsUtf8 bytes → N)
err_of_text M N bytes (Ok v) h = tt
err_of_text M N bytes (Err e) h = λ other utf8. h other

pub returns-in-Ok-clause-value : goal.returns-in-Ok-clause-value
returns-in-Ok-clause-value c =
    let text = c.in-Ok.text.now in
    let ok = ok_of_text (λ v. read text ≡ Some (view v)) text c.from_str.result (subst IsUtf8 (sym c.in-Ok.ensures.cases.0) c.in-Ok.ensures.cases.1) c.from_str.ensures.ok in
    let err = err_of_text IsMemory (read text ≡ None) text c.from_str.result c.from_str.ensures.err in
    let found = read_found read view IsMemory text c.from_str.result c.found.result ok err c.found.ensures.value c.found.ensures.none c.found.ensures.memory in
    subst (λ bytes. IfOk c.found.result (λ found. option_map view found ≡ reading bytes)) c.in-Ok.ensures.cases.0 found

pub returns-in-Err-clause-value : goal.returns-in-Err-clause-value
returns-in-Err-clause-value c = sym (no_text c.args.bytes.now c.in-Err.ensures.cases.0)
