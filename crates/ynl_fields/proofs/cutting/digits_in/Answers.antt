use Rattle.std.proofs.Common.{◌≡◌, ◌<◌, ◌&&◌, length, get_or, true, arith, ap₂, sym, ◌∙◌}
use Rattle.std.proofs.lemmas.List.Folds.{list_all_more}
use Rattle.std.specs.Char.{is_ascii_digit}
use Rattle.ynl_fields.proofs.Escapes.{digits_more}
use Rattle.ynl_fields.proofs.cutting.digits_in.Goals as goal

pub loop-i-preserved : goal.loop-i-preserved
loop-i-preserved c =
    let bytes = c.args.bytes.now in
    let i = c.loop-i.i in
    let inside : i < length bytes = omega arith in
    let digit : is_ascii_digit (get_or bytes i 0) ≡ true = sym c.if-not-is_ascii_digit.ensures.value in
    record {
      digits = list_all_more is_ascii_digit bytes i 0 inside ∙ ap₂ (λ a b. a && b) c.loop-i.invariant.digits digit;
      value = digits_more bytes i c.loop-i.number c.from.result inside digit c.loop-i.invariant.value c.from.ensures;
    }
