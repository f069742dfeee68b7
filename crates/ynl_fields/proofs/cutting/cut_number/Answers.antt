use Rattle.std.proofs.Common.{◌≡◌, ◌++◌, ◌-◌, length, take, drop, decimal, length-drop, arith, ap, ap₂, refl, sym, ◌∙◌}
use Rattle.std.proofs.lemmas.List.{take-append-drop, take_all}
use Rattle.ynl_fields.proofs.Escapes.{digits_back}
use Rattle.ynl_fields.proofs.cutting.cut_number.Goals as goal

pub returns-clause-cut : goal.returns-clause-cut
returns-clause-cut c =
    let digits = c.in-Some.digits.now in
    let found = c.in-Some-digits_in in
    let written = c.if-not-are_written.ensures.0 refl in
    let back : decimal found.number ≡ take found.count digits = digits_back (take found.count digits) found.number found.ensures.digits found.ensures.value written.0 written.1 found.ensures.fits in
    let rest : take (length digits - found.count) (drop found.count digits) ≡ drop found.count digits = take_all _ _ (omega (arith, length-drop found.count digits)) in
    c.in-Some.ensures ∙ ap (λ t. c.args.front.now ++ t) (sym (take-append-drop found.count digits) ∙ ap₂ (λ a b. a ++ b) (sym back) (sym rest))
