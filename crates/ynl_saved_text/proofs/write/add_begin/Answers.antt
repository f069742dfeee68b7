use Rattle.std.proofs.Common.{codes, ◌++◌, ap, sym, subst, ◌∙◌, arith}
use Rattle.std.proofs.lemmas.Fmt.{decimal_digit}
use Rattle.std.proofs.lemmas.Result.{on_err_weaker, on_ok_weaker}
use Rattle.json.specs.Print.{escape_byte}
use Rattle.ynl_fields.proofs.Pieces.{Lacks}
use Rattle.ynl_saved_text.proofs.write.add_begin.Goals as goal

pub returns-clause-added : goal.returns-clause-added
unfolding escape_byte
returns-clause-added c =
    on_ok_weaker c.add.result
    (λ e. e ∙ ap (λ digits. c.args.text.now.items ++ (codes "{\"state\":\"begin\",\"version\":" ++ (digits ++ codes "}"))) (sym (decimal_digit 1 (omega arith))))
    c.add.ensures.added

pub returns-clause-full : goal.returns-clause-full
unfolding escape_byte
returns-clause-full c =
    on_err_weaker c.add.result
    (λ e. subst (λ digits. Lacks c.args.text.now (codes "{\"state\":\"begin\",\"version\":" ++ (digits ++ codes "}"))) (sym (decimal_digit 1 (omega arith))) e)
    c.add.ensures.full
