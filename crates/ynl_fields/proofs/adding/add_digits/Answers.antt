use Rattle.std.proofs.Common.{◌+◌, ◌++◌, ◌<◌, decimal, length, vec_len, vec_capacity, ap, sym, subst, ◌∙◌}
use Rattle.std.proofs.lemmas.Fmt.{decimal_digit}
use Rattle.std.proofs.lemmas.Result.{on_err_weaker, on_ok_weaker}
use Rattle.ynl_fields.proofs.adding.add_digits.Goals as goal

-- a digit is one byte
pub returns-then-number-lt10-clause-added : goal.returns-then-number-lt10-clause-added
returns-then-number-lt10-clause-added c =
    let digit = decimal_digit c.args.number c.if-number-lt10.true in
    on_ok_weaker c.add.result (λ e. e ∙ ap (λ d. c.args.text.now.items ++ d) (sym digit)) c.add.ensures.added

pub returns-then-number-lt10-clause-len : goal.returns-then-number-lt10-clause-len
returns-then-number-lt10-clause-len c =
    let digit = decimal_digit c.args.number c.if-number-lt10.true in
    on_ok_weaker c.add.result (λ e. e ∙ ap (λ d. vec_len c.args.text.now + length d) (sym digit)) c.add.ensures.len

pub returns-then-number-lt10-clause-full : goal.returns-then-number-lt10-clause-full
returns-then-number-lt10-clause-full c =
    let digit = decimal_digit c.args.number c.if-number-lt10.true in
    on_err_weaker c.add.result (λ e. subst (λ d. vec_capacity c.args.text.now < vec_len c.args.text.now + length d) (sym digit) e) c.add.ensures.full
