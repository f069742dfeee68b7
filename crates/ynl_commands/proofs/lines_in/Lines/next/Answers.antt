use Rattle.std.proofs.Common.{◌≡◌, ◌+◌, ◌<◌, length, Ok, refl, ap, sym, subst, ◌∙◌, arith}
use Rattle.std.specs.Prelude.{vec_items}
use Rattle.ynl_commands.specs.Lines.{GivesLine}
use Rattle.ynl_commands.proofs.Inputs.{takes_newline, takes_last, takes_too_long}
use Rattle.ynl_commands.proofs.lines_in.Lines.next.Goals as goal

pub returns-in-Newline-clause-next : goal.returns-in-Newline-clause-next
returns-in-Newline-clause-next g c =
    let a = g.R.Read.remaining c.args.reader.now in
    let b = g.R.Read.remaining c.read_line.new.reader in
    let line = c.read_line.new.line.items in
    let new = c.count_line.new.self in
    let counted = c.count_line.ensures in
    let same : line ≡ new.line.items = ap vec_items (sym counted.line) in
    let gave = subst (GivesLine a b line c.args.self.now.budget) (c.in_ok-read_line.was ∙ ap Ok c.in-Newline.is) c.read_line.ensures in
    let used : (length new.line.items + 1) + new.budget ≡ c.args.self.now.budget = ap (λ l. (length l + 1) + new.budget) (sym same) ∙ ap (λ n. (n + 1) + new.budget) (sym c.length-bytes.ensures) ∙ counted.budget in
    takes_newline a b c.args.self.now new c.if-self.false (subst (λ l. GivesLine a b l c.args.self.now.budget _) same gave) used counted.count (counted.at_end ∙ c.if-self.false)

pub returns-else-bytes-eq0-clause-next : goal.returns-else-bytes-eq0-clause-next
returns-else-bytes-eq0-clause-next g c =
    let a = g.R.Read.remaining c.args.reader.now in
    let b = g.R.Read.remaining c.read_line.new.reader in
    let line = c.read_line.new.line.items in
    let new = c.count_line-in-Input.new.self in
    let counted = c.count_line-in-Input.ensures in
    let same : line ≡ new.line.items = ap vec_items (sym counted.line) in
    let gave = subst (GivesLine a b line c.args.self.now.budget) (c.in_ok-read_line.was ∙ ap Ok c.in-Input.is) c.read_line.ensures in
    let len : c.length-bytes-in-Input.result ≡ length new.line.items = c.length-bytes-in-Input.ensures ∙ ap length same in
    let some : 0 < length new.line.items = let other = c.if-bytes-eq0.false in omega (arith, len, other) in
    takes_last a b c.args.self.now new c.if-self.false (subst (λ l. GivesLine a b l c.args.self.now.budget _) same gave) some (ap (λ n. n + new.budget) (sym len) ∙ counted.budget) counted.count counted.at_end

pub returns-in-Budget-clause-next : goal.returns-in-Budget-clause-next
returns-in-Budget-clause-next g c =
    let a = g.R.Read.remaining c.args.reader.now in
    let b = g.R.Read.remaining c.read_line.new.reader in
    let gave = subst (GivesLine a b c.read_line.new.line.items c.args.self.now.budget) (c.in_ok-read_line.was ∙ ap Ok c.in-Budget.is) c.read_line.ensures in
    takes_too_long a b c.args.self.now _ c.if-self.false gave refl
