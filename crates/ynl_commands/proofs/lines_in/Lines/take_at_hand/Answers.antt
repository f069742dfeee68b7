use Rattle.std.proofs.Common.{◌≡◌, ◌≢◌, ◌+◌, length, [], Ok, Some, ap, sym, subst, ◌∙◌, zero-le, rules, true}
use Rattle.std.specs.Prelude.{vec_items}
use Rattle.std.specs.IoError.{error_kind}
use Rattle.std.proofs.KnownBytes.{Consumes-nil}
use Rattle.std.proofs.lemmas.List.Elements.{All-nil}
use Rattle.ynl_commands.specs.declared.lines_in.LineEnd.TheVariants as end
use Rattle.ynl_commands.specs.Lines.{GivesLine, GivesPiece}
use Rattle.ynl_commands.proofs.Inputs.{takes_newline}
use Rattle.ynl_commands.proofs.Pieces.{piece_given, line_ended}
use Rattle.ynl_commands.proofs.lines_in.Lines.take_at_hand.Goals as goal

pub returns-in-Newline-clause-taken : goal.returns-in-Newline-clause-taken
returns-in-Newline-clause-taken g c =
    let a = g.R.Read.remaining c.args.reader.now in
    let rested = c.fill_buf-shown.follows.lender-at-none in
    let b = g.R.Read.remaining c.consume.new.self in
    let room = g.R.BufRead.consumable_len rested in
    let budget = c.args.self.now.budget in
    let before = c.clear.new.self.items in
    let line = c.add_shown.new.line.items in
    let taken = c.in_ok-taken.taken in
    let new = c.count_line.new.self in
    let counted = c.count_line.ensures in
    let piece = piece_given error_kind a (g.R.Read.remaining rested) b room c.fill_buf-shown.result before line budget taken c.fill_buf-shown.ensures.front c.fill_buf-shown.ensures.end c.fill_buf-shown.follows.holds-at-none c.consume.ensures.bytes c.in_ok-taken.ensures.shown c.in_ok-taken.ensures.failed in
    let from : GivesPiece a b [] line budget (Ok (Some end.Newline)) = subst (λ e. GivesPiece a b [] line budget (Ok e)) (c.in-Some.is ∙ ap Some c.in-Newline.is) (subst (λ l. GivesPiece a b l line budget (Ok taken.end)) c.clear.ensures.items piece) in
    let gave = line_ended a a b [] line budget (record { plain = All-nil (λ x. x ≢ 10); within = zero-le; read = Consumes-nil a }) end.Newline from in
    let same : line ≡ new.line.items = ap vec_items (sym counted.line) in
    let used : (length new.line.items + 1) + new.budget ≡ budget = ap (λ l. (length l + 1) + new.budget) (sym same) ∙ ap (λ n. (n + 1) + new.budget) (sym c.length-bytes.ensures) ∙ counted.budget in
    let shown : c.args.self.now.shows_more ≡ true = search rules in
    (shown, takes_newline a b c.args.self.now new c.if-self.false (subst (λ l. GivesLine a b l budget _) same gave) used counted.count (counted.at_end ∙ c.if-self.false))
