use Rattle.std.proofs.Common.{◌≡◌, ◌++◌, Some, ap, ◌∙◌, sym}
use Rattle.std.proofs.lemmas.Slice.Eq.{strip_prefix_is, strip_suffix_is}
use Rattle.std.proofs.lemmas.Bool.Decides.{Decides-eqb}
use Rattle.ynl_lines.proofs.Compacted.{front, end, heartbeat_read}
use Rattle.ynl_lines.proofs.compact.heartbeat_of.Goals as goal

pub returns-in-Ok : goal.returns-in-Ok
returns-in-Ok c =
    let begun : c.args.line.now ≡ front ++ c.in-Some.rest.now = strip_prefix_is Decides-eqb c.args.line.now front (Some c.in-Some.rest) c.in-Some.ensures.cases in
    let ended : c.in-Some.rest.now ≡ c.in-Some-strip_suffix.node.now ++ end = strip_suffix_is Decides-eqb c.in-Some.rest.now end (Some c.in-Some-strip_suffix.node) c.in-Some-strip_suffix.ensures.cases in
    heartbeat_read c.args.line.now c.in-Some-strip_suffix.node.now c.in-Ok.name (begun ∙ ap (λ t. front ++ t) ended) (sym c.in-Ok.ensures)
