use Rattle.std.proofs.Common.{◌≡◌, ◌+◌, ap}
use Rattle.ynl_commands.proofs.Evidences.{noted-push}
use Rattle.ynl_commands.proofs.evidence.Gathering.take.Goals as goal

pub returns : goal.returns
returns c =
    let seen = c.in_ok-see_entry.ensures in
    let counted : c.see_entry.new.self.entries + 1 ≡ c.args.self.now.entries + 1 = ap (λ n. n + 1) seen.1 in
    (λ entries is. noted-push c.args.whose.now c.args.entry.now entries c.args.self.now _ is seen.0 counted seen.2, counted)
