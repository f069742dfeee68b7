use Rattle.std.proofs.lemmas.Result.{on_ok_weaker}
use Rattle.ynl_saved_text.proofs.RoundTrip.{line_back}
use Rattle.ynl_saved_text.proofs.write.put_state_line.Goals as goal

pub returns-clause-reads : goal.returns-clause-reads
returns-clause-reads c =
    on_ok_weaker c.add_line.result (λ sound numbers before may. line_back c.args.line.now before sound numbers may) c.add_line.ensures.sound
