use Rattle.std.specs.Prelude.{option_map}
use Rattle.ynl_tool.proofs.Idle.{live_without}
use Rattle.ynl_tool.proofs.jobs.live_job.Goals as goal

-- nothing was read or written
pub returns-in-Err : goal.returns-in-Err
returns-in-Err g c =
    let a = g.R.Read.remaining c.args.reader.now in
    let w = g.W.Write.contents c.args.writer.now in
    live_without a w c.args.rounds c.args.config (option_map (λ text. text.now) c.args.from) c.in-Err.ended c.in-Err.ensures.none
