use Rattle.std.specs.Prelude.{option_map}
use Rattle.ynl_tool.proofs.Idle.{idle_live_without}
use Rattle.ynl_tool.proofs.jobs.do_live_text.Goals as goal

-- nothing was read or written
pub returns-in-Err : goal.returns-in-Err
returns-in-Err g c =
    let a = g.R.Read.remaining c.args.reader.now in
    let w = g.W.Write.contents c.args.writer.now in
    idle_live_without a w c.args.rounds (option_map (λ text. text.now) c.args.texts.from) c.args.texts.config.now c.in-Err.ended c.in-Err.ensures.none
