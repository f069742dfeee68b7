use Rattle.std.proofs.Common.{◌<◌, length, arith, refl}
use Rattle.std.proofs.lemmas.Option.{slice_get_within}
use Rattle.ynl_lanes.specs.declared.lane.levels.Level.TheVariants.{Lane}
use Rattle.ynl_lanes.proofs.lane.Found.{in_line-at}
use Rattle.ynl_lanes.proofs.lane.rows.Rows.first_waiting.Goals as goal

pub returns-in-None-clause-none : goal.returns-in-None-clause-none
returns-in-None-clause-none c n e there own waits =
    let behind = c.in-None.ensures.none n e there (record { own = own; fits = waits }) refl in
    let inside : e.slot < length c.args.self.now.line.tickets = slice_get_within _ e.slot n (in_line-at Lane c.args.self.now.line.tickets c.args.self.now.seats.entries n e.slot e (c.requires.seated.lines Lane) there refl) in
    absurd (omega (arith, behind, inside, c.len.ensures))
