use Rattle.std.proofs.Common.{refl, ap, subst, sym, ◌∙◌}
use Rattle.std.proofs.Common.{is_some, nat_eq}
use Rattle.std.specs.Map.{lookup}
use Rattle.ynl_lanes.specs.lane.Changes.{KeepWaits, ShowsOther, Shown}
use Rattle.ynl_lanes.proofs.lane.Lists.{found_written}
use Rattle.ynl_lanes.proofs.lane.Changing.{seated_used, but_used, shown_used, waits_used}
use Rattle.ynl_lanes.proofs.lane.rows.Rows.use_other.Goals as goal

pub stand_anew-requires-clause-seated : goal.stand_anew-requires-clause-seated
stand_anew-requires-clause-seated c = seated_used c.args.self.now (record c.args.self.now { users = c.set_used.new.users }) c.requires.kept c.args.user c.args.used c.requires.small refl c.set_used.ensures refl

pub stand_anew-requires-clause-live : goal.stand_anew-requires-clause-live
stand_anew-requires-clause-live c = ap is_some (ap (λ us. lookup (nat_eq c.args.user) us) c.set_used.ensures.entries ∙ found_written c.args.user _ c.set_used.ensures.row c.args.self.now.users.entries c.set_used.ensures.found)

pub stand_anew-requires-clause-others : goal.stand_anew-requires-clause-others
stand_anew-requires-clause-others c = but_used c.args.self.now (record c.args.self.now { users = c.set_used.new.users }) c.requires.kept c.args.user c.args.used c.requires.small refl c.set_used.ensures refl

pub returns-clause-users : goal.returns-clause-users
returns-clause-users c =
    subst (λ us. ShowsOther c.args.user (λ (s : Shown). record s { used = c.args.used }) c.args.self.now.users.entries us.entries) (sym c.stand_anew.ensures.users)
    (shown_used c.args.self.now (record c.args.self.now { users = c.set_used.new.users }) c.requires.kept c.args.user c.args.used c.requires.small refl c.set_used.ensures refl)

pub returns-clause-waits : goal.returns-clause-waits
returns-clause-waits c =
    subst (λ us. KeepWaits c.args.self.now.users.entries us.entries c.args.self.now.seats.entries) (sym c.stand_anew.ensures.users)
    (λ n e there. waits_used c.args.self.now (record c.args.self.now { users = c.set_used.new.users }) c.requires.kept c.args.user c.args.used c.requires.small refl c.set_used.ensures refl e)
