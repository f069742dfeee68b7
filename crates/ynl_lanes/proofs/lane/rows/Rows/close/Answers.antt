use Rattle.std.proofs.Common.{refl, sym, ap, ◌∙◌, nat_eq, subst}
use Rattle.std.specs.Map.{lookup}
use Rattle.ynl_lanes.specs.lane.Rows.{EachUser, IsUserRow}
use Rattle.ynl_lanes.proofs.lane.Lists.{same_without, was_without}
use Rattle.ynl_lanes.proofs.lane.Pulling.{kept_but}
use Rattle.ynl_lanes.proofs.lane.rows.Rows.close.Goals as goal

pub returns-clause-kept : goal.returns-clause-kept
returns-clause-kept c =
    kept_but c.args.self.now (record c.args.self.now { users = c.remove-row.new.self }) c.requires.kept c.args.user refl refl c.requires.none
    (λ other apart. ap (λ us. lookup (nat_eq other) us) c.remove-row.ensures.entries ∙ same_without c.args.user other c.args.self.now.users.entries apart)
    (subst (EachUser IsUserRow) (sym c.remove-row.ensures.entries) (λ n row there. c.requires.kept.seated.users n row (was_without c.args.user n row c.args.self.now.users.entries there).1))
