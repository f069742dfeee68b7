use Rattle.std.proofs.Common.{sym, subst}
use Rattle.std.specs.BTreeMap.{get}
use Rattle.std.specs.Ordering.{nat_cmp}
use Rattle.ynl_lanes.specs.lane.Fields.{AreKeyed}
use Rattle.ynl_lanes.proofs.lane.Keys.{keyed_closed}
use Rattle.ynl_lanes.proofs.lane.Showing.{row_with}
use Rattle.ynl_lanes.proofs.lane.users.close.Goals as goal

pub returns-clause-keyed : goal.returns-clause-keyed
returns-clause-keyed c =
    let own = row_with c.args.number c.close-user.result c.args.rows.now.users.entries c.close-user.ensures.user in
    subst (AreKeyed (λ n. get nat_cmp c.remove-number.new.self n)) (sym c.close-user.ensures.users)
    (keyed_closed (λ n. get nat_cmp c.args.numbers.now n) (λ n. get nat_cmp c.remove-number.new.self n) c.close-user.result c.args.number own.0 c.args.rows.now.users.entries c.requires.keyed own.1 own.2 c.remove-number.ensures.updates.0)
