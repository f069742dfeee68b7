use Rattle.std.proofs.Common.{◌∙◌, is_some, nat_eq, refl, sym, ap, subst}
use Rattle.std.specs.Map.{lookup}
use Rattle.std.specs.BTreeMap.{get, is_at}
use Rattle.std.specs.Ordering.{nat_cmp}
use Rattle.ynl_slots.specs.Slots.{without}
use Rattle.ynl_lanes.proofs.lane.Lists.{last_found}
use Rattle.ynl_lanes.specs.lane.Fields.{AreKeyed}
use Rattle.ynl_lanes.proofs.lane.Keys.{keyed_opened, without_pushed}
use Rattle.ynl_lanes.proofs.lane.users.open.Goals as goal

pub close-user-requires-clause-live : goal.close-user-requires-clause-live
close-user-requires-clause-live c =
    ap (λ us. is_some (lookup (nat_eq c.in_ok-number.number) us)) c.in_ok-number.ensures.ok ∙ ap is_some (last_found c.in_ok-number.number _ c.args.rows.now.users.entries c.in_ok-number.ensures.unused)

pub returns-in-Ok-clause-keyed : goal.returns-in-Ok-clause-keyed
returns-in-Ok-clause-keyed c =
    subst (AreKeyed (λ n. get nat_cmp c.insert.new.self n)) (sym c.in_ok-number.ensures.ok)
    (keyed_opened (λ n. get nat_cmp c.args.numbers.now n) (λ n. get nat_cmp c.insert.new.self n) c.args.user c.in_ok-number.number _ c.args.rows.now.users.entries c.requires.keyed c.requires.absent c.in_ok-number.ensures.unused refl c.in-Ok.ensures.updates.0)

pub returns-in-Err-clause-err : goal.returns-in-Err-clause-err
returns-in-Err-clause-err c = c.close-user.ensures.users ∙ ap (without c.in_ok-number.number) c.in_ok-number.ensures.ok ∙ without_pushed c.in_ok-number.number _ c.args.rows.now.users.entries c.in_ok-number.ensures.unused

pub returns-in-Err-clause-keyed : goal.returns-in-Err-clause-keyed
returns-in-Err-clause-keyed c =
    subst (AreKeyed (λ n. get nat_cmp c.insert.new.self n)) (sym (c.close-user.ensures.users ∙ ap (without c.in_ok-number.number) c.in_ok-number.ensures.ok ∙ without_pushed c.in_ok-number.number _ c.args.rows.now.users.entries c.in_ok-number.ensures.unused))
    (λ n row there. ap (λ es. lookup (is_at (nat_cmp row.user)) es) c.in-Err.ensures.err ∙ c.requires.keyed n row there)
