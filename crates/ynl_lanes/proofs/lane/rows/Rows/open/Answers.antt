use Rattle.std.proofs.Common.{◌++◌, ◌∷◌, [], refl, ap, subst, ◌∙◌}
use Rattle.ynl_slots.specs.Slots.{IsUnused}
use Rattle.ynl_lanes.proofs.lane.Moving.{kept_like}
use Rattle.ynl_lanes.proofs.lane.Opening.{no_seat_of, kept_opened}
use Rattle.ynl_lanes.proofs.lane.rows.Rows.open.Goals as goal

pub returns-in_err-reserve_one-clause-kept : goal.returns-in_err-reserve_one-clause-kept
returns-in_err-reserve_one-clause-kept c = kept_like c.args.self.now (record c.args.self.now { users = c.reserve_one.new.self }) c.requires.kept refl c.reserve_one.ensures.entries refl

pub returns-in_err-reserve-clause-kept : goal.returns-in_err-reserve-clause-kept
returns-in_err-reserve-clause-kept c = kept_like c.args.self.now (record c.args.self.now { users = c.reserve_one.new.self; stands = c.reserve.new.self }) c.requires.kept refl c.reserve_one.ensures.entries refl

pub returns-clause-none : goal.returns-clause-none
returns-clause-none c = no_seat_of c.args.self.now c.requires.kept c.push-number.result (subst (IsUnused c.push-number.result) c.reserve_one.ensures.entries c.push-number.ensures.unused)

pub returns-clause-kept : goal.returns-clause-kept
returns-clause-kept c =
    kept_opened c.args.self.now c.forget_stands.new.self c.requires.kept c.push-number.result c.args.row (subst (IsUnused c.push-number.result) c.reserve_one.ensures.entries c.push-number.ensures.unused) c.requires.row
    c.forget_stands.ensures.seats c.forget_stands.ensures.line (ap (λ s. s.entries) c.forget_stands.ensures.users ∙ c.push-number.ensures.entries ∙ ap (λ es. es ++ (c.push-number.result, c.args.row) ∷ []) c.reserve_one.ensures.entries)
