use Rattle.std.proofs.Common.{◌≡◌, arith, refl, ap, sym, ◌∙◌, length}
use Rattle.std.proofs.lemmas.Option.{same_Some}
use Rattle.ynl_lanes.specs.declared.lane.rows.UserRow.{UserRow}
use Rattle.ynl_lanes.proofs.lane.Pushing.{pushed}
use Rattle.ynl_lanes.proofs.lane.rows.Rows.push.Goals as goal

pub returns : goal.returns
returns c =
    let same = same_Some _ _ (sym c.index.ensures ∙ c.push_own.ensures.found) in
    let slot : c.len-slot.result ≡ length c.args.self.now.line.tickets = omega (arith, c.len-slot.ensures) in
    let own : c.len-own_slot.result ≡ length c.index.result.now.line.tickets = omega (arith, c.len-own_slot.ensures) in
    let known = pushed c.args.self.now (record c.args.self.now { seats = c.push-ticket.new.self; users = c.push_own.new.users; line = c.push.new.self }) c.requires.kept c.args.app c.args.user c.push-ticket.result c.push-ticket.ensures.unused c.requires.room c.requires.own_room c.push_own.ensures _
    refl slot (own ∙ ap (λ (r : UserRow). length r.line.tickets) same) c.push-ticket.ensures.entries c.push.ensures.tickets c.push.ensures.masters c.push.ensures.asks in
    record { kept = known.stays; seats = record { row = _; entries = c.push-ticket.ensures.entries; unused = c.push-ticket.ensures.unused; app_is = refl; user_is = refl; waits = known.none }; waits = known.waits; small = c.push-ticket.ensures.small; users = known.users }
