use Rattle.std.proofs.Common.{◌≡◌, ◌-◌, ◌^◌, Bool, false, Some, None, cond, nat_eq, ap, ◌∙◌, arith}
use Rattle.std.proofs.lemmas.Bool.Decides.{nat_tests}
use Rattle.std.proofs.lemmas.Option.{slice_get_within}
use Rattle.ynl_slots.proofs.Order.{held_at}
use Rattle.ynl_slots.proofs.slots.Slots.number.Goals as goal

pub returns : goal.returns
returns g c =
    let held = held_at _ _ _ _ c.self.invariant.ordered c.args.number (rw (← c.self.view_is) at c.requires) in
    let apart : nat_eq c.args.number (2 ^ 32 - 1) ≡ false = grind (arith, nat_tests, slice_get_within c.self.inside.slots.items c.args.number _ held.found, c.self.invariant.fits) in
    c.of.ensures ∙ ap (λ (b : Bool). cond b None (Some c.args.number)) apart
