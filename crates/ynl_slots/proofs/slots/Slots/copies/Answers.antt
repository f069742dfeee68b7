use Rattle.std.proofs.Common.{sym, ◌∙◌}
use Rattle.std.proofs.lemmas.Option.{same_Some}
use Rattle.ynl_slots.proofs.Walks.{here, here_found, here_live, left_less, walk_at, walk_end, walk_step}
use Rattle.ynl_slots.proofs.slots.Slots.copies.Goals as goal

pub index-requires : goal.index-requires
index-requires g c = here_live c.args.self.now.entries c.loop-next.invariant.place _ (walk_at _ _ _ _ _ c.loop-next.invariant c.in-Some.is)

pub loop-next-smaller : goal.loop-next-smaller
loop-next-smaller g c = rw c.in-Some.is (left_less c.args.self.now.entries c.loop-next.invariant.place _ _ c.len.ensures.distinct (walk_at _ _ _ _ _ c.loop-next.invariant c.in-Some.is) c.next-next.ensures)

pub loop-next-preserved : goal.loop-next-preserved
loop-next-preserved g c =
    let there = here c.args.self.now.entries c.loop-next.invariant.place c.in-Some.number (walk_at _ _ _ _ _ c.loop-next.invariant c.in-Some.is) in
    let row = same_Some _ _ (sym c.index.ensures ∙ here_found c.args.self.now.entries c.loop-next.invariant.place _ _ c.len.ensures.distinct there.at) in
    rw c.in_ok-push.ensures.items (walk_step _ c.args.self.now.entries _ _ _ c.loop-next.invariant c.in-Some.is there.row there.at _ c.next-next.ensures _ row)

pub returns : goal.returns
returns g c = walk_end _ _ _ _ c.loop-next.invariant c.in_default.is
