use Rattle.std.proofs.Common.{◌≡◌, ℕ, ◌+◌, ◌*◌, ◌-◌, ◌/◌, length, replicate, ap, ◌∙◌, arith, length-append, length-drop}
use Rattle.std.proofs.lemmas.List.{length-replicate}
use Rattle.ynl_lanes.proofs.firsts.Places.{values-moved}
use Rattle.ynl_lanes.proofs.firsts.tree.add_leaves.Goals as goal

pub returns-clause-values : goal.returns-clause-values
returns-clause-values g c =
    let none = g.T.Least.none in
    let tree = c.args.tree.now in
    let wide = c.widen.new.tree in
    let moved = c.copy_within.new.self in
    let by_index = c.copy_within.ensures.by_index in
    let more = 2 * c.args.count - length tree.items in
    let size : length wide.items ≡ length tree.items + more = ap length c.widen.ensures.nodes ∙ length-append tree.items (replicate more none) ∙ ap (λ (n : ℕ). length tree.items + n) (length-replicate more none) in
    let half : c.len-leaves.result / 2 ≡ length tree.items / 2 = omega (arith, c.len-leaves.ensures, tree.ok.0) in
    let long : length moved.items ≡ 2 * c.args.count = omega (arith, size, moved.ok.0, wide.ok.0, c.copy_within.ensures.len, c.requires.more, length-drop (length tree.items / 2) tree.items, c.requires.shape.even) in
    values-moved none tree.items wide.items moved.items (c.len-leaves.result / 2) c.args.count c.requires.shape.even half (omega (arith, half, c.requires.more, length-drop (length tree.items / 2) tree.items, c.requires.shape.even)) c.widen.ensures.nodes long by_index.0 by_index.2
