use Rattle.std.proofs.Common.{◌≡◌, ◌/◌, ◌≤◌, length, set, sym, ap, ◌∙◌, arith, length-drop}
use Rattle.std.specs.Prelude.{vec_capacity}
use Rattle.ynl_lanes.specs.firsts.Tree.{values_of, filled_up}
use Rattle.ynl_lanes.proofs.firsts.Places.{filled_up-put, filled_up-none, filled_up-with_items}
use Rattle.ynl_lanes.proofs.firsts.firsts.Firsts.set.Goals as goal

pub returns-then-same : goal.returns-then-same
returns-then-same g c =
    let tree = c.self.inside.tree in
    let behind : length (values_of tree.items) ≤ c.args.place = omega (arith, length-drop (length tree.items / 2) tree.items, c.self.invariant.shape.even, c.if-place-len.true, c.len.ensures, tree.ok.0) in
    rw (← c.self.view_is, c.same.ensures c.if-same.true, c.none.ensures) (sym (filled_up-none g.T.Least.none (vec_capacity tree / 2) (values_of tree.items) c.args.place behind))

pub returns : goal.returns
returns g c =
    let none = g.T.Least.none in
    let tree = c.self.inside.tree in
    let spread = c.spread.new.tree in
    let put = c.put.new.tree in
    let room = vec_capacity tree / 2 in
    let same : length put ≡ spread.len = c.put.auto.tree ∙ c.as_mut_slice.ensures.len in
    let fits : length (values_of spread.items) ≤ room = omega (arith, length-drop (length spread.items / 2) spread.items, spread.ok, c.spread.ensures.capacity, c.spread.ensures.tree.shape.even) in
    let values : values_of put ≡ set (values_of spread.items) c.args.place c.args.value = c.put.ensures.values ∙ ap (λ xs. set (values_of xs) c.args.place c.args.value) c.as_mut_slice.ensures.value in
    rw (← c.self.view_is) (filled_up-with_items none (vec_capacity spread / 2) spread put same
    ∙ ap (λ n. filled_up none (n / 2) (values_of put)) c.spread.ensures.capacity
    ∙ filled_up-put none room (values_of tree.items) (values_of spread.items) (values_of put) c.args.place c.args.value c.spread.ensures.values fits c.spread.ensures.inside values)
