use Rattle.std.proofs.lemmas.Result.{on_ok_weaker}
use Rattle.ynl_lines.proofs.Added.{item_added, last_added}
use Rattle.ynl_lines.proofs.Lists.{all_more, all_of}
use Rattle.ynl_lines.proofs.write_containers.add_list.Goals as goal

pub loop-one-preserved : goal.loop-one-preserved
loop-one-preserved g c = record {
  added = item_added g.T.Listed.told c.args.list.now c.loop-one.one-index c.one-item.result c.loop-one.later _ _ _ c.loop-one-test.true c.one-item.is c.loop-one.invariant.added c.in_ok-add_one.ensures.added;
  sound = all_more g.T.Listed.is_sound c.args.list.now c.loop-one.one-index c.one-item.result c.loop-one-test.true c.one-item.is c.loop-one.invariant.sound c.in_ok-add_one.ensures.sound;
}

pub returns-clause-added : goal.returns-clause-added
returns-clause-added g c =
    on_ok_weaker c.add.result
    (λ e. last_added g.T.Listed.told c.args.list.now c.loop-one.one-index c.loop-one.later _ _ _ c.loop-one-test.false c.loop-one.invariant.added e)
    c.add.ensures.added

pub returns-clause-sound : goal.returns-clause-sound
returns-clause-sound g c =
    on_ok_weaker c.add.result
    (λ e. all_of g.T.Listed.is_sound c.args.list.now c.loop-one.one-index c.loop-one-test.false c.loop-one.invariant.sound)
    c.add.ensures.added
