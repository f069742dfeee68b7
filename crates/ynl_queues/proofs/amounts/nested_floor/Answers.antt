use Rattle.std.proofs.Common.{◌+◌, ℕ, List, take, fold, ap, sym, ◌∙◌}
use Rattle.ynl_resource.specs.Amounts.{scale_floor}
use Rattle.ynl_resource.specs.Ranges.{whole}
use Rattle.ynl_resource.specs.declared.amounts.Resource.{Resource}
use Rattle.ynl_resource.specs.declared.paths.Path.{Path}
use Rattle.ynl_queues.proofs.Prefixes.{way_fold, way_end}
use Rattle.ynl_queues.proofs.Shares.{fits_chain}
use Rattle.ynl_queues.proofs.amounts.nested_floor.Goals as goal

pub loop-depth-preserved : goal.loop-depth-preserved
loop-depth-preserved g c = record {
  callable = c.loop-depth.invariant.callable;
  so_far = λ share gives.
      let queue = c.args.queue.now in
      let f : Resource → Path → Resource = λ above step. scale_floor above (share step) whole in
      c.share_of-above.ensures.value
      ∙ ap (λ (n : ℕ). scale_floor c.loop-depth.above n whole) (gives c.step_at.result c.share-part.result c.share-part.ensures ∙ ap share c.step_at.ensures)
      ∙ ap (λ (above : Resource). f above (take (c.loop-depth.depth + 1) queue)) (c.loop-depth.invariant.so_far share gives)
      ∙ sym (way_fold f c.args.amount.now queue c.loop-depth.depth c.loop-depth-test.true);
  within = fits_chain c.share_of-above.result c.loop-depth.above c.args.amount.now c.share_of-above.ensures.within c.loop-depth.invariant.within;
}

pub returns-clause-value : goal.returns-clause-value
returns-clause-value g c = λ share gives.
    let f : Resource → Path → Resource = λ above step. scale_floor above (share step) whole in
    c.loop-depth.invariant.so_far share gives ∙ ap (λ (steps : List Path). fold f c.args.amount.now steps) (way_end c.args.queue.now c.loop-depth.depth c.loop-depth-test.false)
