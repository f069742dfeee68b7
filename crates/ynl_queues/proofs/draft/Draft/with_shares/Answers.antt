use Rattle.std.proofs.Common.{sym, subst}
use Rattle.std.specs.List.{All}
use Rattle.ynl_model.specs.Queues.{Config}
use Rattle.ynl_queues.specs.Index.{AreShares}
use Rattle.ynl_queues.proofs.draft.Draft.with_shares.Goals as goal

pub invariant_of-draft : goal.invariant_of-draft
invariant_of-draft c = record {
  rows = c.draft.invariant.rows;
  paths = c.draft.invariant.paths;
  places = c.draft.invariant.places;
  shares = subst (λ (of : Config). All (AreShares of) c.args.shares.items) (sym c.draft.view_is) c.requires;
}
