-- The line of a live application keeps what is known of a state: it comes last in its leaf, as one that is submitted.
use Rattle.std.proofs.Common.{[], ◌∷◌, sym, subst}
use Rattle.std.specs.List.{AllByRecursion}
use Rattle.std.specs.Prelude.{IsTrue}
use Rattle.ynl_resource.specs.Names.{same_path}
use Rattle.ynl_model.specs.Accepted.{is_accepted}
use Rattle.ynl_model.specs.Applications.{Application, in_leaf, submitted}
use Rattle.ynl_model.specs.Cluster.{State}
use Rattle.ynl_model.specs.Queues.{Config}
use Rattle.ynl_laws.specs.Untied.{Differs, Distinct}
use Rattle.ynl_laws.specs.Working.{Pairs}
use Rattle.ynl_laws.proofs.Events.Found.{finds-submitted}
use Rattle.ynl_laws.proofs.Events.Kept.{kept-submit}
use Rattle.ynl_laws.proofs.Lists.{Each-append, Each-update}
use Rattle.ynl_laws.proofs.Lives.Entitled.{entitled-lasts}
use Rattle.ynl_saved.proofs.Changing.{Base, Comes}
use Rattle.ynl_saved.proofs.Configured.{limits}
use Rattle.ynl_saved.proofs.Stamps.{stamped-goes}
use Rattle.ynl_saved.proofs.Suited.{suited-goes}
use Rattle.ynl_saved.proofs.Tellable.{IsTellable, base-apps}

module _ (c : Config) (accepted : IsTrue (is_accepted c)) (s : State) (app : Application) (comes : Comes c s app) where
  -- what was known of all states is known where an application comes
  base-comes : Base c s → Base c (record s { leaves = in_leaf app.leaf (submitted app) s.leaves })
  base-comes h =
      let kept = h.kept in
      let lasts = entitled-lasts c in
      base-apps c s (in_leaf app.leaf (submitted app) s.leaves) h (kept-submit s app comes.unused kept) (finds-submitted app s.leaves comes.unused kept.apps h.finds)
      (lasts.submits s app h.entitled kept h.finds comes.unused comes.may comes.none)

  -- all that is known is known after the line
  pub tellable-comes : IsTellable c s → IsTellable c (record s { leaves = in_leaf app.leaf (submitted app) s.leaves })
  tellable-comes h =
      let stamps = stamped-goes c (limits c accepted) in
      let suits = suited-goes c accepted in
      record {
        base = base-comes h.base;
        stamped = stamps.submits s app h.base h.stamped comes;
        suited = suits.submits s app h.base h.suited comes;
        housed = h.housed;
        distinct = Each-update (λ row. AllByRecursion Distinct row.apps) (λ row. same_path row.leaf app.leaf) (submitted app)
            (λ row k. Each-append Distinct row.apps (app ∷ []) k (subst (Pairs Differs) (sym comes.none) tt, tt)) s.leaves h.distinct;
      }
