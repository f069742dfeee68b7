use Rattle.std.proofs.Common.{ℕ, ◌<◌, true, false, List, [], ◌∷◌, zero, suc, length, get_or, arith, append-nil, sym, ap, subst, ◌∙◌}
use Rattle.std.specs.List.{AllByRecursion}
use Rattle.ynl_waits.specs.Waits.{is_chosen_on}
use Rattle.ynl_service.specs.reading.reasons.Facts.{IsSpotOf}
use Rattle.ynl_waits.proofs.Loops.{kept}
use Rattle.ynl_service.proofs.reading.reasons.choosing.chosen_among.Goals.{then-branch+in_ok-push, else-branch}
use Rattle.ynl_service.proofs.reading.reasons.choosing.chosen_among.Goals as goal

-- one more node is added where the request is chosen there
pub loop-spot-preserved : goal.loop-spot-preserved
loop-spot-preserved g c =
    let old = c.loop-spot.chosen.items in
    let chosen = is_chosen_on (g.F.Facts.config c.args.facts.now) (g.F.Facts.state c.args.facts.now) c.args.app.now c.args.request.now in
    let turn = kept chosen [] c.args.there.now c.loop-spot.spot-index c.spot-item.result old c.if-branch.chosen.items c.loop-spot-test.true c.spot-item.is c.loop-spot.invariant.so_far in
    record {
      so_far = elim c.if-branch.branch [
        | then-branch+in_ok-push w ↦ turn true (sym c.in_ok-is_chosen_on.ensures.chosen ∙ w.if-branch.true) (ap (λ v. v.items) w.chosen-is ∙ w.in_ok-push.ensures.items)
        | else-branch w ↦ turn false (sym c.in_ok-is_chosen_on.ensures.chosen ∙ w.if-branch.false) (ap (λ v. v.items) w.chosen-is ∙ sym (append-nil old))
      ];
      known = c.in_ok-is_chosen_on.ensures.known;
    }

at : {X : Type 0} (P : X → Type 0) (xs : List X) (i : ℕ) (d : X) → AllByRecursion P xs → i < length xs → P (get_or xs i d)
at P [] i d all lt = absurd (omega (arith, lt))
at P (y ∷ ys) zero d all lt = all.0
at P (y ∷ ys) (suc i) d all lt = at P ys i d all.1 (omega (arith, lt))

-- what is said of each node is said of this one
pub is_chosen_on-requires-clause-spot : goal.is_chosen_on-requires-clause-spot
is_chosen_on-requires-clause-spot g c =
    let is_of = IsSpotOf (g.F.Facts.state c.args.facts.now) in
    subst is_of (sym c.spot-item.is) (at is_of c.args.there.now c.loop-spot.spot-index c.spot-item.result c.requires.spots c.loop-spot-test.true)
