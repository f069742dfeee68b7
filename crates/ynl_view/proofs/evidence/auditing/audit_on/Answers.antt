use Rattle.std.proofs.Common.{◌≡◌, ◌<◌, ◌≤◌, List, [], length, take, drop, Ok, ap, sym, subst, ◌∙◌, arith}
use Rattle.std.proofs.lemmas.List.{drop_all}
use Rattle.ynl_view.specs.evidence.Evidence.{Placed}
use Rattle.ynl_view.specs.evidence.Flaws.{flaw_from}
use Rattle.ynl_view.specs.evidence.Trials.{IsTrialOf, Takes}
use Rattle.ynl_view.proofs.evidence.Audited.{flaw-on, flaw-here, more-is}
use Rattle.ynl_view.proofs.evidence.auditing.audit_on.Goals as goal

-- the entry was taken
pub loop-i-preserved : goal.loop-i-preserved
loop-i-preserved c =
    let config = c.args.config.now in
    let t = c.args.tenant.now in
    let p = c.args.label.now in
    let placed : List Placed = c.args.placed.now in
    let i = c.loop-i.i in
    let x : Placed = c.index-placed-i.result in
    let inside : i < length placed = omega (arith, c.loop-i-test.true) in
    let taken = subst (Takes config t p (take i placed) x c.take.new.self) (c.in_ok-flaw.was ∙ ap Ok c.in_default.is) (c.take.ensures (take i placed) c.loop-i.invariant.trial) in
    record {
      trial = subst (λ xs. IsTrialOf config t xs c.take.new.self) (sym (more-is config t p placed i x inside c.index-placed-i.is)) taken.1;
      flaw = flaw-on config t p placed i x inside c.index-placed-i.is c.loop-i.invariant.flaw taken.0;
    }

-- the entry has a flaw
pub returns-in-Some-clause-err : goal.returns-in-Some-clause-err
returns-in-Some-clause-err c =
    let config = c.args.config.now in
    let t = c.args.tenant.now in
    let p = c.args.label.now in
    let placed : List Placed = c.args.placed.now in
    let i = c.loop-i.i in
    let x : Placed = c.index-placed-i.result in
    let inside : i < length placed = omega (arith, c.loop-i-test.true) in
    let taken = subst (Takes config t p (take i placed) x c.take.new.self) (c.in_ok-flaw.was ∙ ap Ok c.in-Some.is) (c.take.ensures (take i placed) c.loop-i.invariant.trial) in
    flaw-here config t p placed i x inside c.index-placed-i.is c.in-Some.flaw c.loop-i.invariant.flaw taken

-- no entry is left
pub returns-clause-ok : goal.returns-clause-ok
returns-clause-ok c =
    let config = c.args.config.now in
    let t = c.args.tenant.now in
    let p = c.args.label.now in
    let placed : List Placed = c.args.placed.now in
    let i = c.loop-i.i in
    let past : length placed ≤ i = omega (arith, c.loop-i-test.false) in
    let none : drop i placed ≡ [] = drop_all i placed past in
    c.loop-i.invariant.flaw ∙ ap (flaw_from config t p (take i placed)) none
