-- A submission is told by whether it is live.
use Rattle.std.proofs.Common.{◌≡◌, ◌∷◌, ◌∙◌, [], refl, sym, subst}
use Rattle.ynl_resource.specs.declared.names.Name.{Name}
use Rattle.ynl_tables.specs.declared.submissions.submissions.Submission.{Submission}
use Rattle.ynl_inventory.specs.Meaning.{submitted_to}
use Rattle.ynl_inventory.proofs.Lookups.{place-there}
use Rattle.ynl_saved.specs.declared.lines.StateLine.TheVariants.{Finished}
use Rattle.ynl_saved.specs.Handing.{Hands, TakesAll}
use Rattle.ynl_saved.proofs.Handing.{hands-one}
use Rattle.ynl_snapshots.proofs.saving.Submissions.{finished-leaf, is-live, its-row, live-leaf, other-leaf, read-entry}
use Rattle.ynl_snapshots.proofs.saving.applications.hand_submission.Goals as goal

pub returns-then-submission-leaf : goal.returns-then-submission-leaf
returns-then-submission-leaf g c e at =
    let its : e.1 ≡ c.index-submission.result.now = read-entry c.args.cluster.now c.inventory.result.now c.inventory.ensures.value c.args.tenant c.submissions-submissions.result.now.entries c.submissions-submissions.ensures (λ (e : Name × Submission). e.1) c.args.turn c.index-submission.result.now c.index-submission.ensures e at in
    subst (λ ls. TakesAll g.S.LineSink.gives c.args.sink.now ls c.args.sink.now) (sym (other-leaf c.args.cluster.now.rows c.args.leaf e c.index-submission.result.now its c.if-submission-leaf.true)) refl

pub hand_live-requires : goal.hand_live-requires
hand_live-requires g c =
    let there = place-there (submitted_to c.args.cluster.now.rows.tenants c.args.tenant) c.args.turn c.requires.there in
    let its : there.0.1 ≡ c.index-submission.result.now = read-entry c.args.cluster.now c.inventory.result.now c.inventory.ensures.value c.args.tenant c.submissions-submissions.result.now.entries c.submissions-submissions.ensures (λ (e : Name × Submission). e.1) c.args.turn c.index-submission.result.now c.index-submission.ensures there.0 there.1 in
    is-live c.args.cluster.now.rows c.inventory.ensures.sound c.args.tenant c.args.turn there.0 there.1 c.index-submission.result.now its c.in-Some.app c.in-Some.is

pub returns-in-Some : goal.returns-in-Some
returns-in-Some g c e at =
    let v = c.args.cluster.now.rows in
    let its : e.1 ≡ c.index-submission.result.now = read-entry c.args.cluster.now c.inventory.result.now c.inventory.ensures.value c.args.tenant c.submissions-submissions.result.now.entries c.submissions-submissions.ensures (λ (e : Name × Submission). e.1) c.args.turn c.index-submission.result.now c.index-submission.ensures e at in
    let row = its-row v c.inventory.ensures.sound c.args.tenant c.args.turn e at c.index-submission.result.now its c.in-Some.app c.in-Some.is in
    subst (λ ls. Hands g.S.LineSink.gives c.args.sink.now ls c.hand_live.new.sink c.hand_live.result)
    (sym (live-leaf v c.inventory.ensures.sound c.args.tenant c.args.turn e at c.index-submission.result.now its c.in-Some.app c.in-Some.is c.args.leaf c.if-submission-leaf.false))
    (c.hand_live.ensures row.0 row.1)

pub returns-in-None : goal.returns-in-None
returns-in-None g c e at =
    let v = c.args.cluster.now.rows in
    let its : e.1 ≡ c.index-submission.result.now = read-entry c.args.cluster.now c.inventory.result.now c.inventory.ensures.value c.args.tenant c.submissions-submissions.result.now.entries c.submissions-submissions.ensures (λ (e : Name × Submission). e.1) c.args.turn c.index-submission.result.now c.index-submission.ensures e at in
    let named : e.0 ≡ c.name.result.now = read-entry c.args.cluster.now c.inventory.result.now c.inventory.ensures.value c.args.tenant c.submissions-submissions.result.now.entries c.submissions-submissions.ensures (λ (e : Name × Submission). e.0) c.args.turn c.name.result.now c.name.ensures e at in
    subst (λ ls. Hands g.S.LineSink.gives c.args.sink.now ls c.take.new.self c.take.result)
    ((λ i. Finished (c.path_of.ensures i) (sym named i) ∷ []) ∙ sym (finished-leaf v c.args.leaf e c.index-submission.result.now its c.if-submission-leaf.false c.in-None.is))
    (hands-one g.S.LineSink.gives c.args.sink.now c.take.new.self (Finished c.path_of.result c.name.result.now) c.take.result c.take.ensures)
