-- The applications of a leaf are told in the order of submission.
use Rattle.std.proofs.Common.{◌≡◌, ◌<◌, ◌≤◌, ◌∙◌, length, List, sym, ap, subst}
use Rattle.std.specs.Prelude.{flat_map}
use Rattle.ynl_resource.specs.declared.names.Name.{Name}
use Rattle.ynl_tables.specs.declared.submissions.submissions.Submission.{Submission}
use Rattle.ynl_inventory.specs.Meaning.{submitted_to, tenant_at}
use Rattle.ynl_inventory.proofs.Lookups.{place-there}
use Rattle.ynl_saved.specs.Handing.{FailsAmong, TakesAll}
use Rattle.ynl_saved.proofs.Handing.{fails-on, fails-part, takes-part, takes-parts}
use Rattle.ynl_replies.proofs.admission.Submitting.{tenant-is}
use Rattle.ynl_snapshots.specs.saving.Told.{submission_lines}
use Rattle.ynl_snapshots.proofs.saving.Rows.{leaf-told}
use Rattle.ynl_snapshots.proofs.saving.Submissions.{same-entries}
use Rattle.ynl_snapshots.proofs.saving.applications.hand_leaf.Goals as goal

pub returns-in_err-hand_submission : goal.returns-in_err-hand_submission
returns-in_err-hand_submission g c =
    let v = c.args.cluster.now.rows in
    let t = c.tenant_of_leaf-tenant.result in
    let entries : c.submissions.result.now.entries ≡ submitted_to v.tenants t = same-entries c.args.cluster.now c.inventory-inventory.result.now c.inventory-inventory.ensures.value t c.submissions.result.now.entries c.submissions.ensures in
    let inside : c.loop-turn.turn < length (submitted_to v.tenants t) = subst (λ (es : List (Name × Submission)). c.loop-turn.turn < length es) entries (subst (λ n. c.loop-turn.turn < n) c.next_turn-turn-end.ensures c.loop-turn-test.true) in
    let there = place-there (submitted_to v.tenants t) c.loop-turn.turn inside in
    let tenant : tenant_at v.paths c.args.leaf ≡ t = tenant-is c.args.cluster.now c.inventory-inventory.ensures.sound c.args.leaf c.requires t c.tenant_of_leaf-tenant.ensures.there c.tenant_of_leaf-tenant.ensures.path in
    fails-on g.S.LineSink.gives c.args.sink.now c.hand_submission.new.sink _ c.in_err-hand_submission.field-0.0 c.from_residual.result
    (subst (λ ls. FailsAmong g.S.LineSink.gives c.args.sink.now ls c.hand_submission.new.sink c.in_err-hand_submission.field-0.0)
    (ap (λ u. flat_map (submission_lines v c.args.leaf) (submitted_to v.tenants u)) (sym tenant) ∙ leaf-told v c.inventory-inventory.ensures.sound c.args.leaf)
    (fails-part g.S.LineSink.gives (submission_lines v c.args.leaf) (submitted_to v.tenants t) c.loop-turn.turn c.args.sink.now c.loop-turn.sink c.hand_submission.new.sink c.loop-turn.invariant c.in_err-hand_submission.field-0.0 there.0 there.1
    (c.in_err-hand_submission.ensures there.0 there.1)))
    c.from_residual.ensures.1

pub loop-turn-preserved : goal.loop-turn-preserved
loop-turn-preserved g c =
    let v = c.args.cluster.now.rows in
    let t = c.tenant_of_leaf-tenant.result in
    let entries : c.submissions.result.now.entries ≡ submitted_to v.tenants t = same-entries c.args.cluster.now c.inventory-inventory.result.now c.inventory-inventory.ensures.value t c.submissions.result.now.entries c.submissions.ensures in
    let inside : c.loop-turn.turn < length (submitted_to v.tenants t) = subst (λ (es : List (Name × Submission)). c.loop-turn.turn < length es) entries (subst (λ n. c.loop-turn.turn < n) c.next_turn-turn-end.ensures c.loop-turn-test.true) in
    let there = place-there (submitted_to v.tenants t) c.loop-turn.turn inside in
    takes-part g.S.LineSink.gives (submission_lines v c.args.leaf) (submitted_to v.tenants t) c.loop-turn.turn c.args.sink.now c.loop-turn.sink c.hand_submission.new.sink c.loop-turn.invariant there.0 there.1
    (c.in_ok-hand_submission.ensures there.0 there.1)

pub returns : goal.returns
returns g c =
    let v = c.args.cluster.now.rows in
    let t = c.tenant_of_leaf-tenant.result in
    let entries : c.submissions.result.now.entries ≡ submitted_to v.tenants t = same-entries c.args.cluster.now c.inventory-inventory.result.now c.inventory-inventory.ensures.value t c.submissions.result.now.entries c.submissions.ensures in
    let past : length (submitted_to v.tenants t) ≤ c.loop-turn.turn = subst (λ (es : List (Name × Submission)). length es ≤ c.loop-turn.turn) entries (subst (λ n. n ≤ c.loop-turn.turn) c.next_turn-turn-end.ensures c.loop-turn-test.false) in
    let tenant : tenant_at v.paths c.args.leaf ≡ t = tenant-is c.args.cluster.now c.inventory-inventory.ensures.sound c.args.leaf c.requires t c.tenant_of_leaf-tenant.ensures.there c.tenant_of_leaf-tenant.ensures.path in
    subst (λ ls. TakesAll g.S.LineSink.gives c.args.sink.now ls c.loop-turn.sink)
    (ap (λ u. flat_map (submission_lines v c.args.leaf) (submitted_to v.tenants u)) (sym tenant) ∙ leaf-told v c.inventory-inventory.ensures.sound c.args.leaf)
    (takes-parts g.S.LineSink.gives (submission_lines v c.args.leaf) (submitted_to v.tenants t) c.loop-turn.turn c.args.sink.now c.loop-turn.sink c.loop-turn.invariant past)
