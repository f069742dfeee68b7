-- The limits of a request are those of its application's leaf and user.
use Rattle.std.proofs.Common.{◌≡◌, true, false, nat_eq, Some, refl, sym, ap, subst, ◌∙◌}
use Rattle.std.specs.Map.{lookup}
use Rattle.ynl_resource.specs.declared.amounts.Resource.{Resource}
use Rattle.ynl_inventory.specs.Parts.{app_row}
use Rattle.ynl_inventory.specs.Sound.{IsLeaf}
use Rattle.ynl_inventory.specs.layout.Paths.{HasNumber}
use Rattle.ynl_replies.proofs.admission.Submitting.{leaf-below}
use Rattle.ynl_search.specs.Leaves.{keeps_limit}
use Rattle.ynl_search.specs.Places.{allows}
use Rattle.ynl_service.proofs.Limiting.{leaf-is, limits-read}
use Rattle.ynl_service.proofs.limits.limit_refusal.Goals as goal

pub place_of-place-requires-clause-there : goal.place_of-place-requires-clause-there
place_of-place-requires-clause-there c =
    (leaf-is c.args.cluster.now c.inventory.ensures.sound c.args.placed.now.app (app_row c.app-row.result.now) (rw c.inventory.ensures.value at c.app-row.ensures)).there

pub tests_of-tests-requires-clause-below_root : goal.tests_of-tests-requires-clause-below_root
tests_of-tests-requires-clause-below_root c =
    leaf-below c.args.cluster.now c.inventory.ensures.sound c.place_of-place.result.queue
    (subst (IsLeaf c.args.cluster.now.rows) (sym c.place_of-place.ensures.queue)
    (leaf-is c.args.cluster.now c.inventory.ensures.sound c.args.placed.now.app (app_row c.app-row.result.now) (rw c.inventory.ensures.value at c.app-row.ensures)))

pub tests_of-tests-requires-clause-there : goal.tests_of-tests-requires-clause-there
tests_of-tests-requires-clause-there c = record {
  partition = c.requires.partition;
  queue =
      subst (HasNumber c.args.cluster.now.rows.paths) (sym c.place_of-place.ensures.queue)
      (leaf-is c.args.cluster.now c.inventory.ensures.sound c.args.placed.now.app (app_row c.app-row.result.now) (rw c.inventory.ensures.value at c.app-row.ensures)).there;
}

pub returns-then-not-allows : goal.returns-then-not-allows
returns-then-not-allows c =
    let w = c.args.cluster.now in
    let placed = c.args.placed.now in
    let mine = app_row c.app-row.result.now in
    limits-read w c.inventory.ensures.sound placed.app mine (rw c.inventory.ensures.value at c.app-row.ensures) c.args.p c.requires.partition
    c.args.room c.place_of-place.result c.place_of-place.ensures.queue c.place_of-place.ensures.place c.tests_of-tests.result c.tests_of-tests.ensures.tests placed.role placed.size c.requires.fits
    false _ _ (ap (allows c.place_of-place.result.headroom) (sym c.amount-size.ensures.value) ∙ sym c.allows.ensures ∙ c.if-not-allows.true) refl refl

pub returns-then-not-keeps_limit : goal.returns-then-not-keeps_limit
returns-then-not-keeps_limit c =
    let w = c.args.cluster.now in
    let placed = c.args.placed.now in
    let mine = app_row c.app-row.result.now in
    let found : lookup (nat_eq placed.app) w.rows.apps ≡ Some mine = rw c.inventory.ensures.value at c.app-row.ensures in
    limits-read w c.inventory.ensures.sound placed.app mine found c.args.p c.requires.partition
    c.args.room c.place_of-place.result c.place_of-place.ensures.queue c.place_of-place.ensures.place c.tests_of-tests.result c.tests_of-tests.ensures.tests placed.role placed.size c.requires.fits
    true false _ (ap (allows c.place_of-place.result.headroom) (sym c.amount-size.ensures.value) ∙ sym c.allows.ensures ∙ c.if-not-allows.false)
    (ap (λ (used : Resource). keeps_limit c.tests_of-tests.result used placed.size) (sym (c.used_by-used.ensures.value mine found)) ∙ sym c.keeps_limit.ensures ∙ c.if-not-keeps_limit.true) refl

pub returns-then-not-keeps_share : goal.returns-then-not-keeps_share
returns-then-not-keeps_share c =
    let w = c.args.cluster.now in
    let placed = c.args.placed.now in
    let mine = app_row c.app-row.result.now in
    let found : lookup (nat_eq placed.app) w.rows.apps ≡ Some mine = rw c.inventory.ensures.value at c.app-row.ensures in
    limits-read w c.inventory.ensures.sound placed.app mine found c.args.p c.requires.partition
    c.args.room c.place_of-place.result c.place_of-place.ensures.queue c.place_of-place.ensures.place c.tests_of-tests.result c.tests_of-tests.ensures.tests placed.role placed.size c.requires.fits
    true true false (ap (allows c.place_of-place.result.headroom) (sym c.amount-size.ensures.value) ∙ sym c.allows.ensures ∙ c.if-not-allows.false)
    (ap (λ (used : Resource). keeps_limit c.tests_of-tests.result used placed.size) (sym (c.used_by-used.ensures.value mine found)) ∙ sym c.keeps_limit.ensures ∙ c.if-not-keeps_limit.false)
    (sym c.keeps_share.ensures ∙ c.if-not-keeps_share.true)

pub returns : goal.returns
returns c =
    let w = c.args.cluster.now in
    let placed = c.args.placed.now in
    let mine = app_row c.app-row.result.now in
    let found : lookup (nat_eq placed.app) w.rows.apps ≡ Some mine = rw c.inventory.ensures.value at c.app-row.ensures in
    limits-read w c.inventory.ensures.sound placed.app mine found c.args.p c.requires.partition
    c.args.room c.place_of-place.result c.place_of-place.ensures.queue c.place_of-place.ensures.place c.tests_of-tests.result c.tests_of-tests.ensures.tests placed.role placed.size c.requires.fits
    true true true (ap (allows c.place_of-place.result.headroom) (sym c.amount-size.ensures.value) ∙ sym c.allows.ensures ∙ c.if-not-allows.false)
    (ap (λ (used : Resource). keeps_limit c.tests_of-tests.result used placed.size) (sym (c.used_by-used.ensures.value mine found)) ∙ sym c.keeps_limit.ensures ∙ c.if-not-keeps_limit.false)
    (sym c.keeps_share.ensures ∙ c.if-not-keeps_share.false)
