use Rattle.std.proofs.Common.{is_some, ap, map, ◌∙◌}
use Rattle.std.proofs.lemmas.Option.{slice_get-get_or}
use Rattle.ynl_cluster.specs.requests.Laws.{in_leaf}
use Rattle.ynl_sights.specs.Copying.{asked_shown, master_shown}
use Rattle.ynl_sights.specs.Rows.{shown}
use Rattle.ynl_sights.proofs.Gathered.{taken}
use Rattle.ynl_sights.proofs.Places.{app-at}
use Rattle.ynl_sights.proofs.gathering.list_of.Goals as goal

pub add_master-requires-clause-live : goal.add_master-requires-clause-live
add_master-requires-clause-live c =
    let apps = c.as_slice-apps.result.now in
    ap is_some (app-at c.args.cluster.now.rows c.inventory.ensures.sound c.args.leaf apps (c.as_slice-apps.ensures.value ∙ c.in_ok-list_apps.ensures) c.loop-i.i _ (slice_get-get_or apps c.loop-i.i 0 c.loop-i-test.true)).found

pub add_asks-requires-clause-live : goal.add_asks-requires-clause-live
add_asks-requires-clause-live c =
    let apps = c.as_slice-apps.result.now in
    ap is_some (app-at c.args.cluster.now.rows c.inventory.ensures.sound c.args.leaf apps (c.as_slice-apps.ensures.value ∙ c.in_ok-list_apps.ensures) c.loop-i.i _ (slice_get-get_or apps c.loop-i.i 0 c.loop-i-test.true)).found

pub loop-i-preserved : goal.loop-i-preserved
loop-i-preserved c =
    let v = c.args.cluster.now.rows in
    let p = c.args.p in
    let i = c.loop-i.i in
    let apps = c.as_slice-apps.result.now in
    let at = app-at v c.inventory.ensures.sound c.args.leaf apps (c.as_slice-apps.ensures.value ∙ c.in_ok-list_apps.ensures) i _ (slice_get-get_or apps i 0 c.loop-i-test.true) in
    record {
      masters =
          taken (master_shown v p) (in_leaf c.args.leaf v.apps) i _ at.row at.place
          (map shown c.loop-i.masters.items) (map shown c.add_master.new.out.items) c.loop-i.invariant.masters (c.in_ok-add_master.ensures at.row at.found);
      asks =
          taken (asked_shown v p) (in_leaf c.args.leaf v.apps) i _ at.row at.place
          (map shown c.loop-i.asks.items) (map shown c.add_asks.new.out.items) c.loop-i.invariant.asks (c.in_ok-add_asks.ensures at.row at.found);
    }
