use Rattle.std.proofs.Common.{◌≡◌, [], true, sym, subst, refl, ap, subst, sym}
use Rattle.std.specs.Prelude.{slice_index_or}
use Rattle.ynl_model.specs.Applications.{Application, new_app}
use Rattle.ynl_resource.specs.declared.names.Name.{Name}
use Rattle.ynl_inventory.specs.layout.Paths.{HasNumber, path_at}
use Rattle.ynl_inventory.specs.declared.submission.NewSubmission.{NewSubmission}
use Rattle.ynl_inventory.specs.Meaning.{has_none_below}
use Rattle.ynl_inventory.specs.Sound.{CanSubmit, IsLeaf}
use Rattle.ynl_cluster.specs.Cluster.{ClusterView, label_of, path_of}
use Rattle.ynl_search.proofs.notes.GuestKeeping.{submit-guests}
use Rattle.ynl_search.proofs.notes.Keeping.{submit-right}
use Rattle.ynl_search.proofs.notes.upkeep.submit.Goals as goal

-- the leaf is one after the change
leaf-stays : (w u : ClusterView) (name : Name) (new : NewSubmission) → CanSubmit w.rows name new → u.rows.paths ≡ w.rows.paths → IsLeaf u.rows new.leaf
leaf-stays w u name new can same = record {
  there = subst (λ paths. HasNumber paths new.leaf) (sym same) can.there;
  none_below = subst (λ paths. has_none_below paths (path_at paths new.leaf) ≡ true) (sym same) can.leaf;
}

pub change_way-requires-clause-leaf : goal.change_way-requires-clause-leaf
change_way-requires-clause-leaf c = leaf-stays c.args.cluster.now c.submit.new.self c.args.name.now c.args.new.now c.requires.can (ap (λ (w : ClusterView). w.rows.paths) c.in_ok-app.ensures.rows.1)

pub returns-clause-shut : goal.returns-clause-shut
returns-clause-shut c = λ shut.
    let w = c.args.cluster.now in
    let u = c.submit.new.self in
    let new = c.args.new.now in
    let way = c.change_way.ensures in
    let config = ap (λ (w : ClusterView). w.config) c.in_ok-app.ensures.rows.1 in
    let app : Application = new_app (path_of w new.leaf) c.args.name.now (slice_index_or w.rows.users new.user []) (label_of w new.home) new.master_size in
    record {
      own =
          submit-right w u c.inventory.ensures.sound way.sound c.requires.working c.inventory.ensures.configured way.configured config c.args.shut.now.own c.change_way.new.shut.own
          c.args.name.now new c.requires.can app refl refl c.in_ok-app.ensures.state (leaf-stays w u c.args.name.now new c.requires.can (ap (λ (w : ClusterView). w.rows.paths) c.in_ok-app.ensures.rows.1)) way.left shut.own;
      guests =
          submit-guests w u c.inventory.ensures.sound way.sound c.requires.working c.inventory.ensures.configured way.configured config c.args.shut.now.guests c.change_way.new.shut.guests
          new.leaf app refl c.in_ok-app.ensures.state way.guests shut.guests;
    }
