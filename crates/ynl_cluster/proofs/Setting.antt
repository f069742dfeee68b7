-- What is set of queues is set in the model.
use Rattle.std.proofs.Common.{◌≡◌, ℕ, zero, suc, ◌-◌, ◌<◌, Bool, List, [], ◌∷◌, length, refl, sym, ap, subst, ◌∙◌}
use Rattle.std.specs.Prelude.{slice_set}
use Rattle.ynl_model.specs.declared.queues.StopRow.{StopRow}
use Rattle.ynl_model.specs.declared.queues.MaximumRow.{MaximumRow}
use Rattle.ynl_model.specs.Nodes.{partition_labels}
use Rattle.ynl_model.specs.Queues.{Config, set_maximum, set_stop}
use Rattle.ynl_inventory.specs.layout.Paths.{HasNumber, path_at, paths_of}
use Rattle.ynl_inventory.specs.declared.layout.settings.shares.Share.{Share}
use Rattle.ynl_inventory.specs.layout.settings.Shares.{shares_on, with_at, with_maximum, HasCell}
use Rattle.ynl_inventory.proofs.layout.settings.MaximaMean.{maximum-set, read-capacity}
use Rattle.ynl_inventory.proofs.layout.settings.StopsMean.{stops-set}
use Rattle.ynl_cluster.specs.declared.cluster.Cluster.TheInside.{Inside}
use Rattle.ynl_cluster.specs.Cluster.{ClusterView, label_of, path_of, state_in, IsCell}
use Rattle.ynl_cluster.specs.Whole.{view_of, AreSettings, IsCluster}
use Rattle.ynl_cluster.proofs.Reading.{cell-there, in-labels, in-paths, label-is, labels-apart, tree}

-- as many lists, as long as before
length-with : {X : Type 0} (place : ℕ) (change : X → X) (xs : List X) → length (with_at place change xs) ≡ length xs
length-with place change [] = refl
length-with zero change (x ∷ xs) = refl
length-with (suc place) change (x ∷ xs) = ap suc (length-with place change xs)

row-with : (p q : ℕ) (change : Share → Share) (rows : List (List Share)) (r : ℕ) → length (shares_on (with_at p (with_at q change) rows) r) ≡ length (shares_on rows r)
row-with p q change [] r = refl
row-with zero q change (row ∷ rows) zero = length-with q change row
row-with zero q change (row ∷ rows) (suc r) = refl
row-with (suc p) q change (row ∷ rows) zero = refl
row-with (suc p) q change (row ∷ rows) (suc r) = row-with p q change rows r

-- and where a maximum is
pub maximum-settings : (c : Config) (shares : List (List Share)) (stops : List Bool) (p q share : ℕ) → HasCell shares p q → AreSettings c shares stops → AreSettings c (with_maximum p q share shares) stops
maximum-settings c shares stops p q share cell is = record {
  cells = λ r n inside there. record {
    partition = subst (λ (k : ℕ). r < k) (sym (length-with p _ shares)) (is.cells r n inside there).partition;
    queue = subst (λ (k : ℕ). n < k) (sym (row-with p q _ shares r)) (is.cells r n inside there).queue;
  };
  capacities = λ r n inside above there. read-capacity shares p q share cell r n ∙ is.capacities r n inside above there;
  marks = is.marks;
}

module _ (a : Inside) (is : IsCluster a) (w : ClusterView) (view : view_of a ≡ w) (q : ℕ) (above : 0 < q) (has : HasNumber w.rows.paths q) where
  -- the model's mark is set
  pub stopped-means : (stopped : Bool) → state_in (record (view_of a) { stops = slice_set a.stops (q - 1) stopped }) ≡ record (state_in w) { stops = set_stop (path_of w q) stopped (state_in w).stops }
  stopped-means stopped =
      ap (λ (rows : List StopRow). record (state_in (view_of a)) { stops = rows })
      (stops-set (paths_of a.config) a.stops (tree a is w view) q stopped above (in-paths a is w view q has)
      ∙ ap (λ ps. set_stop (path_at ps q) stopped (state_in (view_of a)).stops) (sym is.parts.configured.paths))
      ∙ ap (λ (w : ClusterView). record (state_in w) { stops = set_stop (path_of w q) stopped (state_in w).stops }) view

  -- the model's maximum is set
  pub maximum-means : (p share : ℕ) → IsCell w p q
      → state_in (record (view_of a) { shares = with_maximum p q share a.shares }) ≡ record (state_in w) { maxima = set_maximum (path_of w q) (label_of w p) share (state_in w).maxima }
  maximum-means p share cell =
      ap (λ (rows : List MaximumRow). record (state_in (view_of a)) { maxima = rows })
      (maximum-set (paths_of a.config) (tree a is w view) (partition_labels a.config.labels) (labels-apart a is w view) p q (in-labels a is w view p cell.partition) above (in-paths a is w view q has) a.shares share (cell-there a is w view p q cell)
      ∙ (λ i. set_maximum (path_at (sym is.parts.configured.paths i) q) (sym (label-is a is w view p) i) share (state_in (view_of a)).maxima))
      ∙ ap (λ (w : ClusterView). record (state_in w) { maxima = set_maximum (path_of w q) (label_of w p) share (state_in w).maxima }) view
