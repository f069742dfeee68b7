-- A cluster that lines tell, one after another, and what it keeps of the lines besides.
use Rattle.std.specs.Prelude.{◌≡◌, ◌+◌, ◌<◌, ℕ, Bool, true, false, ◌&&◌, List, length, slice_index_or}
use Rattle.std.specs.List.{AllByRecursion, list_any}
use Rattle.ynl_resource.specs.Names.{same_label, same_path}
use Rattle.ynl_resource.specs.declared.labels.Label.{Label}
use Rattle.ynl_resource.specs.declared.labels.Label.TheVariants.{Unlabelled}
use Rattle.ynl_resource.specs.declared.paths.Path.{Path}
use Rattle.ynl_model.specs.Accepted.{is_accepted}
use Rattle.ynl_model.specs.Nodes.{partition_labels}
use Rattle.ynl_model.specs.Queues.{Config}
use Rattle.ynl_inventory.specs.layout.Paths.{HasNumber, path_at, paths_of}
use Rattle.ynl_cluster.specs.Cluster.{ClusterView, state_in}
use Rattle.ynl_replies.specs.declared.admission.queues.CellNumbers.{CellNumbers}
use Rattle.ynl_saved.specs.declared.lines.StateLine.{StateLine}
use Rattle.ynl_saved.specs.Restoring.{Restored, is_sound_line, restored_with}
use Rattle.ynl_saved.proofs.Restored.{IsRestored}
use Rattle.ynl_snapshots.specs.restoring.Placing.{AreLasts}
use Rattle.ynl_snapshots.specs.declared.restoring.Restoring.TheInside.{Inside}

-- the cluster so far, which partitions and which maxima had a line, the clock of the last container of each partition, and how many lines there were
pub record Telling : Type 0 where
  pub cluster : ClusterView
  pub partitions : List Label
  pub maxima : List CellNumbers
  pub lasts : List ℕ
  pub lines : ℕ

-- the same of what is kept
abbrev pub telling_of : Inside → Telling
telling_of a = record { cluster = a.cluster; partitions = a.partitions.items; maxima = a.maxima.items; lasts = a.lasts.items; lines = a.lines }

-- the path of the queue of a maximum, and the label of its partition
abbrev pub cell_path : Config → CellNumbers → Path
cell_path c cell = path_at (paths_of c) cell.queue

abbrev pub cell_label : Config → CellNumbers → Label
cell_label c cell = slice_index_or (partition_labels c.labels) cell.partition Unlabelled

-- a queue and a partition of these numbers are configured
abbrev pub IsCellIn : Config → CellNumbers → Type 0
IsCellIn c cell = HasNumber (paths_of c) cell.queue × (cell.partition < length (partition_labels c.labels))

-- whether a maximum is that of a queue and a partition
abbrev pub is_cell_of : Config → Path → Label → CellNumbers → Bool
is_cell_of c queue label cell = same_path (cell_path c cell) queue && same_label (cell_label c cell) label

-- the maxima that had a line, by numbers
pub record AreMaxima (c : Config) (cells : List CellNumbers) (maxima : List (Path × Label)) : Type 0 where
  pub there : AllByRecursion (IsCellIn c) cells
  pub same : (queue : Path) (label : Label) → list_any (is_cell_of c queue label) cells ≡ list_any (λ set. same_path set.0 queue && same_label set.1 label) maxima

-- the lines told what it is
pub record Tells (t : Telling) (r : Restored) : Type 0 where
  pub state : r.state ≡ state_in t.cluster
  pub accepted : is_accepted t.cluster.config ≡ true
  pub known : IsRestored t.cluster.config r
  pub partitions : (label : Label) → list_any (same_label label) t.partitions ≡ list_any (same_label label) r.partitions
  pub maxima : AreMaxima t.cluster.config t.maxima r.maxima
  pub lasts : AreLasts (state_in t.cluster) t.lasts
  pub lines : r.lines ≡ t.lines

-- a line is taken where it goes with what the lines before it told, and is told then; else nothing changes
pub record TakesLine (old : Telling) (r : Restored) (line : StateLine) (new : Telling) (taken : Bool) : Type 0 where
  pub sound : is_sound_line old.cluster.config r line ≡ taken
  pub config : new.cluster.config ≡ old.cluster.config
  pub told : taken ≡ true → Tells new (restored_with line r)
  pub same : taken ≡ false → new ≡ old

-- the same of a line that is not counted yet
pub record TakesKind (old : Telling) (r : Restored) (line : StateLine) (new : Telling) (taken : Bool) : Type 0 where
  pub sound : is_sound_line old.cluster.config r line ≡ taken
  pub config : new.cluster.config ≡ old.cluster.config
  pub lines : new.lines ≡ old.lines
  pub told : taken ≡ true → Tells (record new { lines = new.lines + 1 }) (restored_with line r)
  pub same : taken ≡ false → new ≡ old
