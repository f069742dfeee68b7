-- What a cluster keeps where a user becomes known, or where there is more room.
use Rattle.std.proofs.Common.{◌≡◌, ℕ, true, false, Bool, cond, List, ◌∷◌, length, sym, subst, refl}
use Rattle.std.specs.Prelude.{◌<◌}
use Rattle.std.specs.List.{list_any}
use Rattle.ynl_resource.specs.Names.{root, same_name}
use Rattle.ynl_resource.specs.declared.names.Name.{Name}
use Rattle.ynl_resource.specs.declared.paths.Path.{Path}
use Rattle.ynl_model.specs.Queues.{Config}
use Rattle.ynl_model.specs.Cluster.{State, guaranteed, masters_used, maximum, runs, used, user_used}
use Rattle.ynl_model.specs.Limits.{master_limit, user_limit, users}
use Rattle.ynl_inventory.specs.layout.Paths.{path_at}
use Rattle.ynl_inventory.specs.Changes.{with_user, with_user_known}
use Rattle.ynl_inventory.specs.Meaning.{label_at}
use Rattle.ynl_inventory.specs.Rows.{PartitionRow, Rows}
use Rattle.ynl_cluster.specs.Cluster.{ClusterView, state_in}
use Rattle.ynl_resource.specs.declared.labels.Label.TheVariants.{Unlabelled}
use Rattle.ynl_model.specs.Service.{asks_for, items_for, within_master_share, within_user_limit}
use Rattle.ynl_search.specs.notes.Notes.{Notes, Row, Table, noted_at, noted_in}
use Rattle.ynl_search.specs.notes.Shut.{AreAtLeast, AreShut, IsRight}

-- what a note is right of
abbrev Told : Type 0
Told = Config × State × List PartitionRow × List Path

-- the notes are right where these are told
abbrev AreRight : Table → Told → Type 0
AreRight notes (c, s, partitions, paths) = (p q : ℕ) → p < length partitions → q < length (root ∷ paths)
    → IsRight c s (label_at partitions p) (path_at paths q) (noted_at notes p q)

-- and those of guests, where the state and the paths are told
abbrev AreGuestsKnown : Row → State × List Path → Type 0
AreGuestsKnown row (s, paths) = (q : ℕ) → q < length (root ∷ paths) → AreAtLeast (asks_for s Unlabelled) (path_at paths q) (noted_in row q).least

-- where all that is told stays, notes stay right
pub shut-stays : (w u : ClusterView) (notes : Notes) → u.config ≡ w.config → state_in u ≡ state_in w → u.rows.partitions ≡ w.rows.partitions → u.rows.paths ≡ w.rows.paths
    → AreShut w notes → AreShut u notes
shut-stays w u notes config state partitions paths right = record {
  own = λ p q cell.
      subst (AreRight notes.own) (λ i. (sym config i, sym state i, sym partitions i, sym paths i)) (λ p q there has. right.own p q (record { partition = there; queue = has })) p q cell.partition cell.queue;
  guests = subst (AreGuestsKnown notes.guests) (λ i. (sym state i, sym paths i)) right.guests;
}

-- a known user leaves the queues and the partitions
pub user-leaves : (name : Name) (v : Rows) → ((with_user_known name v).partitions ≡ v.partitions) × ((with_user_known name v).paths ≡ v.paths)
user-leaves name v = go (list_any (λ other. same_name other name) v.users)
  where
    go : (b : Bool) → ((cond b v (with_user name v)).partitions ≡ v.partitions) × ((cond b v (with_user name v)).paths ≡ v.paths)
    go true = (refl, refl)
    go false = (refl, refl)

-- what is noted does not hang on which queues are stopped
pub stopped-shut : (w : ClusterView) (stops : List Bool) (notes : Notes) → AreShut w notes → AreShut (record w { stops = stops }) notes
unfolding used maximum guaranteed user_used masters_used runs users user_limit master_limit asks_for items_for within_user_limit within_master_share
stopped-shut w stops notes right = record {
  own = λ p q cell.
      let was = right.own p q (record { partition = cell.partition; queue = cell.queue }) in
      record { room = was.room; least = was.least };
  guests = right.guests;
}
