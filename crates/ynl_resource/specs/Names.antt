-- Names, labels, paths of queues, and ids of containers: when two are the same, and how names are ordered.
use Rattle.std.specs.Prelude.{Bool, true, false, ◌&&◌, ◌==◌, List, [], ◌∷◌, map, bytes_eq}
use Rattle.std.specs.Ordering.{nat_cmp}
use Rattle.std.specs.declared.cmp.Ordering.{Ordering}
use Rattle.std.specs.Cmp.Lexicographic.{slice_cmp, pointwise}
pub use Rattle.ynl_resource.specs.declared.names.Name.{Name}
pub use Rattle.ynl_resource.specs.declared.labels.Label.{Label}
pub use Rattle.ynl_resource.specs.declared.labels.Label.TheVariants.{Unlabelled, Named}
pub use Rattle.ynl_resource.specs.declared.paths.Path.{Path}
pub use Rattle.ynl_resource.specs.declared.ids.Id.{Id}

-- whether two names have the same bytes
abbrev pub same_name : Name → Name → Bool
same_name = bytes_eq

-- the order of names, by their bytes
abbrev pub name_order : Name → Name → Ordering
name_order = slice_cmp nat_cmp

-- whether two labels name the same partition; no label is the DEFAULT partition
abbrev pub same_label : Label → Label → Bool
same_label Unlabelled Unlabelled = true
same_label (Named a) (Named b) = same_name a b
same_label _ _ = false

-- whether a partition is DEFAULT
abbrev pub is_default : Label → Bool
is_default Unlabelled = true
is_default (Named name) = false

-- whether two ids are the same
abbrev pub same_id : Id → Id → Bool
same_id a b = same_label a.label b.label && (a.clock == b.clock)

-- root, above all queues
abbrev pub root : Path
root = []

-- the top-level queue of a tenant
abbrev pub top_level : Name → Path
top_level tenant = tenant ∷ []

-- whether two paths name the same queue
abbrev pub same_path : Path → Path → Bool
same_path = pointwise same_name

-- whether the second queue is the first or stands below it
abbrev pub is_within : Path → Path → Bool
is_within [] path = true
is_within (name ∷ queue) [] = false
is_within (name ∷ queue) (step ∷ path) = same_name name step && is_within queue path

-- the queues on the way from root, which is left out, to the queue, which comes last
abbrev pub way_to : Path → List Path
way_to [] = []
way_to (name ∷ path) = top_level name ∷ map (λ below. name ∷ below) (way_to path)

-- the tenant of a queue: the name of the top-level queue on its way
abbrev pub tenant_of : Path → Name
tenant_of [] = []
tenant_of (name ∷ path) = name
