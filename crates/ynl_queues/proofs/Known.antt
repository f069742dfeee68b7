-- A label is configured where it is DEFAULT, or its name is among those of the labels.
use Rattle.std.proofs.Common.{◌≡◌, Bool, true, false, cond, List, [], ◌∷◌, Some, None, find, map, refl, sym}
use Rattle.std.specs.Prelude.{◌&&◌, ◌||◌, is_some}
use Rattle.std.specs.List.{list_any, list_all}
use Rattle.std.proofs.lemmas.Slice.Eq.{bytes_eq-Decides}
use Rattle.ynl_resource.specs.Names.{same_name}
use Rattle.ynl_resource.specs.declared.names.Name.{Name}
use Rattle.ynl_resource.specs.declared.labels.Label.{Label}
use Rattle.ynl_resource.specs.declared.labels.Label.TheVariants.{Unlabelled, Named}
use Rattle.ynl_model.specs.declared.labels.LabelRow.{LabelRow}
use Rattle.ynl_model.specs.Nodes.{Labels, has_label}
use Rattle.ynl_model.specs.Queues.{QueueRow, Config}
use Rattle.ynl_model.specs.Accepted.{listed, names_known_labels}
use Rattle.ynl_queues.specs.Reach.{reached, is_among}

turned : (a b : Name) → same_name a b ≡ same_name b a
turned a b = go (same_name a b) (same_name b a) refl refl
  where
    go : (x y : Bool) → same_name a b ≡ x → same_name b a ≡ y → x ≡ y
    go true true e f = refl
    go true false e f = let other : same_name b a ≡ true = (bytes_eq-Decides b a).1 (sym ((bytes_eq-Decides a b).0 e)) in cc
    go false true e f = let other : same_name a b ≡ true = (bytes_eq-Decides a b).1 (sym ((bytes_eq-Decides b a).0 f)) in cc
    go false false e f = refl

among_rows : (name : Name) (rows : List LabelRow) → is_some (find (λ row. same_name row.name name) rows) ≡ list_any (same_name name) (map (λ row. row.name) rows)
among_rows name [] = refl
among_rows name (row ∷ rows) =
    rw (turned row.name name)
    (elim (same_name name row.name) as (λ b. is_some (cond b (Some row) (find (λ (r : LabelRow). same_name r.name name) rows)) ≡ (b || list_any (same_name name) (map (λ (r : LabelRow). r.name) rows))) [ true ↦ refl | false ↦ among_rows name rows ])

pub known : (labels : Labels) (label : Label) → has_label labels label ≡ is_among (reached labels None) label
known labels Unlabelled = refl
known labels (Named name) = among_rows name labels.rows

pub all_known : (c : Config) (row : QueueRow)
    → (list_all (λ name. is_among (reached c.labels None) (Named name)) (listed row.access) && list_all (λ given. is_among (reached c.labels None) (Named given.label)) row.capacities && has_label c.labels row.leaf.default_label) ≡ names_known_labels c row
all_known c row = sym (λ i. list_all (λ name. known c.labels (Named name) i) (listed row.access) && list_all (λ given. known c.labels (Named given.label) i) row.capacities && has_label c.labels row.leaf.default_label)
