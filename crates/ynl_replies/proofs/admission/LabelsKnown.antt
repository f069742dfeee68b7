-- The labels of partitions are those that are configured.
use Rattle.std.proofs.Common.{◌≡◌, ◌≢◌, ◌<◌, ℕ, zero, suc, Bool, true, false, cond, ◌||◌, is_some, IfNone, IfSome, List, [], ◌∷◌, length, map, find, Option, None, Some, refl, sym, ap, subst, ◌∙◌, arith, true≢false}
use Rattle.std.specs.List.{list_any}
use Rattle.ynl_resource.specs.Names.{same_label, same_name}
use Rattle.ynl_resource.specs.declared.names.Name.{Name}
use Rattle.ynl_resource.specs.declared.labels.Label.{Label}
use Rattle.ynl_resource.specs.declared.labels.Label.TheVariants.{Named, Unlabelled}
use Rattle.ynl_model.specs.declared.labels.LabelRow.{LabelRow}
use Rattle.ynl_model.specs.Nodes.{Labels, has_label, partition_labels}
use Rattle.ynl_model.specs.Queues.{Config}
use Rattle.ynl_laws.proofs.Lists.{any-later}
use Rattle.ynl_laws.proofs.Names.{same-label_path, same-label_self, same-name_self, same-name_sym}
use Rattle.ynl_inventory.specs.Rows.{Rows, PartitionRow}
use Rattle.ynl_inventory.specs.Meaning.{label_at}
use Rattle.ynl_inventory.specs.Parts.{Held}
use Rattle.ynl_inventory.specs.Sound.{HasPartition, IsFor}
use Rattle.ynl_inventory.proofs.Finding.{not-true}
use Rattle.ynl_cluster.specs.Cluster.{ClusterView, held_in}

-- two names are the same in either order
name-turned : (a b : Name) → same_name a b ≡ same_name b a
name-turned a b = go (same_name b a) refl
  where
    go : (t : Bool) → same_name b a ≡ t → same_name a b ≡ t
    go true same = ap (same_name a) (same-name_sym b a same) ∙ same-name_self a
    go false apart = not-true (same_name a b) (λ same. true≢false (sym (ap (same_name b) (same-name_sym a b same) ∙ same-name_self b) ∙ apart))

-- a name is among the labels where it has a row
named-among : (name : Name) (rows : List LabelRow) → list_any (same_label (Named name)) (map (λ row. Named row.name) rows) ≡ is_some (find (λ row. same_name row.name name) rows)
named-among name [] = refl
named-among name (row ∷ rows) =
    ap (λ b. b || list_any (same_label (Named name)) (map (λ (row : LabelRow). Named row.name) rows)) (name-turned name row.name)
    ∙ go (same_name row.name name) (named-among name rows)
  where
    go : (b : Bool) → list_any (same_label (Named name)) (map (λ row. Named row.name) rows) ≡ is_some (find (λ row. same_name row.name name) rows)
        → (b || list_any (same_label (Named name)) (map (λ row. Named row.name) rows)) ≡ is_some (cond b (Some row) (find (λ row. same_name row.name name) rows))
    go true rest = refl
    go false rest = rest

-- a label is configured where it is a partition's
among-labels : (labels : Labels) (label : Label) → list_any (same_label label) (partition_labels labels) ≡ has_label labels label
among-labels labels Unlabelled = refl
among-labels labels (Named name) = named-among name labels.rows

-- the label of a partition is among those of all
label-among : (rows : List PartitionRow) (p : ℕ) (label : Label) → p < length rows → label_at rows p ≡ label → list_any (same_label label) (map (λ row. row.label) rows) ≡ true
label-among [] p label inside is = absurd (omega arith)
label-among (row ∷ rows) zero label inside is = ap (λ b. b || list_any (same_label label) (map (λ (row : PartitionRow). row.label) rows)) (ap (same_label label) is ∙ same-label_self label)
label-among (row ∷ rows) (suc p) label inside is =
    any-later (same_label label) row.label (map (λ (row : PartitionRow). row.label) rows) (label-among rows p label (omega (arith, inside)) is)

-- a label of no partition is not
none-among : (rows : List PartitionRow) (label : Label) → ((p : ℕ) → p < length rows → label_at rows p ≢ label) → list_any (same_label label) (map (λ row. row.label) rows) ≡ false
none-among [] label none = refl
none-among (row ∷ rows) label none =
    ap (λ b. b || list_any (same_label label) (map (λ (row : PartitionRow). row.label) rows))
    (not-true (same_label label row.label) (λ same. none 0 (omega arith) (sym (same-label_path label row.label same))))
    ∙ none-among rows label (λ p inside. none (suc p) (omega (arith, inside)))

module _ (c : Config) (v : Rows) (is : IsFor c v) (label : Label) where
  -- the label of a partition is configured
  pub label-known : (p : ℕ) → HasPartition v p → label_at v.partitions p ≡ label → has_label c.labels label ≡ true
  label-known p there own = sym (among-labels c.labels label) ∙ ap (list_any (same_label label)) (sym is.labels) ∙ label-among v.partitions p label there own

  -- and one of no partition is not
  pub label-unknown : ((p : ℕ) → HasPartition v p → label_at v.partitions p ≢ label) → has_label c.labels label ≡ false
  label-unknown none = sym (among-labels c.labels label) ∙ ap (list_any (same_label label)) (sym is.labels) ∙ none-among v.partitions label none

-- so a label is configured where a partition of it is found, in what a cluster holds
pub labels-read : (w : ClusterView) → IsFor w.config w.rows → (label : Label) (h : Held) → h ≡ held_in w → (o : Option ℕ) → IfSome o (HasPartition h.rows) → IfSome o (λ p. label_at h.rows.partitions p ≡ label)
    → IfNone o ((p : ℕ) → p < length h.rows.partitions → label_at h.rows.partitions p ≢ label) → is_some o ≡ has_label w.config.labels label
labels-read w is label h value None there own none =
    sym (label-unknown w.config w.rows is label (subst (λ (h : Held). (p : ℕ) → p < length h.rows.partitions → label_at h.rows.partitions p ≢ label) value none))
labels-read w is label h value (Some p) there own none =
    sym (label-known w.config w.rows is label p (subst (λ (h : Held). HasPartition h.rows p) value there) (subst (λ (h : Held). label_at h.rows.partitions p ≡ label) value own))
