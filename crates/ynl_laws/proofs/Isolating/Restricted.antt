-- In the configuration of one tenant alone that tenant's queues are what they were.
use Rattle.std.proofs.Common.{◌≡◌, refl, ap, ◌∙◌, true, cond, not, ◌&&◌, ◌||◌, List, is_some}
use Rattle.std.specs.List.{list_any}
use Rattle.std.specs.Option.{option_map_or}
use Rattle.ynl_resource.specs.Amounts.{scale_floor}
use Rattle.ynl_resource.specs.declared.amounts.Resource.{Resource}
use Rattle.ynl_resource.specs.Names.{same_name, top_level, root, same_path, is_within, way_to}
use Rattle.ynl_resource.specs.declared.names.Name.{Name}
use Rattle.ynl_resource.specs.declared.labels.Label.{Label}
use Rattle.ynl_resource.specs.declared.labels.Label.TheVariants.{Unlabelled, Named}
use Rattle.ynl_resource.specs.declared.paths.Path.{Path}
use Rattle.ynl_model.specs.Queues.{QueueRow, Config, Access, Inherited, AllLabels, Listed, given, queue_row, setting, is_queue, is_leaf, accessible, may_use, written_capacity, written_maximum, capacity_on, configured_maximum, guaranteed}
use Rattle.ynl_resource.specs.Ranges.{whole}
use Rattle.ynl_model.specs.View.{restrict}
use Rattle.ynl_laws.proofs.Lists.{any-filter, fold-same, find-filter}
use Rattle.ynl_laws.proofs.Names.{same-path, way-within, within-trans}
use Rattle.std.proofs.lemmas.Bool.{and_parts}

-- ---- queues of the tenant

module _ (c : Config) (t : Name) where
  row-restrict : (q : Path) → is_within (top_level t) q ≡ true → queue_row (restrict c t) q ≡ queue_row c q
  row-restrict q h = find-filter (λ row. same_path row.path q) (λ row. is_within (top_level t) row.path)
      (λ row e. ap (is_within (top_level t)) (same-path row.path q e) ∙ h) c.queues

  pub setting-restrict : {A : Type 0} (field : QueueRow → A) (none : A) (q : Path) → is_within (top_level t) q ≡ true → setting field none (restrict c t) q ≡ setting field none c q
  setting-restrict field none q h = ap (λ row. option_map_or field row none) (row-restrict q h)

  given-restrict : (above : List Name) (access : Access) → given above (restrict c t) access ≡ given above c access
  given-restrict above Inherited = refl
  given-restrict above AllLabels = refl
  given-restrict above (Listed names) = refl

  accessible-restrict : (q : Path) → is_within (top_level t) q ≡ true → accessible (restrict c t) q ≡ accessible c q
  unfolding accessible
  accessible-restrict q h = fold-same (is_within (top_level t)) _ _
      (λ above step w. given-restrict above (setting (λ row. row.access) Inherited (restrict c t) step) ∙ ap (given above c) (setting-restrict (λ row. row.access) Inherited step w)) (way_to q) (way-within t q h) _

  pub may_use-restrict : (q : Path) (label : Label) → is_within (top_level t) q ≡ true → may_use (restrict c t) q label ≡ may_use c q label
  unfolding may_use
  may_use-restrict q Unlabelled h = refl
  may_use-restrict q (Named name) h = ap (list_any (same_name name)) (accessible-restrict q h)

  pub capacity-restrict : (q : Path) (label : Label) → is_within (top_level t) q ≡ true → capacity_on (restrict c t) q label ≡ capacity_on c q label
  unfolding capacity_on
  capacity-restrict q label h = λ i. cond (may_use-restrict q label h i) (setting-restrict (written_capacity label) 0 q h i) 0

  pub configured-restrict : (q : Path) (label : Label) → is_within (top_level t) q ≡ true → configured_maximum (restrict c t) q label ≡ configured_maximum c q label
  unfolding configured_maximum
  configured-restrict q label h = λ i. cond (may_use-restrict q label h i) (setting-restrict (written_maximum label) 0 q h i) 0

  pub guaranteed-restrict : (q : Path) (label : Label) (total : Resource) → is_within (top_level t) q ≡ true → guaranteed (restrict c t) q label total ≡ guaranteed c q label total
  unfolding guaranteed
  guaranteed-restrict q label total h = fold-same (is_within (top_level t)) _ _
      (λ above step w. ap (λ share. scale_floor above share whole) (capacity-restrict step label w)) (way_to q) (way-within t q h) total

  pub is_queue-restrict : (q : Path) → is_within (top_level t) q ≡ true → is_queue (restrict c t) q ≡ is_queue c q
  is_queue-restrict q h = ap (λ row. same_path q root || is_some row) (row-restrict q h)

  pub is_leaf-restrict : (q : Path) → is_within (top_level t) q ≡ true → is_leaf (restrict c t) q ≡ is_leaf c q
  unfolding is_leaf
  is_leaf-restrict q h = ap (λ below. not (same_path q root) && not below) (any-filter _ (λ row. is_within (top_level t) row.path)
      (λ row e. within-trans (top_level t) q row.path h (and_parts _ _ e).0) c.queues)
