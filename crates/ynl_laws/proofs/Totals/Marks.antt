-- The mark of an application's master through the changes.
use Rattle.std.proofs.Common.{◌≡◌, Bool, true, false, cond, List, [], ◌∷◌, Option, Some, None, option_map, find, refl, sym, ap, ◌∙◌}
use Rattle.std.specs.Option.{option_map_or}
use Rattle.ynl_resource.specs.Tables.{without}
use Rattle.ynl_resource.specs.Names.{same_label, tenant_of}
use Rattle.ynl_resource.specs.declared.names.Name.{Name}
use Rattle.ynl_resource.specs.declared.labels.Label.{Label}
use Rattle.ynl_model.specs.declared.containers.Placed.{Placed as Container}
use Rattle.ynl_model.specs.Queues.{Config}
use Rattle.ynl_model.specs.Applications.{Application}
use Rattle.ynl_model.specs.Cluster.{State, Partition, is_partition, in_partition, next_clock, containers_on, is_of}
use Rattle.ynl_model.specs.Changes.{changed_at, all_own, app_finishes}
use Rattle.ynl_laws.specs.Working.{on_in, IsOrdered}
use Rattle.ynl_laws.specs.Finishing.{clock_rises, clocks_rise, without_own, all_without_own}
use Rattle.ynl_laws.proofs.Events.Kept.{by-row}
use Rattle.ynl_laws.proofs.Lists.{find-through}
use Rattle.ynl_laws.proofs.Lives.Finished.{own-end}
use Rattle.ynl_laws.proofs.Names.{same-label_path}
use Rattle.ynl_laws.proofs.Totals.Placing.{label_sym}

-- ---- the containers of a partition after a change

-- one partition's containers are changed, by a change that leaves none where there was none
pub on-changed : (label p : Label) (at : Partition → Partition) (change : List Container → List Container) → ((row : Partition) → (at row).label ≡ row.label) → ((row : Partition) → (at row).containers ≡ change row.containers) → change [] ≡ [] →
    (rows : List Partition) → on_in (in_partition label at rows) p ≡ cond (same_label label p) (change (on_in rows p)) (on_in rows p)
on-changed label p at change keeps is none rows =
    by-row (λ a b. b ≡ cond (same_label label p) (change a) a) (λ row. row.containers) [] label p at keeps rows
    (λ row e here. by row (same_label row.label label) (same_label label p) (label_sym row.label label ∙ ap (same_label label) (same-label_path row.label p here)))
    (empty (same_label label p))
  where
    by : (row : Partition) (a b : Bool) → a ≡ b → (cond a (at row) row).containers ≡ cond b (change row.containers) row.containers
    by row true b same = is row ∙ ap (λ b. cond b (change row.containers) row.containers) same
    by row false b same = ap (λ b. cond b (change row.containers) row.containers) same

    empty : (b : Bool) → [] ≡ cond b (change []) []
    empty true = sym none
    empty false = refl

-- while clocks rise all containers stay
on-rises : (c : Config) (ks : List Container) (s : State) (p : Label) → containers_on (clocks_rise c ks s) p ≡ containers_on s p
unfolding changed_at
on-rises c [] s p = refl
on-rises c (k ∷ ks) s p =
    on-rises c ks (clock_rises c s k) p
    ∙ on-changed k.id.label p (λ row. record row { clock = next_clock c.labels s k.id.label; containers = row.containers }) (λ xs. xs) (λ row. refl) (λ row. refl) refl s.partitions
    ∙ either (same_label k.id.label p)
  where
    either : (b : Bool) → cond b (containers_on s p) (containers_on s p) ≡ containers_on s p
    either true = refl
    either false = refl

on-own : (tenant name : Name) (s : State) (p : Label) → containers_on (all_without_own tenant name s) p ≡ without (is_of tenant name) (containers_on s p)
on-own tenant name s p = ap (λ o. option_map_or (λ (row : Partition). row.containers) o []) (find-through (without_own tenant name) (is_partition p) (λ row. refl) s.partitions) ∙ go (find (is_partition p) s.partitions)
  where
    go : (o : Option Partition) → option_map_or (λ (row : Partition). row.containers) (option_map (without_own tenant name) o) [] ≡ without (is_of tenant name) (option_map_or (λ (row : Partition). row.containers) o [])
    go None = refl
    go (Some row) = refl

-- an application finishes, and its containers are gone
pub on-finish : (c : Config) (s : State) (found : Application) → IsOrdered c s → (p : Label) → containers_on (app_finishes c found s) p ≡ without (is_of (tenant_of found.leaf) found.name) (containers_on s p)
unfolding app_finishes
on-finish c s found ordered p =
    ap (λ u. containers_on u p) (own-end c s (tenant_of found.leaf) found.name ordered)
    ∙ on-own (tenant_of found.leaf) found.name (clocks_rise c (all_own s (tenant_of found.leaf) found.name) s) p
    ∙ ap (without (is_of (tenant_of found.leaf) found.name)) (on-rises c (all_own s (tenant_of found.leaf) found.name) s p)
