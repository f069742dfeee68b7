-- The number of an application's master is read from its part.
use Rattle.std.proofs.Common.{◌≡◌, ◌<◌, IfSome, is_some, ℕ, Bool, List, find, length, Option, Some, None, option_map, nat_eq, refl, sym, ap, subst, ◌∙◌}
use Rattle.std.specs.List.{list_any}
use Rattle.std.specs.Map.{lookup}
use Rattle.std.proofs.lemmas.List.{length-map}
use Rattle.ynl_tables.specs.declared.apps.app.AppRow.{AppRow as AppPart}
use Rattle.ynl_tables.specs.declared.containers.container.Container.{Container}
use Rattle.ynl_tables.proofs.containers.Rows.{lookup-of_rows}
use Rattle.ynl_inventory.specs.declared.inventory.Inventory.TheInside.{Inside}
use Rattle.ynl_inventory.specs.Rows.{Rows, AppRow}
use Rattle.ynl_inventory.specs.Apps.{containers_of, is_master_of, master_in, master_of, runs_at}
use Rattle.ynl_inventory.specs.Parts.{Held, held_of, partition_row, app_row, IsInventory}
use Rattle.ynl_inventory.proofs.Lookups.{place-there}
use Rattle.ynl_inventory.proofs.ChainsRead.{containers-are}
use Rattle.ynl_inventory.proofs.Masters.{any-found}

-- an application has a master just where it runs
has-master : (n : ℕ) (es : List (ℕ × Container)) → is_some (master_in n es) ≡ list_any (is_master_of n) es
has-master n es = go (find (is_master_of n) es) ∙ sym (any-found (is_master_of n) es)
  where
    go : (o : Option (ℕ × Container)) → is_some (option_map (λ (e : ℕ × Container). e.0) o) ≡ is_some o
    go None = refl
    go (Some e) = refl

module _ (a : Inside) (h : Held) (view : held_of a ≡ h) (inv : IsInventory a) (app : ℕ) (part : AppPart) (found : lookup (nat_eq app) a.apps.entries ≡ Some part) where
  abbrev v : Rows
  v = (held_of a).rows

  row-at : lookup (nat_eq app) v.apps ≡ Some (app_row part)
  row-at = lookup-of_rows app_row app a.apps.entries ∙ ap (option_map app_row) found

  own : part.master ≡ master_of v app (app_row part)
  own =
      let has : part.home < length a.partitions.items = subst (λ n. part.home < n) (length-map a.partitions.items partition_row) (inv.sound.apps app (app_row part) row-at).home in
      let home = place-there a.partitions.items part.home has in
      inv.linked.master app part home.0 found home.1 ∙ sym (ap (master_in app) (containers-are a part.home home.0 home.1))

  -- the master's number
  pub master-read : IfSome (lookup (nat_eq app) h.rows.apps) (λ row. part.master ≡ master_of h.rows app row)
  master-read =
      subst (λ (h : Held). IfSome (lookup (nat_eq app) h.rows.apps) (λ row. part.master ≡ master_of h.rows app row)) view
      (subst (λ o. IfSome o (λ (row : AppRow). part.master ≡ master_of v app row)) (sym row-at) own)

  -- and whether there is one
  pub runs-read : (b : Bool) → b ≡ is_some part.master → IfSome (lookup (nat_eq app) h.rows.apps) (λ row. b ≡ runs_at h.rows app row)
  runs-read b is =
      subst (λ (h : Held). IfSome (lookup (nat_eq app) h.rows.apps) (λ row. b ≡ runs_at h.rows app row)) view
      (subst (λ o. IfSome o (λ (row : AppRow). b ≡ runs_at v app row)) (sym row-at) (is ∙ ap is_some own ∙ has-master app (containers_of v part.home)))
