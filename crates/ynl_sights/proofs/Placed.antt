-- A container is placed for an application: what is wanted of each other leaf stays as it is.
use Rattle.std.proofs.Common.{◌≡◌, ◌≢◌, ℕ, cond, nat_eq, List, [], ◌∷◌, ◌++◌, slice_get, Option, None, Some, refl, sym, ap, ◌∙◌}
use Rattle.std.specs.List.{list_any}
use Rattle.std.specs.Map.{lookup}
use Rattle.std.specs.Option.{option_map_or}
use Rattle.ynl_resource.specs.Amounts.{nothing, plus}
use Rattle.ynl_resource.specs.declared.amounts.Resource.{Resource}
use Rattle.ynl_laws.proofs.Lists.{any-other}
use Rattle.ynl_tables.specs.declared.containers.container.Container.{Container}
use Rattle.ynl_tables.specs.declared.containers.container.Role.{Role}
use Rattle.ynl_inventory.specs.Rows.{Rows, PartitionRow, AppRow}
use Rattle.ynl_inventory.specs.Apps.{containers_of, is_master_of, runs_at}
use Rattle.ynl_inventory.specs.Changes.{next_container, partition_of_node, ticked, with_placed, with_taken}
use Rattle.ynl_inventory.specs.Sound.{IsSound}
use Rattle.ynl_inventory.proofs.Lookups.{read-at}
use Rattle.ynl_inventory.proofs.Naming.{taken-leaf}
use Rattle.ynl_inventory.proofs.Used.{nothing-plus}
use Rattle.ynl_cluster.specs.seating.Seating.{counts, user_use}
use Rattle.ynl_cluster.proofs.seating.Carrying.{use-of}
use Rattle.ynl_cluster.proofs.seating.RowChanges.{taken-keeps}
use Rattle.ynl_cluster.proofs.seating.Sums.{sum, sum-push}
use Rattle.ynl_sights.proofs.Others.{apps-stay, no-master, no-use}
use Rattle.ynl_sights.proofs.Staying.{StaysAt}

-- what is read of a row's part is read of the row
read : {X Y Z : Type 0} (f : Y → Z) (g : X → Y) (d : Y) (o : Option X) → f (option_map_or g o d) ≡ option_map_or (λ x. f (g x)) o (f d)
read f g d None = refl
read f g d (Some x) = refl

module _ (v : Rows) (sound : IsSound v) (number node app : ℕ) (role : Role) (size : Resource) (row : AppRow) (found : lookup (nat_eq app) v.apps ≡ Some row) (q : ℕ)
    (other : q ≢ row.leaf) where
  abbrev after : Rows
  after = with_placed number node app role size v

  abbrev new : Container
  new = next_container v node app role size

  -- what does not see the container reads each partition as before
  unseen : {Y : Type 0} (f : List (ℕ × Container) → Y) → ((es : List (ℕ × Container)) → f (es ++ (number, new) ∷ []) ≡ f es) → (p : ℕ) → f (containers_of after p) ≡ f (containers_of v p)
  unseen f same p =
      read f (λ (r : PartitionRow). r.containers) [] (slice_get after.partitions p)
      ∙ read-at (λ (r : PartitionRow). f r.containers) (f []) p (partition_of_node v.nodes node) (ticked (λ es. es ++ (number, new) ∷ [])) (λ r. same r.containers) v.partitions
      ∙ sym (read f (λ (r : PartitionRow). r.containers) [] (slice_get v.partitions p))

  -- the leaf's applications run if they did
  runs-stay : (e : ℕ × AppRow) → lookup (nat_eq e.0) v.apps ≡ Some e.1 → e.1.leaf ≡ q → runs_at after e.0 e.1 ≡ runs_at v e.0 e.1
  runs-stay e at own = unseen (list_any (is_master_of e.0)) (λ es. any-other (is_master_of e.0) es (number, new) (no-master v number new row found q other e.0 e.1 at own)) e.1.home

  -- and their users use the same
  use-stays : (p user : ℕ) → user_use after p q user ≡ user_use v p q user
  use-stays p user =
      use-of v after app (with_taken role) (taken-keeps role) refl p q user
      ∙ unseen (sum (counts v p q user))
      (λ es.
      sum-push (counts v p q user) es number new ∙ ap (λ b. plus (sum (counts v p q user) es) (cond b size nothing)) (no-use v number new row found q other p user)
      ∙ nothing-plus (sum (counts v p q user) es)) p

  pub placed-elsewhere : StaysAt v sound after q
  placed-elsewhere = record {
    apps = apps-stay v app row found q other sound (with_taken role) (taken-leaf role);
    runs = λ e its. runs-stay e its.found its.own;
    uses = use-stays;
    names = λ e its. refl;
    users = λ e its. refl;
  }
