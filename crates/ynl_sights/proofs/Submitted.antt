-- A user comes to be known, and an application is submitted: what is wanted of other leaves stays as it is.
use Rattle.std.proofs.Common.{◌≡◌, ◌≢◌, ◌<◌, ℕ, zero, suc, Bool, true, false, cond, not, ◌&&◌, List, [], ◌∷◌, ◌++◌, length, slice_get, Option, None, Some, nat_eq, is_some, append-nil, refl, sym, ap, ◌∙◌, arith, true≢false}
use Rattle.std.specs.Prelude.{slice_index_or}
use Rattle.std.specs.List.{AllByRecursion, list_any}
use Rattle.std.specs.Map.{lookup}
use Rattle.std.specs.Option.{option_map_or}
use Rattle.std.proofs.lemmas.List.Elements.{filter-append}
use Rattle.std.proofs.lemmas.Option.{slice_get_within}
use Rattle.ynl_resource.specs.Amounts.{total_of}
use Rattle.ynl_resource.specs.Names.{same_name}
use Rattle.ynl_resource.specs.declared.names.Name.{Name}
use Rattle.ynl_resource.specs.declared.amounts.Resource.{Resource}
use Rattle.ynl_laws.proofs.Lists.{Each-append, filter-agree}
use Rattle.ynl_slots.specs.Slots.{IsLive, IsUnused}
use Rattle.ynl_slots.proofs.Entries.{other as differ}
use Rattle.ynl_slots.proofs.Lookups.{lookup-unused}
use Rattle.ynl_tables.specs.declared.apps.app.Tickets.{Tickets}
use Rattle.ynl_tables.specs.declared.containers.container.Container.{Container}
use Rattle.ynl_inventory.specs.Rows.{Rows, AppRow, PartitionRow}
use Rattle.ynl_inventory.specs.Apps.{containers_of, is_guest_role}
use Rattle.ynl_inventory.specs.Changes.{new_app, with_submitted, with_tickets, with_user, with_user_known}
use Rattle.ynl_inventory.specs.Meaning.{submitted_to}
use Rattle.ynl_inventory.specs.Sound.{IsSound}
use Rattle.ynl_inventory.proofs.Lookups.{changed-other, pushed-live}
use Rattle.ynl_inventory.proofs.Naming.{app_name-push}
use Rattle.ynl_inventory.proofs.Updates.{each-number}
use Rattle.ynl_cluster.specs.requests.Laws.{in_leaf}
use Rattle.ynl_cluster.specs.seating.Seating.{counts, is_of}
use Rattle.ynl_sights.proofs.Others.{kept}
use Rattle.ynl_sights.proofs.Staying.{StaysAt}

-- ---- a user

first-read : {X : Type 0} (xs ys : List X) (i : ℕ) (d : X) → i < length xs → slice_index_or (xs ++ ys) i d ≡ slice_index_or xs i d
first-read [] ys i d inside = absurd (omega (arith, inside))
first-read (x ∷ xs) ys zero d inside = refl
first-read (x ∷ xs) ys (suc i) d inside = first-read xs ys i d (omega (arith, inside))

pub known-stays : (name : Name) (v : Rows) (sound : IsSound v) (q : ℕ) → StaysAt v sound (with_user_known name v) q
known-stays name v sound q = go (list_any (λ other. same_name other name) v.users)
  where
    go : (b : Bool) → StaysAt v sound (cond b v (with_user name v)) q
    go true = record { apps = refl; runs = λ e its. refl; uses = λ p user. refl; names = λ e its. refl; users = λ e its. refl }
    go false = record {
      apps = refl;
      runs = λ e its. refl;
      uses = λ p user. refl;
      names = λ e its. refl;
      users = λ e its. first-read v.users (name ∷ []) e.1.user [] (sound.apps e.0 e.1 its.found).user;
    }

-- ---- an application

module _ (v : Rows) (sound : IsSound v) (number : ℕ) (unused : IsUnused number v.apps) (tickets : Tickets) (name : Name) (tenant leaf user home : ℕ) (master : Resource) (q : ℕ) (other : q ≢ leaf) where
  abbrev submitted : Rows
  submitted = with_submitted number name tenant leaf user home master v

  abbrev after : Rows
  after = with_tickets number tickets submitted

  abbrev change : AppRow → AppRow
  change r = record r { tickets = tickets }

  abbrev newcomer : AppRow
  newcomer = new_app tenant (length (slice_index_or v.tenants tenant [])) leaf user home master

  apps-stay : in_leaf q after.apps ≡ in_leaf q v.apps
  apps-stay =
      kept number q change (λ r. refl) submitted.apps
      (Each-append (λ e. number ≡ e.0 → nat_eq e.1.leaf q ≡ false) v.apps ((number, newcomer) ∷ []) (others v.apps unused) ((λ same. differ leaf q (λ is. other (sym is))), tt))
      ∙ filter-append (λ e. nat_eq e.1.leaf q) v.apps ((number, newcomer) ∷ [])
      ∙ ap (λ b. in_leaf q v.apps ++ cond b ((number, newcomer) ∷ []) []) (differ leaf q (λ is. other (sym is)))
      ∙ append-nil (in_leaf q v.apps)
    where
      others : (es : List (ℕ × AppRow)) → IsUnused number es → AllByRecursion (λ e. number ≡ e.0 → nat_eq e.1.leaf q ≡ false) es
      others [] free = tt
      others (e ∷ es) free = ((λ same. absurd (free.0 (sym same))), others es free.1)

  live : (p : ℕ) → AllByRecursion (λ e. IsLive e.1.app v.apps) (containers_of v p)
  live p = go (slice_get v.partitions p) refl
    where
      go : (o : Option PartitionRow) → slice_get v.partitions p ≡ o → AllByRecursion (λ e. IsLive e.1.app v.apps) (option_map_or (λ (row : PartitionRow). row.containers) o [])
      go None is = tt
      go (Some row) is = let its = sound.partitions p row is in each-number (λ n c. IsLive c.app v.apps) row.containers its.numbers (λ n c at. (its.each n c at).app)

  counts-same : (p by : ℕ) (e : ℕ × Container) → IsLive e.1.app v.apps → counts after p q by e ≡ counts v p q by e
  counts-same p by e there =
      ap (λ o. not (is_guest_role p e.1.role) && option_map_or (is_of q by) o false)
      (changed-other e.1.app number change submitted.apps apart ∙ pushed-live e.1.app number newcomer v.apps there)
    where
      apart : e.1.app ≢ number
      apart same = true≢false (sym there ∙ ap is_some (ap (λ n. lookup (nat_eq n) v.apps) same ∙ lookup-unused number v.apps unused))

  pub submitted-elsewhere : StaysAt v sound after q
  submitted-elsewhere = record {
    apps = apps-stay;
    runs = λ e its. refl;
    uses = λ p by. ap (total_of (λ (e : ℕ × Container). e.1.size)) (filter-agree (λ e. IsLive e.1.app v.apps) (counts after p q by) (counts v p q by) (counts-same p by) (containers_of v p) (live p));
    names = λ e its. app_name-push tenant _ v.tenants e.1.tenant e.1.turn (slice_get_within (submitted_to v.tenants e.1.tenant) e.1.turn _ (sound.apps e.0 e.1 its.found).submitted);
    users = λ e its. refl;
  }
