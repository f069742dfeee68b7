-- The containers of an application end one after another, and then it finishes.
use Rattle.std.proofs.Common.{◌≡◌, ◌≢◌, ℕ, suc, ◌<◌, ◌≤◌, ◌+◌, is_some, IsSome, ◌++◌, flat_map, List, [], ◌∷◌, length, slice_get, nat_eq, Option, None, Some, refl, sym, ap, subst, ◌∙◌, arith, inl, inr}
use Rattle.std.specs.Prelude.{IfSome, option_map}
use Rattle.std.specs.List.{AllByRecursion}
use Rattle.std.specs.Map.{lookup}
use Rattle.std.specs.Option.{option_and_then, option_map_or}
use Rattle.std.proofs.lemmas.Bool.{cases_eq}
use Rattle.std.proofs.lemmas.Option.{none-some, same_Some, slice_get_within}
use Rattle.ynl_model.specs.declared.containers.Placed.{Placed}
use Rattle.ynl_model.specs.Applications.{finished, in_leaf}
use Rattle.ynl_model.specs.Changes.{all_end, all_own, app_finishes, changed_at, end}
use Rattle.ynl_model.specs.Cluster.{State}
use Rattle.ynl_model.specs.Queues.{Config}
use Rattle.ynl_slots.specs.Slots.{IsLive, without}
use Rattle.ynl_slots.specs.Chain.{first_or}
use Rattle.ynl_tables.specs.containers.Chains.{numbers_of, IsFirst}
use Rattle.ynl_tables.specs.declared.containers.container.Container.{Container}
use Rattle.ynl_inventory.specs.Rows.{Rows, PartitionRow, AppRow}
use Rattle.ynl_inventory.specs.Apps.{containers_of}
use Rattle.ynl_inventory.specs.Changes.{ticked, with_app_gone, with_ended}
use Rattle.ynl_inventory.specs.Meaning.{app_name, app_of, placed_of, state_of}
use Rattle.ynl_inventory.specs.Parts.{Held, held_at}
use Rattle.ynl_inventory.specs.Sound.{HasPartition, IsSound, OwnsNoContainers}
use Rattle.ynl_inventory.proofs.Lookups.{at-other, at-same, length-at, live-found}
use Rattle.ynl_cluster.specs.Cluster.{ClusterView, held_in, label_of, maxima_in, name_in, path_of, state_in, stops_in, tenant_in}
use Rattle.ynl_cluster.specs.Finishing.{ended_own, IsFinishing, OwnsNoneBefore}
use Rattle.ynl_cluster.proofs.Leaving.{one-fewer}
use Rattle.ynl_cluster.proofs.Own.{all-means, first-ends, owned, owned-none}

-- at first none ended
pub finishes-first : (app : ℕ) (w : ClusterView) → IsFinishing app w w
finishes-first app w = record { same = refl; many = refl; left = λ row found. refl }

-- one part after another
pub finishes-on : (app : ℕ) (old now after : ClusterView) → IsFinishing app old now → IsFinishing app now after → IsFinishing app old after
finishes-on app old now after so on = record {
  same = on.same ∙ (λ i. record (so.same i) { rows = record (so.same i).rows { partitions = after.rows.partitions; nodes = after.rows.nodes }; rooms = after.rooms });
  many = on.many ∙ so.many;
  left = λ row found. on.left row (ap (λ (w : ClusterView). lookup (nat_eq app) w.rows.apps) so.same ∙ found) ∙ so.left row found;
}

-- what is known of an application stays meanwhile
pub finishing-live : (app : ℕ) (old now : ClusterView) → IsFinishing app old now → IsLive app old.rows.apps → IsLive app now.rows.apps
finishing-live app old now so live = subst (λ (w : ClusterView). IsLive app w.rows.apps) (sym so.same) live

pub finishing-has : (app : ℕ) (old now : ClusterView) → IsFinishing app old now → (p : ℕ) → HasPartition old.rows p → HasPartition now.rows p
finishing-has app old now so p has = subst (λ (n : ℕ). p < n) (sym so.many) has

-- ---- one container ends

-- a container of an application, and where it stands
pub record IsOwn (v : Rows) (app p number : ℕ) : Type 0 where
  pub part : PartitionRow
  pub there : slice_get v.partitions p ≡ Some part
  pub gone : Container
  pub found : lookup (nat_eq number) part.containers ≡ Some gone
  pub own : gone.app ≡ app

-- the first one
own-there : (v : Rows) (app p number : ℕ) → option_map (λ (c : Container). c.app) (lookup (nat_eq number) (containers_of v p)) ≡ Some app → IsOwn v app p number
own-there v app p number = go (slice_get v.partitions p) refl
  where
    at : (part : PartitionRow) → slice_get v.partitions p ≡ Some part → (o : Option Container) → lookup (nat_eq number) part.containers ≡ o → option_map (λ (c : Container). c.app) o ≡ Some app → IsOwn v app p number
    at part there None found k = absurd (none-some app k)
    at part there (Some c) found k = record { part = part; there = there; gone = c; found = found; own = same_Some c.app app k }

    go : (o : Option PartitionRow) → slice_get v.partitions p ≡ o
        → option_map (λ (c : Container). c.app) (lookup (nat_eq number) (option_map_or (λ (row : PartitionRow). row.containers) o [])) ≡ Some app → IsOwn v app p number
    go None there k = absurd (none-some app k)
    go (Some part) there k = at part there (lookup (nat_eq number) part.containers) refl k

-- what the reader of firsts says, of the rows
pub first-of : (w : ClusterView) (h : Held) → h ≡ held_in w → (app p : ℕ) (first : Option ℕ) → IsFirst (λ (c : Container). c.app) app (containers_of h.rows p) first
    → IsFirst (λ (c : Container). c.app) app (containers_of w.rows p) first
first-of w h is app p first = subst (λ (h : Held). IsFirst (λ (c : Container). c.app) app (containers_of h.rows p) first) is

pub first-own : (v : Rows) (app p number : ℕ) → IsFirst (λ (c : Container). c.app) app (containers_of v p) (Some number) → IsOwn v app p number
first-own v app p number first = own-there v app p number first.own

pub own-held : (v : Rows) (app p number : ℕ) → IsOwn v app p number → IsSome (held_at v p number)
own-held v app p number own = ap is_some (ap (λ o. option_and_then (λ (row : PartitionRow). lookup (nat_eq number) row.containers) o) own.there ∙ own.found)

module _ (app p number : ℕ) (now after : ClusterView) (sound : IsSound now.rows) (first : IsFirst (λ (c : Container). c.app) app (containers_of now.rows p) (Some number)) (before : OwnsNoneBefore now.rows app p)
    (c : Container) (held : held_at now.rows p number ≡ Some c) (ended : after ≡ record now { rows = with_ended p number c.node now.rows; rooms = after.rooms })
    (state : state_in after ≡ end now.config (state_in now) (placed_of now.rows (label_of now p) c)) where
  abbrev v : Rows
  v = now.rows

  on : IsOwn v app p number
  on = first-own v app p number first

  one : on.gone ≡ c
  one = same_Some on.gone c (sym (ap (λ o. option_and_then (λ (row : PartitionRow). lookup (nat_eq number) row.containers) o) on.there ∙ on.found) ∙ held)

  found : lookup (nat_eq number) on.part.containers ≡ Some c
  found = on.found ∙ ap (λ (c : Container). Some c) one

  rows-are : after.rows ≡ with_ended p number c.node v
  rows-are = ap (λ (w : ClusterView). w.rows) ended

  number-is : Some number ≡ first_or None (numbers_of (λ (c : Container). c.app) app on.part.containers)
  number-is = first.number ∙ ap (λ o. first_or None (numbers_of (λ (c : Container). c.app) app (option_map_or (λ (row : PartitionRow). row.containers) o []))) on.there

  -- the others may end next
  left : (row : AppRow) → lookup (nat_eq app) v.apps ≡ Some row → ended_own after row ≡ ended_own now row
  left row at =
      ap (λ (w : ClusterView). ended_own w row) ended
      ∙ ap (all_end now.config (all_own (state_of (with_ended p number c.node v) (stops_in now) (maxima_in now)) (tenant_in v row) (name_in v row))) (sym means ∙ state)
      ∙ ap (λ l. all_end now.config l (state_in now))
      (sym (first-ends v sound app row at p number on.part on.there c found (ap (λ (c : Container). c.app) (sym one) ∙ on.own) number-is before (stops_in now) (maxima_in now)))
    where
      means : state_in after ≡ state_of (with_ended p number c.node v) (stops_in now) (maxima_in now)
      means = ap state_in ended

  -- it is still finishing
  pub ends-on : IsFinishing app now after
  ends-on = record {
    same = ended ∙ (λ i. record now { rows = record v { partitions = (sym rows-are i).partitions; nodes = (sym rows-are i).nodes }; rooms = after.rooms });
    many = ap (λ (v : Rows). length v.partitions) rows-are ∙ length-at p (ticked (without number)) v.partitions;
    left = left;
  }

  -- and has none in the partitions before
  pub none-before : OwnsNoneBefore after.rows app p
  none-before q below =
      subst (λ es. AllByRecursion (λ e. e.1.app ≢ app) es)
      (sym (ap (λ (v : Rows). containers_of v q) rows-are
      ∙ ap (λ o. option_map_or (λ (row : PartitionRow). row.containers) o []) (at-other q p (ticked (without number)) v.partitions (λ same. omega (arith, below, same)))))
      (before q below)

  -- its partition has one container less
  pub fewer : length (containers_of after.rows p) < length (containers_of v p)
  fewer =
      subst (λ n. n < length (containers_of v p))
      (sym (ap (λ (v : Rows). length (containers_of v p)) rows-are
      ∙ ap (λ o. length (option_map_or (λ (row : PartitionRow). row.containers) o []))
      (at-same p (ticked (without number)) v.partitions ∙ ap (option_map (ticked (without number))) on.there)))
      (subst (λ n. length (without number on.part.containers) < n) (sym (ap (λ o. length (option_map_or (λ (row : PartitionRow). row.containers) o [])) on.there))
      (one-fewer number on.part.containers on.gone on.found))

-- where a partition has none, those before the next have none
pub none-to : (v : Rows) (app p : ℕ) → OwnsNoneBefore v app p → IsFirst (λ (c : Container). c.app) app (containers_of v p) None → OwnsNoneBefore v app (p + 1)
none-to v app p before first q below =
    elim (cases_eq q p) [
      | inl same ↦ subst (λ q. AllByRecursion (λ e. e.1.app ≢ app) (containers_of v q)) (sym same) first.none
      | inr apart ↦ before q (omega (arith, below, apart))
    ]

-- ---- it finishes

-- where all partitions have none, it has no containers
pub none-at-all : (app p count : ℕ) (old now : ClusterView) → IsFinishing app old now → (h : Held) → h ≡ held_in old → count ≡ length h.rows.partitions → count ≤ p → OwnsNoneBefore now.rows app p
    → OwnsNoContainers now.rows app
none-at-all app p count old now so h is counted all before q part at =
    subst (λ o. AllByRecursion (λ e. e.1.app ≢ app) (option_map_or (λ (row : PartitionRow). row.containers) o [])) at
    (before q
    (let inside = slice_get_within now.rows.partitions q part at in
    let many : length h.rows.partitions ≡ length old.rows.partitions = ap (λ (h : Held). length h.rows.partitions) is in
    omega (arith, inside, all, counted, many, so.many)))

-- leaves stay while containers end
leaves-stay : (c : Config) (ks : List Placed) (s : State) → (all_end c ks s).leaves ≡ s.leaves
unfolding end changed_at
leaves-stay c [] s = refl
leaves-stay c (k ∷ ks) s = leaves-stay c ks (end c s k)

nothing-own : (f : PartitionRow → List Placed) (parts : List PartitionRow) → ((p : ℕ) (part : PartitionRow) → slice_get parts p ≡ Some part → f part ≡ []) → flat_map f parts ≡ []
nothing-own f [] h = refl
nothing-own f (part ∷ parts) h = (λ i. h 0 part refl i ++ flat_map f parts) ∙ nothing-own f parts (λ p. h (suc p))

module _ (app : ℕ) (old now after : ClusterView) (so : IsFinishing app old now) (sound : IsSound now.rows) (none : OwnsNoContainers now.rows app) where
  -- what is found before is found now
  abbrev Found : AppRow → Type 0
  Found row = lookup (nat_eq app) old.rows.apps ≡ Some row

  found-now : (row : AppRow) → Found row → lookup (nat_eq app) now.rows.apps ≡ Some row
  found-now row found = ap (λ (w : ClusterView). lookup (nat_eq app) w.rows.apps) so.same ∙ found

  none-own : (row : AppRow) → Found row → all_own (state_in now) (tenant_in now.rows row) (name_in now.rows row) ≡ []
  none-own row found =
      all-means now.rows sound app row (found-now row found) (stops_in now) (maxima_in now)
      ∙ nothing-own (owned now.rows app) now.rows.partitions
      (λ p part at. owned-none now.rows sound app row (found-now row found) p part at
      (subst (λ o. AllByRecursion (λ e. e.1.app ≢ app) (option_map_or (λ (row : PartitionRow). row.containers) o [])) (sym at) (none p part at)))

  -- the containers ended
  ended-state : (row : AppRow) → Found row → state_in now ≡ ended_own old row
  ended-state row found = ap (λ l. all_end now.config l (state_in now)) (sym (none-own row found)) ∙ so.left row found

  -- and the state is the model's
  pub finished-state : (row : AppRow) → Found row
      → (lookup (nat_eq app) now.rows.apps ≡ Some row
      → state_in after ≡ record (state_in now) { leaves = in_leaf (path_of now row.leaf) (finished (app_name now.rows.tenants row.tenant row.turn)) (state_in now).leaves })
      → state_in after ≡ app_finishes old.config (app_of old.rows (app, row)) (state_in old)
  unfolding app_finishes
  finished-state row found gone =
      gone (found-now row found)
      ∙ (λ i. record (ended-state row found i) {
        leaves = in_leaf (path_of (so.same i) row.leaf) (finished (app_name (so.same i).rows.tenants row.tenant row.turn)) (leaves i);
      })
    where
      leaves : (state_in now).leaves ≡ (state_in old).leaves
      leaves = ap (λ (s : State). s.leaves) (ended-state row found) ∙ leaves-stay old.config (all_own (state_in old) (tenant_in old.rows row) (name_in old.rows row)) (state_in old)

  -- the rows that a contract sees
  pub finished-rows : IfSome (lookup (nat_eq app) now.rows.apps) (λ row. after ≡ record now { rows = with_app_gone app row.tenant row.turn now.rows })
      → IfSome (lookup (nat_eq app) old.rows.apps) (λ row. after ≡ record old {
        rows = record (with_app_gone app row.tenant row.turn old.rows) { partitions = after.rows.partitions; nodes = after.rows.nodes };
        rooms = after.rooms;
      })
  finished-rows gone = go (lookup (nat_eq app) old.rows.apps) refl
    where
      to : (row : AppRow) → after ≡ record now { rows = with_app_gone app row.tenant row.turn now.rows }
          → after ≡ record old { rows = record (with_app_gone app row.tenant row.turn old.rows) { partitions = after.rows.partitions; nodes = after.rows.nodes }; rooms = after.rooms }
      to row is =
          is
          ∙ (λ i. record (so.same i) {
            rows = record (with_app_gone app row.tenant row.turn (so.same i).rows) { partitions = (sym is i).rows.partitions; nodes = (sym is i).rows.nodes };
            rooms = (sym is i).rooms;
          })

      go : (o : Option AppRow) → lookup (nat_eq app) old.rows.apps ≡ o
          → IfSome o (λ row. after ≡ record old { rows = record (with_app_gone app row.tenant row.turn old.rows) { partitions = after.rows.partitions; nodes = after.rows.nodes }; rooms = after.rooms })
      go None at = tt
      go (Some row) at = to row (subst (λ o. IfSome o (λ row. after ≡ record now { rows = with_app_gone app row.tenant row.turn now.rows })) (found-now row at) gone)

-- paths, users and what is set of queues stay
pub finished-same : (app : ℕ) (old after : ClusterView) → IsLive app old.rows.apps
    → IfSome (lookup (nat_eq app) old.rows.apps) (λ row. after ≡ record old {
      rows = record (with_app_gone app row.tenant row.turn old.rows) { partitions = after.rows.partitions; nodes = after.rows.nodes };
      rooms = after.rooms;
    })
    → after ≡ record old {
      rows = record old.rows { partitions = after.rows.partitions; nodes = after.rows.nodes; apps = without app old.rows.apps; tenants = after.rows.tenants };
      rooms = after.rooms;
    }
finished-same app old after live rows =
    let own = live-found app old.rows.apps live in
    let is : after ≡ record old {
      rows = record (with_app_gone app own.0.tenant own.0.turn old.rows) { partitions = after.rows.partitions; nodes = after.rows.nodes };
      rooms = after.rooms;
    } =
    subst
    (λ o. IfSome o (λ row. after ≡ record old {
      rows = record (with_app_gone app row.tenant row.turn old.rows) { partitions = after.rows.partitions; nodes = after.rows.nodes };
      rooms = after.rooms;
    }))
    own.1 rows in
    is
    ∙ (λ i. record old {
      rows = record old.rows { partitions = after.rows.partitions; nodes = after.rows.nodes; apps = without app old.rows.apps; tenants = (sym is i).rows.tenants };
      rooms = after.rooms;
    })
