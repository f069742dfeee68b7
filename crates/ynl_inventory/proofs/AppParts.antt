-- An application's tickets are set, or it is live no more: how the parts mean it, and go together after.
use Rattle.std.proofs.Common.{◌≡◌, ◌≢◌, ◌<◌, ℕ, is_some, IfSome, map, length, slice_get, Some, option_map, nat_eq, refl, sym, ap, subst, ◌∙◌}
use Rattle.std.specs.Prelude.{slice_set}
use Rattle.std.specs.Map.{lookup}
use Rattle.std.proofs.lemmas.Option.{same_Some, slice_get-map, slice_get_within}
use Rattle.ynl_slots.specs.Slots.{Numbered, IsLive, without}
use Rattle.ynl_tables.specs.declared.apps.app.AppRow.{AppRow as AppPart}
use Rattle.ynl_tables.specs.declared.apps.app.Tickets.{Tickets}
use Rattle.ynl_tables.specs.apps.Apps.{with_app}
use Rattle.ynl_tables.specs.declared.containers.container.Container.{Container}
use Rattle.ynl_tables.specs.containers.Fields.{of_rows}
use Rattle.ynl_tables.proofs.containers.Rows.{lookup-of_rows, of_rows-without}
use Rattle.ynl_tables.specs.submissions.Submissions.{Listing, with_finished}
use Rattle.ynl_inventory.specs.declared.inventory.Inventory.TheInside.{Inside}
use Rattle.ynl_inventory.specs.Rows.{Rows, AppRow}
use Rattle.ynl_inventory.specs.Meaning.{submitted_to}
use Rattle.ynl_inventory.specs.Changes.{with_tickets, with_app_gone}
use Rattle.ynl_inventory.specs.Sound.{OwnsNoContainers, IsApp, IsSound}
use Rattle.ynl_inventory.specs.Parts.{Held, held_of, app_row, AreLinked, IsInventory}
use Rattle.ynl_inventory.proofs.Lookups.{live-found}
use Rattle.ynl_inventory.proofs.Updates.{at-number}
use Rattle.ynl_inventory.proofs.AppChange.{LeavesOwner, app-sound}
use Rattle.ynl_inventory.proofs.Gone.{gone-sound}
use Rattle.ynl_inventory.proofs.Submitted.{tenant-there}
use Rattle.ynl_inventory.proofs.PartLists.{unmapped, map-set, of_rows-changed}
use Rattle.ynl_inventory.proofs.PartsChange.{kept-linked, more-places}
use Rattle.ynl_inventory.proofs.NodeParts.{found-without}

-- an application that has a row is there
pub app-found : (a : Inside) (app : ℕ) → IsLive app (held_of a).rows.apps → (part : AppPart) × (lookup (nat_eq app) a.apps.entries ≡ Some part) × (lookup (nat_eq app) (held_of a).rows.apps ≡ Some (app_row part))
app-found a app live =
    let own = live-found app (held_of a).rows.apps live in
    let part = unmapped app_row (lookup (nat_eq app) a.apps.entries) own.0 (sym (lookup-of_rows app_row app a.apps.entries) ∙ own.1) in
    (part.0, part.1, lookup-of_rows app_row app a.apps.entries ∙ ap (option_map app_row) part.1)

pub app-live : (a : Inside) (app : ℕ) → IsLive app (held_of a).rows.apps → IsLive app a.apps.entries
app-live a app live = ap is_some (app-found a app live).1

-- ---- tickets

module _ (a : Inside) (app : ℕ) (tickets : Tickets) (apps' : Numbered AppPart) (is : apps' ≡ with_app app (λ r. record r { tickets = tickets }) a.apps) where
  abbrev set_part : AppPart → AppPart
  set_part r = record r { tickets = tickets }

  abbrev set_row : AppRow → AppRow
  set_row r = record r { tickets = tickets }

  leaves : LeavesOwner set_row
  leaves = record { tenant = λ row. refl; turn = λ row. refl; leaf = λ row. refl; user = λ row. refl; home = λ row. refl }

  -- what the parts mean with other tickets
  pub tickets-held : held_of (record a { apps = apps' }) ≡ record (held_of a) { rows = with_tickets app tickets (held_of a).rows }
  tickets-held = λ i. record (held_of a) {
    rows = record (held_of a).rows {
      apps = (ap (λ (apps : Numbered AppPart). of_rows app_row apps.entries) is ∙ of_rows-changed app_row set_part set_row app a.apps.entries (λ r. refl)) i;
    };
  }

  -- and their invariant holds
  pub tickets-inventory : IsInventory a → IsLive app (held_of a).rows.apps → IsInventory (record a { apps = apps' })
  tickets-inventory inv live = record {
    sound =
        let own = app-found a app live in
        let its : IsApp (held_of a).rows app (app_row own.0) = inv.sound.apps app (app_row own.0) own.2 in
        subst IsSound (sym (ap (λ (h : Held). h.rows) tickets-held)) (app-sound (held_of a).rows app set_row leaves inv.sound (app_row own.0) own.2 its.asks its.asked);
    linked =
        subst (λ (apps : Numbered AppPart). AreLinked a.partitions.items a.nodes.entries apps.entries) (sym is)
        (kept-linked a.partitions.items a.nodes.entries a.apps.entries inv.linked app set_part (record { home = λ r. refl; master = λ r. refl; chains = λ r p. refl })
        (λ r at. more-places a.partitions.items r (set_part r) refl (λ q live. live) (λ P each. each) (inv.linked.places app r at)));
  }

-- ---- an application that is live no more

module _ (a : Inside) (inv : IsInventory a) (app : ℕ) (part : AppPart) (found : lookup (nat_eq app) a.apps.entries ≡ Some part) where
  abbrev v : Rows
  v = (held_of a).rows

  row-at : lookup (nat_eq app) v.apps ≡ Some (app_row part)
  row-at = lookup-of_rows app_row app a.apps.entries ∙ ap (option_map app_row) found

  its : IsApp v app (app_row part)
  its = inv.sound.apps app (app_row part) row-at

  -- its tenant is there, and has it at its turn
  listed : slice_get v.tenants part.tenant ≡ Some (submitted_to v.tenants part.tenant)
  listed = tenant-there v.tenants part.tenant part.turn (its.name, record { leaf = part.leaf; app = Some app }) its.submitted

  pub its-tenant : (list : Listing) × (slice_get a.tenants.items part.tenant ≡ Some list) × (list.entries ≡ submitted_to v.tenants part.tenant)
  its-tenant =
      unmapped (λ (list : Listing). list.entries) (slice_get a.tenants.items part.tenant) (submitted_to v.tenants part.tenant)
      (sym (slice_get-map (λ (list : Listing). list.entries) a.tenants.items part.tenant) ∙ listed)

  pub tenant-inside : part.tenant < length a.tenants.items
  tenant-inside = slice_get_within a.tenants.items part.tenant its-tenant.0 its-tenant.1

  module _ (list : Listing) (there : slice_get a.tenants.items part.tenant ≡ Some list) where
    pub turn-inside : part.turn < length list.entries
    turn-inside =
        let same : list.entries ≡ submitted_to v.tenants part.tenant = ap (λ (l : Listing). l.entries) (same_Some list its-tenant.0 (sym there ∙ its-tenant.1)) ∙ its-tenant.2 in
        subst (λ es. part.turn < length es) (sym same)
        (slice_get_within (submitted_to v.tenants part.tenant) part.turn (its.name, record { leaf = part.leaf; app = Some app }) its.submitted)

    module _ (apps' : Numbered AppPart) (apps-are : apps'.entries ≡ without app a.apps.entries) (new : Listing) (new-is : new ≡ record list { entries = with_finished part.turn list.entries }) where
      abbrev rows_after : Rows
      rows_after = record {
        paths = a.layout;
        partitions = v.partitions;
        nodes = v.nodes;
        apps = of_rows app_row apps'.entries;
        tenants = map (λ (list : Listing). list.entries) (slice_set a.tenants.items part.tenant new);
        users = a.users;
      }

      -- the rows are those without it
      pub finished-rows : rows_after ≡ with_app_gone app part.tenant part.turn v
      finished-rows = λ i. record v {
        apps = (ap (of_rows app_row) apps-are ∙ of_rows-without app_row app a.apps.entries) i;
        tenants =
            map-set (λ (list : Listing). list.entries) (with_finished part.turn) a.tenants.items part.tenant list new there (ap (λ (l : Listing). l.entries) new-is) i;
      }

      pub finished-some : (h : Held) → held_of a ≡ h → IfSome (lookup (nat_eq app) h.rows.apps) (λ row. rows_after ≡ with_app_gone app row.tenant row.turn h.rows)
      finished-some h view =
          subst (λ (h : Held). IfSome (lookup (nat_eq app) h.rows.apps) (λ row. rows_after ≡ with_app_gone app row.tenant row.turn h.rows)) view
          (subst (λ o. IfSome o (λ (row : AppRow). rows_after ≡ with_app_gone app row.tenant row.turn v)) (sym row-at) finished-rows)

      -- they are sound where it has no containers
      pub finished-sound : OwnsNoContainers v app → IsSound rows_after
      finished-sound none =
          subst IsSound (sym finished-rows)
          (gone-sound v app (app_row part) inv.sound row-at (λ p r at n c held. at-number (λ n (c : Container). c.app ≢ app) r.containers n c (none p r at) held))

      -- and the parts go together as before
      pub finished-linked : AreLinked a.partitions.items a.nodes.entries apps'.entries
      finished-linked =
          subst (λ apps. AreLinked a.partitions.items a.nodes.entries apps) (sym apps-are)
          (record {
            node = inv.linked.node;
            app = λ n r p x at here. inv.linked.app n r p x (found-without n app r a.apps.entries at) here;
            free = inv.linked.free;
            fits = inv.linked.fits;
            small = inv.linked.small;
            master = λ n r x at here. inv.linked.master n r x (found-without n app r a.apps.entries at) here;
            places = λ n r at. inv.linked.places n r (found-without n app r a.apps.entries at);
          })
