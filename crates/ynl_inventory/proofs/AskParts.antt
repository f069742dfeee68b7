-- An application asks: how the parts mean it, and go together after.
use Rattle.std.proofs.Common.{◌≡◌, ◌<◌, ℕ, IfSome, Some, option_map, nat_eq, refl, sym, ap, subst, ◌∙◌}
use Rattle.std.specs.Map.{lookup}
use Rattle.ynl_slots.specs.Slots.{Numbered}
use Rattle.ynl_tables.specs.declared.apps.app.AppRow.{AppRow as AppPart}
use Rattle.ynl_tables.specs.declared.apps.asks.Ask.{Ask}
use Rattle.ynl_tables.specs.apps.Apps.{with_app}
use Rattle.ynl_tables.specs.apps.Asks.{with_ask}
use Rattle.ynl_tables.specs.containers.Fields.{of_rows}
use Rattle.ynl_tables.proofs.containers.Removing.{at_live}
use Rattle.ynl_inventory.specs.declared.inventory.Inventory.TheInside.{Inside}
use Rattle.ynl_inventory.specs.Rows.{Rows, AppRow}
use Rattle.ynl_inventory.specs.Changes.{with_asked}
use Rattle.ynl_inventory.specs.Sound.{CanAsk, IsAskedOn, IsSound}
use Rattle.ynl_inventory.specs.Parts.{Held, held_of, app_row, HasGuestPlaces, HasMorePlaces, HasPlaces, AreLinked, IsInventory}
use Rattle.ynl_inventory.proofs.Lookups.{changed-same, changed-twice}
use Rattle.ynl_inventory.proofs.Asked.{one-asked}
use Rattle.ynl_inventory.proofs.AppAsks.{asked-sound}
use Rattle.ynl_inventory.proofs.AppParts.{app-found}
use Rattle.ynl_inventory.proofs.PartLists.{of_rows-changed, of_rows-kept}
use Rattle.ynl_inventory.proofs.PartsChange.{kept-linked, more-places}

module _ (a : Inside) (inv : IsInventory a) (app : ℕ) (apps' : Numbered AppPart) (more : HasMorePlaces app a.apps apps') where
  abbrev v : Rows
  v = (held_of a).rows

  abbrev placed_part : AppPart → AppPart
  placed_part r = record r { chains = more.more r.chains }

  placed-places : (r : AppPart) → lookup (nat_eq app) a.apps.entries ≡ Some r → HasPlaces a.partitions.items (placed_part r)
  placed-places r at = more-places a.partitions.items r (placed_part r) refl (more.adds r.chains).live (λ P each. each) (inv.linked.places app r at)

  -- more places for chains change nothing that the parts mean
  pub placed-held : held_of (record a { apps = apps' }) ≡ held_of a
  placed-held = λ i. record (held_of a) {
    rows = record v { apps = (ap (λ (apps : Numbered AppPart). of_rows app_row apps.entries) more.apps ∙ of_rows-kept app_row placed_part app a.apps.entries (λ r. refl)) i };
  }

  -- and their invariant holds
  pub placed-inventory : IsInventory (record a { apps = apps' })
  placed-inventory = record {
    sound = subst IsSound (sym (ap (λ (h : Held). h.rows) placed-held)) inv.sound;
    linked =
        subst (λ (apps : Numbered AppPart). AreLinked a.partitions.items a.nodes.entries apps.entries) (sym more.apps)
        (kept-linked a.partitions.items a.nodes.entries a.apps.entries inv.linked app placed_part (record { home = λ r. refl; master = λ r. refl; chains = λ r. (more.adds r.chains).same })
        placed-places);
  }

  module _ (ask : Ask) (can : CanAsk v app ask) (guests : 0 < ask.count → ask.partition ≡ 0 → IfSome (lookup (nat_eq app) apps'.entries) (λ r. HasGuestPlaces a.partitions.items r.chains))
      (new : Numbered AppPart) (is : new ≡ with_app app (λ r. record r { asks = with_ask ask r.asks }) apps') where
    abbrev asked_part : AppPart → AppPart
    asked_part r = record r { chains = more.more r.chains; asks = with_ask ask r.asks }

    abbrev asked_row : AppRow → AppRow
    asked_row r = record r { asks = with_ask ask r.asks }

    new-is : new ≡ with_app app asked_part a.apps
    new-is =
        is ∙ ap (with_app app (λ r. record r { asks = with_ask ask r.asks })) more.apps
        ∙ (λ i. record a.apps { entries = changed-twice app (λ (r : AppPart). record r { asks = with_ask ask r.asks }) placed_part a.apps.entries i })

    -- the rows are those with the ask
    pub asked-rows : (held_of (record a { apps = new })).rows ≡ with_asked app ask v
    asked-rows = λ i. record v {
      apps =
          (ap (λ (apps : Numbered AppPart). of_rows app_row apps.entries) new-is ∙ of_rows-changed app_row asked_part asked_row app a.apps.entries (λ r. refl)) i;
    }

    own : (part : AppPart) × (lookup (nat_eq app) a.apps.entries ≡ Some part) × (lookup (nat_eq app) v.apps ≡ Some (app_row part))
    own = app-found a app can.0

    asked-places : (r : AppPart) → lookup (nat_eq app) a.apps.entries ≡ Some r → HasPlaces a.partitions.items (asked_part r)
    asked-places r at = record {
      home = (placed-places r at).home;
      default = (placed-places r at).default;
      guests = one-asked (λ p. p ≡ 0 → HasGuestPlaces a.partitions.items (more.more r.chains)) ask its r.asks (placed-places r at).guests;
    }
      where
        found : lookup (nat_eq app) apps'.entries ≡ Some (placed_part r)
        found =
            ap (λ (apps : Numbered AppPart). lookup (nat_eq app) apps.entries) more.apps ∙ changed-same app placed_part a.apps.entries ∙ ap (option_map placed_part) at

        its : 0 < ask.count → ask.partition ≡ 0 → HasGuestPlaces a.partitions.items (more.more r.chains)
        its some zero =
            at_live (λ (r : AppPart). HasGuestPlaces a.partitions.items r.chains) (lookup (nat_eq app) apps'.entries) (placed_part r) (guests some zero) found

    -- and the invariant holds
    pub asked-inventory : IsInventory (record a { apps = new })
    asked-inventory = record {
      sound =
          subst IsSound (sym asked-rows)
          (asked-sound v inv.sound app (app_row own.0) own.2 ask (at_live (λ (r : AppRow). IsAskedOn r.home ask.partition) (lookup (nat_eq app) v.apps) (app_row own.0) can.1 own.2));
      linked =
          subst (λ (apps : Numbered AppPart). AreLinked a.partitions.items a.nodes.entries apps.entries) (sym new-is)
          (kept-linked a.partitions.items a.nodes.entries a.apps.entries inv.linked app asked_part (record { home = λ r. refl; master = λ r. refl; chains = λ r. (more.adds r.chains).same })
          asked-places);
    }
