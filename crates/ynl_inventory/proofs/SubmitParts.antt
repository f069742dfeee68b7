-- An application is submitted: how the parts mean it, and go together after.
use Rattle.std.proofs.Common.{◌≡◌, ◌≢◌, ◌<◌, ◌+◌, ℕ, List, [], ◌∷◌, ◌++◌, map, length, slice_get, Option, Some, None, option_map, nat_eq, refl, sym, ap, subst, ◌∙◌, arith, inl, inr}
use Rattle.std.specs.Prelude.{position, slice_set}
use Rattle.std.specs.List.{AllByRecursion}
use Rattle.std.specs.Map.{lookup}
use Rattle.std.specs.Option.{option_map_or}
use Rattle.std.proofs.lemmas.List.{length-map}
use Rattle.std.proofs.lemmas.List.Quantifiers.{position-Some}
use Rattle.std.proofs.lemmas.Option.{get_or_from_slice_get, slice_get-map}
use Rattle.ynl_resource.specs.Names.{root, same_path, tenant_of, top_level}
use Rattle.ynl_resource.specs.declared.names.Name.{Name}
use Rattle.ynl_resource.specs.declared.paths.Path.{Path}
use Rattle.ynl_inventory.specs.layout.Paths.{path_at}
use Rattle.ynl_slots.specs.Slots.{Numbered, IsLive, IsUnused}
use Rattle.ynl_slots.specs.Chain.{IsChain}
use Rattle.ynl_tables.specs.declared.apps.app.AppRow.{AppRow as AppPart}
use Rattle.ynl_tables.specs.declared.apps.asks.Ask.{Ask}
use Rattle.ynl_tables.specs.apps.Chains.{chain_of, no_chain}
use Rattle.ynl_tables.specs.declared.containers.container.Container.{Container}
use Rattle.ynl_tables.specs.containers.Chains.{IsAppChain}
use Rattle.ynl_tables.specs.containers.Fields.{of_rows}
use Rattle.ynl_tables.proofs.containers.Numbers.{no_numbers}
use Rattle.ynl_tables.proofs.containers.Rows.{of_rows-push, unused_of_rows}
use Rattle.ynl_tables.specs.declared.submissions.submissions.Submission.{Submission}
use Rattle.ynl_tables.specs.submissions.Submissions.{Listing, turn_of}
use Rattle.ynl_tables.proofs.submissions.Turns.{unused_get}
use Rattle.ynl_inventory.specs.declared.partition.Partition.{Partition}
use Rattle.ynl_inventory.specs.declared.submission.NewSubmission.{NewSubmission}
use Rattle.ynl_inventory.specs.declared.inventory.Inventory.TheInside.{Inside}
use Rattle.ynl_inventory.specs.Rows.{Rows, AppRow}
use Rattle.ynl_inventory.specs.Meaning.{submitted_to, tenant_at}
use Rattle.ynl_inventory.specs.Changes.{new_app, with_submitted}
use Rattle.ynl_inventory.specs.Apps.{master_in}
use Rattle.ynl_inventory.specs.Sound.{CanSubmit, IsPartition, IsSound}
use Rattle.ynl_inventory.specs.Parts.{held_of, partition_row, app_row, HasGuestPlaces, HasPlaces, IsNewRow, AreLinked, IsInventory}
use Rattle.ynl_inventory.proofs.Lookups.{live-apart, pushed-cases}
use Rattle.ynl_inventory.proofs.Updates.{each-number, unnamed}
use Rattle.ynl_inventory.proofs.Masters.{none-master}
use Rattle.ynl_inventory.proofs.PartLists.{map-set}
use Rattle.ynl_inventory.proofs.Submitting.{IsNew, submitted-sound}

-- ---- before

-- a leaf's tenant has a place
tenant-below : (paths : List Path) (q : ℕ) → tenant_at paths q < length (root ∷ paths)
tenant-below paths q = go (position (same_path (top_level (tenant_of (path_at paths q)))) paths) refl
  where
    go : (o : Option ℕ) → position (same_path (top_level (tenant_of (path_at paths q)))) paths ≡ o → option_map_or (λ n. n + 1) o 0 < length (root ∷ paths)
    go None is = omega arith
    go (Some n) is = let inside = (position-Some (same_path (top_level (tenant_of (path_at paths q)))) paths n root is).0 in omega (arith, inside)

-- so has the tenant of what may be submitted
tenant-listed : (v : Rows) → IsSound v → (name : Name) (new : NewSubmission) → CanSubmit v name new → new.tenant < length v.tenants
tenant-listed v sound name new can = subst (λ n. new.tenant < n) (sym sound.many) (subst (λ t. t < length (root ∷ v.paths)) can.tenant (tenant-below v.paths new.leaf))

-- what may be submitted is new under a number that is not in use
pub may-submit : (v : Rows) → IsSound v → (name : Name) (new : NewSubmission) → CanSubmit v name new → (number : ℕ) → IsUnused number v.apps
    → IsNew v number name new.tenant new.leaf new.user new.home new.master_size
may-submit v sound name new can number unused = record {
  unused = unused;
  other_name = unnamed name (submitted_to v.tenants new.tenant) (unused_get (submitted_to v.tenants new.tenant) name can.unnamed);
  there = can.there;
  none_below = can.leaf;
  own_tenant = can.tenant;
  inside = tenant-listed v sound name new can;
  own_user = can.user;
  own_home = can.home;
}

module _ (a : Inside) (inv : IsInventory a) (name : Name) (new : NewSubmission) (can : CanSubmit (held_of a).rows name new) where
  abbrev v : Rows
  v = (held_of a).rows

  -- the tenant has its list
  pub tenant-inside : new.tenant < length a.tenants.items
  tenant-inside =
      subst (λ n. new.tenant < n) (length-map a.tenants.items (λ (listing : Listing). listing.entries)) (tenant-listed (held_of a).rows inv.sound name new can)

  module _ (listing : Listing) (there : slice_get a.tenants.items new.tenant ≡ Some listing) where
    row-there : slice_get v.tenants new.tenant ≡ Some listing.entries
    row-there = slice_get-map (λ (listing : Listing). listing.entries) a.tenants.items new.tenant ∙ ap (option_map (λ (listing : Listing). listing.entries)) there

    listed : submitted_to v.tenants new.tenant ≡ listing.entries
    listed = get_or_from_slice_get v.tenants new.tenant listing.entries [] row-there

    -- which has no application of that name
    pub no-turn : turn_of name listing.entries ≡ None
    no-turn = ap (turn_of name) (sym listed) ∙ can.unnamed

    -- ---- after

    module _ (row : AppPart) (is-new : IsNewRow new (length listing.entries) row) (number : ℕ) (unused : IsUnused number a.apps.entries)
        (apps' : Numbered AppPart) (apps-are : apps'.entries ≡ a.apps.entries ++ (number, row) ∷ [])
        (listing' : Listing) (listing-is : listing'.entries ≡ listing.entries ++ (name, record { leaf = new.leaf; app = Some number }) ∷ []) where
      abbrev rows_after : Rows
      rows_after = record {
        paths = a.layout;
        partitions = v.partitions;
        nodes = v.nodes;
        apps = of_rows app_row apps'.entries;
        tenants = map (λ (listing : Listing). listing.entries) (slice_set a.tenants.items new.tenant listing');
        users = a.users;
      }

      -- the rows are those with the application
      pub submitted-rows : rows_after ≡ with_submitted number name new.tenant new.leaf new.user new.home new.master_size v
      submitted-rows = λ i. record v {
        apps =
            (ap (of_rows app_row) apps-are ∙ of_rows-push app_row number row a.apps.entries
            ∙ (λ j. v.apps ++ (number, is-new.row_is j) ∷ [])
            ∙ (λ j. v.apps ++ (number, new_app new.tenant (length (sym listed j)) new.leaf new.user new.home new.master_size) ∷ [])) i;
        tenants =
            map-set (λ (listing : Listing). listing.entries) (λ entries. entries ++ (name, record { leaf = new.leaf; app = Some number }) ∷ []) a.tenants.items new.tenant listing listing' there
            listing-is i;
      }

      unused-row : IsUnused number v.apps
      unused-row = unused_of_rows app_row number a.apps.entries unused

      -- they are sound
      pub submitted-rows-sound : IsSound rows_after
      submitted-rows-sound =
          subst IsSound (sym submitted-rows)
          (submitted-sound v number name new.tenant new.leaf new.user new.home new.master_size inv.sound
          (may-submit v inv.sound name new can number unused-row))

      -- no container is its own yet
      none-own : (p : ℕ) (part : Partition) → slice_get a.partitions.items p ≡ Some part → AllByRecursion (λ e. e.1.app ≢ number) part.containers.entries
      none-own p part at =
          let is : IsPartition v p (partition_row part) = inv.sound.partitions p (partition_row part) (slice_get-map partition_row a.partitions.items p ∙ ap (option_map partition_row) at) in
          each-number (λ n c. c.app ≢ number) part.containers.entries is.numbers (λ n c found. live-apart c.app number v.apps (is.each n c found).app unused-row)

      own-chain : (p : ℕ) (part : Partition) → slice_get a.partitions.items p ≡ Some part → IsAppChain part.containers (chain_of p row.chains) number
      own-chain p part at =
          subst (λ chain. IsAppChain part.containers chain number) (sym (is-new.chains p))
          (subst (IsChain (λ n. lookup (nat_eq n) part.containers.of_app) no_chain) (sym (no_numbers (λ (c : Container). c.app) number part.containers.entries (none-own p part at)))
          (record { first = refl; last = refl; run = tt; distinct = tt }))

      own-home : row.home ≡ new.home
      own-home = ap (λ (r : AppRow). r.home) is-new.row_is

      own-places : HasPlaces a.partitions.items row
      own-places = record {
        home = subst (λ p. IsLive p row.chains) (sym own-home) is-new.home;
        default = is-new.default;
        guests = subst (λ (asks : List Ask). AllByRecursion (λ ask. ask.partition ≡ 0 → HasGuestPlaces a.partitions.items row.chains) asks) (sym (ap (λ (r : AppRow). r.asks) is-new.row_is)) tt;
      }

      -- and the parts go together
      pub submitted-linked : AreLinked a.partitions.items a.nodes.entries apps'.entries
      submitted-linked =
          subst (λ apps. AreLinked a.partitions.items a.nodes.entries apps) (sym apps-are)
          (record {
            node = inv.linked.node;
            app = λ n r p part found at.
                elim (pushed-cases n number row a.apps.entries unused r found) [
                  | inl own ↦
                      subst (λ m. IsAppChain part.containers (chain_of p r.chains) m) (sym own.0)
                      (subst (λ (s : AppPart). IsAppChain part.containers (chain_of p s.chains) number) (sym own.1) (own-chain p part at))
                  | inr was ↦ inv.linked.app n r p part was at
                ];
            free = inv.linked.free;
            fits = inv.linked.fits;
            small = inv.linked.small;
            master = λ n r part found at.
                elim (pushed-cases n number row a.apps.entries unused r found) [
                  | inl own ↦
                      ap (λ (s : AppPart). s.master) own.1 ∙ is-new.master
                      ∙ sym (ap (λ m. master_in m part.containers.entries) own.0 ∙ none-master number part.containers.entries (none-own r.home part at))
                  | inr was ↦ inv.linked.master n r part was at
                ];
            places = λ n r found.
                elim (pushed-cases n number row a.apps.entries unused r found) [
                  | inl own ↦ subst (HasPlaces a.partitions.items) (sym own.1) own-places
                  | inr was ↦ inv.linked.places n r was
                ];
          })

-- ---- memory

-- room for one more application and one more submission changes nothing that the parts mean
pub room-rows : (a : Inside) (apps' : Numbered AppPart) → apps'.entries ≡ a.apps.entries → (tenants : List (List (Name × Submission))) → tenants ≡ (held_of a).rows.tenants
    → record (held_of a).rows { apps = of_rows app_row apps'.entries; tenants = tenants } ≡ (held_of a).rows
room-rows a apps' apps-are tenants tenants-are = λ i. record (held_of a).rows { apps = of_rows app_row (apps-are i); tenants = tenants-are i }

-- and the invariant holds
pub room-inventory : (a : Inside) → IsInventory a → (apps' : Numbered AppPart) → apps'.entries ≡ a.apps.entries → (tenants : List (List (Name × Submission))) → tenants ≡ (held_of a).rows.tenants
    → IsSound (record (held_of a).rows { apps = of_rows app_row apps'.entries; tenants = tenants }) × AreLinked a.partitions.items a.nodes.entries apps'.entries
room-inventory a inv apps' apps-are tenants tenants-are =
    (subst IsSound (sym (room-rows a apps' apps-are tenants tenants-are)) inv.sound, subst (λ apps. AreLinked a.partitions.items a.nodes.entries apps) (sym apps-are) inv.linked)
