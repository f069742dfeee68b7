-- An application is submitted: memory is reserved, and then the parts mean it.
use Rattle.std.proofs.Common.{◌≡◌, ◌<◌, ◌++◌, ℕ, ◌∷◌, [], IfSome, List, map, length, get_or, slice_get, Some, None, refl, sym, ap, subst, ◌∙◌}
use Rattle.std.specs.Prelude.{slice_set}
use Rattle.std.proofs.lemmas.Option.{slice_get_read}
use Rattle.ynl_resource.specs.declared.names.Name.{Name}
use Rattle.ynl_slots.specs.Slots.{Numbered, IsUnused}
use Rattle.ynl_tables.specs.declared.apps.app.AppRow.{AppRow as AppPart}
use Rattle.ynl_tables.specs.containers.Fields.{of_rows}
use Rattle.ynl_tables.proofs.containers.Removing.{at_live}
use Rattle.ynl_tables.proofs.containers.Rows.{unused_of_rows}
use Rattle.ynl_tables.specs.submissions.Submissions.{Listing, turn_of}
use Rattle.ynl_inventory.specs.declared.submission.NewSubmission.{NewSubmission}
use Rattle.ynl_inventory.specs.declared.inventory.Inventory.TheInside.{Inside}
use Rattle.ynl_inventory.specs.Changes.{with_submitted}
use Rattle.ynl_inventory.specs.Sound.{CanSubmit, IsSound}
use Rattle.ynl_inventory.specs.Parts.{Held, held_of, app_row, AreLinked, IsInventory, IsNewRow}
use Rattle.ynl_inventory.proofs.SubmitParts.{tenant-inside, no-turn, submitted-rows, submitted-rows-sound, submitted-linked, room-rows, room-inventory}
use Rattle.ynl_inventory.proofs.Results.{on-err}
use Rattle.ynl_inventory.proofs.RoomParts.{map-kept}
use Rattle.ynl_inventory.proofs.inventory.Inventory.submit.Goals as goal

module _ (a : Inside) (h : Held) (view : held_of a ≡ h) (inv : IsInventory a) (name : Name) (new : NewSubmission) (required : CanSubmit h.rows name new) where
  -- what is required, of the parts
  abbrev able : CanSubmit (held_of a).rows name new
  able = subst (λ (h : Held). CanSubmit h.rows name new) (sym view) required

  has : new.tenant < length a.tenants.items
  has = tenant-inside a inv name new able

  module _ (listing : Listing) (read : listing ≡ get_or a.tenants.items new.tenant listing) where
    stood : slice_get a.tenants.items new.tenant ≡ Some listing
    stood = slice_get_read a.tenants.items (length a.tenants.items) new.tenant listing refl has read

    unturned : (more : Listing) → more ≡ record listing { room = more.room } → turn_of name more.entries ≡ None
    unturned more same = ap (λ (l : Listing). turn_of name l.entries) same ∙ no-turn a inv name new able listing stood

    turned : (items : List Listing) (turn : ℕ) → items ≡ a.tenants.items → IfSome (slice_get items new.tenant) (λ l. turn ≡ length l.entries) → turn ≡ length listing.entries
    turned items turn same is =
        at_live (λ (l : Listing). turn ≡ length l.entries) (slice_get items new.tenant) listing is (ap (λ items. slice_get items new.tenant) same ∙ stood)

pub next_turn-turn-requires : goal.next_turn-turn-requires
next_turn-turn-requires c =
    subst (λ items. c.args.new.now.tenant < length items) (sym c.deref.ensures.value)
    (has c.self.inside c.args.self.now c.self.view_is c.self.invariant c.args.name.now c.args.new.now c.requires)

pub index_mut-submissions-requires : goal.index_mut-submissions-requires
index_mut-submissions-requires c =
    subst (λ n. c.args.new.now.tenant < n) (sym c.self.inside.tenants.ok.0)
    (has c.self.inside c.args.self.now c.self.view_is c.self.invariant c.args.name.now c.args.new.now c.requires)

pub submit-turn-requires-clause-unused : goal.submit-turn-requires-clause-unused
submit-turn-requires-clause-unused c =
    unturned c.self.inside c.args.self.now c.self.view_is c.self.invariant c.args.name.now c.args.new.now c.requires c.index_mut-submissions.result.now c.index_mut-submissions.ensures.value
    c.reserve_one-2.new.self c.reserve_one-2.ensures.listing

-- memory alone changes nothing
same-apps : (a : Inside) (apps : Numbered AppPart) → apps ≡ record a.apps { room = apps.room } → apps.entries ≡ a.apps.entries
same-apps a apps same = ap (λ (apps : Numbered AppPart). apps.entries) same

same-tenants : (a : Inside) (t : ℕ) (listing new : Listing) → slice_get a.tenants.items t ≡ Some listing → new ≡ record listing { room = new.room }
    → map (λ (l : Listing). l.entries) (slice_set a.tenants.items t new) ≡ map (λ (l : Listing). l.entries) a.tenants.items
same-tenants a t listing new there same = map-kept (λ (l : Listing). l.entries) a.tenants.items t listing new there (ap (λ (l : Listing). l.entries) same)

pub invariant_of-self-in_err-reserve_one-2 : goal.invariant_of-self-in_err-reserve_one-2
invariant_of-self-in_err-reserve_one-2 c =
    let there =
    stood c.self.inside c.args.self.now c.self.view_is c.self.invariant c.args.name.now c.args.new.now c.requires c.index_mut-submissions.result.now c.index_mut-submissions.ensures.value
    in
    let are =
    room-inventory c.self.inside c.self.invariant c.reserve_one.new.self (same-apps c.self.inside c.reserve_one.new.self c.reserve_one.ensures.apps)
    (map (λ (l : Listing). l.entries) (slice_set c.self.inside.tenants.items c.args.new.now.tenant c.reserve_one-2.new.self))
    (same-tenants c.self.inside c.args.new.now.tenant c.index_mut-submissions.result.now c.reserve_one-2.new.self there c.reserve_one-2.ensures.listing)
    in
    record { sound = are.0; linked = are.1 }

pub returns-in_err-reserve_one-2-clause-err : goal.returns-in_err-reserve_one-2-clause-err
returns-in_err-reserve_one-2-clause-err c =
    let there =
    stood c.self.inside c.args.self.now c.self.view_is c.self.invariant c.args.name.now c.args.new.now c.requires c.index_mut-submissions.result.now c.index_mut-submissions.ensures.value
    in
    on-err _
    (room-rows c.self.inside c.reserve_one.new.self (same-apps c.self.inside c.reserve_one.new.self c.reserve_one.ensures.apps)
    (map (λ (l : Listing). l.entries) (slice_set c.self.inside.tenants.items c.args.new.now.tenant c.reserve_one-2.new.self))
    (same-tenants c.self.inside c.args.new.now.tenant c.index_mut-submissions.result.now c.reserve_one-2.new.self there c.reserve_one-2.ensures.listing)
    ∙ ap (λ (h : Held). h.rows) c.self.view_is)
    c.from_residual-in_err-reserve_one-2.result

-- what the calls leave
module _ (a : Inside) (h : Held) (view : held_of a ≡ h) (inv : IsInventory a) (name : Name) (new : NewSubmission) (required : CanSubmit h.rows name new)
    (listing : Listing) (read : listing ≡ get_or a.tenants.items new.tenant listing) (items : List Listing) (turn : ℕ) (items-are : items ≡ a.tenants.items)
    (turn-is : IfSome (slice_get items new.tenant) (λ l. turn ≡ length l.entries)) (row : AppPart) (row-is : IsNewRow new turn row)
    (spare : Numbered AppPart) (spare-is : spare ≡ record a.apps { room = spare.room }) (more : Listing) (more-is : more ≡ record listing { room = more.room })
    (app : ℕ) (unused : IsUnused app spare.entries) (apps' : Numbered AppPart) (apps-are : apps'.entries ≡ spare.entries ++ (app, row) ∷ [])
    (listing' : Listing) (listing-is : listing'.entries ≡ more.entries ++ (name, record { leaf = new.leaf; app = Some app }) ∷ []) where
  there : slice_get a.tenants.items new.tenant ≡ Some listing
  there = stood a h view inv name new required listing read

  is-new : IsNewRow new (length listing.entries) row
  is-new = subst (λ turn. IsNewRow new turn row) (turned a h view inv name new required listing read items turn items-are turn-is) row-is

  unused-there : IsUnused app a.apps.entries
  unused-there = subst (λ (apps : Numbered AppPart). IsUnused app apps.entries) spare-is unused

  with-app : apps'.entries ≡ a.apps.entries ++ (app, row) ∷ []
  with-app = apps-are ∙ ap (λ (apps : Numbered AppPart). apps.entries ++ (app, row) ∷ []) spare-is

  with-name : listing'.entries ≡ listing.entries ++ (name, record { leaf = new.leaf; app = Some app }) ∷ []
  with-name = listing-is ∙ ap (λ (l : Listing). l.entries ++ (name, record { leaf = new.leaf; app = Some app }) ∷ []) more-is

  all-rows : record (held_of a).rows { apps = of_rows app_row apps'.entries; tenants = map (λ (l : Listing). l.entries) (slice_set a.tenants.items new.tenant listing') }
      ≡ with_submitted app name new.tenant new.leaf new.user new.home new.master_size h.rows
  all-rows =
      submitted-rows a inv name new (able a h view inv name new required) listing there row is-new app unused-there apps' with-app listing' with-name
      ∙ ap (λ (h : Held). with_submitted app name new.tenant new.leaf new.user new.home new.master_size h.rows) view

  all-sound : IsSound (record (held_of a).rows { apps = of_rows app_row apps'.entries; tenants = map (λ (l : Listing). l.entries) (slice_set a.tenants.items new.tenant listing') })
  all-sound = submitted-rows-sound a inv name new (able a h view inv name new required) listing there row is-new app unused-there apps' with-app listing' with-name

  all-linked : AreLinked a.partitions.items a.nodes.entries apps'.entries
  all-linked = submitted-linked a inv name new (able a h view inv name new required) listing there row is-new app unused-there apps' with-app listing' with-name

pub invariant_of-self-2 : goal.invariant_of-self-2
invariant_of-self-2 c = record {
  sound =
      all-sound c.self.inside c.args.self.now c.self.view_is c.self.invariant c.args.name.now c.args.new.now c.requires c.index_mut-submissions.result.now c.index_mut-submissions.ensures.value
      c.deref.result.now c.next_turn-turn.result c.deref.ensures.value c.next_turn-turn.ensures c.in_ok-row.row c.in_ok-row.ensures c.reserve_one.new.self c.reserve_one.ensures.apps
      c.reserve_one-2.new.self c.reserve_one-2.ensures.listing c.add-app.result c.add-app.ensures.unused c.add-app.new.self c.add-app.ensures.entries c.submit-turn.new.self
      c.submit-turn.ensures.entries;
  linked =
      all-linked c.self.inside c.args.self.now c.self.view_is c.self.invariant c.args.name.now c.args.new.now c.requires c.index_mut-submissions.result.now c.index_mut-submissions.ensures.value
      c.deref.result.now c.next_turn-turn.result c.deref.ensures.value c.next_turn-turn.ensures c.in_ok-row.row c.in_ok-row.ensures c.reserve_one.new.self c.reserve_one.ensures.apps
      c.reserve_one-2.new.self c.reserve_one-2.ensures.listing c.add-app.result c.add-app.ensures.unused c.add-app.new.self c.add-app.ensures.entries c.submit-turn.new.self
      c.submit-turn.ensures.entries;
}

pub returns-clause-rows : goal.returns-clause-rows
returns-clause-rows c =
    all-rows c.self.inside c.args.self.now c.self.view_is c.self.invariant c.args.name.now c.args.new.now c.requires c.index_mut-submissions.result.now c.index_mut-submissions.ensures.value
    c.deref.result.now c.next_turn-turn.result c.deref.ensures.value c.next_turn-turn.ensures c.in_ok-row.row c.in_ok-row.ensures c.reserve_one.new.self c.reserve_one.ensures.apps
    c.reserve_one-2.new.self c.reserve_one-2.ensures.listing c.add-app.result c.add-app.ensures.unused c.add-app.new.self c.add-app.ensures.entries c.submit-turn.new.self
    c.submit-turn.ensures.entries

pub returns-clause-unused : goal.returns-clause-unused
returns-clause-unused c =
    subst (λ (h : Held). IsUnused c.add-app.result h.rows.apps) c.self.view_is
    (unused_of_rows app_row c.add-app.result c.self.inside.apps.entries (subst (λ (t : Numbered AppPart). IsUnused c.add-app.result t.entries) c.reserve_one.ensures.apps c.add-app.ensures.unused))
