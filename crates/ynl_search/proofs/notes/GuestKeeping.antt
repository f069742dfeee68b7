-- What is noted of guests stays right while the cluster changes.
use Rattle.std.proofs.Common.{◌≡◌, ℕ, Bool, true, false, nat_eq, [], Some, refl, sym, ap, subst, ◌∙◌, true≢false}
use Rattle.std.specs.Map.{lookup}
use Rattle.std.proofs.lemmas.Option.{same_Some}
use Rattle.ynl_resource.specs.Names.{is_within}
use Rattle.ynl_resource.specs.declared.amounts.Resource.{Resource}
use Rattle.ynl_resource.specs.declared.labels.Label.TheVariants.{Unlabelled}
use Rattle.ynl_resource.specs.declared.paths.Path.{Path}
use Rattle.ynl_model.specs.Applications.{Application, in_leaf, set_ask, submitted, with_app}
use Rattle.ynl_model.specs.Changes.{app_finishes, end, place}
use Rattle.ynl_model.specs.Cluster.{State, is_master_what}
use Rattle.ynl_inventory.specs.layout.Paths.{HasNumber}
use Rattle.ynl_laws.specs.Working.{IsWorking}
use Rattle.ynl_tables.specs.declared.containers.container.Container.{Container}
use Rattle.ynl_tables.specs.declared.containers.container.Role.{Role}
use Rattle.ynl_tables.specs.declared.containers.container.Role.TheVariants.{Master, Ask as Asked}
use Rattle.ynl_tables.specs.declared.apps.asks.Ask.{Ask}
use Rattle.ynl_inventory.specs.Rows.{AppRow}
use Rattle.ynl_inventory.specs.Meaning.{app_name, app_of, ask_of, item_of, node_of, placed_of, what_of}
use Rattle.ynl_inventory.specs.Parts.{held_at}
use Rattle.ynl_inventory.specs.Sound.{IsFor, IsPlaceable, IsSound}
use Rattle.ynl_cluster.proofs.requests.Tables.{tabled}
use Rattle.ynl_cluster.specs.Cluster.{ClusterView, label_of, maxima_in, path_of, state_in, stops_in}
use Rattle.std.proofs.Common.{Contains}
use Rattle.ynl_resource.specs.Amounts.{fits_in}
use Rattle.ynl_resource.specs.Names.{same_path}
use Rattle.ynl_model.specs.Service.{Item, asks_for}
use Rattle.ynl_laws.proofs.Amounts.{fits-trans}
use Rattle.ynl_laws.proofs.Lists.{Each-weaker, each-contained}
use Rattle.ynl_laws.proofs.Names.{same-path, within-self}
use Rattle.ynl_inventory.proofs.AppChange.{path-self}
use Rattle.ynl_cluster.proofs.requests.Members.{among-contained, each-among}
use Rattle.ynl_search.specs.notes.Notes.{Row, noted_in}
use Rattle.ynl_search.specs.notes.Shut.{AreAtLeast, AreGuestsRight}
use Rattle.ynl_search.specs.notes.Upkeep.{AreGuestsLeft}
use Rattle.ynl_search.proofs.notes.Facts.{known, row-there}
use Rattle.ynl_search.proofs.notes.GuestsStay.{AllHold, asks-of-leaf, hold-asking, hold-beginning, hold-ending, hold-finishing, hold-from, hold-placing, hold-submitting, hold-to}
use Rattle.ynl_search.proofs.notes.Keeping.{part}
use Rattle.ynl_search.proofs.notes.Leaving.{HaveSameCells, same-cells}

-- what is known of all asks for DEFAULT, and of whatever a leaf asks for, lasts while the leaf changes
abbrev LastsApart : State → State → Path → Type 1
LastsApart s t leaf = (P : Item → Type 0) → ((item : Item) → item.leaf ≡ leaf → P item) → AllHold P Unlabelled s → AllHold P Unlabelled t

module _ (w u : ClusterView) (sound : IsSound w.rows) (after : IsSound u.rows) (working : IsWorking w.config (state_in w))
    (before-for : IsFor w.config w.rows) (after-for : IsFor u.config u.rows) (config : u.config ≡ w.config) (old left : Row) where
  same : HaveSameCells w u
  same = same-cells w u before-for after-for config

  module _ (leaf : ℕ) (are : AreGuestsLeft u leaf old left) (lasts : LastsApart (state_in w) (state_in u) (path_of w leaf)) (right : AreGuestsRight w old) (q : ℕ) (there : HasNumber u.rows.paths q) where
    abbrev before : Resource
    before = (noted_in old q).least

    here : HasNumber w.rows.paths q
    here = (same.there 0 q (record { partition = after.some; queue = there })).queue

    -- what is asked for below the queue, but in the leaf, is for so much at least
    abbrev IsLarge : Item → Type 0
    IsLarge item = is_within (path_of w q) item.leaf ≡ true → same_path item.leaf (path_of w leaf) ≡ false → fits_in before item.size ≡ true

    all-large : AllHold IsLarge Unlabelled (state_in u)
    all-large =
        lasts IsLarge (λ item at within apart. absurd (true≢false (sym (path-self (path_of w leaf)) ∙ ap (λ path. same_path path (path_of w leaf)) (sym at) ∙ apart)))
        (hold-to IsLarge Unlabelled (state_in w)
        (Each-weaker (Contains (asks_for (state_in w) Unlabelled)) IsLarge (λ item among within apart. right q here item (record { among = among; within = within })) (asks_for (state_in w) Unlabelled) (each-contained (asks_for (state_in w) Unlabelled))))

    guest-right : AreAtLeast (asks_for (state_in u) Unlabelled) (path_of u q) (noted_in left q).least
    guest-right item below = go (same_path item.leaf (path_of u leaf)) refl
      where
        go : (b : Bool) → same_path item.leaf (path_of u leaf) ≡ b → fits_in (noted_in left q).least item.size ≡ true
        go true e =
            let at = same-path item.leaf (path_of u leaf) e in
            (are q there).own (ap (is_within (path_of u q)) (sym at) ∙ below.within) item
            (record { among = below.among; within = ap (is_within (path_of u leaf)) at ∙ within-self (path_of u leaf) })
        go false apart =
            fits-trans (noted_in left q).least before item.size (are q there).below
            (each-among IsLarge item (asks_for (state_in u) Unlabelled) (hold-from IsLarge Unlabelled (state_in u) all-large) (among-contained item (asks_for (state_in u) Unlabelled) below.among)
            (ap (λ path. is_within path item.leaf) (sym (same.paths q)) ∙ below.within)
            (ap (same_path item.leaf) (sym (same.paths leaf)) ∙ apart))

  -- a container was placed
  pub place-guests : (node app : ℕ) (role : Role) (size : Resource) (can : IsPlaceable w.rows node app role)
      → state_in u ≡ place w.config (node_of w.rows.partitions can.node_row) (item_of w.rows can.app_row role size) (state_in w)
      → (row : AppRow) → lookup (nat_eq app) w.rows.apps ≡ Some row → AreGuestsLeft u row.leaf old left → AreGuestsRight w old → AreGuestsRight u left
  place-guests node app role size can is row found are = guest-right row.leaf are (λ P its h. subst (AllHold P Unlabelled) (sym is) (go P (λ item at. its item (at ∙ ap (λ (r : AppRow). path_of w r.leaf) own)) role refl h))
    where
      own : can.app_row ≡ row
      own = same_Some can.app_row row (sym can.app_found ∙ found)

      go : (P : Item → Type 0) → ((item : Item) → item.leaf ≡ path_of w can.app_row.leaf → P item) → (r : Role) → r ≡ role → AllHold P Unlabelled (state_in w)
          → AllHold P Unlabelled (place w.config (node_of w.rows.partitions can.node_row) (item_of w.rows can.app_row role size) (state_in w))
      go P its (Asked asked priority) e h =
          hold-placing P Unlabelled w.config (state_in w) (node_of w.rows.partitions can.node_row) (item_of w.rows can.app_row role size)
          (row-there w.rows sound (stops_in w) (maxima_in w) can.node_row.partition can.partition can.partition_found)
          (ap (λ r. is_master_what (what_of w.rows.partitions r)) (sym e)) h
      go P its Master e h =
          hold-beginning P Unlabelled w.config (state_in w) (node_of w.rows.partitions can.node_row) (item_of w.rows can.app_row role size)
          (row-there w.rows sound (stops_in w) (maxima_in w) can.node_row.partition can.partition can.partition_found) working.kept
          (known w.rows sound (stops_in w) (maxima_in w) app can.app_row can.app_found)
          (λ app at. asks-of-leaf P (path_of w can.app_row.leaf) Unlabelled app its at) h

  -- one ended
  pub end-guests : (p number : ℕ) (c : Container) (row : AppRow) → held_at w.rows p number ≡ Some c → lookup (nat_eq c.app) w.rows.apps ≡ Some row
      → state_in u ≡ end w.config (state_in w) (placed_of w.rows (label_of w p) c) → AreGuestsLeft u row.leaf old left → AreGuestsRight w old → AreGuestsRight u left
  end-guests p number c row held found is are =
      guest-right row.leaf are
      (λ P its h.
      subst (AllHold P Unlabelled) (sym is)
      (hold-ending P Unlabelled w.config (state_in w) (placed_of w.rows (label_of w p) c)
      (row-there w.rows sound (stops_in w) (maxima_in w) p (part w p number c held).0 (part w p number c held).1) h))

  -- an application was submitted
  pub submit-guests : (leaf : ℕ) (app : Application) → app.asks ≡ [] → state_in u ≡ record (state_in w) { leaves = in_leaf app.leaf (submitted app) (state_in w).leaves }
      → AreGuestsLeft u leaf old left → AreGuestsRight w old → AreGuestsRight u left
  submit-guests leaf app none is are = guest-right leaf are (λ P its h. subst (AllHold P Unlabelled) (sym is) (hold-submitting P Unlabelled (state_in w) app none h))

  -- one asked
  pub ask-guests : (app : ℕ) (ask : Ask) (row : AppRow)
      → state_in u ≡ record (state_in w) { leaves = in_leaf (path_of w row.leaf) (with_app (app_name w.rows.tenants row.tenant row.turn) (set_ask (ask_of w.rows.partitions ask))) (state_in w).leaves }
      → AreGuestsLeft u row.leaf old left → AreGuestsRight w old → AreGuestsRight u left
  ask-guests app ask row is are =
      guest-right row.leaf are
      (λ P its h.
      subst (AllHold P Unlabelled) (sym is)
      (hold-asking P Unlabelled (state_in w) (path_of w row.leaf) (app_name w.rows.tenants row.tenant row.turn) (ask_of w.rows.partitions ask)
      (tabled w.rows sound (stops_in w) (maxima_in w)) (λ wanted app at. its _ at) h))

  -- one finished
  pub finish-guests : (app : ℕ) (row : AppRow) → state_in u ≡ app_finishes w.config (app_of w.rows (app, row)) (state_in w)
      → AreGuestsLeft u row.leaf old left → AreGuestsRight w old → AreGuestsRight u left
  finish-guests app row is are =
      guest-right row.leaf are
      (λ P its h. subst (AllHold P Unlabelled) (sym is) (hold-finishing P Unlabelled w.config (state_in w) (app_of w.rows (app, row)) working.ordered h))
