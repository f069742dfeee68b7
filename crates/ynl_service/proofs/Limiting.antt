-- What is told of the limits of a request by numbers is what the model tests.
use Rattle.std.proofs.Common.{◌≡◌, ◌≢◌, ℕ, Bool, true, not, ◌&&◌, ◌||◌, nat_eq, List, [], ◌∷◌, IsSome, None, Some, option_map, refl, sym, ap, subst, ◌∙◌, arith, true≢false}
use Rattle.std.specs.Map.{lookup}
use Rattle.std.specs.Option.{option_and_then}
use Rattle.std.proofs.lemmas.Bool.{and_from}
use Rattle.std.proofs.lemmas.Bool.Decides.{nat_tests}
use Rattle.std.proofs.lemmas.Option.{same_Some}
use Rattle.ynl_resource.specs.Amounts.{fits_in}
use Rattle.ynl_resource.specs.Refusals.{first_that_holds}
use Rattle.ynl_resource.specs.declared.amounts.Resource.{Resource}
use Rattle.ynl_resource.specs.declared.refusals.Refusal.TheVariants.{OverMaximum, OverUserLimit, OverMasterShare}
use Rattle.ynl_model.specs.declared.nodes.Node.{Node}
use Rattle.ynl_model.specs.Cluster.{State, free}
use Rattle.ynl_model.specs.Service.{Item, within_maximum, within_master_share, within_user_limit}
use Rattle.ynl_tables.specs.declared.containers.container.Role.{Role}
use Rattle.ynl_tables.specs.declared.containers.container.Role.TheVariants.{Master, Ask as Asked}
use Rattle.ynl_lanes.specs.lane.Seats.{Seat}
use Rattle.ynl_inventory.specs.Rows.{AppRow}
use Rattle.ynl_inventory.specs.Apps.{is_master_role}
use Rattle.ynl_inventory.specs.Meaning.{item_of}
use Rattle.ynl_inventory.specs.Sound.{HasPartition, IsLeaf, IsSound}
use Rattle.ynl_inventory.proofs.Submitted.{app-submission}
use Rattle.ynl_cluster.specs.seating.Seating.{shares, ticket_on, user_use}
use Rattle.ynl_cluster.proofs.seating.UserUse.{is-user_use}
use Rattle.ynl_cluster.specs.Cluster.{ClusterView, label_of, maxima_in, path_of, state_in, stops_in}
use Rattle.ynl_search.specs.declared.leaf.LeafTests.{LeafTests}
use Rattle.ynl_search.specs.declared.place.Place.{Place}
use Rattle.ynl_search.specs.notes.Lanes.{IsLaneOf}
use Rattle.ynl_search.specs.Leaves.{AreTests, keeps_limit, keeps_share}
use Rattle.ynl_search.specs.Places.{IsPlace, allows}
use Rattle.ynl_search.specs.Scenes.{IsPlaceOf}
use Rattle.ynl_search.proofs.SeatGiven.{seat-used}
use Rattle.ynl_search.proofs.Tests.{master, user}
use Rattle.ynl_service.specs.Checking.{limit_reasons}

module _ (w : ClusterView) (sound : IsSound w.rows) (n : ℕ) (row : AppRow) (found : lookup (nat_eq n) w.rows.apps ≡ Some row) where
  -- an application's leaf
  pub leaf-is : IsLeaf w.rows row.leaf
  leaf-is = let s = app-submission w.rows sound n row found in record { there = s.there; none_below = s.leaf }

  -- ---- what its user uses

  module _ (p : ℕ) (shared : shares p row ≡ true) (seats : List (ℕ × Seat)) (lane : IsLaneOf w.rows p row.leaf seats) where
    ticket : IsSome (ticket_on p row)
    ticket = lane.tickets n row found shared

    pub ticket-there : ticket_on p row ≢ None
    ticket-there none = true≢false (sym (subst IsSome none ticket))

    itself : nat_eq row.leaf row.leaf ≡ true
    itself = grind (arith, nat_tests)

    pub used-at : (at : ℕ) → ticket_on p row ≡ Some at → option_map (λ seat. seat.used) (lookup (nat_eq at) seats) ≡ Some (user_use w.rows p row.leaf row.user)
    used-at at is =
        sym (ap (option_and_then (λ ticket. option_map (λ (seat : Seat). seat.used) (lookup (nat_eq ticket) seats))) is)
        ∙ seat-used w.rows p row.leaf seats lane.seats_are lane.distinct n row found (and_from (nat_eq row.leaf row.leaf) (shares p row) itself shared) ticket

  -- ---- the limits

  module _ (p : ℕ) (has : HasPartition w.rows p) (node : Node) (on : node.label ≡ label_of w p) (place : Place) (at : place.queue ≡ row.leaf) (way : IsPlaceOf w p (free (state_in w) node) place)
      (tests : LeafTests) (are : AreTests w.config (state_in w) (label_of w p) (free (state_in w) node) (path_of w place.queue) tests)
      (role : Role) (size : Resource) (fits : fits_in size (free (state_in w) node) ≡ true) where
    abbrev s : State
    s = state_in w

    abbrev item : Item
    item = item_of w.rows row role size

    way-there : IsPlace w.config s (label_of w p) (free s node) (path_of w row.leaf) place
    way-there = subst (λ q. IsPlace w.config s (label_of w p) (free s node) (path_of w q) place) at way

    tests-there : AreTests w.config s (label_of w p) (free s node) (path_of w row.leaf) tests
    tests-there = subst (λ q. AreTests w.config s (label_of w p) (free s node) (path_of w q) tests) at are

    maximum-told : allows place.headroom size ≡ within_maximum s node.label item
    unfolding within_maximum
    maximum-told = way-there.headroom size ∙ ap (λ b. b && within_maximum s (label_of w p) item) fits ∙ ap (λ label. within_maximum s label item) (sym on)

    limit-told : keeps_limit tests (user_use w.rows p row.leaf row.user) size ≡ within_user_limit w.config s node.label item
    limit-told =
        ap (λ (used : Resource). keeps_limit tests used size) (sym (is-user_use w.rows sound p row.leaf row.user has leaf-is (sound.apps n row found).user (stops_in w) (maxima_in w)))
        ∙ user w.config s (label_of w p) (path_of w row.leaf) tests node item tests-there on refl

    share-of : (role : Role) → (not (is_master_role role) || keeps_share tests size) ≡ within_master_share w.config s node.label (item_of w.rows row role size).leaf (item_of w.rows row role size).what size
    unfolding within_master_share
    share-of Master = master w.config s (label_of w p) (path_of w row.leaf) tests node (item_of w.rows row Master size) tests-there on refl
    share-of (Asked q priority) = refl

    share-told : (not (is_master_role role) || keeps_share tests size) ≡ within_master_share w.config s node.label item.leaf item.what size
    share-told = share-of role

    -- the first of them that a request would pass
    pub first-limit : (a b d : Bool) → allows place.headroom size ≡ a → keeps_limit tests (user_use w.rows p row.leaf row.user) size ≡ b → (not (is_master_role role) || keeps_share tests size) ≡ d
        → first_that_holds ((OverMaximum, not a) ∷ (OverUserLimit, not b) ∷ (OverMasterShare, not d) ∷ []) ≡ first_that_holds (limit_reasons w.config s node.label item)
    first-limit a b d x y z =
        λ i. first_that_holds ((OverMaximum, not ((sym x ∙ maximum-told) i)) ∷ (OverUserLimit, not ((sym y ∙ limit-told) i)) ∷ (OverMasterShare, not ((sym z ∙ share-told) i)) ∷ [])

-- so it is for each node with that label and so much free, whichever row is read
pub limits-read : (w : ClusterView) → IsSound w.rows → (n : ℕ) (mine : AppRow) → lookup (nat_eq n) w.rows.apps ≡ Some mine → (p : ℕ) → HasPartition w.rows p
    → (room : Resource) (place : Place) → place.queue ≡ mine.leaf → IsPlaceOf w p room place
    → (tests : LeafTests) → ((free : Resource) → IsPlaceOf w p free place → AreTests w.config (state_in w) (label_of w p) free (path_of w place.queue) tests)
    → (role : Role) (size : Resource) → fits_in size room ≡ true
    → (a b d : Bool) → allows place.headroom size ≡ a → keeps_limit tests (user_use w.rows p mine.leaf mine.user) size ≡ b → (not (is_master_role role) || keeps_share tests size) ≡ d
    → (node : Node) (row : AppRow) → node.label ≡ label_of w p → room ≡ free (state_in w) node → lookup (nat_eq n) w.rows.apps ≡ Some row
    → first_that_holds ((OverMaximum, not a) ∷ (OverUserLimit, not b) ∷ (OverMasterShare, not d) ∷ []) ≡ first_that_holds (limit_reasons w.config (state_in w) node.label (item_of w.rows row role size))
limits-read w sound n mine found p has room place queue way tests are role size fits a b d x y z node row on is at =
    let there : IsPlaceOf w p (free (state_in w) node) place = subst (λ (room : Resource). IsPlaceOf w p room place) is way in
    first-limit w sound n mine found p has node on place queue there tests (are (free (state_in w) node) there) role size (subst (λ (room : Resource). fits_in size room ≡ true) is fits) a b d x y z
    ∙ ap (λ (r : AppRow). first_that_holds (limit_reasons w.config (state_in w) node.label (item_of w.rows r role size))) (same_Some mine row (sym found ∙ at))
