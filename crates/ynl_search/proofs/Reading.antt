-- What is found in a leaf of a cluster is the model's first request there.
use Rattle.std.proofs.Common.{◌≡◌, ℕ, Bool, true, false, ◌&&◌, ◌||◌, List, ◌∷◌, Option, None, Some, option_map, refl, sym, ap, subst, ◌∙◌, true≢false}
use Rattle.std.specs.Prelude.{IfNone}
use Rattle.std.specs.List.{list_all}
use Rattle.ynl_resource.specs.Names.{is_within, root, way_to}
use Rattle.ynl_model.specs.declared.nodes.Node.{Node}
use Rattle.ynl_model.specs.Service.{within_master_share, within_user_limit}
use Rattle.ynl_model.specs.Cluster.{free}
use Rattle.ynl_lanes.specs.lane.Seats.{Seat}
use Rattle.ynl_inventory.specs.Sound.{IsLeaf, IsSound}
use Rattle.ynl_cluster.specs.Cluster.{ClusterView, IsCell, label_of, maxima_in, path_of, state_in, stops_in}
use Rattle.ynl_search.specs.descent.Scenes.{IsFirstBelow}
use Rattle.ynl_search.specs.declared.found.Found.{Found}
use Rattle.ynl_search.specs.declared.leaf.LeafTests.{LeafTests}
use Rattle.ynl_search.specs.Guests.{first_guest}
use Rattle.ynl_search.specs.notes.Lanes.{IsLaneOf}
use Rattle.ynl_search.specs.InLeaf.{first_own}
use Rattle.ynl_search.specs.Laws.{is_asked, is_wanted, item_asked, item_wanted}
use Rattle.ynl_search.specs.Leaves.{AreLimits, AreTests}
use Rattle.ynl_search.specs.Places.{allows}
use Rattle.ynl_search.specs.Shut.{HasNoneIn}
use Rattle.ynl_search.specs.declared.headroom.Headroom.{Headroom}
use Rattle.ynl_search.specs.notes.Shut.{keeps_maximum}
use Rattle.ynl_search.specs.Scenes.{IsFirstGuest, IsFirstOwn, guest_scene, own_scene}
use Rattle.ynl_search.proofs.GuestFirst.{guest-is-asked, guest-means}
use Rattle.ynl_search.proofs.LeafFirst.{leaf-first, leaf-wanted, none-limited}
use Rattle.ynl_search.proofs.Wanted.{if-same}

module _ (w : ClusterView) (sound : IsSound w.rows) (q : ℕ) (leaf : IsLeaf w.rows q) (seats : List (ℕ × Seat)) where
  pub own-read : (p : ℕ) → IsCell w p q → IsLaneOf w.rows p q seats → (node : Node) → node.label ≡ label_of w p → (tests : LeafTests)
      → AreTests w.config (state_in w) (label_of w p) (free (state_in w) node) (path_of w q) tests
      → (result : Option Found) → result ≡ first_own w.rows seats p tests → IsFirstOwn w p node q result
  own-read p cell lane node there tests are result is =
      subst (IsFirstBelow (own_scene w node) (path_of w q))
      (sym (if-same w.rows (is_wanted w.rows p) (first_own w.rows seats p tests) (leaf-wanted w.rows sound (stops_in w) (maxima_in w) p q cell.partition leaf seats lane w.config node there tests are))
      ∙ ap (option_map (item_wanted w.rows p)) (sym is))
      (leaf-first w.rows sound (stops_in w) (maxima_in w) p q cell.partition leaf seats lane w.config node there tests are)

  -- where nothing is found no request for which there is headroom keeps what is to be kept below the leaf
  pub none-read : (p : ℕ) → IsCell w p q → IsLaneOf w.rows p q seats → (tests : LeafTests) → AreLimits w.config (state_in w) (label_of w p) (path_of w q) tests → (h : Headroom) → tests.headroom ≡ h
      → (result : Option Found) → result ≡ first_own w.rows seats p tests → IfNone result (HasNoneIn w p h q)
  none-read p cell lane tests are h same (Some found) is = tt
  none-read p cell lane tests are h same None is = λ item below allowed.
      let label = label_of w p in
      let steps = list_all (λ step. is_within step (path_of w q) || keeps_maximum (state_in w) label item.size step) (root ∷ way_to item.leaf) in
      let user = within_user_limit w.config (state_in w) label item in
      let share = within_master_share w.config (state_in w) label item.leaf item.what item.size in
      never steps user share (allows tests.headroom item.size) (ap (λ (h : Headroom). allows h item.size) same ∙ allowed)
      (none-limited w.rows sound (stops_in w) (maxima_in w) q leaf p cell.partition seats lane w.config tests are (sym is) item below)
    where
      never : (steps user share opens : Bool) → opens ≡ true → (opens && user && share) ≡ false → (steps && (user && share)) ≡ false
      never false user share opens e h = refl
      never true user share true e h = h
      never true user share false e h = absurd (true≢false (sym e))

  pub guest-read : IsLaneOf w.rows 0 q seats → (node : Node) (result : Option Found) → result ≡ first_guest w.rows seats (free (state_in w) node) → IsFirstGuest w node q result
  guest-read lane node result is =
      subst (IsFirstBelow (guest_scene w node) (path_of w q))
      (sym (if-same w.rows (is_asked w.rows 0) (first_guest w.rows seats (free (state_in w) node)) (guest-is-asked w.rows sound (stops_in w) (maxima_in w) q leaf seats lane w.config node))
      ∙ ap (option_map (item_asked w.rows 0)) (sym is))
      (guest-means w.rows sound (stops_in w) (maxima_in w) q leaf seats lane w.config node)
