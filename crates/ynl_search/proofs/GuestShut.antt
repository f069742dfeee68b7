-- When no guest comes from below a queue.
use Rattle.std.proofs.Common.{◌≡◌, ℕ, Bool, true, false, ◌&&◌, cond, nat_eq, None, refl, sym, ap, subst, ◌∙◌, arith, true≢false}
use Rattle.std.proofs.lemmas.Bool.Decides.{nat_tests}
use Rattle.ynl_resource.specs.Amounts.{fits_in}
use Rattle.ynl_resource.specs.declared.amounts.Resource.{Resource}
use Rattle.ynl_resource.specs.declared.labels.Label.TheVariants.{Unlabelled}
use Rattle.ynl_resource.specs.declared.paths.Path.{Path}
use Rattle.ynl_model.specs.declared.nodes.Node.{Node}
use Rattle.ynl_model.specs.Cluster.{State, free}
use Rattle.ynl_model.specs.Service.{Item, asks_for, has_room}
use Rattle.ynl_laws.specs.Decided.{below}
use Rattle.ynl_laws.proofs.Amounts.{fits-trans}
use Rattle.ynl_search.specs.descent.Scenes.{HasNone}
use Rattle.ynl_inventory.proofs.Finding.{not-true}
use Rattle.ynl_cluster.proofs.requests.Members.{among-contained, among-filter, contained-among}
use Rattle.ynl_cluster.specs.Cluster.{ClusterView, path_of, state_in}
use Rattle.ynl_search.specs.declared.notes.noted.Noted.{Noted}
use Rattle.ynl_search.specs.notes.Notes.{Notes, has_in, noted_in}
use Rattle.ynl_search.specs.notes.Shut.{AreAtLeast, AreOwnRight, AreShut}
use Rattle.ynl_search.specs.Scenes.{guest_scene}
use Rattle.ynl_search.specs.Shut.{IsGuestless}

-- where all that is asked for is at least what does not fit in a room, none comes in it
pub too-large : (s : State) (queue : Path) (least room : Resource) → AreAtLeast (asks_for s Unlabelled) queue least → fits_in least room ≡ false → IsGuestless s queue room
too-large s queue least room above misfit item below = not-true (fits_in item.size room) (λ fits. true≢false (sym (fits-trans least item.size room (above item below) fits) ∙ misfit))

module _ (w : ClusterView) (node : Node) (room : Resource) (is : room ≡ free (state_in w) node) (queue : Path) where
  abbrev test : Item → Bool
  test item = has_room (state_in w) node item.size

  -- where none comes in what is free on a node, the node has room for none
  pub guestless-none : IsGuestless (state_in w) queue room → HasNone (guest_scene w node) queue
  guestless-none shut item h =
      let one = among-filter test item (asks_for (state_in w) Unlabelled) (among-contained item (guest_scene w node).items h.among) in
      true≢false
      (sym one.1 ∙ ap (fits_in item.size) (sym is)
      ∙ shut item (record { among = contained-among item (asks_for (state_in w) Unlabelled) one.0; within = h.within }))

-- notes stay right where one more least is noted
pub noted-guest : (w : ClusterView) (q : ℕ) (least : Resource) (old new : Notes) → AreShut w old → new.own ≡ old.own
    → ((t : ℕ) → noted_in new.guests t ≡ cond (has_in old.guests t && nat_eq t q) (record { room = None; least = least }) (noted_in old.guests t))
    → AreAtLeast (asks_for (state_in w) Unlabelled) (path_of w q) least → AreShut w new
noted-guest w q least old new shut same noted own = record {
  own = subst (AreOwnRight w) (sym same) shut.own;
  guests = λ t there. subst (λ (n : Noted). AreAtLeast (asks_for (state_in w) Unlabelled) (path_of w t) n.least) (sym (noted t)) (go t (shut.guests t there) (has_in old.guests t) (nat_eq t q) refl);
}
  where
    go : (t : ℕ) → AreAtLeast (asks_for (state_in w) Unlabelled) (path_of w t) (noted_in old.guests t).least → (has here : Bool) → nat_eq t q ≡ here
        → AreAtLeast (asks_for (state_in w) Unlabelled) (path_of w t) (cond (has && here) (record { room = None; least = least }) (noted_in old.guests t)).least
    go t before false here e = before
    go t before true false e = before
    go t before true true e = let at : q ≡ t = grind (arith, nat_tests, e) in subst (λ n. AreAtLeast (asks_for (state_in w) Unlabelled) (path_of w n) least) at own
