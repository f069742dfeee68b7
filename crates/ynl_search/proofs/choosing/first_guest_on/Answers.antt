use Rattle.std.proofs.Common.{◌≡◌, List, ◌∷◌, length, ap, sym, subst, ◌∙◌, arith}
use Rattle.std.specs.Prelude.{option_map}
use Rattle.ynl_resource.specs.Names.{is_within, root}
use Rattle.ynl_resource.specs.declared.paths.Path.{Path}
use Rattle.ynl_model.specs.declared.nodes.Node.{Node}
use Rattle.ynl_search.specs.descent.Scenes.{HasNone, IsFirstBelow}
use Rattle.ynl_inventory.specs.Parts.{Held, free_of}
use Rattle.ynl_inventory.proofs.Lookups.{live-found}
use Rattle.ynl_cluster.specs.Cluster.{path_of, state_in}
use Rattle.ynl_resource.specs.declared.amounts.Resource.{Resource}
use Rattle.ynl_resource.specs.declared.labels.Label.TheVariants.{Unlabelled}
use Rattle.ynl_model.specs.Service.{asks_for}
use Rattle.ynl_search.specs.notes.Shut.{AreAtLeast}
use Rattle.ynl_search.specs.declared.place.Place.{Place}
use Rattle.ynl_search.specs.Laws.{item_asked}
use Rattle.ynl_search.specs.Scenes.{IsGuestQueue, guest_scene, node_at}
use Rattle.ynl_search.proofs.GuestShut.{guestless-none, too-large}
use Rattle.ynl_search.proofs.NodeIs.{few-pass, free-at, row-is}
use Rattle.ynl_search.proofs.choosing.first_guest_on.Goals as goal

pub descend-requires-clause-queue : goal.descend-requires-clause-queue
descend-requires-clause-queue c =
    let w = c.args.cluster.now in
    let h = c.inventory-inventory.ensures in
    let live = live-found c.args.node w.rows.nodes c.requires.node in
    subst (λ (place : Place). IsGuestQueue w c.args.node c.free-room.result place c.reach-root.result.children.now) (sym c.reach-root.ensures.place)
    (record {
      reached = c.reach-root.ensures.reached;
      way = c.root_at-place.ensures.place;
      free_is = free-at w h.sound c.args.node live.0 live.1 c.free-room.result (c.free-room.ensures ∙ ap (λ (h : Held). free_of h.rows c.args.node) h.value);
    })

pub descend-requires-clause-height : goal.descend-requires-clause-height
descend-requires-clause-height c =
    let w = c.args.cluster.now in
    let few = few-pass (is_within (path_of w c.reach-root.result.place.queue)) (root ∷ w.rows.paths) in
    let many : c.len.result ≡ length (root ∷ w.rows.paths) = c.len.ensures.value ∙ ap (λ (paths : List Path). length (root ∷ paths)) (c.layout.ensures ∙ ap (λ (h : Held). h.rows.paths) c.inventory-inventory.ensures.value) in
    omega (arith, few, many)

pub returns-clause-first : goal.returns-clause-first
returns-clause-first c = λ row at.
    let w = c.args.cluster.now in
    subst (λ (node : Node). IsFirstBelow (guest_scene w node) root (option_map (item_asked w.rows 0) c.descend.result)) (row-is w c.inventory-inventory.ensures.sound c.args.node row at)
    (subst (λ q. IsFirstBelow (guest_scene w (node_at w c.args.node)) (path_of w q) (option_map (item_asked w.rows 0) c.descend.result))
    (ap (λ (place : Place). place.queue) c.reach-root.ensures.place ∙ c.root_at-place.ensures.queue) c.descend.ensures.found)

pub returns-then-not-fits_in-clause-first : goal.returns-then-not-fits_in-clause-first
returns-then-not-fits_in-clause-first c = λ row at.
    let w = c.args.cluster.now in
    let h = c.inventory-inventory.ensures in
    let room = c.free-room.result in
    let is = free-at w h.sound c.args.node row at room (c.free-room.ensures ∙ ap (λ (h : Held). free_of h.rows c.args.node) h.value) in
    subst (λ (node : Node). HasNone (guest_scene w node) root) (row-is w h.sound c.args.node row at)
    (guestless-none w (node_at w c.args.node) room is root
    (too-large (state_in w) root c.least_guest.result room (subst (λ (least : Resource). AreAtLeast (asks_for (state_in w) Unlabelled) root least) (sym c.least_guest.ensures) (c.requires.shut.guests 0 (omega arith)))
    (sym c.fits_in.ensures ∙ c.if-not-fits_in.true)))
