use Rattle.std.proofs.Common.{◌≡◌, List, ◌∷◌, length, nat_eq, ap, refl, sym, subst, ◌∙◌, arith}
use Rattle.std.specs.Prelude.{Some, option_map}
use Rattle.std.specs.Map.{lookup}
use Rattle.ynl_resource.specs.Names.{is_within, root}
use Rattle.ynl_resource.specs.declared.paths.Path.{Path}
use Rattle.ynl_model.specs.declared.nodes.Node.{Node}
use Rattle.ynl_search.specs.descent.Scenes.{HasNone, IsFirstBelow}
use Rattle.ynl_inventory.specs.Rows.{NodeRow}
use Rattle.ynl_inventory.specs.Meaning.{node_of}
use Rattle.ynl_inventory.specs.Parts.{Held, free_of, node_row}
use Rattle.ynl_cluster.specs.Cluster.{label_of, path_of, state_in}
use Rattle.std.proofs.lemmas.Option.{same_Some}
use Rattle.ynl_search.specs.declared.place.Place.{Place}
use Rattle.ynl_search.specs.Laws.{item_wanted}
use Rattle.ynl_search.specs.Scenes.{IsNodeOf, IsOwnQueue, node_at, own_scene}
use Rattle.ynl_search.specs.Shut.{IsRightIn}
use Rattle.ynl_search.proofs.NodeIs.{few-pass, label-is, node-of, row-is}
use Rattle.ynl_search.proofs.ShutBelow.{passed, shut-has-none}
use Rattle.ynl_search.proofs.choosing.first_own_on.Goals as goal

pub descend-requires-clause-queue : goal.descend-requires-clause-queue
descend-requires-clause-queue c =
    let w = c.args.cluster.now in
    let h = c.inventory-inventory.ensures in
    subst (λ (place : Place). IsOwnQueue w c.args.node c.node.result.now.partition c.free-room.result place c.reach-root.result.children.now) (sym c.reach-root.ensures.place)
    (record {
      reached = c.reach-root.ensures.reached;
      way = c.root_at-place.ensures.place;
      node =
          node-of w h.sound c.args.node (node_row c.node.result.now) (ap (λ (h : Held). lookup (nat_eq c.args.node) h.rows.nodes) (sym h.value) ∙ c.node.ensures) c.node.result.now.partition refl
          c.free-room.result (c.free-room.ensures ∙ ap (λ (h : Held). free_of h.rows c.args.node) h.value);
    })

pub descend-requires-clause-height : goal.descend-requires-clause-height
descend-requires-clause-height c =
    let w = c.args.cluster.now in
    let few = few-pass (is_within (path_of w c.reach-root.result.place.queue)) (root ∷ w.rows.paths) in
    let many : c.len.result ≡ length (root ∷ w.rows.paths) = c.len.ensures.value ∙ ap (λ (paths : List Path). length (root ∷ paths)) (c.layout.ensures ∙ ap (λ (h : Held). h.rows.paths) c.inventory-inventory.ensures.value) in
    omega (arith, few, many)

pub returns-clause-first : goal.returns-clause-first
returns-clause-first c = λ row at.
    let w = c.args.cluster.now in
    let h = c.inventory-inventory.ensures in
    let found : lookup (nat_eq c.args.node) w.rows.nodes ≡ Some (node_row c.node.result.now) = ap (λ (h : Held). lookup (nat_eq c.args.node) h.rows.nodes) (sym h.value) ∙ c.node.ensures in
    let same : node_row c.node.result.now ≡ row = same_Some (node_row c.node.result.now) row (sym found ∙ at) in
    subst (λ (r : NodeRow). IsFirstBelow (own_scene w (node_of w.rows.partitions r)) root (option_map (item_wanted w.rows r.partition) c.descend.result)) same
    (subst (λ (node : Node). IsFirstBelow (own_scene w node) root (option_map (item_wanted w.rows c.node.result.now.partition) c.descend.result)) (row-is w h.sound c.args.node (node_row c.node.result.now) found)
    (subst (λ q. IsFirstBelow (own_scene w (node_at w c.args.node)) (path_of w q) (option_map (item_wanted w.rows c.node.result.now.partition) c.descend.result))
    (ap (λ (place : Place). place.queue) c.reach-root.ensures.place ∙ c.root_at-place.ensures.queue) c.descend.ensures.found))

pub returns-then-is_passed-clause-first : goal.returns-then-is_passed-clause-first
returns-then-is_passed-clause-first c = λ row at.
    let w = c.args.cluster.now in
    let h = c.inventory-inventory.ensures in
    let p = c.node.result.now.partition in
    let found : lookup (nat_eq c.args.node) w.rows.nodes ≡ Some (node_row c.node.result.now) = ap (λ (h : Held). lookup (nat_eq c.args.node) h.rows.nodes) (sym h.value) ∙ c.node.ensures in
    let is : IsNodeOf w c.args.node p c.free-room.result =
    node-of w h.sound c.args.node (node_row c.node.result.now) found p refl c.free-room.result (c.free-room.ensures ∙ ap (λ (h : Held). free_of h.rows c.args.node) h.value) in
    let right : IsRightIn w p 0 c.noted.result = subst (IsRightIn w p 0) (sym c.noted.ensures) (c.requires.shut.own p 0 (record { partition = is.has; queue = omega arith })) in
    subst (λ (node : Node). HasNone (own_scene w node) root) (row-is w h.sound c.args.node row at)
    (shut-has-none w p (node_at w c.args.node) (label-is w c.args.node p c.free-room.result is) 0 c.free-room.result is.free_is
    (passed w.config (state_in w) (label_of w p) root c.noted.result c.free-room.result right (sym c.is_passed.ensures ∙ c.if-is_passed.true)))
