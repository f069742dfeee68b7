use Rattle.std.proofs.Common.{ℕ, ◌≡◌, ◌≤◌, ◌∷◌, List, length, map, sym, ap, ◌∙◌, arith}
use Rattle.std.specs.Prelude.{flat_map}
use Rattle.ynl_resource.specs.Names.{root}
use Rattle.ynl_resource.specs.declared.paths.Path.{Path}
use Rattle.ynl_inventory.specs.layout.Paths.{HasNumber}
use Rattle.ynl_model.specs.Service.{Item}
use Rattle.ynl_inventory.specs.Meaning.{leaf_numbers}
use Rattle.ynl_inventory.specs.Rows.{AppRow}
use Rattle.ynl_inventory.specs.Parts.{Held}
use Rattle.ynl_cluster.specs.requests.Requests.{Request, asked, master_wanted}
use Rattle.ynl_cluster.specs.Cluster.{ClusterView, label_of, state_in}
use Rattle.ynl_sights.specs.Sights.{Offer, offer_of}
use Rattle.ynl_sights.specs.Rows.{asks_in, masters_in}
use Rattle.ynl_sights.specs.Copying.{items_in, offers_at}
use Rattle.ynl_sights.proofs.Leaves.{all-before, leaves_before, none-there, one-more}
use Rattle.ynl_sights.proofs.Listed.{asks-listed, map-flat, masters-listed}
use Rattle.ynl_sights.proofs.copying.leaf_sights.Goals as goal

pub loop-queue-preserved : goal.loop-queue-preserved
loop-queue-preserved c =
    let w = c.args.cluster.now in
    let p = c.args.p in
    let queue = c.loop-queue.queue in
    let many = c.len-queues.ensures.value ∙ ap (λ (paths : List Path). length (root ∷ paths)) (c.layout.ensures ∙ ap (λ (h : Held). h.rows.paths) c.inventory.ensures.value) in
    let there : HasNumber w.rows.paths queue = omega (arith, c.loop-queue-test.true, many) in
    let masters = offers_at w p (master_wanted w.rows p) in
    let asks = offers_at w p (asked w.rows p) in
    let see = offer_of w.config (state_in w) (label_of w p) in
    record {
      leaves = c.in_ok-add_leaf.ensures.leaf.leaves;
      lists = c.add_leaf.ensures.lists;
      masters =
          one-more masters w.rows.paths queue c.loop-queue.auto.queue there (λ inner. ap (map see) (none-there w.rows c.inventory.ensures.sound (master_wanted w.rows p) queue inner))
          (masters_in c.loop-queue.leaves) (masters_in c.add_leaf.new.out) c.loop-queue.invariant.masters c.in_ok-add_leaf.ensures.leaf.masters;
      asks =
          one-more asks w.rows.paths queue c.loop-queue.auto.queue there (λ inner. ap (map see) (none-there w.rows c.inventory.ensures.sound (asked w.rows p) queue inner))
          (asks_in (label_of w p) c.loop-queue.leaves) (asks_in (label_of w p) c.add_leaf.new.out) c.loop-queue.invariant.asks c.in_ok-add_leaf.ensures.leaf.asks;
    }

-- what there is to see of all leaves is what there is of the requests of all
all-seen : (w : ClusterView) (p : ℕ) (among : ℕ → AppRow → List Request) (queue : ℕ) → length (root ∷ w.rows.paths) ≤ queue → (seen : List Offer) → seen ≡ flat_map (offers_at w p among) (leaves_before w.rows.paths queue)
    → (items : List Item) → items ≡ flat_map (items_in w.rows among) (leaf_numbers w.rows.paths) → seen ≡ map (offer_of w.config (state_in w) (label_of w p)) items
all-seen w p among queue past seen so_far items listed =
    so_far
    ∙ ap (flat_map (offers_at w p among)) (all-before w.rows.paths queue past)
    ∙ sym (map-flat (offer_of w.config (state_in w) (label_of w p)) (items_in w.rows among) (leaf_numbers w.rows.paths))
    ∙ ap (map (offer_of w.config (state_in w) (label_of w p))) (sym listed)

pub returns-clause-masters : goal.returns-clause-masters
returns-clause-masters c =
    let w = c.args.cluster.now in
    let p = c.args.p in
    let many = c.len-queues.ensures.value ∙ ap (λ (paths : List Path). length (root ∷ paths)) (c.layout.ensures ∙ ap (λ (h : Held). h.rows.paths) c.inventory.ensures.value) in
    all-seen w p (master_wanted w.rows p) c.loop-queue.queue (omega (arith, c.loop-queue-test.false, many)) (masters_in c.loop-queue.leaves) c.loop-queue.invariant.masters _ (masters-listed w c.inventory.ensures.sound p c.requires.partition)

pub returns-clause-asks : goal.returns-clause-asks
returns-clause-asks c =
    let w = c.args.cluster.now in
    let p = c.args.p in
    let many = c.len-queues.ensures.value ∙ ap (λ (paths : List Path). length (root ∷ paths)) (c.layout.ensures ∙ ap (λ (h : Held). h.rows.paths) c.inventory.ensures.value) in
    all-seen w p (asked w.rows p) c.loop-queue.queue (omega (arith, c.loop-queue-test.false, many)) (asks_in (label_of w p) c.loop-queue.leaves) c.loop-queue.invariant.asks _ (asks-listed w c.inventory.ensures.sound p c.requires.partition)
