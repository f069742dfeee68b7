-- The containers of a partition are told one after another.
use Rattle.std.proofs.Common.{ℕ, List, [], ◌∷◌, ◌++◌, length, map, slice_get, refl, sym, ap, subst, ◌∙◌}
use Rattle.std.proofs.lemmas.List.{map_more, take_all}
use Rattle.std.proofs.lemmas.Option.{slice_get_read}
use Rattle.ynl_tables.specs.declared.containers.container.Container.{Container}
use Rattle.ynl_laws.proofs.Lists.{map-map}
use Rattle.ynl_inventory.specs.Apps.{containers_of}
use Rattle.ynl_inventory.specs.Meaning.{label_at, placed_of}
use Rattle.ynl_cluster.specs.Cluster.{label_of, maxima_in, stops_in}
use Rattle.ynl_replies.proofs.Apps.{containers-mean}
use Rattle.ynl_inventory.specs.Parts.{Held, IsHeldIn}
use Rattle.ynl_inventory.specs.Sound.{HasPartition}
use Rattle.ynl_replies.proofs.Following.{listed-held}
use Rattle.ynl_replies.proofs.listing.containers.Goals as goal

pub containers-requires : goal.containers-requires
containers-requires c = subst (λ (h : Held). HasPartition h.rows c.args.p) (sym c.inventory-inventory.ensures.value) c.requires

pub told-requires : goal.told-requires
told-requires c =
    subst (λ (h : Held). IsHeldIn h.rows c.args.p c.container-item.result) (sym c.inventory-inventory.ensures.value)
    (listed-held c.args.cluster.now.rows c.inventory-inventory.ensures.sound c.args.p c.loop-container.container-index c.container-item.result
    (ap (λ (h : Held). slice_get (map (λ e. e.1) (containers_of h.rows c.args.p)) c.loop-container.container-index) (sym c.inventory-inventory.ensures.value)
    ∙ ap (λ (es : List Container). slice_get es c.loop-container.container-index) (sym (c.deref-container-items.ensures.value ∙ c.in_ok-held.ensures))
    ∙ slice_get_read c.deref-container-items.result.now (length c.deref-container-items.result.now) c.loop-container.container-index c.container-item.result refl c.loop-container-test.true c.container-item.is))

pub loop-container-preserved : goal.loop-container-preserved
loop-container-preserved c =
    c.in_ok-add.ensures
    ∙ (λ i. c.loop-container.invariant i
    ++ (c.told.ensures
    ∙ ap (λ (h : Held). placed_of h.rows (label_at h.rows.partitions c.args.p) c.container-item.result) c.inventory-inventory.ensures.value
    ∙ ap (placed_of c.args.cluster.now.rows (label_of c.args.cluster.now c.args.p)) c.container-item.is) i ∷ [])
    ∙ sym (map_more (placed_of c.args.cluster.now.rows (label_of c.args.cluster.now c.args.p)) c.deref-container-items.result.now c.loop-container.container-index c.container-item.result c.loop-container-test.true)

pub returns : goal.returns
returns c =
    c.loop-container.invariant
    ∙ ap (map (placed_of c.args.cluster.now.rows (label_of c.args.cluster.now c.args.p)))
    (take_all c.loop-container.container-index c.deref-container-items.result.now c.loop-container-test.false ∙ c.deref-container-items.ensures.value ∙ c.in_ok-held.ensures
    ∙ ap (λ (h : Held). map (λ e. e.1) (containers_of h.rows c.args.p)) c.inventory-inventory.ensures.value)
    ∙ map-map (placed_of c.args.cluster.now.rows (label_of c.args.cluster.now c.args.p)) (λ (e : ℕ × Container). e.1) (containers_of c.args.cluster.now.rows c.args.p)
    ∙ containers-mean c.args.cluster.now.rows c.inventory-inventory.ensures.sound (stops_in c.args.cluster.now) (maxima_in c.args.cluster.now) c.args.p c.requires
