-- The containers of an application are listed along their chain.
use Rattle.std.proofs.Common.{◌≡◌, ◌-◌, ◌<◌, List, filter, length, nat_eq, IsSome, sym, subst, ◌∙◌}
use Rattle.std.specs.Prelude.{IfSome}
use Rattle.ynl_model.specs.declared.containers.Placed.{Placed}
use Rattle.ynl_slots.specs.Slots.{IsLive}
use Rattle.ynl_tables.specs.containers.Chains.{IsFirst, IsNext}
use Rattle.ynl_tables.specs.declared.containers.container.Container.{Container}
use Rattle.ynl_inventory.specs.Apps.{containers_of}
use Rattle.ynl_inventory.specs.Meaning.{label_at, placed_of}
use Rattle.ynl_inventory.specs.Parts.{Held, held_at}
use Rattle.ynl_inventory.specs.Sound.{HasPartition}
use Rattle.ynl_cluster.specs.Cluster.{maxima_in, stops_in}
use Rattle.ynl_replies.proofs.Apps.{own-mean}
use Rattle.ynl_replies.proofs.Following.{follows-all, follows-fewer, follows-first, follows-held, follows-on, IsFollowing}
use Rattle.ynl_replies.proofs.listing.own_containers.Goals as goal

pub first_of_app-next-requires-clause-app : goal.first_of_app-next-requires-clause-app
first_of_app-next-requires-clause-app c = subst (λ (h : Held). IsLive c.args.app h.rows.apps) (sym c.inventory-inventory.ensures.value) c.requires.live

pub first_of_app-next-requires-clause-partition : goal.first_of_app-next-requires-clause-partition
first_of_app-next-requires-clause-partition c = subst (λ (h : Held). HasPartition h.rows c.args.p) (sym c.inventory-inventory.ensures.value) c.requires.partition

pub loop-next-init : goal.loop-next-init
loop-next-init c =
    subst (λ list. IsFollowing c.args.cluster.now.rows c.args.p c.args.app c.first_of_app-next.result list) (sym c.new-list.ensures.items)
    (follows-first c.args.cluster.now.rows c.args.p c.args.app c.first_of_app-next.result
    (subst (λ (h : Held). IsFirst (λ (c : Container). c.app) c.args.app (containers_of h.rows c.args.p) c.first_of_app-next.result) c.inventory-inventory.ensures.value c.first_of_app-next.ensures))

pub placed-requires : goal.placed-requires
placed-requires c =
    subst (λ (h : Held). IsSome (held_at h.rows c.args.p c.in-Some.number)) (sym c.inventory-inventory.ensures.value)
    (follows-held c.args.cluster.now.rows c.inventory-inventory.ensures.sound c.args.p c.args.app c.in-Some.number c.loop-next.list.items
    (subst (λ next. IsFollowing c.args.cluster.now.rows c.args.p c.args.app next c.loop-next.list.items) c.in-Some.is c.loop-next.invariant))

pub next_of_app-next-requires : goal.next_of_app-next-requires
next_of_app-next-requires c =
    subst (λ (h : Held). IsSome (held_at h.rows c.args.p c.in-Some.number)) (sym c.inventory-inventory.ensures.value)
    (follows-held c.args.cluster.now.rows c.inventory-inventory.ensures.sound c.args.p c.args.app c.in-Some.number c.loop-next.list.items
    (subst (λ next. IsFollowing c.args.cluster.now.rows c.args.p c.args.app next c.loop-next.list.items) c.in-Some.is c.loop-next.invariant))

pub loop-next-preserved : goal.loop-next-preserved
loop-next-preserved c =
    subst (λ list. IsFollowing c.args.cluster.now.rows c.args.p c.args.app c.next_of_app-next.result list) (sym c.in_ok-add.ensures)
    (follows-on c.args.cluster.now.rows c.inventory-inventory.ensures.sound c.args.p c.args.app c.in-Some.number c.loop-next.list.items
    (subst (λ next. IsFollowing c.args.cluster.now.rows c.args.p c.args.app next c.loop-next.list.items) c.in-Some.is c.loop-next.invariant)
    c.placed.result
    (subst (λ (h : Held). IfSome (held_at h.rows c.args.p c.in-Some.number) (λ held. c.placed.result ≡ placed_of h.rows (label_at h.rows.partitions c.args.p) held)) c.inventory-inventory.ensures.value c.placed.ensures)
    c.next_of_app-next.result
    (subst (λ (h : Held). IfSome (held_at h.rows c.args.p c.in-Some.number) (λ held. IsNext (λ (x : Container). x.app) held.app (containers_of h.rows c.args.p) c.in-Some.number c.next_of_app-next.result))
    c.inventory-inventory.ensures.value c.next_of_app-next.ensures))

pub loop-next-smaller : goal.loop-next-smaller
loop-next-smaller c =
    subst
    (λ (list : List Placed). length (filter (λ e. nat_eq e.1.app c.args.app) (containers_of c.args.cluster.now.rows c.args.p)) - length list
    < length (filter (λ e. nat_eq e.1.app c.args.app) (containers_of c.args.cluster.now.rows c.args.p)) - length c.loop-next.list.items)
    (sym c.in_ok-add.ensures)
    (follows-fewer c.args.cluster.now.rows c.inventory-inventory.ensures.sound c.args.p c.args.app c.in-Some.number c.loop-next.list.items
    (subst (λ next. IsFollowing c.args.cluster.now.rows c.args.p c.args.app next c.loop-next.list.items) c.in-Some.is c.loop-next.invariant)
    c.placed.result)

pub returns : goal.returns
returns c = λ row found.
    follows-all c.args.cluster.now.rows c.args.p c.args.app c.loop-next.list.items
    (subst (λ next. IsFollowing c.args.cluster.now.rows c.args.p c.args.app next c.loop-next.list.items) c.in_default.is c.loop-next.invariant)
    ∙ own-mean c.args.cluster.now.rows c.inventory-inventory.ensures.sound (stops_in c.args.cluster.now) (maxima_in c.args.cluster.now) c.args.app row found c.args.p c.requires.partition
