-- The line of a partition keeps what is known of a state: the clock is set of a partition that has no node yet.
use Rattle.std.proofs.Common.{◌≡◌, ◌≤◌, ℕ, true, false, cond, List, [], ◌∷◌, Option, Some, None, refl, sym, ap, subst, ◌∙◌, filter}
use Rattle.std.specs.List.{AllByRecursion}
use Rattle.std.specs.Option.{option_map_or}
use Rattle.std.specs.Prelude.{IfSome}
use mathlib.Core.Bool.{true≢false}
use Rattle.ynl_resource.specs.Amounts.{fits_in}
use Rattle.ynl_resource.specs.Names.{same_label, same_name}
use Rattle.ynl_resource.specs.declared.labels.Label.{Label}
use Rattle.ynl_model.specs.Cluster.{State, Partition, in_partition, is_partition, sizes}
use Rattle.ynl_model.specs.Nodes.{clock_limit}
use Rattle.ynl_model.specs.Promises.{without_stamp}
use Rattle.ynl_model.specs.Queues.{Config}
use Rattle.ynl_model.specs.View.{tracked}
use Rattle.ynl_model.specs.declared.containers.Placed.{Placed as Container}
use Rattle.ynl_model.specs.declared.nodes.Node.{Node}
use Rattle.ynl_model.specs.declared.nodes.Tracked.{Tracked}
use Rattle.ynl_saved.specs.Restoring.{with_clock}
use Rattle.ynl_laws.specs.Entitled.{is_entitled}
use Rattle.ynl_laws.specs.Working.{Housed, Numbered, StandsOn, UsesAll, on_in, places, Pairs}
use Rattle.ynl_laws.proofs.Events.Kept.{by-row}
use Rattle.ynl_laws.proofs.Lists.{Each-found, Each-map, Each-update, Each-weaker}
use Rattle.ynl_laws.proofs.Names.{same-label_self}
use Rattle.ynl_saved.proofs.Shapes.{shaped-partition}
use Rattle.ynl_saved.proofs.Stamps.{IsEarlier}
use Rattle.ynl_saved.proofs.Suited.{Sole, Suits}
use Rattle.ynl_saved.proofs.Tellable.{IsTellable}
use Rattle.ynl_saved.proofs.Ticks.{ordered-ticked}

-- where no node is on a partition nothing stands there
none-stand : (nodes : List Tracked) (p : Label) (rows : List Container) → AllByRecursion (λ (node : Tracked). same_label node.label p ≡ false) nodes → AllByRecursion (StandsOn nodes p) rows →
    rows ≡ []
none-stand nodes p [] none h = refl
none-stand nodes p (k ∷ rows) none h = absurd (go (tracked nodes k.node) (Each-found (λ (node : Tracked). same_label node.label p ≡ false) _ nodes none) h.0)
  where
    go : (o : Option Tracked) → IfSome o (λ (node : Tracked). same_label node.label p ≡ false) → option_map_or (λ (node : Tracked). same_label node.label p) o false ≡ true → ⊥
    go None off at = true≢false (sym at)
    go (Some node) off at = true≢false (sym at ∙ off)

-- where the same stands on each partition, and the same nodes are there
pub housed-same : (nodes : List Tracked) (old new : List Partition) → ((p : Label) → on_in new p ≡ on_in old p) → Housed nodes old → Housed nodes new
housed-same nodes old new same h = record {
  standing = λ p. subst (AllByRecursion (StandsOn nodes p)) (sym (same p)) (h.standing p);
  room = Each-weaker _ _ (λ node k. ap (λ on. fits_in (sizes (filter (λ container. same_name container.node node.name) on)) node.size) (same node.label) ∙ k) nodes h.room;
}

-- the same stands on each partition where a clock is set
pub same-on : (rows : List Partition) (label : Label) (shown : ℕ) (p : Label) → on_in (in_partition label (λ row. record row { clock = shown }) rows) p ≡ on_in rows p
same-on rows label shown p = by-row (λ a b. b ≡ a) (λ row. row.containers) [] label p (λ row. record row { clock = shown }) (λ row. refl) rows
    (λ row is at. elim (same_label row.label label) as (λ b. (cond b (record row { clock = shown }) row).containers ≡ row.containers) [ true ↦ refl | false ↦ refl ]) refl

module _ (c : Config) (s : State) (label : Label) (shown : ℕ) (h : IsTellable c s) (none : AllByRecursion (λ (node : Node). same_label node.label label ≡ false) s.nodes)
    (within : shown ≤ clock_limit c.labels label) where
  -- the partitions after the line
  abbrev rows : List Partition
  rows = in_partition label (λ row. record row { clock = shown }) s.partitions

  -- nothing stands on the partition of the line
  empty : on_in s.partitions label ≡ []
  empty = let housed = h.housed in none-stand (places s) label (on_in s.partitions label) (Each-map _ (λ (node : Tracked). same_label node.label label ≡ false) without_stamp
      (λ node off. off) s.nodes none) (housed.standing label)

  -- all that is known is known after the line
  pub tellable-clock : IsTellable c (with_clock label shown s)
  tellable-clock =
      let base = h.base in
      let kept = base.kept in
      let entitled = base.entitled in
      let stamped = h.stamped in
      let suited = h.suited in
      let leaved = suited.leaved in
      record {
        base = record {
          kept = record {
            apps = kept.apps;
            uses = Each-update (λ (row : Partition). UsesAll s.leaves row.containers) (is_partition label) (λ row. record row { clock = shown })
                (λ row k. k) s.partitions kept.uses;
          };
          finds = base.finds;
          apart = base.apart;
          ordered = ordered-ticked c s.nodes s.partitions label shown (λ containers. containers) base.ordered within
              (Each-weaker (λ (node : Node). same_label node.label label ≡ false) _ (λ node off same. absurd
              (true≢false (sym (same-label_self label) ∙ ap (λ l. same_label l label) same ∙ off))) s.nodes none)
              (subst (Numbered label shown) (sym empty) (record { own = tt; rising = tt }));
          entitled = record {
            apps = entitled.apps;
            containers = λ p. subst (AllByRecursion (λ k. is_entitled c s.leaves k ≡ true)) (sym (same-on s.partitions label shown p))
                (entitled.containers p);
          };
        };
        stamped = record {
          known = stamped.known;
          counts = stamped.counts;
          later = Each-weaker _ _ (λ node k. subst (AllByRecursion (IsEarlier node)) (sym (same-on s.partitions label shown node.label)) k) s.nodes stamped.later;
          early = λ p. subst (AllByRecursion (λ (k : Container). 1 ≤ k.id.clock)) (sym (same-on s.partitions label shown p)) (stamped.early p);
        };
        suited = record {
          leaved = record { shaped = shaped-partition c s (with_clock label shown s) label _ (λ row. refl) leaved.shaped refl refl refl refl; rows = leaved.rows; names = leaved.names };
          suits = λ p. subst (AllByRecursion (Suits c s.leaves p)) (sym (same-on s.partitions label shown p)) (suited.suits p);
          sole = λ p. subst (Pairs Sole) (sym (same-on s.partitions label shown p)) (suited.sole p);
        };
        housed = housed-same (places s) s.partitions rows (same-on s.partitions label shown) h.housed;
        distinct = h.distinct;
      }
