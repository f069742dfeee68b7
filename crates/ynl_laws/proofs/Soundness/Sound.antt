-- Each state is sound, in every configuration.
use Rattle.std.proofs.Common.{◌≡◌, ◌≢◌, suc, true, false, List, [], ◌∷◌, length, Option, Some, None, is_some, option_map, refl, sym, ap, ◌∙◌}
use Rattle.std.specs.Prelude.{IfSome, IsTrue}
use Rattle.std.specs.List.{AllByRecursion}
use Rattle.std.specs.Option.{option_map_or}
use mathlib.Core.Bool.{true≢false}
use Rattle.ynl_resource.specs.Names.{same_name, same_label}
use Rattle.ynl_resource.specs.declared.labels.Label.{Label}
use Rattle.ynl_model.specs.declared.nodes.Node.{Node}
use Rattle.ynl_model.specs.Queues.{Config}
use Rattle.ynl_model.specs.Cluster.{State, containers_on, node_of, clock, opening}
use Rattle.ynl_model.specs.declared.containers.Placed.{Placed as Container}
use Rattle.ynl_model.specs.Events.{step, replies, after, state_after}
use Rattle.ynl_model.specs.declared.events.Event.{Event}
use Rattle.ynl_model.specs.View.{tracked}
use Rattle.ynl_model.specs.Promises.{without_stamp, IsStanding, IsSound, IsAlwaysSound, HasOneReplyEach}
use Rattle.ynl_laws.specs.Working.{Pairs, Apart, places, StandsOn, IsHoused, IsOrdered}
use Rattle.ynl_laws.proofs.Soundness.Tracked.{tracked-is}
use Rattle.ynl_laws.proofs.Soundness.Apart.{step-apart}
use Rattle.ynl_laws.proofs.Soundness.Ordered.{is_ordered}
use Rattle.ynl_laws.proofs.Soundness.Housed.{is_housed}
use Rattle.ynl_laws.proofs.Lists.{Each-unmap, all-of, Each-weaker, Each-with, pairs-of, pairs-unmap, pairs-weaker}
use Rattle.ynl_laws.proofs.Names.{same-name_self, same-label_path}

pub apart-after : (c : Config) (events : List Event) (s : State) → Apart (places s) → Apart (places (after c s events))
apart-after c [] s h = h
apart-after c (event ∷ events) s h = apart-after c events _ (step-apart c s event h)

module _ (c : Config) (s : State) (ordered : IsOrdered c s) (housed : IsHoused s) (apart : Apart (places s)) where
  names : Pairs (λ (a b : Node). a.name ≢ b.name) s.nodes
  names = pairs-weaker _ _ (λ a b off same. absurd (true≢false (sym (same-name_self a.name) ∙ ap (same_name a.name) same ∙ off))) s.nodes (pairs-unmap without_stamp (λ a b. same_name a.name b.name ≡ false) s.nodes apart)

  standing : (p : Label) → AllByRecursion (IsStanding s p) (containers_on s p)
  standing p = Each-with _ _ (IsStanding s p) (λ container own stands. stand container own.0 (node_of s container.node) (sym (tracked-is container.node s)) stands) (containers_on s p) (ordered.ids p).own (housed.standing p)
    where
      go : (o : Option Node) → option_map_or (λ node. same_label node.label p) (option_map without_stamp o) false ≡ true → IfSome o (λ node. node.label ≡ p) × IsTrue (is_some o)
      go None h = absurd (true≢false (sym h))
      go (Some node) h = (same-label_path node.label p h, refl)

      stand : (container : Container) → container.id.label ≡ p → (o : Option Node) → option_map without_stamp o ≡ tracked (places s) container.node → StandsOn (places s) p container →
          (container.id.label ≡ p) × IfSome o (λ node. node.label ≡ p) × IsTrue (is_some o)
      stand container own o e h = let k = go o (ap (λ t. option_map_or (λ node. same_label node.label p) t false) e ∙ h) in (own, k.0, k.1)

  sound : IsSound c s
  unfolding clock
  sound = record {
    clocks = ordered.clocks;
    stamps = all-of _ s.nodes (Each-weaker _ _ (λ node k. k.1) s.nodes ordered.stamps);
    names = pairs-of _ s.nodes names;
    rising = λ p. pairs-of _ (containers_on s p) (ordered.ids p).rising;
    standing = λ p. all-of (IsStanding s p) (containers_on s p) (standing p);
    not_overfull = all-of _ s.nodes (Each-unmap without_stamp _ s.nodes housed.room);
  }

pub is_always_sound : IsAlwaysSound
is_always_sound c events = sound c (state_after c events) (is_ordered c events) (is_housed c events) (apart-after c events (opening c) tt)

one-each : (c : Config) (events : List Event) (s : State) → length (replies c s events) ≡ length events
one-each c [] s = refl
one-each c (event ∷ events) s = ap suc (one-each c events (step c s event).state)

pub has_one_reply_each : HasOneReplyEach
has_one_reply_each c events = one-each c events (opening c)
