-- The line of a node keeps what is known of a state: a node of a new name comes last, on a partition that has a place, with a stamp no later than the clock.
use Rattle.std.proofs.Common.{◌≡◌, ◌≤◌, Bool, true, false, is_some, [], ◌∷◌, ◌++◌, None, option_map, refl, sym, ap, subst, ◌∙◌}
use Rattle.std.specs.Option.{option_map_or}
use Rattle.std.proofs.lemmas.List.{map-append}
use mathlib.Core.Bool.{true≢false}
use Rattle.ynl_resource.specs.Names.{same_label, same_name}
use Rattle.ynl_resource.specs.declared.labels.Label.{Label}
use Rattle.ynl_model.specs.Changes.{node_joins}
use Rattle.ynl_model.specs.Cluster.{State, node_of}
use Rattle.ynl_model.specs.Nodes.{has_label, is_full, joined}
use Rattle.ynl_model.specs.Promises.{without_stamp}
use Rattle.ynl_model.specs.Queues.{Config}
use Rattle.ynl_model.specs.View.{tracked}
use Rattle.ynl_model.specs.declared.containers.Placed.{Placed as Container}
use Rattle.ynl_model.specs.declared.nodes.Node.{Node}
use Rattle.ynl_model.specs.declared.nodes.Tracked.{Tracked}
use Rattle.ynl_saved.specs.Restoring.{with_node}
use Rattle.ynl_laws.specs.Working.{Apart, Housed, IsHoused, StandsOn, clock_in, on_in, places}
use Rattle.ynl_laws.proofs.Lists.{Each-append, Each-weaker, Pairs-last, none-found}
use Rattle.ynl_laws.proofs.Logic.{none-is}
use Rattle.ynl_laws.proofs.Names.{same-name_sym}
use Rattle.ynl_laws.proofs.Soundness.Housed.{housed-stays}
use Rattle.ynl_laws.proofs.Soundness.Tracked.{joins-is, tracked-is}
use Rattle.ynl_saved.proofs.Clocked.{housed-same, same-on}
use Rattle.ynl_saved.proofs.Stamps.{IsEarlier, counts-joined}
use Rattle.ynl_saved.proofs.Tellable.{IsTellable}

module _ (c : Config) (s : State) (node : Node) (h : IsTellable c s) (known : has_label c.labels node.label ≡ true) (new : is_some (node_of s node.name) ≡ false)
    (room : is_full s.nodes node.label ≡ false)
    (early : 1 ≤ node.stamp) (late : node.stamp ≤ clock_in s.partitions node.label) where
  -- no node of the name is there
  free : tracked (places s) node.name ≡ None
  free = tracked-is node.name s ∙ ap (option_map without_stamp) (none-is (node_of s node.name) new)

  -- and so nothing stands on one
  none-here : (p : Label) (k : Container) → StandsOn (places s) p k → same_name k.node node.name ≡ false
  none-here p k stands = go (same_name k.node node.name) refl
    where
      go : (b : Bool) → same_name k.node node.name ≡ b → same_name k.node node.name ≡ false
      go false e = e
      go true e = absurd (true≢false (sym stands ∙ ap (λ o. option_map_or (λ (node : Tracked). same_label node.label p) o false) (ap (tracked (places s)) (same-name_sym k.node node.name e) ∙ free)))

  -- the places of the nodes, with that of the new one
  more-places : places (with_node node s) ≡ places s ++ without_stamp node ∷ []
  unfolding joined
  more-places = map-append without_stamp s.nodes (node ∷ [])

  -- containers stand where they stood
  housed-node : IsHoused (with_node node s)
  unfolding node_joins
  housed-node =
      let stays = housed-stays c in
      subst (λ nodes. Housed nodes s.partitions) (joins-is c node.name node.label node.size s ∙ sym more-places)
      (housed-same _ (node_joins c node.name node.label node.size s).partitions s.partitions (λ p. sym (same-on s.partitions node.label _ p))
      (stays.joins s node.name node.label node.size h.housed known free))

  -- all that is known is known after the line
  pub tellable-node : IsTellable c (with_node node s)
  unfolding joined
  tellable-node =
      let base = h.base in
      let kept = base.kept in
      let ordered = base.ordered in
      let entitled = base.entitled in
      let stamped = h.stamped in
      let suited = h.suited in
      let leaved = suited.leaved in
      let shaped = leaved.shaped in
      let housed = h.housed in
      record {
        base = record {
          kept = record { apps = kept.apps; uses = kept.uses };
          finds = base.finds;
          apart = subst Apart (sym more-places) (Pairs-last _ (places s) (without_stamp node) base.apart (none-found (λ (other : Tracked). same_name other.name node.name) (places s) free));
          ordered = record {
            there = ordered.there;
            clocks = ordered.clocks;
            stamps = Each-append _ s.nodes (node ∷ []) ordered.stamps ((ordered.there node.label known, late), tt);
            ids = ordered.ids;
            found = ordered.found;
          };
          entitled = record { apps = entitled.apps; containers = entitled.containers };
        };
        stamped = record {
          known = Each-append _ s.nodes (node ∷ []) stamped.known ((known, early), tt);
          counts = counts-joined s.nodes node stamped.counts room;
          later = Each-append _ s.nodes (node ∷ []) stamped.later (
            Each-weaker (StandsOn (places s) node.label) (IsEarlier node) (λ k stands of. absurd (true≢false (sym of ∙ none-here node.label k stands))) (on_in s.partitions node.label)
                (housed.standing node.label),
            tt,
          );
          early = stamped.early;
        };
        suited = record {
          leaved = record {
            shaped = record { partitions = shaped.partitions; leaves = shaped.leaves; stops = shaped.stops; maxima = shaped.maxima; shares = shaped.shares };
            rows = leaved.rows;
            names = leaved.names;
          };
          suits = suited.suits;
          sole = suited.sole;
        };
        housed = housed-node;
        distinct = h.distinct;
      }
