-- What a heartbeat keeps while it places one request after another.
use Rattle.std.proofs.Common.{◌≡◌, ℕ, suc, ◌+◌, ◌-◌, ◌<◌, ◌≤◌, List, [], ◌∷◌, ◌++◌, length, length-append, append-nil, append_assoc, refl, sym, ap, subst, ◌∙◌, arith}
use Rattle.ynl_model.specs.declared.containers.Placed.{Placed}
use Rattle.ynl_model.specs.declared.nodes.Node.{Node}
use Rattle.ynl_model.specs.Changes.{Beat, beat}
use Rattle.ynl_laws.specs.Working.{IsWorking}
use Rattle.ynl_slots.specs.Slots.{IsLive}
use Rattle.ynl_cluster.specs.Cluster.{ClusterView, state_in}
use Rattle.ynl_search.specs.notes.Notes.{Notes}
use Rattle.ynl_search.specs.notes.Shut.{AreShut}
use Rattle.ynl_service.specs.Serving.{HasRoom, IsNode, IsNoStep, IsServed, IsStep}
use Rattle.ynl_service.proofs.Beats.{beat-end, beat-stamp, restamped}

module _ (w0 : ClusterView) (n times : ℕ) (before : List Placed) where
  -- a heartbeat has placed something, and may place so many more
  pub record Serving (w : ClusterView) (notes : Notes) (left capacity : ℕ) (after : List Placed) : Type 0 where
    pub config : w.config ≡ w0.config
    pub working : IsWorking w.config (state_in w)
    pub shut : AreShut w notes
    pub live : IsLive n w.rows.nodes
    pub node : (of : Node) → IsNode w0 n of → (stamp : ℕ) × IsNode w n (restamped stamp of)
    pub state : (of : Node) → IsNode w0 n of → (beat w0.config of times (state_in w0)).state ≡ (beat w0.config of left (state_in w)).state
    pub placed : (of : Node) → IsNode w0 n of → before ++ (beat w0.config of times (state_in w0)).placed ≡ after ++ (beat w0.config of left (state_in w)).placed
    pub room : HasRoom w n left
    pub list : length after + left ≤ capacity

  -- at first
  pub begun : (notes : Notes) (capacity : ℕ) → IsWorking w0.config (state_in w0) → AreShut w0 notes → IsLive n w0.rows.nodes → HasRoom w0 n times → length before + times ≤ capacity → Serving w0 notes times capacity before
  begun notes capacity working shut live room list = record {
    config = refl;
    working = working;
    shut = shut;
    live = live;
    node = λ of at. (of.stamp, at);
    state = λ of at. refl;
    placed = λ of at. refl;
    room = room;
    list = list;
  }

  module _ (w u : ClusterView) (notes more : Notes) (left capacity : ℕ) (after list : List Placed) (h : Serving w notes left capacity after) where
    -- where nothing is next the model's heartbeat has ended
    pub ended-none : IsNoStep w u n after list → (of : Node) → IsNode w0 n of → IsServed w0 u of times before list
    ended-none step of at = record {
      state = ap state_in step.same ∙ sym (h.state of at ∙ ap (λ (b : Beat). b.state) over);
      placed = step.list ∙ sym (h.placed of at ∙ ap (λ (b : Beat). after ++ b.placed) over ∙ append-nil after);
    }
      where
        over : beat w0.config of left (state_in w) ≡ record { placed = []; state = state_in w }
        over =
            ap (λ c. beat c of left (state_in w)) (sym h.config)
            ∙ sym (beat-stamp w.config of (h.node of at).0 left (state_in w))
            ∙ step.beat (restamped (h.node of at).0 of) (h.node of at).1 left

    -- where no more may be placed it has
    pub ended-all : left ≡ 0 → (of : Node) → IsNode w0 n of → IsServed w0 w of times before after
    ended-all all of at = record {
      state = sym (h.state of at ∙ ap (λ (b : Beat). b.state) over);
      placed = sym (h.placed of at ∙ ap (λ (b : Beat). after ++ b.placed) over ∙ append-nil after);
    }
      where
        over : beat w0.config of left (state_in w) ≡ record { placed = []; state = state_in w }
        over = ap (λ k. beat w0.config of k (state_in w)) all ∙ beat-end w0.config of (state_in w)

    -- else it goes on
    pub goes-on : 0 < left → IsStep w u n after list → u.config ≡ w.config → AreShut u more → Serving u more (left - 1) capacity list
    goes-on some step config shut = record {
      config = config ∙ h.config;
      working = step.working;
      shut = shut;
      live = step.live;
      node = λ of at. step.node (restamped (h.node of at).0 of) (h.node of at).1;
      state = λ of at. h.state of at ∙ ap (λ (b : Beat). b.state) (one-more of at);
      placed = λ of at.
          h.placed of at ∙ ap (λ (b : Beat). after ++ b.placed) (one-more of at)
          ∙ sym (append_assoc after (step.told ∷ []) (beat w0.config of (left - 1) (state_in u)).placed)
          ∙ ap (λ (ls : List Placed). ls ++ (beat w0.config of (left - 1) (state_in u)).placed) (sym step.list);
      room = step.room (left - 1) (subst (HasRoom w n) counted h.room);
      list = subst (λ (m : ℕ). m + (left - 1) ≤ capacity) (sym (ap length step.list ∙ length-append after (step.told ∷ []))) (omega (arith, h.list, some));
    }
      where
        counted : left ≡ suc (left - 1)
        counted = omega (arith, some)

        one-more : (of : Node) (at : IsNode w0 n of) → beat w0.config of left (state_in w) ≡ record { placed = step.told ∷ (beat w0.config of (left - 1) (state_in u)).placed; state = (beat w0.config of (left - 1) (state_in u)).state }
        one-more of at =
            (λ i. beat (sym h.config i) of (counted i) (state_in w))
            ∙ sym (beat-stamp w.config of (h.node of at).0 (suc (left - 1)) (state_in w))
            ∙ step.beat (restamped (h.node of at).0 of) (h.node of at).1 (left - 1)
            ∙ (λ i. record {
              placed = step.told ∷ (beat-stamp w.config of (h.node of at).0 (left - 1) (state_in u) i).placed;
              state = (beat-stamp w.config of (h.node of at).0 (left - 1) (state_in u) i).state;
            })
            ∙ (λ i. record { placed = step.told ∷ (beat (h.config i) of (left - 1) (state_in u)).placed; state = (beat (h.config i) of (left - 1) (state_in u)).state })
