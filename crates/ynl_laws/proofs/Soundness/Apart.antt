-- No two nodes have one name.
use Rattle.std.proofs.Common.{◌≡◌, Bool, true, false, cond, not, ◌&&◌, List, [], ◌∷◌, map, Some, None, refl, sym, ap, subst, ◌∙◌}
use Rattle.std.specs.List.{AllByRecursion}
use mathlib.Core.Bool.{true≢false}
use Rattle.ynl_resource.specs.declared.amounts.Resource.{Resource}
use Rattle.ynl_resource.specs.Names.{same_name, same_label}
use Rattle.ynl_resource.specs.declared.names.Name.{Name}
use Rattle.ynl_resource.specs.declared.labels.Label.{Label}
use Rattle.ynl_model.specs.Queues.{Config}
use Rattle.ynl_model.specs.Cluster.{State}
use Rattle.ynl_model.specs.Events.{step}
use Rattle.ynl_model.specs.declared.events.Event.{Event}
use Rattle.ynl_model.specs.View.{tracked, joined, dropped, track_step}
use Rattle.ynl_model.specs.declared.nodes.Tracked.{Tracked}
use Rattle.ynl_model.specs.Promises.{without_stamp}
use Rattle.ynl_laws.specs.Working.{Apart}
use Rattle.ynl_laws.proofs.Soundness.Tracked.{step-is, track-keeps}
use Rattle.ynl_laws.proofs.Lists.{Each-kept, Each-weaker, Each-with, find-nothing, none-found, Pairs-filter, Pairs-last}
use Rattle.ynl_laws.proofs.Logic.{not-true, some-same, none-is}
use Rattle.ynl_laws.proofs.Names.{same-name_sym, same-name_self, same-label_self}
use Rattle.std.proofs.lemmas.Bool.{and_from, and_parts}

-- a node is what its name finds
abbrev pub FindsItself : List Tracked → Tracked → Type 0
FindsItself nodes node = tracked nodes node.name ≡ Some node

pub each-itself : (nodes : List Tracked) → Apart nodes → AllByRecursion (FindsItself nodes) nodes
each-itself [] h = tt
each-itself (node ∷ nodes) h = (
  (λ i. cond (same-name_self node.name i) (Some node) (tracked nodes node.name)),
  Each-with (λ other. same_name node.name other.name ≡ false) (FindsItself nodes) (FindsItself (node ∷ nodes))
      (λ other off e. (λ i. cond (off i) (Some node) (tracked nodes other.name)) ∙ e) nodes h.0 (each-itself nodes h.1),
)

-- a node that is dropped is not found any more
pub gone : (nodes : List Tracked) (name : Name) (node : Tracked) → Apart nodes → tracked nodes name ≡ Some node → tracked (dropped nodes node) name ≡ None
gone nodes name node h e = find-nothing _ (dropped nodes node) (Each-kept (λ other. same_name other.name name ≡ false) _ nodes
    (Each-weaker (FindsItself nodes) _ (λ other self kept. go other self kept (same_name other.name name) refl) nodes (each-itself nodes h)))
  where
    go : (other : Tracked) → FindsItself nodes other → not (same_name other.name node.name && same_label other.label node.label) ≡ true → (b : Bool) → same_name other.name name ≡ b → same_name other.name name ≡ false
    go other self kept false f = f
    go other self kept true f =
        let same : other ≡ node = some-same other node (tracked nodes name) (ap (tracked nodes) (sym (same-name_sym other.name name f)) ∙ self) e in
        absurd (true≢false (sym kept ∙ ap not ((λ i. same_name (same i).name node.name && same_label (same i).label node.label) ∙ and_from _ _ (same-name_self node.name) (same-label_self node.label))))

joined-apart : (nodes : List Tracked) (name : Name) (label : Label) (size : Resource) → Apart nodes → tracked nodes name ≡ None → Apart (joined nodes name label size)
joined-apart nodes name label size h none = Pairs-last _ nodes _ h (none-found _ nodes none)

track-apart : (c : Config) (nodes : List Tracked) (event : Event) → Apart nodes → Apart (track_step c nodes event)
track-apart c nodes event h = track-keeps Apart c nodes event h (record {
  joins = λ name label size _ e. joined-apart nodes name label size h (none-is (tracked nodes name) (not-true _ (and_parts _ _ (and_parts _ _ e).0).1));
  drops = λ name node e. Pairs-filter _ _ nodes h;
  goes = λ name label node e _. joined-apart (dropped nodes node) name label node.size (Pairs-filter _ _ nodes h) (gone nodes name node h e);
})

pub step-apart : (c : Config) (s : State) (event : Event) → Apart (map without_stamp s.nodes) → Apart (map without_stamp (step c s event).state.nodes)
step-apart c s event h = subst Apart (sym (step-is c s event)) (track-apart c (map without_stamp s.nodes) event h)
