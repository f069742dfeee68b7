-- An event is followed by what the tenant sees of it in the tenant's own cluster, or it passes unseen.
use Rattle.std.proofs.Common.{◌≡◌, Bool, true, false, List, [], ◌∷◌, Option, Some, None, option_map, filter, find, refl, sym, ap, subst, ◌∙◌, cond}
use Rattle.std.specs.Option.{option_map_or}
use mathlib.Core.Bool.{true≢false}
use Rattle.ynl_resource.specs.Names.{same_name, same_label}
use Rattle.ynl_resource.specs.declared.names.Name.{Name}
use Rattle.ynl_resource.specs.declared.labels.Label.{Label}
use Rattle.ynl_resource.specs.declared.refusals.Refusal.{Refusal}
use Rattle.ynl_resource.specs.Refusals.{first_that_holds}
use Rattle.ynl_model.specs.declared.nodes.Node.{Node}
use Rattle.ynl_model.specs.Queues.{Config}
use Rattle.ynl_model.specs.Cluster.{State, node_of}
use Rattle.ynl_model.specs.Events.{Outcome, answered, where_there, accepted, reasons, step}
use Rattle.ynl_model.specs.declared.events.Event.{Event}
use Rattle.ynl_model.specs.declared.replies.Reply.TheVariants.{Refused}
use Rattle.ynl_model.specs.View.{tracked, is_in, restrict}
use Rattle.ynl_model.specs.declared.nodes.Tracked.{Tracked}
use Rattle.ynl_model.specs.Promises.{without_stamp}
use Rattle.ynl_laws.specs.Working.{Apart, places}
use Rattle.ynl_laws.proofs.Soundness.Tracked.{tracked-is}
use Rattle.ynl_laws.proofs.Events.Outcomes.{step-cases}
use Rattle.ynl_laws.proofs.Soundness.Apart.{FindsItself, each-itself}
use Rattle.ynl_laws.proofs.Isolating.Mirrored.{Mirrors}
use Rattle.ynl_laws.proofs.Lists.{Each-filter, Each-unmap, Each-kept, Each-weaker, find-nothing, none-found}
use Rattle.ynl_laws.proofs.Logic.{some-same}
use Rattle.ynl_laws.proofs.Names.{same-name_sym, same-label_path, same-label_self}

-- the tenant's own cluster goes on as the whole one does, or stays what the whole one is to the tenant
abbrev pub Follows : Config → Name → Label → State → State → Event → Option Event → Type 0
Follows c t p s u event None = Mirrors t p (step c s event).state u
Follows c t p s u event (Some viewed) = Mirrors t p (step c s event).state (step (restrict c t) u viewed).state × ((step c s event).reply ≡ (step (restrict c t) u viewed).reply)

-- two outcomes of which the second is what the first is to the tenant
abbrev pub Agrees : Name → Label → Outcome → Outcome → Type 0
Agrees t p a b = Mirrors t p a.state b.state × (a.reply ≡ b.reply)

module _ (c : Config) (t : Name) (p : Label) (s u : State) (m : Mirrors t p s u) where
  -- an event that is seen
  pub kept : (event viewed : Event) → first_that_holds (reasons c s event) ≡ first_that_holds (reasons (restrict c t) u viewed) →
      (first_that_holds (reasons c s event) ≡ None → Agrees t p (accepted c s event) (accepted (restrict c t) u viewed)) → Follows c t p s u event (Some viewed)
  unfolding step
  kept event viewed same agree = subst
      (λ o. Agrees t p (option_map_or (λ refusal. answered s (Refused refusal)) (first_that_holds (reasons c s event)) (accepted c s event)) (option_map_or (λ refusal. answered u (Refused refusal)) o (accepted (restrict c t) u viewed)))
      same (go (first_that_holds (reasons c s event)) agree)
    where
      go : (o : Option Refusal) → (o ≡ None → Agrees t p (accepted c s event) (accepted (restrict c t) u viewed)) →
          Agrees t p (option_map_or (λ refusal. answered s (Refused refusal)) o (accepted c s event)) (option_map_or (λ refusal. answered u (Refused refusal)) o (accepted (restrict c t) u viewed))
      go None agree = agree refl
      go (Some refusal) agree = (m, refl)

  -- an event that is not seen
  pub unseen : (event : Event) → (first_that_holds (reasons c s event) ≡ None → Mirrors t p (accepted c s event).state u) → Follows c t p s u event None
  unseen event same = step-cases (λ after. Mirrors t p after u) c s event m same

  -- what is found in both
  pub there-both : {X Y : Type 0} (o : Option X) (n : Option Y) (x : X) (y : Y) (f : X → Outcome) (g : Y → Outcome) → o ≡ Some x → n ≡ Some y → Agrees t p (f x) (g y) → Agrees t p (where_there o s f) (where_there n u g)
  there-both o n x y f g e k same = subst (λ z. Agrees t p (where_there z s f) (where_there n u g)) (sym e) (subst (λ z. Agrees t p (f x) (where_there z u g)) (sym k) same)

  -- what is found in the tenant's cluster is a part of what is found in the whole
  pub there-part : {X : Type 0} (part : X → X) (o n : Option X) (f g : X → Outcome) → n ≡ option_map part o → ((x : X) → o ≡ Some x → Agrees t p (f x) (g (part x))) → Agrees t p (where_there o s f) (where_there n u g)
  there-part part o n f g e same = subst (λ z. Agrees t p (where_there o s f) (where_there z u g)) (sym e) (go o same)
    where
      go : (o : Option _) → ((x : _) → o ≡ Some x → Agrees t p (f x) (g (part x))) → Agrees t p (where_there o s f) (where_there (option_map part o) u g)
      go None same = (m, refl)
      go (Some x) same = same x refl

  -- what is found in both alike
  pub there-same : {X : Type 0} (o n : Option X) (f g : X → Outcome) → o ≡ n → ((x : X) → o ≡ Some x → Agrees t p (f x) (g x)) → Agrees t p (where_there o s f) (where_there n u g)
  there-same o n f g e same = subst (λ z. Agrees t p (where_there o s f) (where_there z u g)) e (go o same)
    where
      go : (o : Option _) → ((x : _) → o ≡ Some x → Agrees t p (f x) (g x)) → Agrees t p (where_there o s f) (where_there o u g)
      go None same = (m, refl)
      go (Some x) same = same x refl

  -- what is found in the whole alone
  pub there-unseen : {X : Type 0} (o : Option X) (f : X → Outcome) → ((x : X) → o ≡ Some x → Mirrors t p (f x).state u) → Mirrors t p (where_there o s f).state u
  there-unseen None f same = m
  there-unseen (Some x) f same = same x refl

  -- ---- where a node is

  -- by where the node is: in the partition, in another or nowhere
  pub by-place : (name : Name) (Goal : Bool → Type 0) → ((node : Node) → node_of s name ≡ Some node → node.label ≡ p → Goal true) → ((node : Node) → node_of s name ≡ Some node → same_label node.label p ≡ false → Goal false) →
      (node_of s name ≡ None → Goal false) → Goal (is_in (places s) name p)
  by-place name Goal here there nowhere = subst (λ o. Goal (option_map_or (λ node. same_label node.label p) o false)) (sym (tracked-is name s)) (go (node_of s name) refl)
    where
      at : (node : Node) → node_of s name ≡ Some node → (b : Bool) → same_label node.label p ≡ b → Goal b
      at node e true on = here node e (same-label_path node.label p on)
      at node e false off = there node e off

      go : (o : Option Node) → node_of s name ≡ o → Goal (option_map_or (λ node. same_label node.label p) (option_map without_stamp o) false)
      go None e = nowhere e
      go (Some node) e = at node e (same_label node.label p) refl

  -- a node of the partition is in the tenant's cluster
  pub node-in : (name : Name) (node : Node) → node.label ≡ p → node_of s name ≡ Some node → node_of u name ≡ Some node
  node-in name node here e = ap (find (λ node. same_name node.name name)) m.nodes ∙ go s.nodes e
    where
      both : (x : Node) (rest : List Node) → (a b : Bool) → same_name x.name name ≡ a → same_label x.label p ≡ b → cond a (Some x) (find (λ node. same_name node.name name) rest) ≡ Some node →
          (find (λ node. same_name node.name name) rest ≡ Some node → find (λ node. same_name node.name name) (filter (λ node. same_label node.label p) rest) ≡ Some node) →
          find (λ node. same_name node.name name) (cond b (x ∷ filter (λ node. same_label node.label p) rest) (filter (λ node. same_label node.label p) rest)) ≡ Some node
      both x rest true true at on e more = (λ i. cond (at i) (Some x) (find (λ node. same_name node.name name) (filter (λ node. same_label node.label p) rest))) ∙ e
      both x rest true false at on e more = absurd (true≢false (sym (ap (λ y. same_label y.label p) (some-same x node (Some x) refl e) ∙ ap (λ l. same_label l p) here ∙ same-label_self p) ∙ on))
      both x rest false true at on e more = (λ i. cond (at i) (Some x) (find (λ node. same_name node.name name) (filter (λ node. same_label node.label p) rest))) ∙ more e
      both x rest false false at on e more = more e

      go : (nodes : List Node) → find (λ node. same_name node.name name) nodes ≡ Some node → find (λ node. same_name node.name name) (filter (λ node. same_label node.label p) nodes) ≡ Some node
      go [] e = e
      go (x ∷ nodes) e = both x nodes (same_name x.name name) (same_label x.label p) refl refl e (go nodes)

  pub node-gone : (name : Name) → node_of s name ≡ None → node_of u name ≡ None
  node-gone name e = ap (find (λ node. same_name node.name name)) m.nodes
      ∙ find-nothing (λ node. same_name node.name name) (filter (λ node. same_label node.label p) s.nodes) (Each-filter _ (λ node. same_label node.label p) s.nodes (none-found (λ node. same_name node.name name) s.nodes e))

  -- a node of another partition is not
  pub node-away : Apart (places s) → (name : Name) (node : Node) → same_label node.label p ≡ false → node_of s name ≡ Some node → node_of u name ≡ None
  node-away apart name node off e = ap (find (λ node. same_name node.name name)) m.nodes
      ∙ find-nothing (λ node. same_name node.name name) (filter (λ node. same_label node.label p) s.nodes)
      (Each-kept _ (λ node. same_label node.label p) s.nodes (Each-weaker (λ node. FindsItself (places s) (without_stamp node)) _ (λ other self on. go other self on (same_name other.name name) refl) s.nodes (Each-unmap without_stamp (FindsItself (places s)) s.nodes (each-itself (places s) apart))))
    where
      go : (other : Node) → FindsItself (places s) (without_stamp other) → same_label other.label p ≡ true → (b : Bool) → same_name other.name name ≡ b → same_name other.name name ≡ false
      go other self on false f = f
      go other self on true f =
          let same : without_stamp other ≡ without_stamp node = some-same (without_stamp other) (without_stamp node) (tracked (places s) name) (ap (tracked (places s)) (sym (same-name_sym other.name name f)) ∙ self) (tracked-is name s ∙ ap (option_map without_stamp) e) in
          absurd (true≢false (sym on ∙ ap (λ (node : Tracked). same_label node.label p) same ∙ off))
