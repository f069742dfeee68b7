-- The line of a finished application keeps what is known of a state: its name comes last in its leaf, as if it had come and gone.
use Rattle.std.proofs.Common.{◌≡◌, inl, inr, Bool, true, false, cond, not, ◌&&◌, is_some, List, [], ◌∷◌, ◌++◌, Option, Some, None, option_map, filter, find, refl, sym, ap, subst, ◌∙◌, append-nil}
use Rattle.std.specs.List.{AllByRecursion}
use Rattle.std.specs.Option.{option_map_or, option_and_then}
use Rattle.std.specs.Prelude.{IsTrue}
use Rattle.std.proofs.lemmas.List.Elements.{filter-append}
use mathlib.Core.Bool.{true≢false}
use Rattle.ynl_resource.specs.Amounts.{nothing}
use Rattle.ynl_resource.specs.Names.{same_name, same_path, tenant_of}
use Rattle.ynl_resource.specs.declared.amounts.Resource.{Resource}
use Rattle.ynl_resource.specs.declared.labels.Label.TheVariants.{Unlabelled}
use Rattle.ynl_resource.specs.declared.labels.Label.{Label}
use Rattle.ynl_resource.specs.declared.names.Name.{Name}
use Rattle.ynl_resource.specs.declared.paths.Path.{Path}
use Rattle.ynl_model.specs.Accepted.{is_accepted}
use Rattle.ynl_model.specs.Applications.{Application, LeafApps, find_app, finished, in_leaf, is_used, leaf_of, new_app, row_of, submitted}
use Rattle.ynl_model.specs.Cluster.{State, is_guest}
use Rattle.ynl_model.specs.Queues.{Config, may_use}
use Rattle.ynl_model.specs.Service.{takes_guests}
use Rattle.ynl_saved.specs.Restoring.{with_finished}
use Rattle.ynl_laws.specs.Entitled.{is_entitled}
use Rattle.ynl_laws.specs.Untied.{Distinct}
use Rattle.ynl_laws.specs.Working.{IsKnown, Kept, on_in}
use Rattle.ynl_laws.proofs.Events.Found.{FindsAll, IsFound, at-leaf, finds-finished, finds-submitted}
use Rattle.ynl_laws.proofs.Events.Kept.{Extends, finished-apps, finished-names, kept-leaf, kept-on, kept-submit, leaf_of-kept, submit-extends}
use Rattle.ynl_laws.proofs.Lists.{Each-both, Each-weaker, Each-with, Each-update, Pairs-last, filter-all, map-map}
use Rattle.ynl_laws.proofs.Lives.Entitled.{Fitting}
use Rattle.ynl_laws.proofs.Names.{same-name_self, same-name_sym, same-path}
use Rattle.ynl_saved.proofs.Configured.{limits}
use Rattle.ynl_saved.proofs.Leaved.{AllNamed, named-kept, named-submitted, unused-free}
use Rattle.ynl_saved.proofs.Leaves.{InOrder, IsLeaf}
use Rattle.ynl_saved.proofs.Rows.{Each-updated, map-agree}
use Rattle.ynl_saved.proofs.Shapes.{shaped-leaf}
use Rattle.ynl_saved.proofs.Stamps.{stamped-same}
use Rattle.ynl_saved.proofs.Suited.{suits-moved}
use Rattle.ynl_saved.proofs.Tellable.{IsTellable, base-apps}
use Rattle.ynl_saved.proofs.Traits.{traits, traits-finished, traits-submitted, traits_in}

-- a name comes last, and no application
pub order-name : (names : List Name) (apps : _) (name : Name) → InOrder names apps → InOrder (names ++ name ∷ []) apps
order-name [] apps name h = inr h
order-name (first ∷ names) apps name (inl k) = inl (k.0, k.1, k.2, k.3, order-name names k.1 name k.4)
order-name (first ∷ names) apps name (inr k) = inr (order-name names apps name k)

-- a leaf with one more name
abbrev pub closed : Name → LeafApps → LeafApps
closed name row = record row { names = row.names ++ name ∷ [] }

module _ (c : Config) (accepted : IsTrue (is_accepted c)) (s : State) (queue : Path) (name : Name) (h : IsTellable c s) (unused : is_used s.leaves (tenant_of queue) name ≡ false) where
  -- an application of the name
  abbrev app : Application
  app = new_app queue name [] Unlabelled nothing

  -- the leaves where it has come
  abbrev came : List LeafApps
  came = in_leaf queue (submitted app) s.leaves

  -- no application of the leaf has the name
  no-other : (row : LeafApps) → same_path row.leaf queue ≡ true → AllByRecursion (λ (other : Application). IsKnown s.leaves other.leaf other.name × IsFound s.leaves row other) row.apps →
      AllByRecursion (λ (other : Application). same_name other.name name ≡ false) row.apps
  no-other row at k = Each-weaker _ _ (λ other j. go other j.0 j.1 (same_name other.name name) refl) row.apps k
    where
      go : (other : Application) → IsKnown s.leaves other.leaf other.name → IsFound s.leaves row other → (b : Bool) → same_name other.name name ≡ b → same_name other.name name ≡ false
      go other known found false e = e
      go other known found true e =
          absurd (true≢false (sym (ap is_some known) ∙ (λ i. is_some (leaf_of s.leaves (tenant_of ((found.at ∙ same-path row.leaf queue at) i)) (same-name_sym other.name name e i))) ∙ unused))

  -- it comes and goes, and its name is left
  comes-goes : in_leaf queue (closed name) s.leaves ≡ in_leaf queue (finished name) came
  comes-goes =
      let base = h.base in
      let kept = base.kept in
      map-agree _ (λ row. at-leaf queue (finished name) (at-leaf queue (submitted app) row)) s.leaves
      (Each-with _ (λ row. AllByRecursion (IsFound s.leaves row) row.apps) _ (λ row k f. go row (Each-both _ _ row.apps k f) (same_path row.leaf queue) refl) s.leaves kept.apps base.finds)
      ∙ sym (map-map (at-leaf queue (finished name)) (at-leaf queue (submitted app)) s.leaves)
    where
      left : (apps : List Application) → AllByRecursion (λ (other : Application). same_name other.name name ≡ false) apps → filter (λ other. not (same_name other.name name)) (apps ++ app ∷ []) ≡ apps
      left apps k =
          filter-append (λ other. not (same_name other.name name)) apps (app ∷ [])
          ∙ (λ i. filter (λ other. not (same_name other.name name)) apps ++ cond (not (same-name_self name i)) (app ∷ []) [])
          ∙ append-nil (filter (λ other. not (same_name other.name name)) apps)
          ∙ filter-all (λ other. not (same_name other.name name)) apps (Each-weaker (λ (other : Application). same_name other.name name ≡ false) _ (λ other off. ap not off) apps k)

      go : (row : LeafApps) → AllByRecursion (λ (other : Application). IsKnown s.leaves other.leaf other.name × IsFound s.leaves row other) row.apps → (b : Bool) → same_path row.leaf queue ≡ b →
          cond b (closed name row) row ≡ at-leaf queue (finished name) (cond b (submitted app row) row)
      go row k true e = λ i. cond (sym e i) (record { leaf = row.leaf; names = row.names ++ name ∷ []; apps = sym (left row.apps (no-other row e k)) i }) (submitted app row)
      go row k false e = λ i. cond (sym e i) (finished name row) row

  -- what is known of applications and containers
  kept-closed : Kept (with_finished queue name s)
  kept-closed =
      let base = h.base in
      subst (λ leaves. Kept (record s { leaves = leaves })) (sym comes-goes)
      (kept-leaf (record s { leaves = came }) queue (finished name) (finished-names name) (finished-apps name) (kept-submit s app unused base.kept))

  -- each application is still found
  finds-closed : FindsAll (in_leaf queue (closed name) s.leaves)
  finds-closed =
      let base = h.base in
      let kept = base.kept in
      let more = kept-submit s app unused kept in
      subst FindsAll (sym comes-goes) (finds-finished queue name came more.apps (finds-submitted app s.leaves unused kept.apps base.finds))

  -- what was found is found, and is the same
  extends : Extends s.leaves (in_leaf queue (closed name) s.leaves)
  extends tenant other used =
      ap (λ leaves. leaf_of leaves tenant other) comes-goes ∙ leaf_of-kept queue (finished name) (finished-names name) came tenant other ∙ submit-extends app s.leaves unused tenant other used

  -- homes and masters stay
  moved : (tenant other : Name) (is : Label × Resource) → traits_in s.leaves tenant other ≡ Some is → traits_in (in_leaf queue (closed name) s.leaves) tenant other ≡ Some is
  unfolding find_app leaf_of
  moved tenant other is e =
      let base = h.base in
      let kept = base.kept in
      ap (λ leaves. traits_in leaves tenant other) comes-goes
      ∙ traits-finished queue name came tenant other (go (same_name tenant (tenant_of queue)) (same_name other name) refl refl)
      ∙ traits-submitted app s.leaves unused kept.apps base.finds tenant other is e
    where
      used : (o : Option LeafApps) → option_map traits (option_and_then (λ row. find (λ app. same_name app.name other) row.apps) o) ≡ Some is → is_some (option_map (λ row. row.leaf) o) ≡ true
      used None k = cc
      used (Some row) k = refl

      go : (a b : Bool) → same_name tenant (tenant_of queue) ≡ a → same_name other name ≡ b → (a && b) ≡ false
      go true true at named = absurd (true≢false (sym (used (row_of s.leaves tenant other) e)
          ∙ (λ i. is_some (leaf_of s.leaves (same-name_sym tenant (tenant_of queue) at i) (same-name_sym other name named i))) ∙ unused))
      go true false at named = refl
      go false b at named = refl

  -- all that is known is known after the line
  pub tellable-closed : IsTellable c (with_finished queue name s)
  tellable-closed =
      let base = h.base in
      let kept = base.kept in
      let entitled = base.entitled in
      let suited = h.suited in
      let leaved = suited.leaved in
      let new : List LeafApps = in_leaf queue (closed name) s.leaves in
      record {
        base = base-apps c s new base kept-closed finds-closed (record {
          apps = Each-update (λ row. AllByRecursion (Fitting c) row.apps) (λ row. same_path row.leaf queue) (closed name) (λ row k. k) s.leaves entitled.apps;
          containers = λ p. Each-with (λ k. is_entitled c s.leaves k ≡ true) (λ k. is_some (leaf_of s.leaves k.tenant k.app) ≡ true) (λ k. is_entitled c new k ≡ true)
              (λ k is used. (λ i. cond (is_guest k) (takes_guests c k.id.label) (option_map_or (λ leaf. may_use c leaf k.id.label) (extends k.tenant k.app used i) false)) ∙ is)
              (on_in s.partitions p) (entitled.containers p) (kept-on s kept p);
        });
        stamped = stamped-same c (limits c accepted) s (with_finished queue name s) refl refl h.stamped;
        suited = record {
          leaved = record {
            shaped = shaped-leaf c s (with_finished queue name s) queue (closed name) (λ row. refl) leaved.shaped refl refl refl refl;
            rows = Each-updated (λ row. IsLeaf c row × (same_path row.leaf queue ≡ true → AllByRecursion (λ other. same_name other name ≡ false) row.names)) (IsLeaf c)
                (λ row. same_path row.leaf queue) (closed name)
                (λ row at k. let is : IsLeaf c row = k.0 in record {
                  differ = Pairs-last (λ a b. same_name a b ≡ false) row.names name is.differ (k.1 at);
                  order = order-name row.names row.apps name is.order;
                  few = is.few;
                  given = is.given;
                })
                (λ row at k. k.0) s.leaves (Each-both (IsLeaf c) _ s.leaves leaved.rows (unused-free app s.leaves unused));
            names = subst (λ leaves. AllNamed leaves leaves) (sym comes-goes) (named-kept queue (finished name) (finished-names name) came (named-submitted app s.leaves unused leaved.names));
          };
          suits = λ p. suits-moved c s.leaves new moved p (on_in s.partitions p) (suited.suits p);
          sole = suited.sole;
        };
        housed = h.housed;
        distinct = Each-update (λ row. AllByRecursion Distinct row.apps) (λ row. same_path row.leaf queue) (closed name) (λ row k. k) s.leaves h.distinct;
      }
