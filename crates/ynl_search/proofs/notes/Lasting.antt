-- How long a queue stays shut while the cluster changes.
use Rattle.std.proofs.Common.{◌≡◌, Bool, true, false, not, ◌&&◌, cond, List, [], ◌∷◌, ◌++◌, filter, Some, refl, sym, ap, ◌∙◌, true≢false}
use Rattle.std.specs.List.{AllByRecursion}
use Rattle.std.specs.Option.{option_map_or}
use Rattle.std.proofs.lemmas.Bool.{and_parts}
use Rattle.ynl_resource.specs.Amounts.{total_of}
use Rattle.ynl_resource.specs.Names.{is_within, same_id, same_label, same_name, tenant_of}
use Rattle.ynl_resource.specs.declared.labels.Label.{Label}
use Rattle.ynl_resource.specs.declared.names.Name.{Name}
use Rattle.ynl_resource.specs.declared.paths.Path.{Path}
use Rattle.ynl_resource.specs.Tables.{without}
use Rattle.ynl_model.specs.Nodes.{total as total_on}
use Rattle.ynl_model.specs.Queues.{Config, maximum as maximum_of}
use Rattle.ynl_model.specs.Applications.{Application, finished, in_leaf, leaf_of, set_ask, submitted, with_app}
use Rattle.ynl_model.specs.declared.applications.AskRow.{AskRow}
use Rattle.ynl_model.specs.declared.containers.Placed.{Placed as Container}
use Rattle.ynl_model.specs.declared.nodes.Node.{Node}
use Rattle.ynl_model.specs.declared.uses.Use.{Use}
use Rattle.ynl_model.specs.Changes.{all_end, all_own, app_finishes, changed_at, container_of, end, place, taken}
use Rattle.ynl_model.specs.Cluster.{State, containers_on, is_below, is_guest, is_of, maximum, used}
use Rattle.ynl_model.specs.Service.{Item}
use Rattle.ynl_laws.specs.Uses.{counts, lowered, raised, use_of}
use Rattle.ynl_laws.proofs.Events.Kept.{finished-names, kept-on, leaf_of-kept, submit-extends, with_app-names}
use Rattle.ynl_laws.proofs.Limits.Within.{total-same}
use Rattle.ynl_laws.proofs.Lists.{Each-all, Each-weaker, filter-agree, filter-filter}
use Rattle.ynl_laws.proofs.Names.{same-name_sym, within-trans}
use Rattle.ynl_laws.proofs.Soundness.Tracked.{end-same, finish-same, place-same}
use Rattle.ynl_laws.proofs.Totals.Elsewhere.{lulls-last_asking_elsewhere, lulls-last_ending_elsewhere, lulls-last_placing_elsewhere}
use Rattle.ynl_laws.proofs.Totals.Lulls.{lulls-last_asking, lulls-last_ending, lulls-last_finishing, lulls-last_placing, lulls-last_submitting}
use Rattle.ynl_laws.proofs.Totals.Marks.{on-finish}
use Rattle.ynl_laws.proofs.Totals.Placing.{label_sym, on-end, on-place, use-end, use-place}
use Rattle.ynl_search.specs.notes.Laws.{StaysWhileAsking, StaysWhileAskingElsewhere, StaysWhileEnding, StaysWhileEndingElsewhere, StaysWhileFinishing, StaysWhilePlacing, StaysWhilePlacingElsewhere, StaysWhileSubmitting}
use Rattle.ynl_search.proofs.notes.Stays.{stays}

-- a queue below one that has no part in another's way has none either
off : (queue step other : Path) → is_within queue other ≡ false → is_within queue step ≡ true → is_within step other ≡ false
off queue step other apart below = go (is_within step other) refl
  where
    go : (b : Bool) → is_within step other ≡ b → b ≡ false
    go true e = absurd (true≢false (sym (within-trans queue step other below e) ∙ apart))
    go false e = refl

-- ---- uses and maxima that stay

-- where the same containers stand on a partition, and their leaves are found as before, a queue uses as much
pub used-agrees : (s t : State) (label : Label) (queue : Path) → containers_on t label ≡ containers_on s label
    → AllByRecursion (λ k. leaf_of t.leaves k.tenant k.app ≡ leaf_of s.leaves k.tenant k.app) (containers_on t label) → used t queue label ≡ used s queue label
unfolding used
used-agrees s t label queue on found =
    ap (λ ks. total_of (λ (k : Container). k.size) ks)
    (filter-agree (λ k. leaf_of t.leaves k.tenant k.app ≡ leaf_of s.leaves k.tenant k.app) (counts t.leaves queue) (counts s.leaves queue) (λ k e i. not (is_guest k) && option_map_or (is_within queue) (e i) false) (containers_on t label) found
    ∙ ap (filter (counts s.leaves queue)) on)

pub maximum-agrees : (s t : State) (label : Label) (queue : Path) → total_on t.nodes label ≡ total_on s.nodes label → t.maxima ≡ s.maxima → maximum t queue label ≡ maximum s queue label
unfolding maximum
maximum-agrees s t label queue nodes maxima = λ i. maximum_of (maxima i) queue label (nodes i)

-- ---- placing

placing-maximum : (c : Config) (s : State) (node : Node) (item : Item) (label : Label) (queue : Path) → maximum (place c node item s) queue label ≡ maximum s queue label
unfolding place changed_at
placing-maximum c s node item label queue = maximum-agrees s (place c node item s) label queue (total-same s (place c node item s) label (place-same c node item s)) refl

placing-leaves : (c : Config) (s : State) (node : Node) (item : Item) (tenant name : Name) → leaf_of (place c node item s).leaves tenant name ≡ leaf_of s.leaves tenant name
unfolding place
placing-leaves c s node item tenant name = leaf_of-kept item.leaf (with_app item.app (taken item.what)) (with_app-names item.app (taken item.what)) s.leaves tenant name

pub stays-placing : StaysWhilePlacing
unfolding container_of
stays-placing c s node item label queue h there known apart = stays c s (place c node item s) label queue h.tabled h.after
    (λ leaf below. lulls-last_placing c s node item label leaf h.kept h.tabled there known (off queue leaf item.leaf apart below))
    (λ step below. (same step (off queue step item.leaf apart below), placing-maximum c s node item label step))
  where
    not-raised : (step : Path) → is_within step item.leaf ≡ false → is_below s.leaves step (container_of c s node item) ≡ false
    not-raised step away = ap (λ o. option_map_or (is_within step) o false) known ∙ away

    either : (b : Bool) (u : Use) → (cond b u u).used ≡ u.used
    either true u = refl
    either false u = refl

    same : (step : Path) → is_within step item.leaf ≡ false → used (place c node item s) step label ≡ used s step label
    same step away =
        ap (λ (u : Use). u.used) (use-place c node item s there label step)
        ∙ (λ i. (cond (same_label node.label label) (cond (not-raised step away i) (raised (container_of c s node item) (use_of s label step)) (use_of s label step)) (use_of s label step)).used)
        ∙ either (same_label node.label label) (use_of s label step)

pub stays-placing_elsewhere : StaysWhilePlacingElsewhere
stays-placing_elsewhere c s node item label queue h there known asked away = stays c s (place c node item s) label queue h.tabled h.after
    (λ leaf below. lulls-last_placing_elsewhere c s node item label leaf h.kept h.tabled there known asked away)
    (λ step below. (used-agrees s (place c node item s) label step on (Each-all _ (λ k. placing-leaves c s node item k.tenant k.app) (containers_on (place c node item s) label)), placing-maximum c s node item label step))
  where
    on : containers_on (place c node item s) label ≡ containers_on s label
    on = on-place c node item s there label ∙ ap (λ b. cond b (containers_on s label ++ container_of c s node item ∷ []) (containers_on s label)) (label_sym node.label label ∙ away)

-- ---- ending

ending-maximum : (c : Config) (s : State) (k : Container) (label : Label) (queue : Path) → maximum (end c s k) queue label ≡ maximum s queue label
unfolding end changed_at
ending-maximum c s k label queue = maximum-agrees s (end c s k) label queue (total-same s (end c s k) label (end-same c s k)) refl

pub stays-ending : StaysWhileEnding
stays-ending c s k leaf label queue h there once found apart = stays c s (end c s k) label queue h.tabled h.after
    (λ other below. lulls-last_ending c s k leaf label other h.kept h.tabled there once found (off queue other leaf apart below))
    (λ step below. (same step (off queue step leaf apart below), ending-maximum c s k label step))
  where
    not-lowered : (step : Path) → is_within step leaf ≡ false → is_below s.leaves step k ≡ false
    not-lowered step away = ap (λ o. option_map_or (is_within step) o false) found ∙ away

    either : (b : Bool) (u : Use) → (cond b u u).used ≡ u.used
    either true u = refl
    either false u = refl

    same : (step : Path) → is_within step leaf ≡ false → used (end c s k) step label ≡ used s step label
    same step away =
        ap (λ (u : Use). u.used) (use-end c s k there once label step)
        ∙ (λ i. (cond (same_label k.id.label label) (cond (not-lowered step away i) (lowered k (use_of s label step)) (use_of s label step)) (use_of s label step)).used)
        ∙ either (same_label k.id.label label) (use_of s label step)

pub stays-ending_elsewhere : StaysWhileEndingElsewhere
unfolding end changed_at
stays-ending_elsewhere c s k label queue h there once away = stays c s (end c s k) label queue h.tabled h.after
    (λ leaf below. lulls-last_ending_elsewhere c s k label leaf h.kept h.tabled there once away)
    (λ step below. (used-agrees s (end c s k) label step on (Each-all _ (λ x. refl) (containers_on (end c s k) label)), ending-maximum c s k label step))
  where
    on : containers_on (end c s k) label ≡ containers_on s label
    on = on-end c s k there label ∙ ap (λ b. cond b (without (λ x. same_id x.id k.id) (containers_on s label)) (containers_on s label)) (label_sym k.id.label label ∙ away)

-- ---- applications

pub stays-submitting : StaysWhileSubmitting
unfolding maximum
stays-submitting c s app label queue h unused apart = stays c s (record s { leaves = in_leaf app.leaf (submitted app) s.leaves }) label queue h.tabled h.after
    (λ leaf below. lulls-last_submitting c s app label leaf h.kept h.tabled unused (off queue leaf app.leaf apart below))
    (λ step below. (
      used-agrees s (record s { leaves = in_leaf app.leaf (submitted app) s.leaves }) label step refl
          (Each-weaker _ _ (λ k there. submit-extends app s.leaves unused k.tenant k.app there) (containers_on s label) (kept-on s h.kept label)),
      refl,
    ))

module _ (c : Config) (s : State) (leaf : Path) (name : Name) (ask : AskRow) (label : Label) where
  abbrev asked : State
  asked = record s { leaves = in_leaf leaf (with_app name (set_ask ask)) s.leaves }

  asking-used : (step : Path) → used asked step label ≡ used s step label
  asking-used step = used-agrees s asked label step refl (Each-all _ (λ k. leaf_of-kept leaf (with_app name (set_ask ask)) (with_app-names name (set_ask ask)) s.leaves k.tenant k.app) (containers_on s label))

  asking-maximum : (step : Path) → maximum asked step label ≡ maximum s step label
  unfolding maximum
  asking-maximum step = refl

pub stays-asking : StaysWhileAsking
stays-asking c s leaf name ask label queue h apart = stays c s (asked c s leaf name ask label) label queue h.tabled h.after
    (λ other below. lulls-last_asking c s leaf name ask label other h.kept h.tabled (off queue other leaf apart below))
    (λ step below. (asking-used c s leaf name ask label step, asking-maximum c s leaf name ask label step))

pub stays-asking_elsewhere : StaysWhileAskingElsewhere
stays-asking_elsewhere c s leaf name ask label queue h away = stays c s (asked c s leaf name ask label) label queue h.tabled h.after
    (λ other below. lulls-last_asking_elsewhere c s leaf name ask label other h.kept h.tabled away)
    (λ step below. (asking-used c s leaf name ask label step, asking-maximum c s leaf name ask label step))

maxima-ended : (c : Config) (ks : List Container) (s : State) → (all_end c ks s).maxima ≡ s.maxima
unfolding end changed_at
maxima-ended c [] s = refl
maxima-ended c (k ∷ ks) s = maxima-ended c ks (end c s k)

finishing-maxima : (c : Config) (s : State) (found : Application) → (app_finishes c found s).maxima ≡ s.maxima
unfolding app_finishes
finishing-maxima c s found = maxima-ended c (all_own s (tenant_of found.leaf) found.name) s

finishing-leaves : (c : Config) (s : State) (found : Application) (tenant name : Name) → leaf_of (app_finishes c found s).leaves tenant name ≡ leaf_of s.leaves tenant name
unfolding app_finishes
finishing-leaves c s found tenant name = leaf_of-kept found.leaf (finished found.name) (finished-names found.name) s.leaves tenant name

pub stays-finishing : StaysWhileFinishing
unfolding used
stays-finishing c s found label queue h ordered known apart = stays c s (app_finishes c found s) label queue h.tabled h.after
    (λ leaf below. lulls-last_finishing c s found label leaf ordered h.kept h.tabled known (off queue leaf found.leaf apart below))
    (λ step below. (
      same step (off queue step found.leaf apart below),
      maximum-agrees s (app_finishes c found s) label step (total-same s (app_finishes c found s) label (finish-same c found s)) (finishing-maxima c s found),
    ))
  where
    -- what counts for the queue is of another application
    other : (step : Path) → is_within step found.leaf ≡ false → (k : Container) → counts s.leaves step k ≡ true → not (is_of (tenant_of found.leaf) found.name k) ≡ true
    other step away k e = go (is_of (tenant_of found.leaf) found.name k) refl
      where
        go : (b : Bool) → is_of (tenant_of found.leaf) found.name k ≡ b → not b ≡ true
        go false f = refl
        go true f =
            let parts = and_parts (same_name k.tenant (tenant_of found.leaf)) (same_name k.app found.name) f in
            let leaf : leaf_of s.leaves k.tenant k.app ≡ Some found.leaf = (λ i. leaf_of s.leaves (same-name_sym k.tenant (tenant_of found.leaf) parts.0 i) (same-name_sym k.app found.name parts.1 i)) ∙ known in
            absurd (true≢false (sym ((and_parts (not (is_guest k)) (is_below s.leaves step k) e).1) ∙ ap (λ o. option_map_or (is_within step) o false) leaf ∙ away))

    same : (step : Path) → is_within step found.leaf ≡ false → used (app_finishes c found s) step label ≡ used s step label
    same step away =
        ap (λ ks. total_of (λ (k : Container). k.size) ks)
        (filter-agree (λ k. leaf_of (app_finishes c found s).leaves k.tenant k.app ≡ leaf_of s.leaves k.tenant k.app) (counts (app_finishes c found s).leaves step) (counts s.leaves step)
        (λ k e i. not (is_guest k) && option_map_or (is_within step) (e i) false) (containers_on (app_finishes c found s) label)
        (Each-all _ (λ k. finishing-leaves c s found k.tenant k.app) (containers_on (app_finishes c found s) label))
        ∙ ap (filter (counts s.leaves step)) (on-finish c s found ordered label)
        ∙ filter-filter (λ k. not (is_of (tenant_of found.leaf) found.name k)) (counts s.leaves step) (other step away) (containers_on s label))
