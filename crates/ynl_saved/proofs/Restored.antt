-- What is known of what lines tell: it is known before any line, and stays with each line that is sound and tells a size in range.
use Rattle.std.proofs.Common.{◌≡◌, ℕ, Bool, true, false, cond, not, ◌&&◌, ◌||◌, is_some, List, [], ◌∷◌, ◌++◌, Option, Some, None, refl, sym, ap, subst, ◌∙◌, arith}
use Rattle.std.specs.List.{AllByRecursion, list_any}
use Rattle.std.specs.Option.{option_map_or}
use Rattle.std.specs.Prelude.{IsTrue, nat_le, nat_lt}
use Rattle.std.proofs.lemmas.Bool.Decides.{nat_tests}
use Rattle.std.proofs.lemmas.Bool.{and_parts, leb-true}
use Rattle.std.proofs.lemmas.Option.{none-some}
use mathlib.Core.Bool.{true≢false}
use Rattle.ynl_resource.specs.Amounts.{fits_in, IsSize}
use Rattle.ynl_resource.specs.Names.{is_default, root, same_label, same_path}
use Rattle.ynl_resource.specs.declared.amounts.Resource.{Resource}
use Rattle.ynl_resource.specs.declared.labels.Label.{Label}
use Rattle.ynl_resource.specs.declared.names.Name.{Name}
use Rattle.ynl_resource.specs.declared.paths.Path.{Path}
use Rattle.ynl_model.specs.Accepted.{is_accepted}
use Rattle.ynl_model.specs.Applications.{Application, find_app, find_ask, in_leaf, new_app, with_app}
use Rattle.ynl_model.specs.Cluster.{State, clock, node_of}
use Rattle.ynl_model.specs.Events.{is_foreign}
use Rattle.ynl_model.specs.Nodes.{clock_limit, has_label, is_full, joined}
use Rattle.ynl_model.specs.Queues.{Config, capacity_on, is_leaf, is_queue, may_use}
use Rattle.ynl_model.specs.declared.applications.AskRow.{AskRow}
use Rattle.ynl_model.specs.declared.containers.Placed.{Placed}
use Rattle.ynl_model.specs.declared.nodes.Node.{Node as NodeRow}
use Rattle.ynl_saved.specs.Restoring.{Restored, is_sound_line, last_clock, may_ask, may_come, may_have, may_stand, nothing_restored, partitions_of, restored_by, restored_with, with_line}
use Rattle.ynl_saved.specs.declared.lines.StateLine.TheVariants.{Begin, Partition, Node, Live, Ask, Finished, Container, Stopped, Maximum, End}
use Rattle.ynl_saved.specs.declared.lines.StateLine.{StateLine}
use Rattle.ynl_laws.specs.Working.{IsWorking}
use Rattle.ynl_laws.proofs.Lists.{Each-append, Each-weaker, any-later}
use Rattle.ynl_laws.proofs.Logic.{none-is, not-true}
use Rattle.ynl_laws.proofs.Names.{same-label_path, same-label_self}
use Rattle.ynl_saved.specs.Lines.{IsSizedLine}
use Rattle.ynl_saved.proofs.Asked.{adds, tellable-asks}
use Rattle.ynl_saved.proofs.Clocked.{tellable-clock}
use Rattle.ynl_saved.proofs.Closed.{tellable-closed}
use Rattle.ynl_saved.proofs.Coming.{tellable-comes}
use Rattle.ynl_saved.proofs.Joined.{tellable-node}
use Rattle.ynl_saved.proofs.Marked.{tellable-maximum, tellable-nothing, tellable-stop}
use Rattle.ynl_saved.proofs.Saveable.{IsSaveable, saveable-works}
use Rattle.ynl_saved.proofs.Stood.{tellable-container}
use Rattle.ynl_saved.proofs.Tellable.{IsTellable}

-- what is known of the state that was told. Of its partitions it is known besides that those with a line are configured, so that a node's is, and
-- that each node is on one of them: so no node is where a clock is set, and no stamp and no id is above it
pub record IsRestored (c : Config) (r : Restored) : Type 0 where
  pub saveable : IsSaveable c r.state
  pub told : AllByRecursion (λ label. has_label c.labels label ≡ true) r.partitions
  pub on_told : AllByRecursion (λ (node : NodeRow). list_any (same_label node.label) r.partitions ≡ true) (r.state).nodes

-- it is known before any line
pub restored-first : (c : Config) → IsTrue (is_accepted c) → IsRestored c (nothing_restored c)
restored-first c accepted = record { saveable = record { tellable = tellable-nothing c accepted; sizes = tt }; told = tt; on_told = tt }

-- the state works
pub restored-works : (c : Config) (r : Restored) → IsRestored c r → IsWorking c r.state
restored-works c r h = saveable-works c r.state h.saveable

-- ---- one line

-- a label that is among some has what each has
pub among : (P : Label → Type 0) (label : Label) (labels : List Label) → list_any (same_label label) labels ≡ true → AllByRecursion P labels → P label
among P label [] any h = absurd (true≢false (sym any))
among P label (first ∷ labels) any h = go (same_label label first) refl any (λ rest. among P label labels rest h.1)
  where
    go : (b : Bool) → same_label label first ≡ b → (b || list_any (same_label label) labels) ≡ true → (list_any (same_label label) labels ≡ true → P label) → P label
    go true e any rest = subst P (sym (same-label_path label first e)) h.0
    go false e any rest = rest any

-- no node is on a partition that had no line
pub nobody : (label : Label) (labels : List Label) (nodes : List NodeRow) → list_any (same_label label) labels ≡ false →
    AllByRecursion (λ (node : NodeRow). list_any (same_label node.label) labels ≡ true) nodes →
    AllByRecursion (λ (node : NodeRow). same_label node.label label ≡ false) nodes
nobody label labels nodes new h = Each-weaker _ _ (λ node on. go node on (same_label node.label label) refl) nodes h
  where
    go : (node : NodeRow) → list_any (same_label node.label) labels ≡ true → (b : Bool) → same_label node.label label ≡ b → same_label node.label label ≡ false
    go node on false e = e
    go node on true e = absurd (true≢false (sym on ∙ ap (λ l. list_any (same_label l) labels) (same-label_path node.label label e) ∙ new))

-- a test of what is found
pub found-test : {X : Type 0} (test : X → Bool) (o : Option X) → option_map_or test o false ≡ true → (x : X) × (o ≡ Some x) × (test x ≡ true)
found-test test None h = absurd (true≢false (sym h))
found-test test (Some x) h = (x, refl, h)

-- the first of lines that tell something is sound, and the others tell it behind that
pub first-sound : (c : Config) (before : Restored) (line : StateLine) (lines : List StateLine) (r : Restored) → restored_by c before (line ∷ lines) ≡ Some r
    → (is_sound_line c before line ≡ true) × (restored_by c (restored_with line before) lines ≡ Some r)
first-sound c before line lines r told = go (is_sound_line c before line) told
  where
    go : (sound : Bool) → cond sound (restored_by c (restored_with line before) lines) None ≡ Some r → (sound ≡ true) × (restored_by c (restored_with line before) lines ≡ Some r)
    go true told = (refl, told)
    go false told = absurd (none-some r told)

-- what is DEFAULT or the home label is not foreign
own-label : (label : Label) (app : Application) → (is_default label || same_label label app.home) ≡ true → is_foreign label app ≡ false
own-label label app h = go (is_default label) refl h
  where
    go : (d : Bool) → is_default label ≡ d → (d || same_label label app.home) ≡ true → (not d && not (same_label app.home label)) ≡ false
    go true e k = refl
    go false e k = ap not (ap (same_label app.home) (same-label_path label app.home k) ∙ same-label_self app.home)

module _ (c : Config) (accepted : IsTrue (is_accepted c)) (r : Restored) (h : IsRestored c r) where
  -- its lines tell it
  is-tellable : IsTellable c r.state
  is-tellable = let saveable = h.saveable in saveable.tellable

  -- its sizes are in range
  sized : AllByRecursion (λ (node : NodeRow). IsSize node.size) (r.state).nodes
  sized = let saveable = h.saveable in saveable.sizes

  -- after a line that tells neither a partition nor a node
  same-nodes : (line : StateLine) → partitions_of line ≡ [] → (with_line line r.state).nodes ≡ (r.state).nodes → IsTellable c (with_line line r.state) → IsRestored c (restored_with line r)
  same-nodes line none nodes tellable = record {
    saveable = record { tellable = tellable; sizes = subst (AllByRecursion (λ (node : NodeRow). IsSize node.size)) (sym nodes) sized };
    told = subst (λ more. AllByRecursion (λ label. has_label c.labels label ≡ true) (more ++ r.partitions)) (sym none) h.told;
    on_told = subst (AllByRecursion (λ (node : NodeRow). list_any (same_label node.label) (partitions_of line ++ r.partitions) ≡ true)) (sym nodes)
        (subst (λ more. AllByRecursion (λ (node : NodeRow). list_any (same_label node.label) (more ++ r.partitions) ≡ true) (r.state).nodes) (sym none) h.on_told);
  }

  -- after the line of a partition
  after-partition : (label : Label) (shown : ℕ) → is_sound_line c r (Partition label shown) ≡ true → IsRestored c (restored_with (Partition label shown) r)
  unfolding is_sound_line with_line
  after-partition label shown sound =
      let all = and_parts (has_label c.labels label && not (list_any (same_label label) r.partitions)) _ sound in
      let first = and_parts (has_label c.labels label) _ all.0 in
      record {
        saveable = record {
          tellable = tellable-clock c r.state label shown is-tellable (nobody label r.partitions (r.state).nodes (not-true _ first.1) h.on_told) (leb-true shown (clock_limit c.labels label) all.1);
          sizes = sized;
        };
        told = (first.0, h.told);
        on_told = Each-weaker _ _ (λ node on. any-later (same_label node.label) label r.partitions on) (r.state).nodes h.on_told;
      }

  -- after the line of a node
  after-node : (node : NodeRow) → IsSize node.size → is_sound_line c r (Node node) ≡ true → IsRestored c (restored_with (Node node) r)
  unfolding is_sound_line with_line clock joined
  after-node node size sound =
      let all = and_parts (list_any (same_label node.label) r.partitions && not (is_some (node_of r.state node.name)) && not (is_full (r.state).nodes node.label)) _ sound in
      let places = and_parts (list_any (same_label node.label) r.partitions && not (is_some (node_of r.state node.name))) _ all.0 in
      let first = and_parts (list_any (same_label node.label) r.partitions) _ places.0 in
      let stamp = and_parts (nat_le 1 node.stamp) _ all.1 in
      record {
        saveable = record {
          tellable = tellable-node c r.state node is-tellable (among (λ label. has_label c.labels label ≡ true) node.label r.partitions first.0 h.told) (not-true _ first.1) (not-true _ places.1)
              (leb-true 1 node.stamp stamp.0) (leb-true node.stamp _ stamp.1);
          sizes = Each-append (λ (node : NodeRow). IsSize node.size) (r.state).nodes (node ∷ []) sized (size, tt);
        };
        told = h.told;
        on_told = Each-append _ (r.state).nodes (node ∷ []) h.on_told (first.0, tt);
      }

  -- after the line of a live application
  after-live : (queue : Path) (app user : Name) (label : Label) (master : Resource) → is_sound_line c r (Live queue app user label master) ≡ true →
      IsRestored c (restored_with (Live queue app user label master) r)
  unfolding is_sound_line with_line
  after-live queue app user label master sound =
      let all = and_parts (may_come c r.state queue app && may_use c queue label && fits_in master c.maximum_allocation) _ sound in
      let given = and_parts (may_come c r.state queue app && may_use c queue label) _ all.0 in
      let may = and_parts (may_come c r.state queue app) _ given.0 in
      let come = and_parts (is_queue c queue && is_leaf c queue) _ may.0 in
      let known = and_parts (is_queue c queue) _ come.0 in
      same-nodes (Live queue app user label master) refl refl (tellable-comes c accepted r.state (new_app queue app user label master) (record {
        queue = known.0;
        leaf = known.1;
        may = may.1;
        given = given.1;
        unused = not-true _ come.1;
        place = no-more _ _ all.1;
        none = refl;
      }) is-tellable)
    where
      no-more : (m n : ℕ) → nat_lt m n ≡ true → nat_le n m ≡ false
      no-more m n e = grind (arith, nat_tests, e)

  -- after the line of an ask
  after-ask : (tenant name : Name) (ask : AskRow) → is_sound_line c r (Ask tenant name ask) ≡ true → IsRestored c (restored_with (Ask tenant name ask) r)
  unfolding is_sound_line with_line
  after-ask tenant name ask sound =
      let found = found-test (may_ask c ask) (find_app (r.state).leaves tenant name) sound in
      let app : Application = found.0 in
      let all = and_parts ((is_default ask.label || same_label ask.label app.home) && nat_lt 0 ask.count && fits_in ask.size c.maximum_allocation && not
      (is_some (find_ask app ask.label ask.priority))) _ found.2 in
      let new = and_parts ((is_default ask.label || same_label ask.label app.home) && nat_lt 0 ask.count && fits_in ask.size c.maximum_allocation) _ all.0 in
      let given = and_parts ((is_default ask.label || same_label ask.label app.home) && nat_lt 0 ask.count) _ new.0 in
      let own = and_parts (is_default ask.label || same_label ask.label app.home) _ given.0 in
      let after : State = record r.state { leaves = in_leaf app.leaf (with_app name (adds ask)) (r.state).leaves } in
      let same : with_line (Ask tenant name ask) r.state ≡ after = ap (λ o. option_map_or (λ
      (found : Application). record r.state { leaves = in_leaf found.leaf (with_app name (adds ask)) (r.state).leaves }) o r.state) found.1 in
      same-nodes (Ask tenant name ask) refl (ap (λ (s : State). s.nodes) same)
      (subst (IsTellable c) (sym same) (tellable-asks c accepted r.state tenant name ask app is-tellable found.1 (own-label ask.label app own.0) own.1 given.1 (none-is _ (not-true _ new.1)) all.1))

  -- after the line of a finished application
  after-finished : (queue : Path) (name : Name) → is_sound_line c r (Finished queue name) ≡ true → IsRestored c (restored_with (Finished queue name) r)
  unfolding is_sound_line with_line
  after-finished queue name sound =
      let come = and_parts (is_queue c queue && is_leaf c queue) _ sound in
      same-nodes (Finished queue name) refl refl (tellable-closed c accepted r.state queue name is-tellable (not-true _ come.1))

  -- after the line of a container
  after-container : (k : Placed) → is_sound_line c r (Container k) ≡ true → IsRestored c (restored_with (Container k) r)
  unfolding is_sound_line with_line
  after-container k sound =
      let all = and_parts (option_map_or (may_stand r.state k) (node_of r.state k.node) false && nat_lt (last_clock r.state k.id.label) k.id.clock && fits_in k.size c.maximum_allocation) _ sound in
      let given = and_parts (option_map_or (may_stand r.state k) (node_of r.state k.node) false && nat_lt (last_clock r.state k.id.label) k.id.clock) _ all.0 in
      let later = and_parts (option_map_or (may_stand r.state k) (node_of r.state k.node) false) _ given.0 in
      let node = found-test (may_stand r.state k) (node_of r.state k.node) later.0 in
      let app = found-test (may_have c r.state k k.what) (find_app (r.state).leaves k.tenant k.app) all.1 in
      same-nodes (Container k) refl refl (tellable-container c r.state k is-tellable node.0 node.1 node.2 later.1 given.1 app.0 app.1 app.2)

  -- after the line of a queue that is stopped
  after-stopped : (queue : Path) → IsRestored c (restored_with (Stopped queue) r)
  unfolding with_line
  after-stopped queue = same-nodes (Stopped queue) refl refl (tellable-stop c accepted r.state queue is-tellable)

  -- after the line of a maximum
  after-maximum : (queue : Path) (label : Label) (share : ℕ) → is_sound_line c r (Maximum queue label share) ≡ true → IsRestored c (restored_with (Maximum queue label share) r)
  unfolding is_sound_line with_line
  after-maximum queue label share sound =
      let all = and_parts (is_queue c queue && not (same_path queue root) && may_use c queue label && nat_le (capacity_on c queue label) share) _ sound in
      let high = and_parts (is_queue c queue && not (same_path queue root) && may_use c queue label) _ all.0 in
      let may = and_parts (is_queue c queue && not (same_path queue root)) _ high.0 in
      same-nodes (Maximum queue label share) refl refl (tellable-maximum c accepted r.state queue label share may.1 high.1 is-tellable)

  -- after the first line and the last one
  after-mark : (line : StateLine) → partitions_of line ≡ [] → with_line line r.state ≡ r.state → IsRestored c (restored_with line r)
  after-mark line none same = same-nodes line none (ap (λ (s : State). s.nodes) same) (subst (IsTellable c) (sym same) is-tellable)

-- it stays with each line that is sound and tells a size in range
pub restored-more : (c : Config) → IsTrue (is_accepted c) → (r : Restored) (line : StateLine) → IsRestored c r → IsSizedLine line → is_sound_line c r line ≡ true → IsRestored c (restored_with line r)
unfolding with_line
restored-more c accepted r Begin h size sound = after-mark c accepted r h Begin refl refl
restored-more c accepted r (Partition label shown) h size sound = after-partition c accepted r h label shown sound
restored-more c accepted r (Node node) h size sound = after-node c accepted r h node size sound
restored-more c accepted r (Live queue app user label master) h size sound = after-live c accepted r h queue app user label master sound
restored-more c accepted r (Ask tenant app ask) h size sound = after-ask c accepted r h tenant app ask sound
restored-more c accepted r (Finished queue app) h size sound = after-finished c accepted r h queue app sound
restored-more c accepted r (Container k) h size sound = after-container c accepted r h k sound
restored-more c accepted r (Stopped queue) h size sound = after-stopped c accepted r h queue
restored-more c accepted r (Maximum queue label share) h size sound = after-maximum c accepted r h queue label share sound
restored-more c accepted r (End lines) h size sound = after-mark c accepted r h (End lines) refl refl

-- and so it is known of what any lines tell that are sound one after another and tell sizes in range
pub restored-on : (c : Config) → IsTrue (is_accepted c) → (lines : List StateLine) (r : Restored) → IsRestored c r → AllByRecursion IsSizedLine lines → (new : Restored) →
    restored_by c r lines ≡ Some new → IsRestored c new
restored-on c accepted [] r h sized new e = let same : r ≡ new = cc in subst (IsRestored c) same h
restored-on c accepted (line ∷ lines) r h sized new e =
    let first = first-sound c r line lines new e in
    restored-on c accepted lines (restored_with line r) (restored-more c accepted r line h sized.0 first.0) sized.1 new first.1

-- and of what they tell of nothing
pub restored-all : (c : Config) → IsTrue (is_accepted c) → (lines : List StateLine) (r : Restored) → AllByRecursion IsSizedLine lines → restored_by c (nothing_restored c) lines ≡ Some r →
    IsRestored c r
restored-all c accepted lines r sized e = restored-on c accepted lines (nothing_restored c) (restored-first c accepted) sized r e
