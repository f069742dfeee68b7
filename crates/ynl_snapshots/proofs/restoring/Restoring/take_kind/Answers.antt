-- A line is taken by its kind.
use Rattle.std.proofs.Common.{◌∙◌, ℕ, List, Result, Ok, Err, true, refl, sym, subst}
use Rattle.std.specs.Result.{IfOk, OnOk}
use Rattle.std.proofs.lemmas.Result.{IfOk-weaker}
use Rattle.std.proofs.lemmas.List.{with_items_is}
use Rattle.ynl_saved.specs.declared.lines.StateLine.TheVariants.{Ask, Begin, End, Finished, Live, Stopped}
use Rattle.ynl_saved.specs.Restoring.{is_sound_line, with_line}
use Rattle.ynl_snapshots.specs.restoring.Telling.{Telling, Tells, TakesKind, telling_of}
use Rattle.ynl_snapshots.proofs.restoring.Tells.{ask-rows, container-viewed, plain-viewed, steady, still-told}
use Rattle.ynl_snapshots.proofs.restoring.Restoring.take_kind.Goals as goal

pub returns-in-Begin : goal.returns-in-Begin
unfolding is_sound_line with_line
returns-in-Begin c r h = still-told c.args.self.now r h Begin c.args.line.now c.in-Begin.is tt refl refl (λ s. refl) true refl

pub take_container-requires-clause-steady : goal.take_container-requires-clause-steady
take_container-requires-clause-steady c = steady (telling_of c.self-in-Container.inside) c.requires.0 (subst (λ (t : Telling). Tells t c.requires.0) (sym c.self-in-Container.view_is) c.requires.1)

pub returns-in-Live : goal.returns-in-Live
unfolding with_line
returns-in-Live c =
    IfOk-weaker c.take_live.result _ _
    (λ taken takes r h.
    plain-viewed (telling_of c.self.inside) c.args.self.now c.self.view_is r h (Live c.in-Live.queue c.in-Live.app c.in-Live.user c.in-Live.label c.in-Live.master) c.args.line.now c.in-Live.is tt refl refl refl
    c.take_live.new.cluster taken takes)
    c.take_live.ensures

pub returns-in-Ask : goal.returns-in-Ask
returns-in-Ask c =
    IfOk-weaker c.take_ask.result _ _
    (λ taken takes r h.
    plain-viewed (telling_of c.self-in-Ask.inside) c.args.self.now c.self-in-Ask.view_is r h (Ask c.in-Ask.tenant c.in-Ask.app c.in-Ask.ask) c.args.line.now c.in-Ask.is tt refl refl
    (ask-rows (telling_of c.self-in-Ask.inside) r (subst (λ (t : Telling). Tells t r) (sym c.self-in-Ask.view_is) h) c.in-Ask.tenant c.in-Ask.app c.in-Ask.ask)
    c.take_ask.new.cluster taken takes)
    c.take_ask.ensures

pub returns-in-Finished : goal.returns-in-Finished
unfolding with_line
returns-in-Finished c =
    IfOk-weaker c.take_finished.result _ _
    (λ taken takes r h.
    plain-viewed (telling_of c.self-in-Finished.inside) c.args.self.now c.self-in-Finished.view_is r h (Finished c.in-Finished.queue c.in-Finished.app) c.args.line.now c.in-Finished.is tt refl refl refl
    c.take_finished.new.cluster taken takes)
    c.take_finished.ensures

-- what holds of a value holds with what holds wherever there is one
both-ok : {T E : Type 0} (Q : T → Type 0) (P : Type 0) (r : Result T E) → IfOk r Q → OnOk r P → IfOk r (λ x. Q x × P)
both-ok Q P (Ok x) its all = (its, all)
both-ok Q P (Err e) its all = tt

pub returns-in-Container : goal.returns-in-Container
returns-in-Container c =
    IfOk-weaker c.take_container.result _ _
    (λ taken its r h.
    subst (λ (lasts : List ℕ). TakesKind c.args.self.now r c.args.line.now (record (telling_of c.self-in-Container.inside) { cluster = c.take_container.new.cluster; lasts = lasts }) taken)
    (sym (with_items_is c.self-in-Container.inside.lasts c.take_container.new.lasts (c.take_container.auto.lasts ∙ c.deref_mut.ensures.len)))
    (container-viewed (telling_of c.self-in-Container.inside) c.args.self.now c.self-in-Container.view_is r h c.in-Container.placed c.args.line.now c.in-Container.is
    c.take_container.new.cluster taken its.0 c.take_container.new.lasts its.1))
    (both-ok _ _ c.take_container.result c.take_container.ensures.takes c.take_container.ensures.lasts)

pub returns-in-Stopped : goal.returns-in-Stopped
unfolding with_line
returns-in-Stopped c r h =
    plain-viewed (telling_of c.self-in-Stopped.inside) c.args.self.now c.self-in-Stopped.view_is r h (Stopped c.in-Stopped.queue) c.args.line.now c.in-Stopped.is tt refl refl refl
    c.take_stopped.new.cluster c.take_stopped.result c.take_stopped.ensures

pub returns-in-End : goal.returns-in-End
unfolding with_line
returns-in-End c r h =
    still-told c.args.self.now r h (End c.in-End.lines) c.args.line.now c.in-End.is tt refl refl (λ s. refl) c.ends.result (c.ends.ensures r h)
