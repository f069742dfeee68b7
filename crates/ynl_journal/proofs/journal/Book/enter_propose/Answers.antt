use Rattle.std.proofs.Common.{true, List, [], ◌∷◌, ◌++◌, Bool, sym, ap, subst, ◌∙◌}
use Rattle.ynl_model.specs.declared.events.Event.{Event}
use Rattle.ynl_model.specs.declared.events.Event.TheVariants.{Propose}
use Rattle.ynl_core.specs.World.{World}
use Rattle.ynl_core.specs.Sightings.{IsSighting, reply_by, reply_before}
use Rattle.ynl_journal.specs.Journal.{Journal, entry}
use Rattle.ynl_journal.proofs.Booked.{journal, config_grown, len_from, state_grown, counted_grown, reply_known, world_known, entry_grown, written_before}
use Rattle.ynl_journal.proofs.journal.Book.enter_propose.Goals as goal

pub invariant_of-self-in-Ok : goal.invariant_of-self-in-Ok
invariant_of-self-in-Ok c =
    let was = c.self.inside in
    let event : Event = Propose c.args.node.now in
    let planned = c.push_reserved.ensures.items ∙ ap (λ (ps : List Bool). ps ++ true ∷ []) c.keep.ensures.planned in
    record {
      config = config_grown was.start.value was.core c.see.new.self event (reply_by c.in-Ok.sighted) c.self.invariant.config c.in-Ok.ensures.told;
      state = state_grown was.start.value.state was.core c.see.new.self was.events event (reply_by c.in-Ok.sighted) c.self.invariant.state c.in-Ok.ensures.told c.keep.new.events c.in_ok-keep.ensures.events;
      counted = counted_grown was.events c.keep.new.events was.planned.items c.push_reserved.new.self.items event true c.self.invariant.counted c.in_ok-keep.ensures.events planned;
    }

pub returns-in-Ok-clause-place : goal.returns-in-Ok-clause-place
returns-in-Ok-clause-place c = rw (← c.self.view_is) (c.len-place.ensures.value ∙ sym (len_from c.self.inside.core.config c.self.inside.start.value.state c.self.inside.events c.self.inside.planned.items c.self.invariant.counted))

pub returns-in-Ok-clause-sighting : goal.returns-in-Ok-clause-sighting
returns-in-Ok-clause-sighting c =
    let was = c.self.inside in
    let P : World → Type 0 = λ w. IsSighting w c.args.node.now c.in-Ok.sighted in
    rw (← c.self.view_is) (subst P (world_known was.start.value.state was.core was.events was.planned.items c.self.invariant.counted c.self.invariant.state) c.in-Ok.ensures.sighting)

pub returns-in-Ok-clause-reply : goal.returns-in-Ok-clause-reply
returns-in-Ok-clause-reply c =
    let was = c.self.inside in
    rw (← c.self.view_is) (reply_known was.start.value.state was.core c.see.new.self was.events (Propose c.args.node.now) (reply_by c.in-Ok.sighted) c.self.invariant.state c.in-Ok.ensures.told was.planned.items c.self.invariant.counted)

pub returns-in-Ok-clause-entry : goal.returns-in-Ok-clause-entry
returns-in-Ok-clause-entry c =
    let was = c.self.inside in
    let event : Event = Propose c.args.node.now in
    let planned = c.push_reserved.ensures.items ∙ ap (λ (ps : List Bool). ps ++ true ∷ []) c.keep.ensures.planned in
    entry_grown was.start.value.state was.core c.see.new.self was.events event (reply_by c.in-Ok.sighted) c.self.invariant.state c.in-Ok.ensures.told c.keep.new.events was.planned.items
    c.push_reserved.new.self.items true (reply_before c.in-Ok.sighted) c.self.invariant.counted c.in_ok-keep.ensures.events planned (written_before c.in-Ok.sighted)
    ∙ ap (λ (j : Journal). journal j.config j.begun (j.entries ++ entry event (reply_before c.in-Ok.sighted) ∷ [])) c.self.view_is
