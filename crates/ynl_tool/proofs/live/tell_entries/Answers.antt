use Rattle.std.proofs.Common.{◌≡◌, ◌<◌, ◌≤◌, ℕ, List, [], None, Err, length, get_or, sym, ap, subst, ◌∙◌, arith}
use Rattle.std.proofs.lemmas.List.{get_or_default}
use Rattle.ynl_model.specs.declared.entries.Entry.{Entry}
use Rattle.ynl_model.specs.declared.events.Event.TheVariants.{Heartbeat}
use Rattle.std.proofs.lemmas.Result.{err_from_is_err_and}
use Rattle.ynl_tool.specs.Living.{journal_lines}
use Rattle.ynl_commands.specs.Telling.{SaysLines}
use Rattle.ynl_tool.proofs.Livings.{of_success, of_error, none_yet, entry_held, entries_same, entries_on, entries_refused, entries_failed, entries_told}
use Rattle.ynl_tool.proofs.live.tell_entries.Goals as goal

-- stands for an entry that is not there
abbrev any_entry : Entry
any_entry = record { event = Heartbeat []; reply = None }

abbrev entry_of : List Entry → ℕ → Entry
entry_of entries i = get_or entries i any_entry

inside : (entries : List Entry) (i n : ℕ) → i < n → n ≡ length entries → i < length entries
inside entries i n lt is = omega (arith, lt, is)

outside : (entries : List Entry) (i n : ℕ) → n ≤ i → n ≡ length entries → length entries ≤ i
outside entries i n le is = omega (arith, le, is)

entry_is : (entries : List Entry) (i : ℕ) → i < length entries → entry_of entries i ≡ get_or entries i (entry_of entries i)
entry_is entries i lt = get_or_default entries i any_entry (entry_of entries i) lt

pub loop-i-init : goal.loop-i-init
loop-i-init g c = none_yet _ _ c.args.entries.now c.new-held.ensures.items

pub loop-i-preserved : goal.loop-i-preserved
loop-i-preserved g c =
    entries_on _ _ _ _ _ (entry_held _ _ _ _ _ c.loop-i.invariant (entry_of c.args.entries.now c.loop-i.i) _ (inside c.args.entries.now c.loop-i.i c.len-i-end.result c.loop-i-test.true c.len-i-end.ensures.value) (entry_is c.args.entries.now c.loop-i.i (inside c.args.entries.now c.loop-i.i c.len-i-end.result c.loop-i-test.true c.len-i-end.ensures.value)) (of_success c.hold_entry.result _ c.in-Ok.is (c.hold_entry.ensures.ok any_entry))) _ _ c.in_ok-write_on-in-Ok.ensures.ok

pub returns-in_err-write_on-in-Ok : goal.returns-in_err-write_on-in-Ok
returns-in_err-write_on-in-Ok g c =
    let p = err_from_is_err_and c.from_residual.result c.from_residual.ensures.1 in
    subst (SaysLines _ _ (journal_lines 0 c.args.entries.now)) (sym (p.1 ∙ ap Err p.2))
    (entries_failed _ _ _ _ _ (entry_held _ _ _ _ _ c.loop-i.invariant (entry_of c.args.entries.now c.loop-i.i) _ (inside c.args.entries.now c.loop-i.i c.len-i-end.result c.loop-i-test.true c.len-i-end.ensures.value) (entry_is c.args.entries.now c.loop-i.i (inside c.args.entries.now c.loop-i.i c.len-i-end.result c.loop-i-test.true c.len-i-end.ensures.value)) (of_success c.hold_entry.result _ c.in-Ok.is (c.hold_entry.ensures.ok any_entry))) _ c.in_err-write_on-in-Ok.ensures.err)

pub returns-in-Err : goal.returns-in-Err
returns-in-Err g c = entries_refused _ _ _ _ _ (entries_same _ _ _ _ _ c.loop-i.invariant _ (of_error c.hold_entry.result _ c.in-Err.is c.hold_entry.ensures.err)) _ c.in_ok-write_held-in-Err.ensures.ok

pub returns-in_err-write_held-in-Err : goal.returns-in_err-write_held-in-Err
returns-in_err-write_held-in-Err g c =
    let p = err_from_is_err_and c.from_residual-in_err-write_held-in-Err.result c.from_residual-in_err-write_held-in-Err.ensures.1 in
    subst (SaysLines _ _ (journal_lines 0 c.args.entries.now)) (sym (p.1 ∙ ap Err p.2))
    (entries_failed _ _ _ _ _ (entries_same _ _ _ _ _ c.loop-i.invariant _ (of_error c.hold_entry.result _ c.in-Err.is c.hold_entry.ensures.err)) _ c.in_err-write_held-in-Err.ensures.err)

pub returns : goal.returns
returns g c = entries_told _ _ _ _ _ c.loop-i.invariant _ (outside c.args.entries.now c.loop-i.i c.len-i-end.result c.loop-i-test.false c.len-i-end.ensures.value) c.in_ok-write_held.ensures.ok

pub returns-in_err-write_held : goal.returns-in_err-write_held
returns-in_err-write_held g c =
    let p = err_from_is_err_and c.from_residual-in_err-write_held.result c.from_residual-in_err-write_held.ensures.1 in
    subst (SaysLines _ _ (journal_lines 0 c.args.entries.now)) (sym (p.1 ∙ ap Err p.2)) (entries_failed _ _ _ _ _ c.loop-i.invariant _ c.in_err-write_held.ensures.err)
