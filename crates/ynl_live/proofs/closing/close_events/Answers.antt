use Rattle.std.proofs.Common.{length, sym, ◌∙◌, arith}
use Rattle.ynl_live.proofs.Lists.{EachOnce-at_close}
use Rattle.ynl_live.proofs.closing.close_events.Goals as goal

pub returns-in-Ok-mark_lists-clause-closed : goal.returns-in-Ok-mark_lists-clause-closed
returns-in-Ok-mark_lists-clause-closed c =
    let own = c.in-Ok.ensures in
    let entries = c.in-Ok.closed.entries in
    record {
      events_are = own.events;
      core = own.core;
      history = own.history;
      calls = own.len ∙ sym c.requires.calls;
      one_for_each = c.requires.lists;
      receipts = c.in-Ok-mark_lists.ensures.fit;
      once =
          EachOnce-at_close c.mark_lists.new.marks c.args.seats.now c.args.lists.now (length entries) c.in-Ok-mark_lists.ensures.marks c.requires.lists (c.requires.calls ∙ sym own.len)
          (omega (arith, c.in-Ok-unmarked.ensures.len, c.len.ensures.value));
    }
