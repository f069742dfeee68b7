-- The asks are those with one container taken, which are asks.
use Rattle.std.proofs.Common.{sym, subst, ap, ◌∙◌}
use Rattle.ynl_resource.specs.Tables.{without}
use Rattle.ynl_tables.specs.apps.Asks.{is_spent, AreAsks}
use Rattle.ynl_tables.proofs.apps.Asking.{asks_taken}
use Rattle.ynl_tables.proofs.apps.asks.Asks.take_one.Goals as goal

pub invariant_of-self : goal.invariant_of-self
invariant_of-self c =
    subst AreAsks (sym (c.drop_ask.ensures ∙ sym c.if-lower.ensures.spent ∙ ap (without (is_spent c.args.partition c.args.priority)) c.lower.ensures.asks))
    (asks_taken c.args.partition c.args.priority c.self.inside.rows.items c.self.invariant)

pub invariant_of-self-else-lower : goal.invariant_of-self-else-lower
invariant_of-self-else-lower c =
    subst AreAsks (sym (sym c.if-lower.ensures.spent ∙ ap (without (is_spent c.args.partition c.args.priority)) c.lower.ensures.asks))
    (asks_taken c.args.partition c.args.priority c.self.inside.rows.items c.self.invariant)
