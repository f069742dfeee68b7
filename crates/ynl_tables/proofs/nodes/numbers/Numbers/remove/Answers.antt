use Rattle.std.proofs.Common.{None, sym, ◌∙◌}
use Rattle.ynl_tables.proofs.nodes.Numbering.{short_set, long_set}
use Rattle.ynl_tables.proofs.nodes.numbers.Numbers.remove.Goals as goal

pub returns-in-Some-clause-gone : goal.returns-in-Some-clause-gone
returns-in-Some-clause-gone c =
    short_set c.args.self.now c.remove-number.new.self c.args.name.now c.in-Some.code None (sym c.code.ensures.value ∙ c.in-Some.is) c.code.ensures.name c.remove-number.ensures.updates.0

pub returns-in-None-clause-gone : goal.returns-in-None-clause-gone
returns-in-None-clause-gone c = λ other named.
    long_set c.args.self.now c.remove-number-in-None.new.self c.args.name.now None (sym c.code.ensures.value ∙ c.in-None.is) c.remove-number-in-None.ensures.updates.0 other
