use Rattle.std.proofs.Common.{◌++◌, ap, ◌∙◌}
use Rattle.std.proofs.lemmas.List.{map-append}
use Rattle.std.proofs.lemmas.Result.{on_ok_weaker}
use Rattle.ynl_packed.specs.Lists.{entry_in, entries_in, IsEntry}
use Rattle.ynl_packed.proofs.Listed.{pieces_appended}
use Rattle.ynl_packed.proofs.entries.Entries.append.Goals as goal

pub invariant_of-self : goal.invariant_of-self
invariant_of-self c =
    pieces_appended IsEntry c.append.result c.self.inside.pieces c.others.inside.pieces c.append.new.self c.others.invariant c.append.ensures.ok c.append.ensures.err c.self.invariant

pub returns-clause-ok : goal.returns-clause-ok
returns-clause-ok c =
    on_ok_weaker c.append.result
    (λ e. ap entries_in e ∙ map-append entry_in c.self.inside.pieces c.others.inside.pieces ∙ (λ i. c.self.view_is i ++ c.others.view_is i))
    c.append.ensures.ok
