use Rattle.std.proofs.Common.{rules, Bool, not}
use Rattle.std.proofs.lemmas.Fn.{filter_same}
use Rattle.ynl_tables.specs.declared.apps.asks.Ask.{Ask}
use Rattle.ynl_tables.specs.apps.Asks.{is_ask_of}
use Rattle.ynl_tables.proofs.apps.asks.drop_ask.Goals as goal

pub returns : goal.returns
returns c =
    let test : Ask → Bool = λ ask. not (is_ask_of c.args.partition c.args.priority ask) in
    filter_same _ test _ (λ x b f' r. (search rules, search rules)) _ _ c.retain.ensures.filtered
