use Rattle.std.proofs.Common.{lit<, rules, tests, not}
use Rattle.std.proofs.lemmas.Iterator.Search.{find_from_yields_List}
use Rattle.std.proofs.lemmas.Iterator.Splits.{YieldsList-from_str_split}
use Rattle.ynl_config.specs.Access.{trimmed}
use Rattle.ynl_config.specs.Places.{is_name}
use Rattle.ynl_config.proofs.table_places.bad_part.Goals as goal

pub returns : goal.returns
returns c =
    find_from_yields_List (λ part. not (is_name (trimmed part))) _ _ _ c.find.ensures.ran
    (YieldsList-from_str_split 44 c.args.text.now (lit< tt) c.split.ensures.text c.split.ensures.has_more c.split.ensures.pattern) (λ x b q k. search (rules, tests))
