use Rattle.std.proofs.Common.{◌≡◌, ◌∙◌, ap, sym}
use Rattle.toml.specs.View.{table_view}
use Rattle.ynl_config.specs.Earliest.{made}
use Rattle.ynl_config.specs.Tables.{bounds_in, bounds_parts, bounds_row}
use Rattle.ynl_config.proofs.queues.bounds_in.Goals as goal

pub returns-in-Ok : goal.returns-in-Ok
unfolding bounds_in
returns-in-Ok c =
    let all : c.both.result ≡ bounds_parts c.args.version (table_view c.args.table.now) = cc in
    ap (made bounds_row) (c.in-Ok.ensures ∙ sym c.both.ensures ∙ all)

pub returns-in-Err : goal.returns-in-Err
unfolding bounds_in
returns-in-Err c =
    let all : c.both.result ≡ bounds_parts c.args.version (table_view c.args.table.now) = cc in
    ap (made bounds_row) (c.in-Err.ensures ∙ sym c.both.ensures ∙ all)
