use Rattle.std.proofs.Common.{◌≡◌, ◌∙◌, ap, sym}
use Rattle.toml.specs.View.{table_view}
use Rattle.ynl_config.specs.Earliest.{made}
use Rattle.ynl_config.specs.Tables.{leaf_in, leaf_parts, leaf_row}
use Rattle.ynl_config.proofs.queues.leaf_in.Goals as goal

pub returns-in-Ok : goal.returns-in-Ok
unfolding leaf_in
returns-in-Ok c =
    let all : c.both-2.result ≡ leaf_parts c.args.version (table_view c.args.table.now) = cc in
    ap (made leaf_row) (c.in-Ok.ensures ∙ sym c.both-2.ensures ∙ all)

pub returns-in-Err : goal.returns-in-Err
unfolding leaf_in
returns-in-Err c =
    let all : c.both-2.result ≡ leaf_parts c.args.version (table_view c.args.table.now) = cc in
    ap (made leaf_row) (c.in-Err.ensures ∙ sym c.both-2.ensures ∙ all)
