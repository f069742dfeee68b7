use Rattle.std.proofs.Common.{◌≡◌, ◌∙◌, ap, sym}
use Rattle.toml.specs.View.{table_view}
use Rattle.ynl_config.specs.Earliest.{made}
use Rattle.ynl_config.specs.Tables.{label_in, label_parts, label_row}
use Rattle.ynl_config.proofs.label_rows.label_in.Goals as goal

pub returns-in-Ok : goal.returns-in-Ok
unfolding label_in
returns-in-Ok c =
    let all : c.both-3.result ≡ label_parts (table_view c.args.table.now) = cc in
    ap (made label_row) (c.in-Ok.ensures ∙ sym c.both-3.ensures ∙ all)

pub returns-in-Err : goal.returns-in-Err
unfolding label_in
returns-in-Err c =
    let all : c.both-3.result ≡ label_parts (table_view c.args.table.now) = cc in
    ap (made label_row) (c.in-Err.ensures ∙ sym c.both-3.ensures ∙ all)
