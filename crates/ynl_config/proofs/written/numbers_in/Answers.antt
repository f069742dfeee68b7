use Rattle.std.proofs.Common.{◌≡◌, ◌∙◌, ap, sym}
use Rattle.toml.specs.View.{table_view}
use Rattle.ynl_config.specs.Earliest.{made}
use Rattle.ynl_config.specs.Tables.{numbers_in, number_parts, numbers_row}
use Rattle.ynl_config.proofs.written.numbers_in.Goals as goal

pub returns-in-Ok : goal.returns-in-Ok
unfolding numbers_in
returns-in-Ok c =
    let all : c.both-2.result ≡ number_parts (table_view c.args.table.now) = cc in
    ap (made numbers_row) (c.in-Ok.ensures ∙ sym c.both-2.ensures ∙ all)

pub returns-in-Err : goal.returns-in-Err
unfolding numbers_in
returns-in-Err c =
    let all : c.both-2.result ≡ number_parts (table_view c.args.table.now) = cc in
    ap (made numbers_row) (c.in-Err.ensures ∙ sym c.both-2.ensures ∙ all)
