use Rattle.std.proofs.Common.{◌≡◌, ◌∙◌, ap, sym}
use Rattle.toml.specs.View.{table_view}
use Rattle.ynl_config.specs.Earliest.{made}
use Rattle.ynl_config.specs.Tables.{share_in, share_parts, share_row}
use Rattle.ynl_config.proofs.queues.share_in.Goals as goal

pub returns-in-Ok : goal.returns-in-Ok
unfolding share_in
returns-in-Ok c =
    let all : c.both-2.result ≡ share_parts c.args.version c.args.name.now (table_view c.args.table.now) = cc in
    ap (made share_row) (c.in-Ok.ensures ∙ sym c.both-2.ensures ∙ all)

pub returns-in-Err : goal.returns-in-Err
unfolding share_in
returns-in-Err c =
    let all : c.both-2.result ≡ share_parts c.args.version c.args.name.now (table_view c.args.table.now) = cc in
    ap (made share_row) (c.in-Err.ensures ∙ sym c.both-2.ensures ∙ all)
