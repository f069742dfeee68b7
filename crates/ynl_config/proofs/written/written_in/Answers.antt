use Rattle.std.proofs.Common.{◌≡◌, ◌∙◌, ap, sym, Ok}
use Rattle.toml.specs.View.{table_view}
use Rattle.ynl_config.specs.Earliest.{both, made}
use Rattle.ynl_config.specs.Tables.{written_in, parts_in, written_of, any_version}
use Rattle.ynl_config.specs.Seen.{parts_view}
use Rattle.ynl_config.proofs.Joined.{parts_seen}
use Rattle.ynl_config.proofs.written.written_in.Goals.{After-both-3}
use Rattle.ynl_config.proofs.written.written_in.Goals as goal

-- what was read, as the model's values, is the text's parts
seen : (c : goal.After-both-3) → made parts_view c.both-3.result ≡ parts_in (table_view c.args.table.now)
seen c =
    let all : c.both-3.result ≡ both c.known_keys-keys.result (both c.version_at-version.result (both c.numbers_in-numbers.result c.in_ok-rows.rows)) = cc in
    ap (made parts_view) all
    ∙ sym (parts_seen c.known_keys-keys.result c.version_at-version.result c.numbers_in-numbers.result c.in_ok-rows.rows)
    ∙ cc (ap any_version c.version_at-version.ensures, c.any_version.ensures, c.in_ok-rows.ensures)

pub returns-in-Ok : goal.returns-in-Ok
unfolding written_in
returns-in-Ok c =
    ap Ok c.written_of.ensures ∙ sym (ap (λ r. made written_of (made parts_view r)) c.in-Ok.is) ∙ ap (made written_of) (seen (goal.at.returns-in-Ok c).After-both-3)

pub returns-in-Err : goal.returns-in-Err
unfolding written_in
returns-in-Err c = sym (ap (λ r. made written_of (made parts_view r)) c.in-Err.is) ∙ ap (made written_of) (seen (goal.at.returns-in-Err c).After-both-3)
