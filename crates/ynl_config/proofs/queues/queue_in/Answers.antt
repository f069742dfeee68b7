use Rattle.std.proofs.Common.{◌≡◌, ◌∙◌, ap, sym, Ok}
use Rattle.toml.specs.View.{table_view}
use Rattle.ynl_config.specs.Earliest.{both, made}
use Rattle.ynl_config.specs.Seen.{queue_view}
use Rattle.ynl_config.specs.Readings.{text_at}
use Rattle.ynl_config.specs.Tables.{queue_in, queue_parts, queue_row}
use Rattle.std.specs.Prelude.{codes}
use Rattle.ynl_config.proofs.Joined.{made_given, queue_seen}
use Rattle.ynl_config.proofs.queues.queue_in.Goals.{After-both-3}
use Rattle.ynl_config.proofs.queues.queue_in.Goals as goal

-- what was read, as the model's values, is the queue's parts
seen : (c : goal.After-both-3) → made queue_view c.both-3.result ≡ queue_parts c.args.version (table_view c.args.table.now)
seen c =
    let all : c.both-3.result ≡ both c.known_keys-keys.result (both c.text_at-path.result (both c.bounds_in-bounds.result c.in_ok-settings.settings)) = cc in
    let path : made (λ s. s.now) c.text_at-path.result ≡ text_at (codes "path") (table_view c.args.table.now) = made_given (λ s. s.now) c.text_at-path.result _ c.text_at-path.ensures in
    ap (made queue_view) all
    ∙ sym (queue_seen c.known_keys-keys.result c.text_at-path.result c.bounds_in-bounds.result c.in_ok-settings.settings)
    ∙ (λ i. both (c.known_keys-keys.ensures i) (both (path i) (both (c.bounds_in-bounds.ensures i) (c.in_ok-settings.ensures i))))

pub returns-in_ok-queue-in-Ok : goal.returns-in_ok-queue-in-Ok
unfolding queue_in
returns-in_ok-queue-in-Ok c =
    ap Ok c.in_ok-queue-in-Ok.ensures ∙ sym (ap (λ r. made queue_row (made queue_view r)) c.in-Ok.is) ∙ ap (made queue_row) (seen (goal.at.returns-in_ok-queue-in-Ok c).After-both-3)

pub returns-in-Err : goal.returns-in-Err
unfolding queue_in
returns-in-Err c = sym (ap (λ r. made queue_row (made queue_view r)) c.in-Err.is) ∙ ap (made queue_row) (seen (goal.at.returns-in-Err c).After-both-3)
