use Rattle.std.proofs.Common.{◌≡◌, ◌∙◌, codes, refl, sym, ap}
use Rattle.toml.specs.View.{table_view}
use Rattle.ynl_resource.specs.Ranges.{whole}
use Rattle.ynl_queues.specs.Rows.{access_of}
use Rattle.ynl_config.specs.Tables.{access_at}
use Rattle.ynl_config.specs.Places.{has, queue_keys}
use Rattle.ynl_config.proofs.KeyTables.{has_made, any_number, any_percent}
use Rattle.ynl_config.proofs.faulty_keys.faulty_queue_key.Goals as goal

pub returns-then-has : goal.returns-then-has
unfolding queue_keys
returns-then-has c =
    let access : c.has.result ≡ has c.args.fault (access_at (table_view c.args.table.now)) =
    c.has.ensures ∙ has_made c.args.fault access_of c.in_ok-access_at.field-0 ∙ ap (has c.args.fault) c.in_ok-access_at.ensures in
    rw (sym access ∙ c.if-has.true) refl

pub returns : goal.returns
unfolding queue_keys
returns c =
    let fault = c.args.fault in
    let version = c.args.version in
    let ms = table_view c.args.table.now in
    let access : c.has.result ≡ has fault (access_at ms) = c.has.ensures ∙ has_made fault access_of c.in_ok-access_at.field-0 ∙ ap (has fault) c.in_ok-access_at.ensures in
    c.first_key.ensures
    ∙ rw (
      sym access ∙ c.if-has.false,
      any_percent fault (codes "maximum-am-resource-percent") version 0 0 1000 ms,
      any_number fault (codes "maximum-applications") 1 1000000 1000000 10000 ms,
      any_percent fault (codes "maximum-capacity") version 0 0 whole ms,
      any_percent fault (codes "minimum-user-limit-percent") version 1 0 whole ms,
      any_number fault (codes "user-limit-factor") 1 10000 10000 100 ms,
    ) refl
