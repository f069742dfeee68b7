use Rattle.std.proofs.Common.{sym, ap, ◌∙◌, Result, Ok, Err}
use Rattle.std.specs.Prelude.{OnErr, option_map}
use Rattle.serde_json.specs.View.{view}
use Rattle.ynl_fields.proofs.Treed.{is_text}
use Rattle.ynl_lines.proofs.read_lines.read_line.Goals as goal

anyhow_so : {T E : Type 0} (P : Type 0) (r : Result T E) → P → OnErr r P
anyhow_so P (Ok x) p = tt
anyhow_so P (Err e) p = p

pub returns-in-Some-clause-text : goal.returns-in-Some-clause-text
returns-in-Some-clause-text c =
    anyhow_so _ c.line_at.result (is_text c.args.line.now (view c.in-Some.value) (sym c.in_ok-value.ensures.value ∙ ap (option_map view) c.in-Some.is))
