use Rattle.std.proofs.Common.{◌≡◌, IfOk, sym, subst, ◌∙◌, rules}
use Rattle.std.proofs.lemmas.Result.{IfOk-weaker}
use Rattle.std.specs.Prelude.{true}
use Rattle.toml.specs.View.{table_view}
use Rattle.ynl_model.specs.Accepted.{is_accepted}
use Rattle.ynl_config.specs.Meaning.{config_of}
use Rattle.ynl_config.specs.Misplaced.{meant}
use Rattle.ynl_config.proofs.Ranges.{accepted_if}
use Rattle.ynl_config.proofs.config.read_config.Goals as goal

pub returns-clause-accepted : goal.returns-clause-accepted
unfolding config_of
returns-clause-accepted c =
    let means : config_of c.args.text.now ≡ meant (table_view c.in-Some.table) = search rules in
    IfOk-weaker c.config_in.result _ _
    (λ read h. subst (λ r. IfOk r (λ config. is_accepted config ≡ true)) (means ∙ sym h) (accepted_if c.args.text.now)) c.config_in.ensures
