use Rattle.std.proofs.Common.{◌∙◌}
use Rattle.std.specs.Str.Parse.{without_leading_plus}
use Rattle.ynl_words.proofs.Commands.{number_told}
use Rattle.ynl_words.proofs.live_words.number_in.Goals as goal

pub returns : goal.returns
returns c = c.ok.ensures.value ∙ number_told (without_leading_plus c.args.text.now) c.parse.result c.parse.ensures.value.0
