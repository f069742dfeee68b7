use Rattle.std.proofs.Common.{None, lit<, sym, ◌∙◌}
use Rattle.std.proofs.lemmas.Str.Pattern.{strip_prefix_char}
use Rattle.ynl_config.proofs.Spaces.{skip_none}
use Rattle.ynl_config.proofs.listed.after_spaces.Goals as goal

pub returns : goal.returns
returns c = sym (skip_none c.spaces.rest.now (strip_prefix_char 32 c.spaces.rest.now None c.in_default.ensures.cases (lit< tt))) ∙ c.spaces.invariant.1
