use Rattle.std.proofs.Common.{Some, None, lit<, sym, ap, ◌∙◌, rules}
use Rattle.std.proofs.lemmas.Str.Pattern.{strip_suffix_char}
use Rattle.ynl_config.specs.Access.{cut_spaces}
use Rattle.ynl_config.proofs.Spaces.{cut_none, cut_one}
use Rattle.ynl_config.proofs.listed.before_spaces.Goals as goal

pub spaces-preserved : goal.spaces-preserved
spaces-preserved c =
    let split = strip_suffix_char 32 c.spaces.rest.now (Some c.in-Some.less) c.in-Some.ensures.cases (lit< tt) in
    (search rules, sym (cut_one c.in-Some.less.now) ∙ ap cut_spaces (sym split) ∙ c.spaces.invariant.1)

pub returns : goal.returns
returns c = sym (cut_none c.spaces.rest.now (strip_suffix_char 32 c.spaces.rest.now None c.in_default.ensures.cases (lit< tt))) ∙ c.spaces.invariant.1
