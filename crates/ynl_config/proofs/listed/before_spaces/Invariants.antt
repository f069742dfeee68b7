use Rattle.std.proofs.Common.{◌≡◌, length}
use denote.Text.{Utf8}
use denote.Shadow.{shadow}
use Rattle.ynl_config.specs.Access.{cut_spaces}
use Rattle.ynl_config.proofs.listed.before_spaces.Given as goal

abbrev pub invariant-spaces : goal.invariant-spaces
invariant-spaces l = shadow (Utf8 l.rest) × (cut_spaces l.rest ≡ cut_spaces l.text)

abbrev pub decreases-spaces : goal.decreases-spaces
decreases-spaces l = length l.rest
