use Rattle.std.proofs.Common.{◌≡◌, ◌+◌, length, arith}
use Rattle.std.proofs.lemmas.Bool.Decides.{nat_tests}
use Rattle.std.proofs.lemmas.List.Splits.{length-slice_split}
use Rattle.std.specs.List.{slice_split}
use Rattle.ynl_resource.specs.Texts.{is_dot}
use Rattle.ynl_queues.proofs.texts.is_too_deep.Goals as goal

pub returns : goal.returns
returns c =
    let parts : length (slice_split is_dot c.args.text.now) ≡ c.dots.result + 1 = rw c.dots.ensures (length-slice_split is_dot c.args.text.now) in
    rw parts (grind (arith, nat_tests))
