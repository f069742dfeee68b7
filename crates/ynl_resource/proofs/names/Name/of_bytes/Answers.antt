use Rattle.std.proofs.Common.{rules, sym, arith}
use Rattle.std.proofs.lemmas.Bool.Decides.{nat_tests}
use Rattle.ynl_resource.proofs.NameFronts.{reads_none, reads_more, reads_whole}
use Rattle.ynl_resource.proofs.names.Name.of_bytes.Goals as goal

pub returns-in_default : goal.returns-in_default
returns-in_default c = sym (reads_none c.args.bytes.now (sym c.in_default.ensures))

pub returns-then-not-is_empty : goal.returns-then-not-is_empty
returns-then-not-is_empty c = sym (reads_more c.args.bytes.now _ c.in-Some.rest.now (sym c.in-Some.ensures) (grind (arith, nat_tests)))

pub returns : goal.returns
returns c =
    let read = reads_whole c.args.bytes.now c.in-Some.name c.in-Some.rest.now (sym c.in-Some.ensures) (grind (arith, nat_tests)) in
    search (rules, read)
