use Rattle.std.proofs.Common.{◌≤◌, All, List, length, arith, subst, Vec, Global}
use Rattle.std.proofs.lemmas.List.{take_all}
use Rattle.std.proofs.lemmas.List.Elements.{All-more, All-weaker}
use Rattle.ynl_resource.specs.declared.names.Name.{Name}
use Rattle.ynl_workers.proofs.rounds.longest_of.Goals as goal

pub loop-list-preserved : goal.loop-list-preserved
loop-list-preserved c =
    let P : Vec Name Global → Type 0 = λ v. length v.items ≤ c.max-longest.result in
    let before = All-weaker (λ (v : Vec Name Global). length v.items ≤ c.loop-list.longest) P (λ v h. omega (arith, c.max-longest.ensures)) _ c.loop-list.invariant in
    let here = subst P c.list-item.is (omega (arith, c.len.ensures, c.max-longest.ensures, c.list-item.result.ok.0)) in
    All-more P c.args.lists.now c.loop-list.list-index c.list-item.result (omega arith) before here

pub returns : goal.returns
returns c =
    let P : List (Vec Name Global) → Type 0 = λ xs. All (λ v. length v.items ≤ c.loop-list.longest) xs in
    subst P (take_all c.loop-list.list-index c.args.lists.now (omega arith)) c.loop-list.invariant
