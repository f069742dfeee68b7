use Rattle.std.proofs.Common.{◌≡◌, ap, arith, length, get_or, below_more}
use Rattle.ynl_live.proofs.Lists.{list_len_at, calls_at, IsOneForEach-from_each}
use Rattle.ynl_live.proofs.matching.is_one_for_each.Goals as goal

pub returns-then-len-calls : goal.returns-then-len-calls
returns-then-len-calls c =
    let a = list_len_at c.args.lists.now c.loop-i.i c.index-lists-i.result (omega arith) c.index-lists-i.is in
    let b = calls_at c.args.seats.now c.loop-i.i c.index-seats-i.result (omega arith) c.index-seats-i.is in (
      λ t. cc,
      λ fit. let e = ap (λ xs. get_or xs c.loop-i.i 0) fit in absurd (omega (arith, a, b, e, c.len.ensures, c.calls.ensures)),
    )

pub loop-i-preserved : goal.loop-i-preserved
loop-i-preserved c =
    let a = list_len_at c.args.lists.now c.loop-i.i c.index-lists-i.result (omega arith) c.index-lists-i.is in
    let b = calls_at c.args.seats.now c.loop-i.i c.index-seats-i.result (omega arith) c.index-seats-i.is in
    below_more _ _ c.loop-i.invariant (omega (arith, a, b, c.len.ensures, c.calls.ensures))

pub returns : goal.returns
returns c =
    let len : length c.args.lists.now ≡ length c.args.seats.now = omega arith in (
      λ t. IsOneForEach-from_each c.args.seats.now c.args.lists.now len (λ k inside. c.loop-i.invariant k (omega arith)),
      λ fit. cc,
    )
