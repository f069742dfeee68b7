use Rattle.std.proofs.Common.{◌≡◌, take, vec_len}
use Rattle.ynl_workers.specs.session.Dealt.{AreDealt, AreInTurn}
use Rattle.ynl_workers.proofs.session.dealing.deal.Given as goal

abbrev pub invariant-loop-i : goal.invariant-loop-i
invariant-loop-i l = (vec_len l.lists ≡ l.count) × AreDealt (take l.i l.nodes) l.lists.items × AreInTurn (take l.i l.nodes) l.lists.items
