use Rattle.std.proofs.Common.{◌≡◌, [], vec_len}
use Rattle.ynl_workers.specs.session.Dealt.{AreDealt, AreInTurn}
use Rattle.ynl_workers.proofs.session.dealing.empty_lists.Given as goal

abbrev pub invariant-loop : goal.invariant-loop
invariant-loop l = (vec_len l.lists ≡ l.counter) × AreDealt [] l.lists.items × AreInTurn [] l.lists.items
