use Rattle.std.proofs.Common.{◌≡◌, ◌++◌, take, option_map}
use Rattle.std.specs.List.{flat_map}
use Rattle.ynl_check.specs.Objects.{member_by, token_of}
use Rattle.ynl_check.proofs.objects.put_members.Given as goal

abbrev pub invariant-loop-member : goal.invariant-loop-member
invariant-loop-member l = record {
  before : l.line.before ≡ l.initial.line.before;
  tokens : l.line.tokens ≡ l.initial.line.tokens ++ flat_map (λ m. member_by m.0.now (option_map token_of m.1)) (take l.member-index l.members);
}
