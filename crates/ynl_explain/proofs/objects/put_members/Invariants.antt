use Rattle.std.proofs.Common.{◌≡◌, ◌++◌, ◌∷◌, take}
use Rattle.std.specs.List.{flat_map}
use Rattle.json.specs.Token.{key}
use Rattle.ynl_explain.specs.Objects.{content_data, tokens_of}
use Rattle.ynl_explain.proofs.objects.put_members.Given as goal

abbrev pub invariant-loop-member : goal.invariant-loop-member
invariant-loop-member l = record {
  before : l.line.before ≡ l.initial.line.before;
  tokens : l.line.tokens ≡ l.initial.line.tokens ++ flat_map (λ m. key m.0.now ∷ tokens_of (content_data m.1)) (take l.member-index l.members);
}
