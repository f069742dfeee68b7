use Rattle.std.proofs.Common.{◌≡◌, ◌++◌, take}
use Rattle.std.specs.List.{flat_map}
use Rattle.ynl_explain.specs.Objects.{tokens_of}
use Rattle.ynl_explain.specs.Told.{reason_data}
use Rattle.ynl_explain.proofs.telling.put_all.Given as goal

abbrev pub invariant-loop-reason : goal.invariant-loop-reason
invariant-loop-reason l = record {
  before : l.line.before ≡ l.initial.line.before;
  tokens : l.line.tokens ≡ l.initial.line.tokens ++ flat_map (λ reason. tokens_of (reason_data reason)) (take l.reason-index l.reasons);
}
