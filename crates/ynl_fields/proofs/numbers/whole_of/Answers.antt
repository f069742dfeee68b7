use Rattle.std.proofs.Common.{◌≡◌, ℕ, List, Some, IfSome, IfNone, sym, ◌∙◌, ap}
use Rattle.std.specs.Prelude.{◌==◌, slice_index}
use Rattle.serde_json.specs.Data.{unsigned}
use Rattle.serde_json.specs.Read.{number_of}
use Rattle.ynl_fields.proofs.Whole.{minus_none, whole_by}
use Rattle.ynl_fields.proofs.numbers.whole_of.Goals as goal

read : (c : goal.After-to_u64) → (IfSome c.to_u64.result (λ n. number_of c.args.text.now ≡ Some (unsigned n))) × (IfNone c.to_u64.result ((n : ℕ) → number_of c.args.text.now ≡ Some (unsigned n) → ⊥))
read c = whole_by c.args.text.now c.as_bytes-bytes.result.now c.to_u64.result c.scan.result c.as_bytes-bytes.ensures.value (sym c.has_minus.ensures ∙ c.if-has_minus.false) c.scan.ensures.parts c.to_u64.ensures

pub returns-clause-some : goal.returns-clause-some
returns-clause-some c = (read c).0

pub returns-clause-none : goal.returns-clause-none
returns-clause-none c = (read c).1

pub returns-then-has_minus-clause-none : goal.returns-then-has_minus-clause-none
returns-then-has_minus-clause-none c = λ n. minus_none c.args.text.now (ap (λ (s : List ℕ). slice_index s 0 == 45) (sym c.as_bytes-bytes.ensures.value) ∙ sym c.has_minus.ensures ∙ c.if-has_minus.true) n
