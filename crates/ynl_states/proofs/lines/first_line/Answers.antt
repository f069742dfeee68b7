-- The first line of a text.
use Rattle.std.proofs.Common.{◌≡◌, ◌≢◌, ◌∙◌, ◌==◌, ◌∷◌, ◌-◌, ◌+◌, ◌<◌, ℕ, List, drop, length, slice_index_or, take, sym, ap, arith}
use Rattle.std.specs.List.{position_or_len, slice_split}
use Rattle.std.proofs.lemmas.List.{length-drop, take_all}
use Rattle.std.proofs.lemmas.List.Splits.{slice_split_first}
use Rattle.std.proofs.lemmas.List.Sums.{position_or_len_is}
use Rattle.ynl_resource.proofs.Bytes.{slice_split-Lacks}
use Rattle.std.proofs.lemmas.Bool.Decides.{nat_tests}
use Rattle.ynl_states.proofs.lines.first_line.Goals as goal

pub returns-in-Some-clause-lines : goal.returns-in-Some-clause-lines
returns-in-Some-clause-lines c =
    let first : position_or_len (λ (b : ℕ). b == 10) c.args.text.now ≡ c.in-Some.at =
    position_or_len_is (λ (b : ℕ). b == 10) c.args.text.now c.in-Some.at 0 (let within = c.in-Some.ensures.0.high in omega (arith, within))
    (λ k before. let apart : slice_index_or c.args.text.now k 0 ≢ 10 = λ is. c.in-Some.ensures.0.before k (omega arith) before (grind (arith, nat_tests, is)) in grind (arith, nat_tests, apart)) (λ within. c.in-Some.ensures.1)
    in
    let inside : position_or_len (λ (b : ℕ). b == 10) c.args.text.now < length c.args.text.now = let within = c.in-Some.ensures.0.high in omega (arith, first, within) in
    let rest = length-drop (c.in-Some.at + 1) c.args.text.now in
    slice_split_first (λ (b : ℕ). b == 10) c.args.text.now 0 inside
    ∙ (λ i. take (first i) c.args.text.now ∷ slice_split (λ (b : ℕ). b == 10) (drop (first i + 1) c.args.text.now))
    ∙ ap (λ (text : List ℕ). take c.in-Some.at c.args.text.now ∷ slice_split (λ (b : ℕ). b == 10) text) (sym (take_all (length c.args.text.now - (c.in-Some.at + 1)) (drop (c.in-Some.at + 1) c.args.text.now) (omega (arith, rest))))

pub returns-in-None-clause-lines : goal.returns-in-None-clause-lines
returns-in-None-clause-lines c = slice_split-Lacks 10 c.args.text.now (λ k within is. c.in-None.ensures k (omega arith) within (grind (arith, nat_tests, is)))
