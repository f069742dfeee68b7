use Rattle.std.proofs.Common.{◌≡◌, ◌+◌, ◌-◌, [], ◌∷◌, ◌++◌, take, Bool, true, false, cond, Some, sym, ap, ◌∙◌, arith}
use Rattle.std.proofs.lemmas.List.{take_more}
use Rattle.std.specs.Str.{bytes_eq}
use Rattle.json.specs.Find.{get_member}
use Rattle.json.specs.Value.{value_view, members_view}
use Rattle.json.proofs.Trees.{get_member-push}
use Rattle.ynl_fields.proofs.trees.find.Goals as goal

pub returns-then-is_same_key : goal.returns-then-is_same_key
returns-then-is_same_key c =
    let xs = c.args.members.now in
    let i = c.loop-left.left - 1 in
    let m = c.index-members-left.result in
    let name = c.args.key.now in
    let next : c.loop-left.left ≡ i + 1 = omega arith in
    let front : take c.loop-left.left xs ≡ take i xs ++ m ∷ [] = ap (λ k. take k xs) next ∙ take_more xs i m (omega arith) ∙ ap (λ y. take i xs ++ y ∷ []) (sym c.index-members-left.is) in
    let step = c.loop-left.invariant.0 ∙ ap (λ ys. get_member name (members_view ys)) front ∙ get_member-push name (take i xs) m in
    let pick = λ (b : Bool). cond b (Some (value_view m.1)) (get_member name (members_view (take i xs))) in
    let same : bytes_eq m.0.now name ≡ true = grind arith in
    sym (step ∙ ap pick same)

pub loop-left-preserved : goal.loop-left-preserved
loop-left-preserved c =
    let xs = c.args.members.now in
    let i = c.loop-left.left - 1 in
    let m = c.index-members-left.result in
    let name = c.args.key.now in
    let next : c.loop-left.left ≡ i + 1 = omega arith in
    let front : take c.loop-left.left xs ≡ take i xs ++ m ∷ [] = ap (λ k. take k xs) next ∙ take_more xs i m (omega arith) ∙ ap (λ y. take i xs ++ y ∷ []) (sym c.index-members-left.is) in
    let step = c.loop-left.invariant.0 ∙ ap (λ ys. get_member name (members_view ys)) front ∙ get_member-push name (take i xs) m in
    let pick = λ (b : Bool). cond b (Some (value_view m.1)) (get_member name (members_view (take i xs))) in
    let other : bytes_eq m.0.now name ≡ false = grind arith in
    (step ∙ ap pick other, omega arith)
