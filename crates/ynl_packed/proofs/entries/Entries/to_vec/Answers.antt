use Rattle.std.proofs.Common.{◌≡◌, ◌<◌, ◌++◌, ◌∷◌, [], List, length, take, sym, ap, ◌∙◌, arith}
use Rattle.std.proofs.lemmas.List.{take_more, take_all}
use Rattle.ynl_model.specs.declared.entries.Entry.{Entry}
use Rattle.ynl_packed.proofs.entries.Entries.to_vec.Goals as goal

pub loop-i-preserved : goal.loop-i-preserved
loop-i-preserved c =
    let all : List Entry = c.args.self.now in
    let i = c.loop-i.i in
    let entry : Entry = c.in_ok-entry.entry in
    let inside : i < length all = omega (arith, c.loop-i-test.true, c.len-i-end.ensures.value) in
    c.in_ok-push.ensures.items ∙ ap (λ (es : List Entry). es ++ entry ∷ []) c.loop-i.invariant
    ∙ sym (take_more all i entry inside ∙ ap (λ (x : Entry). take i all ++ x ∷ []) (sym (c.in_ok-entry.ensures entry)))

pub returns : goal.returns
returns c = c.loop-i.invariant ∙ take_all c.loop-i.i c.args.self.now (omega (arith, c.loop-i-test.false, c.len-i-end.ensures.value))
