use Rattle.std.proofs.Common.{◌≡◌, ◌+◌, ◌∷◌, ◌++◌, [], refl, true, arith, sym, ap, ◌∙◌, take, codes}
use Rattle.std.proofs.lemmas.Bool.{and_from}
use Rattle.std.proofs.lemmas.List.{take_more, take_all}
use Rattle.std.proofs.lemmas.List.Folds.{list_all-append}
use Rattle.std.specs.List.{list_all, join_with_byte}
use Rattle.ynl_resource.specs.Texts.{path_text, read_path}
use Rattle.ynl_resource.specs.NameText.{is_name}
use Rattle.ynl_resource.proofs.PathTexts.{join_push, reads_path}
use Rattle.ynl_resource.proofs.paths.Path.text.Goals as goal

pub loop-name-preserved : goal.loop-name-preserved
loop-name-preserved c =
    let names = c.names-name-items.result.now in
    let i = c.loop-name.name-index in
    let x = c.name-item.result in
    let more : take (i + 1) names ≡ take i names ++ x ∷ [] = take_more names i x (omega arith) ∙ ap (λ y. take i names ++ y ∷ []) (sym c.name-item.is) in
    record {
      text =
          c.in_ok-push_name.ensures.text
          ∙ ap (λ l. l ++ (46 ∷ x)) c.loop-name.invariant.text
          ∙ sym (ap (λ l. join_with_byte 46 (codes "root" ∷ l)) more ∙ join_push 46 (codes "root") (take i names) x);
      names =
          ap (list_all is_name) more ∙ list_all-append is_name (take i names) (x ∷ [])
          ∙ and_from _ _ c.loop-name.invariant.names (and_from _ _ c.in_ok-push_name.ensures.name refl);
    }

all : (c : goal.After-loop-name) → take c.loop-name.name-index c.names-name-items.result.now ≡ c.args.self.now
all c = take_all c.loop-name.name-index c.names-name-items.result.now (omega (arith, c.loop-name-test.false)) ∙ c.names-name-items.ensures.names

pub returns-clause-text : goal.returns-clause-text
unfolding path_text
returns-clause-text c = c.loop-name.invariant.text ∙ ap (λ names. join_with_byte 46 (codes "root" ∷ names)) (all c)

pub returns-clause-reads : goal.returns-clause-reads
returns-clause-reads c =
    let path = c.args.self.now in
    let names : list_all is_name path ≡ true = sym (ap (list_all is_name) (all c)) ∙ c.loop-name.invariant.names in
    ap read_path (c.loop-name.invariant.text ∙ ap (λ names. join_with_byte 46 (codes "root" ∷ names)) (all c)) ∙ reads_path path c.names-name-items.ensures.depth names
