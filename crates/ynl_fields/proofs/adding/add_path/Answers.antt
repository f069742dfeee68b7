use Rattle.std.proofs.Common.{◌≡◌, ◌+◌, ◌<◌, ◌∷◌, ◌++◌, [], suc, length, refl, arith, sym, ap, subst, ◌∙◌, take, drop, drop-cons, codes}
use Rattle.std.proofs.lemmas.Bool.{and_from}
use Rattle.std.proofs.lemmas.List.{take-append-drop, take_more, take_all}
use Rattle.std.proofs.lemmas.List.Folds.{list_all-append}
use Rattle.std.specs.List.{list_all, join_with_byte}
use Rattle.json.specs.Print.{escape, escape_byte}
use Rattle.ynl_resource.specs.Texts.{path_text}
use Rattle.ynl_resource.specs.NameText.{is_name}
use Rattle.ynl_fields.proofs.Pieces.{Lacks, longer_by, on_any, path_added, path_lacks_name, path_lacks_root}
use Rattle.ynl_fields.proofs.adding.add_path.Given.{Over}
use Rattle.ynl_fields.proofs.adding.add_path.Goals as goal

pub loop-name-init : goal.loop-name-init
unfolding escape_byte
loop-name-init g c = record { added = λ old is. is; capacity = c.add_text.ensures.capacity; sound = refl }

pub loop-name-preserved : goal.loop-name-preserved
loop-name-preserved g c =
    let names = c.names-name-items.result.now in
    let i = c.loop-name.name-index in
    let x = c.name-item.result in
    let more : take (i + 1) names ≡ take i names ++ x ∷ [] = take_more names i x (omega arith) ∙ ap (λ y. take i names ++ y ∷ []) (sym c.name-item.is) in
    record {
      added = λ old is. path_added c.args.front.now (take i names) (take (i + 1) names) x old _ _ more (c.loop-name.invariant.added old is) c.in_ok-add_name.ensures.added;
      capacity = omega (arith, c.loop-name.invariant.capacity, c.add_name.ensures.capacity);
      sound =
          ap (list_all is_name) more ∙ list_all-append is_name (take i names) (x ∷ [])
          ∙ and_from _ _ c.loop-name.invariant.sound (and_from _ _ c.in_ok-add_name.ensures.sound refl);
    }

all : (g : Over) (c : goal.After-loop-name g) → take c.loop-name.name-index c.names-name-items.result.now ≡ c.args.path.now
all g c = take_all c.loop-name.name-index c.names-name-items.result.now (omega (arith, c.loop-name-test.false)) ∙ c.names-name-items.ensures.names

pub returns-clause-added : goal.returns-clause-added
unfolding path_text escape_byte
returns-clause-added g c =
    c.loop-name.invariant.added c.args.text.now.items c.in_ok-add_text.ensures.added ∙ ap (λ names. c.args.text.now.items ++ (c.args.front.now ++ escape (join_with_byte 46 (codes "root" ∷ names)))) (all g c)

pub returns-clause-len : goal.returns-clause-len
returns-clause-len g c = longer_by c.args.text.now c.loop-name.text (c.args.front.now ++ escape (path_text c.args.path.now)) (returns-clause-added g c)

pub returns-clause-sound : goal.returns-clause-sound
returns-clause-sound g c = (c.names-name-items.ensures.depth, sym (ap (list_all is_name) (all g c)) ∙ c.loop-name.invariant.sound)

pub returns-clause-capacity : goal.returns-clause-capacity
returns-clause-capacity g c = c.loop-name.invariant.capacity

pub returns-in_err-add_name-clause-capacity : goal.returns-in_err-add_name-clause-capacity
returns-in_err-add_name-clause-capacity g c = omega (arith, c.loop-name.invariant.capacity, c.add_name.ensures.capacity)

pub returns-in_err-add_text-clause-full : goal.returns-in_err-add_text-clause-full
unfolding path_text escape_byte
returns-in_err-add_text-clause-full g c = on_any c.from_residual.result (path_lacks_root c.args.text.now c.args.front.now c.args.path.now c.in_err-add_text.ensures.full)

pub returns-in_err-add_name-clause-full : goal.returns-in_err-add_name-clause-full
unfolding path_text escape_byte
returns-in_err-add_name-clause-full g c =
    let names = c.names-name-items.result.now in
    let i = c.loop-name.name-index in
    let front = c.args.front.now in
    let name = c.name-item.result in
    let here : i < length names = omega arith in
    let parts : names ≡ take i names ++ name ∷ drop (suc i) names =
    sym (take-append-drop i names) ∙ ap (λ ns. take i names ++ ns) (drop-cons names i name here ∙ ap (λ n. n ∷ drop (suc i) names) (sym c.name-item.is)) in
    on_any c.from_residual-in_err-add_name.result
    (subst (λ ns. Lacks c.args.text.now (front ++ escape (join_with_byte 46 (codes "root" ∷ ns)))) (sym parts ∙ c.names-name-items.ensures.names)
    (path_lacks_name c.args.text.now c.loop-name.text front (take i names) (drop (suc i) names) name c.loop-name.invariant.capacity
    (c.loop-name.invariant.added c.args.text.now.items c.in_ok-add_text.ensures.added) c.in_err-add_name.ensures.full))
