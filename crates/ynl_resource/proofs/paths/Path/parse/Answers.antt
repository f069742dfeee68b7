use Rattle.std.proofs.Common.{◌≡◌, ◌<◌, ◌≤◌, ◌∷◌, ◌++◌, [], length, refl, arith, sym, ap, ◌∙◌, take, codes, length-take-le}
use Rattle.std.proofs.lemmas.Bool.{not-true, not-false, true≢false, and_from}
use Rattle.std.proofs.lemmas.List.{append_assoc, take_more_set}
use Rattle.std.proofs.lemmas.List.Folds.{list_all-append}
use Rattle.std.specs.List.{list_all, slice_split}
use Rattle.std.specs.Option.{option_map_or}
use Rattle.ynl_resource.specs.NameText.{is_name}
use Rattle.ynl_resource.specs.Texts.{is_dot}
use Rattle.ynl_resource.specs.PathFields.{filler}
use Rattle.ynl_resource.proofs.IdTexts.{name_read, name_unread}
use Rattle.ynl_resource.proofs.PathTexts.{too_deep, parts_few, other_root, bad_part, place_more, same_text, room}
use Rattle.ynl_resource.proofs.paths.Path.parse.Goals as goal

pub returns-then-dots-gt7 : goal.returns-then-dots-gt7
returns-then-dots-gt7 c = sym (too_deep c.args.text.now (omega (arith, c.dots.ensures)))

pub returns-then-ne : goal.returns-then-ne
returns-then-ne c =
    let few : length (slice_split is_dot c.args.text.now) ≤ 8 = parts_few c.args.text.now (omega (arith, c.dots.ensures)) in
    sym (other_root c.args.text.now c.cut.result.0.now _ c.cut.ensures.split few (not-true _ (sym c.if-ne.ensures)))

pub returns-in_default : goal.returns-in_default
returns-in_default c =
    let first = c.cut.result.0.now in
    let root : first ≡ codes "root" = same_text first (codes "root") (not-false _ (sym c.if-ne.ensures)) in
    let other = name_unread first c.in_default.field-0 (sym c.in_default.ensures) in
    absurd (true≢false (ap is_name (sym root) ∙ other))

pub parts-init : goal.parts-init
parts-init c =
    let first = c.cut.result.0.now in
    let same : first ≡ codes "root" = same_text first (codes "root") (not-false _ (sym c.if-ne.ensures)) in
    let root : c.in-Ok.root ≡ filler = (name_read first c.in-Ok.root (sym c.in-Ok.ensures)).0 ∙ same in
    record {
      parts = c.cut.ensures.split ∙ ap (λ x. x ∷ option_map_or (λ rest. slice_split is_dot rest.now) c.cut.result.1 []) same;
      names = refl;
      kept = rw root (record { whole = refl; within = omega arith; rest = refl });
      few = parts_few c.args.text.now (omega (arith, c.dots.ensures));
    }

pub returns-in_default-parse : goal.returns-in_default-parse
returns-in_default-parse c =
    let l = c.parts in
    let t = c.args.text.now in
    let part = c.cut-in-Some.result.0.now in
    let rest = option_map_or (λ rest. slice_split is_dot rest.now) c.cut-in-Some.result.1 [] in
    let parts : slice_split is_dot t ≡ codes "root" ∷ (take l.len l.names ++ part ∷ rest) = (rw c.in-Some.is at l.invariant.parts) ∙ ap (λ ps. codes "root" ∷ (take l.len l.names ++ ps)) c.cut-in-Some.ensures.split in
    sym (bad_part t part (take l.len l.names) rest parts l.invariant.few (name_unread part c.in_default-parse.field-0 (sym c.in_default-parse.ensures)))

pub parts-preserved : goal.parts-preserved
parts-preserved c =
    let l = c.parts in
    let t = c.args.text.now in
    let part = c.cut-in-Some.result.0.now in
    let name = c.in-Ok-parse.name in
    let rest = option_map_or (λ rest. slice_split is_dot rest.now) c.cut-in-Some.result.1 [] in
    let read = name_read part name (sym c.in-Ok-parse.ensures) in
    let parts : slice_split is_dot t ≡ codes "root" ∷ (take l.len l.names ++ name ∷ rest) = (rw c.in-Some.is at l.invariant.parts) ∙ ap (λ ps. codes "root" ∷ (take l.len l.names ++ ps)) c.cut-in-Some.ensures.split ∙ ap (λ x. codes "root" ∷ (take l.len l.names ++ x ∷ rest)) (sym read.0) in
    let fits : length (take l.len l.names) < 7 = room t name (take l.len l.names) rest parts l.invariant.few in
    let len : l.len < 7 = omega (arith, length-take-le l.len l.names (omega (arith, l.invariant.kept.within, l.invariant.kept.whole)), fits) in
    let more = take_more_set l.names l.len name (omega (arith, l.invariant.kept.whole, len)) in
    record {
      parts = parts ∙ ap (λ ps. codes "root" ∷ ps) (sym (ap (λ ps. ps ++ rest) more ∙ append_assoc (take l.len l.names) (name ∷ []) rest));
      names = ap (list_all is_name) more ∙ list_all-append is_name (take l.len l.names) (name ∷ []) ∙ and_from _ _ l.invariant.names (and_from _ _ (ap is_name read.0 ∙ read.1) refl);
      kept = place_more l.names l.len name len l.invariant.kept;
      few = l.invariant.few;
    }
