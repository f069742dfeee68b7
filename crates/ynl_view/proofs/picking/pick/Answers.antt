use Rattle.std.proofs.Common.{◌≡◌, ℕ, ◌+◌, ◌<◌, List, [], ◌∷◌, ◌++◌, Option, Some, length, get_or, take, map, refl, sym, ap, ◌∙◌}
use Rattle.std.specs.List.{slice_get}
use Rattle.std.proofs.lemmas.List.{take_more, map_push}
use Rattle.std.proofs.lemmas.List.Elements.{All-get_or}
use Rattle.std.proofs.lemmas.Option.{slice_get_read}
use Rattle.ynl_core.specs.declared.runs.Answer.{Answer}
use Rattle.ynl_model.specs.View.{at_places}
use Rattle.ynl_view.proofs.picking.pick.Goals as goal

-- what stands at one more place
places_more : {X : Type 0} (xs : List X) (places : List ℕ) (i : ℕ) (x : X) → i < length places → get_or places i 0 < length xs → x ≡ get_or xs (get_or places i 0) x
    → at_places xs (take (i + 1) places) ≡ at_places xs (take i places) ++ Some x ∷ []
places_more xs places i x inside within is =
    ap (at_places xs) (take_more places i 0 inside) ∙ map_push (slice_get xs) (take i places) (get_or places i 0)
    ∙ ap (λ found. at_places xs (take i places) ++ found ∷ []) (slice_get_read xs (length xs) (get_or places i 0) x refl within is)

pub loop-place-preserved : goal.loop-place-preserved
loop-place-preserved c =
    let answers : List Answer = c.args.answers.now in
    let places : List ℕ = c.args.places.now in
    let i = c.loop-place.place-index in
    let so_far : List (Option Answer) = at_places answers (take i places) in
    let within : get_or places i 0 < length answers = All-get_or (λ (place : ℕ). place < length answers) places i 0 c.loop-place-test.true c.requires in
    ap (map (λ answer. Some answer)) c.in_ok-push.ensures.items
    ∙ map_push (λ answer. Some answer) c.loop-place.picked.items c.in_ok-answer.answer
    ∙ ap (λ picked. picked ++ Some c.in_ok-answer.answer ∷ []) c.loop-place.invariant
    ∙ ap (λ answer. so_far ++ Some answer ∷ []) c.in_ok-answer.ensures
    ∙ sym (places_more answers places i c.index-answers-place.result c.loop-place-test.true within c.index-answers-place.is)
