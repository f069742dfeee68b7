use Rattle.std.proofs.Common.{◌≡◌, ℕ, ◌+◌, ◌<◌, Bool, true, false, cond, List, [], ◌∷◌, ◌++◌, length, get_or, take, map, filter, arith, append-nil, sym, ap, ◌∙◌}
use Rattle.std.proofs.lemmas.List.{map-append}
use Rattle.std.proofs.lemmas.List.Elements.{filter-append, filter_more}
use Rattle.ynl_model.specs.Check.{comes_as_guest}
use Rattle.ynl_waits.specs.Grounds.{ground, has_nodes}
use Rattle.ynl_service.proofs.reading.reasons.grounds.guests_among.Goals.{then-comes_as_guest+in_ok-there+then-has_nodes, then-comes_as_guest+in_ok-there+else-has_nodes, else-comes_as_guest}
use Rattle.ynl_service.proofs.reading.reasons.grounds.guests_among.Goals as goal

-- what comes of one more label, by whether it passes and what is made of it does
one_more : {X Y : Type 0} (p : X → Bool) (f : X → Y) (q : Y → Bool) (xs : List X) (i : ℕ) (x : X) (old new : List Y) → i < length xs → x ≡ get_or xs i x → old ≡ filter q (map f (filter p (take i xs))) →
    (b : Bool) → p x ≡ b → new ≡ old ++ filter q (map f (cond b (x ∷ []) [])) → new ≡ filter q (map f (filter p (take (i + 1) xs)))
one_more p f q xs i x old new lt is before b test now =
    now ∙ ap (λ t. t ++ filter q (map f (cond b (x ∷ []) []))) before ∙ ap (λ c. filter q (map f (filter p (take i xs))) ++ filter q (map f (cond c (x ∷ []) []))) (sym test)
    ∙ sym (ap (filter q) (map-append f (filter p (take i xs)) (cond (p x) (x ∷ []) [])) ∙ filter-append q (map f (filter p (take i xs))) (map f (cond (p x) (x ∷ []) [])))
    ∙ ap (λ t. filter q (map f t)) (sym (filter_more p xs i x lt ∙ ap (λ y. filter p (take i xs) ++ cond (p y) (y ∷ []) []) (sym is)))

made : {Y : Type 0} (q : Y → Bool) (old new : List Y) (y z : Y) → y ≡ z → (b : Bool) → q y ≡ b → new ≡ old ++ cond b (y ∷ []) [] → new ≡ old ++ filter q (z ∷ [])
made q old new y z same b test now = now ∙ ap (λ c. old ++ cond c (y ∷ []) []) (sym test) ∙ ap (λ t. old ++ filter q (t ∷ [])) same

pub loop-label-preserved : goal.loop-label-preserved
loop-label-preserved g c =
    let config = g.F.Facts.config c.args.facts.now in
    let s = g.F.Facts.state c.args.facts.now in
    let old = c.loop-label.guests.items in
    let new = c.if-comes_as_guest.guests.items in
    let turn = one_more (λ label. comes_as_guest config label c.args.what.now) (ground config s) has_nodes c.args.labels.now c.loop-label.label-index c.label-item.result old new c.loop-label-test.true c.label-item.is c.loop-label.invariant.so_far in
    elim c.if-comes_as_guest.branch [
      | then-comes_as_guest+in_ok-there+then-has_nodes w ↦ record {
        so_far = turn true (sym c.comes_as_guest.ensures ∙ w.if-comes_as_guest.true)
            (made has_nodes old new _ _ w.in_ok-there.ensures true (sym w.has_nodes.ensures ∙ w.if-has_nodes.true) (ap (λ v. v.items) w.guests-is ∙ w.push_reserved.ensures.items));
        capacity = rw w.guests-is (omega arith);
      }
      | then-comes_as_guest+in_ok-there+else-has_nodes w ↦ record {
        so_far = turn true (sym c.comes_as_guest.ensures ∙ w.if-comes_as_guest.true)
            (made has_nodes old new _ _ w.in_ok-there.ensures false (sym w.has_nodes.ensures ∙ w.if-has_nodes.false) (ap (λ v. v.items) w.guests-is ∙ sym (append-nil old)));
        capacity = rw w.guests-is (omega arith);
      }
      | else-comes_as_guest w ↦ record {
        so_far = turn false (sym c.comes_as_guest.ensures ∙ w.if-comes_as_guest.false) (ap (λ v. v.items) w.guests-is ∙ sym (append-nil old));
        capacity = rw w.guests-is (omega arith);
      }
    ]
