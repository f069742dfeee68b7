-- The asks of an application differ: that stays where one less is asked for and where an ask is set.
use Rattle.std.proofs.Common.{◌≡◌, ◌-◌, Bool, true, false, cond, not, ◌&&◌, ◌==◌, List, [], ◌∷◌, refl, sym, subst, ◌∙◌}
use Rattle.std.specs.Prelude.{⊤}
use Rattle.std.proofs.lemmas.Bool.{and_parts}
use Rattle.ynl_resource.specs.Names.{same_label}
use Rattle.ynl_resource.specs.Tables.{put, without}
use Rattle.ynl_model.specs.Applications.{Application, is_ask_of, set_ask}
use Rattle.ynl_model.specs.Changes.{taken}
use Rattle.ynl_model.specs.declared.applications.AskRow.{AskRow}
use Rattle.ynl_model.specs.declared.events.Event.TheVariants.{Ask}
use Rattle.ynl_model.specs.declared.events.Event.{Event}
use Rattle.ynl_model.specs.declared.proposals.What.TheVariants.{Master, Ask as Asked}
use Rattle.ynl_model.specs.declared.proposals.What.{What}
use Rattle.ynl_laws.specs.Untied.{Differs, Distinct}
use Rattle.ynl_laws.specs.Working.{Pairs}
use Rattle.ynl_laws.proofs.Lists.{Each-put, Each-weaker, Pairs-filter, Pairs-map}
use Rattle.ynl_laws.proofs.Names.{same-label_path}
use Rattle.ynl_saved.specs.Asks.{OfAsk}
use Rattle.ynl_saved.proofs.Asking.{StaysAsking}
use Rattle.ynl_saved.proofs.Served.{same-number}

-- a row that is put in the place of another is related to the rest as that was
pairs-put : {X : Type 0} (R : X → X → Type 0) (test : X → Bool) (new : X) → ((x y : X) → test x ≡ true → R x y → R new y) → ((x : X) → test x ≡ false → R x new) → (xs : List X) → Pairs R xs →
    Pairs R (put test new xs)
pairs-put R test new same other [] h = (tt, tt)
pairs-put {X} R test new same other (x ∷ xs) h = go (test x) refl (pairs-put R test new same other xs h.1)
  where
    go : (b : Bool) → test x ≡ b → Pairs R (put test new xs) → Pairs R (cond b (new ∷ xs) (x ∷ put test new xs))
    go true e rest = (Each-weaker (R x) (R new) (λ y k. same x y e k) xs h.0, h.1)
    go false e rest = (Each-put (R x) test new (other x e) xs h.0, rest)

-- they still differ
pub distinct-stays : StaysAsking Distinct (λ (ask : AskRow). ⊤)
distinct-stays = record { comes = λ app none. subst (Pairs Differs) (sym none) tt; takes = takes; asks = asks }
  where
    takes : (what : What) (app : Application) → Distinct app → Distinct (taken what app)
    takes Master app h = h
    takes (Asked label priority) app h = Pairs-filter Differs _ _ (Pairs-map Differs _ (λ a b off. go (is_ask_of label priority a) (is_ask_of label priority b) a b off) app.asks h)
      where
        go : (x y : Bool) (a b : AskRow) → Differs a b → Differs (cond x (record a { count = a.count - 1 }) a) (cond y (record b { count = b.count - 1 }) b)
        go true true a b off = off
        go true false a b off = off
        go false true a b off = off
        go false false a b off = off

    asks : (ask : AskRow) (app : Application) → ⊤ → Distinct app → Distinct (set_ask ask app)
    asks ask app any h = go (ask.count == 0)
      where
        same : (a b : AskRow) → is_ask_of ask.label ask.priority a ≡ true → Differs a b → Differs ask b
        same a b e off =
            let both = and_parts (same_label a.label ask.label) _ e in
            (λ i. same_label (sym (same-label_path a.label ask.label both.0) i) b.label && (sym (same-number a.priority ask.priority both.1) i == b.priority)) ∙ off

        go : (b : Bool) → Pairs Differs (cond b (without (is_ask_of ask.label ask.priority) app.asks) (put (is_ask_of ask.label ask.priority) ask app.asks))
        go true = Pairs-filter Differs (λ other. not (is_ask_of ask.label ask.priority other)) app.asks h
        go false = pairs-put Differs (is_ask_of ask.label ask.priority) ask same (λ a e. e) app.asks h

-- nothing is asked of what an event sets
pub any-ask : (event : Event) → OfAsk (λ (ask : AskRow). ⊤) event
any-ask (Ask tenant app label priority count size) = tt
any-ask _ = tt
