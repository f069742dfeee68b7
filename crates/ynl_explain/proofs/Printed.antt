-- Tokens that are written one after another are those of the value.
use Rattle.std.proofs.Common.{◌≡◌, List, [], ◌∷◌, ◌++◌, map, refl, ap, ◌∙◌, append_assoc, codes}
use Rattle.std.specs.List.{flat_map}
use Rattle.json.specs.Print.{print}
use Rattle.json.specs.Token.{Token, begin_array, begin_object, end_array, end_object, key}
use Rattle.json.specs.Tree.{items_tokens}
use Rattle.serde_json.specs.View.{items_of}
use Rattle.serde_json.specs.Written.{items_outline, compact_text}
use Rattle.serde_json.proofs.Texts.{print-outline}
use Rattle.ynl_resource.specs.declared.names.Name.{Name}
use Rattle.ynl_model.specs.declared.proposals.What.{What}
use Rattle.ynl_model.specs.declared.proposals.What.TheVariants.{Master, Ask}
use Rattle.ynl_waits.specs.declared.waits.Reason.{Reason}
use Rattle.ynl_waits.specs.declared.waits.Wait.{Wait}
use Rattle.ynl_explain.specs.Objects.{tokens_of}
use Rattle.ynl_explain.specs.Told.{back, front, inside_tokens, reason_data, reasons_data, reasons_tokens, wait_by, wait_data}

-- the tokens of reasons, with the bracket behind them
listed : (reasons : List Reason) → flat_map (λ reason. tokens_of (reason_data reason)) reasons ++ end_array ∷ [] ≡ items_tokens (items_outline (items_of (map reason_data reasons)))
listed [] = refl
listed (reason ∷ reasons) =
    append_assoc (tokens_of (reason_data reason)) (flat_map (λ reason. tokens_of (reason_data reason)) reasons) (end_array ∷ [])
    ∙ ap (λ (ts : List Token). tokens_of (reason_data reason) ++ ts) (listed reasons)

-- with others behind them
behind : (reasons : List Reason) (more : List Token) → reasons_tokens reasons ++ more ≡ key (codes "reasons") ∷ tokens_of (reasons_data reasons) ++ more
behind reasons more = ap (λ (ts : List Token). key (codes "reasons") ∷ begin_array ∷ (ts ++ more)) (listed reasons)

-- the tokens of a request
inside : (what : What) (tenant app : Name) (wait : Wait) → begin_object ∷ (inside_tokens what tenant app wait ++ end_object ∷ []) ≡ tokens_of (wait_by what tenant app wait)
inside Master tenant app wait =
    ap (λ (ts : List Token). begin_object ∷ (front Master app wait.request ++ ts))
    (append_assoc (reasons_tokens wait.reasons) (back tenant wait (codes "master")) (end_object ∷ []) ∙ behind wait.reasons (back tenant wait (codes "master") ++ end_object ∷ []))
inside (Ask label priority) tenant app wait =
    ap (λ (ts : List Token). begin_object ∷ (front (Ask label priority) app wait.request ++ ts))
    (append_assoc (reasons_tokens wait.reasons) (back tenant wait (codes "ask")) (end_object ∷ []) ∙ behind wait.reasons (back tenant wait (codes "ask") ++ end_object ∷ []))

-- what is printed of them
pub wait-printed : (tenant app : Name) (wait : Wait) → print (begin_object ∷ (inside_tokens wait.request.what tenant app wait ++ end_object ∷ [])) ≡ compact_text (wait_data tenant app wait)
wait-printed tenant app wait = ap print (inside wait.request.what tenant app wait) ∙ print-outline (wait_data tenant app wait)
