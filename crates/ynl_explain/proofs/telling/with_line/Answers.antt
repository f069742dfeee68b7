use Rattle.std.proofs.Common.{◌≡◌, List, ℕ, [], ◌∷◌, ◌++◌, ap, ◌∙◌, append_assoc}
use Rattle.json.specs.Print.{print}
use Rattle.json.specs.Token.{Token, begin_object, end_object}
use Rattle.ynl_explain.specs.Told.{inside_tokens, wait_data}
use Rattle.serde_json.specs.Written.{compact_text}
use Rattle.ynl_explain.proofs.Printed.{wait-printed}
use Rattle.ynl_explain.proofs.telling.with_line.Goals as goal

pub returns : goal.returns
returns c =
    let wait = c.args.wait.now in
    let tenant = c.args.tenant.now in
    let app = c.args.app.now in
    let all : List Token = begin_object ∷ (inside_tokens wait.request.what tenant app wait ++ end_object ∷ []) in
    let before = c.put_wait.ensures.before ∙ c.new-line.ensures.before in
    let tokens : c.put_wait.new.line.tokens ≡ all = c.in_ok-put_wait.ensures.tokens ∙ ap (λ (ts : List Token). ts ++ all) c.new-line.ensures.tokens in
    c.in_ok-push.ensures.items
    ∙ ap (λ (bytes : List ℕ). bytes ++ 10 ∷ [])
    (c.into_inner-longer.ensures.items ∙ ap (λ (bytes : List ℕ). bytes ++ print c.put_wait.new.line.tokens) before ∙ ap (λ (ts : List Token). c.args.text.items ++ print ts) tokens
    ∙ ap (λ (bytes : List ℕ). c.args.text.items ++ bytes) (wait-printed tenant app wait))
    ∙ append_assoc c.args.text.items (compact_text (wait_data tenant app wait)) (10 ∷ [])
