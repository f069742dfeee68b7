use Rattle.std.proofs.Common.{◌≡◌, ◌∷◌, ◌++◌, [], List, ℕ, ap, ◌∙◌, append-nil}
use Rattle.json.specs.Print.{print, print_from, token_text}
use Rattle.json.specs.Token.{Token}
use Rattle.ynl_check.specs.Objects.{token_of}
use Rattle.ynl_check.proofs.objects.put_alone.Goals as goal

-- a single token is printed as it is
printed : (t : Token) → print (t ∷ []) ≡ token_text t
unfolding print_from
printed t = append-nil (token_text t)

pub returns : goal.returns
returns c =
    let before = c.in_ok-put_content.ensures.before ∙ c.new-line.ensures.before in
    let tokens = c.in_ok-put_content.ensures.tokens ∙ ap (λ (ts : List Token). ts ++ token_of c.args.content.now ∷ []) c.new-line.ensures.tokens in
    c.into_inner.ensures.items ∙ ap (λ (s : List ℕ). s ++ print c.put_content.new.line.tokens) before ∙ ap (λ ts. c.args.text.items ++ print ts) tokens ∙ ap (λ (s : List ℕ). c.args.text.items ++ s) (printed _)
