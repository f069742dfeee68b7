use Rattle.std.proofs.Common.{◌≡◌, List, [], ◌∷◌, ◌++◌, Option, IfOk, codes, subst}
use Rattle.json.specs.Token.{Token}
use Rattle.ynl_check.specs.Objects.{braced, tokens_in}
use Rattle.ynl_check.specs.Tree.{numbers_line}
use Rattle.ynl_check.proofs.shares.put_numbers.Goals as goal

-- the tokens of the line, by what stands under its keys
tokens : (a b c d e f g h i j k l : Option Token) → List Token
tokens a b c d e f g h i j k l = tokens_in (
    (codes "applications", a) ∷ (codes "capacity", b) ∷ (codes "default", c) ∷ (codes "factor", d) ∷ (codes "label", e) ∷ (codes "masters", f)
    ∷ (codes "maximum", g) ∷ (codes "most", h) ∷ (codes "queue", i) ∷ (codes "share", j) ∷ (codes "state", k) ∷ (codes "users", l) ∷ [])

same : {a a' b b' c c' d d' e e' f f' g g' h h' i i' j j' k k' l l' : Option Token}
    → a ≡ a' → b ≡ b' → c ≡ c' → d ≡ d' → e ≡ e' → f ≡ f' → g ≡ g' → h ≡ h' → i ≡ i' → j ≡ j' → k ≡ k' → l ≡ l' → tokens a b c d e f g h i j k l ≡ tokens a' b' c' d' e' f' g' h' i' j' k' l'
same p1 p2 p3 p4 p5 p6 p7 p8 p9 p10 p11 p12 = cc

pub returns : goal.returns
unfolding tokens numbers_line
returns c =
    subst (λ ts. IfOk c.put_object.result (λ longer. longer.items ≡ c.args.line.items ++ braced ts))
    (same c.number_if.ensures c.number.ensures c.text_if.ensures c.number_if-2.ensures c.text.ensures c.number_if-3.ensures c.number-2.ensures c.number-3.ensures c.text-2.ensures c.number-4.ensures
    c.text-3.ensures c.number_if-4.ensures)
    c.put_object.ensures
