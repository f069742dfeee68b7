use Rattle.std.proofs.Common.{◌≡◌, ℕ, ◌*◌, ◌/◌, ◌<◌, length, sym, ap, ◌∙◌, arith}
use Rattle.ynl_resource.specs.declared.paths.Path.{Path}
use Rattle.ynl_resource.specs.Ranges.{whole}
use Rattle.ynl_model.specs.Queues.{QueueRow, capacity_on, configured_maximum}
use Rattle.ynl_check.specs.declared.shares.Numbers.{Numbers}
use Rattle.ynl_check.specs.declared.shares.Portion.{Portion}
use Rattle.ynl_check.specs.Tree.{numbers}
use Rattle.ynl_check.proofs.Portions.{share_below, most_below}
use Rattle.ynl_check.proofs.shares.numbers_of.Goals as goal

with : (a b c d e f g h : ℕ) → Numbers
with a b c d e f g h = record { capacity = a; maximum = b; share = c; most = d; applications = e; factor = f; masters = g; users = h }

same : {a a' b b' c c' d d' e e' f f' g g' h h' : ℕ} → a ≡ a' → b ≡ b' → c ≡ c' → d ≡ d' → e ≡ e' → f ≡ f' → g ≡ g' → h ≡ h' → with a b c d e f g h ≡ with a' b' c' d' e' f' g' h'
same p1 p2 p3 p4 p5 p6 p7 p8 = cc

parts : {a a' b b' : ℕ} → a ≡ a' → b ≡ b' → a * b / whole ≡ a' * b' / whole
parts p q = cc

pub returns : goal.returns
unfolding with numbers
returns c =
    let config = c.args.config.now in
    let path = c.args.row.now.path in
    let label = c.args.above.now.label in
    let names : c.names-queue.result.now ≡ path = c.names-queue.ensures.names ∙ ap (λ (r : QueueRow). r.path) c.row.view_is in
    let some : 0 < length path = omega (arith, ap (λ (r : QueueRow). length r.path) c.row.view_is, c.row.invariant) in
    let capacity = c.number-capacity.ensures.value ∙ c.usable_capacity.ensures ∙ ap (λ (q : Path). capacity_on config q label) names in
    let maximum = c.number-maximum.ensures.value ∙ c.usable_maximum.ensures ∙ ap (λ (q : Path). configured_maximum config q label) names in
    same capacity maximum
    (c.part_of.ensures ∙ parts (ap (λ (p : Portion). p.share) c.requires.above) capacity ∙ sym (share_below config path label some))
    (c.part_of-2.ensures ∙ parts (ap (λ (p : Portion). p.most) c.requires.above) maximum ∙ sym (most_below config path label some))
    (c.from.ensures ∙ ap (λ (r : QueueRow). r.leaf.maximum_applications) c.row.view_is) (c.from-2.ensures ∙ ap (λ (r : QueueRow). r.leaf.user_limit_factor) c.row.view_is)
    (c.number.ensures.value ∙ ap (λ (r : QueueRow). r.leaf.maximum_am_resource_percent) c.row.view_is)
    (c.number-2.ensures.value ∙ ap (λ (r : QueueRow). r.leaf.minimum_user_limit_percent) c.row.view_is)
