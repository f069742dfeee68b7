use Rattle.std.proofs.Common.{◌≡◌, ℕ, List, Bool, ◌++◌, map, refl, sym, ap, subst, ◌∙◌, IfOk}
use Rattle.std.specs.List.{All, flat_map}
use Rattle.std.proofs.lemmas.List.Elements.{All-map}
use Rattle.ynl_resource.specs.Texts.{path_text}
use Rattle.ynl_model.specs.Accepted.{parent_of}
use Rattle.ynl_model.specs.Nodes.{partition_labels}
use Rattle.ynl_model.specs.Queues.{QueueRow, Config, is_leaf}
use Rattle.ynl_check.specs.declared.shares.Portion.{Portion}
use Rattle.ynl_check.specs.Tree.{line_if_usable, portion, state_word}
use Rattle.ynl_check.proofs.Lists.{flat_map-map}
use Rattle.ynl_check.proofs.tree.put_queue.Goals as goal

pub put_shares-requires : goal.put_shares-requires
put_shares-requires c =
    let of : Portion → Type 0 = λ above. above ≡ portion c.args.config.now (parent_of c.args.row.now.path) above.label in
    let all : All of (map (portion c.args.config.now (parent_of c.args.row.now.path)) (partition_labels c.args.config.now.labels)) =
    All-map of (portion c.args.config.now (parent_of c.args.row.now.path)) (partition_labels c.args.config.now.labels) (λ k d inside. refl) in
    subst (All of) (sym c.requires) all

pub returns : goal.returns
returns c =
    let config = c.args.config.now in
    let row = c.args.row.now in
    let names : c.names-names.result.now ≡ row.path = c.names-names.ensures.names ∙ ap (λ (r : QueueRow). r.path) c.row.view_is in
    let lines : List ℕ → List ℕ → Bool → List Portion → List ℕ = λ path state leaf portions. flat_map (λ (above : Portion). line_if_usable c.args.style config row path state leaf above.label) portions in
    let path = c.as_str.ensures.value ∙ c.in_ok-path.ensures.text ∙ ap (λ (r : QueueRow). path_text r.path) c.row.view_is in
    let state = c.state_word.ensures ∙ ap (state_word config) names in
    let leaf = c.is_leaf.ensures ∙ ap (λ (d : Config). is_leaf d c.names-names.result.now) c.deref.ensures ∙ ap (is_leaf config) names in
    subst (λ (t : List ℕ). IfOk c.put_shares.result (λ longer. longer.items ≡ c.args.text.items ++ t))
    (ap (λ p. lines p c.state_word.result.now c.is_leaf.result c.args.portions.now) path
    ∙ ap (λ s. lines (path_text row.path) s c.is_leaf.result c.args.portions.now) state
    ∙ ap (λ l. lines (path_text row.path) (state_word config row.path) l c.args.portions.now) leaf
    ∙ ap (lines (path_text row.path) (state_word config row.path) (is_leaf config row.path)) c.requires
    ∙ flat_map-map (λ (above : Portion). line_if_usable c.args.style config row (path_text row.path) (state_word config row.path) (is_leaf config row.path) above.label)
    (portion config (parent_of row.path)) (partition_labels config.labels))
    c.put_shares.ensures
