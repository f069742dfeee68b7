use Rattle.std.proofs.Common.{◌≡◌, ◌≤◌, ◌&&◌, ◌∙◌, ℕ, List, Bool, true, false, cond, Option, Some, None, MatchOption, ap, refl, arith, map, length}
use Rattle.std.proofs.lemmas.Bool.{leb-true}
use Rattle.std.specs.Prelude.{nat_le, IfSome}
use Rattle.std.specs.List.{list_all}
use Rattle.std.proofs.lemmas.Bool.Decides.{nat_tests}
use Rattle.std.proofs.lemmas.List.{length-map}
use Rattle.std.proofs.lemmas.Result.{IfOk-weaker}
use Rattle.ynl_resource.specs.Ranges.{most_queues}
use Rattle.ynl_resource.specs.Texts.{read_path}
use Rattle.ynl_model.specs.Nodes.{Labels}
use Rattle.ynl_model.specs.Queues.{Config, QueueRow}
use Rattle.ynl_queues.specs.Written.{WrittenRow, is_below_root, row_of, configured}
use Rattle.ynl_config.proofs.row_places.tree_of_rows.Goals as goal

-- the tree, if there are not too many rows and all paths are read
chosen : (r : Option Config) (few all : Bool) (c d : Config) → c ≡ d → few ≡ true → MatchOption r (all ≡ false) (λ x. (all ≡ true) × (x ≡ c)) → r ≡ cond (few && all) (Some d) None
chosen None few all c d e f h = rw (f, h) refl
chosen (Some x) few all c d e f h = rw (f, h.0) (ap Some (h.1 ∙ e))

queues_of : (labels : Labels) (rows : List QueueRow) → (configured labels rows).queues ≡ rows
unfolding configured
queues_of labels rows = refl

-- the tree has as many queues as there are rows
as_few : (r : Option Config) (all : Bool) (labels : Labels) (rows : List WrittenRow) (most : ℕ) → nat_le (length rows) most ≡ true
    → MatchOption r (all ≡ false) (λ x. (all ≡ true) × (x ≡ configured labels (map row_of rows))) → IfSome r (λ x. length x.queues ≤ most)
as_few None all labels rows most few h = tt
as_few (Some x) all labels rows most few h =
    let same : length x.queues ≡ length (map row_of rows) = ap (λ (c : Config). length c.queues) h.1 ∙ ap length (queues_of labels (map row_of rows)) in
    let within : length rows ≤ most = leb-true (length rows) most few in
    omega (arith, same, within, length-map rows row_of)

pub returns-clause-tree : goal.returns-clause-tree
returns-clause-tree c =
    let rows = c.args.rows in
    let few : nat_le (length rows.items) most_queues ≡ true = grind (arith, nat_tests) in
    let all : Bool = list_all (λ row. is_below_root (read_path row.path)) rows.items in
    let tree : Config = configured c.args.labels.now (map row_of rows.items) in
    IfOk-weaker c.as_written.result _ _ (λ read h. chosen read (nat_le (length rows.items) most_queues) all tree tree refl few h) c.as_written.ensures

pub returns-clause-few : goal.returns-clause-few
returns-clause-few c =
    let rows = c.args.rows in
    let few : nat_le (length rows.items) most_queues ≡ true = grind (arith, nat_tests) in
    let all : Bool = list_all (λ row. is_below_root (read_path row.path)) rows.items in
    IfOk-weaker c.as_written.result _ _ (λ read h. as_few read all c.args.labels.now rows.items most_queues few h) c.as_written.ensures
