use Rattle.std.proofs.Common.{ℕ, ◌&&◌, ap, sym, subst, ◌∙◌}
use Rattle.ynl_resource.specs.declared.paths.Path.{Path}
use Rattle.ynl_model.specs.Service.{last_name}
use Rattle.ynl_cluster.specs.Cluster.{label_of, path_of, state_in}
use Rattle.ynl_search.specs.notes.Shut.{keeps_maximum}
use Rattle.ynl_search.specs.Places.{IsCell, IsPlace, allows}
use Rattle.ynl_search.proofs.queues.child_at.Goals as goal

pub returns-clause-place : goal.returns-clause-place
returns-clause-place c free is =
    let w = c.args.cluster.now in
    let child = c.args.child in
    let label = label_of w c.args.p in
    subst (λ (q : ℕ). IsPlace w.config (state_in w) label free (path_of w q) c.below.result) (sym c.below.ensures.queue)
    (subst (λ (path : Path). IsPlace w.config (state_in w) label free path c.below.result) (sym c.requires.child.path)
    (c.below.ensures.place w.config (state_in w) label free (path_of w c.args.place.now.queue) (last_name (path_of w child)) is
    (subst (λ (path : Path). IsCell w.config (state_in w) label path c.cell_of-cell.result) c.requires.child.path c.cell_of-cell.ensures)))

pub returns-clause-headroom : goal.returns-clause-headroom
returns-clause-headroom c most size =
    let w = c.args.cluster.now in
    let child = c.args.child in
    let label = label_of w c.args.p in
    c.below.ensures.headroom w.config (state_in w) label (path_of w c.args.place.now.queue) (last_name (path_of w child)) most
    (subst (λ (path : Path). IsCell w.config (state_in w) label path c.cell_of-cell.result) c.requires.child.path c.cell_of-cell.ensures) size
    ∙ ap (λ (path : Path). allows c.args.place.now.headroom size && keeps_maximum (state_in w) label size path) (sym c.requires.child.path ∙ ap (path_of w) (sym c.below.ensures.queue))
