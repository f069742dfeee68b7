use Rattle.std.proofs.Common.{ap, sym, ◌∙◌}
use Rattle.ynl_resource.specs.declared.amounts.Resource.{Resource}
use Rattle.ynl_resource.specs.declared.paths.Path.{Path}
use Rattle.ynl_resource.specs.Amounts.{scale_floor}
use Rattle.ynl_resource.specs.Ranges.{whole}
use Rattle.ynl_model.specs.Cluster.{guaranteed}
use Rattle.ynl_model.specs.Queues.{capacity_on}
use Rattle.ynl_model.specs.Service.{last_name}
use Rattle.ynl_cluster.specs.Cluster.{label_of, path_of, state_in}
use Rattle.ynl_search.proofs.Steps.{guaranteed-below}
use Rattle.ynl_search.proofs.queues.standing_at.Goals as goal

pub returns-clause-guaranteed : goal.returns-clause-guaranteed
returns-clause-guaranteed c = λ amounts.
    let w = c.args.cluster.now in
    let label = label_of w c.args.p in
    let parent = path_of w c.args.place.now.queue in
    let child = path_of w c.args.child in
    let part = c.capacity_share-share.ensures ∙ ap (λ (path : Path). capacity_on w.config path label) c.requires.child.path in
    ap (λ (a : Resource). a.memory)
    (c.share_of-guaranteed.ensures.value
    ∙ (λ i. scale_floor (amounts.guaranteed i) (part i) whole)
    ∙ sym (guaranteed-below w.config (state_in w) label parent (last_name child))
    ∙ ap (λ (path : Path). guaranteed w.config (state_in w) path label) (sym c.requires.child.path))
