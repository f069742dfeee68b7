-- What the capacities just below a queue come to, told from how the queues there stand.
use Rattle.std.proofs.Common.{◌≡◌, List, map, sum, ap, ◌∙◌}
use Rattle.std.specs.Prelude.{◌&&◌, ◌||◌, ◌==◌}
use Rattle.std.specs.List.{list_all}
use Rattle.ynl_resource.specs.declared.labels.Label.{Label}
use Rattle.ynl_resource.specs.declared.labels.Label.TheVariants.{Unlabelled, Named}
use Rattle.ynl_resource.specs.declared.paths.Path.{Path}
use Rattle.ynl_model.specs.Nodes.{Labels}
use Rattle.ynl_model.specs.Queues.{Config, capacity_on}
use Rattle.ynl_model.specs.Accepted.{children, adds_up, sum_below}
use Rattle.ynl_queues.specs.declared.grants.Grant.{Grant}
use Rattle.ynl_queues.specs.Grants.{capacity_at, total_at}

-- the grants have the capacities of the queues just below a queue
abbrev pub StandBelow : Config → Path → List Grant → Type 0
StandBelow c queue grants = (label : Label) → map (λ s. capacity_at c.labels s label) grants ≡ map (λ row. capacity_on c row.path label) (children c queue)

pub total_below : (c : Config) (queue : Path) (grants : List Grant) → StandBelow c queue grants → (label : Label) → total_at c.labels grants label ≡ sum_below c queue label
unfolding total_at
total_below c queue grants h label = ap sum (h label)

pub adds_up_by_totals : (c : Config) (queue : Path) (labels : Labels) (grants : List Grant) → labels ≡ c.labels → StandBelow c queue grants
    → ((total_at labels grants Unlabelled == 10000) && list_all (λ row. (total_at labels grants (Named row.name) == 10000) || (total_at labels grants (Named row.name) == 0)) labels.rows) ≡ adds_up c queue
adds_up_by_totals c queue labels grants same h =
    ap (λ (ls : Labels). (total_at ls grants Unlabelled == 10000) && list_all (λ row. (total_at ls grants (Named row.name) == 10000) || (total_at ls grants (Named row.name) == 0)) ls.rows) same
    ∙ (λ i. (total_below c queue grants h Unlabelled i == 10000) && list_all (λ row. (total_below c queue grants h (Named row.name) i == 10000) || (total_below c queue grants h (Named row.name) i == 0)) c.labels.rows)
