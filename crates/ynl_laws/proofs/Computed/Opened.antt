-- Opens every definition of the model, for a proof that computes. A proof says `unfolding opened`.
use Rattle.std.specs.Prelude.{ℕ}
use Rattle.ynl_model.specs.Accepted.{label_faults, tree_faults, in_range, is_accepted}
use Rattle.ynl_model.specs.Applications.{leaf_of, find_app}
use Rattle.ynl_model.specs.Changes.{node_joins, node_leaves, changed_at, container_of, place, end, beat, app_finishes}
use Rattle.ynl_model.specs.Check.{proposed, has_access, commit_reasons}
use Rattle.ynl_model.specs.Cluster.{maximum, guaranteed, clock, is_spent, next_clock, free, runs, used, user_used, masters_used, guests}
use Rattle.ynl_model.specs.Events.{reasons, held, usage, accepted, step}
use Rattle.ynl_model.specs.Limits.{users, user_limit, master_limit}
use Rattle.ynl_model.specs.Nodes.{total, stamped, joined, left, is_full}
use Rattle.ynl_model.specs.Queues.{is_leaf, accessible, may_use, capacity_on, configured_maximum, opening_maxima, maximum_on, maximum as queues_maximum, guaranteed as queues_guaranteed, accepts}
use Rattle.ynl_model.specs.Service.{asks_for, items_for, within_maximum, within_user_limit, within_master_share, is_eligible, guests_for, key, choice}
use Rattle.ynl_model.specs.View.{track_step, seen_of, is_sole}

unfoldable pub opened : ℕ
unfolding label_faults tree_faults in_range is_accepted leaf_of find_app node_joins node_leaves changed_at container_of place end beat app_finishes proposed has_access commit_reasons maximum guaranteed clock is_spent next_clock free runs used user_used masters_used guests reasons held usage accepted step users user_limit master_limit total stamped joined left is_full is_leaf accessible may_use capacity_on configured_maximum opening_maxima maximum_on queues_maximum queues_guaranteed accepts asks_for items_for within_maximum within_user_limit within_master_share is_eligible guests_for key choice track_step seen_of is_sole
opened = 0
