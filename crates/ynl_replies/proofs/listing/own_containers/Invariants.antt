use Rattle.std.proofs.Common.{◌-◌, filter, length, nat_eq}
use Rattle.ynl_inventory.specs.Apps.{containers_of}
use Rattle.ynl_replies.proofs.Following.{IsFollowing}
use Rattle.ynl_replies.proofs.listing.own_containers.Given as goal

-- those before the next are listed
abbrev pub invariant-loop-next : goal.invariant-loop-next
invariant-loop-next l = IsFollowing l.cluster.rows l.p l.app l.next l.list.items

-- one less is to be listed
abbrev pub decreases-loop-next : goal.decreases-loop-next
decreases-loop-next l = length (filter (λ e. nat_eq e.1.app l.app) (containers_of l.cluster.rows l.p)) - length l.list.items
