-- What an application holds and asks for is found by its tenant and name.
use Rattle.std.proofs.Common.{[], sym, ap, ◌∙◌}
use Rattle.std.specs.Option.{option_map_or}
use Rattle.ynl_model.specs.declared.replies.Reply.TheVariants.{Held as HeldReply}
use Rattle.ynl_model.specs.Events.{held, pending_on}
use Rattle.ynl_cluster.specs.Cluster.{label_of, maxima_in, stops_in}
use Rattle.ynl_replies.proofs.Apps.{app-is}
use Rattle.ynl_replies.proofs.polling.held.Goals as goal

pub returns : goal.returns
unfolding held
returns c = λ row found.
    λ i. HeldReply ((c.new.ensures ∙ c.in_ok-containers.ensures row found) i)
    ((c.new-2.ensures ∙ c.in_ok-asks.ensures row found
    ∙ sym (ap (λ o. option_map_or (pending_on (label_of c.args.cluster.now c.args.p)) o [])
    (app-is c.args.cluster.now.rows c.inventory.ensures.sound (stops_in c.args.cluster.now) (maxima_in c.args.cluster.now) c.args.app row found))) i)
