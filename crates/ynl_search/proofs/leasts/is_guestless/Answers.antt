use Rattle.std.proofs.Common.{sym, ◌∙◌}
use Rattle.std.proofs.lemmas.Bool.{not-true}
use Rattle.ynl_cluster.specs.Cluster.{path_of, state_in}
use Rattle.ynl_search.proofs.GuestShut.{too-large}
use Rattle.ynl_search.proofs.leasts.is_guestless.Goals as goal

pub returns : goal.returns
returns c = λ none. too-large (state_in c.args.cluster.now) (path_of c.args.cluster.now c.args.queue) c.least_asked_below.result c.args.room.now c.least_asked_below.ensures (sym c.fits_in.ensures ∙ not-true c.fits_in.result none)
