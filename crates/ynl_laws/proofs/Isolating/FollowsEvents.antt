-- Each event is followed by what the tenant of a partition sees of it, or passes unseen.
use Rattle.ynl_resource.specs.declared.names.Name.{Name}
use Rattle.ynl_resource.specs.declared.labels.Label.{Label}
use Rattle.ynl_model.specs.Queues.{Config}
use Rattle.ynl_model.specs.Cluster.{State}
use Rattle.ynl_model.specs.declared.events.Event.{Event}
use Rattle.ynl_model.specs.declared.events.Event.TheVariants.{Register, Lost, Relabel, Heartbeat, Exited, Submit, Ask, Release, Finish, Stop, Start, Poll, Usage, Propose, Commit, Maximum}
use Rattle.ynl_model.specs.View.{seen_of}
use Rattle.ynl_laws.specs.Working.{places}
use Rattle.ynl_laws.proofs.Isolating.Mirrored.{Mirrors}
use Rattle.ynl_laws.proofs.Isolating.Alone.{Alone}
use Rattle.ynl_laws.proofs.Isolating.Firm.{Firm}
use Rattle.ynl_laws.proofs.Isolating.Follows.{Follows}
use Rattle.ynl_laws.proofs.Isolating.FollowsNodes.{sees-register, sees-lost, sees-relabel}
use Rattle.ynl_laws.proofs.Isolating.FollowsQueues.{sees-submit, sees-stop, sees-start, sees-usage, sees-maximum}
use Rattle.ynl_laws.proofs.Isolating.FollowsRequests.{sees-ask, sees-poll, sees-release, sees-finish}
use Rattle.ynl_laws.proofs.Isolating.FollowsPlaces.{sees-heartbeat, sees-propose, sees-exited}
use Rattle.ynl_laws.proofs.Isolating.FollowsCommits.{sees-commit}

pub follows : (c : Config) (t : Name) (p : Label) → Alone c t p → (s u : State) → Firm c s → Mirrors t p s u → (event : Event) → Follows c t p s u event (seen_of t p c (places s) event)
follows c t p a s u firm m (Register name label size) = sees-register c t p s u firm m name label size
follows c t p a s u firm m (Lost name) = sees-lost c t p s u firm m name
follows c t p a s u firm m (Relabel name label) = sees-relabel c t p s u firm m name label
follows c t p a s u firm m (Heartbeat name) = sees-heartbeat c t p a s u firm m name
follows c t p a s u firm m (Exited name id) = sees-exited c t p a s u firm m name id
follows c t p a s u firm m (Submit queue app user label master) = sees-submit c t p a s u firm m queue app user label master
follows c t p a s u firm m (Ask tenant app label priority count size) = sees-ask c t p a s u firm m tenant app label priority count size
follows c t p a s u firm m (Release tenant id) = sees-release c t p a s u firm m tenant id
follows c t p a s u firm m (Finish tenant app) = sees-finish c t p a s u firm m tenant app
follows c t p a s u firm m (Stop queue) = sees-stop c t p a s u firm m queue
follows c t p a s u firm m (Start queue) = sees-start c t p a s u firm m queue
follows c t p a s u firm m (Poll tenant app label) = sees-poll c t p a s u firm m tenant app label
follows c t p a s u firm m (Usage queue label) = sees-usage c t p a s u firm m queue label
follows c t p a s u firm m (Propose name) = sees-propose c t p a s u firm m name
follows c t p a s u firm m (Commit proposal) = sees-commit c t p a s u firm m proposal
follows c t p a s u firm m (Maximum queue label share) = sees-maximum c t p a s u firm m queue label share
