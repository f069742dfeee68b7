-- Why the requests of an application wait: the requests, where each may be placed, and the reasons that are told of it.
use Rattle.std.specs.Prelude.{Bool, true, false, not, ◌&&◌, ◌||◌, ◌==◌, List, [], ◌∷◌, ◌++◌, map, filter, flat_map, length, if◌then◌else◌}
use Rattle.std.specs.Option.{option_map_or}
use Rattle.ynl_resource.specs.Amounts.{plus, fits_in}
use Rattle.ynl_resource.specs.declared.amounts.Resource.{Resource}
use Rattle.ynl_resource.specs.Names.{same_name, same_label, root, way_to, tenant_of}
use Rattle.ynl_resource.specs.declared.names.Name.{Name}
use Rattle.ynl_resource.specs.declared.labels.Label.{Label}
use Rattle.ynl_resource.specs.declared.paths.Path.{Path}
use Rattle.ynl_resource.specs.declared.refusals.Refusal.TheVariants.{NoSuchApplication}
use Rattle.ynl_model.specs.declared.proposals.What.{What}
use Rattle.ynl_model.specs.declared.proposals.What.TheVariants.{Master, Ask as Asked}
use Rattle.ynl_model.specs.declared.proposals.Proposal.{Proposal}
use Rattle.ynl_model.specs.Nodes.{partition_labels}
use Rattle.ynl_model.specs.Queues.{Config}
use Rattle.ynl_model.specs.Applications.{Application, find_app}
use Rattle.ynl_model.specs.Cluster.{State, runs, used, user_used, masters_used, maximum, guaranteed, is_master_what}
use Rattle.ynl_model.specs.Limits.{user_limit, master_limit}
use Rattle.ynl_model.specs.Service.{Item, within_maximum, within_user_limit, within_master_share}
use Rattle.ynl_model.specs.Check.{proposed}
use Rattle.ynl_model.specs.Events.{pending_on}
use Rattle.ynl_model.specs.declared.replies.Pending.{Pending}
use Rattle.ynl_waits.specs.Grounds.{Spot, Ground, ground, guest_grounds, has_nodes, open_spots, fits_any, most_free, first_by_name}
use Rattle.ynl_waits.specs.Steps.{step_to}
pub use Rattle.ynl_waits.specs.declared.waits.Applicant.{Applicant}
pub use Rattle.ynl_waits.specs.declared.waits.Request.{Request}
pub use Rattle.ynl_waits.specs.declared.waits.Reason.{Reason}
pub use Rattle.ynl_waits.specs.declared.waits.Reason.TheVariants as reason
pub use Rattle.ynl_waits.specs.declared.waits.Wait.{Wait}
pub use Rattle.ynl_waits.specs.declared.waits.Explained.{Explained}
pub use Rattle.ynl_waits.specs.declared.waits.Explained.TheVariants as explained

-- ---- the requests

-- a live application: its leaf, its name, its user, and whether it runs
abbrev pub applicant : State → Application → Applicant
applicant s app = record { leaf = app.leaf; name = app.name; user = app.user; runs = runs s app }

-- the request for its master, which is wanted on the home label
abbrev pub master_request : Application → Request
master_request app = record { what = Master; label = app.home; size = app.master; count = 1 }

-- the request of what it asks for under a label
abbrev pub ask_request : Label → Pending → Request
ask_request label ask = record { what = Asked label ask.priority; label = label; size = ask.size; count = ask.count }

-- the requests of what it asks for under a label, by priority
abbrev pub asks_under : Application → Label → List Request
asks_under app label = map (ask_request label) (pending_on label app)

-- its requests: the master, where it waits; then what it asks for, by label as configured
unfoldable pub requests : Config → State → Application → List Request
requests c s app = (if runs s app then [] else master_request app ∷ []) ++ flat_map (asks_under app) (partition_labels c.labels)

-- a request, as it is tested and placed
abbrev pub item : Applicant → Request → Item
item app request = record { leaf = app.leaf; app = app.name; user = app.user; what = request.what; size = request.size }

-- ---- where a request may be placed, and where it is chosen

-- whether an application is ready for it: while it waits for its master, and while it runs for what it asks for
abbrev pub is_ready : Applicant → What → Bool
is_ready app Master = not app.runs
is_ready app (Asked label priority) = app.runs

-- whether it passes every test of its own partition but that for room
unfoldable pub passes : Config → State → Applicant → Request → Bool
passes c s app request =
    is_ready app request.what && within_maximum s request.label (item app request) && within_user_limit c s request.label (item app request)
    && within_master_share c s request.label app.leaf request.what request.size

-- the nodes on which it may be placed, where its own partition is this one, and it may go to those as a guest: those with room of its own
-- partition, if it passes the tests there; and as a guest, if its application runs, those with room of the others
unfoldable pub places : Applicant → Request → Bool → Ground → List Ground → List Spot
places app request passed own guests =
    (if passed then open_spots request.size own else []) ++ (if app.runs then flat_map (open_spots request.size) guests else [])

-- whether two requests of an application are the same
abbrev pub same_what : What → What → Bool
same_what Master Master = true
same_what (Asked label priority) (Asked other number) = same_label label other && (priority == number)
same_what _ _ = false

-- whether a proposal is for this request
abbrev pub is_for : Applicant → Request → Proposal → Bool
is_for app request proposal = same_name proposal.tenant (tenant_of app.leaf) && same_name proposal.app app.name && same_what proposal.what request.what

-- whether the choice on a node is this request
unfoldable pub is_chosen_on : Config → State → Applicant → Request → Spot → Bool
is_chosen_on c s app request spot = option_map_or (is_for app request) (proposed c s spot.node) false

-- ---- the reasons

-- the application waits, and this is not its master
abbrev pub application_told : Applicant → Request → List Reason
application_told app request = if app.runs || is_master_what request.what then [] else reason.Application ∷ []

-- no node is in its own partition
abbrev pub nodes_told : Ground → List Reason
nodes_told own = if has_nodes own then [] else reason.Nodes ∷ []

-- the clock of a partition where it may go is spent
abbrev pub clock_told : Ground → List Reason
clock_told ground = if ground.is_spent then reason.Clock ground.label ∷ [] else []

-- whether a queue's use with its size is within the queue's maximum
abbrev pub keeps_maximum : State → Request → Path → Bool
keeps_maximum s request queue = fits_in (plus (used s queue request.label) request.size) (maximum s queue request.label)

-- a queue's use with its size is not within the queue's maximum
abbrev pub maximum_of_told : State → Applicant → Request → Path → List Reason
maximum_of_told s app request queue =
    if keeps_maximum s request queue
    then []
    else reason.Maximum (step_to app.leaf queue) (used s queue request.label) (maximum s queue request.label) ∷ []

-- so of the queues from root to the leaf
unfoldable pub maximum_told : State → Applicant → Request → List Reason
maximum_told s app request = flat_map (maximum_of_told s app request) (root ∷ way_to app.leaf)

-- the user's use in the leaf with its size is not within the user limit for that size
unfoldable pub user_limit_told : Config → State → Applicant → Request → List Reason
user_limit_told c s app request =
    if within_user_limit c s request.label (item app request)
    then []
    else reason.UserLimit app.user (user_used s app.leaf app.user request.label) (user_limit c s app.leaf request.label request.size) (guaranteed c s app.leaf request.label) ∷ []

-- it is a master, others of the leaf hold containers on the partition, and their use with its size is not within the master limit
unfoldable pub master_share_told : Config → State → Applicant → Request → List Reason
master_share_told c s app request =
    if within_master_share c s request.label app.leaf request.what request.size
    then []
    else reason.MasterShare (masters_used s app.leaf request.label) (master_limit c s app.leaf request.label) ∷ []

-- the limits that it does not keep on its own partition; maxima and the user limit are told only where a node is there
unfoldable pub limits_told : Config → State → Applicant → Request → Ground → List Reason
limits_told c s app request own =
    (if has_nodes own then maximum_told s app request ++ user_limit_told c s app request else []) ++ master_share_told c s app request

-- nodes are in a partition where it may go, and it fits what is free on none of them
abbrev pub room_told : Resource → Ground → List Reason
room_told size ground =
    if not (has_nodes ground) || fits_any size ground.spots then [] else reason.Room ground.label (length ground.spots) (most_free ground.spots) ∷ []

-- it may be placed on nodes, and another is ahead on the first of them by name
abbrev pub turn_on : Spot → List Spot → Proposal → List Reason
turn_on first there ahead = reason.Turn (record { node = first.node.name; nodes = length there; ahead = ahead }) ∷ []

abbrev pub turn_told : Config → State → List Spot → List Reason
turn_told c s there =
    option_map_or (λ first. option_map_or (turn_on first there) (proposed c s first.node) []) (first_by_name there) []

-- it is chosen on nodes, the first of them by name being this
abbrev pub next_told : List Spot → List Reason
next_told chosen = option_map_or (λ first. reason.Next first.node.name (length chosen) ∷ []) (first_by_name chosen) []

-- all that keeps it from being placed, of where it may go and of the limits
unfoldable pub held_back : Config → State → Applicant → Request → Ground → List Ground → List Reason
held_back c s app request own guests =
    application_told app request ++ nodes_told own ++ flat_map clock_told (own ∷ guests) ++ limits_told c s app request own
    ++ flat_map (room_told request.size) (own ∷ guests)

-- the first list, unless it is empty
abbrev pub or_else : List Reason → List Reason → List Reason
or_else [] rest = rest
or_else (told ∷ more) rest = told ∷ more

-- what is told, by the nodes on which the request may be placed: that it is next; or else all that keeps it back, and whose turn it is
unfoldable pub told_by : Config → State → Applicant → Request → Ground → List Ground → List Spot → List Reason
told_by c s app request own guests there =
    or_else (next_told (filter (is_chosen_on c s app request) there)) (held_back c s app request own guests ++ turn_told c s there)

-- the reasons of a request, by the partitions where it may go
abbrev pub reasons_among : Config → State → Applicant → Request → Ground → List Ground → List Reason
reasons_among c s app request own guests = told_by c s app request own guests (places app request (passes c s app request) own guests)

-- the reasons of a request
unfoldable pub reasons : Config → State → Applicant → Request → List Reason
reasons c s app request = reasons_among c s app request (ground c s request.label) (guest_grounds c s request.what)

-- a request with its reasons
abbrev pub wait : Config → State → Applicant → Request → Wait
wait c s app request = record { request = request; reasons = reasons c s app request }

-- why the requests of a tenant's application wait, where it has a live one of that name
unfoldable pub explained_of : Config → State → Name → Name → Explained
explained_of c s tenant name =
    option_map_or (λ app. explained.Waits (map (wait c s (applicant s app)) (requests c s app))) (find_app s.leaves tenant name) (explained.Refused NoSuchApplication)
