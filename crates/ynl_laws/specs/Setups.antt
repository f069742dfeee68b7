-- Two configurations, and short words for events and replies.
use Rattle.std.specs.Prelude.{ℕ, Bool, true, false, List, [], ◌∷◌, codes, Some}
use Prim.Native.String.{String}
use Rattle.ynl_resource.specs.Amounts.{amount}
use Rattle.ynl_resource.specs.declared.names.Name.{Name}
use Rattle.ynl_resource.specs.declared.labels.Label.{Label}
use Rattle.ynl_resource.specs.declared.labels.Label.TheVariants.{Unlabelled, Named}
use Rattle.ynl_resource.specs.declared.paths.Path.{Path}
use Rattle.ynl_model.specs.declared.labels.LabelRow.{LabelRow}
use Rattle.ynl_model.specs.BuiltIn.{built_in}
use Rattle.ynl_model.specs.Queues.{QueueRow, Config, Access, Inherited, Listed}
use Rattle.ynl_model.specs.declared.queues.LeafSettings.{LeafSettings}
use Rattle.ynl_model.specs.declared.queues.LabelCapacity.{LabelCapacity}
use Rattle.ynl_model.specs.declared.proposals.What.{What}
use Rattle.ynl_model.specs.declared.containers.Placed.{Placed as Container}
use Rattle.ynl_model.specs.declared.proposals.Proposal.{Proposal}
use Rattle.ynl_model.specs.declared.events.Event.{Event}
use Rattle.ynl_model.specs.declared.events.Event.TheVariants.{Register, Lost, Relabel, Heartbeat, Exited, Submit, Ask, Release, Finish, Stop, Start, Poll, Usage, Propose, Commit, Maximum}
use Rattle.ynl_model.specs.declared.replies.Pending.{Pending}
use Rattle.ynl_model.specs.declared.replies.Reply.{Reply}
use Rattle.ynl_model.specs.declared.replies.Reply.TheVariants.{Placed, Usage as UsageOf}

-- the name that a text is
abbrev pub name : String → Name
name = codes

-- labels, DEFAULT being `none`
abbrev pub none : Label
none = Unlabelled

abbrev pub gpu : Label
gpu = Named (name "gpu")

abbrev pub ssd : Label
ssd = Named (name "ssd")

abbrev pub zzz : Label
zzz = Named (name "zzz")

-- queues
abbrev pub eng : Path
eng = name "eng" ∷ []

abbrev pub ml : Path
ml = name "eng" ∷ name "ml" ∷ []

abbrev pub etl : Path
etl = name "eng" ∷ name "etl" ∷ []

abbrev pub mkt : Path
mkt = name "mkt" ∷ []

abbrev pub nope : Path
nope = name "nope" ∷ []

-- the row of a label, whose clock may go as far as an id's number does
abbrev pub label_row : String → Bool → LabelRow
label_row text exclusive = record { name = name text; exclusive = exclusive; limit = 9007199254740991 }

-- what is set of a leaf where the text says nothing else
abbrev pub usual_leaf : LeafSettings
usual_leaf = record {
  default_label = none;
  minimum_user_limit_percent = 10000;
  user_limit_factor = 100;
  maximum_am_resource_percent = 1000;
  maximum_applications = 10000;
}

-- a queue's row, with what holds where the text says nothing else
abbrev pub queue_row : Path → ℕ → Access → List LabelCapacity → QueueRow
queue_row path capacity access capacities = record {
  path = path;
  stopped = false;
  capacity = capacity;
  maximum = 10000;
  access = access;
  leaf = usual_leaf;
  capacities = capacities;
}

-- a share of a partition: the capacity and the maximum, in hundredths of a percent
abbrev pub share : String → ℕ → ℕ → LabelCapacity
share text capacity maximum = record { label = name text; capacity = capacity; maximum = maximum }

-- a configuration with these labels and queues, where a heartbeat places at most one container
abbrev pub config_of : List LabelRow → List QueueRow → Config
config_of labels queues = record {
  labels = record { rows = labels; default_limit = 9007199254740991 };
  queues = queues;
  containers_per_heartbeat = 1;
  maximum_allocation = amount 4294967295 65536;
}

-- one queue with one label: what a cluster has where no other is given
abbrev pub c0 : Config
c0 = built_in

-- these are the rows of the queues that the second configuration has
abbrev pub eng_row : QueueRow
eng_row = queue_row eng 6000 (Listed (name "gpu" ∷ [])) (share "gpu" 10000 10000 ∷ [])

abbrev pub ml_row : QueueRow
ml_row = queue_row ml 5000 Inherited (share "gpu" 7000 10000 ∷ [])

abbrev pub etl_row : QueueRow
etl_row = record (queue_row etl 5000 Inherited (share "gpu" 3000 5000 ∷ [])) { leaf = record usual_leaf { user_limit_factor = 200 } }

abbrev pub mkt_row : QueueRow
mkt_row = record (queue_row mkt 4000 (Listed (name "ssd" ∷ [])) (share "ssd" 10000 10000 ∷ [])) { maximum = 5000 }

-- two tenants: eng with two leaves on gpu, and mkt on ssd, which is not exclusive
abbrev pub c1_with : LabelRow → QueueRow → QueueRow → Config
c1_with gpu_label eng_queue ml_queue = config_of (gpu_label ∷ label_row "ssd" false ∷ []) (eng_queue ∷ ml_queue ∷ etl_row ∷ mkt_row ∷ [])

-- the same with the rows above, and gpu exclusive
abbrev pub c1 : Config
c1 = c1_with (label_row "gpu" true) eng_row ml_row

-- ---- events

-- these are the events of each kind, with texts for names and two numbers for a size
abbrev pub reg : String → Label → ℕ → ℕ → Event
reg node label memory vcores = Register (name node) label (amount memory vcores)

abbrev pub lost : String → Event
lost node = Lost (name node)

abbrev pub relabel : String → Label → Event
relabel node label = Relabel (name node) label

abbrev pub hb : String → Event
hb node = Heartbeat (name node)

abbrev pub exit : String → Label → ℕ → Event
exit node label clock = Exited (name node) (record { label = label; clock = clock })

abbrev pub sub : Path → String → String → Label → ℕ → ℕ → Event
sub queue app user label memory vcores = Submit queue (name app) (name user) (Some label) (amount memory vcores)

abbrev pub ask : String → String → Label → ℕ → ℕ → ℕ → ℕ → Event
ask tenant app label priority count memory vcores = Ask (name tenant) (name app) label priority count (amount memory vcores)

abbrev pub rel : String → Label → ℕ → Event
rel tenant label clock = Release (name tenant) (record { label = label; clock = clock })

abbrev pub fin : String → String → Event
fin tenant app = Finish (name tenant) (name app)

abbrev pub stop : Path → Event
stop queue = Stop queue

abbrev pub start : Path → Event
start queue = Start queue

abbrev pub poll : String → String → Label → Event
poll tenant app label = Poll (name tenant) (name app) label

abbrev pub use_of : Path → Label → Event
use_of queue label = Usage queue label

abbrev pub prop : String → Event
prop node = Propose (name node)

-- a proposal, in the same short words
abbrev pub proposal : String → ℕ → String → String → What → ℕ → ℕ → Proposal
proposal node stamp tenant app what memory vcores =
    record { node = name node; stamp = stamp; tenant = name tenant; app = name app; what = what; size = amount memory vcores }

abbrev pub cmt : String → ℕ → String → String → What → ℕ → ℕ → Event
cmt node stamp tenant app what memory vcores = Commit (proposal node stamp tenant app what memory vcores)

abbrev pub max_of : Path → Label → ℕ → Event
max_of queue label maximum = Maximum queue label maximum

-- ---- replies

-- a container: its id by the label and the number, and texts for names
abbrev pub container : Label → ℕ → String → String → String → What → ℕ → ℕ → Container
container label clock node tenant app what memory vcores = record {
  id = record { label = label; clock = clock };
  node = name node;
  tenant = name tenant;
  app = name app;
  what = what;
  size = amount memory vcores;
}

-- a heartbeat's answer: one container, or none
abbrev pub one : Container → Reply
one c = Placed (c ∷ [])

abbrev pub no_more : Reply
no_more = Placed []

-- a usage's answer: memory and virtual cores of what is used, guaranteed, the maximum, masters and guests
abbrev pub uses : ℕ → ℕ → ℕ → ℕ → ℕ → ℕ → ℕ → ℕ → ℕ → ℕ → Reply
uses um uv gm gv xm xv mm mv hm hv = UsageOf (amount um uv) (amount gm gv) (amount xm xv) (amount mm mv) (amount hm hv)

-- what is still asked for at a priority: how many containers, and the size of each
abbrev pub pends : ℕ → ℕ → ℕ → ℕ → Pending
pends priority count memory vcores = record { priority = priority; count = count; size = amount memory vcores }
