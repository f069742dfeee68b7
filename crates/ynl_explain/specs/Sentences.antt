-- The sentences that tell a reader why an application waits: a head for each request, and a line for each of its reasons.
use Rattle.std.specs.Prelude.{ℕ, ◌==◌, List, [], ◌∷◌, ◌++◌, length, decimal, codes, if◌then◌else◌}
use Rattle.std.specs.List.{concat, flat_map}
use Rattle.ynl_resource.specs.declared.amounts.Resource.{Resource}
use Rattle.ynl_resource.specs.declared.labels.Label.{Label}
use Rattle.ynl_resource.specs.declared.names.Name.{Name}
use Rattle.ynl_resource.specs.Texts.{path_text}
use Rattle.ynl_model.specs.declared.proposals.Proposal.{Proposal}
use Rattle.ynl_model.specs.declared.proposals.What.{What}
use Rattle.ynl_model.specs.declared.proposals.What.TheVariants.{Master, Ask}
use Rattle.ynl_waits.specs.Steps.{path_of}
use Rattle.ynl_waits.specs.declared.steps.Step.{Step}
use Rattle.ynl_waits.specs.declared.waits.Request.{Request}
use Rattle.ynl_waits.specs.declared.waits.Turn.{Turn}
use Rattle.ynl_waits.specs.declared.waits.Reason.{Reason}
use Rattle.ynl_waits.specs.declared.waits.Reason.TheVariants as reason
use Rattle.ynl_waits.specs.declared.waits.Wait.{Wait}
use Rattle.ynl_waits.specs.declared.waits.Explained.{Explained}
use Rattle.ynl_waits.specs.declared.waits.Explained.TheVariants as explained
use Rattle.ynl_explain.specs.Pieces.{amount_text, nodes_text, partition_name}

-- ---- requests

-- an application, with its tenant
abbrev pub whole_name : Name → Name → List ℕ
whole_name tenant app = concat (tenant ∷ codes "/" ∷ app ∷ [])

-- what a request is for, by what it is
abbrev pub wanted_by : What → Request → List ℕ
wanted_by Master r = concat (codes "its master of " ∷ amount_text r.size ∷ codes " on " ∷ partition_name r.label ∷ [])
wanted_by (Ask label priority) r =
    concat (decimal r.count ∷ codes " of " ∷ amount_text r.size ∷ codes " on " ∷ partition_name r.label ∷ codes ", priority " ∷ decimal priority ∷ [])

-- the head of a request of a tenant's application
abbrev pub head_line : Name → Name → Request → List ℕ
head_line tenant app r = whole_name tenant app ++ (codes " asks for " ++ (wanted_by r.what r ++ codes ":\n"))

-- ---- reasons

-- so much is used of a limit on the partition of a request that its size would be above it
abbrev pub over : Request → Resource → List ℕ → Resource → List ℕ
over r used name limit =
    concat (amount_text used ∷ name ∷ amount_text limit ∷ codes " on " ∷ partition_name r.label ∷ codes "; " ∷ amount_text r.size ∷ codes " more do not fit" ∷ [])

-- with what a proposal is ahead, by what it is for
abbrev pub lead_by : What → Proposal → List ℕ
lead_by Master p = concat (codes " is ahead with its master of " ∷ amount_text p.size ∷ [])
lead_by (Ask label priority) p =
    concat (codes " is ahead with a container of " ∷ amount_text p.size ∷ codes " on " ∷ partition_name label ∷ codes ", priority " ∷ decimal priority ∷ [])

-- the nodes on which another is ahead
abbrev pub turn_nodes : Turn → List ℕ
turn_nodes turn = concat (nodes_text turn.nodes ∷ codes " may take it, by name first " ∷ turn.node ∷ codes "; there " ∷ [])

abbrev pub turn_text : Turn → List ℕ
turn_text turn = turn_nodes turn ++ (whole_name turn.ahead.tenant turn.ahead.app ++ lead_by turn.ahead.what turn.ahead)

abbrev pub next_text : Name → ℕ → List ℕ
next_text node nodes = concat (codes "it is next on " ∷ nodes_text nodes ∷ codes ", by name first " ∷ node ∷ [])

-- no more is placed on a partition whose clock is spent
abbrev pub spent : Label → List ℕ
spent label = concat (codes "the clock of " ∷ partition_name label ∷ codes " is spent: nothing more is placed there" ∷ [])

-- a queue, as the one that uses something
abbrev pub queue_text : Step → List ℕ
queue_text queue = path_text (path_of queue) ++ codes " uses "

-- a user, as the one who uses something
abbrev pub user_text : Name → List ℕ
user_text user = concat (codes "user " ∷ user ∷ codes " uses " ∷ [])

-- what the leaf is guaranteed
abbrev pub guaranteed_text : Resource → List ℕ
guaranteed_text guaranteed = concat (codes " (the leaf is guaranteed " ∷ amount_text guaranteed ∷ codes ")" ∷ [])

-- the sentence of a reason that is told of a request
abbrev pub sentence : Request → Reason → List ℕ
sentence r reason.Application = codes "the application waits for its master"
sentence r reason.Nodes = concat (partition_name r.label ∷ codes " has no nodes" ∷ [])
sentence r (reason.Clock label) = spent label
sentence r (reason.Maximum queue used maximum) = queue_text queue ++ over r used (codes " of its maximum ") maximum
sentence r (reason.UserLimit user used limit guaranteed) = user_text user ++ (over r used (codes " of the user limit ") limit ++ guaranteed_text guaranteed)
sentence r (reason.MasterShare used limit) = codes "masters of the leaf use " ++ over r used (codes " of their limit ") limit
sentence r (reason.Room label nodes free) =
    concat (partition_name label ∷ codes " has " ∷ nodes_text nodes ∷ codes ": at most " ∷ amount_text free ∷ codes " are free on any one; " ∷ amount_text r.size ∷ codes " fit on none" ∷ [])
sentence r (reason.Turn turn) = turn_text turn
sentence r (reason.Next node nodes) = next_text node nodes

-- its line
abbrev pub reason_line : Request → Reason → List ℕ
reason_line r x = codes "  " ++ (sentence r x ++ codes "\n")

-- ---- the whole

-- the lines of a request
abbrev pub plain_lines : Name → Name → Wait → List ℕ
plain_lines tenant app wait = head_line tenant app wait.request ++ flat_map (reason_line wait.request) wait.reasons

-- the lines of all requests, or that there is none
abbrev pub plain_waits : Name → Name → List Wait → List ℕ
plain_waits tenant app waits =
    if length waits == 0 then whole_name tenant app ++ codes " waits for nothing\n" else flat_map (plain_lines tenant app) waits

-- the tenant has no live application of that name
abbrev pub refused_text : Name → Name → List ℕ
refused_text tenant app = concat (tenant ∷ codes " has no live application " ∷ app ∷ codes "\n" ∷ [])

-- the text
abbrev pub plain_text : Name → Name → Explained → List ℕ
plain_text tenant app (explained.Refused refusal) = refused_text tenant app
plain_text tenant app (explained.Waits waits) = plain_waits tenant app waits
