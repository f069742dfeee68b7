-- The text of why an application waits: a line for each request, a JSON object in the compact form, with the keys in byte order.
use Rattle.std.specs.Prelude.{ℕ, List, [], ◌∷◌, ◌++◌, map, codes, decimal}
use Rattle.std.specs.List.{flat_map}
use Rattle.json.specs.Token.{Token, begin_array, end_array, key, string as string_token, number as number_token}
use Rattle.serde_json.specs.Data.{Data, object, array, string, member, no_members}
use Rattle.serde_json.specs.View.{items_of}
use Rattle.serde_json.specs.Written.{compact_text}
use Rattle.ynl_resource.specs.declared.names.Name.{Name}
use Rattle.ynl_resource.specs.Texts.{label_text, path_text}
use Rattle.ynl_model.specs.declared.proposals.What.{What}
use Rattle.ynl_model.specs.declared.proposals.What.TheVariants.{Master, Ask}
use Rattle.ynl_model.specs.declared.replies.Reply.TheVariants.{Refused}
use Rattle.ynl_lines.specs.Writing.{count, amount_data, proposal_data, reply_text}
use Rattle.ynl_waits.specs.Steps.{path_of}
use Rattle.ynl_explain.specs.Objects.{tokens_of}
use Rattle.ynl_waits.specs.declared.waits.Turn.{Turn}
use Rattle.ynl_waits.specs.declared.waits.Reason.{Reason}
use Rattle.ynl_waits.specs.declared.waits.Reason.TheVariants as reason
use Rattle.ynl_waits.specs.declared.waits.Request.{Request}
use Rattle.ynl_waits.specs.declared.waits.Wait.{Wait}
use Rattle.ynl_waits.specs.declared.waits.Explained.{Explained}
use Rattle.ynl_waits.specs.declared.waits.Explained.TheVariants as explained

-- a reason that is its word alone
abbrev pub word_data : List ℕ → Data
word_data w = object (member (codes "reason") (string w) no_members)

-- a reason
abbrev pub reason_data : Reason → Data
reason_data reason.Application = word_data (codes "application")
reason_data reason.Nodes = word_data (codes "nodes")
reason_data (reason.Clock label) = object (member (codes "label") (string (label_text label)) (member (codes "reason") (string (codes "clock")) no_members))
reason_data (reason.Maximum queue used maximum) =
    object (member (codes "maximum") (amount_data maximum) (member (codes "queue") (string (path_text (path_of queue)))
    (member (codes "reason") (string (codes "maximum")) (member (codes "used") (amount_data used) no_members))))
reason_data (reason.UserLimit user used limit guaranteed) =
    object (member (codes "guaranteed") (amount_data guaranteed) (member (codes "limit") (amount_data limit)
    (member (codes "reason") (string (codes "user-limit")) (member (codes "used") (amount_data used) (member (codes "user") (string user) no_members)))))
reason_data (reason.MasterShare used limit) =
    object (member (codes "limit") (amount_data limit) (member (codes "reason") (string (codes "master-share")) (member (codes "used") (amount_data used) no_members)))
reason_data (reason.Room label nodes free) =
    object (member (codes "free") (amount_data free) (member (codes "label") (string (label_text label)) (member (codes "nodes") (count nodes)
    (member (codes "reason") (string (codes "room")) no_members))))
reason_data (reason.Turn turn) =
    object (member (codes "ahead") (proposal_data turn.ahead) (member (codes "node") (string turn.node) (member (codes "nodes") (count turn.nodes)
    (member (codes "reason") (string (codes "turn")) no_members))))
reason_data (reason.Next node nodes) =
    object (member (codes "node") (string node) (member (codes "nodes") (count nodes) (member (codes "reason") (string (codes "next")) no_members)))

-- the tokens of a turn behind who is ahead
abbrev pub turn_tokens : Turn → List Token
turn_tokens turn =
    key (codes "node") ∷ string_token turn.node ∷ key (codes "nodes") ∷ number_token (decimal turn.nodes) ∷ key (codes "reason") ∷ string_token (codes "turn") ∷ []

-- the reasons in their order
abbrev pub reasons_data : List Reason → Data
reasons_data reasons = array (items_of (map reason_data reasons))

-- a request for the master of a tenant's application, with its reasons
abbrev pub master_data : Name → Name → Wait → Data
master_data tenant app wait =
    object (member (codes "app") (string app) (member (codes "label") (string (label_text wait.request.label)) (member (codes "memory") (count wait.request.size.memory)
    (member (codes "reasons") (reasons_data wait.reasons) (member (codes "tenant") (string tenant) (member (codes "vcores") (count wait.request.size.vcores)
    (member (codes "what") (string (codes "master")) no_members)))))))

-- an ask at a priority, with its reasons
abbrev pub ask_data : Name → Name → Wait → ℕ → Data
ask_data tenant app wait priority =
    object (member (codes "app") (string app) (member (codes "count") (count wait.request.count) (member (codes "label") (string (label_text wait.request.label))
    (member (codes "memory") (count wait.request.size.memory) (member (codes "priority") (count priority) (member (codes "reasons") (reasons_data wait.reasons)
    (member (codes "tenant") (string tenant) (member (codes "vcores") (count wait.request.size.vcores) (member (codes "what") (string (codes "ask")) no_members)))))))))

-- a request, by what it is for
abbrev pub wait_by : What → Name → Name → Wait → Data
wait_by Master tenant app wait = master_data tenant app wait
wait_by (Ask label priority) tenant app wait = ask_data tenant app wait priority

abbrev pub wait_data : Name → Name → Wait → Data
wait_data tenant app wait = wait_by wait.request.what tenant app wait

-- the line of a request
abbrev pub wait_line : Name → Name → Wait → List ℕ
wait_line tenant app wait = compact_text (wait_data tenant app wait) ++ 10 ∷ []

-- the text: the refusal as a reply, or the lines of the requests
abbrev pub told_text : Name → Name → Explained → List ℕ
told_text tenant app (explained.Refused refusal) = reply_text (Refused refusal) ++ 10 ∷ []
told_text tenant app (explained.Waits waits) = flat_map (wait_line tenant app) waits

-- the tokens of its reasons, under their key
abbrev pub reasons_tokens : List Reason → List Token
reasons_tokens reasons = key (codes "reasons") ∷ begin_array ∷ (flat_map (λ reason. tokens_of (reason_data reason)) reasons ++ end_array ∷ [])

-- the tokens of the members of a request before its reasons, by what it is for
abbrev pub front : What → Name → Request → List Token
front Master app request =
    key (codes "app") ∷ string_token app ∷ key (codes "label") ∷ string_token (label_text request.label)
    ∷ key (codes "memory") ∷ number_token (decimal request.size.memory) ∷ []
front (Ask label priority) app request =
    key (codes "app") ∷ string_token app ∷ key (codes "count") ∷ number_token (decimal request.count) ∷ key (codes "label") ∷ string_token (label_text request.label)
    ∷ key (codes "memory") ∷ number_token (decimal request.size.memory) ∷ key (codes "priority") ∷ number_token (decimal priority) ∷ []

-- and behind them
abbrev pub back : Name → Wait → List ℕ → List Token
back tenant wait what =
    key (codes "tenant") ∷ string_token tenant ∷ key (codes "vcores") ∷ number_token (decimal wait.request.size.vcores) ∷ key (codes "what") ∷ string_token what ∷ []

-- the word of what a request is for
abbrev pub word_of : What → List ℕ
word_of Master = codes "master"
word_of (Ask label priority) = codes "ask"

-- the tokens of the members of a request, by what it is for
abbrev pub inside_tokens : What → Name → Name → Wait → List Token
inside_tokens what tenant app wait = front what app wait.request ++ (reasons_tokens wait.reasons ++ back tenant wait (word_of what))
