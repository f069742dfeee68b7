-- What clusters answer to given lists of events, computed by the definitions.
use Rattle.std.specs.Prelude.{◌≡◌, true, List, [], ◌∷◌, ◌++◌, map, replicate, Some, None, refl}
use Rattle.std.specs.List.{range_with_len}
use Rattle.ynl_resource.specs.Amounts.{amount}
use Rattle.ynl_resource.specs.Names.{root}
use Rattle.ynl_resource.specs.declared.paths.Path.{Path}
use Rattle.ynl_model.specs.Queues.{Config, Inherited}
use Rattle.ynl_resource.specs.declared.refusals.Refusal.TheVariants.{NoSuchLabel, NodeExists, NoSuchNode, SameLabel, NoSuchQueue, NotALeaf, QueueStopped, RootQueue, LabelNotAccessible, TooLarge, NameUsed, TooManyApplications, NoSuchApplication, LabelMismatch, TooManyAsks, NoSuchContainer, IsMaster, ClockSpent, Stale, NotAccessible, NoSuchAsk, NoRoom, PartitionBusy, OverMaximum, OverUserLimit, OverMasterShare, BelowCapacity}
use Rattle.ynl_model.specs.declared.proposals.What.TheVariants.{Master, Ask as Asked}
use Rattle.ynl_model.specs.Events.{replies, replies_to, state_after}
use Rattle.ynl_model.specs.declared.events.Event.{Event}
use Rattle.ynl_model.specs.declared.replies.Reply.{Reply}
use Rattle.ynl_model.specs.declared.replies.Reply.TheVariants.{Done, Refused, Placed, Proposed, Committed, Held}
use Rattle.ynl_laws.proofs.Computed.Opened.{opened}
use Rattle.ynl_laws.specs.Setups.{name, none, gpu, ssd, zzz, eng, ml, etl, mkt, nope, label_row, usual_leaf, queue_row, config_of, c0, c1, c1_with, eng_row, ml_row, reg, lost, relabel, hb, exit, sub, ask, rel, fin, stop, start, poll, use_of, prop, proposal, cmt, max_of, container, one, no_more, uses, pends}

-- what the cluster answers to the second list, after the first
abbrev later : Config → List Event → List Event → List Reply
later c before events = replies c (state_after c before) events

-- two tenants, with a setting changed
abbrev pub c_25 : Config
c_25 = c1_with (label_row "gpu" true) eng_row (record ml_row { leaf = record usual_leaf { minimum_user_limit_percent = 2500 } })

abbrev pub c_one_app : Config
c_one_app = c1_with (label_row "gpu" true) eng_row (record ml_row { leaf = record usual_leaf { maximum_applications = 1 } })

abbrev pub c_limit_2 : Config
c_limit_2 = c1_with (record { name = name "gpu"; exclusive = true; limit = 2 }) eng_row ml_row

abbrev pub c_limit_3 : Config
c_limit_3 = record (c1_with (record { name = name "gpu"; exclusive = true; limit = 3 }) eng_row ml_row) { containers_per_heartbeat = 5 }

abbrev pub c_three : Config
c_three = record c1 { containers_per_heartbeat = 3 }

abbrev pub c_8192 : Config
c_8192 = record c1 { maximum_allocation = amount 8192 4 }

abbrev pub c_eng_60 : Config
c_eng_60 = c1_with (label_row "gpu" true) (record eng_row { maximum = 6000 }) ml_row

-- three queues by thirds
abbrev pub root_a : Path
root_a = name "a" ∷ []

abbrev pub c_thirds : Config
c_thirds = config_of [] (queue_row root_a 3333 Inherited [] ∷ queue_row (name "b" ∷ []) 3333 Inherited [] ∷ queue_row (name "c" ∷ []) 3334 Inherited [] ∷ [])

abbrev pub one_master : List Event
one_master =
    reg "g1" gpu 10000 10 ∷ sub ml "j1" "ann" gpu 1000 1 ∷ hb "g1" ∷ []

abbrev pub second_waits : List Event
second_waits =
    one_master ++ sub ml "j2" "ann" gpu 1000 1 ∷ hb "g1" ∷ []

abbrev pub grown_to_limit : List Event
grown_to_limit =
    second_waits ++ ask "eng" "j1" gpu 1 4 2000 2 ∷ hb "g1" ∷ hb "g1" ∷ hb "g1" ∷ hb "g1" ∷ use_of ml gpu ∷ poll "eng" "j1" gpu ∷ []

abbrev pub leaf_grown : List Event
leaf_grown =
    reg "g1" gpu 10000 10 ∷ sub etl "e1" "ann" gpu 1000 1 ∷ hb "g1" ∷ ask "eng" "e1" gpu 1 3 2000 2 ∷ hb "g1" ∷ hb "g1" ∷ use_of etl gpu ∷ []

abbrev pub guest_waits : List Event
guest_waits =
    reg "g1" gpu 10000 10 ∷ reg "d1" none 10000 10 ∷ reg "s1" ssd 4000 4 ∷ sub ml "x1" "ann" none 1000 1 ∷ hb "d1" ∷ ask "eng" "x1" none 1 2 2000 2
    ∷ hb "g1" ∷ []

abbrev pub proposed_twice : List Event
proposed_twice =
    reg "g1" gpu 10000 10 ∷ reg "g2" gpu 10000 10 ∷ sub etl "e1" "ann" gpu 1000 1 ∷ hb "g1" ∷ ask "eng" "e1" gpu 1 2 5000 4 ∷ prop "g1" ∷ prop "g2"
    ∷ cmt "g1" 3 "eng" "e1" (Asked gpu 1) 5000 4 ∷ cmt "g2" 2 "eng" "e1" (Asked gpu 1) 5000 4 ∷ []

abbrev pub relabelled : List Event
relabelled =
    reg "d1" none 10000 10 ∷ sub ml "x1" "ann" none 1000 1 ∷ hb "d1" ∷ relabel "d1" gpu ∷ sub ml "j1" "bob" gpu 1000 1 ∷ hb "d1"
    ∷ relabel "d1" none ∷ hb "d1" ∷ []

abbrev pub finished : List Event
finished =
    sub ml "j1" "ann" none 100 1 ∷ sub mkt "j1" "mia" ssd 100 1 ∷ sub ml "j2" "ann" gpu 100 1 ∷ sub etl "j1" "ann" gpu 100 1 ∷ fin "eng" "j1"
    ∷ sub ml "j2" "ann" gpu 100 1 ∷ sub etl "j1" "ann" gpu 100 1 ∷ []

-- a master is placed, and its id is the clock after that
master-placed : replies_to c1 one_master
    ≡ Done ∷ Done ∷ one (container gpu 2 "g1" "eng" "j1" Master 1000 1) ∷ []
unfolding opened
master-placed = refl

-- the same with one queue
one-queue : replies_to c0 (reg "g1" gpu 10000 10 ∷ sub eng "j1" "ann" gpu 1000 1 ∷ hb "g1" ∷ [])
    ≡ Done ∷ Done ∷ one (container gpu 2 "g1" "eng" "j1" Master 1000 1) ∷ []
unfolding opened
one-queue = refl

-- the master share is used up
share-used-up : later c1 one_master (sub ml "j2" "ann" gpu 1000 1 ∷ hb "g1" ∷ [])
    ≡ Done ∷ no_more ∷ []
unfolding opened
share-used-up = refl

-- a first master may be larger than the master share
first-master : replies_to c1 (reg "g1" gpu 10000 10 ∷ sub ml "j1" "ann" gpu 3000 1 ∷ hb "g1" ∷ [])
    ≡ Done ∷ Done ∷ one (container gpu 2 "g1" "eng" "j1" Master 3000 1) ∷ []
unfolding opened
first-master = refl

-- a queue grows to its user limit; usage and poll
user-limit : later c1 second_waits (ask "eng" "j1" gpu 1 4 2000 2 ∷ hb "g1" ∷ hb "g1" ∷ hb "g1" ∷ hb "g1" ∷ use_of ml gpu ∷ poll "eng" "j1" gpu ∷ [])
    ≡ Done ∷ one (container gpu 3 "g1" "eng" "j1" (Asked gpu 1) 2000 2) ∷ one (container gpu 4 "g1" "eng" "j1" (Asked gpu 1) 2000 2)
    ∷ one (container gpu 5 "g1" "eng" "j1" (Asked gpu 1) 2000 2) ∷ no_more ∷ uses 7000 7 7000 7 10000 10 1000 1 0 0
    ∷ Held (container gpu 2 "g1" "eng" "j1" Master 1000 1 ∷ container gpu 3 "g1" "eng" "j1" (Asked gpu 1) 2000 2
    ∷ container gpu 4 "g1" "eng" "j1" (Asked gpu 1) 2000 2 ∷ container gpu 5 "g1" "eng" "j1" (Asked gpu 1) 2000 2 ∷ []) (pends 1 1 2000 2 ∷ [])
    ∷ []
unfolding opened
user-limit = refl

-- a leaf stops at its maximum
leaf-maximum : replies_to c1 (leaf_grown ++ prop "g1" ∷ cmt "g1" 4 "eng" "e1" (Asked gpu 1) 2000 2 ∷ [])
    ≡ Done ∷ Done ∷ one (container gpu 2 "g1" "eng" "e1" Master 1000 1) ∷ Done ∷ one (container gpu 3 "g1" "eng" "e1" (Asked gpu 1) 2000 2)
    ∷ one (container gpu 4 "g1" "eng" "e1" (Asked gpu 1) 2000 2) ∷ uses 5000 5 3000 3 5000 5 1000 1 0 0 ∷ Proposed None ∷ Refused OverMaximum ∷ []
unfolding opened
leaf-maximum = refl

-- two users share, each by half
two-users : replies_to c_25 (reg "g1" gpu 10000 10 ∷ sub ml "a1" "ann" gpu 1000 1 ∷ sub ml "b1" "bob" gpu 1000 1 ∷ hb "g1" ∷ ask "eng" "a1" gpu 1 1 2000 1
    ∷ hb "g1" ∷ ask "eng" "a1" gpu 1 1 1000 1 ∷ hb "g1" ∷ cmt "g1" 3 "eng" "a1" (Asked gpu 1) 1000 1 ∷ [])
    ≡ Done ∷ Done ∷ Done ∷ one (container gpu 2 "g1" "eng" "a1" Master 1000 1) ∷ Done ∷ one (container gpu 3 "g1" "eng" "a1" (Asked gpu 1) 2000 1)
    ∷ Done ∷ no_more ∷ Refused OverUserLimit ∷ []
unfolding opened
two-users = refl

-- four users share, each by a quarter
four-users : replies_to c_25 (reg "g1" gpu 10000 10 ∷ sub ml "a1" "ann" gpu 1000 1 ∷ sub ml "b1" "bob" gpu 1000 1 ∷ sub ml "c1" "cid" gpu 1000 1
    ∷ sub ml "d1" "dan" gpu 1000 1 ∷ hb "g1" ∷ ask "eng" "a1" gpu 1 1 1000 1 ∷ hb "g1" ∷ ask "eng" "a1" gpu 1 1 750 1 ∷ hb "g1" ∷ [])
    ≡ Done ∷ Done ∷ Done ∷ Done ∷ Done ∷ one (container gpu 2 "g1" "eng" "a1" Master 1000 1) ∷ Done ∷ no_more ∷ Done
    ∷ one (container gpu 3 "g1" "eng" "a1" (Asked gpu 1) 750 1) ∷ []
unfolding opened
four-users = refl

-- refusals of submit, stop and start
submits-refused : replies_to c1 (sub mkt "m1" "mia" gpu 100 1 ∷ sub mkt "m1" "mia" zzz 100 1 ∷ sub eng "m1" "mia" gpu 100 1 ∷ sub nope "m1" "mia" gpu 100 1
    ∷ stop root ∷ stop eng ∷ sub ml "j1" "ann" zzz 100 1 ∷ start eng ∷ [])
    ≡ Refused LabelNotAccessible ∷ Refused NoSuchLabel ∷ Refused NotALeaf ∷ Refused NoSuchQueue ∷ Refused RootQueue ∷ Done ∷ Refused QueueStopped
    ∷ Done ∷ []
unfolding opened
submits-refused = refl

-- a guest comes only where nothing is eligible, and not to an exclusive partition
guest : replies_to c1 (guest_waits ++ hb "s1" ∷ use_of mkt ssd ∷ sub mkt "m1" "mia" ssd 1000 1 ∷ cmt "s1" 2 "eng" "x1" (Asked none 1) 2000 2 ∷ hb "s1"
    ∷ hb "s1" ∷ use_of ml ssd ∷ [])
    ≡ Done ∷ Done ∷ Done ∷ Done ∷ one (container none 2 "d1" "eng" "x1" Master 1000 1) ∷ Done ∷ no_more
    ∷ one (container ssd 2 "s1" "eng" "x1" (Asked none 1) 2000 2) ∷ uses 0 0 4000 4 4000 4 0 0 0 0 ∷ Done ∷ Refused PartitionBusy
    ∷ one (container ssd 3 "s1" "mkt" "m1" Master 1000 1) ∷ no_more ∷ uses 0 0 0 0 0 0 0 0 2000 2 ∷ []
unfolding opened
guest = refl

-- a proposal is committed once, and not after its node was lost
committed-once : later c1 one_master (ask "eng" "j1" gpu 1 2 2000 2 ∷ prop "g1" ∷ prop "g1" ∷ cmt "g1" 2 "eng" "j1" (Asked gpu 1) 2000 2
    ∷ cmt "g1" 2 "eng" "j1" (Asked gpu 1) 2000 2 ∷ prop "g1" ∷ lost "g1" ∷ reg "g1" gpu 10000 10 ∷ cmt "g1" 3 "eng" "j1" (Asked gpu 1) 2000 2 ∷ [])
    ≡ Done ∷ Proposed (Some (proposal "g1" 2 "eng" "j1" (Asked gpu 1) 2000 2)) ∷ Proposed (Some (proposal "g1" 2 "eng" "j1" (Asked gpu 1) 2000 2))
    ∷ Committed (container gpu 3 "g1" "eng" "j1" (Asked gpu 1) 2000 2) ∷ Refused Stale
    ∷ Proposed (Some (proposal "g1" 3 "eng" "j1" (Asked gpu 1) 2000 2)) ∷ Done ∷ Done ∷ Refused Stale ∷ []
unfolding opened
committed-once = refl

-- the stamp of the new node
new-stamp : later c1 (one_master ++ ask "eng" "j1" gpu 1 2 2000 2 ∷ prop "g1" ∷ prop "g1" ∷ cmt "g1" 2 "eng" "j1" (Asked gpu 1) 2000 2
    ∷ cmt "g1" 2 "eng" "j1" (Asked gpu 1) 2000 2 ∷ prop "g1" ∷ lost "g1" ∷ reg "g1" gpu 10000 10 ∷ []) (sub ml "j2" "ann" gpu 1000 1 ∷ prop "g1"
    ∷ [])
    ≡ Done ∷ Proposed (Some (proposal "g1" 4 "eng" "j1" Master 1000 1)) ∷ []
unfolding opened
new-stamp = refl

-- the maximum is tested again at the commit
maximum-at-commit : replies_to c1 proposed_twice
    ≡ Done ∷ Done ∷ Done ∷ one (container gpu 3 "g1" "eng" "e1" Master 1000 1) ∷ Done
    ∷ Proposed (Some (proposal "g1" 3 "eng" "e1" (Asked gpu 1) 5000 4)) ∷ Proposed (Some (proposal "g2" 2 "eng" "e1" (Asked gpu 1) 5000 4))
    ∷ Committed (container gpu 4 "g1" "eng" "e1" (Asked gpu 1) 5000 4) ∷ Refused OverMaximum ∷ []
unfolding opened
maximum-at-commit = refl

-- a queue stands above its maximum after a loss
above-maximum : later c1 proposed_twice (lost "g2" ∷ use_of etl gpu ∷ ask "eng" "e1" gpu 2 1 500 1 ∷ hb "g1" ∷ cmt "g1" 4 "eng" "e1" (Asked gpu 2) 500 1
    ∷ poll "eng" "e1" gpu ∷ [])
    ≡ Done ∷ uses 6000 5 3000 3 5000 5 1000 1 0 0 ∷ Done ∷ no_more ∷ Refused OverMaximum ∷ Held (container gpu 3 "g1" "eng" "e1" Master 1000 1
    ∷ container gpu 4 "g1" "eng" "e1" (Asked gpu 1) 5000 4 ∷ []) (pends 1 1 5000 4 ∷ pends 2 1 500 1 ∷ []) ∷ []
unfolding opened
above-maximum = refl

-- a relabelled node loses its containers, and an application waits again
node-relabelled : replies_to c1 relabelled
    ≡ Done ∷ Done ∷ one (container none 2 "d1" "eng" "x1" Master 1000 1) ∷ Done ∷ Done ∷ one (container gpu 2 "d1" "eng" "j1" Master 1000 1) ∷ Done
    ∷ one (container none 4 "d1" "eng" "x1" Master 1000 1) ∷ []
unfolding opened
node-relabelled = refl

-- names stay used, and a leaf has so many live applications at most
names-used : replies_to c_one_app finished
    ≡ Done ∷ Done ∷ Refused TooManyApplications ∷ Refused NameUsed ∷ Done ∷ Done ∷ Refused NameUsed ∷ []
unfolding opened
names-used = refl

-- where the clock is spent nothing is placed, and all else goes on
clock-spent : later c_limit_2 one_master (hb "g1" ∷ prop "g1" ∷ cmt "g1" 2 "eng" "j9" (Asked gpu 1) 100 1 ∷ fin "eng" "j1" ∷ reg "g2" gpu 1 1 ∷ poll "eng" "j1" gpu
    ∷ [])
    ≡ Refused ClockSpent ∷ Refused ClockSpent ∷ Refused ClockSpent ∷ Done ∷ Done ∷ Refused NoSuchApplication ∷ []
unfolding opened
clock-spent = refl

-- a stranger is told nothing of a partition
stranger : later c1 one_master (sub mkt "m1" "mia" ssd 100 1 ∷ cmt "g1" 2 "mkt" "m1" Master 100 1 ∷ rel "mkt" gpu 2 ∷ rel "eng" gpu 2 ∷ rel "eng" gpu 9 ∷ [])
    ≡ Done ∷ Refused NotAccessible ∷ Refused NoSuchContainer ∷ Refused IsMaster ∷ Refused NoSuchContainer ∷ []
unfolding opened
stranger = refl

-- refusals of node events
nodes-refused : replies_to c1 (reg "g1" zzz 1 1 ∷ reg "g1" gpu 1 1 ∷ reg "g1" gpu 1 1 ∷ relabel "g1" gpu ∷ relabel "g9" gpu ∷ lost "g9" ∷ hb "g9" ∷ [])
    ≡ Refused NoSuchLabel ∷ Done ∷ Refused NodeExists ∷ Refused SameLabel ∷ Refused NoSuchNode ∷ Refused NoSuchNode ∷ Refused NoSuchNode ∷ []
unfolding opened
nodes-refused = refl

-- ends move the clock, and an application whose master ended waits in its old place
ends : later c1 grown_to_limit (exit "g1" gpu 9 ∷ exit "g1" gpu 2 ∷ hb "g1" ∷ rel "eng" gpu 3 ∷ hb "g1" ∷ fin "eng" "j1" ∷ hb "g1" ∷ [])
    ≡ Refused NoSuchContainer ∷ Done ∷ one (container gpu 7 "g1" "eng" "j1" Master 1000 1) ∷ Done
    ∷ one (container gpu 9 "g1" "eng" "j1" (Asked gpu 1) 2000 2) ∷ Done ∷ one (container gpu 14 "g1" "eng" "j2" Master 1000 1) ∷ []
unfolding opened
ends = refl

-- leaves are served by their ratios
ratios : replies_to c1 (reg "g1" gpu 10000 10 ∷ sub ml "j1" "ann" gpu 700 1 ∷ sub etl "e1" "bob" gpu 300 1 ∷ hb "g1" ∷ hb "g1"
    ∷ ask "eng" "j1" gpu 1 9 100 1 ∷ ask "eng" "e1" gpu 1 9 100 1 ∷ hb "g1" ∷ hb "g1" ∷ hb "g1" ∷ hb "g1" ∷ hb "g1" ∷ [])
    ≡ Done ∷ Done ∷ Done ∷ one (container gpu 2 "g1" "eng" "e1" Master 300 1) ∷ one (container gpu 3 "g1" "eng" "j1" Master 700 1) ∷ Done ∷ Done
    ∷ one (container gpu 4 "g1" "eng" "e1" (Asked gpu 1) 100 1) ∷ one (container gpu 5 "g1" "eng" "j1" (Asked gpu 1) 100 1)
    ∷ one (container gpu 6 "g1" "eng" "j1" (Asked gpu 1) 100 1) ∷ one (container gpu 7 "g1" "eng" "j1" (Asked gpu 1) 100 1)
    ∷ one (container gpu 8 "g1" "eng" "e1" (Asked gpu 1) 100 1) ∷ []
unfolding opened
ratios = refl

-- queues are ordered level by level
level-by-level : replies_to c1 (reg "d1" none 100000 100 ∷ sub etl "e1" "ann" none 3000 1 ∷ sub mkt "m1" "mia" none 1000 1 ∷ sub ml "j1" "bob" none 1000 1
    ∷ hb "d1" ∷ hb "d1" ∷ ask "mkt" "m1" none 1 1 1000 1 ∷ hb "d1" ∷ hb "d1" ∷ [])
    ≡ Done ∷ Done ∷ Done ∷ Done ∷ one (container none 2 "d1" "eng" "e1" Master 3000 1) ∷ one (container none 3 "d1" "mkt" "m1" Master 1000 1) ∷ Done
    ∷ one (container none 4 "d1" "mkt" "m1" (Asked none 1) 1000 1) ∷ one (container none 5 "d1" "eng" "j1" Master 1000 1) ∷ []
unfolding opened
level-by-level = refl

-- refusals of ask, and at most 64 asks of a label
asks-refused : later c_8192 one_master (sub ml "j3" "ann" gpu 9000 1 ∷ ask "eng" "j9" gpu 1 1 1 1 ∷ ask "eng" "j1" zzz 1 1 1 1 ∷ ask "eng" "j1" ssd 1 1 1 1
    ∷ ask "eng" "j1" gpu 1 1 9000 1 ∷ map (λ priority. ask "eng" "j1" gpu priority 1 1 1) (range_with_len 1 65) ++ ask "eng" "j1" gpu 65 0 1 1 ∷ [])
    ≡ Refused TooLarge ∷ Refused NoSuchApplication ∷ Refused NoSuchLabel ∷ Refused LabelMismatch ∷ Refused TooLarge ∷ replicate 64 Done
    ++ Refused TooManyAsks ∷ Done ∷ []
unfolding opened
asks-refused = refl

-- register, submit and heartbeat
row-three-events : replies_to c0 (reg "g1" zzz 1 1 ∷ reg "g1" gpu 10000 10 ∷ reg "g1" gpu 10000 10 ∷ sub nope "j1" "ann" gpu 1 1 ∷ sub root "j1" "ann" gpu 1 1
    ∷ sub eng "j1" "ann" zzz 1 1 ∷ sub eng "j1" "ann" gpu 1000 1 ∷ sub eng "j1" "ann" gpu 1000 1 ∷ hb "g9" ∷ hb "g1" ∷ hb "g1" ∷ [])
    ≡ Refused NoSuchLabel ∷ Done ∷ Refused NodeExists ∷ Refused NoSuchQueue ∷ Refused NotALeaf ∷ Refused NoSuchLabel ∷ Done ∷ Refused NameUsed
    ∷ Refused NoSuchNode ∷ one (container gpu 2 "g1" "eng" "j1" Master 1000 1) ∷ no_more ∷ []
unfolding opened
row-three-events = refl

-- the life of an application
row-applications : replies_to c1 (reg "g1" gpu 10000 10 ∷ sub ml "j1" "ann" gpu 1000 1 ∷ hb "g1" ∷ ask "eng" "j1" gpu 1 2 2000 2 ∷ poll "eng" "j1" gpu ∷ hb "g1"
    ∷ poll "eng" "j1" gpu ∷ ask "eng" "j1" gpu 1 0 2000 2 ∷ hb "g1" ∷ rel "eng" gpu 3 ∷ exit "g1" gpu 2 ∷ hb "g1" ∷ fin "eng" "j1"
    ∷ poll "eng" "j1" gpu ∷ fin "eng" "j1" ∷ rel "eng" gpu 6 ∷ [])
    ≡ Done ∷ Done ∷ one (container gpu 2 "g1" "eng" "j1" Master 1000 1) ∷ Done ∷ Held (container gpu 2 "g1" "eng" "j1" Master 1000 1
    ∷ []) (pends 1 2 2000 2 ∷ []) ∷ one (container gpu 3 "g1" "eng" "j1" (Asked gpu 1) 2000 2)
    ∷ Held (container gpu 2 "g1" "eng" "j1" Master 1000 1 ∷ container gpu 3 "g1" "eng" "j1" (Asked gpu 1) 2000 2 ∷ []) (pends 1 1 2000 2 ∷ [])
    ∷ Done ∷ no_more ∷ Done ∷ Done ∷ one (container gpu 6 "g1" "eng" "j1" Master 1000 1) ∷ Done ∷ Refused NoSuchApplication
    ∷ Refused NoSuchApplication ∷ Refused NoSuchContainer ∷ []
unfolding opened
row-applications = refl

-- lower priority numbers first, and a count is replaced
row-priorities : later c1 one_master (ask "eng" "j1" gpu 2 1 100 1 ∷ ask "eng" "j1" gpu 1 5 200 1 ∷ ask "eng" "j1" gpu 1 1 200 1 ∷ hb "g1" ∷ hb "g1" ∷ hb "g1" ∷ [])
    ≡ Done ∷ Done ∷ Done ∷ one (container gpu 3 "g1" "eng" "j1" (Asked gpu 1) 200 1) ∷ one (container gpu 4 "g1" "eng" "j1" (Asked gpu 2) 100 1)
    ∷ no_more ∷ []
unfolding opened
row-priorities = refl

-- one heartbeat places three
row-many-per-heartbeat : replies_to c_three (reg "g1" gpu 10000 10 ∷ sub ml "j1" "ann" gpu 1000 1 ∷ ask "eng" "j1" gpu 1 5 2000 2 ∷ hb "g1" ∷ [])
    ≡ Done ∷ Done ∷ Done ∷ Placed (container gpu 2 "g1" "eng" "j1" Master 1000 1 ∷ container gpu 3 "g1" "eng" "j1" (Asked gpu 1) 2000 2
    ∷ container gpu 4 "g1" "eng" "j1" (Asked gpu 1) 2000 2 ∷ []) ∷ []
unfolding opened
row-many-per-heartbeat = refl

-- the maximum of a queue above the leaf
row-maximum-above : replies_to c_eng_60 (reg "d1" none 100000 100 ∷ sub ml "j1" "bob" none 6000 6 ∷ ask "eng" "j1" none 1 1 14000 1 ∷ hb "d1" ∷ hb "d1"
    ∷ sub etl "e1" "ann" none 3000 1 ∷ ask "eng" "e1" none 1 4 10000 1 ∷ hb "d1" ∷ hb "d1" ∷ hb "d1" ∷ hb "d1" ∷ hb "d1" ∷ use_of eng none ∷ [])
    ≡ Done ∷ Done ∷ Done ∷ one (container none 2 "d1" "eng" "j1" Master 6000 6) ∷ one (container none 3 "d1" "eng" "j1" (Asked none 1) 14000 1)
    ∷ Done ∷ Done ∷ one (container none 4 "d1" "eng" "e1" Master 3000 1) ∷ one (container none 5 "d1" "eng" "e1" (Asked none 1) 10000 1)
    ∷ one (container none 6 "d1" "eng" "e1" (Asked none 1) 10000 1) ∷ one (container none 7 "d1" "eng" "e1" (Asked none 1) 10000 1) ∷ no_more
    ∷ uses 53000 11 60000 60 60000 60 9000 7 0 0 ∷ []
unfolding opened
row-maximum-above = refl

-- users are counted by label
row-users-by-label : replies_to c_25 (reg "g1" gpu 10000 10 ∷ sub ml "a1" "ann" gpu 1000 1 ∷ sub ml "b1" "bob" none 1000 1 ∷ hb "g1" ∷ ask "eng" "a1" gpu 1 2 3000 3
    ∷ hb "g1" ∷ hb "g1" ∷ [])
    ≡ Done ∷ Done ∷ Done ∷ one (container gpu 2 "g1" "eng" "a1" Master 1000 1) ∷ Done ∷ one (container gpu 3 "g1" "eng" "a1" (Asked gpu 1) 3000 3)
    ∷ one (container gpu 4 "g1" "eng" "a1" (Asked gpu 1) 3000 3) ∷ []
unfolding opened
row-users-by-label = refl

-- a lost node takes the master, and not the rest
row-loss : later c1 one_master (ask "eng" "j1" gpu 1 1 2000 2 ∷ reg "g2" gpu 10000 10 ∷ hb "g2" ∷ lost "g1" ∷ poll "eng" "j1" gpu ∷ hb "g2" ∷ [])
    ≡ Done ∷ Done ∷ one (container gpu 4 "g2" "eng" "j1" (Asked gpu 1) 2000 2) ∷ Done ∷ Held (container gpu 4 "g2" "eng" "j1" (Asked gpu 1) 2000 2
    ∷ []) ([]) ∷ one (container gpu 5 "g2" "eng" "j1" Master 1000 1) ∷ []
unfolding opened
row-loss = refl

-- refusals of commit
row-commits : later c1 second_waits (cmt "g9" 2 "eng" "j2" Master 1000 1 ∷ cmt "g1" 1 "eng" "j2" Master 1000 1 ∷ cmt "g1" 2 "abc" "j2" Master 1000 1
    ∷ cmt "g1" 2 "eng" "j1" (Asked none 1) 1 1 ∷ cmt "g1" 2 "eng" "j9" Master 1 1 ∷ cmt "g1" 2 "eng" "j2" Master 900 1
    ∷ cmt "g1" 2 "eng" "j2" Master 1000 1 ∷ ask "eng" "j1" gpu 1 1 9500 1 ∷ cmt "g1" 2 "eng" "j1" (Asked gpu 1) 9500 1 ∷ [])
    ≡ Refused NoSuchNode ∷ Refused Stale ∷ Refused NotAccessible ∷ Refused NotAccessible ∷ Refused NoSuchApplication ∷ Refused NoSuchAsk
    ∷ Refused OverMasterShare ∷ Done ∷ Refused NoRoom ∷ []
unfolding opened
row-commits = refl

-- the clock is spent within a heartbeat
row-spent-within : replies_to c_limit_3 (reg "g1" gpu 10000 10 ∷ sub ml "j1" "ann" gpu 1000 1 ∷ ask "eng" "j1" gpu 1 5 1000 1 ∷ hb "g1" ∷ hb "g1"
    ∷ rel "eng" gpu 3 ∷ cmt "g1" 3 "eng" "j1" (Asked gpu 1) 1000 1 ∷ reg "g2" gpu 1 1 ∷ [])
    ≡ Done ∷ Done ∷ Done ∷ Placed (container gpu 2 "g1" "eng" "j1" Master 1000 1 ∷ container gpu 3 "g1" "eng" "j1" (Asked gpu 1) 1000 1 ∷ [])
    ∷ Refused ClockSpent ∷ Done ∷ Refused ClockSpent ∷ Done ∷ []
unfolding opened
row-spent-within = refl

-- a proposal twice, and one of a stranger
row-forged : later c1 one_master (ask "eng" "j1" gpu 1 2 100 1 ∷ cmt "g1" 2 "eng" "j1" (Asked gpu 1) 100 1 ∷ cmt "g1" 2 "eng" "j1" (Asked gpu 1) 100 1
    ∷ cmt "g1" 3 "mkt" "j1" (Asked gpu 1) 100 1 ∷ [])
    ≡ Done ∷ Committed (container gpu 3 "g1" "eng" "j1" (Asked gpu 1) 100 1) ∷ Refused Stale ∷ Refused NotAccessible ∷ []
unfolding opened
row-forged = refl

-- shares in hundredths of a percent
row-hundredths : replies_to c_thirds (reg "d1" none 10000 10 ∷ use_of root_a none ∷ [])
    ≡ Done ∷ uses 0 0 3333 3 10000 10 0 0 0 0 ∷ []
unfolding opened
row-hundredths = refl

-- a maximum that changes
row-maximum : later c1 leaf_grown (max_of etl gpu 8000 ∷ ask "eng" "e1" gpu 1 1 1000 1 ∷ prop "g1" ∷ cmt "g1" 4 "eng" "e1" (Asked gpu 1) 1000 1 ∷ use_of etl gpu
    ∷ max_of etl gpu 4000 ∷ use_of etl gpu ∷ ask "eng" "e1" gpu 1 1 100 1 ∷ hb "g1" ∷ cmt "g1" 5 "eng" "e1" (Asked gpu 1) 100 1 ∷ [])
    ≡ Done ∷ Done ∷ Proposed (Some (proposal "g1" 4 "eng" "e1" (Asked gpu 1) 1000 1))
    ∷ Committed (container gpu 5 "g1" "eng" "e1" (Asked gpu 1) 1000 1) ∷ uses 6000 6 3000 3 8000 8 1000 1 0 0 ∷ Done
    ∷ uses 6000 6 3000 3 4000 4 1000 1 0 0 ∷ Done ∷ no_more ∷ Refused OverMaximum ∷ []
unfolding opened
row-maximum = refl

-- refusals of maximum
row-maximum-refused : replies_to c1 (max_of nope gpu 5000 ∷ max_of root gpu 5000 ∷ max_of etl zzz 4000 ∷ max_of etl ssd 4000 ∷ max_of etl gpu 2999
    ∷ max_of etl gpu 3000 ∷ [])
    ≡ Refused NoSuchQueue ∷ Refused RootQueue ∷ Refused NoSuchLabel ∷ Refused LabelNotAccessible ∷ Refused BelowCapacity ∷ Done ∷ []
unfolding opened
row-maximum-refused = refl
