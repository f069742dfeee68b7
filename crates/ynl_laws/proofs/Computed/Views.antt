-- What the view of a partition keeps, and that the tenant's own cluster answers the same.
use Rattle.std.specs.Prelude.{◌≡◌, ℕ, true, false, List, [], ◌∷◌, ◌++◌, map, Some, refl}
use Rattle.ynl_resource.specs.Amounts.{amount}
use Rattle.ynl_resource.specs.Refusals.{first_that_holds}
use Rattle.ynl_resource.specs.declared.refusals.Refusal.TheVariants.{NameUsed, TooManyApplications, NoSuchContainer, IsMaster, ClockSpent, Stale, NotAccessible, NoSuchApplication, OverMaximum}
use Rattle.ynl_model.specs.Queues.{Config, Inherited, Listed}
use Rattle.ynl_model.specs.Accepted.{is_accepted, tree_faults}
use Rattle.ynl_model.specs.declared.faults.TreeFault.TheVariants.{NotSubset, MaximumBelowCapacity, SumNot100, NoSuchLabel as NoSuchLabelFault}
use Rattle.ynl_model.specs.Limits.{master_limit}
use Rattle.ynl_model.specs.declared.proposals.What.TheVariants.{Master, Ask as Asked}
use Rattle.ynl_model.specs.Events.{replies_to, state_after}
use Rattle.ynl_model.specs.declared.events.Event.{Event}
use Rattle.ynl_model.specs.declared.replies.Reply.{Reply}
use Rattle.ynl_model.specs.declared.replies.Reply.TheVariants.{Done, Refused, Proposed, Committed}
use Rattle.ynl_model.specs.View.{view, events_of, places_of, at_places, is_sole, restrict, Seen, seen, track}
use Rattle.ynl_model.specs.Promises.{without_stamp}
use Rattle.ynl_laws.proofs.Computed.Opened.{opened}
use Rattle.ynl_laws.specs.Setups.{name, none, gpu, ssd, zzz, ml, etl, mkt, label_row, usual_leaf, queue_row, share, config_of, c0, c1, c1_with, eng_row, ml_row, mkt_row, etl_row, reg, lost, hb, sub, ask, rel, fin, poll, use_of, prop, proposal, cmt, max_of, container, one, no_more, uses}
use Rattle.ynl_laws.proofs.Computed.Rows.{one_master, grown_to_limit, relabelled, finished, c_one_app, c_limit_2, c_thirds, root_a}

-- the events and the places that eng and gpu have of a list, the replies there, and the replies of eng's own cluster to the view
record Sees (c : Config) (events : List Event) (places : List ℕ) (kept : List Event) (answers : List Reply) : Type 0 where
  places_are : places_of (view c events (name "eng") gpu) ≡ places
  events_are : events_of (view c events (name "eng") gpu) ≡ kept
  replies_are : at_places (replies_to c events) places ≡ map Some answers
  own_replies_are : replies_to (restrict c (name "eng")) kept ≡ answers

-- a node that is relabelled into the partition registers there, and one that is relabelled away is lost
view-relabelled : Sees c1 (relabelled)
    (1 ∷ 3 ∷ 4 ∷ 5 ∷ 6 ∷ [])
    (sub ml "x1" "ann" none 1000 1 ∷ reg "d1" gpu 10000 10 ∷ sub ml "j1" "bob" gpu 1000 1 ∷ hb "d1" ∷ lost "d1" ∷ [])
    (Done ∷ Done ∷ Done ∷ one (container gpu 2 "d1" "eng" "j1" Master 1000 1) ∷ Done ∷ [])
unfolding opened
view-relabelled = record { places_are = refl; events_are = refl; replies_are = refl; own_replies_are = refl }

-- another tenant is not seen
view-names : Sees c_one_app (finished)
    (0 ∷ 2 ∷ 3 ∷ 4 ∷ 5 ∷ 6 ∷ [])
    (sub ml "j1" "ann" none 100 1 ∷ sub ml "j2" "ann" gpu 100 1 ∷ sub etl "j1" "ann" gpu 100 1 ∷ fin "eng" "j1" ∷ sub ml "j2" "ann" gpu 100 1
    ∷ sub etl "j1" "ann" gpu 100 1 ∷ [])
    (Done ∷ Refused TooManyApplications ∷ Refused NameUsed ∷ Done ∷ Done ∷ Refused NameUsed ∷ [])
unfolding opened
view-names = record { places_are = refl; events_are = refl; replies_are = refl; own_replies_are = refl }

-- a spent clock
view-spent : Sees c_limit_2 (one_master ++ hb "g1" ∷ prop "g1" ∷ cmt "g1" 2 "eng" "j9" (Asked gpu 1) 100 1 ∷ fin "eng" "j1" ∷ reg "g2" gpu 1 1 ∷ poll "eng" "j1" gpu ∷ [])
    (0 ∷ 1 ∷ 2 ∷ 3 ∷ 4 ∷ 5 ∷ 6 ∷ 7 ∷ 8 ∷ [])
    (reg "g1" gpu 10000 10 ∷ sub ml "j1" "ann" gpu 1000 1 ∷ hb "g1" ∷ hb "g1" ∷ prop "g1" ∷ cmt "g1" 2 "eng" "j9" (Asked gpu 1) 100 1
    ∷ fin "eng" "j1" ∷ reg "g2" gpu 1 1 ∷ poll "eng" "j1" gpu ∷ [])
    (Done ∷ Done ∷ one (container gpu 2 "g1" "eng" "j1" Master 1000 1) ∷ Refused ClockSpent ∷ Refused ClockSpent ∷ Refused ClockSpent ∷ Done ∷ Done
    ∷ Refused NoSuchApplication ∷ [])
unfolding opened
view-spent = record { places_are = refl; events_are = refl; replies_are = refl; own_replies_are = refl }

-- what a stranger commits on the partition is seen, and refused alike
view-stranger : Sees c1 (one_master ++ sub mkt "m1" "mia" ssd 100 1 ∷ cmt "g1" 2 "mkt" "m1" Master 100 1 ∷ rel "mkt" gpu 2 ∷ rel "eng" gpu 2 ∷ rel "eng" gpu 9 ∷ [])
    (0 ∷ 1 ∷ 2 ∷ 4 ∷ 6 ∷ 7 ∷ [])
    (reg "g1" gpu 10000 10 ∷ sub ml "j1" "ann" gpu 1000 1 ∷ hb "g1" ∷ cmt "g1" 2 "mkt" "m1" Master 100 1 ∷ rel "eng" gpu 2 ∷ rel "eng" gpu 9 ∷ [])
    (Done ∷ Done ∷ one (container gpu 2 "g1" "eng" "j1" Master 1000 1) ∷ Refused NotAccessible ∷ Refused IsMaster ∷ Refused NoSuchContainer ∷ [])
unfolding opened
view-stranger = record { places_are = refl; events_are = refl; replies_are = refl; own_replies_are = refl }

-- forged proposals
view-forged : Sees c1 (one_master ++ ask "eng" "j1" gpu 1 2 100 1 ∷ cmt "g1" 2 "eng" "j1" (Asked gpu 1) 100 1 ∷ cmt "g1" 2 "eng" "j1" (Asked gpu 1) 100 1
    ∷ cmt "g1" 3 "mkt" "j1" (Asked gpu 1) 100 1 ∷ [])
    (0 ∷ 1 ∷ 2 ∷ 3 ∷ 4 ∷ 5 ∷ 6 ∷ [])
    (reg "g1" gpu 10000 10 ∷ sub ml "j1" "ann" gpu 1000 1 ∷ hb "g1" ∷ ask "eng" "j1" gpu 1 2 100 1 ∷ cmt "g1" 2 "eng" "j1" (Asked gpu 1) 100 1
    ∷ cmt "g1" 2 "eng" "j1" (Asked gpu 1) 100 1 ∷ cmt "g1" 3 "mkt" "j1" (Asked gpu 1) 100 1 ∷ [])
    (Done ∷ Done ∷ one (container gpu 2 "g1" "eng" "j1" Master 1000 1) ∷ Done ∷ Committed (container gpu 3 "g1" "eng" "j1" (Asked gpu 1) 100 1)
    ∷ Refused Stale ∷ Refused NotAccessible ∷ [])
unfolding opened
view-forged = record { places_are = refl; events_are = refl; replies_are = refl; own_replies_are = refl }

-- another tenant works elsewhere between the events
view-elsewhere : Sees c1 (reg "s1" ssd 4000 4 ∷ sub mkt "m0" "mia" ssd 100 1 ∷ hb "s1" ∷ ask "mkt" "m0" ssd 1 1 100 1 ∷ fin "mkt" "m0" ∷ reg "g1" gpu 10000 10
    ∷ sub mkt "m1" "mia" ssd 100 1 ∷ hb "s1" ∷ ask "mkt" "m1" ssd 1 1 100 1 ∷ fin "mkt" "m1" ∷ sub ml "j1" "ann" gpu 1000 1
    ∷ sub mkt "m2" "mia" ssd 100 1 ∷ hb "s1" ∷ ask "mkt" "m2" ssd 1 1 100 1 ∷ fin "mkt" "m2" ∷ hb "g1" ∷ sub mkt "m3" "mia" ssd 100 1 ∷ hb "s1"
    ∷ ask "mkt" "m3" ssd 1 1 100 1 ∷ fin "mkt" "m3" ∷ sub ml "j2" "ann" gpu 1000 1 ∷ sub mkt "m4" "mia" ssd 100 1 ∷ hb "s1"
    ∷ ask "mkt" "m4" ssd 1 1 100 1 ∷ fin "mkt" "m4" ∷ hb "g1" ∷ sub mkt "m5" "mia" ssd 100 1 ∷ hb "s1" ∷ ask "mkt" "m5" ssd 1 1 100 1
    ∷ fin "mkt" "m5" ∷ ask "eng" "j1" gpu 1 4 2000 2 ∷ sub mkt "m6" "mia" ssd 100 1 ∷ hb "s1" ∷ ask "mkt" "m6" ssd 1 1 100 1 ∷ fin "mkt" "m6"
    ∷ hb "g1" ∷ sub mkt "m7" "mia" ssd 100 1 ∷ hb "s1" ∷ ask "mkt" "m7" ssd 1 1 100 1 ∷ fin "mkt" "m7" ∷ hb "g1" ∷ sub mkt "m8" "mia" ssd 100 1
    ∷ hb "s1" ∷ ask "mkt" "m8" ssd 1 1 100 1 ∷ fin "mkt" "m8" ∷ hb "g1" ∷ sub mkt "m9" "mia" ssd 100 1 ∷ hb "s1" ∷ ask "mkt" "m9" ssd 1 1 100 1
    ∷ fin "mkt" "m9" ∷ hb "g1" ∷ [])
    (5 ∷ 10 ∷ 15 ∷ 20 ∷ 25 ∷ 30 ∷ 35 ∷ 40 ∷ 45 ∷ 50 ∷ [])
    (reg "g1" gpu 10000 10 ∷ sub ml "j1" "ann" gpu 1000 1 ∷ hb "g1" ∷ sub ml "j2" "ann" gpu 1000 1 ∷ hb "g1" ∷ ask "eng" "j1" gpu 1 4 2000 2
    ∷ hb "g1" ∷ hb "g1" ∷ hb "g1" ∷ hb "g1" ∷ [])
    (Done ∷ Done ∷ one (container gpu 2 "g1" "eng" "j1" Master 1000 1) ∷ Done ∷ no_more ∷ Done
    ∷ one (container gpu 3 "g1" "eng" "j1" (Asked gpu 1) 2000 2) ∷ one (container gpu 4 "g1" "eng" "j1" (Asked gpu 1) 2000 2)
    ∷ one (container gpu 5 "g1" "eng" "j1" (Asked gpu 1) 2000 2) ∷ no_more ∷ [])
unfolding opened
view-elsewhere = record { places_are = refl; events_are = refl; replies_are = refl; own_replies_are = refl }

-- a tenant's own maxima are seen, and another's are not
view-maximum : Sees c1 (max_of mkt none 5000 ∷ max_of mkt gpu 0 ∷ reg "g1" gpu 10000 10 ∷ max_of mkt none 5000 ∷ max_of mkt gpu 0 ∷ sub etl "e1" "ann" gpu 1000 1
    ∷ max_of mkt none 5000 ∷ max_of mkt gpu 0 ∷ hb "g1" ∷ max_of mkt none 5000 ∷ max_of mkt gpu 0 ∷ ask "eng" "e1" gpu 1 3 2000 2
    ∷ max_of mkt none 5000 ∷ max_of mkt gpu 0 ∷ hb "g1" ∷ max_of mkt none 5000 ∷ max_of mkt gpu 0 ∷ hb "g1" ∷ max_of mkt none 5000
    ∷ max_of mkt gpu 0 ∷ use_of etl gpu ∷ max_of mkt none 5000 ∷ max_of mkt gpu 0 ∷ max_of etl gpu 8000 ∷ max_of mkt none 5000 ∷ max_of mkt gpu 0
    ∷ ask "eng" "e1" gpu 1 1 1000 1 ∷ max_of mkt none 5000 ∷ max_of mkt gpu 0 ∷ prop "g1" ∷ max_of mkt none 5000 ∷ max_of mkt gpu 0
    ∷ cmt "g1" 4 "eng" "e1" (Asked gpu 1) 1000 1 ∷ max_of mkt none 5000 ∷ max_of mkt gpu 0 ∷ use_of etl gpu ∷ max_of mkt none 5000
    ∷ max_of mkt gpu 0 ∷ max_of etl gpu 4000 ∷ max_of mkt none 5000 ∷ max_of mkt gpu 0 ∷ use_of etl gpu ∷ max_of mkt none 5000 ∷ max_of mkt gpu 0
    ∷ ask "eng" "e1" gpu 1 1 100 1 ∷ max_of mkt none 5000 ∷ max_of mkt gpu 0 ∷ hb "g1" ∷ max_of mkt none 5000 ∷ max_of mkt gpu 0
    ∷ cmt "g1" 5 "eng" "e1" (Asked gpu 1) 100 1 ∷ [])
    (2 ∷ 5 ∷ 8 ∷ 11 ∷ 14 ∷ 17 ∷ 20 ∷ 23 ∷ 26 ∷ 29 ∷ 32 ∷ 35 ∷ 38 ∷ 41 ∷ 44 ∷ 47 ∷ 50 ∷ [])
    (reg "g1" gpu 10000 10 ∷ sub etl "e1" "ann" gpu 1000 1 ∷ hb "g1" ∷ ask "eng" "e1" gpu 1 3 2000 2 ∷ hb "g1" ∷ hb "g1" ∷ use_of etl gpu
    ∷ max_of etl gpu 8000 ∷ ask "eng" "e1" gpu 1 1 1000 1 ∷ prop "g1" ∷ cmt "g1" 4 "eng" "e1" (Asked gpu 1) 1000 1 ∷ use_of etl gpu
    ∷ max_of etl gpu 4000 ∷ use_of etl gpu ∷ ask "eng" "e1" gpu 1 1 100 1 ∷ hb "g1" ∷ cmt "g1" 5 "eng" "e1" (Asked gpu 1) 100 1 ∷ [])
    (Done ∷ Done ∷ one (container gpu 2 "g1" "eng" "e1" Master 1000 1) ∷ Done ∷ one (container gpu 3 "g1" "eng" "e1" (Asked gpu 1) 2000 2)
    ∷ one (container gpu 4 "g1" "eng" "e1" (Asked gpu 1) 2000 2) ∷ uses 5000 5 3000 3 5000 5 1000 1 0 0 ∷ Done ∷ Done
    ∷ Proposed (Some (proposal "g1" 4 "eng" "e1" (Asked gpu 1) 1000 1)) ∷ Committed (container gpu 5 "g1" "eng" "e1" (Asked gpu 1) 1000 1)
    ∷ uses 6000 6 3000 3 8000 8 1000 1 0 0 ∷ Done ∷ uses 6000 6 3000 3 4000 4 1000 1 0 0 ∷ Done ∷ no_more ∷ Refused OverMaximum ∷ [])
unfolding opened
view-maximum = record { places_are = refl; events_are = refl; replies_are = refl; own_replies_are = refl }

-- who alone may use a label
sole-eng-gpu : is_sole c1 (name "eng") gpu ≡ true
unfolding opened
sole-eng-gpu = refl

sole-mkt-ssd : is_sole c1 (name "mkt") ssd ≡ false
unfolding opened
sole-mkt-ssd = refl

sole-eng-default : is_sole c1 (name "eng") none ≡ false
unfolding opened
sole-eng-default = refl

sole-eng-zzz : is_sole c1 (name "eng") zzz ≡ false
unfolding opened
sole-eng-zzz = refl

sole-abc-gpu : is_sole c1 (name "abc") gpu ≡ false
unfolding opened
sole-abc-gpu = refl

-- the track of a list of events, and what is seen of the partition in both clusters
track-relabelled : track c1 relabelled ≡ map without_stamp (state_after c1 relabelled).nodes
unfolding opened
track-relabelled = refl

-- the view of a list, for eng and gpu
abbrev small : List Event → List Event
small events = events_of (view c1 events (name "eng") gpu)

-- the partition after the list, in both clusters
record Looks (events : List Event) (is : Seen) : Type 0 where
  whole : seen (state_after c1 events) gpu ≡ is
  own : seen (state_after (restrict c1 (name "eng")) (small events)) gpu ≡ is

looks-relabelled : Looks relabelled (record { nodes = []; containers = []; clock = 2 })
unfolding opened
looks-relabelled = record { whole = refl; own = refl }

looks-grown : Looks grown_to_limit (record {
  nodes = record { name = name "g1"; label = gpu; size = amount 10000 10; stamp = 5 } ∷ [];
  containers = container gpu 2 "g1" "eng" "j1" Master 1000 1 ∷ container gpu 3 "g1" "eng" "j1" (Asked gpu 1) 2000 2 ∷ container gpu 4 "g1" "eng" "j1" (Asked gpu 1) 2000 2 ∷ container gpu 5 "g1" "eng" "j1" (Asked gpu 1) 2000 2 ∷ [];
  clock = 5;
})
unfolding opened
looks-grown = record { whole = refl; own = refl }

-- which configurations are accepted
accepted-c0 : is_accepted c0 ≡ true
unfolding opened
accepted-c0 = refl

accepted-c1 : is_accepted c1 ≡ true
unfolding opened
accepted-c1 = refl

accepted-thirds : is_accepted c_thirds ≡ true
unfolding opened
accepted-thirds = refl

not_accepted-sums : first_that_holds (tree_faults (config_of (label_row "gpu" true ∷ label_row "ssd" false ∷ []) (eng_row ∷ ml_row ∷ etl_row ∷ record mkt_row { capacity = 3000 } ∷ []))) ≡ Some SumNot100
unfolding opened
not_accepted-sums = refl

not_accepted-maximum : first_that_holds (tree_faults (c1_with (label_row "gpu" true) eng_row (record ml_row { capacities = share "gpu" 7000 6000 ∷ [] }))) ≡ Some MaximumBelowCapacity
unfolding opened
not_accepted-maximum = refl

not_accepted-subset : first_that_holds (tree_faults (config_of (label_row "gpu" true ∷ label_row "ssd" false ∷ []) (eng_row ∷ ml_row ∷ etl_row ∷ record mkt_row { leaf = record usual_leaf { default_label = gpu } } ∷ []))) ≡ Some NotSubset
unfolding opened
not_accepted-subset = refl

not_accepted-label : first_that_holds (tree_faults (config_of (label_row "gpu" true ∷ label_row "ssd" false ∷ []) (eng_row ∷ ml_row ∷ etl_row ∷ record mkt_row { access = Listed (name "tpu" ∷ []) } ∷ []))) ≡ Some NoSuchLabelFault
unfolding opened
not_accepted-label = refl

not_accepted-no_queue : first_that_holds (tree_faults (config_of [] [])) ≡ Some SumNot100
unfolding opened
not_accepted-no_queue = refl

-- the maximum of mkt may be its capacity, and no less
accepted-mkt_40 : is_accepted (config_of (label_row "gpu" true ∷ label_row "ssd" false ∷ []) (eng_row ∷ ml_row ∷ etl_row ∷ record mkt_row { maximum = 4000 } ∷ [])) ≡ true
unfolding opened
accepted-mkt_40 = refl

not_accepted-mkt_39 : first_that_holds (tree_faults (config_of (label_row "gpu" true ∷ label_row "ssd" false ∷ []) (eng_row ∷ ml_row ∷ etl_row ∷ record mkt_row { maximum = 3900 } ∷ []))) ≡ Some MaximumBelowCapacity
unfolding opened
not_accepted-mkt_39 = refl

-- the order of the rows means nothing
accepted-any_order : is_accepted (config_of (label_row "gpu" true ∷ label_row "ssd" false ∷ []) (ml_row ∷ eng_row ∷ etl_row ∷ mkt_row ∷ [])) ≡ true
unfolding opened
accepted-any_order = refl

-- a master limit of an eighth
eighth : Config
eighth = config_of [] (record (queue_row root_a 3333 Inherited []) { leaf = record usual_leaf { maximum_am_resource_percent = 1250 } } ∷ queue_row (name "b" ∷ []) 3333 Inherited [] ∷ queue_row (name "c" ∷ []) 3334 Inherited [] ∷ [])

master_limit-eighth : master_limit eighth (state_after eighth (reg "d1" none 10000 10 ∷ [])) root_a none ≡ amount 1250 1
unfolding opened eighth
master_limit-eighth = refl

-- three shares that do not come to the whole
not_accepted-thirds : first_that_holds (tree_faults (config_of [] (queue_row root_a 3333 Inherited [] ∷ queue_row (name "b" ∷ []) 3333 Inherited [] ∷ queue_row (name "c" ∷ []) 3333 Inherited [] ∷ [])))
    ≡ Some SumNot100
unfolding opened
not_accepted-thirds = refl
