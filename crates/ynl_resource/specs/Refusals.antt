-- Why an event is refused: the refusals, their numbers and words, and which of several is answered.
use Rattle.std.specs.Prelude.{ℕ, Bool, List, [], ◌∷◌, codes, Option, Some, None, if◌then◌else◌}
pub use Rattle.ynl_resource.specs.declared.refusals.Refusal.{Refusal}
pub use Rattle.ynl_resource.specs.declared.refusals.Refusal.TheVariants.{NoSuchLabel, NodeExists, NoSuchNode, SameLabel, PartitionFull, NoSuchQueue, NotALeaf, QueueStopped, RootQueue, LabelNotAccessible, TooLarge, NameUsed, TooManyApplications, NoSuchApplication, LabelMismatch, TooManyAsks, NoSuchContainer, IsMaster, ClockSpent, Stale, NotAccessible, NoSuchAsk, NoRoom, PartitionBusy, OverMaximum, OverUserLimit, OverMasterShare, BelowCapacity}

-- the first of a list of things that holds, where each comes with whether it holds
abbrev pub first_that_holds : {X : Type 0} → List (X × Bool) → Option X
first_that_holds [] = None
first_that_holds (x ∷ xs) = if x.1 then Some x.0 else first_that_holds xs

-- the reasons for which an event is refused, in the order in which they are told, each with whether it holds
abbrev pub Reasons : Type 0
Reasons = List (Refusal × Bool)

-- the number of a refusal
abbrev pub number : Refusal → ℕ
number NoSuchLabel = 1
number NodeExists = 2
number NoSuchNode = 3
number SameLabel = 4
number PartitionFull = 5
number NoSuchQueue = 6
number NotALeaf = 7
number QueueStopped = 8
number RootQueue = 9
number LabelNotAccessible = 10
number TooLarge = 11
number NameUsed = 12
number TooManyApplications = 13
number NoSuchApplication = 14
number LabelMismatch = 15
number TooManyAsks = 16
number NoSuchContainer = 17
number IsMaster = 18
number ClockSpent = 19
number Stale = 20
number NotAccessible = 21
number NoSuchAsk = 22
number NoRoom = 23
number PartitionBusy = 24
number OverMaximum = 25
number OverUserLimit = 26
number OverMasterShare = 27
number BelowCapacity = 28

-- the word of a refusal, as it is printed
abbrev pub word : Refusal → List ℕ
word NoSuchLabel = codes "NoSuchLabel"
word NodeExists = codes "NodeExists"
word NoSuchNode = codes "NoSuchNode"
word SameLabel = codes "SameLabel"
word PartitionFull = codes "PartitionFull"
word NoSuchQueue = codes "NoSuchQueue"
word NotALeaf = codes "NotALeaf"
word QueueStopped = codes "QueueStopped"
word RootQueue = codes "RootQueue"
word LabelNotAccessible = codes "LabelNotAccessible"
word TooLarge = codes "TooLarge"
word NameUsed = codes "NameUsed"
word TooManyApplications = codes "TooManyApplications"
word NoSuchApplication = codes "NoSuchApplication"
word LabelMismatch = codes "LabelMismatch"
word TooManyAsks = codes "TooManyAsks"
word NoSuchContainer = codes "NoSuchContainer"
word IsMaster = codes "IsMaster"
word ClockSpent = codes "ClockSpent"
word Stale = codes "Stale"
word NotAccessible = codes "NotAccessible"
word NoSuchAsk = codes "NoSuchAsk"
word NoRoom = codes "NoRoom"
word PartitionBusy = codes "PartitionBusy"
word OverMaximum = codes "OverMaximum"
word OverUserLimit = codes "OverUserLimit"
word OverMasterShare = codes "OverMasterShare"
word BelowCapacity = codes "BelowCapacity"
