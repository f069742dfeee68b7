-- The two kinds of requests.
use Rattle.ynl_lanes.specs.declared.lane.kinds.Kind.{Kind}
use Rattle.ynl_lanes.specs.declared.lane.kinds.Kind.TheVariants.{Master, Ask}
use Rattle.ynl_lanes.specs.declared.lane.kinds.Both.{Both}

-- what there is of a kind
abbrev pub of_kind : {T : Type 0} → Kind → Both T → T
of_kind Master both = both.master
of_kind Ask both = both.ask

-- the same with something else of a kind
abbrev pub with_kind : {T : Type 0} → Kind → T → Both T → Both T
with_kind Master value both = record { master = value; ask = both.ask }
with_kind Ask value both = record { master = both.master; ask = value }
