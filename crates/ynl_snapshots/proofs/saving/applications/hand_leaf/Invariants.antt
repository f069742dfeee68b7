use Rattle.std.proofs.Common.{take}
use Rattle.std.specs.Prelude.{flat_map}
use Rattle.ynl_inventory.specs.Meaning.{submitted_to}
use Rattle.ynl_saved.specs.Handing.{TakesAll}
use Rattle.ynl_snapshots.specs.saving.Told.{submission_lines}
use Rattle.ynl_snapshots.proofs.saving.applications.hand_leaf.Given as goal

-- the submissions so far are told
abbrev pub invariant-loop-turn : goal.invariant-loop-turn
invariant-loop-turn g l =
    TakesAll g.S.LineSink.gives l.initial.sink (flat_map (submission_lines l.cluster.rows l.leaf) (take l.turn (submitted_to l.cluster.rows.tenants l.tenant))) l.sink
