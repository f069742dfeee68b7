use Rattle.std.proofs.Common.{◌≡◌, map, nat_eq, take, Some}
use Rattle.std.specs.Map.{lookup}
use Rattle.ynl_resource.specs.Names.{tenant_of}
use Rattle.ynl_inventory.specs.Rows.{AppRow}
use Rattle.ynl_inventory.specs.Meaning.{app_of}
use Rattle.ynl_saved.specs.Handing.{TakesAll}
use Rattle.ynl_saved.specs.declared.lines.StateLine.TheVariants.{Ask as AskLine}
use Rattle.ynl_snapshots.proofs.saving.applications.hand_asks.Given as goal

-- the asks so far are told
abbrev pub invariant-loop-i : goal.invariant-loop-i
invariant-loop-i g l =
    (row : AppRow) → lookup (nat_eq l.app) l.cluster.rows.apps ≡ Some row
    → TakesAll g.S.LineSink.gives l.initial.sink (take l.i (map (AskLine (tenant_of (app_of l.cluster.rows (l.app, row)).leaf) (app_of l.cluster.rows (l.app, row)).name) (app_of l.cluster.rows (l.app, row)).asks)) l.sink
