use Rattle.std.proofs.Common.{◌≡◌, ℕ, List, subst}
use Rattle.std.specs.Prelude.{OnOk}
use Rattle.ynl_sights.proofs.Places.{seats-of-leaf}
use Rattle.ynl_sights.proofs.gathering.list_apps.Goals as goal

pub lane-requires : goal.lane-requires
lane-requires c = record { partition = c.inventory.ensures.sound.some; queue = c.requires }

pub returns : goal.returns
returns c =
    let w = c.args.cluster.now in
    subst (λ (ns : List ℕ). OnOk c.list_apps.result (c.list_apps.new.apps.items ≡ ns))
    (seats-of-leaf w c.args.leaf (record { partition = c.inventory.ensures.sound.some; queue = c.requires }) c.lane.result.now c.lane.ensures.lane)
    c.list_apps.ensures
