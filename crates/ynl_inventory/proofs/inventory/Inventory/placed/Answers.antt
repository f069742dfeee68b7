-- The container under the number is held there.
use Rattle.std.proofs.Common.{◌≡◌, sym, subst}
use Rattle.std.specs.Prelude.{IfSome}
use Rattle.ynl_tables.specs.declared.containers.container.Container.{Container}
use Rattle.ynl_inventory.specs.Meaning.{label_at, placed_of}
use Rattle.ynl_inventory.proofs.inventory.Inventory.placed.Goals as goal

pub told-requires : goal.told-requires
told-requires c = record { number = c.args.number; held = c.container-held.ensures }

pub returns : goal.returns
returns c =
    subst (λ o. IfSome o (λ (held : Container). c.told.result ≡ placed_of c.args.self.now.rows (label_at c.args.self.now.rows.partitions c.args.p) held)) (sym c.container-held.ensures) c.told.ensures
