use Rattle.std.proofs.Common.{◌∙◌, ◌<◌, List, length, refl, ap, subst}
use Rattle.ynl_inventory.specs.declared.layout.settings.shares.Share.{Share}
use Rattle.ynl_inventory.specs.layout.settings.Shares.{with_at, with_maximum}
use Rattle.ynl_inventory.proofs.layout.settings.Cells.{set-at, set-row, inside-rows, row-is}
use Rattle.ynl_inventory.proofs.layout.settings.shares.Shares.set_maximum.Goals as goal

pub returns : goal.returns
returns c =
    let there = inside-rows c.args.partition c.self.inside.rows.items c.args.self.now c.self.view_is c.requires.partition in
    let row = row-is c.args.partition c.self.inside.rows.items c.args.self.now c.index_mut-row.result.now c.self.view_is there c.index_mut-row.ensures.value in
    set-row c.args.partition c.self.inside.rows.items c.index_mut-row.result.now _ (with_at c.args.queue (λ (share : Share). record share { maximum = c.args.maximum })) there c.index_mut-row.ensures.value
    (set-at c.args.queue c.index_mut-row.result.now.items c.index_mut-share.result.now _ (λ (share : Share). record share { maximum = c.args.maximum })
    (subst (λ (xs : List Share). c.args.queue < length xs) row c.requires.queue) c.index_mut-share.ensures.value refl)
    ∙ ap (with_maximum c.args.partition c.args.queue c.args.maximum) c.self.view_is
