use Rattle.std.proofs.Common.{◌≡◌, ◌++◌, length}
use Rattle.ynl_packed.specs.Spelling.{number_bytes}
use Rattle.ynl_packed.proofs.Loops.{bytes_more, fits_more}
use Rattle.ynl_packed.proofs.kept.put_items.Goals as goal

pub loop-item-preserved : goal.loop-item-preserved
loop-item-preserved g c =
    let list = c.as_slice-list.result.now in
    let i = c.loop-item.item-index in (
      bytes_more g.T.Kept.bytes (c.args.to.now.items ++ number_bytes (length list)) list i c.item-item.result c.loop-item.to.items c.put.new.to.items c.loop-item-test.true c.item-item.is
          c.loop-item.invariant.0 c.in_ok-put.ensures.put,
      fits_more g.T.Kept.fits list i c.item-item.result c.loop-item-test.true c.item-item.is c.loop-item.invariant.1 c.in_ok-put.ensures.fits,
    )
