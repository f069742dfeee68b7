use Rattle.std.specs.IoError.{error_kind}
use Rattle.ynl_commands.proofs.Pieces.{piece_given}
use Rattle.ynl_commands.proofs.lines_in.take_piece.Goals as goal

pub returns : goal.returns
returns g c =
    let rested = c.fill_buf.follows.lender-at-none in
    piece_given error_kind _ (g.R.Read.remaining rested) _ (g.R.BufRead.consumable_len rested) c.fill_buf.result _ _ _ c.in_ok-taken.taken c.fill_buf.ensures.front c.fill_buf.ensures.end c.fill_buf.follows.holds-at-none c.consume.ensures.bytes c.in_ok-taken.ensures.shown c.in_ok-taken.ensures.failed
