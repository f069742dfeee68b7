use Rattle.std.proofs.Common.{sym, ◌∙◌, true≢false}
use Rattle.std.proofs.lemmas.Bool.{not-true}
use Rattle.ynl_search.proofs.notes.Least.{least-none}
use Rattle.ynl_search.proofs.open_child.has_too_large.Goals as goal

pub returns-then-not-fits : goal.returns-then-not-fits
returns-then-not-fits c = λ large item below fits.
    let w = c.args.cluster.now in
    absurd
    (true≢false
    (sym fits
    ∙ least-none w c.lane_of-lane.ensures.sound c.args.p c.args.queue c.requires.there (c.is_leaf.ensures c.if-not-is_leaf.false)
    c.lane_of-lane.result.now.seats c.lane_of-lane.ensures.lane c.args.room.now
    (record { low = c.least.result; above = c.least.ensures; misfit = sym c.fits.ensures ∙ c.if-not-fits.true })
    (record { low = c.least-then-not-fits.result; above = c.least-then-not-fits.ensures; misfit = sym c.fits-then-not-fits.ensures ∙ not-true c.fits-then-not-fits.result large })
    item below))
