use Rattle.std.proofs.Common.{◌≡◌, true, Some, refl, sym, ◌∙◌}
use Rattle.ynl_journal.specs.Same.{fits_reply}
use Rattle.ynl_view.specs.declared.evidence.trial.Trial.{Trial}
use Rattle.ynl_view.specs.evidence.Evidence.{Placed}
use Rattle.ynl_view.specs.evidence.Kept.{is_kept}
use Rattle.ynl_view.specs.evidence.Trials.{is_behind}
use Rattle.ynl_view.proofs.evidence.Audited.{taken-next, trial-push}
use Rattle.ynl_view.proofs.evidence.trial.Trial.take.Goals as goal

-- the entry was taken
pub returns : goal.returns
returns c = λ before is.
    let config = c.args.config.now in
    let t = c.args.tenant.now in
    let p = c.args.label.now in
    let old : Trial = c.args.self.now in
    let x : Placed = (c.args.place, c.args.entry.now) in
    let new : Trial = record { core = c.answer.new.self; track = c.keeps.new.track; last = Some c.args.place } in
    let on : is_behind old.last x.0 ≡ true = sym c.is_behind.ensures ∙ c.if-not-is_behind.false in
    let kept : is_kept config t p old.track x.1.event ≡ true = sym c.in_ok-keeps.ensures.kept ∙ c.if-not-branch.false in
    let fits : fits_reply x.1 c.in_ok-reply.reply ≡ true = sym c.fits.ensures.test ∙ c.if-not-fits.false in (
      taken-next config t p before old x is on kept c.answer.new.self c.in_ok-reply.reply c.in_ok-reply.ensures.ok fits,
      trial-push config t p before old x is on new c.in_ok-reply.reply c.in_ok-reply.ensures.ok c.in_ok-keeps.ensures.track refl,
    )
