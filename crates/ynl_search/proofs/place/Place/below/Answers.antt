use Rattle.std.proofs.Common.{sym, ◌∙◌}
use Rattle.std.specs.Prelude.{◌&&◌}
use Rattle.ynl_resource.specs.Amounts.{fits_in, plus, scale_floor}
use Rattle.ynl_resource.specs.Ranges.{whole}
use Rattle.ynl_search.specs.Places.{allows}
use Rattle.ynl_search.proofs.Steps.{guaranteed-below, maximum-below, take-below}
use Rattle.ynl_search.proofs.place.Place.below.Goals as goal

pub returns-clause-place : goal.returns-clause-place
returns-clause-place c config s label free path name is cell =
    let most = c.share_of-most.ensures.value ∙ (λ i. scale_floor (is.most i) (cell.maximum i) whole) ∙ sym (maximum-below s label path name) in
    record {
      headroom = λ size.
          c.and.ensures size
          ∙ (λ i. is.headroom size i && (c.of-own.ensures size ∙ (λ j. fits_in (plus (cell.used j) size) (most j))) i)
          ∙ sym (take-below s label free path name size);
      guaranteed = c.share_of.ensures.value ∙ (λ i. scale_floor (is.guaranteed i) (cell.capacity i) whole) ∙ sym (guaranteed-below config s label path name);
      most = most;
    }

pub returns-clause-headroom : goal.returns-clause-headroom
returns-clause-headroom c config s label path name own cell size =
    let most = c.share_of-most.ensures.value ∙ (λ i. scale_floor (own i) (cell.maximum i) whole) ∙ sym (maximum-below s label path name) in
    c.and.ensures size ∙ (λ i. allows c.args.self.now.headroom size && (c.of-own.ensures size ∙ (λ j. fits_in (plus (cell.used j) size) (most j))) i)
