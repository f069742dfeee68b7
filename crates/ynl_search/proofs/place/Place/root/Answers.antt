use Rattle.std.proofs.Common.{sym, ◌∙◌}
use Rattle.std.specs.Prelude.{◌&&◌}
use Rattle.ynl_resource.specs.Amounts.{fits_in, plus}
use Rattle.ynl_search.proofs.Steps.{guaranteed-root, maximum-root, take-root}
use Rattle.ynl_search.proofs.place.Place.root.Goals as goal

pub returns-clause-place : goal.returns-clause-place
returns-clause-place c config s label total used =
    let most = total ∙ sym (maximum-root s label) in
    record {
      headroom = λ size.
          c.and.ensures size
          ∙ (λ i. c.of_free.ensures size i && (c.of-own.ensures size ∙ (λ j. fits_in (plus (used j) size) (most j))) i)
          ∙ sym (take-root s label c.args.free size);
      guaranteed = total ∙ sym (guaranteed-root config s label);
      most = most;
    }
