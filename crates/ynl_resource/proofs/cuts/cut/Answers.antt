use Rattle.std.proofs.Common.{Some, None, rules, sym}
use Rattle.std.proofs.lemmas.Str.Pattern.{split_parts}
use Rattle.ynl_resource.proofs.Bytes.{before_first-Lacks, before_first-at, after_first-Lacks, after_first-at, slice_split-Lacks, slice_split-at}
use Rattle.ynl_resource.proofs.cuts.cut.Goals as goal

pub returns-in-Some : goal.returns-in-Some
returns-in-Some c =
    let parts = split_parts c.args.at c.args.text.now (Some (c.in-Some.before, c.in-Some.after)) c.in-Some.ensures.cases c.requires in
    record {
      before = rw parts.0 (sym (before_first-at _ _ _ parts.1));
      after = rw parts.0 (sym (after_first-at _ _ _ parts.1));
      none_after = tt;
      shorter = search rules;
      split = rw parts.0 (slice_split-at _ _ _ parts.1);
    }

pub returns-in-None : goal.returns-in-None
returns-in-None c =
    let lacks = split_parts c.args.at c.args.text.now None c.in-None.ensures.cases c.requires in
    record {
      before = sym (before_first-Lacks _ _ lacks);
      after = tt;
      none_after = after_first-Lacks _ _ lacks;
      shorter = tt;
      split = slice_split-Lacks _ _ lacks;
    }
