use Rattle.std.proofs.Common.{◌≡◌, ◌≤◌, ◌++◌, List, [], length, drop, ap, sym, ◌∙◌, append-nil, arith}
use Rattle.std.proofs.lemmas.List.{drop_all}
use Rattle.ynl_model.specs.declared.entries.Entry.{Entry}
use Rattle.ynl_view.specs.evidence.Evidence.{evidence_from}
use Rattle.ynl_view.proofs.evidence.Gathered.{gathered, noted-more}
use Rattle.ynl_view.proofs.evidence.gathering.gather.Goals as goal

pub loop-i-init : goal.loop-i-init
loop-i-init c = λ i. c.requires i ++ evidence_from c.args.tenant.now c.args.label.now c.args.config.now 0 (c.new-track.ensures i) c.args.entries.now

-- what was seen of an entry was kept
pub loop-i-preserved : goal.loop-i-preserved
loop-i-preserved c =
    let entries : List Entry = c.args.entries.now in
    let e : Entry = c.index-entries-i.result in
    noted-more c.args.config.now c.args.tenant.now c.args.label.now c.loop-i.i c.loop-i.track c.see.new.track entries e _ _ c.in_ok-seen.seen _ (omega (arith, c.loop-i-test.true)) c.index-entries-i.is c.in_ok-seen.ensures.seen
    c.in_ok-seen.ensures.track c.in_ok-keep.ensures c.loop-i.invariant

-- no entry is left
pub returns : goal.returns
returns c =
    let config = c.args.config.now in
    let tenant = c.args.tenant.now in
    let label = c.args.label.now in
    let entries : List Entry = c.args.entries.now in
    let i = c.loop-i.i in
    let past : length entries ≤ i = omega (arith, c.loop-i-test.false) in
    let none : drop i entries ≡ [] = drop_all i entries past in
    sym (append-nil c.loop-i.found.items) ∙ ap (λ xs. c.loop-i.found.items ++ evidence_from tenant label config i c.loop-i.track xs) (sym none) ∙ c.loop-i.invariant ∙ sym (gathered config entries tenant label)
