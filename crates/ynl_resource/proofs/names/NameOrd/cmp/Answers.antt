use Rattle.std.proofs.Common.{◌≡◌, ◌≢◌, nat_cmp, sym, ap, ◌∙◌}
use Rattle.std.specs.Cmp.{tied_itself}
use Rattle.std.specs.Cmp.Lexicographic.{slice_cmp, nat_list_cmp_total}
use Rattle.ynl_resource.specs.Heads.{head_of}
use Rattle.ynl_resource.proofs.Ascii.{heads_order, short_same}
use Rattle.ynl_resource.proofs.names.NameOrd.cmp.Goals as goal

pub returns-then-mine-theirs : goal.returns-then-mine-theirs
returns-then-mine-theirs c =
    let differ : head_of 8 c.args.self.now ≢ head_of 8 c.args.other.now = λ e. c.if-mine-theirs.true (c.head-mine.ensures.value ∙ e ∙ sym c.head-theirs.ensures.value) in
    c.cmp.ensures
    ∙ ap (λ mine. nat_cmp mine c.head-theirs.result) c.head-mine.ensures.value
    ∙ ap (nat_cmp (head_of 8 c.args.self.now)) c.head-theirs.ensures.value
    ∙ sym (heads_order c.args.self.now c.args.other.now c.head-mine.ensures.name c.head-theirs.ensures.name differ)

pub returns-then-is_short-2 : goal.returns-then-is_short-2
returns-then-is_short-2 c =
    let same : c.args.self.now ≡ c.args.other.now = short_same _ _ c.head-mine.ensures.name c.head-theirs.ensures.name c.if-is_short.ensures c.if-is_short-2.ensures
    (sym c.head-mine.ensures.value ∙ c.if-mine-theirs.false ∙ c.head-theirs.ensures.value) in
    sym (tied_itself nat_list_cmp_total c.args.self.now) ∙ ap (slice_cmp nat_cmp c.args.self.now) same
