use Rattle.std.proofs.Common.{◌≡◌, nat_eq, sym, ap, ◌∙◌}
use Rattle.std.specs.Cmp.Lexicographic.{pointwise, nat_list_eq_equiv}
use Rattle.ynl_resource.proofs.Ascii.{short_same}
use Rattle.ynl_resource.proofs.names.NamePartialEq.eq.Goals as goal

pub returns-then-is_short-2 : goal.returns-then-is_short-2
returns-then-is_short-2 c =
    let same : c.args.self.now ≡ c.args.other.now = short_same _ _ c.head.ensures.name c.head-2.ensures.name c.if-is_short.ensures c.if-is_short-2.ensures
    (sym c.head.ensures.value ∙ c.if-head.false ∙ c.head-2.ensures.value) in
    sym (nat_list_eq_equiv.refl c.args.self.now) ∙ ap (pointwise nat_eq c.args.self.now) same
