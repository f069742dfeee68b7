use Rattle.std.proofs.Common.{◌≡◌, refl, arith, sym, ◌∙◌, codes}
use Rattle.std.proofs.lemmas.Bool.{true≢false}
use Rattle.ynl_resource.specs.PathFields.{filler}
use Rattle.ynl_resource.proofs.IdTexts.{name_read, name_unread}
use Rattle.ynl_resource.proofs.paths.Path.root.Goals as goal

pub unreachable-requires : goal.unreachable-requires
unreachable-requires c = absurd (true≢false (name_unread (codes "root") c.in_default.field-0 (sym c.of_bytes.ensures ∙ c.in_default.is)))

pub invariant_of-result : goal.invariant_of-result
invariant_of-result c =
    let root : c.in-Ok.root ≡ filler = (name_read (codes "root") c.in-Ok.root (sym c.of_bytes.ensures ∙ c.in-Ok.is)).0 in
    rw root (record { whole = refl; within = omega arith; rest = refl })
