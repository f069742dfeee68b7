use Rattle.std.proofs.Common.{◌≡◌, IsSome, sym, subst}
use Rattle.std.specs.Prelude.{IfSome}
use Rattle.ynl_inventory.specs.Meaning.{label_at, placed_of}
use Rattle.ynl_inventory.specs.Parts.{Held, held_at}
use Rattle.ynl_replies.proofs.listing.placed_at.Goals as goal

pub placed-requires : goal.placed-requires
placed-requires c = subst (λ (h : Held). IsSome (held_at h.rows c.args.p c.args.number)) (sym c.inventory.ensures.value) c.requires

pub returns : goal.returns
returns c =
    subst (λ (h : Held). IfSome (held_at h.rows c.args.p c.args.number) (λ held. c.placed.result ≡ placed_of h.rows (label_at h.rows.partitions c.args.p) held)) c.inventory.ensures.value c.placed.ensures
