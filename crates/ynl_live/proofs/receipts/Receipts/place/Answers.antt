use Rattle.std.proofs.Common.{◌<◌, ℕ, length, ap, sym, subst, ◌∙◌, arith}
use Rattle.ynl_live.proofs.Kept.{receipts_len, place_at}
use Rattle.ynl_live.proofs.receipts.Receipts.place.Goals as goal

pub index-requires : goal.index-requires
index-requires c =
    let inside : c.args.i < length c.self.inside.places.items =
    subst (λ (n : ℕ). c.args.i < n) (ap length (sym c.self.view_is) ∙ receipts_len c.self.inside.places.items c.self.inside.entries c.self.invariant.counted) c.requires in
    omega (arith, inside)

pub returns : goal.returns
returns c d =
    let inside : c.args.i < length c.self.inside.places.items =
    subst (λ (n : ℕ). c.args.i < n) (ap length (sym c.self.view_is) ∙ receipts_len c.self.inside.places.items c.self.inside.entries c.self.invariant.counted) c.requires in
    rw (← c.self.view_is) (c.index.ensures ∙ place_at c.self.inside.places.items c.self.inside.entries c.args.i d c.index.result.now c.self.invariant.counted inside)
