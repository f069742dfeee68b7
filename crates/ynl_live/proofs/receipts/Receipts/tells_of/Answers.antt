use Rattle.std.proofs.Common.{◌<◌, ℕ, length, ap, sym, subst, ◌∙◌, arith}
use Rattle.ynl_live.proofs.Kept.{receipts_len, entry_at}
use Rattle.ynl_live.proofs.receipts.Receipts.tells_of.Goals as goal

pub is_same-requires-clause-there : goal.is_same-requires-clause-there
is_same-requires-clause-there c =
    let inside : c.args.i < length c.self.inside.places.items =
    subst (λ (n : ℕ). c.args.i < n) (ap length (sym c.self.view_is) ∙ receipts_len c.self.inside.places.items c.self.inside.entries c.self.invariant.counted) c.requires.here in
    omega (arith, inside, c.self.invariant.counted)

pub returns : goal.returns
returns c d e =
    let places = c.self.inside.places.items in
    let mine = c.self.inside.entries in
    let inside : c.args.i < length places =
    subst (λ (n : ℕ). c.args.i < n) (ap length (sym c.self.view_is) ∙ receipts_len places mine c.self.invariant.counted) c.requires.here in
    let told = entry_at places mine c.args.i d e c.self.invariant.counted c.self.invariant.answered inside in
    let same = c.is_same.ensures e in
    rw (← c.self.view_is) (λ yes. same.0 yes ∙ told, λ is. same.1 (is ∙ sym told))
