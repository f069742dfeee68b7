-- Below the least child stands the first request.
use Rattle.std.proofs.Common.{◌≡◌, false, refl, sym, ap, subst}
use Rattle.std.specs.Ordering.{is_gt}
use Rattle.std.specs.declared.cmp.Ordering.{Ordering}
use Rattle.std.specs.declared.cmp.Ordering.TheVariants.{Less, Equal, Greater}
use mathlib.Core.Bool.{true≢false}
use Rattle.ynl_resource.specs.declared.names.Name.{Name}
use Rattle.ynl_model.specs.Service.{Item, Standing, key, standing, standing_order}
use Rattle.ynl_laws.specs.Decided.{below}
use Rattle.ynl_laws.specs.Descent.{IsBelow, IsBelowSome, IsFirstBelowLeast}
use Rattle.ynl_laws.specs.First.{is_later}
use Rattle.ynl_laws.proofs.Service.Decided.{do_queues_decide, do_siblings_not_tie}

pub is_first_below_least : IsFirstBelowLeast
is_first_below_least c s p items queue names least item child first =
    (record { child = least; there = child.there; stands = first.0 }, λ other h. by other h (standing_order (at least) (at h.child)) refl (child.before other h))
  where
    at : Name → Standing
    at name = standing c s p (below queue name)

    by : (other : Item) (h : IsBelowSome items queue names other) (o : Ordering) → standing_order (at least) (at h.child) ≡ o → is_gt o ≡ false → is_later (key c s p) item other ≡ false
    by other h Less e k = ap is_gt (do_queues_decide c s p queue least h.child item other first.0.within h.stands.within e)
    by other h Equal e k = first.1 other (subst (λ name. IsBelow items (below queue name) other) (sym (do_siblings_not_tie c s p queue least h.child e)) h.stands)
    by other h Greater e k = absurd (true≢false k)
