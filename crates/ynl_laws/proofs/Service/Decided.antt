-- The ways to leaves below two siblings part at the siblings, and those to one leaf tie.
use Rattle.std.proofs.Common.{◌≡◌, List, [], ◌∷◌, ◌++◌, map, refl, sym, ap, ◌∙◌, append_assoc}
use Rattle.std.specs.Prelude.{IsTrue}
use Rattle.std.specs.Cmp.{IsTotalOrder}
use Rattle.std.specs.Cmp.Lexicographic.{slice_cmp, lists_total}
use Rattle.std.specs.Ordering.{nat_cmp, ordering_then}
use Rattle.std.specs.declared.cmp.Ordering.{Ordering}
use Rattle.std.specs.declared.cmp.Ordering.TheVariants.{Less}
use Rattle.std.proofs.lemmas.Bool.{and_parts}
use Rattle.std.proofs.lemmas.List.{map-append, map-id}
use Rattle.std.proofs.lemmas.Cmp.{tied_itself}
use Rattle.std.proofs.lemmas.Map.Lookups.{exact_bytes}
use mathlib.Core.Bool.{true≢false}
use Rattle.ynl_resource.specs.Names.{same_name, name_order, top_level, is_within, way_to}
use Rattle.ynl_resource.specs.declared.names.Name.{Name}
use Rattle.ynl_resource.specs.declared.paths.Path.{Path}
use Rattle.ynl_model.specs.Service.{Item, Standing, ratio_order, key, standing, standing_order, last_name}
use Rattle.ynl_laws.specs.Decided.{below, DoQueuesDecide, DoSiblingsNotTie, DoesSubmissionDecide}
use Rattle.ynl_laws.proofs.Lists.{map-map}
use Rattle.ynl_laws.proofs.Names.{same-name_sym}
use Rattle.ynl_laws.proofs.Service.OrderTotal.{standing_order_total}
use Rattle.ynl_laws.proofs.Service.Untied.{both-equal}

-- ---- ways

-- the way to a queue below another goes over that one
way-append : (path rest : Path) → way_to (path ++ rest) ≡ way_to path ++ map (λ step. path ++ step) (way_to rest)
way-append [] rest = sym (map-id (way_to rest))
way-append (name ∷ path) rest =
    ap (λ ways. top_level name ∷ map (λ step. name ∷ step) ways) (way-append path rest)
    ∙ ap (λ ways. top_level name ∷ ways)
    (map-append (λ step. name ∷ step) (way_to path) (map (λ step. path ++ step) (way_to rest)) ∙ ap (λ ways. map (λ step. name ∷ step) (way_to path) ++ ways) (map-map (λ step. name ∷ step) (λ step. path ++ step) (way_to rest)))

-- what is within a queue has its path in front
within-front : (queue leaf : Path) → IsTrue (is_within queue leaf) → (rest : Path) × (leaf ≡ queue ++ rest)
within-front [] leaf h = (leaf, refl)
within-front (name ∷ queue) [] h = absurd (true≢false (sym h))
within-front (name ∷ queue) (step ∷ leaf) h =
    let parts = and_parts (same_name name step) (is_within queue leaf) h in
    let at = within-front queue leaf parts.1 in
    (at.0, λ i. sym (same-name_sym name step parts.0) i ∷ at.1 i)

-- the way to what is within a queue: the way to the queue, and more
pub way-below : (queue leaf : Path) → IsTrue (is_within queue leaf) → (more : List Path) × (way_to leaf ≡ way_to queue ++ more)
way-below queue leaf h =
    let at = within-front queue leaf h in
    (map (λ step. queue ++ step) (way_to at.0), ap way_to at.1 ∙ way-append queue at.0)

-- the way to what is within a child of a queue: the way to the queue, the child, and more
pub way-child : (queue : Path) (name : Name) (leaf : Path) → IsTrue (is_within (below queue name) leaf) → (more : List Path) × (way_to leaf ≡ way_to queue ++ below queue name ∷ more)
way-child queue name leaf h =
    let at = within-front (below queue name) leaf h in
    (map (λ step. queue ++ step) (map (λ step. name ∷ step) (way_to at.0)), ap way_to (at.1 ∙ append_assoc queue (name ∷ []) at.0) ∙ way-append queue (name ∷ at.0))

-- ---- what decides

-- lists with one front compare by what comes next
fronts : {K : Type 0} (order : K → K → Ordering) → IsTotalOrder order → (front : List K) (x y : K) (xs ys : List K) → order x y ≡ Less → slice_cmp order (front ++ x ∷ xs) (front ++ y ∷ ys) ≡ Less
fronts order total [] x y xs ys h = ap (λ o. ordering_then o (slice_cmp order xs ys)) h
fronts order total (z ∷ front) x y xs ys h = ap (λ o. ordering_then o (slice_cmp order (front ++ x ∷ xs) (front ++ y ∷ ys))) (tied_itself total z) ∙ fronts order total front x y xs ys h

pub do_queues_decide : DoQueuesDecide
unfolding key
do_queues_decide c s p queue m n a b here there less =
    ap (λ o. ordering_then o (slice_cmp nat_cmp (key c s p a).turn (key c s p b).turn))
    ((λ i. slice_cmp standing_order (way m a here i) (way n b there i))
    ∙ fronts standing_order standing_order_total (map at (way_to queue)) (at (below queue m)) (at (below queue n)) (map at (way-child queue m a.leaf here).0) (map at (way-child queue n b.leaf there).0) less)
  where
    at : Path → Standing
    at = standing c s p

    way : (name : Name) (item : Item) → (h : IsTrue (is_within (below queue name) item.leaf)) → map at (way_to item.leaf) ≡ map at (way_to queue) ++ at (below queue name) ∷ map at (way-child queue name item.leaf h).0
    way name item h = ap (map at) (way-child queue name item.leaf h).1 ∙ map-append at (way_to queue) (below queue name ∷ (way-child queue name item.leaf h).0)

-- the last name of a child is its name
last-below : (queue : Path) (name : Name) → last_name (below queue name) ≡ name
last-below [] name = refl
last-below (first ∷ []) name = refl
last-below (first ∷ next ∷ queue) name = last-below (next ∷ queue) name

pub do_siblings_not_tie : DoSiblingsNotTie
do_siblings_not_tie c s p queue m n tie =
    let parts = both-equal (ratio_order (at m).ratio (at n).ratio) (name_order (at m).name (at n).name) tie in
    sym (last-below queue m) ∙ exact_bytes (at m).name (at n).name parts.1 ∙ last-below queue n
  where
    at : Name → Standing
    at name = standing c s p (below queue name)

pub does_submission_decide : DoesSubmissionDecide
unfolding key
does_submission_decide c s p a b same =
    ap (λ o. ordering_then o (slice_cmp nat_cmp (key c s p a).turn (key c s p b).turn))
    ((λ i. slice_cmp standing_order (map (standing c s p) (way_to (same i))) (map (standing c s p) (way_to b.leaf))) ∙ tied_itself (lists_total standing_order_total) (map (standing c s p) (way_to b.leaf)))
