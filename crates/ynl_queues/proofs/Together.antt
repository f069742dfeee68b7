-- Rows in the buckets of their texts.
use Rattle.std.proofs.Common.{◌≡◌, ℕ, ◌≤◌, Bool, true, false, cond, List, length, refl, arith}
use Rattle.std.specs.Prelude.{filter, ◌==◌}
use Rattle.std.specs.List.{count_by}
use Rattle.std.proofs.lemmas.Bool.Decides.{Decides-eqb}
use Rattle.std.proofs.lemmas.List.Sums.{length-filter, sum_by-le-sum_by}
use Rattle.std.proofs.lemmas.Slice.Eq.{bytes_eq-Decides}
use Rattle.ynl_queues.specs.Buckets.{bucket_of, bucket_of_row, count_in_bucket}
use Rattle.ynl_queues.specs.Written.{WrittenRow, above, stand_together}

-- more pass a test that is passed by whatever passes another
more_pass : {X : Type 0} (p q : X → Bool) → ((x : X) → p x ≡ true → q x ≡ true) → (xs : List X) → count_by p xs ≤ count_by q xs
more_pass p q follows xs = sum_by-le-sum_by (λ x. cond (p x) 1 0) (λ x. cond (q x) 1 0) xs (λ x. at_most (p x) (q x) (follows x))
  where
    at_most : (a b : Bool) → (a ≡ true → b ≡ true) → cond a 1 0 ≤ cond b 1 0
    at_most false b h = omega arith
    at_most true b h = rw (h refl) (omega arith)

-- rows that stand together are in one bucket
pub together_in_bucket : (path : List ℕ) (rows : List WrittenRow) → length (filter (λ row. stand_together path row.path) rows) ≤ count_in_bucket rows (bucket_of (above path))
together_in_bucket path rows =
    rw (length-filter (λ row. stand_together path row.path) rows)
    (more_pass (λ row. stand_together path row.path) (λ row. bucket_of_row row == bucket_of (above path)) same rows)
  where
    same : (row : WrittenRow) → stand_together path row.path ≡ true → (bucket_of_row row == bucket_of (above path)) ≡ true
    same row together = rw ((bytes_eq-Decides (above path) (above row.path)).0 together) ((Decides-eqb (bucket_of (above row.path)) (bucket_of (above row.path))).1 refl)
