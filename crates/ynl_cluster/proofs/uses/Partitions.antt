-- The lists of partitions.
use Rattle.std.proofs.Common.{◌≡◌, ℕ, zero, suc, ◌+◌, ◌<◌, List, [], ◌∷◌, ◌++◌, map, length, length-append, replicate, get_or, set, Vec, sym, ap, subst, ◌∙◌, arith}
use Rattle.std.specs.Global.{Global}
use Rattle.std.proofs.lemmas.List.{length-map, map-append}
use Rattle.ynl_laws.proofs.Lists.{Each-append}
use Rattle.std.specs.List.{AllByRecursion}
use Rattle.ynl_model.specs.declared.uses.Use.{Use}
use Rattle.ynl_cluster.specs.uses.Tallies.{IsTable, with_partition}

items : Vec Use Global → List Use
items row = row.items

-- a row that is written is that of its partition, changed
pub set-partition : (p : ℕ) (rows : List (Vec Use Global)) (old new : Vec Use Global) (change : List Use → List Use) → p < length rows → old ≡ get_or rows p old → new.items ≡ change old.items
    → map (λ (row : Vec Use Global). row.items) (set rows p new) ≡ with_partition p change (map (λ (row : Vec Use Global). row.items) rows)
set-partition p [] old new change inside is made = absurd (omega (arith, inside))
set-partition zero (row ∷ rows) old new change inside is made = ap (λ us. us ∷ map (λ (row : Vec Use Global). row.items) rows) (made ∙ ap (λ (r : Vec Use Global). change r.items) is)
set-partition (suc p) (row ∷ rows) old new change inside is made = ap (λ us. row.items ∷ us) (set-partition p rows old new change (omega (arith, inside)) is made)

-- there are as many rows as lists
pub inside-rows : (p : ℕ) (rows : List (Vec Use Global)) (lists : List (List Use)) → map (λ (row : Vec Use Global). row.items) rows ≡ lists → p < length lists → p < length rows
inside-rows p rows lists is inside = subst (λ (n : ℕ). p < n) (ap length (sym is) ∙ length-map rows (λ (row : Vec Use Global). row.items)) inside

-- one more row that is filled
pub filled-more : (count queues : ℕ) (u : Use) (old new : List (Vec Use Global)) (row : Vec Use Global) → IsTable count queues u (map (λ (row : Vec Use Global). row.items) old) → row.items ≡ replicate queues u → new ≡ old ++ row ∷ []
    → IsTable (count + 1) queues u (map (λ (row : Vec Use Global). row.items) new)
filled-more count queues u old new row h is grown = record {
  many =
      ap (λ (rows : List (Vec Use Global)). length (map (λ (row : Vec Use Global). row.items) rows)) grown
      ∙ ap length (map-append (λ (row : Vec Use Global). row.items) old (row ∷ []))
      ∙ length-append (map (λ (row : Vec Use Global). row.items) old) (row.items ∷ []) ∙ ap (λ (n : ℕ). n + 1) h.many;
  each =
      subst (AllByRecursion (λ us. us ≡ replicate queues u)) (sym (ap (map (λ (row : Vec Use Global). row.items)) grown ∙ map-append (λ (row : Vec Use Global). row.items) old (row ∷ [])))
      (Each-append (λ us. us ≡ replicate queues u) (map (λ (row : Vec Use Global). row.items) old) (row.items ∷ []) h.each (is, tt));
}
