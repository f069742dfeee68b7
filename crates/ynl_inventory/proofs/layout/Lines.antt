-- Lines, from the steps to a queue, and what they tell of the tree.
use Rattle.std.proofs.Common.{◌≡◌, ◌≢◌, ℕ, zero, suc, ◌+◌, ◌<◌, ◌≤◌, List, [], ◌∷◌, ◌++◌, length, map, take, get_or, refl, sym, ap, ◌∙◌, arith}
use Rattle.std.specs.Prelude.{Vec}
use Rattle.std.specs.declared.alloc.Global.{Global}
use Rattle.ynl_resource.specs.Names.{root}
use Rattle.ynl_resource.specs.declared.paths.Path.{Path}
use Rattle.ynl_model.specs.Queues.{QueueRow, Config}
use Rattle.ynl_model.specs.Service.{last_name}
use Rattle.ynl_laws.specs.Decided.{below}
use Rattle.ynl_queues.specs.Index.{AreSteps}
use Rattle.ynl_queues.specs.Trees.{HasTree}
use Rattle.ynl_queues.proofs.Places.{place_path}
use Rattle.ynl_queues.proofs.Trees.{apart}
use Rattle.ynl_inventory.specs.layout.Paths.{AreLines, HasNumber, HasParent, IsLine, path_at, paths_of}
use Rattle.ynl_inventory.proofs.layout.Filled.{Hold}

-- ---- paths

-- a path below root is its parent's and its last name
pub parted : (n : ℕ) (path : Path) → length path ≡ n + 1 → path ≡ below (take n path) (last_name path)
parted n [] e = absurd (omega (arith, e))
parted zero (name ∷ []) e = refl
parted zero (name ∷ next ∷ path) e = absurd (omega (arith, e))
parted (suc n) (name ∷ []) e = absurd (omega (arith, e))
parted (suc n) (name ∷ next ∷ path) e = ap (λ rest. name ∷ rest) (parted n (next ∷ path) (omega (arith, e)))

pub take-front : (path : Path) (rest : Path) → take (length path) (path ++ rest) ≡ path
take-front [] rest = refl
take-front (name ∷ path) rest = ap (λ front. name ∷ front) (take-front path rest)

-- the path under a number below root is that of the row
pub row-path : (rows : List QueueRow) (place : ℕ) (d : QueueRow) → place < length rows → get_or (map (λ (row : QueueRow). row.path) rows) place root ≡ (get_or rows place d).path
row-path [] place d inside = absurd (omega (arith, inside))
row-path (row ∷ rows) zero d inside = refl
row-path (row ∷ rows) (suc place) d inside = row-path rows place d (omega (arith, inside))

pub count-paths : (rows : List QueueRow) → length (map (λ (row : QueueRow). row.path) rows) ≡ length rows
count-paths [] = refl
count-paths (row ∷ rows) = ap suc (count-paths rows)

pub take-all : (xs : List ℕ) (n : ℕ) → length xs ≤ n → take n xs ≡ xs
take-all [] zero h = refl
take-all [] (suc n) h = refl
take-all (x ∷ xs) zero h = absurd (omega (arith, h))
take-all (x ∷ xs) (suc n) h = ap (λ rest. x ∷ rest) (take-all xs n (omega (arith, h)))

-- ---- lines

shifted : (steps : List ℕ) (k d e : ℕ) → k < length steps → get_or (map (λ n. n + 1) steps) k d ≡ suc (get_or steps k e)
shifted [] k d e inside = absurd (omega (arith, inside))
shifted (n ∷ steps) zero d e inside = omega arith
shifted (n ∷ steps) (suc k) d e inside = shifted steps k d e (omega (arith, inside))

count-shifted : (steps : List ℕ) → length (map (λ n. n + 1) steps) ≡ length steps
count-shifted [] = refl
count-shifted (n ∷ steps) = ap suc (count-shifted steps)

next : (k : ℕ) → k + 1 ≡ suc k
next k = omega arith

-- a step is that of a queue
pub step-below : (c : Config) (path : Path) (steps : List ℕ) (k : ℕ) → AreSteps c.queues path steps → k < length steps → get_or steps k 0 < length c.queues
step-below c path steps k are inside = (are.places k 0 (omega (arith, inside, are.each))).inside

module _ (c : Config) (place : ℕ) (inside : place < length c.queues) (d : QueueRow) (steps : List ℕ) (are : AreSteps c.queues (get_or c.queues place d).path steps) where
  abbrev pub path : Path
  path = (get_or c.queues place d).path

  own : path_at (paths_of c) (suc place) ≡ path
  own = row-path c.queues place d inside

  -- the line of the steps
  pub line-of : IsLine (paths_of c) (suc place) (0 ∷ map (λ n. n + 1) steps)
  line-of = record {
    len = omega (arith, count-shifted steps, are.each, ap length own);
    there = there;
    path = along;
  }
    where
      at : (k : ℕ) → k < length steps → path_at (paths_of c) (suc (get_or steps k 0)) ≡ take (k + 1) path
      at k within = row-path c.queues (get_or steps k 0) d (are.places k 0 (omega (arith, within, are.each))).inside ∙ place_path c.queues (take (k + 1) path) (get_or steps k 0) (are.places k 0 (omega (arith, within, are.each))) d

      there : (i e : ℕ) → i < length (0 ∷ map (λ n. n + 1) steps) → HasNumber (paths_of c) (get_or (0 ∷ map (λ n. n + 1) steps) i e)
      there zero e within = omega arith
      there (suc k) e within =
          let low = (are.places k 0 (omega (arith, within, count-shifted steps, are.each))).inside in
          omega (arith, low, count-paths c.queues, shifted steps k e 0 (omega (arith, within, count-shifted steps)))

      along : (i e : ℕ) → i < length (0 ∷ map (λ n. n + 1) steps) → path_at (paths_of c) (get_or (0 ∷ map (λ n. n + 1) steps) i e) ≡ take i (path_at (paths_of c) (suc place))
      along zero e within = refl
      along (suc k) e within = ap (path_at (paths_of c)) (shifted steps k e 0 (omega (arith, within, count-shifted steps))) ∙ at k (omega (arith, within, count-shifted steps)) ∙ ap (λ n. take n path) (next k) ∙ ap (take (suc k)) (sym own)

-- ---- the tree

module _ (paths : List Path) where
  -- the parent stands before a queue on its line
  pub parent-on : (n : ℕ) (line : List ℕ) → IsLine paths n line → path_at paths n ≢ root → HasParent paths n
  parent-on n line is other = go (length (path_at paths n)) refl
    where
      empty : (path : Path) → length path ≡ 0 → path ≡ root
      empty [] e = refl
      empty (name ∷ path) e = absurd (omega (arith, e))

      go : (depth : ℕ) → length (path_at paths n) ≡ depth → HasParent paths n
      go zero e = absurd (other (empty (path_at paths n) e))
      go (suc depth) e = record {
        parent = get_or line depth 0;
        there = is.there depth 0 (omega (arith, is.len, e));
        above = parted depth (path_at paths n) (omega (arith, e)) ∙ ap (λ path. below path (last_name (path_at paths n))) (sym (is.path depth 0 (omega (arith, is.len, e))));
      }

-- a list is the line of the queue under a number
abbrev pub HasLine : Config → ℕ → Vec ℕ Global → Type 0
HasLine c n list = IsLine (paths_of c) n list.items

pub tree-of-lines : (c : Config) (lines : List (Vec ℕ Global)) (v : Vec ℕ Global) → HasTree c → Hold (HasLine c) (length c.queues + 1) lines → AreLines (paths_of c) lines
tree-of-lines c lines v tree h = record {
  tree = record {
    apart = apart (root ∷ paths_of c) tree.paths;
    parents = λ n low there. parent-on (paths_of c) n (get_or lines n v).items (h.each n (inside n there) v) (λ e. absurd (omega (arith, low, apart (root ∷ paths_of c) tree.paths n 0 there (omega arith) e)));
  };
  many = omega (arith, h.many, count-paths c.queues);
  each = λ n d there. h.each n (inside n there) d;
}
  where
    inside : (k : ℕ) → HasNumber (paths_of c) k → k < length c.queues + 1
    inside k there = omega (arith, there, count-paths c.queues)
