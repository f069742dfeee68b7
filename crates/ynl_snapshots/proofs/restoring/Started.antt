-- Queues are started one after another, until all run.
use Rattle.std.proofs.Common.{◌≡◌, ◌⊎◌, inl, inr, Bool, true, false, ◌||◌, List, [], ◌∷◌, map, fold, cond, refl, sym, ap, subst, ◌∙◌, true≢false}
use Rattle.std.specs.List.{AllByRecursion, list_any}
use Rattle.ynl_resource.specs.Names.{same_path}
use Rattle.ynl_resource.specs.declared.paths.Path.{Path}
use Rattle.ynl_model.specs.declared.queues.StopRow.{StopRow}
use Rattle.ynl_model.specs.Queues.{set_stop}
use Rattle.ynl_laws.proofs.Lists.{Each-weaker}
use Rattle.ynl_inventory.specs.layout.settings.Meaning.{stops_of}
use Rattle.ynl_inventory.proofs.layout.settings.StopsMean.{own-path}

-- a row whose queue runs
abbrev pub started : StopRow → StopRow
started row = record row { stopped = false }

-- queues of these paths are started
abbrev pub start : List StopRow → List Path → List StopRow
start rows paths = fold (λ rows path. set_stop path false rows) rows paths

-- a row's queue runs, or is one of these
abbrev Starts : List Path → StopRow → Type 0
Starts paths row = (row.stopped ≡ false) ⊎ (list_any (same_path row.queue) paths ≡ true)

step : (p : Path) (ps : List Path) (row : StopRow) → Starts (p ∷ ps) row → (b : Bool) → same_path row.queue p ≡ b → Starts ps (cond b (started row) row)
step p ps row h true is = inl refl
step p ps row (inl runs) false is = inl runs
step p ps row (inr one) false is = inr (subst (λ b. (b || list_any (same_path row.queue) ps) ≡ true) is one)

start-each : (paths : List Path) (rows : List StopRow) → AllByRecursion (Starts paths) rows → start rows paths ≡ map started rows
start-each [] rows h = go rows h
  where
    runs : (row : StopRow) → Starts [] row → row ≡ started row
    runs row (inl is) = λ i. record row { stopped = is i }
    runs row (inr one) = absurd (true≢false (sym one))

    go : (rows : List StopRow) → AllByRecursion (Starts []) rows → rows ≡ map started rows
    go [] h = refl
    go (row ∷ rows) h = λ i. runs row h.0 i ∷ go rows h.1 i
start-each (p ∷ ps) rows h = start-each ps (set_stop p false rows) (steps rows h) ∙ same rows
  where
    steps : (rows : List StopRow) → AllByRecursion (Starts (p ∷ ps)) rows → AllByRecursion (Starts ps) (set_stop p false rows)
    steps [] h = tt
    steps (row ∷ rows) h = (step p ps row h.0 (same_path row.queue p) refl, steps rows h.1)

    once : (row : StopRow) (b : Bool) → started (cond b (started row) row) ≡ started row
    once row true = refl
    once row false = refl

    same : (rows : List StopRow) → map started (set_stop p false rows) ≡ map started rows
    same [] = refl
    same (row ∷ rows) = λ i. once row (same_path row.queue p) i ∷ same rows i

-- if all are started, each runs
pub start-all : (paths : List Path) (marks : List Bool) → start (stops_of paths marks) paths ≡ map started (stops_of paths marks)
start-all paths marks = start-each paths (stops_of paths marks) (all paths marks)
  where
    more : (p : Path) (ps : List Path) (row : StopRow) → Starts ps row → Starts (p ∷ ps) row
    more p ps row (inl runs) = inl runs
    more p ps row (inr one) = inr (either (same_path row.queue p) one)
      where
        either : (b : Bool) → list_any (same_path row.queue) ps ≡ true → (b || list_any (same_path row.queue) ps) ≡ true
        either true one = refl
        either false one = one

    all : (paths : List Path) (marks : List Bool) → AllByRecursion (Starts paths) (stops_of paths marks)
    all [] marks = tt
    all (p ∷ ps) [] = tt
    all (p ∷ ps) (m ∷ ms) = (inr (ap (λ b. b || list_any (same_path p) ps) (own-path (p ∷ ps) 1)), Each-weaker (Starts ps) (Starts (p ∷ ps)) (more p ps) (stops_of ps ms) (all ps ms))
