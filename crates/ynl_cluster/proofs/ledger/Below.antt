-- Which queues a container's leaf is below, and the uses along their line.
use Rattle.std.proofs.Common.{◌≡◌, ℕ, Bool, true, false, cond, List, [], ◌∷◌, map, refl, sym, ap, ◌∙◌}
use Rattle.std.specs.List.{AllByRecursion}
use Rattle.std.specs.Option.{option_map_or}
use Rattle.ynl_resource.specs.Names.{root}
use Rattle.ynl_resource.specs.declared.paths.Path.{Path}
use Rattle.ynl_model.specs.declared.uses.Use.{Use}
use Rattle.ynl_laws.specs.Ways.{along}
use Rattle.ynl_laws.proofs.Totals.Along.{along_things}
use Rattle.ynl_laws.proofs.Totals.Inserted.{Inserted}
use Rattle.ynl_inventory.specs.layout.Paths.{is_above}
use Rattle.ynl_slots.specs.Slots.{IsLive}
use Rattle.ynl_tables.specs.apps.Apps.{with_change}
use Rattle.ynl_tables.specs.declared.containers.container.Container.{Container}
use Rattle.ynl_cluster.specs.uses.Tallies.{raised, lowered}
use Rattle.ynl_inventory.specs.Rows.{Rows, AppRow}
use Rattle.ynl_inventory.specs.Apps.{leaf_of_app}
use Rattle.ynl_inventory.proofs.Lookups.{live-found, read-changed}
use Rattle.ynl_cluster.specs.ledger.Ledger.{is_below, tally_of, use_by, use_where, uses_by}
use Rattle.ynl_cluster.specs.ledger.Changes.{IsLineOf}
use Rattle.ynl_cluster.proofs.ledger.Raising.{lowered-raised, use-more}

-- ---- one container more or less, along a line

-- a live application's containers stand below the queues above its leaf
pub below-is : (v : Rows) (queue : Path) (c : Container) → IsLive c.app v.apps → is_below v queue c ≡ is_above v.paths (leaf_of_app v c.app) queue
below-is v queue c live =
    let its = live-found c.app v.apps live in
    ap (λ o. option_map_or (λ (row : AppRow). is_above v.paths row.leaf queue) o false) its.1
    ∙ sym (ap (λ o. is_above v.paths (option_map_or (λ (row : AppRow). row.leaf) o 0) queue) its.1)

-- what was raised where a test says so is lowered where it says so
lower-if : (raise lower : Use → Use) → ((u : Use) → lower (raise u) ≡ u) → (u : Use) (b : Bool) → cond b (lower (cond b (raise u) u)) (cond b (raise u) u) ≡ u
lower-if raise lower back u true = back u
lower-if raise lower back u false = refl

module _ (v : Rows) (p : ℕ) (e : ℕ × Container) (more fewer : List (ℕ × Container)) (one : Inserted true e more fewer) (line : List ℕ) (live : IsLive e.1.app v.apps) (way : IsLineOf v e.1.app line) where
  abbrev test : Path → Bool
  test queue = is_above v.paths (leaf_of_app v e.1.app) queue

  abbrev raise : Use → Use
  raise u = raised (tally_of p e.1.role e.1.size) u

  abbrev lower : Use → Use
  lower u = lowered (tally_of p e.1.role e.1.size) u

  use-is : (queue : Path) → use_by v p queue more ≡ cond (test queue) (raise (use_by v p queue fewer)) (use_by v p queue fewer)
  use-is queue =
      use-more (λ c. is_below v queue c) p e more fewer one ∙ ap (λ b. cond b (raise (use_by v p queue fewer)) (use_by v p queue fewer)) (below-is v queue e.1 live)

  -- with one container more the uses are raised
  pub uses-raised : uses_by v p more ≡ along raise line (uses_by v p fewer)
  uses-raised =
      (λ i. map (λ queue. use-is queue i) (root ∷ v.paths)) ∙ sym (along_things (root ∷ v.paths) test line raise (λ queue. use_by v p queue fewer) way)

  use-was : (queue : Path) → cond (test queue) (lower (use_by v p queue more)) (use_by v p queue more) ≡ use_by v p queue fewer
  use-was queue =
      ap (λ u. cond (test queue) (lower u) u) (use-is queue) ∙ lower-if raise lower (lowered-raised (tally_of p e.1.role e.1.size)) (use_by v p queue fewer) (test queue)

  -- with one less they are lowered
  pub uses-lowered : uses_by v p fewer ≡ along lower line (uses_by v p more)
  uses-lowered =
      sym (along_things (root ∷ v.paths) test line lower (λ queue. use_by v p queue more) way ∙ (λ i. map (λ queue. use-was queue i) (root ∷ v.paths)))

-- ---- other rows

-- a change that leaves the leaf of an application leaves where its containers count
pub below-changed : (v : Rows) (app : ℕ) (change : AppRow → AppRow) → ((row : AppRow) → (change row).leaf ≡ row.leaf) → (queue : Path) (c : Container)
    → is_below (record v { apps = with_change app change v.apps }) queue c ≡ is_below v queue c
below-changed v app change keeps queue c =
    read-changed (λ row. is_above v.paths row.leaf queue) false c.app app change (λ row i. is_above v.paths (keeps row i) queue) v.apps

-- containers that pass one test just where they pass another use as much
use-same : (old new : Container → Bool) (p : ℕ) (es : List (ℕ × Container)) → AllByRecursion (λ e. new e.1 ≡ old e.1) es → use_where new p es ≡ use_where old p es
use-same old new p [] h = refl
use-same old new p (e ∷ es) h = λ i. cond (h.0 i) (raised (tally_of p e.1.role e.1.size) (use-same old new p es h.1 i)) (use-same old new p es h.1 i)

-- where containers count for the same queues these use as much
pub uses-same : (v w : Rows) → w.paths ≡ v.paths → (p : ℕ) (es : List (ℕ × Container)) → ((queue : Path) → AllByRecursion (λ e. is_below w queue e.1 ≡ is_below v queue e.1) es) → uses_by w p es ≡ uses_by v p es
uses-same v w paths p es h = λ i. map (λ queue. use-same (λ c. is_below v queue c) (λ c. is_below w queue c) p es (h queue) i) (root ∷ paths i)
