-- The queues of paths are those that are configured.
use Rattle.std.proofs.Common.{◌≡◌, ◌≢◌, ◌<◌, ℕ, suc, Bool, true, false, cond, ◌||◌, nat_eq, is_some, IfNone, IfSome, List, [], ◌∷◌, length, get_or, map, find, Option, None, Some, refl, sym, ap, ◌∙◌, arith}
use Rattle.std.specs.List.{list_any}
use Rattle.std.proofs.lemmas.Bool.Decides.{nat_tests}
use Rattle.std.proofs.lemmas.List.Folds.{list_any_at}
use Rattle.ynl_resource.specs.Names.{root, same_path}
use Rattle.ynl_resource.specs.declared.paths.Path.{Path}
use Rattle.ynl_model.specs.Queues.{Config, QueueRow, is_queue}
use Rattle.ynl_laws.proofs.Names.{same-path}
use Rattle.ynl_inventory.specs.layout.Paths.{HasNoNumber, IsNumberOf, path_at}
use Rattle.ynl_inventory.specs.Rows.{Rows}
use Rattle.ynl_inventory.specs.Sound.{IsFor, IsSound}
use Rattle.ynl_inventory.proofs.AppChange.{path-self}
use Rattle.ynl_inventory.proofs.Finding.{not-true}
use Rattle.ynl_cluster.specs.Cluster.{ClusterView}
use Rattle.ynl_replies.specs.admission.Named.{IsQueueOf}

-- where no place passes a test, nothing does
none-passes : {X : Type 0} (test : X → Bool) (xs : List X) (d : X) → ((n : ℕ) → n < length xs → test (get_or xs n d) ≡ false) → list_any test xs ≡ false
none-passes test [] d fails = refl
none-passes test (x ∷ xs) d fails = (λ i. fails 0 (omega arith) i || none-passes test xs d (λ n inside. fails (suc n) (omega (arith, inside))) i)

-- the queues are root and those that have rows
among-rows : (queue : Path) (rows : List QueueRow) → list_any (λ path. same_path path queue) (map (λ row. row.path) rows) ≡ is_some (find (λ row. same_path row.path queue) rows)
among-rows queue [] = refl
among-rows queue (row ∷ rows) = go (same_path row.path queue) (among-rows queue rows)
  where
    go : (b : Bool) → list_any (λ path. same_path path queue) (map (λ row. row.path) rows) ≡ is_some (find (λ row. same_path row.path queue) rows)
        → (b || list_any (λ path. same_path path queue) (map (λ row. row.path) rows)) ≡ is_some (cond b (Some row) (find (λ row. same_path row.path queue) rows))
    go true rest = refl
    go false rest = rest

root-turned : (queue : Path) → same_path root queue ≡ same_path queue root
root-turned [] = refl
root-turned (name ∷ queue) = refl

module _ (c : Config) (v : Rows) (is : IsFor c v) (queue : Path) where
  among-paths : list_any (λ path. same_path path queue) (root ∷ v.paths) ≡ is_queue c queue
  among-paths =
      ap (λ (paths : List Path). same_path root queue || list_any (λ path. same_path path queue) paths) is.paths
      ∙ (λ i. root-turned queue i || among-rows queue c.queues i)

  -- there is a queue of a path where there is a number of it
  pub queue-known : (o : Option ℕ) → IfSome o (IsNumberOf v.paths queue) → IfNone o (HasNoNumber v.paths queue) → is_some o ≡ is_queue c queue
  queue-known None some none =
      sym (none-passes (λ path. same_path path queue) (root ∷ v.paths) root (λ n inside. not-true (same_path (path_at v.paths n) queue) (λ same. none n inside (same-path (path_at v.paths n) queue same))))
      ∙ among-paths
  queue-known (Some n) some none =
      sym (list_any_at (λ path. same_path path queue) (root ∷ v.paths) n root some.there (ap (λ path. same_path path queue) some.path ∙ path-self queue)) ∙ among-paths

-- only the number 0 is root's
pub root-told : (w : ClusterView) → IsSound w.rows → (queue : Path) (o : Option ℕ) → IfSome o (IsNumberOf w.rows.paths queue) → IfSome o (λ q. same_path queue root ≡ nat_eq q 0)
root-told w sound queue None some = tt
root-told w sound queue (Some q) some = go (nat_eq q 0) refl
  where
    go : (b : Bool) → nat_eq q 0 ≡ b → same_path queue root ≡ b
    go true is =
        let zero-is : q ≡ 0 = grind (arith, nat_tests, is) in
        ap (λ (path : Path). same_path path root) (sym some.path ∙ ap (path_at w.rows.paths) zero-is)
    go false is =
        let apart : q ≢ 0 = grind (arith, nat_tests, is) in
        not-true (same_path queue root) (λ same. apart (sound.tree.apart q 0 some.there (omega arith) (some.path ∙ same-path queue root same)))

-- a queue of a path is one of the configuration
pub queue-there : (w : ClusterView) → IsFor w.config w.rows → (queue : Path) (q : ℕ) → IsQueueOf w queue q → is_queue w.config queue ≡ true
queue-there w is queue q its = sym (queue-known w.config w.rows is queue (Some q) (record { there = its.there; path = its.own }) tt)
