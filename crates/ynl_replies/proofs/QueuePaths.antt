-- Queues of the configuration have the paths of the rows.
use Rattle.std.proofs.Common.{◌≡◌, ◌<◌, ◌-◌, ℕ, zero, suc, List, [], ◌∷◌, length, map, get_or, refl, sym, ap, ◌∙◌, arith}
use Rattle.std.proofs.lemmas.List.{length-map}
use Rattle.ynl_resource.specs.Names.{root}
use Rattle.ynl_resource.specs.declared.paths.Path.{Path}
use Rattle.ynl_model.specs.Queues.{Config, QueueRow}
use Rattle.ynl_inventory.specs.layout.Paths.{HasNumber, path_at}
use Rattle.ynl_inventory.specs.Sound.{IsFor}
use Rattle.ynl_cluster.specs.Cluster.{ClusterView, path_of}

-- a row of the configuration has the path of its queue
pub row-path : (w : ClusterView) → IsFor w.config w.rows → (q : ℕ) → 0 < q → HasNumber w.rows.paths q → (c : Config) → c ≡ w.config → (row : QueueRow) → ((d : QueueRow) → row ≡ get_or c.queues (q - 1) d)
    → row.path ≡ path_of w q
row-path w configured q above there c is row read =
    ap (λ (r : QueueRow). r.path) (read row) ∙ ap (λ (c : Config). (get_or c.queues (q - 1) row).path) is
    ∙ sym (mapped w.config.queues (q - 1) inside) ∙ ap (λ (paths : List Path). get_or paths (q - 1) root) (sym configured.paths)
    ∙ ap (path_at w.rows.paths) next
  where
    next : suc (q - 1) ≡ q
    next = omega (arith, above)

    inside : q - 1 < length w.config.queues
    inside = omega (arith, above, there, ap length configured.paths, length-map w.config.queues (λ (r : QueueRow). r.path))

    mapped : (rows : List QueueRow) (k : ℕ) → k < length rows → get_or (map (λ (r : QueueRow). r.path) rows) k root ≡ (get_or rows k row).path
    mapped [] k below = absurd (omega (arith, below))
    mapped (r ∷ rows) zero below = refl
    mapped (r ∷ rows) (suc k) below = mapped rows k (omega (arith, below))
