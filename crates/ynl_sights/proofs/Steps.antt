-- The queues on the way to a leaf, one more at each step.
use Rattle.std.proofs.Common.{◌≡◌, ℕ, zero, suc, ◌<◌, ◌+◌, List, [], ◌∷◌, ◌++◌, map, take, length, get_or, refl, sym, ap, ◌∙◌, arith, add-one}
use Rattle.std.proofs.lemmas.List.{map_push, take_more}
use Rattle.ynl_resource.specs.declared.names.Name.{Name}
use Rattle.ynl_resource.specs.declared.paths.Path.{Path}
use Rattle.ynl_resource.specs.Names.{way_to}
use Rattle.ynl_queues.proofs.Prefixes.{way_more}
use Rattle.ynl_model.specs.Service.{Standing, last_name, standing}
use Rattle.ynl_cluster.specs.Cluster.{ClusterView, label_of, state_in}
use Rattle.ynl_sights.specs.Copying.{AreQueuesTo, IsQueueOf}
use Rattle.ynl_sights.specs.Rows.{reach_of_queue, standing_in}
use Rattle.ynl_sights.specs.Sights.{reach_of}
use Rattle.ynl_sights.specs.declared.rows.QueueSight.{QueueSight}

last-suc : (path : Path) (k : ℕ) (name : Name) → k < length path → last_name (take (suc k) path) ≡ get_or path k name
last-suc [] k name h = absurd (omega arith)
last-suc (n ∷ []) zero name h = refl
last-suc (n ∷ []) (suc k) name h = absurd (omega arith)
last-suc (n ∷ m ∷ path) zero name h = refl
last-suc (n ∷ m ∷ path) (suc k) name h = last-suc (m ∷ path) k name (omega arith)

-- the last name of the first queues on a way
pub last-taken : (path : Path) (k : ℕ) (name : Name) → k < length path → last_name (take (k + 1) path) ≡ get_or path k name
last-taken path k name h = ap (λ (n : ℕ). last_name (take n path)) (add-one k) ∙ last-suc path k name h

-- what is said of each queue, with one queue more
pushed-on : {Y : Type 0} (f : QueueSight → Y) (g : Path → Y) (leaf : Path) (k : ℕ) (olds news : List QueueSight) (row : QueueSight) → k < length leaf → news ≡ olds ++ row ∷ []
    → map f olds ≡ map g (take k (way_to leaf)) → f row ≡ g (take (k + 1) leaf) → map f news ≡ map g (take (k + 1) (way_to leaf))
pushed-on f g leaf k olds news row at pushed so_far is =
    ap (map f) pushed
    ∙ map_push f olds row
    ∙ (λ i. so_far i ++ is i ∷ [])
    ∙ sym (map_push g (take k (way_to leaf)) (take (k + 1) leaf))
    ∙ ap (map g) (sym (way_more leaf k at))

-- one queue more
pub queues-more : (w : ClusterView) (p : ℕ) (leaf : Path) (k : ℕ) (olds news : List QueueSight) (row : QueueSight) → k < length leaf → news ≡ olds ++ row ∷ []
    → AreQueuesTo w p leaf k olds → IsQueueOf w p (take (k + 1) leaf) row → AreQueuesTo w p leaf (k + 1) news
queues-more w p leaf k olds news row at pushed so_far is = record {
  names =
      ap (map (λ (r : QueueSight). r.name)) pushed
      ∙ map_push (λ (r : QueueSight). r.name) olds row
      ∙ (λ i. so_far.names i ++ (ap (λ (s : Standing). s.name) is.stands ∙ last-taken leaf k [] at) i ∷ [])
      ∙ sym (take_more leaf k [] at);
  stand = pushed-on standing_in (standing w.config (state_in w) (label_of w p)) leaf k olds news row at pushed so_far.stand is.stands;
  reach = pushed-on reach_of_queue (reach_of (state_in w) (label_of w p)) leaf k olds news row at pushed so_far.reach is.reach;
}
