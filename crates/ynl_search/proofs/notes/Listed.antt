-- The model lists the applications of a leaf in the order of the rows.
use Rattle.std.proofs.Common.{◌≡◌, ℕ, Bool, true, false, ◌&&◌, ◌||◌, cond, nat_eq, List, [], ◌∷◌, map, filter, refl, sym, ap, ◌∙◌}
use Rattle.ynl_resource.specs.Names.{is_default, same_label}
use Rattle.ynl_model.specs.declared.queues.StopRow.{StopRow}
use Rattle.ynl_model.specs.declared.queues.MaximumRow.{MaximumRow}
use Rattle.ynl_model.specs.Applications.{Application, apps_of}
use Rattle.ynl_model.specs.Cluster.{State}
use Rattle.ynl_inventory.specs.layout.Paths.{path_at}
use Rattle.ynl_inventory.specs.Rows.{Rows, AppRow}
use Rattle.ynl_inventory.specs.Meaning.{app_of, label_at, state_of}
use Rattle.ynl_inventory.specs.Sound.{IsLeaf, IsSound}
use Rattle.ynl_cluster.specs.seating.Seating.{sits}
use Rattle.ynl_cluster.proofs.seating.Sharing.{are-sharing}
use Rattle.ynl_cluster.specs.requests.Laws.{AreListed}

all-kept : {X : Type 0} (p : X → Bool) (xs : List X) → ((x : X) → p x ≡ true) → filter p xs ≡ xs
all-kept p [] all = refl
all-kept p (x ∷ xs) all = (λ i. cond (all x i) (x ∷ filter p xs) (filter p xs)) ∙ ap (λ ys. x ∷ ys) (all-kept p xs all)

all-alike : {X : Type 0} (p q : X → Bool) (xs : List X) → ((x : X) → p x ≡ q x) → filter p xs ≡ filter q xs
all-alike p q [] all = refl
all-alike p q (x ∷ xs) all = λ i. cond (all x i) (x ∷ all-alike p q xs all i) (all-alike p q xs all i)

module _ (v : Rows) (sound : IsSound v) (stops : List StopRow) (maxima : List MaximumRow) (q : ℕ) (leaf : IsLeaf v q) where
  abbrev s : State
  s = state_of v stops maxima

  pub listed : AreListed v stops maxima q
  listed =
      sym (all-kept (λ (app : Application). is_default (label_at v.partitions 0) || same_label app.home (label_at v.partitions 0)) (apps_of s.leaves (path_at v.paths q))
      (λ app. ap (λ l. is_default l || same_label app.home l) sound.default))
      ∙ are-sharing v sound 0 q sound.some leaf stops maxima
      ∙ ap (map (app_of v)) (all-alike (λ (e : ℕ × AppRow). sits 0 q e.1) (λ (e : ℕ × AppRow). nat_eq e.1.leaf q) v.apps (λ e. all-share (nat_eq e.1.leaf q)))
    where
      all-share : (b : Bool) → (b && true) ≡ b
      all-share true = refl
      all-share false = refl
