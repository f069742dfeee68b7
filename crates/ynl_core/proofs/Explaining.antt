-- What the laws of an explanation rest on, by the rows of a cluster.
use Rattle.std.proofs.Common.{◌≡◌, ◌<◌, nat_lt, true, List, [], ◌∷◌, map, inl, inr, refl, sym, subst, ◌∙◌, arith}
use Rattle.std.specs.List.{AllByRecursion}
use Rattle.std.proofs.lemmas.Bool.Decides.{nat_tests}
use Rattle.ynl_model.specs.Applications.{Application, LeafApps, all_apps}
use Rattle.ynl_model.specs.Cluster.{Partition, State}
use Rattle.ynl_model.specs.Queues.{Config}
use Rattle.ynl_laws.specs.Working.{IsWorking}
use Rattle.ynl_laws.proofs.Lists.{Each-map}
use Rattle.ynl_waits.specs.Laws.{AreWanted, OfEach}
use Rattle.ynl_waits.specs.declared.waits.Explained.{Explained}
use Rattle.ynl_waits.specs.declared.waits.Wait.{Wait}
use Rattle.ynl_waits.proofs.Following.{IsKnown}
use Rattle.ynl_tables.specs.declared.apps.asks.Ask.{Ask}
use Rattle.ynl_inventory.specs.Meaning.{ask_of, partition_of}
use Rattle.ynl_inventory.specs.Rows.{PartitionRow}
use Rattle.ynl_inventory.specs.Sound.{IsFor, IsSound}
use Rattle.ynl_cluster.proofs.requests.Live.{among-live}
use Rattle.ynl_cluster.proofs.requests.Members.{Among, flat-among}
use Rattle.ynl_cluster.proofs.requests.Tables.{distinct, tabled}
use Rattle.ynl_cluster.specs.Cluster.{ClusterView, maxima_in, state_in, stops_in}
use Rattle.ynl_core.specs.World.{World}
use Rattle.ynl_core.proofs.Stepping.{world_in}

-- what holds of each that is among a list holds of all
all-among : {X : Type 0} (P : X → Type 0) (xs : List X) → ((x : X) → Among x xs → P x) → AllByRecursion P xs
all-among P [] h = tt
all-among P (x ∷ xs) h = (h x (inl refl), all-among P xs (λ y there. h y (inr there)))

mapped : (rows : List PartitionRow) (f : PartitionRow → Partition) → ((row : PartitionRow) → (f row).label ≡ row.label) → map (λ (p : Partition). p.label) (map f rows) ≡ map (λ row. row.label) rows
mapped [] f h = refl
mapped (row ∷ rows) f h = λ i. h row i ∷ mapped rows f h i

module _ (w : ClusterView) (sound : IsSound w.rows) where
  -- each ask is for some containers
  asks-wanted : (app : Application) → Among app (all_apps (state_in w).leaves) → AllByRecursion (λ ask. nat_lt 0 ask.count ≡ true) app.asks
  asks-wanted app there =
      let live = among-live w.rows sound app there in
      subst (λ (a : Application). AllByRecursion (λ ask. nat_lt 0 ask.count ≡ true) a.asks) (sym live.is)
      (Each-map (λ (ask : Ask). 0 < ask.count) (λ ask. nat_lt 0 ask.count ≡ true) (ask_of w.rows.partitions) (λ ask some. grind (arith, nat_tests, some)) live.row.asks
      (sound.apps live.number live.row live.found).asks.counted)

  wanted : AreWanted (state_in w).leaves
  wanted =
      all-among (λ row. AllByRecursion (λ app. AllByRecursion (λ ask. nat_lt 0 ask.count ≡ true) app.asks) row.apps) (state_in w).leaves
      (λ row there. all-among (λ app. AllByRecursion (λ ask. nat_lt 0 ask.count ≡ true) app.asks) row.apps
      (λ app own. asks-wanted app (flat-among (λ (r : LeafApps). r.apps) row app (state_in w).leaves there own)))

  pub known : IsFor w.config w.rows → IsWorking w.config (state_in w) → IsKnown w.config (state_in w)
  known configured working = record {
    working = working;
    tabled = tabled w.rows sound (stops_in w) (maxima_in w);
    formed = record { wanted = wanted; partitions = mapped w.rows.partitions (partition_of w.rows) (λ row. refl) ∙ configured.labels };
    distinct = distinct w.rows sound (stops_in w) (maxima_in w);
  }

-- a law of what is explained of a cluster is one of what the core explains
pub as-seen : (law : Config → State → Wait → Type 0) (w : ClusterView) (core : World) (kept seen : Explained) → world_in w ≡ core → seen ≡ kept
    → OfEach (law w.config (state_in w)) kept → OfEach (law core.config core.state) seen
as-seen law w core kept seen same is h = subst (λ (v : World). OfEach (law v.config v.state) seen) same (subst (OfEach (law w.config (state_in w))) (sym is) h)
