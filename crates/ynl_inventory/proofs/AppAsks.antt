-- A live application asks: the rows stay sound, and mean what the model's ask gives.
use Rattle.std.proofs.Common.{◌≡◌, ℕ, Bool, true, false, cond, ◌==◌, List, Some, nat_eq, refl, arith}
use Rattle.std.specs.Prelude.{All}
use Rattle.std.specs.List.{AllByRecursion}
use Rattle.std.specs.Map.{lookup}
use Rattle.std.proofs.lemmas.Bool.Decides.{nat_tests}
use Rattle.ynl_resource.specs.Tables.{put, without}
use Rattle.ynl_model.specs.declared.queues.StopRow.{StopRow}
use Rattle.ynl_model.specs.declared.queues.MaximumRow.{MaximumRow}
use Rattle.ynl_model.specs.Applications.{in_leaf, set_ask, with_app}
use Rattle.ynl_inventory.specs.layout.Paths.{path_at}
use Rattle.ynl_tables.specs.declared.apps.asks.Ask.{Ask}
use Rattle.ynl_tables.specs.apps.Asks.{AreAsks, is_ask_of, with_ask}
use Rattle.ynl_tables.proofs.apps.Asking.{asks_dropped, asks_put}
use Rattle.ynl_laws.proofs.Lists.{all-of}
use Rattle.ynl_slots.proofs.Lists.{all_from}
use Rattle.ynl_inventory.specs.Rows.{Rows, AppRow}
use Rattle.ynl_inventory.specs.Meaning.{app_name, ask_of, state_of}
use Rattle.ynl_inventory.specs.Changes.{with_asked}
use Rattle.ynl_inventory.specs.Sound.{HasPartition, IsAskedOn, IsApp, IsSound}
use Rattle.ynl_inventory.proofs.Asked.{on-there, asked-there, one-asked}
use Rattle.ynl_inventory.proofs.AppChange.{LeavesOwner, app-sound, app-means}
use Rattle.ynl_inventory.proofs.Asking.{app-asked}

abbrev asks : Ask → AppRow → AppRow
asks ask row = record row { asks = with_ask ask row.asks }

leaves : (ask : Ask) → LeavesOwner (asks ask)
leaves ask = record { tenant = λ row. refl; turn = λ row. refl; leaf = λ row. refl; user = λ row. refl; home = λ row. refl }

module _ (v : Rows) (sound : IsSound v) (app : ℕ) (arow : AppRow) (found : lookup (nat_eq app) v.apps ≡ Some arow) (ask : Ask) (on : IsAskedOn arow.home ask.partition) where
  its : IsApp v app arow
  its = sound.apps app arow found

  asked-before : AllByRecursion (λ other. HasPartition v other.partition) arow.asks
  asked-before = all_from (λ other. HasPartition v other.partition) arow.asks (asked-there v sound arow.home its.home arow.asks its.asked)

  still-asks : AreAsks (with_ask ask arow.asks)
  still-asks = go (ask.count == 0) refl
    where
      before : AreAsks arow.asks
      before = its.asks

      go : (b : Bool) → (ask.count == 0) ≡ b
          → AreAsks (cond b (without (is_ask_of ask.partition ask.priority) arow.asks) (put (is_ask_of ask.partition ask.priority) ask arow.asks))
      go true is = asks_dropped (is_ask_of ask.partition ask.priority) arow.asks before
      go false is = asks_put ask arow.asks (grind (arith, nat_tests)) before

  still-asked : All (λ other. IsAskedOn arow.home other.partition) (with_ask ask arow.asks)
  still-asked =
      all-of (λ other. IsAskedOn arow.home other.partition) (with_ask ask arow.asks)
      (one-asked (IsAskedOn arow.home) ask (λ some. on) arow.asks (all_from (λ other. IsAskedOn arow.home other.partition) arow.asks its.asked))

  -- the rows stay sound
  pub asked-sound : IsSound (with_asked app ask v)
  asked-sound = app-sound v app (asks ask) (leaves ask) sound arow found still-asks still-asked

  -- they mean what the ask gives
  pub asked-means : (stops : List StopRow) (maxima : List MaximumRow)
      → state_of (with_asked app ask v) stops maxima
      ≡ record (state_of v stops maxima) {
        leaves = in_leaf (path_at v.paths arow.leaf) (with_app (app_name v.tenants arow.tenant arow.turn) (set_ask (ask_of v.partitions ask))) (state_of v stops maxima).leaves;
      }
  asked-means stops maxima =
      app-means v app (asks ask) (leaves ask) sound arow found (set_ask (ask_of v.partitions ask))
      (app-asked v sound ask (on-there v sound arow.home its.home ask.partition on) (app_name v.tenants arow.tenant arow.turn) arow asked-before) stops maxima
