-- An application asks: what is wanted of each other leaf stays as it is.
use Rattle.std.proofs.Common.{◌≡◌, ◌≢◌, ℕ, nat_eq, Some, refl}
use Rattle.std.specs.Map.{lookup}
use Rattle.ynl_tables.specs.declared.apps.asks.Ask.{Ask}
use Rattle.ynl_tables.specs.apps.Asks.{with_ask}
use Rattle.ynl_inventory.specs.Changes.{with_asked}
use Rattle.ynl_inventory.specs.Rows.{Rows, AppRow}
use Rattle.ynl_inventory.specs.Sound.{IsSound}
use Rattle.ynl_cluster.proofs.seating.Carrying.{use-of}
use Rattle.ynl_sights.proofs.Others.{apps-stay}
use Rattle.ynl_sights.proofs.Staying.{StaysAt}

pub asked-elsewhere : (v : Rows) (sound : IsSound v) (app : ℕ) (ask : Ask) (row : AppRow) → lookup (nat_eq app) v.apps ≡ Some row → (q : ℕ) → q ≢ row.leaf → StaysAt v sound (with_asked app ask v) q
asked-elsewhere v sound app ask row found q other = record {
  apps = apps-stay v app row found q other sound change (λ r. refl);
  runs = λ e its. refl;
  uses = λ p user. use-of v (with_asked app ask v) app change (record { leaf = λ r. refl; user = λ r. refl; home = λ r. refl; tickets = λ r. refl }) refl p q user;
  names = λ e its. refl;
  users = λ e its. refl;
}
  where
    change : AppRow → AppRow
    change r = record r { asks = with_ask ask r.asks }
