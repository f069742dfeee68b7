-- What is tested of the node of a line's container.
use Rattle.std.proofs.Common.{◌≡◌, ◌≤◌, ◌<◌, ℕ, true, false, ◌&&◌, nat_lt, nat_le, List, slice_index_or, ap, ◌∙◌, arith}
use Rattle.std.specs.Option.{option_map_or}
use Rattle.std.proofs.lemmas.Bool.Decides.{nat_tests}
use Rattle.ynl_resource.specs.Amounts.{fits_in}
use Rattle.ynl_resource.specs.Names.{same_label}
use Rattle.ynl_model.specs.declared.containers.Placed.{Placed}
use Rattle.ynl_model.specs.Cluster.{node_of}
use Rattle.ynl_laws.proofs.Names.{same-label_self}
use Rattle.ynl_inventory.specs.Parts.{free_of}
use Rattle.ynl_inventory.specs.Sound.{IsSound}
use Rattle.ynl_inventory.proofs.Lookups.{place-there}
use Rattle.ynl_cluster.specs.Cluster.{ClusterView, label_of, maxima_in, state_in, stops_in}
use Rattle.ynl_replies.specs.admission.Named.{IsNodeNamed}
use Rattle.ynl_search.proofs.FreeMeans.{free-means}
use Rattle.ynl_saved.specs.Restoring.{is_given, last_clock, may_stand}
use Rattle.ynl_saved.proofs.Sound.{nat-le}
use Rattle.ynl_snapshots.specs.restoring.Placing.{AreLasts, StandsOn}
use Rattle.ynl_snapshots.proofs.restoring.Lasts.{last-at}

-- what is tested of a node that is found: its label, its stamp, and its room
pub room-told : (w : ClusterView) → IsSound w.rows → (placed : Placed) (n : ℕ) (named : IsNodeNamed w placed.node n)
    → option_map_or (may_stand (state_in w) placed) (node_of (state_in w) placed.node) false
    ≡ (same_label (label_of w named.row.partition) placed.id.label && nat_le placed.id.clock named.row.stamp && fits_in placed.size (free_of w.rows n))
room-told w sound placed n named =
    ap (λ o. option_map_or (may_stand (state_in w) placed) o false) named.named
    ∙ ap (λ room. same_label (label_of w named.row.partition) placed.id.label && nat_le placed.id.clock named.row.stamp && fits_in placed.size room) (free-means w.rows sound n named.row named.found (stops_in w) (maxima_in w))

-- what is read of the clock of the last container on a node's partition
pub last-read : (w : ClusterView) → IsSound w.rows → (placed : Placed) (n : ℕ) (named : IsNodeNamed w placed.node n) (lasts : List ℕ) → AreLasts (state_in w) lasts
    → label_of w named.row.partition ≡ placed.id.label → slice_index_or lasts named.row.partition 0 ≡ last_clock (state_in w) placed.id.label
last-read w sound placed n named lasts are own =
    let at = place-there w.rows.partitions named.row.partition (sound.nodes n named.row named.found) in
    last-at w sound named.row.partition at.0 at.1 lasts are ∙ ap (last_clock (state_in w)) own

-- a clock that is no later is not behind it
pub not-behind : (last clock : ℕ) → clock ≤ last → nat_lt last clock ≡ false
not-behind last clock h = grind (arith, nat_tests, h)

behind : (a b : ℕ) → a < b → nat_lt a b ≡ true
behind a b h = grind (arith, nat_tests, h)

-- so a container that stands there goes with the lines before it, as far as its node goes
pub stands-told : (w : ClusterView) → IsSound w.rows → (placed : Placed) (n : ℕ) → StandsOn w placed n → is_given w.config placed.size ≡ true
    → (option_map_or (may_stand (state_in w) placed) (node_of (state_in w) placed.node) false && nat_lt (last_clock (state_in w) placed.id.label) placed.id.clock && is_given w.config placed.size) ≡ true
stands-told w sound placed n stands given =
    let node =
    room-told w sound placed n stands.named
    ∙ (λ i. (ap (λ l. same_label l placed.id.label) stands.own ∙ same-label_self placed.id.label) i && nat-le placed.id.clock stands.named.row.stamp stands.stamped i && stands.fits i)
    in
    λ i. node i && behind (last_clock (state_in w) placed.id.label) placed.id.clock stands.later i && given i
