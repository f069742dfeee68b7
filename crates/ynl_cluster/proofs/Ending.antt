-- The parts of a cluster after a container ended, or went with its node.
use Rattle.std.proofs.Common.{◌≡◌, ℕ, ◌<◌, IsSome, List, [], slice_get, nat_eq, Option, Some, None, refl, sym, ap, subst, ◌∙◌, inl, inr}
use mathlib.Core.Logic.{◌⊎◌}
use Rattle.std.specs.Prelude.{IfSome}
use Rattle.std.specs.Map.{lookup}
use Rattle.std.specs.Option.{option_and_then, option_map_or}
use Rattle.std.proofs.lemmas.Option.{none-some}
use Rattle.ynl_model.specs.declared.uses.Use.{Use}
use Rattle.ynl_model.specs.Changes.{end}
use Rattle.ynl_slots.specs.Slots.{HasDistinctNumbers, IsLive, without}
use Rattle.ynl_tables.specs.declared.containers.container.Container.{Container}
use Rattle.ynl_lanes.specs.lane.Rows.{IsUse}
use Rattle.ynl_lanes.specs.lane.Seats.{Seats}
use Rattle.ynl_inventory.specs.Rows.{Rows, PartitionRow}
use Rattle.ynl_inventory.specs.Changes.{next_clock_at, ticked, with_at, with_dropped, with_ended}
use Rattle.ynl_inventory.specs.Meaning.{placed_of, state_of}
use Rattle.ynl_inventory.specs.Parts.{held_at}
use Rattle.ynl_inventory.specs.Sound.{HasPartition, IsFor, IsSound}
use Rattle.ynl_inventory.proofs.Dropping.{dropped-for, dropped-sound}
use Rattle.ynl_inventory.proofs.Ending.{ended-for, ended-means, ended-sound}
use Rattle.ynl_inventory.proofs.Finding.{own-label}
use Rattle.ynl_inventory.proofs.Lookups.{length-at}
use Rattle.ynl_cluster.specs.ledger.Ledger.{totals_in, uses_in, IsBounded}
use Rattle.ynl_cluster.proofs.ledger.Bounded.{dropping, ending}
use Rattle.ynl_cluster.proofs.ledger.Calls.{stands-there}
use Rattle.ynl_cluster.proofs.ledger.Sums.{changed-totals, dropped-totals}
use Rattle.ynl_cluster.specs.seating.Seating.{user_use, AreSeated}
use Rattle.ynl_cluster.specs.seating.Steps.{IsEnded}
use Rattle.ynl_cluster.specs.declared.cluster.Cluster.TheInside.{Inside}
use Rattle.ynl_cluster.specs.Cluster.{ClusterView, label_of, maxima_in, state_in, stops_in}
use Rattle.ynl_cluster.specs.Whole.{view_of, AreNumbered, AreParts, AskSizes, IsCluster}
use Rattle.ynl_cluster.proofs.Numbers.{numbers-at}
use Rattle.ynl_cluster.proofs.Users.{own-small}

-- the partition of a container, and where it stands there
record Stands (v : Rows) (p number : ℕ) (c : Container) : Type 0 where
  row : PartitionRow
  there : slice_get v.partitions p ≡ Some row
  found : lookup (nat_eq number) row.containers ≡ Some c

held-stands : (v : Rows) (p number : ℕ) (c : Container) → held_at v p number ≡ Some c → Stands v p number c
held-stands v p number c held = go (slice_get v.partitions p) refl held
  where
    go : (o : Option PartitionRow) → slice_get v.partitions p ≡ o → option_and_then (λ (row : PartitionRow). lookup (nat_eq number) row.containers) o ≡ Some c → Stands v p number c
    go None none at = absurd (none-some c at)
    go (Some row) there at = record { row = row; there = there; found = at }

-- a container is held there
pub held-in : (a : Inside) (w : ClusterView) → view_of a ≡ w → (p number : ℕ) → IsSome (held_at w.rows p number) → IsSome (held_at a.inventory.rows p number)
held-in a w view p number = subst (λ (w : ClusterView). IsSome (held_at w.rows p number)) (sym view)

module _ (a : Inside) (is : IsCluster a) (w : ClusterView) (view : view_of a ≡ w) (p number : ℕ) (c : Container) (held : held_at a.inventory.rows p number ≡ Some c)
    (new : Rows) (rows : (new ≡ with_ended p number c.node a.inventory.rows) ⊎ (new ≡ with_dropped p number a.inventory.rows)) where
  abbrev v : Rows
  v = a.inventory.rows

  abbrev dropped : PartitionRow → PartitionRow
  dropped row = record row { containers = without number row.containers }

  at : Stands v p number c
  at = held-stands v p number c held

  -- what is so in both cases
  either : (P : Rows → Type 0) → P (with_ended p number c.node v) → P (with_dropped p number v) → P new
  either P ended dropped = elim rows [ inl is ↦ subst P (sym is) ended | inr is ↦ subst P (sym is) dropped ]

  sound-after : IsSound new
  sound-after = either IsSound (ended-sound v is.parts.sound p at.row at.there number c at.found) (dropped-sound v is.parts.sound p at.row at.there number)

  bounded-after : IsBounded new
  bounded-after = either IsBounded (ending v is.parts.bounded p number c.node) (dropping v is.parts.bounded p number)

  with-partitions : (change : PartitionRow → PartitionRow) → AreNumbered (record v { partitions = with_at p change v.partitions })
  with-partitions change = numbers-at v p change is.parts.numbers

  numbers-after : AreNumbered new
  numbers-after =
      let ended = with-partitions (ticked (without number)) in
      let gone = with-partitions dropped in
      either AreNumbered (record { partitions = ended.partitions; queues = ended.queues }) (record { partitions = gone.partitions; queues = gone.queues })

  -- its application goes on
  pub live-after : IsLive c.app new.apps
  live-after = let before = (stands-there v is.parts.sound p number c held).1 in either (λ v. IsLive c.app v.apps) before before

  has-after : HasPartition new p
  has-after =
      let before = (stands-there v is.parts.sound p number c held).0 in
      either (λ v. HasPartition v p) (subst (λ (n : ℕ). p < n) (sym (length-at p (ticked (without number)) v.partitions)) before)
      (subst (λ (n : ℕ). p < n) (sym (length-at p dropped v.partitions)) before)

  -- what its user uses is small
  pub small-after : IfSome (lookup (nat_eq c.app) new.apps) (λ row. IsUse (user_use new p row.leaf row.user))
  small-after = own-small new sound-after bounded-after p has-after c.app

  -- the lanes are those before
  pub lanes-before : IsEnded p c new a.lanes
  lanes-before = record {
    before = v;
    number = number;
    rows = rows;
    held = held;
    numbers = subst HasDistinctNumbers (sym (ap (λ o. option_map_or (λ (row : PartitionRow). row.containers) o []) at.there)) (is.parts.sound.partitions p at.row at.there).numbers;
    seated = is.parts.seated;
  }

  -- with uses and lanes that follow, the parts go together
  pub parts-after : (uses : List (List Use)) → uses ≡ uses_in new → (lanes : List (List Seats)) → AreSeated new lanes → AreParts a.config new uses a.totals lanes
  parts-after uses uses-are lanes seated = record {
    configured =
        either (IsFor a.config) (ended-for v is.parts.sound p at.row at.there number c at.found a.config is.parts.configured)
        (dropped-for v is.parts.sound p at.row at.there number a.config is.parts.configured);
    sound = sound-after;
    bounded = bounded-after;
    sizes = either AskSizes is.parts.sizes is.parts.sizes;
    numbers = numbers-after;
    uses_are = uses-are;
    totals_are =
        is.parts.totals_are
        ∙ either (λ new. totals_in v ≡ totals_in new) (sym (changed-totals v p (ticked (without number)) c.node (next_clock_at v.partitions p) v.apps)) (sym (dropped-totals v p dropped));
    seated = seated;
  }

  -- and the state is the model's
  pub state-after : new ≡ with_ended p number c.node v → state_of new (stops_in (view_of a)) (maxima_in (view_of a)) ≡ end w.config (state_in w) (placed_of w.rows (label_of w p) c)
  state-after ended =
      ap (λ (v : Rows). state_of v (stops_in (view_of a)) (maxima_in (view_of a))) ended
      ∙ ended-means v is.parts.sound p at.row at.there number c at.found a.config is.parts.configured (stops_in (view_of a)) (maxima_in (view_of a))
      ∙ ap (λ label. end a.config (state_in (view_of a)) (placed_of v label c)) (sym (own-label v is.parts.sound p at.row at.there))
      ∙ ap (λ (w : ClusterView). end w.config (state_in w) (placed_of w.rows (label_of w p) c)) view
