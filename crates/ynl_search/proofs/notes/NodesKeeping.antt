-- What is noted of queues stays right while nodes come and go.
use Rattle.std.proofs.Common.{◌≡◌, ℕ, Bool, true, false, ◌||◌, cond, nat_eq, Option, None, Some, refl, sym, ap, subst, ◌∙◌, true≢false, arith}
use Rattle.std.specs.Prelude.{IfSome}
use Rattle.std.specs.Map.{lookup}
use Rattle.std.proofs.lemmas.Bool.Decides.{nat_tests}
use Rattle.ynl_resource.specs.Names.{same_label}
use Rattle.ynl_resource.specs.declared.amounts.Resource.{Resource}
use Rattle.ynl_resource.specs.declared.labels.Label.{Label}
use Rattle.ynl_resource.specs.declared.labels.Label.TheVariants.{Unlabelled}
use Rattle.ynl_resource.specs.declared.names.Name.{Name}
use Rattle.ynl_resource.specs.declared.paths.Path.{Path}
use Rattle.ynl_model.specs.declared.nodes.Node.{Node}
use Rattle.ynl_model.specs.Changes.{node_joins, node_leaves}
use Rattle.ynl_model.specs.Cluster.{State}
use Rattle.ynl_model.specs.Queues.{Config}
use Rattle.ynl_model.specs.Service.{asks_for}
use Rattle.ynl_laws.specs.Working.{IsWorking}
use Rattle.ynl_inventory.specs.Meaning.{node_of}
use Rattle.ynl_inventory.specs.Rows.{NodeRow}
use Rattle.ynl_inventory.specs.Sound.{HasPartition, IsFor, IsSound}
use Rattle.ynl_cluster.specs.Cluster.{ClusterView, IsCell, label_of, path_of, state_in}
use Rattle.ynl_cluster.proofs.requests.Running.{label-tells}
use Rattle.ynl_search.specs.declared.notes.noted.Noted.{Noted}
use Rattle.ynl_search.specs.notes.Notes.{Changes, Notes, Row, forgotten_on, noted_at, noted_in, nothing_noted}
use Rattle.ynl_search.specs.notes.Shut.{AreAtLeast, AreGuestsRight, AreOwnRight, AreShut, IsRight, IsShut}
use Rattle.ynl_search.specs.notes.Laws.{NoneStarts, StandsStill, Stays}
use Rattle.ynl_search.proofs.notes.Elsewhere.{guests-still, joins-starts, joins-still, leaves-starts, leaves-still, starts-then, stays-still, still-then}
use Rattle.ynl_search.proofs.notes.Keeping.{readable}
use Rattle.ynl_search.proofs.notes.Leaving.{HaveSameCells, same-cells}
use Rattle.ynl_search.proofs.notes.Stays.{nothing-fits}

-- where nothing is noted that is right
pub nothing-right : (c : Config) (s : State) (label : Label) (queue : Path) → IsRight c s label queue nothing_noted
nothing-right c s label queue = record { room = tt; least = λ item below. nothing-fits item.size }

-- the same of what is given together
abbrev IsRightOf : State → Config × Label × Path × Noted → Type 0
IsRightOf s (c, label, queue, noted) = IsRight c s label queue noted

module _ (w u : ClusterView) (sound : IsSound w.rows) (after : IsSound u.rows) (working : IsWorking w.config (state_in w)) (before-for : IsFor w.config w.rows) (after-for : IsFor u.config u.rows) (config : u.config ≡ w.config) where
  same : HaveSameCells w u
  same = same-cells w u before-for after-for config

  module _ (old new : Notes) (gone : ℕ → Bool) (left : (p q : ℕ) → noted_at new.own p q ≡ cond (gone p) nothing_noted (noted_at old.own p q)) (guests : new.guests ≡ old.guests)
      (starts : NoneStarts (state_in w) (state_in u)) (still : (p : ℕ) → HasPartition w.rows p → gone p ≡ false → StandsStill (state_in w) (state_in u) (label_of w p)) (right : AreShut w old) where
    own-still : AreOwnRight u new.own
    own-still p q cell = go (gone p) refl
      where
        here : IsCell w p q
        here = same.there p q cell

        is-right : (noted : Noted) → noted_at new.own p q ≡ noted → IsRight w.config (state_in u) (label_of w p) (path_of w q) noted → IsRight u.config (state_in u) (label_of u p) (path_of u q) (noted_at new.own p q)
        is-right noted is = subst (IsRightOf (state_in u)) (λ i. (sym same.config i, sym (same.labels p) i, sym (same.paths q) i, sym is i))

        room : Stays w.config (state_in w) (state_in u) (label_of w p) (path_of w q) → (o : Option Resource)
            → IfSome o (IsShut w.config (state_in w) (label_of w p) (path_of w q)) → IfSome o (IsShut w.config (state_in u) (label_of w p) (path_of w q))
        room stays None h = tt
        room stays (Some size) h = stays.shut size h

        go : (b : Bool) → gone p ≡ b → IsRight u.config (state_in u) (label_of u p) (path_of u q) (noted_at new.own p q)
        go true e = is-right nothing_noted (left p q ∙ ap (λ b. cond b nothing_noted (noted_at old.own p q)) e) (nothing-right w.config (state_in u) (label_of w p) (path_of w q))
        go false e =
            let stays = stays-still w.config (state_in w) (state_in u) (label_of w p) (path_of w q) (readable w u sound after working (state_in u) refl) (still p here.partition e) in
            let was = right.own p q here in
            is-right (noted_at old.own p q) (left p q ∙ ap (λ b. cond b nothing_noted (noted_at old.own p q)) e)
            (record { room = room stays (noted_at old.own p q).room was.room; least = stays.least (noted_at old.own p q).least was.least })

    guests-right : AreGuestsRight u new.guests
    guests-right q there =
        subst (λ (row : Row). AreAtLeast (asks_for (state_in u) Unlabelled) (path_of u q) (noted_in row q).least) (sym guests)
        (subst (λ path. AreAtLeast (asks_for (state_in u) Unlabelled) path (noted_in old.guests q).least) (sym (same.paths q))
        (guests-still (state_in w) (state_in u) (path_of w q) (noted_in old.guests q).least starts (right.guests q (same.there 0 q (record { partition = after.some; queue = there })).queue)))

    all-still : AreShut u new
    all-still = record { own = own-still; guests = guests-right }

  -- another partition has another label
  other-label : (n p : ℕ) → HasPartition w.rows n → HasPartition w.rows p → nat_eq p n ≡ false → same_label (label_of w n) (label_of w p) ≡ false
  other-label n p has there apart = label-tells w.rows sound n p has there ∙ grind (arith, nat_tests, apart)

  -- a node joined a partition
  pub joined-shut : (old new : Notes) (name : Name) (p : ℕ) (size : Resource) → HasPartition w.rows p → state_in u ≡ node_joins w.config name (label_of w p) size (state_in w)
      → Changes (forgotten_on p) old.own new.own → new.guests ≡ old.guests → AreShut w old → AreShut u new
  joined-shut old new name p size has is forgot guests =
      all-still old new (λ r. nat_eq r p) forgot.noted guests (subst (NoneStarts (state_in w)) (sym is) (joins-starts w.config name (label_of w p) size (state_in w)))
      (λ r there apart. subst (λ t. StandsStill (state_in w) t (label_of w r)) (sym is) (joins-still w.config name (label_of w p) size (state_in w) (label_of w r) (other-label p r has there apart)))

  -- one left
  pub left-shut : (old new : Notes) (n : ℕ) (row : NodeRow) → lookup (nat_eq n) w.rows.nodes ≡ Some row → state_in u ≡ node_leaves (node_of w.rows.partitions row) (state_in w)
      → Changes (forgotten_on row.partition) old.own new.own → new.guests ≡ old.guests → AreShut w old → AreShut u new
  left-shut old new n row found is forgot guests =
      all-still old new (λ r. nat_eq r row.partition) forgot.noted guests (subst (NoneStarts (state_in w)) (sym is) (leaves-starts (node_of w.rows.partitions row) (state_in w)))
      (λ r there apart.
      subst (λ t. StandsStill (state_in w) t (label_of w r)) (sym is)
      (leaves-still (node_of w.rows.partitions row) (state_in w) (label_of w r) (other-label row.partition r (sound.nodes n row found) there apart)))

  -- one left, and joined another partition
  pub moved-shut : (old mid new : Notes) (n : ℕ) (row : NodeRow) (p : ℕ) → lookup (nat_eq n) w.rows.nodes ≡ Some row → HasPartition w.rows p
      → state_in u ≡ node_joins w.config row.name (label_of w p) row.size (node_leaves (node_of w.rows.partitions row) (state_in w))
      → Changes (forgotten_on row.partition) old.own mid.own → mid.guests ≡ old.guests → Changes (forgotten_on p) mid.own new.own → new.guests ≡ mid.guests
      → AreShut w old → AreShut u new
  moved-shut old mid new n row p found has is first first-guests second second-guests =
      all-still old new gone left (second-guests ∙ first-guests)
      (subst (NoneStarts s) (sym is) (starts-then s (node_leaves node s) (node_joins w.config row.name (label_of w p) row.size (node_leaves node s)) (leaves-starts node s) (joins-starts w.config row.name (label_of w p) row.size (node_leaves node s))))
      (λ r there apart.
      let parts = neither (nat_eq r p) (nat_eq r row.partition) apart in
      subst (λ t. StandsStill s t (label_of w r)) (sym is)
      (still-then s (node_leaves node s) (node_joins w.config row.name (label_of w p) row.size (node_leaves node s)) (label_of w r)
      (leaves-still node s (label_of w r) (other-label row.partition r (sound.nodes n row found) there parts.1))
      (joins-still w.config row.name (label_of w p) row.size (node_leaves node s) (label_of w r) (other-label p r has there parts.0))))
    where
      s : State
      s = state_in w

      node : Node
      node = node_of w.rows.partitions row

      gone : ℕ → Bool
      gone r = nat_eq r p || nat_eq r row.partition

      neither : (a b : Bool) → (a || b) ≡ false → (a ≡ false) × (b ≡ false)
      neither true b h = absurd (true≢false h)
      neither false b h = (refl, h)

      left : (r q : ℕ) → noted_at new.own r q ≡ cond (gone r) nothing_noted (noted_at old.own r q)
      left r q = second.noted r q ∙ ap (cond (nat_eq r p) nothing_noted) (first.noted r q) ∙ either (nat_eq r p)
        where
          either : (b : Bool) → cond b nothing_noted (cond (nat_eq r row.partition) nothing_noted (noted_at old.own r q)) ≡ cond (b || nat_eq r row.partition) nothing_noted (noted_at old.own r q)
          either true = refl
          either false = refl
