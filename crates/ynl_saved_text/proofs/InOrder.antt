-- The lines of a state come in order: the first is `begin`, the last is `end`, and each may follow the one before it.
use Rattle.std.proofs.Common.{◌≡◌, ◌≤◌, ℕ, true, false, not, ◌&&◌, List, [], ◌∷◌, ◌++◌, map, length, Option, Some, None, find, refl, sym, subst, arith}
use Rattle.std.specs.Prelude.{flat_map}
use Rattle.std.specs.Option.{option_map_or}
use Rattle.std.proofs.lemmas.Bool.{cond_both, and_from, not_from_false, le-leb}
use Rattle.ynl_resource.specs.declared.names.Name.{Name}
use Rattle.ynl_resource.specs.declared.labels.Label.{Label}
use Rattle.ynl_resource.specs.declared.paths.Path.{Path}
use Rattle.ynl_resource.specs.Names.{same_name, tenant_of}
use Rattle.ynl_model.specs.declared.queues.StopRow.{StopRow}
use Rattle.ynl_model.specs.declared.queues.MaximumRow.{MaximumRow}
use Rattle.ynl_model.specs.Applications.{Application, LeafApps}
use Rattle.ynl_model.specs.Nodes.{partition_labels}
use Rattle.ynl_model.specs.Queues.{Config, maximum_on}
use Rattle.ynl_model.specs.Cluster.{State}
use Rattle.ynl_saved.specs.declared.lines.StateLine.{StateLine}
use Rattle.ynl_saved.specs.declared.lines.StateLine.TheVariants.{Node, Ask, Finished, Container as Holds, Stopped, Maximum, End}
use Rattle.ynl_saved.specs.Saving.{app_lines, leaf_lines, lines_before_end, live_lines, maxima_lines, maximum_lines, partition_line, state_lines, stop_lines}
use Rattle.ynl_saved_text.specs.declared.kinds.StateKind.{StateKind}
use Rattle.ynl_saved_text.specs.declared.kinds.StateKind.TheVariants as kind
use Rattle.ynl_saved_text.specs.StateLines.{is_begin, is_end, kind_of_line, may_follow, rank}

-- each line may follow the one before it, and the first a line of this kind, or none
abbrev pub AreInOrder : Option StateKind → List StateLine → Type 0
AreInOrder before [] = Unit {0}
AreInOrder before (line ∷ lines) = (may_follow before (kind_of_line line) ≡ true) × AreInOrder (Some (kind_of_line line)) lines

-- the kind of the last of some lines that stand behind one of this kind, or behind none
abbrev pub last_kind : Option StateKind → List StateLine → Option StateKind
last_kind before [] = before
last_kind before (line ∷ lines) = last_kind (Some (kind_of_line line)) lines

-- the last kind is that of the line that comes last
pub last_of : (before : Option StateKind) (lines : List StateLine) (line : StateLine) → last_kind before (lines ++ line ∷ []) ≡ Some (kind_of_line line)
last_of before [] line = refl
last_of before (first ∷ lines) line = last_of (Some (kind_of_line first)) lines line

-- ---- ranks

-- the ranks of the lines rise, or stay, from this one to that one
abbrev Rise : ℕ → ℕ → List StateLine → Type 0
Rise low high [] = low ≤ high
Rise low high (line ∷ lines) = (low ≤ rank (kind_of_line line)) × Rise (rank (kind_of_line line)) high lines

-- they rise from a lower rank too
lower : (low' low high : ℕ) (lines : List StateLine) → low' ≤ low → Rise low high lines → Rise low' high lines
lower low' low high [] below h = omega (arith, h)
lower low' low high (line ∷ lines) below h = (let at = h.0 in omega (arith, at, below), h.1)

-- no rank is above the last
within : (low high : ℕ) (lines : List StateLine) → Rise low high lines → low ≤ high
within low high [] h = h
within low high (line ∷ lines) h = let at = h.0 in let rest = within (rank (kind_of_line line)) high lines h.1 in omega (arith, at, rest)

-- lines, and then more of them
behind : (low mid high : ℕ) (xs ys : List StateLine) → Rise low mid xs → Rise mid high ys → Rise low high (xs ++ ys)
behind low mid high [] ys one two = lower low mid high ys one two
behind low mid high (x ∷ xs) ys one two = (one.0, behind (rank (kind_of_line x)) mid high xs ys one.1 two)

-- lines, and then some of one later rank
later : (low mid high : ℕ) (xs ys : List StateLine) → mid ≤ high → Rise low mid xs → Rise high high ys → Rise low high (xs ++ ys)
later low mid high xs ys up one two = behind low mid high xs ys one (lower mid high high ys up two)

-- a line of each of some things, all of one rank
mapped : {X : Type 0} (level : ℕ) (f : X → StateLine) → ((x : X) → rank (kind_of_line (f x)) ≡ level) → (xs : List X) → Rise level level (map f xs)
mapped level f is [] = omega arith
mapped level f is (x ∷ xs) =
    let at = is x in (omega (arith, at), subst (λ low. Rise low level (map f xs)) (sym (is x)) (mapped level f is xs))

-- lines of each of some things, all of one rank
flat : {X : Type 0} (level : ℕ) (f : X → List StateLine) → ((x : X) → Rise level level (f x)) → (xs : List X) → Rise level level (flat_map f xs)
flat level f is [] = omega arith
flat level f is (x ∷ xs) = behind level level level (f x) (flat_map f xs) (is x) (flat level f is xs)

-- ---- kinds

-- a kind of a rank above 0 is not `begin`
not_begin : (k : StateKind) → 1 ≤ rank k → is_begin k ≡ false
not_begin kind.Begin h = absurd (omega (arith, h))
not_begin kind.Partition h = refl
not_begin kind.Node h = refl
not_begin kind.Live h = refl
not_begin kind.Ask h = refl
not_begin kind.Finished h = refl
not_begin kind.Container h = refl
not_begin kind.Stopped h = refl
not_begin kind.Maximum h = refl
not_begin kind.End h = refl

-- a kind of a rank below 7 is not `end`
not_end : (k : StateKind) → rank k ≤ 6 → is_end k ≡ false
not_end kind.Begin h = refl
not_end kind.Partition h = refl
not_end kind.Node h = refl
not_end kind.Live h = refl
not_end kind.Ask h = refl
not_end kind.Finished h = refl
not_end kind.Container h = refl
not_end kind.Stopped h = refl
not_end kind.Maximum h = refl
not_end kind.End h = absurd (omega (arith, h))

-- a line that does not begin may follow one that does not end and is of no later rank
follows : (before after : StateKind) → rank before ≤ 6 → 1 ≤ rank after → rank before ≤ rank after → may_follow (Some before) after ≡ true
follows before after going some up =
    and_from (not (is_begin after) && not (is_end before)) _
    (and_from (not (is_begin after)) _ (not_from_false (is_begin after) (not_begin after some)) (not_from_false (is_end before) (not_end before going))) (le-leb (rank before) (rank after) up)

-- lines whose ranks rise come in order behind the first line, and before the last
rising : (before : StateKind) (low : ℕ) (lines : List StateLine) (count : ℕ) → rank before ≤ low → 1 ≤ low → Rise low 6 lines → AreInOrder (Some before) (lines ++ End count ∷ [])
rising before low [] count below some up = (follows before kind.End (omega (arith, up)) (omega arith) (omega (arith, up)), tt)
rising before low (line ∷ lines) count below some up =
    let at = up.0 in
    let top = within (rank (kind_of_line line)) 6 lines up.1 in
    let rest = rising (kind_of_line line) (rank (kind_of_line line)) lines count (omega arith) (omega (arith, at)) up.1 in
    (follows before (kind_of_line line) (omega (arith, at, top)) (omega (arith, at)) (omega (arith, at)), rest)

-- ---- the lines of a state

-- the lines of an application that was submitted are of one rank
app-rises : (row : LeafApps) (name : Name) → Rise 3 3 (app_lines row name)
app-rises row name = go (find (λ app. same_name app.name name) row.apps)
  where
    go : (o : Option Application) → Rise 3 3 (option_map_or live_lines o (Finished row.leaf name ∷ []))
    go None = (omega arith, omega arith)
    go (Some app) = (omega arith, mapped 3 (Ask (tenant_of app.leaf) app.name) (λ ask. refl) app.asks)

-- so are those of a queue that may be stopped
stop-rises : (row : StopRow) → Rise 5 5 (stop_lines row)
stop-rises row = cond_both row.stopped (Stopped row.queue ∷ []) [] (Rise 5 5) (λ h. (omega arith, omega arith)) (λ h. omega arith)

-- and those of a maximum that may be another than the configured one
maximum-rises : (c : Config) (maxima : List MaximumRow) (queue : Path) (label : Label) → Rise 6 6 (maximum_lines c maxima queue label)
maximum-rises c maxima queue label = cond_both _ [] (Maximum queue label (maximum_on maxima queue label) ∷ []) (Rise 6 6) (λ h. omega arith) (λ h. (omega arith, omega arith))

-- these are the lines of a state behind the first: to the nodes, to the leaves' applications, to the containers, to the queues that are stopped, and
-- to the maxima, behind which the last comes
abbrev to_nodes : State → List StateLine
to_nodes s = map partition_line s.partitions ++ map Node s.nodes

abbrev to_leaves : State → List StateLine
to_leaves s = to_nodes s ++ flat_map leaf_lines s.leaves

abbrev to_containers : State → List StateLine
to_containers s = to_leaves s ++ flat_map (λ row. map Holds row.containers) s.partitions

abbrev to_stops : State → List StateLine
to_stops s = to_containers s ++ flat_map stop_lines s.stops

abbrev between : Config → State → List StateLine
between c s = to_stops s ++ flat_map (λ row. maxima_lines c s.maxima row.path) c.queues

-- the ranks of the lines between the first and the last rise
between-rises : (c : Config) (s : State) → Rise 1 6 (between c s)
between-rises c s =
    later 1 5 6 (to_stops s) (flat_map (λ row. maxima_lines c s.maxima row.path) c.queues) (omega arith)
    (later 1 4 5 (to_containers s) (flat_map stop_lines s.stops) (omega arith)
    (later 1 3 4 (to_leaves s) (flat_map (λ row. map Holds row.containers) s.partitions) (omega arith)
    (later 1 2 3 (to_nodes s) (flat_map leaf_lines s.leaves) (omega arith)
    (later 1 1 2 (map partition_line s.partitions) (map Node s.nodes) (omega arith) (mapped 1 partition_line (λ row. refl) s.partitions) (mapped 2 Node (λ n. refl) s.nodes))
    (flat 3 leaf_lines (λ row. flat 3 (app_lines row) (app-rises row) row.names) s.leaves))
    (flat 4 (λ row. map Holds row.containers) (λ row. mapped 4 Holds (λ p. refl) row.containers) s.partitions))
    (flat 5 stop_lines stop-rises s.stops))
    (flat 6 (λ row. maxima_lines c s.maxima row.path) (λ row. flat 6 (maximum_lines c s.maxima row.path) (maximum-rises c s.maxima row.path) (partition_labels c.labels)) c.queues)

-- the lines of a state are in order
pub state-in-order : (c : Config) (s : State) → AreInOrder None (state_lines c s)
unfolding lines_before_end
state-in-order c s = (refl, rising kind.Begin 1 (between c s) (length (lines_before_end c s)) (omega arith) (omega arith) (between-rises c s))

-- and the last is the end
pub state-ends : (c : Config) (s : State) → last_kind None (state_lines c s) ≡ Some kind.End
state-ends c s = last_of None (lines_before_end c s) (End (length (lines_before_end c s)))
