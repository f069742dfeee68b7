-- The lines of the queues that are stopped are read, and those of the maxima that are not the configured ones.
use Rattle.std.proofs.Common.{◌≡◌, inl, inr, Bool, true, false, cond, ◌&&◌, ◌||◌, ◌==◌, List, [], ◌∷◌, ◌++◌, map, Some, find, refl, sym, ap, subst, ◌∙◌, append-nil}
use Rattle.std.specs.Prelude.{IsTrue, flat_map, ⊤}
use Rattle.std.specs.List.{AllByRecursion, list_any}
use Rattle.std.specs.Option.{option_map_or}
use Rattle.std.proofs.lemmas.Bool.{and_from, and_parts}
use Rattle.std.proofs.lemmas.Grind.{flat_map-append}
use mathlib.Core.Bool.{true≢false}
use Rattle.ynl_resource.specs.Names.{root, same_label, same_path}
use Rattle.ynl_resource.specs.declared.labels.Label.{Label}
use Rattle.ynl_resource.specs.declared.paths.Path.{Path}
use Rattle.ynl_model.specs.Accepted.{is_accepted}
use Rattle.ynl_model.specs.Cluster.{State}
use Rattle.ynl_model.specs.Nodes.{partition_labels}
use Rattle.ynl_model.specs.Queues.{Config, QueueRow, configured_maximum, is_maximum_of, is_queue, maximum_on, opening_maxima}
use Rattle.ynl_model.specs.declared.queues.MaximumRow.{MaximumRow}
use Rattle.ynl_model.specs.declared.queues.StopRow.{StopRow}
use Rattle.ynl_saved.specs.declared.lines.StateLine.{StateLine}
use Rattle.ynl_saved.specs.declared.lines.StateLine.TheVariants.{Stopped, Maximum}
use Rattle.ynl_saved.specs.Saving.{maxima_lines, maximum_lines, stop_lines}
use Rattle.ynl_laws.specs.Working.{Pairs}
use Rattle.ynl_laws.proofs.Lists.{Each-all, Each-append, Each-both, Each-map, Each-split, Each-unmap, Each-weaker, Each-with, flat-map}
use Rattle.ynl_laws.proofs.Names.{same-label_path, same-label_self, same-path}
use Rattle.ynl_saved.proofs.Apps.{queues-are}
use Rattle.ynl_saved.proofs.Configured.{labels-differ, none-root, paths-differ}
use Rattle.ynl_saved.proofs.Leaved.{same-path_self}
use Rattle.ynl_saved.proofs.Rows.{keyed-of, one-done, pairs-before, pairs-behind, pairs-keys, pairs-made, turned, update-in}
use Rattle.ynl_saved.proofs.Served.{same-number, same-number_self}
use Rattle.ynl_saved.proofs.Shapes.{IsShare, Shaped, key_of, made}
use Rattle.ynl_saved.proofs.Sound.{reads-maximum, reads-stopped}
use Rattle.ynl_saved.proofs.Told.{Reads, Side, plain-section, reads-none, section}

-- where each fails a test none passes it
none-any : {X : Type 0} (q : X → Bool) (xs : List X) → AllByRecursion (λ x. q x ≡ false) xs → list_any q xs ≡ false
none-any q [] h = refl
none-any q (x ∷ xs) h = (λ i. h.0 i || list_any q xs) ∙ none-any q xs h.1

-- a path of a queue, which is not root
abbrev IsBelow : Config → Path → Type 0
IsBelow c path = (is_queue c path ≡ true) × (same_path path root ≡ false)

-- so is each configured path
paths-below : (c : Config) → IsTrue (is_accepted c) → AllByRecursion (IsBelow c) (map (λ (row : QueueRow). row.path) c.queues)
paths-below c accepted = Each-both (λ path. is_queue c path ≡ true) (λ path. same_path path root ≡ false) (map (λ (row : QueueRow). row.path) c.queues)
    (Each-map (λ (row : QueueRow). is_queue c row.path ≡ true) _ (λ (row : QueueRow). row.path) (λ row k. k) c.queues (queues-are c))
    (Each-weaker (λ path. same_path root path ≡ false) _ (λ path k. turned same_path same-path same-path_self root path k) (map (λ (row : QueueRow). row.path) c.queues) (none-root c accepted))

-- ---- stops

-- a queue that runs
abbrev pub run : StopRow → StopRow
run row = record row { stopped = false }

module _ (c : Config) (accepted : IsTrue (is_accepted c)) (s : State) (shaped : Shaped c s) (side : Side) (s4 : State) where
  -- no two marks are of one queue
  stops-apart : Pairs (λ (a b : StopRow). same_path a.queue b.queue ≡ false) s.stops
  stops-apart = pairs-keys same_path (λ (row : StopRow). row.queue) s.stops (map (λ (row : QueueRow). row.path) c.queues) shaped.stops (pairs-made (λ (row : QueueRow). row.path) (λ a b. same_path a b ≡ false) c.queues (paths-differ c accepted))

  -- each mark is of a queue below root
  stops-below : AllByRecursion (λ (row : StopRow). IsBelow c row.queue) s.stops
  stops-below = Each-unmap (λ (row : StopRow). row.queue) (IsBelow c) s.stops (subst (AllByRecursion (IsBelow c)) (sym shaped.stops) (paths-below c accepted))

  -- the line of one queue is read, where it is stopped
  stop-step : (done : List StopRow) (row : StopRow) (todo : List StopRow) → done ++ row ∷ todo ≡ s.stops → Reads c (record s4 { stops = done ++ map run (row ∷ todo) }) side (stop_lines row) (record s4 { stops = (done ++ row ∷ []) ++ map run todo }) side
  stop-step done row todo e =
      subst (λ stops. Reads c (record s4 { stops = done ++ map run (row ∷ todo) }) side (stop_lines row) (record s4 { stops = stops }) side) (one-done done row (map run todo)) (go row.stopped refl)
    where
      differ : Pairs (λ (a b : StopRow). same_path a.queue b.queue ≡ false) (done ++ row ∷ todo)
      differ = subst (Pairs (λ (a b : StopRow). same_path a.queue b.queue ≡ false)) (sym e) stops-apart

      before : AllByRecursion (λ (other : StopRow). same_path other.queue row.queue ≡ false) done
      before = pairs-before (λ (a b : StopRow). same_path a.queue b.queue ≡ false) done row todo differ

      behind : AllByRecursion (λ (other : StopRow). same_path other.queue row.queue ≡ false) (map run todo)
      behind = Each-map (λ (other : StopRow). same_path row.queue other.queue ≡ false) _ run (λ other k. turned same_path same-path same-path_self row.queue other.queue k) todo (pairs-behind (λ (a b : StopRow). same_path a.queue b.queue ≡ false) done row todo differ)

      below : IsBelow c row.queue
      below = (Each-split (λ (row : StopRow). IsBelow c row.queue) done (row ∷ todo) (subst (AllByRecursion (λ (row : StopRow). IsBelow c row.queue)) (sym e) stops-below)).1.0

      no : (b : Bool) {a : Bool} → a ≡ false → (b && a) ≡ false
      no true k = k
      no false k = refl

      first : list_any (λ (other : StopRow). other.stopped && same_path other.queue row.queue) (done ++ map run (row ∷ todo)) ≡ false
      first = none-any (λ (other : StopRow). other.stopped && same_path other.queue row.queue) (done ++ map run (row ∷ todo))
          (Each-append (λ (other : StopRow). (other.stopped && same_path other.queue row.queue) ≡ false) done (map run (row ∷ todo))
          (Each-weaker (λ (other : StopRow). same_path other.queue row.queue ≡ false) _ (λ other k. no other.stopped k) done before)
          (refl, Each-weaker (λ (other : StopRow). same_path other.queue row.queue ≡ false) _ (λ other k. no other.stopped k) (map run todo) behind))

      go : (b : Bool) → row.stopped ≡ b → Reads c (record s4 { stops = done ++ map run (row ∷ todo) }) side (cond b (Stopped row.queue ∷ []) []) (record s4 { stops = done ++ row ∷ map run todo }) side
      go true is = subst (λ stops. Reads c (record s4 { stops = done ++ map run (row ∷ todo) }) side (Stopped row.queue ∷ []) (record s4 { stops = stops }) side)
          (update-in (λ other. same_path other.queue row.queue) (λ (other : StopRow). record other { stopped = true }) done (run row) (map run todo) before (same-path_self row.queue) behind
          ∙ (λ i. done ++ record row { stopped = sym is i } ∷ map run todo))
          (reads-stopped c (record s4 { stops = done ++ map run (row ∷ todo) }) side row.queue below.0 below.1 first)
      go false is = subst (λ stops. Reads c (record s4 { stops = done ++ map run (row ∷ todo) }) side [] (record s4 { stops = stops }) side)
          (λ i. done ++ record row { stopped = sym is i } ∷ map run todo)
          (reads-none c (record s4 { stops = done ++ map run (row ∷ todo) }) side)

  -- the lines of the stops
  pub reads-stops : Reads c (record s4 { stops = map run s.stops }) side (flat_map stop_lines s.stops) (record s4 { stops = s.stops }) side
  reads-stops = subst (λ stops. Reads c (record s4 { stops = map run s.stops }) side (flat_map stop_lines s.stops) (record s4 { stops = stops }) side) (append-nil s.stops)
      (plain-section c stop_lines (λ done todo. record s4 { stops = done ++ map run todo }) side s.stops stop-step [] s.stops refl)

-- ---- maxima

-- a maximum as configured
abbrev pub conf : Config → MaximumRow → MaximumRow
conf c row = record row { share = configured_maximum c row.queue row.label }

-- whether two keys are the same
abbrev same_key : Path × Label → Path × Label → Bool
same_key a b = same_path a.0 b.0 && same_label a.1 b.1

-- keys that are the same are equal
key-same : (a b : Path × Label) → same_key a b ≡ true → a ≡ b
key-same a b h = λ i. (same-path a.0 b.0 (and_parts (same_path a.0 b.0) _ h).0 i, same-label_path a.1 b.1 (and_parts (same_path a.0 b.0) _ h).1 i)

-- a key is the same as itself
key-self : (a : Path × Label) → same_key a a ≡ true
key-self a = and_from _ _ (same-path_self a.0) (same-label_self a.1)

-- the pairs of two lists together
pairs-append : {X : Type 0} (R : X → X → Type 0) (xs ys : List X) → Pairs R xs → AllByRecursion (λ x. AllByRecursion (R x) ys) xs → Pairs R ys → Pairs R (xs ++ ys)
pairs-append R [] ys h k j = j
pairs-append R (x ∷ xs) ys h k j = (Each-append (R x) xs ys h.0 k.0, pairs-append R xs ys h.1 k.1 j)

-- lists that are the same for each element
flat-each : {X Y : Type 0} (f g : X → List Y) (xs : List X) → AllByRecursion (λ x. f x ≡ g x) xs → flat_map f xs ≡ flat_map g xs
flat-each f g [] h = refl
flat-each f g (x ∷ xs) h = λ i. h.0 i ++ flat-each f g xs h.1 i

-- lists of lists, one level at a time
flat-flat : {X Y Z : Type 0} (h : Y → List Z) (f : X → List Y) (xs : List X) → flat_map h (flat_map f xs) ≡ flat_map (λ x. flat_map h (f x)) xs
flat-flat h f [] = refl
flat-flat h f (x ∷ xs) = flat_map-append h (f x) (flat_map f xs) ∙ ap (λ ys. flat_map h (f x) ++ ys) (flat-flat h f xs)

-- a line for a maximum that is not the configured one
abbrev pub share_lines : Config → MaximumRow → List StateLine
share_lines c row = cond (row.share == configured_maximum c row.queue row.label) [] (Maximum row.queue row.label row.share ∷ [])

module _ (c : Config) (accepted : IsTrue (is_accepted c)) where
  -- two maxima have different keys
  abbrev Away : MaximumRow → MaximumRow → Type 0
  Away a b = same_key (key_of a) (key_of b) ≡ false

  -- at first no two maxima have one key
  made-apart : (rows : List QueueRow) → Pairs (λ a b. same_path a.path b.path ≡ false) rows → Pairs Away (flat_map (made c) rows)
  made-apart [] h = tt
  made-apart (row ∷ rows) h = pairs-append Away (made c row) (flat_map (made c) rows)
      (pairs-made (λ label. record { queue = row.path; label = label; share = configured_maximum c row.path label }) Away (partition_labels c.labels) (weaken (partition_labels c.labels) (labels-differ c accepted)))
      (Each-map (λ (label : Label). ⊤) _ (λ label. record { queue = row.path; label = label; share = configured_maximum c row.path label }) (λ label _. others label rows h.0) (partition_labels c.labels) (Each-all (λ (label : Label). ⊤) (λ label. tt) (partition_labels c.labels)))
      (made-apart rows h.1)
    where
      no : (b : Bool) {a : Bool} → a ≡ false → (b && a) ≡ false
      no true k = k
      no false k = refl

      weaken : (labels : List Label) → Pairs (λ a b. same_label a b ≡ false) labels → Pairs (λ a b. (same_path row.path row.path && same_label a b) ≡ false) labels
      weaken [] k = tt
      weaken (label ∷ labels) k = (Each-weaker (λ b. same_label label b ≡ false) _ (λ b e. no (same_path row.path row.path) e) labels k.0, weaken labels k.1)

      others : (label : Label) (rows : List QueueRow) → AllByRecursion (λ b. same_path row.path b.path ≡ false) rows → AllByRecursion (Away (record { queue = row.path; label = label; share = configured_maximum c row.path label })) (flat_map (made c) rows)
      others label [] k = tt
      others label (other ∷ rows) k = Each-append (Away (record { queue = row.path; label = label; share = configured_maximum c row.path label })) (made c other) (flat_map (made c) rows)
          (Each-map (λ (l : Label). ⊤) (Away (record { queue = row.path; label = label; share = configured_maximum c row.path label })) (λ l. record { queue = other.path; label = l; share = configured_maximum c other.path l }) (λ l _ i. k.0 i && same_label label l) (partition_labels c.labels) (Each-all (λ (l : Label). ⊤) (λ l. tt) (partition_labels c.labels)))
          (others label rows k.1)

  -- the maxima of the opening state have keys of their own
  opening-apart : Pairs Away (opening_maxima c)
  unfolding opening_maxima
  opening-apart = made-apart c.queues (paths-differ c accepted)

  -- each of them is of a queue
  opening-below : AllByRecursion (λ (key : Path × Label). IsBelow c key.0) (map key_of (opening_maxima c))
  unfolding opening_maxima
  opening-below = Each-map (λ (row : MaximumRow). IsBelow c row.queue) _ key_of (λ row k. k) (flat_map (made c) c.queues) (each c.queues (Each-unmap (λ (row : QueueRow). row.path) (IsBelow c) c.queues (paths-below c accepted)))
    where
      each : (rows : List QueueRow) → AllByRecursion (λ (row : QueueRow). IsBelow c row.path) rows → AllByRecursion (λ (row : MaximumRow). IsBelow c row.queue) (flat_map (made c) rows)
      each [] h = tt
      each (row ∷ rows) h = Each-append (λ (row : MaximumRow). IsBelow c row.queue) (made c row) (flat_map (made c) rows)
          (Each-map (λ (label : Label). ⊤) (λ (row : MaximumRow). IsBelow c row.queue) (λ label. record { queue = row.path; label = label; share = configured_maximum c row.path label }) (λ label _. h.0) (partition_labels c.labels) (Each-all (λ (label : Label). ⊤) (λ label. tt) (partition_labels c.labels)))
          (each rows h.1)

  -- as configured they are what they are
  pub opening-conf : map (conf c) (opening_maxima c) ≡ opening_maxima c
  unfolding opening_maxima
  opening-conf = same (flat_map (made c) c.queues) (each c.queues)
    where
      each : (rows : List QueueRow) → AllByRecursion (λ row. conf c row ≡ row) (flat_map (made c) rows)
      each [] = tt
      each (row ∷ rows) = Each-append (λ row. conf c row ≡ row) (made c row) (flat_map (made c) rows)
          (Each-map (λ (label : Label). ⊤) (λ row. conf c row ≡ row) (λ label. record { queue = row.path; label = label; share = configured_maximum c row.path label }) (λ label _. refl) (partition_labels c.labels) (Each-all (λ (label : Label). ⊤) (λ label. tt) (partition_labels c.labels)))
          (each rows)

      same : (rows : List MaximumRow) → AllByRecursion (λ row. conf c row ≡ row) rows → map (conf c) rows ≡ rows
      same [] h = refl
      same (row ∷ rows) h = λ i. h.0 i ∷ same rows h.1 i

  -- lines for each queue and each label are lines for each maximum
  by-keys : (g : Path → Label → List StateLine) → flat_map (λ (row : QueueRow). flat_map (g row.path) (partition_labels c.labels)) c.queues ≡ flat_map (λ (key : Path × Label). g key.0 key.1) (map key_of (opening_maxima c))
  unfolding opening_maxima
  by-keys g =
      flat-each (λ row. flat_map (g row.path) (partition_labels c.labels)) (λ row. flat_map (λ (m : MaximumRow). g m.queue m.label) (made c row)) c.queues
      (Each-all (λ (row : QueueRow). flat_map (g row.path) (partition_labels c.labels) ≡ flat_map (λ (m : MaximumRow). g m.queue m.label) (made c row))
      (λ row. sym (flat-map (λ (m : MaximumRow). g m.queue m.label) (λ label. record { queue = row.path; label = label; share = configured_maximum c row.path label }) (partition_labels c.labels))) c.queues)
      ∙ sym (flat-flat (λ (m : MaximumRow). g m.queue m.label) (made c) c.queues)
      ∙ sym (flat-map (λ (key : Path × Label). g key.0 key.1) key_of (flat_map (made c) c.queues))

  module _ (s : State) (shaped : Shaped c s) where
    -- no two maxima of a state have one key
    maxima-apart : Pairs Away s.maxima
    maxima-apart = pairs-keys same_key key_of s.maxima (map key_of (opening_maxima c)) shaped.maxima (pairs-made key_of (λ a b. same_key a b ≡ false) (opening_maxima c) opening-apart)

    -- each maximum is of a queue below root
    maxima-below : AllByRecursion (λ (row : MaximumRow). IsBelow c row.queue) s.maxima
    maxima-below = Each-unmap key_of (λ (key : Path × Label). IsBelow c key.0) s.maxima (subst (AllByRecursion (λ (key : Path × Label). IsBelow c key.0)) (sym shaped.maxima) opening-below)

    -- the lines of all queues are those of all maxima
    pub maxima-are : flat_map (λ (row : QueueRow). maxima_lines c s.maxima row.path) c.queues ≡ flat_map (share_lines c) s.maxima
    unfolding maximum_on
    maxima-are =
        by-keys (maximum_lines c s.maxima)
        ∙ ap (flat_map (λ (key : Path × Label). maximum_lines c s.maxima key.0 key.1)) (sym shaped.maxima)
        ∙ flat-map (λ (key : Path × Label). maximum_lines c s.maxima key.0 key.1) key_of s.maxima
        ∙ flat-each (λ (row : MaximumRow). maximum_lines c s.maxima row.queue row.label) (share_lines c) s.maxima
        (Each-weaker (λ row. find (λ other. same_key (key_of other) (key_of row)) s.maxima ≡ Some row) _
        (λ row is i. cond (option_map_or (λ (r : MaximumRow). r.share) (is i) 0 == configured_maximum c row.queue row.label) [] (Maximum row.queue row.label (option_map_or (λ (r : MaximumRow). r.share) (is i) 0) ∷ []))
        s.maxima (keyed-of same_key key_of key-same key-self s.maxima maxima-apart))

    module _ (parts : List Label) (s5 : State) where
      -- what is told beside the state: all partitions, and none of the maxima that are to come
      abbrev AreOpen : List MaximumRow → List MaximumRow → Side → Type 0
      AreOpen done todo side = (side.partitions ≡ parts) × AllByRecursion (λ (row : MaximumRow). list_any (λ set. same_key set (key_of row)) side.maxima ≡ false) todo

      abbrev maxima_at : List MaximumRow → List MaximumRow → State
      maxima_at done todo = record s5 { maxima = done ++ map (conf c) todo }

      share-step : (done : List MaximumRow) (row : MaximumRow) (todo : List MaximumRow) (side : Side) → done ++ row ∷ todo ≡ s.maxima → AreOpen done (row ∷ todo) side →
          (new : Side) × AreOpen (done ++ row ∷ []) todo new × Reads c (maxima_at done (row ∷ todo)) side (share_lines c row) (maxima_at (done ++ row ∷ []) todo) new
      share-step done row todo side e q = go (row.share == configured_maximum c row.queue row.label) refl
        where
          differ : Pairs Away (done ++ row ∷ todo)
          differ = subst (Pairs Away) (sym e) maxima-apart

          here : (P : MaximumRow → Type 0) → AllByRecursion P s.maxima → P row
          here P all = (Each-split P done (row ∷ todo) (subst (AllByRecursion P) (sym e) all)).1.0

          below : IsBelow c row.queue
          below = here (λ (row : MaximumRow). IsBelow c row.queue) maxima-below

          go : (b : Bool) → (row.share == configured_maximum c row.queue row.label) ≡ b →
              (new : Side) × AreOpen (done ++ row ∷ []) todo new × Reads c (maxima_at done (row ∷ todo)) side (cond b [] (Maximum row.queue row.label row.share ∷ [])) (maxima_at (done ++ row ∷ []) todo) new
          go true is = (
            side,
            (q.0, q.1.1),
            subst (λ maxima. Reads c (maxima_at done (row ∷ todo)) side [] (record s5 { maxima = maxima }) side)
                ((λ i. done ++ record row { share = sym (same-number row.share (configured_maximum c row.queue row.label) is) i } ∷ map (conf c) todo) ∙ one-done done row (map (conf c) todo))
                (reads-none c (maxima_at done (row ∷ todo)) side),
          )
          go false is = by (here (IsShare c) shaped.shares)
            where
              by : IsShare c row → (new : Side) × AreOpen (done ++ row ∷ []) todo new × Reads c (maxima_at done (row ∷ todo)) side (Maximum row.queue row.label row.share ∷ []) (maxima_at (done ++ row ∷ []) todo) new
              by (inl same) = absurd (true≢false (sym (ap (λ n. n == configured_maximum c row.queue row.label) same ∙ same-number_self (configured_maximum c row.queue row.label)) ∙ is))
              by (inr set) = (
                record { partitions = side.partitions; maxima = (row.queue, row.label) ∷ side.maxima },
                (
                  q.0,
                  Each-with (Away row) (λ (other : MaximumRow). list_any (λ set. same_key set (key_of other)) side.maxima ≡ false) (λ (other : MaximumRow). list_any (λ set. same_key set (key_of other)) ((row.queue, row.label) ∷ side.maxima) ≡ false)
                      (λ other away k. (λ i. away i || list_any (λ set. same_key set (key_of other)) side.maxima) ∙ k) todo (pairs-behind Away done row todo differ) q.1.1,
                ),
                subst (λ maxima. Reads c (maxima_at done (row ∷ todo)) side (Maximum row.queue row.label row.share ∷ []) (record s5 { maxima = maxima }) (record { partitions = side.partitions; maxima = (row.queue, row.label) ∷ side.maxima }))
                    (update-in (is_maximum_of row.queue row.label) (λ (other : MaximumRow). record other { share = row.share }) done (conf c row) (map (conf c) todo)
                    (pairs-before Away done row todo differ) (key-self (key_of row))
                    (Each-map (Away row) _ (conf c) (λ other k. turned same_key key-same key-self (key_of row) (key_of other) k) todo (pairs-behind Away done row todo differ))
                    ∙ one-done done row (map (conf c) todo))
                    (reads-maximum c (maxima_at done (row ∷ todo)) side row.queue row.label row.share below.0 below.1 set.0 set.1 q.1.0),
              )

      -- the lines of the maxima
      pub reads-maxima : (side : Side) → side.partitions ≡ parts → side.maxima ≡ [] → (new : Side) × (new.partitions ≡ parts) × Reads c (record s5 { maxima = map (conf c) s.maxima }) side (flat_map (share_lines c) s.maxima) (record s5 { maxima = s.maxima }) new
      reads-maxima side same none =
          let all = section c (share_lines c) maxima_at AreOpen s.maxima share-step [] s.maxima side refl (same, open-all s.maxima) in
          (all.0, all.1.0, subst (λ maxima. Reads c (record s5 { maxima = map (conf c) s.maxima }) side (flat_map (share_lines c) s.maxima) (record s5 { maxima = maxima }) all.0) (append-nil s.maxima) all.2)
        where
          open-all : (rows : List MaximumRow) → AllByRecursion (λ (row : MaximumRow). list_any (λ set. same_key set (key_of row)) side.maxima ≡ false) rows
          open-all [] = tt
          open-all (row ∷ rows) = (ap (list_any (λ set. same_key set (key_of row))) none, open-all rows)
