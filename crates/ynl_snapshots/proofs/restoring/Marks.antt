-- The marks of stopped queues, and the lines that tell them.
use Rattle.std.proofs.Common.{◌≡◌, ◌≢◌, ◌<◌, ◌-◌, ℕ, zero, suc, Bool, true, false, not, ◌&&◌, ◌||◌, List, [], ◌∷◌, length, nat_eq, nat_le, get_or, slice_get, Some, refl, sym, ap, subst, ◌∙◌, arith}
use Rattle.std.specs.List.{list_any}
use Rattle.std.proofs.lemmas.Bool.Decides.{nat_tests}
use Rattle.std.proofs.lemmas.Option.{none-some, same_Some}
use Rattle.ynl_resource.specs.Names.{root, same_label, same_path}
use Rattle.ynl_resource.specs.declared.labels.Label.{Label}
use Rattle.ynl_resource.specs.declared.paths.Path.{Path}
use Rattle.ynl_model.specs.declared.queues.StopRow.{StopRow}
use Rattle.ynl_model.specs.Cluster.{State}
use Rattle.ynl_model.specs.Queues.{Config, capacity_on, is_queue, may_use}
use Rattle.ynl_laws.proofs.Logic.{and-false}
use Rattle.ynl_inventory.specs.layout.Paths.{path_at}
use Rattle.ynl_inventory.specs.layout.settings.Meaning.{stops_of}
use Rattle.ynl_inventory.proofs.layout.settings.StopsMean.{other-path, own-path}
use Rattle.ynl_inventory.specs.Sound.{IsFor, IsSound}
use Rattle.ynl_cluster.specs.Cluster.{ClusterView, state_in}
use Rattle.ynl_replies.specs.admission.Named.{IsQueueOf}
use Rattle.ynl_saved.specs.declared.lines.StateLine.TheVariants.{Maximum, Stopped}
use Rattle.ynl_saved.specs.Restoring.{is_sound_line, Restored}

-- whether a row says that a queue is stopped
abbrev pub stops : Path → StopRow → Bool
stops path row = row.stopped && same_path row.queue path

-- a number above 0 is not root's
pub not-root : (q : ℕ) → 0 < q → nat_eq q 0 ≡ false
not-root q above = grind (arith, nat_tests, above)

always : (b : Bool) → (b && true) ≡ b
always true = refl
always false = refl

-- where all queues have other paths, none is stopped
others : (paths : List Path) (marks : List Bool) (path : Path) → ((m : ℕ) → m < length paths → same_path (get_or paths m root) path ≡ false) → list_any (stops path) (stops_of paths marks) ≡ false
others [] marks path differ = refl
others (p ∷ ps) [] path differ = refl
others (p ∷ ps) (m ∷ ms) path differ = λ i. (ap (λ b. m && b) (differ 0 (omega arith)) ∙ and-false m) i || others ps ms path (λ k inside. differ (suc k) (omega (arith, inside))) i

-- the mark of the one queue of a path says whether it is stopped
marked : (paths : List Path) (marks : List Bool) (k : ℕ) (path : Path) (row : StopRow) → k < length paths → same_path (get_or paths k root) path ≡ true
    → ((m : ℕ) → m < length paths → m ≢ k → same_path (get_or paths m root) path ≡ false) → slice_get (stops_of paths marks) k ≡ Some row → list_any (stops path) (stops_of paths marks) ≡ row.stopped
marked [] marks k path row inside own differ at = absurd (omega (arith, inside))
marked (p ∷ ps) [] k path row inside own differ at = absurd (none-some row at)
marked (p ∷ ps) (m ∷ ms) zero path row inside own differ at =
    (λ i. (ap (λ b. m && b) own ∙ always m) i || others ps ms path (λ n within. differ (suc n) (omega (arith, within)) (λ e. omega (arith, e))) i)
    ∙ or-never m ∙ ap (λ (row : StopRow). row.stopped) (same_Some (record { queue = p; stopped = m }) row at)
  where
    or-never : (b : Bool) → (b || false) ≡ b
    or-never true = refl
    or-never false = refl
marked (p ∷ ps) (m ∷ ms) (suc k) path row inside own differ at =
    (λ i. (ap (λ b. m && b) (differ 0 (omega arith) (λ e. omega (arith, e))) ∙ and-false m) i || list_any (stops path) (stops_of ps ms))
    ∙ marked ps ms k path row (omega (arith, inside)) own (λ n within apart. differ (suc n) (omega (arith, within)) (λ e. apart (omega (arith, e)))) at

-- whether a queue of a cluster is stopped is said by its mark
pub stopped-as : (w : ClusterView) → IsSound w.rows → IsFor w.config w.rows → (queue : Path) (q : ℕ) → 0 < q → IsQueueOf w queue q → (row : StopRow) → slice_get (state_in w).stops (q - 1) ≡ Some row
    → list_any (stops queue) (state_in w).stops ≡ row.stopped
stopped-as w sound is queue zero above its row at = absurd (omega (arith, above))
stopped-as w sound is queue (suc k) above its row at =
    ap (λ (ps : List Path). list_any (stops queue) (stops_of ps w.stops)) (sym is.paths)
    ∙ marked w.rows.paths w.stops k queue row (omega (arith, its.there))
    (subst (λ p. same_path (path_at w.rows.paths (suc k)) p ≡ true) its.own (own-path w.rows.paths (suc k)))
    (λ m inside apart.
    subst (λ p. same_path (path_at w.rows.paths (suc m)) p ≡ false) its.own (other-path w.rows.paths sound.tree (suc m) (suc k) (omega (arith, inside)) its.there (λ e. apart (omega (arith, e)))))
    (ap (λ (ps : List Path). slice_get (stops_of ps w.stops) k) is.paths ∙ ap (slice_get (state_in w).stops) less ∙ at)
  where
    less : k ≡ suc k - 1
    less = omega arith

-- what is tested of the line of a queue that is stopped
pub stop-sound : (c : Config) (r : Restored) (s : State) → r.state ≡ s → (queue : Path) (there top stopped : Bool) → is_queue c queue ≡ there → same_path queue root ≡ top → list_any (stops queue) s.stops ≡ stopped
    → is_sound_line c r (Stopped queue) ≡ (there && not top && not stopped)
unfolding is_sound_line
stop-sound c r s is queue there top stopped e f g = λ i. e i && not (f i) && not ((ap (λ (s : State). list_any (stops queue) s.stops) is ∙ g) i)

-- what is tested of the line of a maximum
pub maximum-sound : (c : Config) (r : Restored) (queue : Path) (label : Label) (share : ℕ) (there top may enough : Bool)
    → list_any (λ set. same_path set.0 queue && same_label set.1 label) r.maxima ≡ false → is_queue c queue ≡ there → same_path queue root ≡ top → may_use c queue label ≡ may → nat_le (capacity_on c queue label) share ≡ enough
    → is_sound_line c r (Maximum queue label share) ≡ (there && not top && may && enough)
unfolding is_sound_line
maximum-sound c r queue label share there top may enough new e f g h =
    (λ i. e i && not (f i) && g i && h i && not (new i)) ∙ always (there && not top && may && enough)

-- a maximum that a line told goes with none, and so does one that does not go where none was told
pub maximum-told : (c : Config) (r : Restored) (queue : Path) (label : Label) (share : ℕ)
    → (list_any (λ set. same_path set.0 queue && same_label set.1 label) r.maxima ≡ false → is_sound_line c r (Maximum queue label share) ≡ false) → is_sound_line c r (Maximum queue label share) ≡ false
unfolding is_sound_line
maximum-told c r queue label share otherwise =
    go (is_queue c queue && not (same_path queue root) && may_use c queue label && nat_le (capacity_on c queue label) share) (list_any (λ set. same_path set.0 queue && same_label set.1 label) r.maxima) refl otherwise
  where
    go : (before b : Bool) → list_any (λ set. same_path set.0 queue && same_label set.1 label) r.maxima ≡ b
        → (list_any (λ set. same_path set.0 queue && same_label set.1 label) r.maxima ≡ false → (before && not (list_any (λ set. same_path set.0 queue && same_label set.1 label) r.maxima)) ≡ false)
        → (before && not (list_any (λ set. same_path set.0 queue && same_label set.1 label) r.maxima)) ≡ false
    go before true e otherwise = ap (λ b. before && not b) e ∙ and-false before
    go before false e otherwise = otherwise e
