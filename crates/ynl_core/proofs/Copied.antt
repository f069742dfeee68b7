-- What comes of the lines of a state but the last, where a sink follows what they tell.
use Rattle.std.specs.Prelude.{IsTrue, ⊤}
use Rattle.std.proofs.Common.{◌≡◌, true, cond, List, [], ◌∷◌, ◌++◌, length, Result, Ok, Err, Some, None, refl, sym, ap, subst, ◌∙◌, true≢false}
use Rattle.ynl_model.specs.Accepted.{is_accepted}
use Rattle.ynl_model.specs.Cluster.{State}
use Rattle.ynl_model.specs.Queues.{Config}
use Rattle.ynl_saved.specs.declared.lines.StateLine.{StateLine}
use Rattle.ynl_saved.specs.declared.lines.StateLine.TheVariants.{End}
use Rattle.ynl_saved.specs.Handing.{FailsAmong, TakesAll}
use Rattle.ynl_saved.specs.Restoring.{Restored, is_sound_line, nothing_restored, restored_by, restored_with, with_line}
use Rattle.ynl_saved.specs.Saving.{lines_before_end}
use Rattle.ynl_saved.proofs.Restored.{first-sound}
use Rattle.ynl_saved.proofs.Tellable.{IsTellable}
use Rattle.ynl_saved.proofs.Telling.{tells}
use Rattle.ynl_snapshots.specs.restoring.Telling.{Telling, Tells}
use Rattle.ynl_core.specs.Copying.{Follows}
use Rattle.ynl_core.specs.Reached.{WorksAndIsTold}
use Rattle.ynl_core.specs.World.{World}
use Rattle.ynl_core.specs.declared.copying.CopyFault.{CopyFault}
use Rattle.ynl_core.specs.declared.copying.CopyFault.TheVariants.{NoMemory, Unsound}

-- what lines tell, those in front of them tell a part of
front-tells : (c : Config) (r new : Restored) (xs ys : List StateLine) → restored_by c r (xs ++ ys) ≡ Some new
    → (mid : Restored) × (restored_by c r xs ≡ Some mid) × (restored_by c mid ys ≡ Some new)
front-tells c r new [] ys h = (r, refl, h)
front-tells c r new (x ∷ xs) ys h =
    let first = first-sound c r x (xs ++ ys) new h in
    let rest = front-tells c (restored_with x r) new xs ys first.1 in
    (rest.0, (λ i. cond (first.0 i) (restored_by c (restored_with x r) xs) None) ∙ rest.1, rest.2)

-- the lines before the end tell the state
pub before-end : (c : Config) → IsTrue (is_accepted c) → (s : State) → IsTellable c s
    → (r : Restored) × (restored_by c (nothing_restored c) (lines_before_end c s) ≡ Some r) × (r.state ≡ s)
unfolding with_line
before-end c accepted s h =
    let all = tells c accepted s h in
    let last = End (length (lines_before_end c s)) in
    let parts = front-tells c (nothing_restored c) all.0 (lines_before_end c s) (last ∷ []) all.1 in
    let end = first-sound c parts.0 last [] all.0 parts.2 in
    let same : Some (restored_with last parts.0) ≡ Some all.0 = end.1 in
    let state : restored_with last parts.0 ≡ all.0 = cc in
    (parts.0, parts.1, ap (λ (r : Restored). r.state) state ∙ all.2)

-- a sink that follows what lines tell: where it took a line that is sound, it is where the line leads
module _ {S F : Type 0} (gives : S → StateLine → S → Result (Unit {0}) F → Type 0) (c : Config) (IsAt : S → Restored → Type 0)
    (takes : (old new : S) (r : Restored) (line : StateLine) → IsAt old r → is_sound_line c r line ≡ true
    → gives old line new (Ok tt) → IsAt new (restored_with line r)) where
  -- where it took them all it is where they lead
  pub follows : (lines : List StateLine) (old new : S) (r told : Restored) → IsAt old r
      → restored_by c r lines ≡ Some told → TakesAll gives old lines new → IsAt new told
  follows [] old new r told at e same =
      let is : r ≡ told = cc in
      subst (λ (s : S). IsAt s told) same (subst (IsAt old) is at)
  follows (line ∷ lines) old new r told at e (mid, one, rest) =
      let first = first-sound c r line lines told e in
      follows lines mid new (restored_with line r) told (takes old mid r line at first.0 one) first.1 rest

  -- where it failed, it failed at a line that is sound
  pub fails-sound : (Why : F → Type 0)
      → ((old new : S) (r : Restored) (line : StateLine) (fault : F) → IsAt old r → is_sound_line c r line ≡ true
      → gives old line new (Err fault) → Why fault)
      → (lines : List StateLine) (old new : S) (r told : Restored) (fault : F) → IsAt old r
      → restored_by c r lines ≡ Some told → FailsAmong gives old lines new fault → Why fault
  fails-sound Why why lines old new r told fault at e is =
      let tells = front-tells c r told is.before (is.line ∷ is.rest) (ap (restored_by c r) (sym is.are) ∙ e) in
      let mid = follows is.before old is.mid r tells.0 at tells.1 is.took in
      why is.mid new tells.0 is.line fault mid (first-sound c tells.0 is.line is.rest told tells.2).0 is.failed

-- the lines of a cluster, handed to one that follows them
module _ (w : World) (accepted : IsTrue (is_accepted w.config)) (known : WorksAndIsTold w.config w.state)
    (old new : Telling) (config : Config) (own : old.cluster.config ≡ config) (same : config ≡ w.config) (first : Tells old (nothing_restored config)) where
  abbrev lines : List StateLine
  lines = lines_before_end w.config w.state

  -- what they tell
  tell : (r : Restored) × (restored_by w.config (nothing_restored w.config) lines ≡ Some r) × (r.state ≡ w.state)
  tell = before-end w.config accepted w.state (known.told accepted)

  -- it is a cluster of that configuration, and lines told what it is
  abbrev IsAt : Telling → Restored → Type 0
  IsAt t r = (t.cluster.config ≡ w.config) × Tells t r

  -- so it is at first
  start : IsAt old (nothing_restored w.config)
  start = (own ∙ same, subst (λ c. Tells old (nothing_restored c)) same first)

  -- and after a line that it took
  one : (old new : Telling) (r : Restored) (line : StateLine) → IsAt old r → is_sound_line w.config r line ≡ true
      → Follows old line new (Ok tt) → IsAt new (restored_with line r)
  one old new r line at sound takes = (takes.0 ∙ at.0, takes.1 r at.1)

  -- where it took them all it is told what the cluster is
  pub copied : TakesAll Follows old lines new → (r : Restored) × Tells new r × (record { config = new.cluster.config; state = r.state } ≡ w)
  copied took =
      let at = follows Follows w.config IsAt one lines old new (nothing_restored w.config) tell.0 start tell.1 took in
      (tell.0, at.1, λ i. record { config = at.0 i; state = tell.2 i })

  -- a fault is want of memory
  abbrev IsWant : CopyFault → Type 0
  IsWant Unsound = ⊥
  IsWant NoMemory = ⊤

  -- no line is refused but for that
  pub never-unsound : FailsAmong Follows old lines new Unsound → ⊥
  never-unsound fails = fails-sound Follows w.config IsAt one IsWant why lines old new (nothing_restored w.config) tell.0 Unsound start tell.1 fails
    where
      why : (old new : Telling) (r : Restored) (line : StateLine) (fault : CopyFault) → IsAt old r → is_sound_line w.config r line ≡ true
          → Follows old line new (Err fault) → IsWant fault
      why old new r line Unsound at sound refused = true≢false (sym sound ∙ sym (ap (λ c. is_sound_line c r line) at.0) ∙ refused r at.1)
      why old new r line NoMemory at sound refused = tt
