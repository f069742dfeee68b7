-- An event that was kept is read again.
use Rattle.std.proofs.Common.{◌≡◌, ℕ, ◌≤◌, List, ◌++◌, Option, Some, None, refl, append_assoc, arith}
use Rattle.std.proofs.lemmas.Bool.{le-leb}
use Rattle.std.specs.Prelude.{IfSome}
use Rattle.ynl_resource.specs.declared.labels.Label.{Label}
use Rattle.ynl_resource.specs.Ranges.{whole}
use Rattle.ynl_model.specs.declared.events.Event.{Event}
use Rattle.ynl_model.specs.declared.events.Event.TheVariants.{Register, Lost, Relabel, Heartbeat, Exited, Submit, Ask, Release, Finish, Stop, Start, Poll, Usage, Propose, Commit, Maximum}
use Rattle.ynl_packed.specs.Fits.{FitsLabel, FitsEvent}
use Rattle.ynl_packed.specs.Spelling.{text_bytes, label_bytes, path_bytes, small_bytes, size_bytes, id_bytes, option_bytes, event_bytes}
use Rattle.ynl_packed.specs.Reading.{kind_at, kind_at, kind_at, kind_at, kind_at, choice_at, register_at, relabel_at, exited_at, submit_at, ask_at, release_at, finish_at, poll_at, usage_at, share_of, maximum_at, short_at, event_of, event_at}
use Rattle.ynl_packed.proofs.FieldsAgain.{small_again, name_again, label_again, path_again, size_again, id_again, proposal_again}

choice_again : (label : Option Label) (rest : List ℕ) → IfSome label FitsLabel → choice_at (option_bytes label_bytes label ++ rest) ≡ Some (label, rest)
unfolding choice_at kind_at
choice_again None rest fits = refl
choice_again (Some label) rest fits = rw (label_again label rest fits) refl

share_fits : (n : ℕ) → n ≤ whole → share_of n ≡ Some n
share_fits n le = rw (le-leb n whole le) refl

pub event_again : (e : Event) (rest : List ℕ) → FitsEvent e → event_at (event_bytes e ++ rest) ≡ Some (e, rest)
unfolding event_at kind_at event_of short_at register_at relabel_at exited_at submit_at ask_at release_at finish_at poll_at usage_at maximum_at
event_again (Register node label size) rest fits =
    rw (
      append_assoc (text_bytes node ++ label_bytes label) (size_bytes size) rest,
      append_assoc (text_bytes node) (label_bytes label) (size_bytes size ++ rest),
      name_again node (label_bytes label ++ (size_bytes size ++ rest)) fits.0,
      label_again label (size_bytes size ++ rest) fits.1,
      size_again size rest fits.2,
    ) refl
event_again (Lost node) rest fits =
    rw (name_again node rest fits) refl
event_again (Relabel node label) rest fits =
    rw (
      append_assoc (text_bytes node) (label_bytes label) rest,
      name_again node (label_bytes label ++ rest) fits.0,
      label_again label rest fits.1,
    ) refl
event_again (Heartbeat node) rest fits =
    rw (name_again node rest fits) refl
event_again (Exited node id) rest fits =
    rw (
      append_assoc (text_bytes node) (id_bytes id) rest,
      name_again node (id_bytes id ++ rest) fits.0,
      id_again id rest fits.1,
    ) refl
event_again (Submit queue app user label master) rest fits =
    rw (
      append_assoc (path_bytes queue ++ text_bytes app ++ text_bytes user ++ option_bytes label_bytes label) (size_bytes master) rest,
      append_assoc (path_bytes queue ++ text_bytes app ++ text_bytes user) (option_bytes label_bytes label) (size_bytes master ++ rest),
      append_assoc (path_bytes queue ++ text_bytes app) (text_bytes user) (option_bytes label_bytes label ++ (size_bytes master ++ rest)),
      append_assoc (path_bytes queue) (text_bytes app) (text_bytes user ++ (option_bytes label_bytes label ++ (size_bytes master ++ rest))),
      path_again queue (text_bytes app ++ (text_bytes user ++ (option_bytes label_bytes label ++ (size_bytes master ++ rest)))) fits.0,
      name_again app (text_bytes user ++ (option_bytes label_bytes label ++ (size_bytes master ++ rest))) fits.1,
      name_again user (option_bytes label_bytes label ++ (size_bytes master ++ rest)) fits.2,
      choice_again label (size_bytes master ++ rest) fits.3,
      size_again master rest fits.4,
    ) refl
event_again (Ask tenant app label priority count size) rest fits =
    rw (
      append_assoc (text_bytes tenant ++ text_bytes app ++ label_bytes label ++ small_bytes priority ++ small_bytes count) (size_bytes size) rest,
      append_assoc (text_bytes tenant ++ text_bytes app ++ label_bytes label ++ small_bytes priority) (small_bytes count) (size_bytes size ++ rest),
      append_assoc (text_bytes tenant ++ text_bytes app ++ label_bytes label) (small_bytes priority) (small_bytes count ++ (size_bytes size ++ rest)),
      append_assoc (text_bytes tenant ++ text_bytes app) (label_bytes label) (small_bytes priority ++ (small_bytes count ++ (size_bytes size ++ rest))),
      append_assoc (text_bytes tenant) (text_bytes app) (label_bytes label ++ (small_bytes priority ++ (small_bytes count ++ (size_bytes size ++ rest)))),
      name_again tenant (text_bytes app ++ (label_bytes label ++ (small_bytes priority ++ (small_bytes count ++ (size_bytes size ++ rest))))) fits.0,
      name_again app (label_bytes label ++ (small_bytes priority ++ (small_bytes count ++ (size_bytes size ++ rest)))) fits.1,
      label_again label (small_bytes priority ++ (small_bytes count ++ (size_bytes size ++ rest))) fits.2,
      small_again priority (small_bytes count ++ (size_bytes size ++ rest)) fits.3,
      small_again count (size_bytes size ++ rest) fits.4,
      size_again size rest fits.5,
    ) refl
event_again (Release tenant id) rest fits =
    rw (
      append_assoc (text_bytes tenant) (id_bytes id) rest,
      name_again tenant (id_bytes id ++ rest) fits.0,
      id_again id rest fits.1,
    ) refl
event_again (Finish tenant app) rest fits =
    rw (
      append_assoc (text_bytes tenant) (text_bytes app) rest,
      name_again tenant (text_bytes app ++ rest) fits.0,
      name_again app rest fits.1,
    ) refl
event_again (Stop queue) rest fits =
    rw (path_again queue rest fits) refl
event_again (Start queue) rest fits =
    rw (path_again queue rest fits) refl
event_again (Poll tenant app label) rest fits =
    rw (
      append_assoc (text_bytes tenant ++ text_bytes app) (label_bytes label) rest,
      append_assoc (text_bytes tenant) (text_bytes app) (label_bytes label ++ rest),
      name_again tenant (text_bytes app ++ (label_bytes label ++ rest)) fits.0,
      name_again app (label_bytes label ++ rest) fits.1,
      label_again label rest fits.2,
    ) refl
event_again (Usage queue label) rest fits =
    rw (
      append_assoc (path_bytes queue) (label_bytes label) rest,
      path_again queue (label_bytes label ++ rest) fits.0,
      label_again label rest fits.1,
    ) refl
event_again (Propose node) rest fits =
    rw (name_again node rest fits) refl
event_again (Commit proposal) rest fits =
    rw (proposal_again proposal rest fits) refl
event_again (Maximum queue label maximum) rest fits =
    rw (
      append_assoc (path_bytes queue ++ label_bytes label) (small_bytes maximum) rest,
      append_assoc (path_bytes queue) (label_bytes label) (small_bytes maximum ++ rest),
      path_again queue (label_bytes label ++ (small_bytes maximum ++ rest)) fits.0,
      label_again label (small_bytes maximum ++ rest) fits.1,
      small_again maximum rest (omega (arith, fits.2)),
      share_fits maximum fits.2,
    ) refl
