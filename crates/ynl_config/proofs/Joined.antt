-- Readings that are told together.
use Rattle.std.proofs.Common.{◌≡◌, ℕ, List, Result, Ok, Err, Vec, Bor, refl, sym, ap, ◌∙◌}
use Rattle.std.specs.declared.alloc.Global.{Global}
use Rattle.ynl_config.specs.declared.queues.Bounds.{Bounds}
use Rattle.ynl_model.specs.declared.queues.LeafSettings.{LeafSettings}
use Rattle.ynl_config.specs.declared.values.Version.{Version}
use Rattle.ynl_config.specs.declared.written.Numbers.{Numbers}
use Rattle.ynl_config.specs.Earliest.{ConfigFault, ◌>>=◌, both, made, items_in}
use Rattle.ynl_config.specs.Readings.{Gives}
use Rattle.ynl_config.specs.Seen.{KeptLabels, settings_view, queue_view, KeptRows, rows_view, parts_view}

-- what follows on rows and one more reading has the fault that the two have together
pub both_lost : {A B C : Type 0} (rows : Result (Vec A Global) ConfigFault) (row : Result B ConfigFault) (f : List A × B → Result C ConfigFault) (fault : ConfigFault)
    → both rows row ≡ Err fault → Err fault ≡ (both (items_in rows) row >>= f)
both_lost (Ok rows) (Ok row) f fault e = cc
both_lost (Ok rows) (Err g) f fault e = cc
both_lost (Err g) (Ok row) f fault e = cc
both_lost (Err g) (Err h) f fault e = cc

-- a function made of the second of two readings
pub both_made : {A B C : Type 0} (g : B → C) (a : Result A ConfigFault) (b : Result B ConfigFault) → both a (made g b) ≡ made (λ (p : A × B). (p.0, g p.1)) (both a b)
both_made g (Ok x) (Ok y) = refl
both_made g (Ok x) (Err e) = refl
both_made g (Err e) (Ok y) = refl
both_made g (Err e) (Err f) = refl

-- functions made of both readings
pub made_both : {A B C D : Type 0} (f : A → C) (g : B → D) (a : Result A ConfigFault) (b : Result B ConfigFault) → both (made f a) (made g b) ≡ made (λ (p : A × B). (f p.0, g p.1)) (both a b)
made_both f g (Ok x) (Ok y) = refl
made_both f g (Ok x) (Err e) = refl
made_both f g (Err e) (Ok y) = refl
made_both f g (Err e) (Err h) = refl

-- what is given is what the reading makes
pub made_given : {A B : Type 0} (f : A → B) (r : Result A ConfigFault) (read : Result B ConfigFault) → Gives f r read → made f r ≡ read
made_given f (Ok x) read h = sym h
made_given f (Err e) read h = sym h

-- ---- a queue

pub queue_seen : (keys : Result (Unit {0}) ConfigFault) (path : Result (Bor (List ℕ)) ConfigFault) (bounds : Result Bounds ConfigFault) (settings : Result (LeafSettings × KeptLabels) ConfigFault)
    → both keys (both (made (λ s. s.now) path) (both bounds (made settings_view settings))) ≡ made queue_view (both keys (both path (both bounds settings)))
queue_seen keys path bounds settings =
    ap (λ r. both keys (both (made (λ s. s.now) path) r)) (both_made settings_view bounds settings)
    ∙ ap (both keys) (made_both (λ s. s.now) _ path (both bounds settings))
    ∙ both_made _ keys (both path (both bounds settings))

-- ---- the whole text

pub parts_seen : (keys : Result (Unit {0}) ConfigFault) (version : Result Version ConfigFault) (numbers : Result Numbers ConfigFault) (rows : Result KeptRows ConfigFault)
    → both keys (both version (both numbers (made rows_view rows))) ≡ made parts_view (both keys (both version (both numbers rows)))
parts_seen keys version numbers rows =
    ap (λ r. both keys (both version r)) (both_made rows_view numbers rows)
    ∙ ap (both keys) (both_made _ version (both numbers rows))
    ∙ both_made _ keys (both version (both numbers rows))
