-- Texts that are cut in two: what is told of both parts, of the second from the state that the first leaves, is what is told of the whole.
use Rattle.std.specs.Prelude.{◌≡◌, ◌↔◌, ℕ, ◌+◌, ◌≤◌, List, ◌++◌, length, None}
use Rattle.ynl_model.specs.declared.entries.Entry.{Entry}
use Rattle.ynl_model.specs.Queues.{Config}
use Rattle.ynl_model.specs.Cluster.{State}
use Rattle.ynl_model.specs.Events.{after}
use Rattle.ynl_journal.specs.Journal.{AgreesFrom, events_in}
use Rattle.ynl_words.specs.declared.words.Question.{Question}
use Rattle.ynl_commands.specs.Explaining.{explanation}
use Rattle.ynl_commands.specs.Input.{limit, EndsLine}
use Rattle.ynl_commands.specs.Readings.{come_to}
use Rattle.ynl_commands.specs.Run.{answers_to, run_of}
use Rattle.ynl_commands.specs.Saving.{saved, text_after}
use Rattle.ynl_commands.specs.Script.{Script, script_of}

-- ---- what is cut

-- A text is cut behind whole lines, of which none has a fault, and is not too long to be read in one.
pub record IsCut (first second : List ℕ) : Type 0 where
  pub whole : EndsLine first
  pub good : (script_of first).fault ≡ None
  pub fits : length (first ++ second) ≤ limit

-- the state that a text leaves: that after the events of the script that it is
abbrev pub state_left : Config → State → List ℕ → State
state_left c s text = after c s (script_of text).made

-- a script whose lines count on from so many before them
abbrev pub counted_on : ℕ → Script → Script
counted_on n script = come_to script.made (n + script.lines) script.fault

-- the script of a second part, whose lines count on from those of the first
abbrev pub second_script : List ℕ → List ℕ → Script
second_script first second = counted_on (script_of first).lines (script_of second)

-- ---- runs

-- The run of both parts in one is that of the first, and then that of the second from the state that the first leaves: but for the number
-- of the line that a fault of the second is told with, which counts on.
pub record RunsAsOne (c : Config) (s : State) (first second : List ℕ) : Type 0 where
  pub left : state_left c s (first ++ second) ≡ state_left c (state_left c s first) second
  pub text : (run_of c s (first ++ second)).text ≡ (run_of c s first).text ++ (answers_to c (state_left c s first) (second_script first second)).text
  pub good : (script_of second).fault ≡ None → (run_of c s (first ++ second)).text ≡ (run_of c s first).text ++ (run_of c (state_left c s first) second).text
  pub lines : (run_of c s (first ++ second)).lines ≡ (run_of c s first).lines + (run_of c (state_left c s first) second).lines
  pub fault : (run_of c s (first ++ second)).fault ≡ (run_of c (state_left c s first) second).fault

-- a run that is cut and gone on with is one
abbrev pub CutRunsAreOne : Type 0
CutRunsAreOne = (c : Config) (s : State) (first second : List ℕ) → IsCut first second → RunsAsOne c s first second

-- ---- saved states

-- What is written of the state after both parts in one is what is written after the second, from the state that the first leaves: but for
-- the number of the line that a fault of the second is told with, which counts on.
pub record SavesAsOne (c : Config) (s : State) (first second : List ℕ) : Type 0 where
  pub state : text_after c s (script_of (first ++ second)).made ≡ text_after c (state_left c s first) (script_of second).made
  pub outcome : saved c s (script_of (first ++ second)) ≡ saved c (state_left c s first) (second_script first second)
  pub good : (script_of second).fault ≡ None → (saved c s (script_of (first ++ second))).text ≡ (saved c (state_left c s first) (script_of second)).text

-- what is saved does not tell whether the script was cut
abbrev pub CutSavesAreOne : Type 0
CutSavesAreOne = (c : Config) (s : State) (first second : List ℕ) → IsCut first second → SavesAsOne c s first second

-- ---- explanations

-- nor does what is explained
abbrev pub CutExplanationsAreOne : Type 0
CutExplanationsAreOne =
    (c : Config) (s : State) (q : Question) (first second : List ℕ) → IsCut first second
    → explanation c s q (script_of (first ++ second)) ≡ explanation c (state_left c s first) q (second_script first second)

-- ---- journals

-- a journal agrees exactly where its first part does, and its second from the state that the events of the first leave
abbrev pub CutJournalsAgree : Type 0
CutJournalsAgree =
    (c : Config) (s : State) (first second : List Entry) → AgreesFrom c s (first ++ second) ↔ AgreesFrom c s first × AgreesFrom c (after c s (events_in first)) second
