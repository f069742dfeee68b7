-- Journals that agree from a state, in two parts.
use Rattle.std.proofs.Common.{List, [], ◌∷◌, ◌++◌}
use Rattle.ynl_model.specs.declared.entries.Entry.{Entry}
use Rattle.ynl_model.specs.Queues.{Config}
use Rattle.ynl_model.specs.Cluster.{State}
use Rattle.ynl_model.specs.Events.{step, after}
use Rattle.ynl_journal.specs.Journal.{AgreesFrom, events_in}

-- entries that agree, and then more that do from the state that they leave
pub agrees_both : (c : Config) (s : State) (es fs : List Entry) → AgreesFrom c s es → AgreesFrom c (after c s (events_in es)) fs → AgreesFrom c s (es ++ fs)
agrees_both c s [] fs first second = second
agrees_both c s (x ∷ xs) fs first second = (first.0, agrees_both c (step c s x.event).state xs fs first.1 second)

-- where all agree, those of the first part do
pub agrees_first : (c : Config) (s : State) (es fs : List Entry) → AgreesFrom c s (es ++ fs) → AgreesFrom c s es
agrees_first c s [] fs all = tt
agrees_first c s (x ∷ xs) fs all = (all.0, agrees_first c (step c s x.event).state xs fs all.1)

-- and those of the second, from the state that the first leaves
pub agrees_second : (c : Config) (s : State) (es fs : List Entry) → AgreesFrom c s (es ++ fs) → AgreesFrom c (after c s (events_in es)) fs
agrees_second c s [] fs all = all
agrees_second c s (x ∷ xs) fs all = agrees_second c (step c s x.event).state xs fs all.1
