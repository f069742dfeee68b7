-- What is taken where nothing stands at a key has no fault.
use Rattle.std.proofs.Common.{◌≡◌, ℕ, List, Result, Ok, Err, Option, Some, None, refl}
use Rattle.toml.specs.Data.{Data, Members, get_member}
use Rattle.ynl_config.specs.declared.values.Version.{Version}
use Rattle.ynl_config.specs.Earliest.{ConfigFault, made}
use Rattle.ynl_config.specs.Readings.{or_given, number_of, percent_of, number_at, percent_at}
use Rattle.ynl_config.specs.Places.{has}

-- what a function makes of a reading has its fault
pub has_made : {A B : Type 0} (fault : ConfigFault) (f : A → B) (r : Result A ConfigFault) → has fault r ≡ has fault (made f r)
has_made fault f (Ok x) = refl
has_made fault f (Err e) = refl

any_given : {A : Type 0} (fault : ConfigFault) (g h : A) (read : Data → Result A ConfigFault) (d : Option Data) → has fault (or_given g read d) ≡ has fault (or_given h read d)
any_given fault g h read None = refl
any_given fault g h read (Some d) = refl

pub any_number : (fault : ConfigFault) (key : List ℕ) (low high g h : ℕ) (ms : Members) → has fault (number_at key low high g ms) ≡ has fault (number_at key low high h ms)
unfolding number_at
any_number fault key low high g h ms = any_given fault g h (number_of low high) (get_member key ms)

pub any_percent : (fault : ConfigFault) (key : List ℕ) (version : Version) (low g h : ℕ) (ms : Members) → has fault (percent_at key version low g ms) ≡ has fault (percent_at key version low h ms)
unfolding percent_at
any_percent fault key version low g h ms = any_given fault g h (percent_of version low) (get_member key ms)
