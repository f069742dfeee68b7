-- Lines that are handed to a sink, one after another.
use Rattle.std.specs.Prelude.{◌≡◌, List, [], ◌∷◌, ◌++◌, Result, Ok, Err}
use Rattle.ynl_saved.specs.declared.lines.StateLine.{StateLine}

module _ {S F : Type 0} (gives : S → StateLine → S → Result (Unit {0}) F → Type 0) where
  -- it took them all
  abbrev pub TakesAll : S → List StateLine → S → Type 0
  TakesAll old [] new = old ≡ new
  TakesAll old (line ∷ lines) new = (mid : S) × gives old line mid (Ok tt) × TakesAll mid lines new

  -- it took those before one, and failed at that
  pub record FailsAmong (old : S) (lines : List StateLine) (new : S) (fault : F) : Type 0 where
    pub before : List StateLine
    pub line : StateLine
    pub rest : List StateLine
    pub are : lines ≡ before ++ line ∷ rest
    pub mid : S
    pub took : TakesAll old before mid
    pub failed : gives mid line new (Err fault)

  -- what comes of lines that are handed to it
  abbrev pub Hands : S → List StateLine → S → Result (Unit {0}) F → Type 0
  Hands old lines new (Ok done) = TakesAll old lines new
  Hands old lines new (Err fault) = FailsAmong old lines new fault
