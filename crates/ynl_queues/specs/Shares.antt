-- What is said of a closure that gives the share of a queue.
use Rattle.std.specs.Prelude.{◌≡◌, ℕ}
use Rattle.std.specs.Borrow.{Bor}
use Rattle.ynl_resource.specs.declared.paths.Path.{Path}

-- each call gives what the function gives of the queue
abbrev pub IsShareOf : (Bor Path → ℕ → Type 0) → (Path → ℕ) → Type 0
IsShareOf gives f = (queue : Bor Path) (share : ℕ) → gives queue share → share ≡ f queue.now
