-- The numbers of a line that is read are in range.
use Rattle.std.proofs.Common.{◌≡◌, ◌≤◌, ℕ, List, true, leb, Option, Some, None, Result, Ok, Err, refl, sym, subst, arith}
use Rattle.std.specs.Prelude.{IfOk, OnOk, codes, option_and_then}
use Rattle.std.proofs.lemmas.Bool.{cond_both}
use Rattle.std.proofs.lemmas.Bool.Decides.{nat_tests}
use Rattle.serde_json.specs.Data.{Data}
use Rattle.serde_json.specs.Find.{get, as_str}
use Rattle.ynl_resource.specs.Amounts.{amount, IsSize}
use Rattle.ynl_resource.specs.Ranges.{whole, most_clock, most_count, most_priority}
use Rattle.ynl_resource.specs.Texts.{read_id}
use Rattle.ynl_resource.specs.declared.ids.Id.{Id}
use Rattle.ynl_resource.specs.declared.labels.Label.{Label}
use Rattle.ynl_fields.specs.Reading.{◌>>=◌, or_fault, or_other, id_or, size_or, within_or, reading, is_size, Gives, HasClock}
use Rattle.ynl_fields.proofs.Ids.{id_ranged}
use Rattle.ynl_fields.proofs.Sizes.{IsSize-from_is_size}
use Rattle.ynl_model.specs.declared.proposals.What.TheVariants.{Ask as Asked}
use Rattle.ynl_saved.specs.declared.lines.StateLine.{StateLine}
use Rattle.ynl_saved_text.specs.declared.faults.StateFault.{StateFault}
use Rattle.ynl_saved_text.specs.declared.faults.StateFault.TheVariants as fault
use Rattle.ynl_saved_text.specs.declared.kinds.StateKind.{StateKind}
use Rattle.ynl_saved_text.specs.declared.kinds.StateKind.TheVariants as kind
use Rattle.ynl_saved_text.specs.StateLines.{text_at, number_at, keys_are, name_at, label_at, path_at, id_at, size_at, within, version_at, begin_at, partition_at, node_at, live_at, ask_at, finished_at, wanted_at, wanted_label_at, what_at, container_at, stopped_at, maximum_at, end_at, kind_of, in_order, line_by, line_at, line_behind, HasPriority, IsRanged}

-- what holds whatever was read first
next : {A B E : Type 0} (r : Result A E) (f : A → Result B E) (P : B → Type 0) → ((x : A) → IfOk (f x) P) → IfOk (r >>= f) P
next (Ok x) f P h = h x
next (Err e) f P h = tt

-- what holds since something holds of what was read first
after : {A B E : Type 0} (r : Result A E) (Q : A → Type 0) (f : A → Result B E) (P : B → Type 0) → IfOk r Q → ((x : A) → Q x → IfOk (f x) P) → IfOk (r >>= f) P
after (Ok x) Q f P q h = h x q
after (Err e) Q f P q h = tt

-- ---- numbers

-- a test of a number that is at most so large
at_most : (most n : ℕ) → leb n most ≡ true → n ≤ most
at_most most n e = grind (arith, nat_tests)

number-ranged : (most n : ℕ) → IfOk (within most n) (λ n. n ≤ most)
unfolding within_or
number-ranged most n = cond_both (leb n most) (Ok n) (Err fault.Range) (λ r. IfOk r (λ n. n ≤ most)) (λ e. at_most most n e) (λ e. tt)

size-ranged : (memory vcores : ℕ) → IfOk (size_at memory vcores) IsSize
unfolding size_or
size-ranged memory vcores =
    cond_both (is_size memory vcores) (Ok (amount memory vcores)) (Err fault.Range) (λ r. IfOk r IsSize) (λ e. IsSize-from_is_size memory vcores e) (λ e. tt)

named : {E : Type 0} (r : Result Id E) → ((id : Id) → r ≡ Ok id → HasClock id) → IfOk (or_other fault.Name r) HasClock
named (Ok id) h = h id refl
named (Err e) h = tt

id-ranged : (text : List ℕ) → IfOk (id_at text) HasClock
unfolding id_or
id-ranged text = named (read_id text) (λ id e. id_ranged text id (sym e))

what-ranged : (wanted : Option (Label × ℕ)) → IfOk (what_at wanted) HasPriority
unfolding what_at
what-ranged None = tt
what-ranged (Some wanted) = after (within most_priority wanted.1) (λ n. n ≤ most_priority) (λ priority. Ok (Asked wanted.0 priority)) HasPriority (number-ranged most_priority wanted.1) (λ priority h. h)

-- ---- lines

kind-ranged : (k : StateKind) (d : Data) → IfOk (line_by k d) IsRanged
unfolding begin_at partition_at node_at live_at ask_at finished_at container_at stopped_at maximum_at end_at
kind-ranged kind.Begin d =
    next (keys_are 2 d) _ IsRanged λ keys. next (number_at (codes "version") d) _ IsRanged λ version. next (version_at version) _ IsRanged λ known. tt
kind-ranged kind.Partition d =
    next (keys_are 3 d) _ IsRanged λ keys. next (number_at (codes "clock") d) _ IsRanged λ clock. next (text_at (codes "label") d) _ IsRanged λ label.
    next (label_at label) _ IsRanged λ label'. after (within most_clock clock) (λ n. n ≤ most_clock) _ IsRanged (number-ranged most_clock clock) λ clock' h. h
kind-ranged kind.Node d =
    next (keys_are 6 d) _ IsRanged λ keys. next (text_at (codes "label") d) _ IsRanged λ label. next (number_at (codes "memory") d) _ IsRanged λ memory.
    next (text_at (codes "node") d) _ IsRanged λ node. next (number_at (codes "stamp") d) _ IsRanged λ stamp. next (number_at (codes "vcores") d) _ IsRanged λ vcores.
    next (label_at label) _ IsRanged λ label'. next (name_at node) _ IsRanged λ node'.
    after (within most_clock stamp) (λ n. n ≤ most_clock) _ IsRanged (number-ranged most_clock stamp) λ stamp' h.
    after (size_at memory vcores) IsSize _ IsRanged (size-ranged memory vcores) λ size sized. (sized, h)
kind-ranged kind.Live d =
    next (keys_are 7 d) _ IsRanged λ keys. next (text_at (codes "app") d) _ IsRanged λ app. next (text_at (codes "label") d) _ IsRanged λ label.
    next (number_at (codes "memory") d) _ IsRanged λ memory. next (text_at (codes "queue") d) _ IsRanged λ queue. next (text_at (codes "user") d) _ IsRanged λ user.
    next (number_at (codes "vcores") d) _ IsRanged λ vcores. next (name_at app) _ IsRanged λ app'. next (label_at label) _ IsRanged λ label'. next (path_at queue) _ IsRanged λ queue'.
    next (name_at user) _ IsRanged λ user'. after (size_at memory vcores) IsSize _ IsRanged (size-ranged memory vcores) λ size sized. sized
kind-ranged kind.Ask d =
    next (keys_are 8 d) _ IsRanged λ keys. next (text_at (codes "app") d) _ IsRanged λ app. next (number_at (codes "count") d) _ IsRanged λ count.
    next (text_at (codes "label") d) _ IsRanged λ label. next (number_at (codes "memory") d) _ IsRanged λ memory. next (number_at (codes "priority") d) _ IsRanged λ priority.
    next (text_at (codes "tenant") d) _ IsRanged λ tenant. next (number_at (codes "vcores") d) _ IsRanged λ vcores. next (name_at app) _ IsRanged λ app'.
    next (label_at label) _ IsRanged λ label'. next (name_at tenant) _ IsRanged λ tenant'.
    after (within most_count count) (λ n. n ≤ most_count) _ IsRanged (number-ranged most_count count) λ count' few.
    after (within most_priority priority) (λ n. n ≤ most_priority) _ IsRanged (number-ranged most_priority priority) λ priority' low.
    after (size_at memory vcores) IsSize _ IsRanged (size-ranged memory vcores) λ size sized. (sized, (low, few))
kind-ranged kind.Finished d =
    next (keys_are 3 d) _ IsRanged λ keys. next (text_at (codes "app") d) _ IsRanged λ app. next (text_at (codes "queue") d) _ IsRanged λ queue. next (name_at app) _ IsRanged λ app'.
    next (path_at queue) _ IsRanged λ queue'. tt
kind-ranged kind.Container d =
    next (wanted_at d) _ IsRanged λ wanted. next (text_at (codes "app") d) _ IsRanged λ app. next (text_at (codes "id") d) _ IsRanged λ id.
    next (number_at (codes "memory") d) _ IsRanged λ memory. next (text_at (codes "node") d) _ IsRanged λ node. next (text_at (codes "tenant") d) _ IsRanged λ tenant.
    next (number_at (codes "vcores") d) _ IsRanged λ vcores. next (name_at app) _ IsRanged λ app'. after (id_at id) HasClock _ IsRanged (id-ranged id) λ id' clocked.
    next (wanted_label_at wanted) _ IsRanged λ wanted'. next (name_at node) _ IsRanged λ node'. next (name_at tenant) _ IsRanged λ tenant'.
    after (what_at wanted') HasPriority _ IsRanged (what-ranged wanted') λ what wants. after (size_at memory vcores) IsSize _ IsRanged (size-ranged memory vcores) λ size sized. (sized, (clocked, wants))
kind-ranged kind.Stopped d =
    next (keys_are 2 d) _ IsRanged λ keys. next (text_at (codes "queue") d) _ IsRanged λ queue. next (path_at queue) _ IsRanged λ queue'. tt
kind-ranged kind.Maximum d =
    next (keys_are 4 d) _ IsRanged λ keys. next (text_at (codes "label") d) _ IsRanged λ label. next (number_at (codes "maximum") d) _ IsRanged λ maximum.
    next (text_at (codes "queue") d) _ IsRanged λ queue. next (label_at label) _ IsRanged λ label'. next (path_at queue) _ IsRanged λ queue'.
    after (within whole maximum) (λ n. n ≤ whole) _ IsRanged (number-ranged whole maximum) λ maximum' h. h
kind-ranged kind.End d =
    next (keys_are 2 d) _ IsRanged λ keys. next (number_at (codes "lines") d) _ IsRanged λ lines. tt

object-ranged : (before : Option StateKind) (d : Data) → IfOk (line_at before d) IsRanged
unfolding line_at
object-ranged before d =
    next (or_fault fault.Kind (option_and_then as_str (get (codes "state") d))) (λ word. or_fault fault.Kind (kind_of word) >>= λ named. in_order before named >>= λ k. line_by k d) IsRanged λ word.
    next (or_fault fault.Kind (kind_of word)) (λ named. in_order before named >>= λ k. line_by k d) IsRanged λ named.
    next (in_order before named) (λ k. line_by k d) IsRanged λ k. kind-ranged k d

line-ranged : (before : Option StateKind) (bytes : List ℕ) → IfOk (line_behind before bytes) IsRanged
line-ranged before bytes = next (or_fault fault.Syntax (reading bytes)) (line_at before) IsRanged λ d. object-ranged before d

-- the line that was read, if one was
read-ranged : (read : Result (Unit {0}) StateFault) (before : Option StateKind) (bytes : List ℕ) (line : StateLine) → Gives (λ _. line) read (line_behind before bytes) → OnOk read (IsRanged line)
read-ranged (Ok x) before bytes line e = subst (λ r. IfOk r IsRanged) e (line-ranged before bytes)
read-ranged (Err fault) before bytes line e = tt

-- the same, where memory may be refused
pub each-ranged : {E : Type 0} (r : Result (Result (Unit {0}) StateFault) E) (before : Option StateKind) (bytes : List ℕ) (line : StateLine)
    → IfOk r (λ read. Gives (λ _. line) read (line_behind before bytes)) → IfOk r (λ read. OnOk read (IsRanged line))
each-ranged (Ok read) before bytes line h = read-ranged read before bytes line h
each-ranged (Err e) before bytes line h = tt
