-- Workers that are taken in one after another.
use Rattle.std.proofs.Common.{◌≡◌, ℕ, refl, Ok, Err, ◌⊎◌, inl, inr, arith, length, length-append, sym, ap, ◌∙◌, List, [], ◌∷◌, ◌++◌, subst, All, append_assoc}
use Rattle.std.specs.Prelude.{map}
use Rattle.std.proofs.Math.Seq.{get_or-append_seam}
use Rattle.std.proofs.lemmas.List.{map-append}
use Rattle.std.proofs.lemmas.List.Elements.{All-push}
use Rattle.ynl_live.specs.declared.receipts.Receipt.{Receipt}
use Rattle.ynl_workers.specs.declared.working.WorkerEnd.{WorkerEnd}
use Rattle.ynl_workers.specs.declared.working.End.{End}
use Rattle.ynl_workers.specs.declared.working.End.TheVariants.{Whole, Halted, NoMemory, Behind}
use Rattle.ynl_workers.specs.declared.session.sessions.SessionFault.TheVariants.{Unclosed}
use Rattle.ynl_workers.specs.session.Faults.{ended}
use Rattle.ynl_workers.specs.session.Handed.{OneWasBehind}
use Rattle.ynl_workers.proofs.session.Rounds.{HasEnded}

abbrev lists_of : List WorkerEnd → List (List Receipt)
lists_of ends = map (λ w. w.receipts.items) ends

-- the workers so far were taken in, and these are left
pub record TakenSoFar (old now : List (List Receipt)) (all left : List WorkerEnd) : Type 0 where
  pub done : List WorkerEnd
  pub all_are : done ++ left ≡ all
  pub ended : All (λ worker. HasEnded worker) done
  pub lists : now ≡ old ++ map (λ w. w.receipts.items) done

pub TakenSoFar-more : (old now next : List (List Receipt)) (all left rest : List WorkerEnd) (w : WorkerEnd) → left ≡ w ∷ rest → HasEnded w → next ≡ now ++ w.receipts.items ∷ [] → TakenSoFar old now all left → TakenSoFar old next all rest
TakenSoFar-more old now next all left rest w is ended one so = record {
  done = so.done ++ w ∷ [];
  all_are = append_assoc so.done (w ∷ []) rest ∙ ap (λ ws. so.done ++ ws) (sym is) ∙ so.all_are;
  ended = All-push (λ worker. HasEnded worker) so.done w so.ended ended;
  lists = one ∙ ap (λ ls. ls ++ w.receipts.items ∷ []) so.lists ∙ append_assoc old (lists_of so.done) (w.receipts.items ∷ []) ∙ ap (λ ls. old ++ ls) (sym (map-append (λ (x : WorkerEnd). x.receipts.items) so.done (w ∷ [])));
}

-- a worker that has ended went over its nodes or was halted
pub HasEnded-from_ended : (end : End) (u : Unit {0}) → Ok u ≡ ended end → (end ≡ Whole) ⊎ (end ≡ Halted)
HasEnded-from_ended Whole u is = inl refl
HasEnded-from_ended Halted u is = inr refl
HasEnded-from_ended NoMemory u is = absurd (cc)
HasEnded-from_ended (Behind n) u is = absurd (cc)

-- the worker that is taken in next was told that its seat is of another scheduler
pub OneWasBehind-here : (done rest all : List WorkerEnd) (w : WorkerEnd) → done ++ w ∷ rest ≡ all → Err Unclosed ≡ ended w.end → OneWasBehind all
OneWasBehind-here done rest all w are is =
    subst OneWasBehind are (length done, w, omega (arith, length-append done (w ∷ rest)), get_or-append_seam done w rest w, behind w.end is)
  where
    behind : (end : End) → Err Unclosed ≡ ended end → (n : ℕ) × (end ≡ Behind n)
    behind Whole is = absurd (cc)
    behind Halted is = absurd (cc)
    behind NoMemory is = absurd (cc)
    behind (Behind n) is = (n, refl)
