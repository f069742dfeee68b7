-- What evidence tells.
use Rattle.std.proofs.Common.{◌≡◌, ℕ, ◌+◌, Bool, true, false, cond, List, [], ◌∷◌, ◌++◌, Option, Some, None, Result, Ok, Err, refl}
use Rattle.ynl_model.specs.Cluster.{opening}
use Rattle.ynl_journal.specs.Same.{fits_reply}
use Rattle.ynl_view.specs.declared.evidence.flaws.Flaw.TheVariants.{NotKept, Differs}
use Rattle.ynl_view.specs.evidence.Evidence.{Placed}
use Rattle.ynl_view.specs.evidence.Flaws.{may_follow, reply_alone}
use Rattle.ynl_view.specs.evidence.Promises.{IsRight}
use Rattle.ynl_view.proofs.evidence.Passing.{evidence_passes}
use Rattle.ynl_view.proofs.evidence.Right.{right-nothing, right-push}
use Rattle.ynl_lines.specs.declared.faults.JournalFault.{JournalFault}
use Rattle.ynl_commands.specs.declared.evidence.Tenancy.{Tenancy}
use Rattle.ynl_commands.specs.Input.{Line, whole, too_long, lines_within, limit}
use Rattle.ynl_commands.specs.Readings.{Reading, unless_faulty, read_on}
use Rattle.ynl_commands.specs.Audit.{journal_of}
use Rattle.ynl_commands.specs.Evidence.{evidence_way, placed_said, placed_with, or_fault}
use Rattle.ynl_commands.specs.Handed.{AuditedIsRight, PassingHandsRight}
use Rattle.ynl_commands.proofs.Audited.{passing_agree}

pub passing_hands_right : PassingHandsRight
passing_hands_right whose input other accepted sole =
    evidence_passes whose.config (journal_of input).made whose.tenant whose.label (passing_agree whose.config (opening whose.config) input other) accepted sole

module _ (whose : Tenancy) where
  -- these entries are right for the tenancy
  abbrev Right : List Placed → Type 0
  Right placed = IsRight whose.config whose.tenant whose.label placed

  line-right : (before : List Placed) (n : ℕ) (rest : List Placed → Reading (List Placed) JournalFault) → Right before → ((more : List Placed) → Right more → Right (rest more).made)
      → (said : Result (Option Placed) JournalFault) → Right (unless_faulty rest before n (placed_with whose before said)).made
  line-right before n rest right more (Ok None) = more before right
  line-right before n rest right more (Err f) = right
  line-right before n rest right more (Ok (Some x)) = go (may_follow whose.config whose.tenant whose.label before x) (fits_reply x.1 (reply_alone whose.config whose.tenant before x.1.event)) refl refl
    where
      go : (b d : Bool) → may_follow whose.config whose.tenant whose.label before x ≡ b → fits_reply x.1 (reply_alone whose.config whose.tenant before x.1.event) ≡ d
          → Right (unless_faulty rest before n (or_fault (cond b (cond d (Ok (before ++ x ∷ [])) (Err Differs)) (Err NotKept)))).made
      go true true e f = more (before ++ x ∷ []) (right-push whose.config whose.tenant whose.label before x right e f)
      go true false e f = right
      go false d e f = right

  lines-right : (ls : List Line) (before : List Placed) (n : ℕ) → Right before → Right (read_on (evidence_way whose) before n ls).made
  unfolding read_on
  lines-right [] before n right = right
  lines-right (too_long ∷ ls) before n right = right
  lines-right (whole l ∷ ls) before n right =
      line-right before (n + 1) (λ more. read_on (evidence_way whose) more (n + 1) ls) right (λ more. lines-right ls more (n + 1)) (placed_said l)

pub audited_is_right : AuditedIsRight
audited_is_right whose input = lines-right whose (lines_within input limit) [] 0 (right-nothing whose.config whose.tenant whose.label)
