-- Evidence, one entry after another, as text.
use Rattle.std.proofs.Common.{◌≡◌, ℕ, ◌+◌, List, [], ◌∷◌, ◌++◌, length, Bool, true, false, Option, Some, None, Result, Ok, Err, sym, subst, ap, ◌∙◌, append_assoc, append-nil, arith, length-append}
use Rattle.std.specs.Prelude.{OnOk}
use Rattle.std.specs.List.{concat}
use Rattle.std.proofs.lemmas.List.{map-append}
use Rattle.std.proofs.lemmas.List.Folds.{concat-append}
use Rattle.ynl_resource.specs.declared.names.Name.{Name}
use Rattle.ynl_resource.specs.declared.labels.Label.{Label}
use Rattle.ynl_model.specs.declared.entries.Entry.{Entry}
use Rattle.ynl_model.specs.declared.events.Event.{Event}
use Rattle.ynl_model.specs.declared.events.Event.TheVariants.{Propose}
use Rattle.ynl_model.specs.declared.nodes.Tracked.{Tracked}
use Rattle.ynl_model.specs.declared.replies.Reply.{Reply}
use Rattle.ynl_model.specs.Queues.{Config}
use Rattle.ynl_model.specs.View.{seen_of, track, track_from, track_step, kept_if, is_in}
use Rattle.ynl_journal.specs.Journal.{entry, events_in}
use Rattle.ynl_view.specs.evidence.Evidence.{Placed, noted, evidence_from, evidence_of}
use Rattle.ynl_core.specs.declared.memory.NoMemory.{NoMemory as Refused}
use Rattle.ynl_view.specs.declared.evidence.flaws.Flaw.{Flaw}
use Rattle.ynl_view.specs.evidence.Trials.{Takes, TakesNext}
use Rattle.ynl_view.proofs.evidence.Kept.{track-push}
use Rattle.ynl_view.proofs.evidence.Gathered.{gathered}
use Rattle.ynl_lines.specs.ReadingReplies.{MayBeTold}
use Rattle.ynl_lines.specs.Writing.{line_text}
use Rattle.ynl_commands.specs.declared.evidence.Gathering.{Gathering}
use Rattle.ynl_commands.specs.declared.evidence.Tenancy.{Tenancy}
use Rattle.ynl_commands.specs.declared.evidence_audit.EvidenceAudit.{EvidenceAudit}
use Rattle.ynl_commands.specs.Answering.{StepsOn}
use Rattle.ynl_commands.specs.Evidence.{placed_lines, placed_text, evidence_for, noted_text, seen_by, evidence_way, or_fault, placed_said, placed_with, IsEvidenceAudit, IsGathering, SeesEntry}
use Rattle.ynl_commands.specs.Run.{line_of}

-- ---- evidence that is one entry longer

from-push : (t : Name) (p : Label) (c : Config) (place : ℕ) (nodes : List Tracked) (es : List Entry) (e : Entry)
    → evidence_from t p c place nodes (es ++ e ∷ []) ≡ evidence_from t p c place nodes es ++ noted (place + length es) (seen_of t p c (track_from c nodes (events_in es)) e.event) e.reply
from-push t p c place nodes [] e =
    let at : place ≡ place + 0 = omega arith in
    append-nil (noted place (seen_of t p c nodes e.event) e.reply) ∙ ap (λ n. noted n (seen_of t p c nodes e.event) e.reply) at
from-push t p c place nodes (x ∷ es) e =
    let last = seen_of t p c (track_from c (track_step c nodes x.event) (events_in es)) e.event in
    let first = noted place (seen_of t p c nodes x.event) x.reply in
    let rest = evidence_from t p c (place + 1) (track_step c nodes x.event) es in
    let at : (place + 1) + length es ≡ place + length (x ∷ es) = omega arith in
    ap (λ more. first ++ more) (from-push t p c (place + 1) (track_step c nodes x.event) es e ∙ ap (λ n. rest ++ noted n last e.reply) at)
    ∙ sym (append_assoc first rest (noted (place + length (x ∷ es)) last e.reply))

pub evidence-push : (c : Config) (es : List Entry) (e : Entry) (t : Name) (p : Label)
    → evidence_of c (es ++ e ∷ []) t p ≡ evidence_of c es t p ++ noted (length es) (seen_of t p c (track c (events_in es)) e.event) e.reply
evidence-push c es e t p =
    let last = seen_of t p c (track c (events_in es)) e.event in
    let at : 0 + length es ≡ length es = omega arith in
    gathered c (es ++ e ∷ []) t p ∙ from-push t p c 0 [] es e ∙ ap (λ n. evidence_from t p c 0 [] es ++ noted n last e.reply) at
    ∙ ap (λ more. more ++ noted (length es) last e.reply) (sym (gathered c es t p))

-- ---- its text

text-append : (xs ys : List Placed) → placed_text (xs ++ ys) ≡ placed_text xs ++ placed_text ys
text-append xs ys = ap concat (map-append (λ (x : Placed). line_of (line_text x.0 x.1)) xs ys) ∙ concat-append (placed_lines xs) (placed_lines ys)

pub text-push : (whose : Tenancy) (es : List Entry) (e : Entry) → placed_text (evidence_for whose (es ++ e ∷ [])) ≡
    placed_text (evidence_for whose es) ++ noted_text (length es) (seen_of whose.tenant whose.label whose.config (track whose.config (events_in es)) e.event) e
text-push whose es e =
    ap placed_text (evidence-push whose.config es e whose.tenant whose.label)
    ∙ text-append (evidence_for whose es) (noted (length es) (seen_of whose.tenant whose.label whose.config (track whose.config (events_in es)) e.event) e.reply)

pub text-of_one : (place : ℕ) (seen : Event) (e : Entry) → noted_text place (Some seen) e ≡ line_of (line_text place (entry seen e.reply))
text-of_one place seen e = append-nil (line_of (line_text place (entry seen e.reply)))

-- ---- what may be told

-- what is seen of an entry may be told where the entry may
pub seen-told : (t : Name) (p : Label) (c : Config) (nodes : List Tracked) (event seen : Event) (reply : Option Reply) → seen_of t p c nodes event ≡ Some seen → MayBeTold event reply → MayBeTold seen reply
unfolding seen_of
seen-told t p c nodes event seen (Some reply) is told = tt
seen-told t p c nodes (Propose name) seen None is told = go (is_in nodes name p) is
  where
    go : (b : Bool) → kept_if b (Propose name) ≡ Some seen → MayBeTold seen None
    go true e = subst (λ x. MayBeTold x None) (let same : Propose name ≡ seen = cc in same) tt
    go false e = absurd (cc)
seen-told t p c nodes event seen None is told = absurd told

-- ---- one entry more

pub noted-push : (whose : Tenancy) (e : Entry) (entries : List Entry) (old new : Gathering) → IsGathering whose entries old → new.track ≡ track_step whose.config old.track e.event → new.entries ≡ old.entries + 1
    → new.text.items ≡ old.text.items ++ noted_text old.entries (seen_of whose.tenant whose.label whose.config old.track e.event) e → IsGathering whose (entries ++ e ∷ []) new
noted-push whose e entries old new is step counted text = record {
  track = step ∙ ap (λ nodes. track_step whose.config nodes e.event) is.track ∙ sym (track-push whose.config [] (events_in entries) e.event) ∙ ap (track whose.config) (sym (map-append (λ (x : Entry). x.event) entries (e ∷ [])));
  count = counted ∙ ap (λ n. n + 1) is.count ∙ sym (length-append entries (e ∷ []));
  text = text ∙ (λ i. is.text i ++ noted_text (is.count i) (seen_of whose.tenant whose.label whose.config (is.track i) e.event) e) ∙ sym (text-push whose entries e);
}

-- what is seen of an entry was added
pub sees-seen : {A E : Type 0} (whose : Tenancy) (e : Entry) (seen : Event) (old new : Gathering) (r : Result A E) → seen_by whose old e ≡ Some seen → new.track ≡ track_step whose.config old.track e.event → new.entries ≡ old.entries
    → OnOk r (new.text.items ≡ old.text.items ++ line_of (line_text old.entries (entry seen e.reply))) → SeesEntry whose e old new r
sees-seen whose e seen old new (Ok x) is step same text =
    let told : noted_text old.entries (seen_by whose old e) e ≡ line_of (line_text old.entries (entry seen e.reply)) = ap (λ o. noted_text old.entries o e) is ∙ text-of_one old.entries seen e in
    (step, same, text ∙ ap (λ more. old.text.items ++ more) (sym told))
sees-seen whose e seen old new (Err f) is step same text = tt

-- ---- evidence that is audited

-- one more entry passes
pub audit-steps : (whose : Tenancy) (old new : EvidenceAudit) (line : List ℕ) (x : Placed) (r : Result (Option Flaw) Refused) → placed_said line ≡ Ok (Some x) → TakesNext whose.config whose.tenant whose.label old.trial x new.trial r
    → r ≡ Ok None → new.entries ≡ old.entries + 1 → StepsOn {E = Refused} (evidence_way whose) (IsEvidenceAudit whose) old new line (Ok None)
audit-steps whose old new line x r says takes none counted = λ made is.
    let taken = subst (Takes whose.config whose.tenant whose.label made x new.trial) none (takes made is.trial) in (
      made ++ x ∷ [],
      ap (placed_with whose made) says ∙ ap or_fault taken.0,
      record { trial = taken.1; count = counted ∙ ap (λ n. n + 1) is.count ∙ sym (length-append made (x ∷ [])) },
    )
