-- Texts that are added to a text, piece by piece: they are the texts of replies, and of what stands in them.
use Rattle.std.proofs.Common.{◌≡◌, ◌<◌, ◌≤◌, ◌+◌, ℕ, Bool, true, false, Option, Some, None, option_map, refl, List, [], ◌∷◌, ◌++◌, map, drop, length, get_or, codes, decimal, sym, ap, ◌∙◌, append_assoc}
use Rattle.std.proofs.lemmas.List.{drop_all}
use Rattle.json.specs.Print.{escape, escape_byte}
use Rattle.serde_json.specs.Data.{Data, Items, object, string, member, no_members}
use Rattle.serde_json.specs.View.{items_of}
use Rattle.serde_json.specs.Written.{compact_text, comma_if, items_text}
use Rattle.ynl_resource.specs.declared.amounts.Resource.{Resource}
use Rattle.ynl_resource.specs.declared.refusals.Refusal.{Refusal}
use Rattle.ynl_resource.specs.Refusals.{word}
use Rattle.ynl_model.specs.declared.containers.Placed.{Placed as Container}
use Rattle.ynl_model.specs.declared.proposals.Proposal.{Proposal}
use Rattle.ynl_model.specs.declared.replies.Pending.{Pending}
use Rattle.ynl_model.specs.declared.replies.Reply.{Reply}
use Rattle.ynl_model.specs.declared.entries.Entry.{Entry}
use Rattle.ynl_lines.specs.declared.faults.InputFault.{InputFault}
use Rattle.ynl_lines.specs.Writing.{count, amount_data, placed_data, placed_reply, pending_data, proposal_data, refused_data, proposed_data, committed_reply, held_data, usage_data, reply_data, input_fault_word, fault_text, audit_text, event_data, event_text, line_object, line_end, line_text}
use Rattle.ynl_lines.proofs.Escapes.{escape_refusal, escape_fault}
use Rattle.ynl_lines.proofs.Lists.{next}
use Rattle.ynl_fields.proofs.Pieces.{both, join, quote}

-- ---- containers

module _ (app id node tenant : List ℕ) (size : Resource) where
  abbrev pub master_of : Data
  master_of =
      object (member (codes "app") (string app) (member (codes "id") (string id) (member (codes "memory") (count size.memory)
      (member (codes "node") (string node) (member (codes "tenant") (string tenant) (member (codes "vcores") (count size.vcores)
      (member (codes "what") (string (codes "master")) no_members)))))))

  pub master_added : (old a b c d e f new : List ℕ)
      → a ≡ old ++ (codes "{\"app\":\"" ++ escape app) → b ≡ a ++ (codes "\",\"id\":\"" ++ escape id) → c ≡ b ++ (codes "\",\"memory\":" ++ decimal size.memory)
      → d ≡ c ++ (codes ",\"node\":\"" ++ escape node) → e ≡ d ++ (codes "\",\"tenant\":\"" ++ escape tenant) → f ≡ e ++ (codes "\",\"vcores\":" ++ decimal size.vcores)
      → new ≡ f ++ codes ",\"what\":\"master\"}" → new ≡ old ++ compact_text master_of
  unfolding escape_byte
  master_added old a b c d e f new at_a at_b at_c at_d at_e at_f at_new =
      quote old a (codes "{\"app\":\"") app _ new at_a
      (quote a b (codes "\",\"id\":\"") id _ new at_b
      (join b c (codes "\",\"memory\":") (decimal size.memory) _ new at_c
      (quote c d (codes ",\"node\":\"") node _ new at_d
      (quote d e (codes "\",\"tenant\":\"") tenant _ new at_e
      (join e f (codes "\",\"vcores\":") (decimal size.vcores) _ new at_f at_new)))))

module _ (app id label node tenant : List ℕ) (size : Resource) (priority : ℕ) where
  abbrev pub asked_of : Data
  asked_of =
      object (member (codes "app") (string app) (member (codes "id") (string id) (member (codes "label") (string label)
      (member (codes "memory") (count size.memory) (member (codes "node") (string node) (member (codes "priority") (count priority)
      (member (codes "tenant") (string tenant) (member (codes "vcores") (count size.vcores)
      (member (codes "what") (string (codes "ask")) no_members)))))))))

  pub asked_added : (old a b c d e f g h new : List ℕ)
      → a ≡ old ++ (codes "{\"app\":\"" ++ escape app) → b ≡ a ++ (codes "\",\"id\":\"" ++ escape id) → c ≡ b ++ (codes "\",\"label\":\"" ++ escape label)
      → d ≡ c ++ (codes "\",\"memory\":" ++ decimal size.memory) → e ≡ d ++ (codes ",\"node\":\"" ++ escape node) → f ≡ e ++ (codes "\",\"priority\":" ++ decimal priority)
      → g ≡ f ++ (codes ",\"tenant\":\"" ++ escape tenant) → h ≡ g ++ (codes "\",\"vcores\":" ++ decimal size.vcores)
      → new ≡ h ++ codes ",\"what\":\"ask\"}" → new ≡ old ++ compact_text asked_of
  unfolding escape_byte
  asked_added old a b c d e f g h new at_a at_b at_c at_d at_e at_f at_g at_h at_new =
      quote old a (codes "{\"app\":\"") app _ new at_a
      (quote a b (codes "\",\"id\":\"") id _ new at_b
      (quote b c (codes "\",\"label\":\"") label _ new at_c
      (join c d (codes "\",\"memory\":") (decimal size.memory) _ new at_d
      (quote d e (codes ",\"node\":\"") node _ new at_e
      (join e f (codes "\",\"priority\":") (decimal priority) _ new at_f
      (quote f g (codes ",\"tenant\":\"") tenant _ new at_g
      (join g h (codes "\",\"vcores\":") (decimal size.vcores) _ new at_h at_new)))))))

-- what is still asked for
module _ (size : Resource) (quantity priority : ℕ) where
  abbrev pub pending_of : Data
  pending_of =
      object (member (codes "count") (count quantity) (member (codes "memory") (count size.memory) (member (codes "priority") (count priority)
      (member (codes "vcores") (count size.vcores) no_members))))

  pub pending_added : (old a b c d new : List ℕ) → a ≡ old ++ (codes "{\"count\":" ++ decimal quantity) → b ≡ a ++ (codes ",\"memory\":" ++ decimal size.memory)
      → c ≡ b ++ (codes ",\"priority\":" ++ decimal priority) → d ≡ c ++ (codes ",\"vcores\":" ++ decimal size.vcores) → new ≡ d ++ codes "}" → new ≡ old ++ compact_text pending_of
  unfolding escape_byte
  pending_added old a b c d new at_a at_b at_c at_d at_new =
      join old a (codes "{\"count\":") (decimal quantity) _ new at_a (join a b (codes ",\"memory\":") (decimal size.memory) _ new at_b
      (join b c (codes ",\"priority\":") (decimal priority) _ new at_c (join c d (codes ",\"vcores\":") (decimal size.vcores) (codes "}") new at_d at_new)))

-- ---- proposals

module _ (app node tenant : List ℕ) (size : Resource) (stamp : ℕ) where
  abbrev pub proposed_master_of : Data
  proposed_master_of =
      object (member (codes "app") (string app) (member (codes "memory") (count size.memory) (member (codes "node") (string node)
      (member (codes "stamp") (count stamp) (member (codes "tenant") (string tenant) (member (codes "vcores") (count size.vcores)
      (member (codes "what") (string (codes "master")) no_members)))))))

  pub proposed_master_added : (old a b c d e f new : List ℕ)
      → a ≡ old ++ (codes "{\"app\":\"" ++ escape app) → b ≡ a ++ (codes "\",\"memory\":" ++ decimal size.memory) → c ≡ b ++ (codes ",\"node\":\"" ++ escape node)
      → d ≡ c ++ (codes "\",\"stamp\":" ++ decimal stamp) → e ≡ d ++ (codes ",\"tenant\":\"" ++ escape tenant) → f ≡ e ++ (codes "\",\"vcores\":" ++ decimal size.vcores)
      → new ≡ f ++ codes ",\"what\":\"master\"}" → new ≡ old ++ compact_text proposed_master_of
  unfolding escape_byte
  proposed_master_added old a b c d e f new at_a at_b at_c at_d at_e at_f at_new =
      quote old a (codes "{\"app\":\"") app _ new at_a
      (join a b (codes "\",\"memory\":") (decimal size.memory) _ new at_b
      (quote b c (codes ",\"node\":\"") node _ new at_c
      (join c d (codes "\",\"stamp\":") (decimal stamp) _ new at_d
      (quote d e (codes ",\"tenant\":\"") tenant _ new at_e
      (join e f (codes "\",\"vcores\":") (decimal size.vcores) _ new at_f at_new)))))

module _ (app label node tenant : List ℕ) (size : Resource) (priority stamp : ℕ) where
  abbrev pub proposed_asked_of : Data
  proposed_asked_of =
      object (member (codes "app") (string app) (member (codes "label") (string label) (member (codes "memory") (count size.memory)
      (member (codes "node") (string node) (member (codes "priority") (count priority) (member (codes "stamp") (count stamp)
      (member (codes "tenant") (string tenant) (member (codes "vcores") (count size.vcores)
      (member (codes "what") (string (codes "ask")) no_members)))))))))

  pub proposed_asked_added : (old a b c d e f g h new : List ℕ)
      → a ≡ old ++ (codes "{\"app\":\"" ++ escape app) → b ≡ a ++ (codes "\",\"label\":\"" ++ escape label) → c ≡ b ++ (codes "\",\"memory\":" ++ decimal size.memory)
      → d ≡ c ++ (codes ",\"node\":\"" ++ escape node) → e ≡ d ++ (codes "\",\"priority\":" ++ decimal priority) → f ≡ e ++ (codes ",\"stamp\":" ++ decimal stamp)
      → g ≡ f ++ (codes ",\"tenant\":\"" ++ escape tenant) → h ≡ g ++ (codes "\",\"vcores\":" ++ decimal size.vcores)
      → new ≡ h ++ codes ",\"what\":\"ask\"}" → new ≡ old ++ compact_text proposed_asked_of
  unfolding escape_byte
  proposed_asked_added old a b c d e f g h new at_a at_b at_c at_d at_e at_f at_g at_h at_new =
      quote old a (codes "{\"app\":\"") app _ new at_a
      (quote a b (codes "\",\"label\":\"") label _ new at_b
      (join b c (codes "\",\"memory\":") (decimal size.memory) _ new at_c
      (quote c d (codes ",\"node\":\"") node _ new at_d
      (join d e (codes "\",\"priority\":") (decimal priority) _ new at_e
      (join e f (codes ",\"stamp\":") (decimal stamp) _ new at_f
      (quote f g (codes ",\"tenant\":\"") tenant _ new at_g
      (join g h (codes "\",\"vcores\":") (decimal size.vcores) _ new at_h at_new)))))))

-- ---- what stands in a list

module _ {A : Type 0} (told : A → Data) where
  abbrev values : List A → Items
  values xs = items_of (map told xs)

  pub item_added : (xs : List A) (i : ℕ) (x : A) (later : Bool) (text new whole : List ℕ) → i < length xs → x ≡ get_or xs i x
      → text ++ items_text later (values (drop i xs)) ≡ whole → new ≡ text ++ (comma_if later ++ compact_text (told x))
      → new ++ items_text true (values (drop (i + 1) xs)) ≡ whole
  item_added xs i x later text new whole h is so more =
      let rest = items_text true (values (drop (i + 1) xs)) in
      ap (λ t. t ++ rest) more ∙ append_assoc text (comma_if later ++ compact_text (told x)) rest ∙ ap (λ t. text ++ t) (append_assoc (comma_if later) (compact_text (told x)) rest)
      ∙ ap (λ ys. text ++ items_text later (values ys)) (sym (next xs i x h is))
      ∙ so

  pub last_added : (xs : List A) (i : ℕ) (later : Bool) (text new whole : List ℕ) → length xs ≤ i → text ++ items_text later (values (drop i xs)) ≡ whole → new ≡ text ++ 93 ∷ [] → new ≡ whole
  last_added xs i later text new whole h so more = more ∙ ap (λ ys. text ++ items_text later (values ys)) (sym (drop_all i xs h)) ∙ so

-- ---- replies

pub refused_added : (r : Refusal) (w old a new : List ℕ) → w ≡ word r → a ≡ old ++ (codes "{\"refused\":\"" ++ w) → new ≡ a ++ codes "\",\"reply\":\"refused\"}"
    → new ≡ old ++ compact_text (refused_data r)
unfolding escape_byte
refused_added r w old a new is at_a at_new =
    quote old a (codes "{\"refused\":\"") (word r) _ new (at_a ∙ ap (λ w. old ++ (codes "{\"refused\":\"" ++ w)) (is ∙ sym (escape_refusal r))) at_new

pub several_added : (list : List Container) (old a b new : List ℕ) → a ≡ old ++ codes "{\"placed\":[" → b ≡ a ++ items_text false (items_of (map placed_data list))
    → new ≡ b ++ codes ",\"reply\":\"placed\"}" → new ≡ old ++ compact_text (placed_reply list)
unfolding escape_byte
several_added list old a b new at_a at_b at_new =
    both old a new (codes "{\"placed\":[") _ at_a (both a b new (items_text false (items_of (map placed_data list))) (codes ",\"reply\":\"placed\"}") at_b at_new)

pub found_added : (p : Proposal) (old a b new : List ℕ) → a ≡ old ++ codes "{\"proposal\":" → b ≡ a ++ compact_text (proposal_data p) → new ≡ b ++ codes ",\"reply\":\"proposal\"}"
    → new ≡ old ++ compact_text (proposed_data (Some p))
unfolding escape_byte
found_added p old a b new at_a at_b at_new =
    both old a new (codes "{\"proposal\":") _ at_a (both a b new (compact_text (proposal_data p)) (codes ",\"reply\":\"proposal\"}") at_b at_new)

pub committed_added : (p : Container) (old a b new : List ℕ) → a ≡ old ++ codes "{\"container\":" → b ≡ a ++ compact_text (placed_data p) → new ≡ b ++ codes ",\"reply\":\"committed\"}"
    → new ≡ old ++ compact_text (committed_reply p)
unfolding escape_byte
committed_added p old a b new at_a at_b at_new =
    both old a new (codes "{\"container\":") _ at_a (both a b new (compact_text (placed_data p)) (codes ",\"reply\":\"committed\"}") at_b at_new)

pub held_added : (containers : List Container) (asks : List Pending) (old a b c d new : List ℕ) → a ≡ old ++ codes "{\"asks\":["
    → b ≡ a ++ items_text false (items_of (map pending_data asks)) → c ≡ b ++ codes ",\"containers\":[" → d ≡ c ++ items_text false (items_of (map placed_data containers))
    → new ≡ d ++ codes ",\"reply\":\"held\"}" → new ≡ old ++ compact_text (held_data containers asks)
unfolding escape_byte
held_added containers asks old a b c d new at_a at_b at_c at_d at_new =
    both old a new (codes "{\"asks\":[") _ at_a (both a b new (items_text false (items_of (map pending_data asks))) _ at_b (both b c new (codes ",\"containers\":[") _ at_c
    (both c d new (items_text false (items_of (map placed_data containers))) (codes ",\"reply\":\"held\"}") at_d at_new)))

pub amount_added : (amount : Resource) (front old a b c new : List ℕ) → a ≡ old ++ front → b ≡ a ++ (codes "{\"memory\":" ++ decimal amount.memory)
    → c ≡ b ++ (codes ",\"vcores\":" ++ decimal amount.vcores) → new ≡ c ++ codes "}" → new ≡ old ++ (front ++ compact_text (amount_data amount))
unfolding escape_byte
amount_added amount front old a b c new at_a at_b at_c at_new =
    both old a new front _ at_a (join a b (codes "{\"memory\":") (decimal amount.memory) _ new at_b (join b c (codes ",\"vcores\":") (decimal amount.vcores) (codes "}") new at_c at_new))

pub usage_added : (used guaranteed maximum masters guests : Resource) (old a b c d e new : List ℕ) → a ≡ old ++ (codes "{\"guaranteed\":" ++ compact_text (amount_data guaranteed))
    → b ≡ a ++ (codes ",\"guests\":" ++ compact_text (amount_data guests)) → c ≡ b ++ (codes ",\"masters\":" ++ compact_text (amount_data masters))
    → d ≡ c ++ (codes ",\"maximum\":" ++ compact_text (amount_data maximum)) → e ≡ d ++ (codes ",\"reply\":\"usage\",\"used\":" ++ compact_text (amount_data used)) → new ≡ e ++ codes "}"
    → new ≡ old ++ compact_text (usage_data used guaranteed maximum masters guests)
unfolding escape_byte
usage_added used guaranteed maximum masters guests old a b c d e new at_a at_b at_c at_d at_e at_new =
    join old a (codes "{\"guaranteed\":") (compact_text (amount_data guaranteed)) _ new at_a
    (join a b (codes ",\"guests\":") (compact_text (amount_data guests)) _ new at_b
    (join b c (codes ",\"masters\":") (compact_text (amount_data masters)) _ new at_c
    (join c d (codes ",\"maximum\":") (compact_text (amount_data maximum)) _ new at_d
    (join d e (codes ",\"reply\":\"usage\",\"used\":") (compact_text (amount_data used)) (codes "}") new at_e at_new))))

-- ---- faults, audits and lines

pub fault_added : (f : InputFault) (line : ℕ) (w a b new : List ℕ) → w ≡ input_fault_word f → a ≡ [] ++ (codes "{\"fault\":\"" ++ w) → b ≡ a ++ (codes "\",\"line\":" ++ decimal line) → new ≡ b ++ codes "}"
    → new ≡ fault_text f line
unfolding escape_byte
fault_added f line w a b new is at_a at_b at_new =
    quote [] a (codes "{\"fault\":\"") (input_fault_word f) _ new (at_a ∙ ap (λ w. codes "{\"fault\":\"" ++ w) (is ∙ sym (escape_fault f)))
    (join a b (codes "\",\"line\":") (decimal line) (codes "}") new at_b at_new)

pub audit_added : (entries : ℕ) (a new : List ℕ) → a ≡ [] ++ (codes "{\"audit\":\"ok\",\"entries\":" ++ decimal entries) → new ≡ a ++ codes "}" → new ≡ audit_text entries
unfolding escape_byte
audit_added entries a new at_a at_new = join [] a (codes "{\"audit\":\"ok\",\"entries\":") (decimal entries) (codes "}") new at_a at_new

pub line_added : (place : ℕ) (e : Entry) (a b c new : List ℕ) → a ≡ [] ++ codes "{\"event\":" → b ≡ a ++ event_text e.event → c ≡ b ++ (codes ",\"place\":" ++ decimal place) → new ≡ c ++ line_end e.reply
    → new ≡ line_text place e
unfolding escape_byte
line_added place e a b c new at_a at_b at_c at_new =
    both [] a new (codes "{\"event\":") _ at_a (both a b new (event_text e.event) _ at_b (join b c (codes ",\"place\":") (decimal place) (line_end e.reply) new at_c at_new)) ∙ whole e.reply
  where
    whole : (o : Option Reply) → codes "{\"event\":" ++ (event_text e.event ++ (codes ",\"place\":" ++ (decimal place ++ line_end o))) ≡ compact_text (line_object place (event_data e.event) (option_map reply_data o))
    whole None = refl
    whole (Some reply) = refl
