-- The text of a heartbeat reads as the heartbeat.
use Rattle.std.proofs.Common.{◌≡◌, ℕ, List, [], ◌∷◌, ◌++◌, true, Ok, codes, sym, ap, ◌∙◌, append_assoc}
use Rattle.json.specs.Print.{escape, escape_byte}
use Rattle.serde_json.specs.Written.{compact_text}
use Rattle.ynl_resource.specs.declared.names.Name.{Name}
use Rattle.ynl_resource.specs.NameText.{is_name}
use Rattle.ynl_resource.specs.Texts.{read_name}
use Rattle.ynl_resource.proofs.IdTexts.{name_read}
use Rattle.ynl_model.specs.declared.events.Event.TheVariants.{Heartbeat}
use Rattle.ynl_lines.specs.Reading.{event_of_line}
use Rattle.ynl_lines.specs.Writing.{heartbeat_data}
use Rattle.ynl_fields.proofs.Escapes.{escape_name}
use Rattle.ynl_lines.proofs.ReplyTrip.{event_text_back}

abbrev pub front : List ℕ
front = codes "{\"event\":\"heartbeat\",\"node\":\""

abbrev pub end : List ℕ
end = codes "\"}"

text_is : (node : Name) → escape node ≡ node → front ++ (node ++ end) ≡ compact_text (heartbeat_data node)
unfolding escape_byte
text_is node e = ap (λ t. front ++ t) (ap (λ s. s ++ end) (sym e) ∙ sym (append_assoc (escape node) (34 ∷ []) (125 ∷ [])))

-- what stands between the two parts is the node, where it is a name
pub heartbeat_read : (line text : List ℕ) (node : Name) → line ≡ front ++ (text ++ end) → read_name text ≡ Ok node → event_of_line line ≡ Ok (Heartbeat node)
heartbeat_read line text node is named =
    let n = name_read text node named in
    let h : is_name node ≡ true = ap is_name n.0 ∙ n.1 in
    let here : line ≡ front ++ (node ++ end) = is ∙ ap (λ t. front ++ (t ++ end)) (sym n.0) in
    ap event_of_line (here ∙ text_is node (escape_name node h)) ∙ event_text_back (Heartbeat node) h tt
