-- Members of JSON objects, one after another.
use Rattle.std.specs.Prelude.{List}
use Rattle.json.specs.Token.{Token}
use Rattle.json.specs.Tree.{json_tokens}
use Rattle.serde_json.specs.Data.{Data, string}
use Rattle.serde_json.specs.Written.{outline}
use Rattle.ynl_resource.specs.Texts.{label_text, path_text}
use Rattle.ynl_lines.specs.Writing.{count, amount_data}
use Rattle.ynl_waits.specs.Steps.{path_of}
use Rattle.ynl_explain.specs.declared.objects.Content.{Content}
use Rattle.ynl_explain.specs.declared.objects.Content.TheVariants.{Word, Named, Labelled, Queue, Number, Small, Count, Memory, Vcores, Amount}

-- what stands under a key
abbrev pub content_data : Content → Data
content_data (Word text) = string text.now
content_data (Named name) = string name.now
content_data (Labelled label) = string (label_text label.now)
content_data (Queue step) = string (path_text (path_of step.now))
content_data (Number n) = count n
content_data (Small n) = count n
content_data (Count n) = count n
content_data (Memory size) = count size.now.memory
content_data (Vcores size) = count size.now.vcores
content_data (Amount amount) = amount_data amount

-- the tokens of a value
abbrev pub tokens_of : Data → List Token
tokens_of d = json_tokens (outline d)
