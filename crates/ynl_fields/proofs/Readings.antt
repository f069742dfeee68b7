-- What bytes read as.
use Rattle.std.proofs.Common.{◌≡◌, ℕ, List, Some}
use Rattle.std.specs.Prelude.{IsUtf8}
use Rattle.serde_json.specs.Data.{Data}
use Rattle.serde_json.specs.Read.{read}
use Rattle.ynl_fields.specs.Reading.{reading}
use Rattle.ynl_resource.proofs.ReadBytes.{reading-text}

pub reading_text : (bytes : List ℕ) (d : Data) → IsUtf8 bytes → read bytes ≡ Some d → reading bytes ≡ Some d
reading_text bytes d utf8 e = reading-text read bytes d utf8 e
