-- What a check of a text says, and whether the text is a configuration.
use Rattle.std.specs.Prelude.{◌≡◌, ℕ, List, Option, Result, Ok, Err}
use Rattle.ynl_model.specs.Queues.{Config, QueueRow}
use Rattle.ynl_config.specs.declared.faults.ConfigFault.{ConfigFault}
use Rattle.ynl_config.specs.Meaning.{config_of}
use Rattle.ynl_config.specs.Misplaced.{told_place}
use Rattle.ynl_config.specs.Places.{Place}
use Rattle.ynl_check.specs.Faults.{fault_line}
use Rattle.ynl_check.specs.Sentences.{sentence}
use Rattle.ynl_check.specs.Tree.{IsWalk, tree_text}
use Rattle.ynl_check.specs.declared.style.Style.{Style}
use Rattle.ynl_check.specs.declared.style.Style.TheVariants.{Objects, Columns}
use Rattle.ynl_check.specs.declared.style.Widths.{Widths}
use Rattle.ynl_check.specs.declared.checking.Form.{Form}
use Rattle.ynl_check.specs.declared.checking.Form.TheVariants.{Lines, Plain}
use Rattle.ynl_check.specs.declared.checking.Verdict.{Verdict}
use Rattle.ynl_check.specs.declared.checking.Verdict.TheVariants.{Accepted, Faulty}

-- a form of the tree; the columns of a plain one have any width
abbrev pub FitsForm : Form → Style → Type 0
FitsForm Lines style = style ≡ Objects
FitsForm Plain style = (widths : Widths) × (style ≡ Columns widths)

-- the tree of a configuration, queue by queue in the order of the walk
pub record IsTree (form : Form) (c : Config) (said : List ℕ) : Type 0 where
  pub style : Style
  pub form_is : FitsForm form style
  pub rows : List QueueRow
  pub walk : IsWalk c rows
  pub text : said ≡ tree_text style c rows

-- the fault at a place
abbrev pub fault_text : Form → ConfigFault → Place → List ℕ
fault_text Lines fault place = fault_line fault place
fault_text Plain fault place = sentence fault place

-- the tree of a configuration; or the fault of another text at its first place. No law says which line is told of bytes that are no TOML text.
abbrev pub Says : Form → List ℕ → Result Config ConfigFault → List ℕ → Type 0
Says form text (Ok c) said = IsTree form c said
Says form text (Err fault) said = (line : Option ℕ) × (said ≡ fault_text form fault (told_place line fault text))

-- what is said of a text
abbrev pub IsSaid : Form → List ℕ → List ℕ → Type 0
IsSaid form text said = Says form text (config_of text) said

-- whether a text is a configuration
abbrev pub verdict_on : Result Config ConfigFault → Verdict
verdict_on (Ok c) = Accepted
verdict_on (Err fault) = Faulty
