-- The texts of names, labels, paths and ids read as these.
use Rattle.std.proofs.lemmas.Bool.{false≢true}
use Rattle.std.proofs.Common.{◌≡◌, ◌∙◌, ℕ, List, [], ◌∷◌, length, ne_eqb, false, cond, arith, Ok, Err, refl, ap}
use Rattle.std.specs.Prelude.{◌==◌}
use Rattle.ynl_resource.specs.declared.names.Name.{Name}
use Rattle.ynl_resource.specs.declared.labels.Label.{Label}
use Rattle.ynl_resource.specs.declared.labels.Label.TheVariants.{Unlabelled, Named}
use Rattle.ynl_resource.specs.declared.paths.Path.{Path}
use Rattle.ynl_resource.specs.declared.ids.Id.{Id}
use Rattle.ynl_resource.specs.Texts.{bad_name, named, read_name, read_label, label_text, path_text, id_text}
use Rattle.ynl_resource.proofs.IdTexts.{reads_id}
use Rattle.ynl_resource.proofs.PathTexts.{reads_path}
use Rattle.ynl_fields.specs.Reading.{or_other, name_or, label_or, path_or, id_or, HasClock}
use Rattle.ynl_fields.specs.Sound.{IsName, IsLabel, IsPath}

name_reads : (name : Name) → IsName name → read_name name ≡ Ok name
unfolding read_name
name_reads name h = ap (λ b. cond b (Ok name) (Err bad_name)) h

-- a name is not empty
some_name : (name : List ℕ) → IsName name → (length name == 0) ≡ false
some_name [] h = absurd (false≢true h)
some_name (x ∷ xs) h = ne_eqb (length (x ∷ xs)) 0 (λ e. omega (arith, e))

label_reads : (l : Label) → IsLabel l → read_label (label_text l) ≡ Ok l
unfolding read_label
label_reads Unlabelled h = refl
label_reads (Named name) h = ap (λ b. cond b (Ok Unlabelled) (named (read_name name))) (some_name name h) ∙ ap named (name_reads name h)

module _ {E : Type 0} (fault : E) where
  pub name_back : (name : Name) → IsName name → name_or fault name ≡ Ok name
  unfolding name_or
  name_back name h = ap (or_other fault) (name_reads name h)

  pub label_back : (l : Label) → IsLabel l → label_or fault (label_text l) ≡ Ok l
  unfolding label_or
  label_back l h = ap (or_other fault) (label_reads l h)

  pub id_back : (id : Id) → IsLabel id.label → HasClock id → id_or fault (id_text id) ≡ Ok id
  unfolding id_or
  id_back id h clock = ap (or_other fault) (reads_id id (label_text id.label) clock.0 clock.1 refl (label_reads id.label h))

  pub path_back : (path : Path) → IsPath path → path_or fault (path_text path) ≡ Ok path
  unfolding path_or path_text
  path_back path h = ap (or_other fault) (reads_path path h.0 h.1)
