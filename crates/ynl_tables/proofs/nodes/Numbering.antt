-- Names as numbers: no two have one, so the maps have of each name what they should.
use Rattle.std.proofs.Common.{◌≡◌, ℕ, Bool, true, cond, Option, Some, None, refl, sym, ap, ◌∙◌, nat_eq}
use Rattle.std.proofs.lemmas.Bool.{eq-eqb, eqb-true}
use Rattle.std.proofs.lemmas.Option.{same_Some, none-some}
use Rattle.std.specs.BTreeMap.{BTreeMap, get, is_at}
use Rattle.std.specs.HashMap.{HashMap, get as hashed}
use Rattle.std.specs.Bool.{one_answer}
use Rattle.std.specs.Cmp.Lexicographic.{bytes_decides}
use Rattle.ynl_resource.specs.declared.names.Name.{Name}
use Rattle.ynl_resource.specs.declared.seeds.HashSeed.{HashSeed}
use Rattle.ynl_resource.specs.Heads.{code_of}
use Rattle.ynl_resource.specs.NameText.{is_name}
use Rattle.ynl_resource.specs.Names.{same_name, name_order}
use Rattle.ynl_resource.proofs.Ascii.{code_tells}
use Rattle.ynl_tables.specs.declared.nodes.numbers.Numbers.{Numbers}
use Rattle.ynl_tables.specs.nodes.Numbers.{number_by, number_in}
use Rattle.ynl_tables.proofs.nodes.Names.{other_name, at_same}

-- two names that have codes have one where they are the same
at_code : (name other : Name) (code number : ℕ) → is_name name ≡ true → is_name other ≡ true → code_of name ≡ Some code → code_of other ≡ Some number → nat_eq code number ≡ same_name name other
at_code name other code number a b e f =
    one_answer (nat_eq code number) (same_name name other)
    ((λ q. code_tells name other number a b (e ∙ ap (λ (n : ℕ). Some n) (eqb-true code number q)) f), (λ same. eq-eqb code number (same_Some code number (sym e ∙ ap code_of same ∙ f))))
    (bytes_decides name other)

-- what a short name comes to, in the map of short names, it comes to in both
pub short_set : (numbers : Numbers) (short : HashMap ℕ ℕ HashSeed) (name : Name) (code : ℕ) (set : Option ℕ) → code_of name ≡ Some code → is_name name ≡ true
    → ((q : ℕ) → hashed nat_eq short q ≡ cond (nat_eq code q) set (hashed nat_eq numbers.short q))
    → (other : Name) → is_name other ≡ true → number_in (record { short = short; long = numbers.long }) other ≡ cond (same_name name other) set (number_in numbers other)
short_set numbers short name code set coded named sets other named_too = go (code_of other) refl
  where
    go : (o : Option ℕ) → code_of other ≡ o → number_by o (record { short = short; long = numbers.long }) other ≡ cond (same_name name other) set (number_by o numbers other)
    go (Some n) q = sets n ∙ ap (λ (b : Bool). cond b set (hashed nat_eq numbers.short n)) (at_code name other code n named named_too coded q)
    go None q = sym (ap (λ (b : Bool). cond b set (get name_order numbers.long other)) (other_name name other (λ same. none-some code (sym q ∙ ap code_of (sym same) ∙ coded))))

-- and a longer one in the map of longer names
pub long_set : (numbers : Numbers) (long : BTreeMap Name ℕ) (name : Name) (set : Option ℕ) → code_of name ≡ None
    → ((q : Name) → get name_order long q ≡ cond (is_at (name_order name) q) set (get name_order numbers.long q))
    → (other : Name) → number_in (record { short = numbers.short; long = long }) other ≡ cond (same_name name other) set (number_in numbers other)
long_set numbers long name set coded sets other = go (code_of other) refl
  where
    go : (o : Option ℕ) → code_of other ≡ o → number_by o (record { short = numbers.short; long = long }) other ≡ cond (same_name name other) set (number_by o numbers other)
    go (Some n) q = sym (ap (λ (b : Bool). cond b set (hashed nat_eq numbers.short n)) (other_name name other (λ same. none-some n (sym coded ∙ ap code_of same ∙ q))))
    go None q = sets other ∙ ap (λ (b : Bool). cond b set (get name_order numbers.long other)) (at_same name other)
