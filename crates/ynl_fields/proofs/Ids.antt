-- The number of an id that is read is in range.
use Rattle.std.proofs.Common.{◌≡◌, ℕ, List, Bool, true, false, cond, Result, Ok, Err, refl, sym, arith}
use Rattle.std.proofs.lemmas.Bool.Decides.{nat_tests}
use Rattle.std.specs.Str.Parse.{digits_value}
use Rattle.std.specs.List.{before_first, after_first}
use Rattle.ynl_resource.specs.declared.ids.Id.{Id}
use Rattle.ynl_resource.specs.declared.labels.Label.{Label}
use Rattle.ynl_resource.specs.declared.names.BadName.{BadName}
use Rattle.ynl_resource.specs.Texts.{read_id, read_label, id_of, is_clock, is_mark, bad_name}
use Rattle.ynl_fields.specs.Reading.{HasClock}

clock_ranged : (r : Result Label BadName) (digits : List ℕ) (id : Id) → id_of r digits ≡ Ok id → HasClock id
clock_ranged (Err e) digits id f = absurd (cc)
clock_ranged (Ok label) digits id f = go (is_clock digits) refl f
  where
    go : (b : Bool) → is_clock digits ≡ b → cond b (Ok (record { label = label; clock = digits_value 10 digits })) (Err bad_name) ≡ Ok id → HasClock id
    go false t f = absurd (cc)
    go true t f = let same : digits_value 10 digits ≡ id.clock = cc in (grind (arith, nat_tests), grind (arith, nat_tests))

pub id_ranged : (text : List ℕ) (id : Id) → Ok id ≡ read_id text → HasClock id
unfolding read_id
id_ranged text id e = clock_ranged (read_label (before_first is_mark text)) (after_first is_mark text) id (sym e)
