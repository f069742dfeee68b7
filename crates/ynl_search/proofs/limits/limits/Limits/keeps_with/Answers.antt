-- What is above the cap is above the limit.
use Rattle.std.proofs.Common.{◌≡◌, ◌≤◌, ◌+◌, ◌<◌, Bool, true, false, refl, arith}
use Rattle.ynl_resource.specs.Amounts.{fits_in, plus}
use Rattle.ynl_search.specs.limits.Limits.{limit_of}
use Rattle.ynl_search.proofs.limits.UserLimit.{within-cap}
use Rattle.ynl_search.proofs.limits.limits.Limits.keeps_with.Goals as goal

pub returns-in_default : goal.returns-in_default
returns-in_default c = go (fits_in (plus c.args.used.now c.args.ask.now) (limit_of c.args.self.now c.args.ask.now)) refl
  where
    go : (b : Bool) → fits_in (plus c.args.used.now c.args.ask.now) (limit_of c.args.self.now c.args.ask.now) ≡ b → false ≡ b
    go false e = refl
    go true e =
        let within = within-cap c.args.self.now c.args.used.now c.args.ask.now e in
        let memory : c.args.used.now.memory + c.args.ask.now.memory ≤ c.args.self.now.cap.memory = within.0 in
        let above : c.args.self.now.cap.memory < c.args.used.now.memory + c.args.ask.now.memory = c.in_default.ensures.none in
        absurd (omega (arith, memory, above))

pub returns-in_default-sum_within : goal.returns-in_default-sum_within
returns-in_default-sum_within c = go (fits_in (plus c.args.used.now c.args.ask.now) (limit_of c.args.self.now c.args.ask.now)) refl
  where
    go : (b : Bool) → fits_in (plus c.args.used.now c.args.ask.now) (limit_of c.args.self.now c.args.ask.now) ≡ b → false ≡ b
    go false e = refl
    go true e =
        let within = within-cap c.args.self.now c.args.used.now c.args.ask.now e in
        let vcores : c.args.used.now.vcores + c.args.ask.now.vcores ≤ c.args.self.now.cap.vcores = within.1 in
        let above : c.args.self.now.cap.vcores < c.args.used.now.vcores + c.args.ask.now.vcores = c.in_default-sum_within.ensures.none in
        absurd (omega (arith, vcores, above))
