-- A live application asks on its home partition, and where asks of it are told.
use Rattle.std.proofs.Common.{◌≡◌, ◌≢◌, suc, Bool, true, false, cond, List, [], ◌∷◌, map, filter, inr, refl, ap, arith}
use Rattle.std.specs.List.{Contains}
use Rattle.ynl_resource.specs.Names.{same_label}
use Rattle.ynl_resource.specs.declared.labels.Label.{Label}
use Rattle.ynl_resource.specs.declared.names.Name.{Name}
use Rattle.ynl_laws.proofs.Names.{same-label_path}
use Rattle.ynl_model.specs.declared.applications.AskRow.{AskRow}
use Rattle.ynl_model.specs.Cluster.{State}
use Rattle.ynl_model.specs.Events.{pending, pending_on, sorted}
use Rattle.ynl_waits.specs.declared.waits.Applicant.{Applicant}
use Rattle.ynl_service.specs.reading.reasons.Facts.{IsApplicant, IsAsking}

-- asks under a label are for it
asked : (label : Label) (asks : List AskRow) → filter (λ ask. same_label ask.label label) asks ≢ [] → Contains (map (λ ask. ask.label) asks) label
asked label [] some = absurd (some refl)
asked label (ask ∷ asks) some = go (same_label ask.label label) refl some (asked label asks)
  where
    go : (b : Bool) → same_label ask.label label ≡ b → cond b (ask ∷ filter (λ (ask : AskRow). same_label ask.label label) asks) (filter (λ (ask : AskRow). same_label ask.label label) asks) ≢ []
        → (filter (λ (ask : AskRow). same_label ask.label label) asks ≢ [] → Contains (map (λ ask. ask.label) asks) label) → Contains (map (λ (ask : AskRow). ask.label) (ask ∷ asks)) label
    go true is some rest = (0, omega arith, same-label_path ask.label label is)
    go false is some rest = let there = rest some in (suc there.0, omega (arith, there.1), there.2)

pub asks-there : (s : State) (tenant name : Name) (app : Applicant) (label : Label) → (is : IsApplicant s tenant name app) → pending_on label is.live ≢ [] → IsAsking s app label
asks-there s tenant name app label is some = record {
  tenant = tenant;
  name = name;
  live = is.live;
  found = is.found;
  is = is.is;
  asks = inr (asked label is.live.asks (λ none. some (ap (λ (asks : List AskRow). map pending (sorted asks)) none)));
}
