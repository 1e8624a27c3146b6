-- What a scan leaves goes on.
use Rattle.std.proofs.Common.{◌≡◌, ℕ, sym, ap, subst, ◌∙◌}
use Rattle.run_journal.specs.declared.entry.FireNote.{FireNote}
use Rattle.ruby_value.specs.declared.setup.MachineSetup.{MachineSetup}
use Rattle.ctl_face.specs.declared.routes.Routes.{Routes}
use Rattle.ctl_face.specs.Prelude.{Ctl, Fits, IsLawful, Actor, LocalView, SameScan, opening_ctl, HasRoutes, scan_view}
use Rattle.ctl_store.specs.declared.outcome.Outcome.{Outcome}
use Rattle.ctl_store.specs.declared.parts.Parts.{Parts}
use Rattle.ctl_store.specs.Prelude.{ctl_of, machine_of, me_of, IsOutcomeFor, IsOutcomeOf, outcome_ctl, IsSameStore}
use Rattle.controller_rows.specs.Prelude.{GoesOn, IsDone}

pub is_done : (s : Parts) (actor : Actor) (now : ℕ) (v0 v : LocalView) (note : FireNote) (o : Outcome) → actor.me ≡ me_of s
    → v0 ≡ scan_view (machine_of s) actor now (ctl_of s) → SameScan v0 v → IsOutcomeOf v note o → IsLawful v → IsDone s now o
is_done s actor now v0 v note o me is same outcome lawful =
    let start : v.start ≡ ctl_of s = same.start ∙ ap (λ (u : LocalView). u.start) is in
    let machine : v.machine ≡ machine_of s = same.machine ∙ ap (λ (u : LocalView). u.machine) is in
    let who : v.actor.me ≡ me_of s = ap (λ (a : Actor). a.me) (same.actor ∙ ap (λ (u : LocalView). u.actor) is) ∙ me in
    let cycle : v.now ≡ now = same.now ∙ ap (λ (u : LocalView). u.now) is in
    let ctl : v.ctl ≡ outcome_ctl o (ctl_of s) = sym outcome.ctl ∙ ap (outcome_ctl o) start in
    record {
      sealed = subst (IsOutcomeFor o) start outcome.fits;
      fits =
          subst (λ (m : MachineSetup). Fits m (me_of s) (outcome_ctl o (ctl_of s)) now) machine
          (subst (λ (n : ℕ). Fits v.machine n (outcome_ctl o (ctl_of s)) now) who
          (subst (λ (c : Ctl). Fits v.machine v.actor.me c now) ctl
          (subst (λ (n : ℕ). Fits v.machine v.actor.me v.ctl n) cycle lawful.scan.fits)));
    }

pub goes_as : (old new : Parts) (routes : Routes) (now : ℕ) (ctl : Ctl) → IsSameStore old new → HasRoutes (machine_of old) (me_of old) routes
    → Fits (machine_of old) (me_of old) ctl now → ctl_of new ≡ ctl → GoesOn new routes now
goes_as old new routes now ctl same has_routes fits is = record {
  routes_fit =
      subst (λ (m : MachineSetup). HasRoutes m (me_of new) routes) (sym same.machine)
      (subst (λ (n : ℕ). HasRoutes (machine_of old) n routes) (sym same.me) has_routes);
  fits =
      subst (λ (c : Ctl). Fits (machine_of new) (me_of new) c now) (sym is)
      (subst (λ (m : MachineSetup). Fits m (me_of new) ctl now) (sym same.machine)
      (subst (λ (n : ℕ). Fits (machine_of old) n ctl now) (sym same.me) fits));
}

pub same_then : (a b c : Parts) → IsSameStore a b → IsSameStore b c → IsSameStore a c
same_then a b c first second = record { machine = second.machine ∙ first.machine; me = second.me ∙ first.me }

pub opened : (s : Parts) (machine : MachineSetup) (me : ℕ) (routes : Routes) (now : ℕ) → machine_of s ≡ machine → me_of s ≡ me → ctl_of s ≡ opening_ctl machine
    → HasRoutes machine me routes → Fits machine me (opening_ctl machine) now → GoesOn s routes now
opened s machine me routes now is who ctl has_routes fits = record {
  routes_fit =
      subst (λ (m : MachineSetup). HasRoutes m (me_of s) routes) (sym is) (subst (λ (n : ℕ). HasRoutes machine n routes) (sym who) has_routes);
  fits =
      subst (λ (c : Ctl). Fits (machine_of s) (me_of s) c now) (sym ctl)
      (subst (λ (m : MachineSetup). Fits m (me_of s) (opening_ctl machine) now) (sym is) (subst (λ (n : ℕ). Fits machine n (opening_ctl machine) now) (sym who) fits));
}
