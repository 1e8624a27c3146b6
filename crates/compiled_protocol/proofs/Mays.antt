-- What may be done stays so: after a port's body on what it triggered, and on the other ports.
use Rattle.std.proofs.Common.{◌≡◌, ℕ, IfSome, Option, Some, List, [], ◌∷◌, Ok, refl, subst, sym}
use Rattle.std.specs.List.{All}
use Rattle.std.proofs.lemmas.List.Elements.{All-head, All-tail}
use Rattle.ruby_value.specs.declared.setup.MachineSetup.{MachineSetup}
use Rattle.ctl_face.specs.Prelude.{IsLawful, LocalView}
use Rattle.acts.specs.Prelude.{itself}
use Rattle.body_meaning.specs.declared.frame.Known.{Known}
use Rattle.body_meaning.specs.declared.thing.Trigger.{Trigger}
use Rattle.code_meaning.specs.declared.code_end.CodeEnd.{CodeEnd}
use Rattle.code_meaning.specs.Prelude.{HoldsOfAnswer, run_body}
use Rattle.scan_steps.specs.Prelude.{TriesAs}
use Rattle.scan_steps.proofs.Stays.{tries_stay}
use Rattle.compiled_protocol.specs.Prelude.{MachineCode, MayGoOn, MayRunPort, MayTry, body_run, trigger_in}
use Rattle.compiled_protocol.proofs.Ended.{body_ran}

module _ (c : MachineCode) where
  pub goes_on : (k : Known) (body : ℕ) (e : CodeEnd) (v w : LocalView) → MayRunPort c v.machine body → IsLawful v
      → TriesAs itself (body_run c k body []) (Ok e) v w → MayGoOn c w.machine e
  goes_on k body e v w may lawful does =
      let ran = body_ran k (run_body c.parts.program body []) e v w does in
      let here = subst (HoldsOfAnswer (MayGoOn c v.machine)) ran (may.triggers v (record { machine = refl; lawful = lawful })) in
      let same = tries_stay itself (body_run c k body []) e v w does in
      subst (λ (setup : MachineSetup). MayGoOn c setup e) (sym same.machine) here

  pub one_may : (setup : MachineSetup) (e : CodeEnd) (t : Trigger) → Some t ≡ trigger_in e → MayGoOn c setup e → MayTry c setup t
  one_may setup e t is may = subst (λ (o : Option Trigger). IfSome o (MayTry c setup)) (sym is) may

  module _ (setup : MachineSetup) (bodies : List ℕ) (x : ℕ) (xs : List ℕ) (is : bodies ≡ x ∷ xs) (may : All (MayRunPort c setup) bodies) where
    pub first_may : MayRunPort c setup x
    first_may = All-head (MayRunPort c setup) x xs (subst (All (MayRunPort c setup)) is may)

    pub rest_may : (later : MachineSetup) → later ≡ setup → All (MayRunPort c later) xs
    rest_may later same =
        subst (λ (s : MachineSetup). All (MayRunPort c s) xs) (sym same) (All-tail (MayRunPort c setup) x xs (subst (All (MayRunPort c setup)) is may))
