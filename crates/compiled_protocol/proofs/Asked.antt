-- The steps by which a scan by code is what the text says: one part after another, what is known of a transition, and bodies that do the
-- same as code.
use Rattle.std.proofs.Common.{◌≡◌, ◌∙◌, ℕ, Result, Ok, Err, refl, sym, ap, subst, slice_get}
use Rattle.ruby_value.specs.declared.fault.Fault.{Fault}
use Rattle.run_journal.specs.declared.entry.StopAt.{StopAt}
use Rattle.ctl_face.specs.Prelude.{IsLawful, LocalView, SameScan}
use Rattle.acts.specs.Prelude.{Act, Acting, Done, HoldsAfter, ends as ends_body, does, follow, run, ◌>>=◌}
use Rattle.acts.proofs.Walk.{run-then}
use Rattle.body_meaning.specs.declared.frame.Known.{Known}
use Rattle.body_meaning.specs.Prelude.{Trying, ends, run_scan, then_try, with_known}
use Rattle.code_meaning.specs.declared.code_end.CodeEnd.{CodeEnd}
use Rattle.code_meaning.specs.Prelude.{IsDeclared}
use Rattle.action_code.specs.declared.program.Program.{Program}
use Rattle.action_vm.specs.Outcome.{outcome}
use Rattle.action_gen.specs.Prelude.{InMachine}
use Rattle.scan_steps.proofs.Stays.{ScanHolds, act_in_scan, act_lawful, scan_keeps}
use Rattle.scan_steps.proofs.Tries.{after_part, scan-body, scan-then, with_stop}
use Rattle.compiled_protocol.specs.Prelude.{unless_stopped}
use Rattle.compiled_protocol.proofs.Ended.{body_scan, end_settled}

-- One after another.

abbrev pub ScanGives : {A : Type 0} → (A → LocalView → Type 0) → Result (Done A) StopAt → Type 0
ScanGives R (Ok d) = R d.value d.view
ScanGives R (Err at) = Unit {0}

module _ {A B : Type 0} (R : A → LocalView → Type 0) (p q : Trying A) (f g : A → Trying B) (rest : (x : A) (w : LocalView) → R x w → run_scan (f x) w ≡ run_scan (g x) w) where
  next_same : (r : Result (Done A) StopAt) → ScanGives R r → after_part r (λ x w. run_scan (f x) w) ≡ after_part r (λ x w. run_scan (g x) w)
  next_same (Ok d) gives = rest d.value d.view gives
  next_same (Err at) gives = refl

  pub then_same : (v : LocalView) → run_scan p v ≡ run_scan q v → ScanGives R (run_scan q v) → run_scan (then_try p f) v ≡ run_scan (then_try q g) v
  then_same v same gives =
      scan-then p f v ∙ ap (λ r. after_part r (λ x w. run_scan (f x) w)) same ∙ next_same (run_scan q v) gives ∙ sym (scan-then q g v)

-- Locals of a machine stay so.

module _ (p : Program) (machine : ℕ) where
  both_after : {A : Type 0} (v : LocalView) (r : Result (Done A) Fault) → InMachine p machine v → HoldsAfter (SameScan v) r → HoldsAfter IsLawful r
      → HoldsAfter (InMachine p machine) r
  both_after v (Ok d) here scan lawful = record {
    declared = subst (IsDeclared p (slice_get p.machines machine)) (sym scan.machine) here.declared;
    lawful = lawful;
  }
  both_after v (Err f) here scan lawful = tt

  act_keeps : (a : Act) (v : LocalView) → InMachine p machine v → HoldsAfter (InMachine p machine) (does a v)
  act_keeps a v here = both_after v (does a v) here (act_in_scan a v) (act_lawful a v here.lawful)

  here_given : {A : Type 0} (r : Result (Done A) StopAt) → ScanHolds (InMachine p machine) r → ScanGives (λ (x : A) w. InMachine p machine w) r
  here_given (Ok d) holds = holds
  here_given (Err at) holds = tt

  pub stays_in : {A : Type 0} (q : Trying A) (v : LocalView) → InMachine p machine v → ScanGives (λ (x : A) w. InMachine p machine w) (run_scan q v)
  stays_in q v here = here_given (run_scan q v) (scan_keeps (InMachine p machine) act_keeps q v here)

-- What is known of a transition while two bodies are done, one after the other.

module _ {A B : Type 0} (k : Known) (p : Acting A) (g : A → Acting B) (v : LocalView) where
  known_next : (r : Result (Done A) Fault) → with_stop k (follow r (λ x w. run (g x) w)) ≡ after_part (with_stop k r) (λ x w. run_scan (with_known k (g x)) w)
  known_next (Ok d) = sym (scan-body k (g d.value) d.view)
  known_next (Err f) = refl

  pub known_then : run_scan (with_known k (p >>= g)) v ≡ run_scan (then_try (with_known k p) (λ x. with_known k (g x))) v
  known_then =
      scan-body k (p >>= g) v ∙ ap (with_stop k) (run-then p g v) ∙ known_next (run p v)
      ∙ sym (ap (λ r. after_part r (λ x w. run_scan (with_known k (g x)) w)) (scan-body k p v))
      ∙ sym (scan-then (with_known k p) (λ x. with_known k (g x)) v)

-- A body as code that does what this does, and ends as its answer is.

module _ {A B : Type 0} (k : Known) (code : Acting CodeEnd) (q : Acting A) (end : A → CodeEnd) (never : (x : A) → unless_stopped k (end x) ≡ ends (end x)) (f : CodeEnd → Trying B) (v : LocalView) where
  abbrev code_next : CodeEnd → LocalView → Result (Done B) StopAt
  code_next e w = run_scan (f e) w

  ended_as : (r : Result (Done A) Fault) → after_part (with_stop k (outcome (follow r (λ x w. run (ends_body (end x)) w)))) code_next ≡ after_part (with_stop k r) (λ x w. run_scan (f (end x)) w)
  unfolding run run_scan
  ended_as (Ok d) = ap (λ r. after_part r code_next) (sym (end_settled k (end d.value) d.view) ∙ ap (λ (t : Trying CodeEnd). run_scan t d.view) (never d.value))
  ended_as (Err g) = refl

  pub body_as : run code v ≡ run (q >>= (λ x. ends_body (end x))) v → run_scan (then_try (then_try (with_known k code) (unless_stopped k)) f) v ≡ run_scan (then_try (with_known k q) (λ x. f (end x))) v
  body_as same =
      scan-then (then_try (with_known k code) (unless_stopped k)) f v
      ∙ ap (λ r. after_part r code_next) (body_scan k code v)
      ∙ ap (λ r. after_part (with_stop k (outcome r)) code_next) (same ∙ run-then q (λ x. ends_body (end x)) v)
      ∙ ended_as (run q v)
      ∙ sym (ap (λ r. after_part r (λ x w. run_scan (f (end x)) w)) (scan-body k q v))
      ∙ sym (scan-then (with_known k q) (λ x. f (end x)) v)
