-- A callback of a scan, as a call on the local that the scan is.
use Rattle.std.proofs.Common.{◌≡◌, ℕ, cond, List, Option, None, Some, Result, Ok, Err, refl, sym, ap, subst, ◌∙◌}
use Rattle.ruby_value.specs.declared.asked.Answer.{Answer}
use Rattle.ruby_value.specs.declared.fault.Fault.{Fault}
use Rattle.ruby_value.specs.declared.value.Block.{Block}
use Rattle.ruby_value.specs.Prelude.{Roomy, Requests}
use Rattle.ctl_face.specs.Prelude.{after_callback, block_after_write, read_back, write_back, DoesWith, IsLawful, LocalView}
use Rattle.ctl_face.proofs.ActsKept.{read_acts, write_acts}
use Rattle.ctl_face.proofs.Callbacks.{read_back_keeps, write_back_keeps}
use Rattle.ctl_face.proofs.LawfulAfter.{lawful_after}
use Rattle.ruby_value.specs.declared.asked.BackFault.{BackFault}
use Rattle.sequencer.specs.declared.fault.CallbackFault.{CallbackFault}
use Rattle.sequencer.specs.declared.fault.CallbackFault.TheVariants as refused
use Rattle.sequencer.specs.Prelude.{CallsBack, FitCallbacks, after_callbacks}
use Rattle.ruby_value.specs.Callback as callback
use Rattle.ctl_store.specs.Prelude.{as_trouble, FitCalls, after_calls, requests_of, IsScan, Scanned, local_of}
use Rattle.ctl_store.proofs.Stays.{Steps, stays_lawful}

-- the scan with other callbacks
abbrev pub with_calls : Scanned → List Answer → Scanned
with_calls s calls = record s { changes = record s.changes { calls = calls } }

-- the local with other requests
abbrev with_requests : LocalView → Requests → LocalView
with_requests v r = record v { ctl = record v.ctl { sequencer = Some r } }

-- what a callback does to requests it does to a local that has them
does_by_calls : {A : Type 0} (v : LocalView) (old new : Requests) (want : Result Requests BackFault) (answer : A) (result : Result A CallbackFault)
    → CallsBack want answer result old new
    → DoesWith (after_callback v want) answer (as_trouble result) (with_requests v old) (with_requests v new)
does_by_calls v old new want answer (Ok a) does = record { comes = (ap (after_callback v) does.0, does.1); scan = record { machine = refl; actor = refl; now = refl; start = refl } }
does_by_calls v old new want answer (Err (refused.Refused fault)) does = record { comes = (ap (after_callback v) does.0, ap (with_requests v) does.1); scan = record { machine = refl; actor = refl; now = refl; start = refl } }
does_by_calls v old new want answer (Err refused.NoMemory) does = record { comes = ap (with_requests v) does; scan = record { machine = refl; actor = refl; now = refl; start = refl } }

-- it makes no difference what requests the local had
over : (v : LocalView) (r : Requests) (o : Result Requests BackFault) → after_callback (with_requests v r) o ≡ after_callback v o
over v r (Ok after) = refl
over v r (Err fault) = refl

-- a scan of a store that has a sequencer with these requests
module _ (s : Scanned) (q : Roomy Requests) (there : s.parts.sequencer ≡ Some q) where
  abbrev now_of : List Answer → Requests
  now_of calls = after_callbacks calls q.kept

  view_is : (calls : List Answer) → local_of (with_calls s calls) ≡ with_requests (local_of s) (now_of calls)
  view_is calls =
      ap (λ (o : Option (Roomy Requests)). record (local_of s) { ctl = record (local_of s).ctl { sequencer = after_calls calls (requests_of o) } }) there

  fits_is : (calls : List Answer) → FitCalls calls (requests_of s.parts.sequencer) → FitCallbacks calls q.kept
  fits_is calls fits = subst (λ (o : Option (Roomy Requests)). FitCalls calls (requests_of o)) there fits

  fits_as : (calls : List Answer) → FitCallbacks calls q.kept → FitCalls calls (requests_of s.parts.sequencer)
  fits_as calls fits = subst (λ (o : Option (Roomy Requests)). FitCalls calls (requests_of o)) (sym there) fits

  calls_step : {A : Type 0} (act : LocalView → Result LocalView Fault) (answer : LocalView → A) (own_answer : A) (calls : List Answer)
      (want : Result Requests BackFault) (result : Result A CallbackFault)
      → act (with_requests (local_of s) (now_of s.changes.calls)) ≡ after_callback (local_of s) want
      → answer (with_requests (local_of s) (now_of s.changes.calls)) ≡ own_answer
      → IsScan s → CallsBack want own_answer result (now_of s.changes.calls) (now_of calls)
      → (FitCallbacks s.changes.calls q.kept → FitCallbacks calls q.kept)
      → ((v : LocalView) → act (local_of s) ≡ Ok v → IsLawful v)
      → Steps act answer (as_trouble result) s (with_calls s calls)
  calls_step {A} act answer own_answer calls want result acts answers is does fit kept =
      let here : local_of s ≡ with_requests (local_of s) (now_of s.changes.calls) = view_is s.changes.calls in
      let there_is : local_of (with_calls s calls) ≡ with_requests (local_of s) (now_of calls) = view_is calls in
      let raw = does_by_calls (local_of s) (now_of s.changes.calls) (now_of calls) want own_answer result does in
      let done : DoesWith (act (local_of s)) (answer (local_of s)) (as_trouble result) (local_of s) (local_of (with_calls s calls)) =
      subst (λ (v : LocalView). DoesWith (act v) (answer v) (as_trouble result) v (local_of (with_calls s calls))) (sym here)
      (subst (λ (w : Result LocalView Fault). DoesWith w (answer (with_requests (local_of s) (now_of s.changes.calls))) (as_trouble result) (with_requests (local_of s) (now_of s.changes.calls)) (local_of (with_calls s calls))) (sym acts)
      (subst (λ (a : A). DoesWith (after_callback (local_of s) want) a (as_trouble result) (with_requests (local_of s) (now_of s.changes.calls)) (local_of (with_calls s calls))) (sym answers)
      (subst (DoesWith (after_callback (local_of s) want) own_answer (as_trouble result) (with_requests (local_of s) (now_of s.changes.calls))) (sym there_is) raw))) in
      let lawful = stays_lawful (act (local_of s)) (answer (local_of s)) (as_trouble result) (local_of s) (local_of (with_calls s calls)) kept is.lawful done in
      record {
        does = done;
        lawful = lawful;
        scan = record { kept = is.kept; lawful = lawful; tables = is.tables; mail = is.mail; calls = fits_as calls (fit (fits_is s.changes.calls is.calls)) };
      }

  pub read_step : (v : Scanned) (calls : List Answer) (line : ℕ) (block : Block) (result : Result (Unit {0}) CallbackFault)
      → s ≡ v → IsScan s
      → CallsBack (callback.read_back (now_of s.changes.calls) line block) tt result (now_of s.changes.calls) (now_of calls)
      → (FitCallbacks s.changes.calls q.kept → FitCallbacks calls q.kept)
      → Steps (λ u. read_back u line block) (λ u. tt) (as_trouble result) v (with_calls s calls)
  read_step v calls line block result same_scan is does fit =
      subst (λ (u : Scanned). Steps (λ u. read_back u line block) (λ u. tt) (as_trouble result) u (with_calls s calls)) same_scan
      (calls_step (λ u. read_back u line block) (λ u. tt) tt calls (callback.read_back (now_of s.changes.calls) line block) result
      (over (local_of s) (now_of s.changes.calls) (callback.read_back (now_of s.changes.calls) line block)) refl is does fit
      (λ u. lawful_after _ (read_back_keeps (local_of s) line block is.lawful.scan) (read_acts (local_of s) is.lawful.acts line block) u))

  pub write_step : (v : Scanned) (calls : List Answer) (line : ℕ) (block : Block) (result : Result Block CallbackFault)
      → s ≡ v → IsScan s
      → CallsBack (callback.write_back (now_of s.changes.calls) line block) (callback.block_after_write (now_of s.changes.calls) line block) result (now_of s.changes.calls) (now_of calls)
      → (FitCallbacks s.changes.calls q.kept → FitCallbacks calls q.kept)
      → Steps (λ u. write_back u line block) (λ u. block_after_write u line block) (as_trouble result) v (with_calls s calls)
  write_step v calls line block result same_scan is does fit =
      subst (λ (u : Scanned). Steps (λ u. write_back u line block) (λ u. block_after_write u line block) (as_trouble result) u (with_calls s calls)) same_scan
      (calls_step (λ u. write_back u line block) (λ u. block_after_write u line block) (callback.block_after_write (now_of s.changes.calls) line block) calls
      (callback.write_back (now_of s.changes.calls) line block) result
      (over (local_of s) (now_of s.changes.calls) (callback.write_back (now_of s.changes.calls) line block))
      refl is does fit
      (λ u. lawful_after _ (write_back_keeps (local_of s) line block is.lawful.scan) (write_acts (local_of s) is.lawful.acts line block) u))
