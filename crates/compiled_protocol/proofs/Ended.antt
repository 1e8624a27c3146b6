-- What a run of code answers is what a scan has of it.
use Rattle.std.proofs.Common.{◌≡◌, ◌∙◌, Result, Ok, Err, refl, sym, ap}
use Rattle.ruby_value.specs.declared.fault.Fault.{Fault}
use Rattle.ruby_base.specs.declared.memory.NoMemory.{NoMemory}
use Rattle.ctl_face.specs.Prelude.{LocalView}
use Rattle.acts.specs.Prelude.{Acting, Done, itself, run}
use Rattle.body_meaning.specs.declared.frame.Known.{Known}
use Rattle.body_meaning.specs.Prelude.{run_scan, then_try, with_known}
use Rattle.code_meaning.specs.declared.code_end.CodeEnd.{CodeEnd}
use Rattle.code_meaning.specs.declared.code_end.CodeEnd.TheVariants as code_end
use Rattle.action_vm.specs.Outcome.{EndsAs, outcome}
use Rattle.scan_steps.specs.Prelude.{TriesAs}
use Rattle.scan_steps.proofs.Tries.{after_part, scan-body, scan-then, with_stop}
use Rattle.compiled_protocol.specs.Prelude.{unless_stopped}
use Rattle.compiled_protocol.specs.Ended.{ended}

module _ (k : Known) where
  pub end_settled : (e : CodeEnd) (w : LocalView) → run_scan (unless_stopped k e) w ≡ with_stop k (outcome (Ok (record { value = e; view = w })))
  unfolding run_scan
  end_settled (code_end.Value v) w = refl
  end_settled code_end.Nothing w = refl
  end_settled (code_end.Trigger event address entry tbe) w = refl
  end_settled (code_end.Stop f) w = refl

  settled : (r : Result (Done CodeEnd) Fault) → after_part (with_stop k r) (λ e w. run_scan (unless_stopped k e) w) ≡ with_stop k (outcome r)
  settled (Ok d) = end_settled d.value d.view
  settled (Err f) = refl

  module _ (q : Acting CodeEnd) (v : LocalView) where
    pub body_scan : run_scan (then_try (with_known k q) (unless_stopped k)) v ≡ with_stop k (outcome (run q v))
    body_scan =
        scan-then (with_known k q) (unless_stopped k) v
        ∙ ap (λ r. after_part r (λ e w. run_scan (unless_stopped k e) w)) (scan-body k q v)
        ∙ settled (run q v)

    pub run_tries : (r : Result CodeEnd NoMemory) (w : LocalView) → EndsAs q r v w → TriesAs itself (then_try (with_known k q) (unless_stopped k)) (ended k r) v w
    unfolding TriesAs
    run_tries (Ok (code_end.Value x)) w is = body_scan ∙ ap (with_stop k) is
    run_tries (Ok code_end.Nothing) w is = body_scan ∙ ap (with_stop k) is
    run_tries (Ok (code_end.Trigger event address entry tbe)) w is = body_scan ∙ ap (with_stop k) is
    run_tries (Ok (code_end.Stop f)) w is = body_scan ∙ ap (with_stop k) is
    run_tries (Err none) w is = tt

  -- a body that ended with this, and not with a fault
  abbrev well : CodeEnd → LocalView → Result (Done CodeEnd) Fault
  well e u = Ok (record { value = e; view = u })

  ran : (e : CodeEnd) (u : LocalView) (d : Done CodeEnd) → with_stop k (outcome (well e u)) ≡ Ok d → well e u ≡ Ok d
  ran (code_end.Value v) u d is = cc is
  ran code_end.Nothing u d is = cc is
  ran (code_end.Trigger event address entry tbe) u d is = cc is
  ran (code_end.Stop f) u d is = absurd (cc is)

  ran_by : (r : Result (Done CodeEnd) Fault) (d : Done CodeEnd) → with_stop k (outcome r) ≡ Ok d → r ≡ Ok d
  ran_by (Ok e) d is = ran e.value e.view d is
  ran_by (Err f) d is = absurd (cc is)

  pub body_ran : (q : Acting CodeEnd) (e : CodeEnd) (v w : LocalView) → TriesAs itself (then_try (with_known k q) (unless_stopped k)) (Ok e) v w
      → run q v ≡ Ok (record { value = e; view = w })
  unfolding TriesAs
  body_ran q e v w does = ran_by (run q v) (record { value = e; view = w }) (sym (body_scan q v) ∙ does)
