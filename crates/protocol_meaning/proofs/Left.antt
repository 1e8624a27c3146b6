-- What a scan leaves is what acts leave.
use Rattle.std.proofs.Common.{◌≡◌, ℕ, Bool, true, false, Result, Ok, Err, nat_le, refl}
use Rattle.run_journal.specs.declared.entry.StopAt.{StopAt}
use Rattle.ctl_face.specs.Prelude.{again, LocalView}
use Rattle.acts.specs.Prelude.{Again, Done, does, IsLeft}
use Rattle.acts.proofs.Left.{left_by_act, left_here}
use Rattle.body_meaning.specs.Prelude.{Reading, by_outcome, by_try, left_idle, ports_tried, scan, run_scan}
use Rattle.body_meaning.specs.declared.frame.Tried.{Tried}
use Rattle.body_meaning.specs.declared.frame.Tried.TheVariants.{Waits, Fires}
use Rattle.protocol_meaning.proofs.Tries.{scan_leaves}

pub does_again : (v : LocalView) → does Again v ≡ Ok (record { value = tt; view = again v })
unfolding does
does_again v = refl

left_again : (v : LocalView) → IsLeft v (again v)
left_again v = left_by_act Again v (again v) (record { value = tt; view = again v }) (does_again v) (left_here (again v))

left_either : (v w : LocalView) (b : Bool) → w.acts.again ≡ b → IsLeft v (left_idle v w)
left_either v w true is = rw is (left_again v)
left_either v w false is = rw is (left_here v)

of_try : (v w : LocalView) (t : Tried) → IsLeft v w → IsLeft v (by_try v t w).view
of_try v w (Fires note) left = left
of_try v w Waits left = left_either v w w.acts.again refl

of_outcome : (v : LocalView) (r : Result (Done Tried) StopAt) → ((d : Done Tried) → r ≡ Ok d → IsLeft v d.view) → IsLeft v (by_outcome v r).view
of_outcome v (Err at) left = left_here v
of_outcome v (Ok d) left = of_try v d.view d.value (left d refl)

module _ (s : Reading) (limit fired : ℕ) (v : LocalView) where
  left_by_limit : (b : Bool) → nat_le limit fired ≡ b → IsLeft v (scan s limit fired v).view
  left_by_limit true is = rw is (left_here v)
  left_by_limit false is =
      rw is
      (of_outcome v (run_scan (ports_tried s s.machine.in_ports) v)
      (λ d ends. scan_leaves (ports_tried s s.machine.in_ports) v d ends))

  pub left_by_scan : IsLeft v (scan s limit fired v).view
  left_by_scan = left_by_limit (nat_le limit fired) refl
