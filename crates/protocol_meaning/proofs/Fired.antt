-- A scan of a protocol that fires leaves its local in the same scan.
use Rattle.std.proofs.Common.{◌≡◌, ℕ, Bool, true, false, cond, Option, None, Some, List, Result, Ok, Err, IfOk, nat_le, refl, subst}
use Rattle.ruby_base.specs.declared.memory.NoMemory.{NoMemory}
use Rattle.run_journal.specs.declared.entry.FireNote.{FireNote}
use Rattle.run_journal.specs.declared.entry.StopAt.{StopAt}
use Rattle.slicc_ast.specs.declared.tree.item.Tree.{Tree}
use Rattle.ctl_face.specs.Prelude.{LocalView, SameScan}
use Rattle.acts.specs.Prelude.{Done, IsLeft}
use Rattle.acts.proofs.Left.{left_scan}
use Rattle.body_meaning.specs.Prelude.{Reading, IsRoundOf, Scanned, by_outcome, by_try, ports_tried, run_scan}
use Rattle.body_meaning.specs.declared.frame.RoundEnd.{RoundEnd}
use Rattle.body_meaning.specs.declared.frame.RoundEnd.TheVariants as round
use Rattle.body_meaning.specs.declared.frame.Tried.{Tried}
use Rattle.body_meaning.specs.declared.frame.Tried.TheVariants.{Fires, Waits}
use Rattle.protocol_meaning.specs.Prelude.{scan_by, scan_of, reading_of, StaysIfFired}
use Rattle.protocol_meaning.proofs.Tries.{scan_leaves}

module _ (v w : LocalView) (note : FireNote) where
  abbrev FiresIn : Scanned → Type 0
  FiresIn s = (s.end ≡ round.Fired note) × (s.view ≡ w)

  tried_same : (t : Tried) (u : LocalView) → IsLeft v u → FiresIn (by_try v t u) → SameScan v w
  tried_same (Fires told) u left is = subst (SameScan v) is.1 (left_scan v u left)
  tried_same Waits u left is = absurd (cc is.0)

  ended_same : (b : Bool) (r : Result (Done Tried) StopAt) → ((d : Done Tried) → r ≡ Ok d → IsLeft v d.view)
      → FiresIn (cond b (record { end = round.Full; view = v }) (by_outcome v r)) → SameScan v w
  ended_same true r left is = absurd (cc is.0)
  ended_same false (Err at) left is = absurd (cc is.0)
  ended_same false (Ok d) left is = tried_same d.value d.view (left d refl) is

  scan_same : (o : Option Reading) (limit fired : ℕ) → FiresIn (scan_by o limit fired v) → SameScan v w
  scan_same None limit fired is = absurd (cc is.0)
  scan_same (Some s) limit fired is =
      ended_same (nat_le limit fired) (run_scan (ports_tried s s.machine.in_ports) v)
      (λ d ran. scan_leaves (ports_tried s s.machine.in_ports) v d ran) is

  pub fired_same : (trees : List Tree) (machine limit fired : ℕ) → FiresIn (scan_of trees machine limit fired v) → SameScan v w
  unfolding scan_of
  fired_same trees machine limit fired is = scan_same (reading_of trees machine) limit fired is

round_stays : (trees : List Tree) (machine limit fired : ℕ) (end : RoundEnd) (after before : LocalView) → IsRoundOf (scan_of trees machine limit fired before) (Ok end) after before
    → StaysIfFired end after before
round_stays trees machine limit fired (round.Fired note) after before is = fired_same before after note trees machine limit fired is
round_stays trees machine limit fired round.Idle after before is = tt
round_stays trees machine limit fired round.Full after before is = tt
round_stays trees machine limit fired (round.Stop at) after before is = tt

-- what a scan answers, where there was memory for it
pub rounds_stay : (trees : List Tree) (machine limit fired : ℕ) (before after : LocalView) (answer : Result RoundEnd NoMemory)
    → IsRoundOf (scan_of trees machine limit fired before) answer after before → IfOk answer (λ end. StaysIfFired end after before)
rounds_stay trees machine limit fired before after (Ok end) is = round_stays trees machine limit fired end after before is
rounds_stay trees machine limit fired before after (Err error) is = tt
