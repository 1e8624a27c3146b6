-- The sending of what was made in a block, after the names of the block are gone.
use Rattle.std.proofs.Common.{◌≡◌, ◌+◌, ℕ, ℤ, List, Option, Ok, Err, ap, subst}
use Rattle.slicc_ast.specs.declared.tree.expression.Expr.{Expr}
use Rattle.ruby_value.specs.declared.value.Value.{Value}
use Rattle.ctl_face.specs.declared.trouble.Trouble.{Trouble}
use Rattle.ctl_face.specs.Prelude.{LocalView}
use Rattle.acts.specs.Act as act
use Rattle.acts.specs.Prelude.{act as done, ◌>>◌, DoesAs, itself}
use Rattle.acts.proofs.Walk.{and_does, and_stops, does_ends_as, then_does, then_stops}
use Rattle.body_meaning.specs.declared.frame.Flow.TheVariants.{WentOn}
use Rattle.body_meaning.specs.declared.frame.Frame.{Frame}
use Rattle.body_meaning.specs.Prelude.{Calls, ended, leave, outermost, Reading, fields_made, latency, went_on}
use Rattle.statement_walk.specs.Prelude.{sent_on}

module _ (s : Reading) (calls : Calls) (buffer : ℕ) (written : Option Expr) (n : ℕ) (frame after : Frame) (left : after ≡ leave n frame) (u v w : LocalView) where
  pub no_latency : (e : Trouble) → DoesAs itself (latency s calls after written) (Err e) u v → DoesAs (ended after) (sent_on s calls buffer written n frame) (Err e) u w
  no_latency e first =
      then_stops itself (ended after) (latency s calls (leave n frame) written)
      (λ (l : ℤ). done (act.Send buffer l (fields_made (outermost (n + 1) frame.names))) >> went_on (leave n frame)) e u v w
      (subst (λ (f : Frame). DoesAs itself (latency s calls f written) (Err e) u v) left first)

  module _ (l : ℤ) (fields : List Value) (made : fields ≡ fields_made (outermost (n + 1) frame.names)) (first : DoesAs itself (latency s calls after written) (Ok l) u v) where
    pub not_sent : (e : Trouble) → DoesAs itself (done (act.Send buffer l fields)) (Err e) v w → DoesAs (ended after) (sent_on s calls buffer written n frame) (Err e) u w
    not_sent e second =
        then_does itself (ended after) (latency s calls (leave n frame) written)
        (λ (k : ℤ). done (act.Send buffer k (fields_made (outermost (n + 1) frame.names))) >> went_on (leave n frame)) l (Err e) u v w
        (subst (λ (f : Frame). DoesAs itself (latency s calls f written) (Ok l) u v) left first)
        (and_stops itself (ended after) (done (act.Send buffer l (fields_made (outermost (n + 1) frame.names)))) (went_on (leave n frame)) e v w w
        (subst (λ (xs : List Value). DoesAs itself (done (act.Send buffer l xs)) (Err e) v w) made second))

    pub is_sent : DoesAs itself (done (act.Send buffer l fields)) (Ok tt) v w → DoesAs (ended after) (sent_on s calls buffer written n frame) (Ok WentOn) u w
    is_sent second =
        then_does itself (ended after) (latency s calls (leave n frame) written)
        (λ (k : ℤ). done (act.Send buffer k (fields_made (outermost (n + 1) frame.names))) >> went_on (leave n frame)) l (Ok WentOn) u v w
        (subst (λ (f : Frame). DoesAs itself (latency s calls f written) (Ok l) u v) left first)
        (and_does itself (ended after) (done (act.Send buffer l (fields_made (outermost (n + 1) frame.names)))) (went_on (leave n frame)) tt (Ok WentOn) v w w
        (subst (λ (xs : List Value). DoesAs itself (done (act.Send buffer l xs)) (Ok tt) v w) made second)
        (does_ends_as (ended after) (ended (leave n frame) WentOn) WentOn w (ap (λ (f : Frame). ended f WentOn) left)))
