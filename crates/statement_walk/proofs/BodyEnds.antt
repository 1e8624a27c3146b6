-- A body of the machine is done as its statements are, and then its answer is read off how they end.
use Rattle.std.proofs.Common.{◌≡◌, Option, Some, List, [], Result, Ok, Err, subst}
use Rattle.slicc_ast.specs.declared.tree.statement.Block.{Block}
use Rattle.slicc_ast.specs.declared.tree.statement.Stmt.{Stmt}
use Rattle.ctl_face.specs.declared.trouble.Trouble.{Trouble}
use Rattle.ctl_face.specs.Prelude.{LocalView}
use Rattle.acts.specs.declared.body_fault.BodyFault.TheVariants as own
use Rattle.acts.specs.Prelude.{Acting, ends, ◌>>=◌, found, DoesAs, itself}
use Rattle.acts.proofs.Walk.{does_ends_as, found_does, then_does, then_stops}
use Rattle.body_meaning.specs.declared.frame.About.{About}
use Rattle.body_meaning.specs.declared.frame.Bound.{Bound}
use Rattle.body_meaning.specs.declared.frame.Flow.{Flow}
use Rattle.body_meaning.specs.declared.frame.Frame.{Frame}
use Rattle.body_meaning.specs.Prelude.{calls_of, Ended, ended, Reading, all_done}

module _ {A : Type 0} (answer : Ended → A) (s : Reading) (o : Option Block) (b : Block) (about : Option About) (frame : Frame) (names : List Bound) (statements : List Stmt)
    (is : o ≡ Some b) (none : names ≡ []) (same : statements ≡ b.statements) (u v : LocalView) where
  abbrev start : List Bound → Frame
  start ns = record { names = ns; about = about }

  abbrev pub body : Acting A
  body = found own.Reference o >>= (λ (c : Block). all_done s (calls_of s) c.statements (start []) >>= (λ (e : Ended). ends (answer e)))

  of_block : (r : Result Flow Trouble) → DoesAs (ended frame) (all_done s (calls_of s) statements (start names)) r u v → DoesAs (ended frame) (all_done s (calls_of s) b.statements (start [])) r u v
  of_block r done =
      subst (λ (xs : List Stmt). DoesAs (ended frame) (all_done s (calls_of s) xs (start [])) r u v) same
      (subst (λ (ns : List Bound). DoesAs (ended frame) (all_done s (calls_of s) statements (start ns)) r u v) none done)

  pub body_ends : (flow : Flow) (x : A) → x ≡ answer (ended frame flow) → DoesAs (ended frame) (all_done s (calls_of s) statements (start names)) (Ok flow) u v → DoesAs itself body (Ok x) u v
  body_ends flow x gives done =
      found_does itself (λ (c : Block). all_done s (calls_of s) c.statements (start []) >>= (λ (e : Ended). ends (answer e))) o own.Reference b (Ok x) u v is
      (then_does (ended frame) itself (all_done s (calls_of s) b.statements (start [])) (λ (e : Ended). ends (answer e)) flow (Ok x) u v v (of_block (Ok flow) done)
      (does_ends_as itself (answer (ended frame flow)) x v gives))

  pub body_stops : (e : Trouble) → DoesAs (ended frame) (all_done s (calls_of s) statements (start names)) (Err e) u v → DoesAs itself body (Err e) u v
  body_stops e done =
      found_does itself (λ (c : Block). all_done s (calls_of s) c.statements (start []) >>= (λ (e : Ended). ends (answer e))) o own.Reference b (Err e) u v is
      (then_stops (ended frame) itself (all_done s (calls_of s) b.statements (start [])) (λ (e : Ended). ends (answer e)) e u v v (of_block (Err e) done))
