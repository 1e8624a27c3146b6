-- Going through statements, and through the arms of an `if`, one after another.
use Rattle.std.proofs.Common.{◌≡◌, ◌<◌, ◌≤◌, ◌+◌, ◌∙◌, ℕ, true, false, List, ◌∷◌, Result, Ok, Err, drop, get_or, length, refl, sym, ap, subst}
use Rattle.std.proofs.lemmas.List.{drop_all, drop_more}
use Rattle.ctl_face.specs.declared.trouble.Trouble.{Trouble}
use Rattle.ctl_face.specs.Prelude.{LocalView}
use Rattle.slicc_ast.specs.declared.tree.expression.Expr.{Expr}
use Rattle.slicc_ast.specs.declared.tree.statement.ElseIf.{ElseIf}
use Rattle.slicc_ast.specs.declared.tree.statement.If.{If, out-If}
use Rattle.slicc_ast.specs.declared.tree.statement.Stmt.{Stmt}
use Rattle.acts.specs.Prelude.{Acting, either, DoesAs, itself}
use Rattle.acts.proofs.Walk.{does_ends_as, false_does, then_does, then_stops, true_does}
use Rattle.built_in_acts.specs.Prelude.{truth}
use Rattle.body_meaning.specs.declared.frame.Flow.{Flow}
use Rattle.body_meaning.specs.declared.frame.Flow.TheVariants.{WentOn, Returned, Triggered}
use Rattle.body_meaning.specs.declared.frame.Frame.{Frame}
use Rattle.body_meaning.specs.declared.thing.Thing.{Thing}
use Rattle.body_meaning.specs.declared.thing.Trigger.{Trigger}
use Rattle.body_meaning.specs.Prelude.{Calls, value, Ended, ended, Reading, after, all_done, block_in, chosen, exec, goes_on, if_done, value_in}
use Rattle.statement_walk.specs.Prelude.{others_of, others_of_if, otherwise_of}
use Rattle.statement_walk.proofs.Rows.{Doing, arms, if_is}

-- One statement after another.

module _ (now later : Frame) (p : Acting Ended) (next : Frame → Acting Ended) where
  pub goes_on_does : (f : Frame) (result : Result Flow Trouble) (v u w : LocalView) → DoesAs (ended later) p (Ok WentOn) v u → DoesAs (ended f) (next later) result u w → DoesAs (ended f) (goes_on p next) result v w
  unfolding goes_on
  goes_on_does f result v u w first rest = then_does (ended later) (ended f) p (λ (e : Ended). after next e.flow e.frame) WentOn result v u w first rest

  pub goes_on_returned : (t : Thing) (v u : LocalView) → DoesAs (ended later) p (Ok (Returned t)) v u → DoesAs (ended later) (goes_on p next) (Ok (Returned t)) v u
  unfolding goes_on
  goes_on_returned t v u first =
      then_does (ended later) (ended later) p (λ (e : Ended). after next e.flow e.frame) (Returned t) (Ok (Returned t)) v u u first
      (does_ends_as (ended later) (ended later (Returned t)) (Returned t) u refl)

  pub goes_on_triggered : (t : Trigger) (v u : LocalView) → DoesAs (ended later) p (Ok (Triggered t)) v u → DoesAs (ended later) (goes_on p next) (Ok (Triggered t)) v u
  unfolding goes_on
  goes_on_triggered t v u first =
      then_does (ended later) (ended later) p (λ (e : Ended). after next e.flow e.frame) (Triggered t) (Ok (Triggered t)) v u u first
      (does_ends_as (ended later) (ended later (Triggered t)) (Triggered t) u refl)

  pub goes_on_stops : (f : Frame) (e : Trouble) (v u w : LocalView) → DoesAs (ended later) p (Err e) v u → DoesAs (ended f) (goes_on p next) (Err e) v w
  unfolding goes_on
  goes_on_stops f e v u w first = then_stops (ended later) (ended f) p (λ (e : Ended). after next e.flow e.frame) e v u w first

-- what is left does from here what the whole does from the start, whatever comes
abbrev pub Leads : Acting Ended → LocalView → Acting Ended → LocalView → Type 0
Leads rest now whole start =
    (f : Frame) (result : Result Flow Trouble) (w : LocalView) → DoesAs (ended f) rest result now w → DoesAs (ended f) whole result start w

module _ (s : Reading) (calls : Calls) (xs : List Stmt) (i : ℕ) where
  front : (first : Stmt) → i < length xs → first ≡ get_or xs i first → (frame : Frame)
      → all_done s calls (drop i xs) frame ≡ goes_on (exec s calls first frame) (all_done s calls (drop (i + 1) xs))
  front first below is frame =
      ap (λ (ys : List Stmt). all_done s calls ys frame) (drop_more xs i first below ∙ ap (λ (x : Stmt). x ∷ drop (i + 1) xs) (sym is))

  module _ (first : Stmt) (below : i < length xs) (is : first ≡ get_or xs i first) (now later f : Frame) (v u w : LocalView) where
    pub all_goes_on : (result : Result Flow Trouble) → DoesAs (ended later) (exec s calls first now) (Ok WentOn) v u → DoesAs (ended f) (all_done s calls (drop (i + 1) xs) later) result u w
        → DoesAs (ended f) (all_done s calls (drop i xs) now) result v w
    all_goes_on result done rest =
        subst (λ (p : Acting Ended). DoesAs (ended f) p result v w) (sym (front first below is now))
        (goes_on_does now later (exec s calls first now) (all_done s calls (drop (i + 1) xs)) f result v u w done rest)

    pub all_stops : (e : Trouble) → DoesAs (ended later) (exec s calls first now) (Err e) v u → DoesAs (ended f) (all_done s calls (drop i xs) now) (Err e) v w
    all_stops e done =
        subst (λ (p : Acting Ended). DoesAs (ended f) p (Err e) v w) (sym (front first below is now))
        (goes_on_stops now later (exec s calls first now) (all_done s calls (drop (i + 1) xs)) f e v u w done)

    pub all_returned : (t : Thing) → DoesAs (ended later) (exec s calls first now) (Ok (Returned t)) v u → DoesAs (ended later) (all_done s calls (drop i xs) now) (Ok (Returned t)) v u
    all_returned t done =
        subst (λ (p : Acting Ended). DoesAs (ended later) p (Ok (Returned t)) v u) (sym (front first below is now))
        (goes_on_returned now later (exec s calls first now) (all_done s calls (drop (i + 1) xs)) t v u done)

    pub all_triggered : (t : Trigger) → DoesAs (ended later) (exec s calls first now) (Ok (Triggered t)) v u → DoesAs (ended later) (all_done s calls (drop i xs) now) (Ok (Triggered t)) v u
    all_triggered t done =
        subst (λ (p : Acting Ended). DoesAs (ended later) p (Ok (Triggered t)) v u) (sym (front first below is now))
        (goes_on_triggered now later (exec s calls first now) (all_done s calls (drop (i + 1) xs)) t v u done)

  pub all_ends : length xs ≤ i → (frame : Frame) (v : LocalView) → DoesAs (ended frame) (all_done s calls (drop i xs) frame) (Ok WentOn) v v
  all_ends past frame v =
      subst (λ (p : Acting Ended). DoesAs (ended frame) p (Ok WentOn) v v) (sym (ap (λ (ys : List Stmt). all_done s calls ys frame) (drop_all i xs past)))
      (does_ends_as (ended frame) (ended frame WentOn) WentOn v refl)

-- One condition after another.

module _ (s : Reading) (calls : Calls) (condition : Expr) (first second : Frame → Acting Ended) (frame f : Frame) (v u w : LocalView) where
  pub chosen_first : (t : Thing) (result : Result Flow Trouble) → DoesAs itself (value s calls frame condition) (Ok t) v u → truth (value_in t) ≡ true → DoesAs (ended f) (first frame) result u w
      → DoesAs (ended f) (chosen s calls condition first second frame) result v w
  unfolding chosen
  chosen_first t result done is rest =
      then_does itself (ended f) (value s calls frame condition) (λ t. either (truth (value_in t)) (first frame) (second frame)) t result v u w done
      (true_does (ended f) (truth (value_in t)) (first frame) (second frame) result u w is rest)

  pub chosen_second : (t : Thing) (result : Result Flow Trouble) → DoesAs itself (value s calls frame condition) (Ok t) v u → truth (value_in t) ≡ false → DoesAs (ended f) (second frame) result u w
      → DoesAs (ended f) (chosen s calls condition first second frame) result v w
  unfolding chosen
  chosen_second t result done is rest =
      then_does itself (ended f) (value s calls frame condition) (λ t. either (truth (value_in t)) (first frame) (second frame)) t result v u w done
      (false_does (ended f) (truth (value_in t)) (first frame) (second frame) result u w is rest)

  pub chosen_stops : (e : Trouble) → DoesAs itself (value s calls frame condition) (Err e) v u → DoesAs (ended f) (chosen s calls condition first second frame) (Err e) v w
  unfolding chosen
  chosen_stops e done =
      then_stops itself (ended f) (value s calls frame condition) (λ t. either (truth (value_in t)) (first frame) (second frame)) e v u w done

module _ (s : Reading) (calls : Calls) (otherwise : Frame → Acting Ended) (xs : List ElseIf) (i : ℕ) where
  arm : (e : ElseIf) → i < length xs → e ≡ get_or xs i e → (frame : Frame)
      → others_of s calls otherwise (drop i xs) frame ≡ chosen s calls e.condition (block_in (all_done s calls e.then.statements)) (others_of s calls otherwise (drop (i + 1) xs)) frame
  arm e below is frame =
      ap (λ (ys : List ElseIf). others_of s calls otherwise ys frame) (drop_more xs i e below ∙ ap (λ (x : ElseIf). x ∷ drop (i + 1) xs) (sym is))

  module _ (e : ElseIf) (below : i < length xs) (is : e ≡ get_or xs i e) (frame f : Frame) (v u w : LocalView) where
    pub arm_chosen : (t : Thing) (result : Result Flow Trouble) → DoesAs itself (value s calls frame e.condition) (Ok t) v u → truth (value_in t) ≡ true
        → DoesAs (ended f) (block_in (all_done s calls e.then.statements) frame) result u w → DoesAs (ended f) (others_of s calls otherwise (drop i xs) frame) result v w
    arm_chosen t result done so rest =
        subst (λ (p : Acting Ended). DoesAs (ended f) p result v w) (sym (arm e below is frame))
        (chosen_first s calls e.condition (block_in (all_done s calls e.then.statements)) (others_of s calls otherwise (drop (i + 1) xs)) frame f v u w t result done so rest)

    pub arm_passed : (t : Thing) (result : Result Flow Trouble) → DoesAs itself (value s calls frame e.condition) (Ok t) v u → truth (value_in t) ≡ false
        → DoesAs (ended f) (others_of s calls otherwise (drop (i + 1) xs) frame) result u w → DoesAs (ended f) (others_of s calls otherwise (drop i xs) frame) result v w
    arm_passed t result done so rest =
        subst (λ (p : Acting Ended). DoesAs (ended f) p result v w) (sym (arm e below is frame))
        (chosen_second s calls e.condition (block_in (all_done s calls e.then.statements)) (others_of s calls otherwise (drop (i + 1) xs)) frame f v u w t result done so rest)

    pub arm_stops : (x : Trouble) → DoesAs itself (value s calls frame e.condition) (Err x) v u → DoesAs (ended f) (others_of s calls otherwise (drop i xs) frame) (Err x) v w
    arm_stops x done =
        subst (λ (p : Acting Ended). DoesAs (ended f) p (Err x) v w) (sym (arm e below is frame))
        (chosen_stops s calls e.condition (block_in (all_done s calls e.then.statements)) (others_of s calls otherwise (drop (i + 1) xs)) frame f v u w x done)

  pub arms_end : length xs ≤ i → (frame f : Frame) (result : Result Flow Trouble) (v w : LocalView) → DoesAs (ended f) (otherwise frame) result v w
      → DoesAs (ended f) (others_of s calls otherwise (drop i xs) frame) result v w
  arms_end past frame f result v w rest =
      subst (λ (p : Acting Ended). DoesAs (ended f) p result v w) (sym (ap (λ (ys : List ElseIf). others_of s calls otherwise ys frame) (drop_all i xs past))) rest

-- An `if`, by its condition.

module _ (s : Reading) (calls : Calls) (i : If) (frame f : Frame) (v u w : LocalView) where
  whole : (result : Result Flow Trouble)
      → DoesAs (ended f) (arms s calls (out-If i).condition (all_done s calls (out-If i).then.statements) (others_of s calls (otherwise_of s calls (out-If i).otherwise) (out-If i).others) frame) result v w
      → DoesAs (ended f) (if_done s calls i frame) result v w
  whole result does = subst (λ (d : Doing). DoesAs (ended f) (d frame) result v w) (sym (if_is s calls i)) does

  pub if_first : (t : Thing) (result : Result Flow Trouble) (written : List Stmt) → DoesAs itself (value s calls frame (out-If i).condition) (Ok t) v u → truth (value_in t) ≡ true
      → written ≡ (out-If i).then.statements → DoesAs (ended f) (block_in (all_done s calls written) frame) result u w → DoesAs (ended f) (if_done s calls i frame) result v w
  if_first t result written done so is rest =
      whole result
      (chosen_first s calls (out-If i).condition (block_in (all_done s calls (out-If i).then.statements)) (others_of s calls (otherwise_of s calls (out-If i).otherwise) (out-If i).others) frame f v u w t result done so
      (subst (λ (ss : List Stmt). DoesAs (ended f) (block_in (all_done s calls ss) frame) result u w) is rest))

  pub if_second : (t : Thing) (result : Result Flow Trouble) → DoesAs itself (value s calls frame (out-If i).condition) (Ok t) v u → truth (value_in t) ≡ false
      → DoesAs (ended f) (others_of_if s calls i frame) result u w → DoesAs (ended f) (if_done s calls i frame) result v w
  if_second t result done so rest =
      whole result
      (chosen_second s calls (out-If i).condition (block_in (all_done s calls (out-If i).then.statements)) (others_of s calls (otherwise_of s calls (out-If i).otherwise) (out-If i).others) frame f v u w t result done so rest)

  pub if_stops : (e : Trouble) → DoesAs itself (value s calls frame (out-If i).condition) (Err e) v u → DoesAs (ended f) (if_done s calls i frame) (Err e) v w
  if_stops e done =
      whole (Err e)
      (chosen_stops s calls (out-If i).condition (block_in (all_done s calls (out-If i).then.statements)) (others_of s calls (otherwise_of s calls (out-If i).otherwise) (out-If i).others) frame f v u w e done)
