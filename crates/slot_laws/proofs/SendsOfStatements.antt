-- What statements send: in an action no more messages that count for a buffer than their `enqueue` statements, and elsewhere none. That a
-- body is an action's is seen from what its transition is about, which no statement gives or takes away.
use Rattle.std.proofs.Common.{◌≡◌, ◌≤◌, ◌+◌, ◌∙◌, ◌&&◌, ℕ, Bool, true, cond, List, [], ◌∷◌, ◌++◌, IfSome, Option, None, Some, is_some, length, arith, refl, sym, ap, flat_map}
use Rattle.std.specs.Prelude.{codes}
use Rattle.std.specs.List.{count_by}
use Rattle.std.specs.Str.{bytes_eq}
use Rattle.std.proofs.lemmas.Bool.{cond_both}
use Rattle.std.proofs.lemmas.List.Sums.{sum_by-append, sum_by-cons}
use Rattle.slicc_ast.specs.declared.tree.expression.Suffix.{Suffix, Field, Method', Index}
use Rattle.slicc_ast.specs.declared.tree.expression.Expr.{Expr, Number, True, False, Nothing, Variable, Member, Call', New, items-the_row-Expr, items-the_row-Suffix}
use Rattle.slicc_ast.specs.declared.tree.statement.If.{If, If', Held-If-otherwise, None', Some', Row_of-ElseIf, end_of-ElseIf, more_of-ElseIf}
use Rattle.slicc_ast.specs.declared.tree.statement.Stmt.{Stmt, Declare, Assign, Evaluate, Return, If as IfStmt, Peek', Enqueue', StallAndWait, CheckAllocate, Error, Assert, Print, Row_of-Stmt, end_of-Stmt, more_of-Stmt}
use Rattle.slicc_ast.specs.Prelude.{Operation', Not', Negate', Postfix', IsValid', IsInvalid', Cast', Group'}
use Rattle.ruby_value.specs.declared.value.Ref.{Ref}
use Rattle.ruby_value.specs.declared.value.Value.{Value}
use Rattle.ruby_symbols.specs.Prelude.{function_named}
use Rattle.acts.specs.declared.body_fault.BodyFault.TheVariants as own
use Rattle.acts.specs.Act as act
use Rattle.acts.specs.Prelude.{Act, Acting, ◌>>=◌, found}
use Rattle.built_in_acts.specs.Prelude.{built_in, argument, reference, truth}
use Rattle.body_meaning.specs.declared.frame.About.{About}
use Rattle.body_meaning.specs.declared.frame.Flow.{Flow}
use Rattle.body_meaning.specs.declared.frame.Flow.TheVariants.{WentOn, Returned, Triggered}
use Rattle.body_meaning.specs.declared.frame.Frame.{Frame}
use Rattle.body_meaning.specs.declared.frame.Place.{Place}
use Rattle.body_meaning.specs.declared.frame.Place.TheVariants.{Named, Part, Line}
use Rattle.body_meaning.specs.declared.thing.Thing.{Thing}
use Rattle.body_meaning.specs.declared.thing.Thing.TheVariants as thing
use Rattle.body_meaning.specs.Actions.{Ports}
use Rattle.body_meaning.specs.Prelude.{changes_receiver, stall_call, write_callback, Calls, value_call, value, value_behind, Ended, bind, leave, outermost, rebind, thing_bound, message_of, new_message, port_named, before_last, last_of, with_part, with_place, with_entry, with_tbe, Reading, about_after, after, all_done, assigned, behind_alone, block_in, called_alone, called_or, changed, chosen, ends_by, enqueued, evaluated, exec, fields_made, goes_on, if_done, last_alone, latency, otherwise_done, others_done, peeked, returned, row_done, scoped, sent, stalled, went_on, written_back, value_in, if_names, names_in, others_names, otherwise_names, row_names, sends_for, counts_for, is_for_buffer}
use Rattle.slot_laws.specs.Sends.{sent_by}
use Rattle.slot_laws.proofs.Counting.{Most, Quiet, act_most, act_quiet, after_most, cond_most, either_most, ends_most, ends_quiet, found_most, found_quiet, more_most, next_most, stops_most, then_most, then_quiet}
use Rattle.slot_laws.proofs.QuietCalls.{built_in_quiet}
use Rattle.slot_laws.proofs.QuietExpressions.{CallsQuiet, all_values_quiet, at_quiet, behind_quiet, named_quiet, place_quiet, value_quiet, with_quiet}

-- What counts of names.

count_first : (p : List ℕ → Bool) (x : List ℕ) (xs : List (List ℕ)) → count_by p (x ∷ xs) ≡ cond (p x) 1 0 + count_by p xs
count_first p x xs = sum_by-cons (λ y. cond (p y) 1 0) x xs

module _ (s : Reading) (buffer : ℕ) (inside : Bool) where
  abbrev C : Act → ℕ
  C = sent_by s.machine buffer

  -- in an action those of the buffer, and elsewhere none
  abbrev is_counted : List ℕ → Bool
  is_counted port = inside && sends_for s.machine buffer port

  abbrev pub count_of : List (List ℕ) → ℕ
  count_of names = count_by is_counted names

  abbrev of_stmt : Stmt → ℕ
  of_stmt x = count_of (names_in Ports x)

  pub both : (xs ys : List (List ℕ)) → count_of (xs ++ ys) ≡ count_of xs + count_of ys
  both xs ys = sum_by-append (λ y. cond (is_counted y) 1 0) xs ys

  abbrev pub OfFrame : Frame → Type 0
  OfFrame frame = is_some frame.about ≡ inside

  abbrev pub OfEnded : Ended → Type 0
  OfEnded x = OfFrame x.frame

  abbrev pub Ends : ℕ → Acting Ended → Type 0
  Ends n p = Most C n OfEnded p

  abbrev pub Blocks : ℕ → (Frame → Acting Ended) → Type 0
  Blocks n block = (frame : Frame) → OfFrame frame → Ends n (block frame)

  -- Ends.

  went_most : {n : ℕ} → Blocks n went_on
  went_most frame within = ends_most C within

  by_most : (frame : Frame) {p : Acting Thing} → OfFrame frame → Quiet C p → Ends 0 (ends_by frame p)
  unfolding ends_by
  by_most frame within first = after_most C first (λ t. ends_most C within)

  after_ends : (n : ℕ) (next : Frame → Acting Ended) → Blocks n next → (flow : Flow) (frame : Frame) → OfFrame frame → Ends n (after next flow frame)
  after_ends n next most WentOn frame within = most frame within
  after_ends n next most (Returned t) frame within = ends_most C within
  after_ends n next most (Triggered t) frame within = ends_most C within

  goes_on_most : (k l n : ℕ) {p : Acting Ended} (next : Frame → Acting Ended) → k + l ≤ n → Ends k p → Blocks l next → Ends n (goes_on p next)
  unfolding goes_on
  goes_on_most k l n next le first rest = then_most C k l n le first (λ x here. after_ends l next rest x.flow x.frame here)

  scoped_most : (n : ℕ) (block : Frame → Acting Ended) → Blocks n block → (k : ℕ) (frame : Frame) → OfFrame frame → Ends n (scoped block k frame)
  unfolding scoped
  scoped_most n block most k frame within = then_most C n 0 n (omega arith) (most frame within) (λ x here. ends_most C here)

  block_most : (n : ℕ) (block : Frame → Acting Ended) → Blocks n block → Blocks n (block_in block)
  block_most n block most frame within = scoped_most n block most (length frame.names) frame within

  peeked_most : (n : ℕ) (port : List ℕ) (block : Frame → Acting Ended) → Blocks n block → Blocks n (peeked s.machine port block)
  unfolding peeked
  peeked_most n port block most frame within =
      after_most C (found_quiet C _ (port_named s.machine port))
      (λ k. after_most C (found_quiet C _ (message_of s.machine k))
      (λ structure. after_most C (act_quiet C (act.Front k) refl)
      (λ message. scoped_most n block most (length frame.names) (bind (codes "in_msg") (thing.Message structure message.fields) frame) within)))

  -- What a transition is about is there after a statement where it was there before it.

  module _ (about : Option About) where
    abbrev StaysAbout : Option (Option About) → Type 0
    StaysAbout o = IfSome o (λ x. is_some x ≡ is_some about)

    entry_stays : (r : Option Ref) (o : Option About) → is_some (with_entry r o) ≡ is_some o
    entry_stays r None = refl
    entry_stays r (Some a) = refl

    tbe_stays : (r : Option Ref) (o : Option About) → is_some (with_tbe r o) ≡ is_some o
    tbe_stays r None = refl
    tbe_stays r (Some a) = refl

    about_stays : (calls : Calls) (text : List ℕ) (arguments : List Value) (o : Option ℕ) → StaysAbout (about_after s calls text arguments about o)
    about_stays calls text arguments (Some function) = tt
    about_stays calls text arguments None =
        cond_both (bytes_eq text (codes "set_cache_entry")) (Some (with_entry (reference (argument arguments 0)) about))
        (cond (bytes_eq text (codes "unset_cache_entry")) (Some (with_entry None about))
        (cond (bytes_eq text (codes "set_tbe")) (Some (with_tbe (reference (argument arguments 0)) about))
        (cond (bytes_eq text (codes "unset_tbe")) (Some (with_tbe None about)) None))) StaysAbout
        (λ _. entry_stays (reference (argument arguments 0)) about)
        (λ _. cond_both (bytes_eq text (codes "unset_cache_entry")) (Some (with_entry None about))
        (cond (bytes_eq text (codes "set_tbe")) (Some (with_tbe (reference (argument arguments 0)) about))
        (cond (bytes_eq text (codes "unset_tbe")) (Some (with_tbe None about)) None)) StaysAbout
        (λ _. entry_stays None about)
        (λ _. cond_both (bytes_eq text (codes "set_tbe")) (Some (with_tbe (reference (argument arguments 0)) about))
        (cond (bytes_eq text (codes "unset_tbe")) (Some (with_tbe None about)) None) StaysAbout
        (λ _. tbe_stays (reference (argument arguments 0)) about)
        (λ _. cond_both (bytes_eq text (codes "unset_tbe")) (Some (with_tbe None about)) None StaysAbout (λ _. tbe_stays None about) (λ _. tt))))

  module _ (calls : Calls) (quiet : CallsQuiet s buffer calls) where
    gives : (frame : Frame) (e : Expr) → Quiet C (value s calls frame e)
    gives frame e = value_quiet s buffer calls quiet frame e

    -- Sends.

    latency_quiet : (frame : Frame) (o : Option Expr) → Quiet C (latency s calls frame o)
    latency_quiet frame None = ends_quiet C
    latency_quiet frame (Some e) = then_quiet C (gives frame e) (λ t. ends_quiet C)

    sent_most : (to : ℕ) (written : Option Expr) (n : ℕ) (flow : Flow) (frame : Frame) → OfFrame frame
        → Ends (cond (counts_for s.machine buffer to) 1 0) (sent s calls to written n flow frame)
    sent_most to written n WentOn frame within =
        after_most C (latency_quiet (leave n frame) written)
        (λ l. act_most C (act.Send to l (fields_made (outermost (n + 1) frame.names))) (cond (counts_for s.machine buffer to) 1 0) (omega arith) (went_most (leave n frame) within))
    sent_most to written n (Returned t) frame within = ends_most C within
    sent_most to written n (Triggered t) frame within = ends_most C within

    -- the port's own send, in an action
    one_counted : (test : Bool) (o : Option ℕ) (to : ℕ) → test ≡ true → o ≡ Some to
        → cond (counts_for s.machine buffer to) 1 0 ≤ cond (test && is_for_buffer s.machine buffer o) 1 0
    one_counted test o to is named = rw (is, named) (omega arith)

    enqueued_most : (n : ℕ) (port : List ℕ) (written : Option Expr) (block : Frame → Acting Ended) → Blocks n block
        → Blocks (cond (is_counted port) 1 0 + n) (enqueued s calls port written block)
    unfolding enqueued
    enqueued_most n port written block most frame within =
        found_most C _ frame.about
        (λ a there. found_most C _ (port_named s.machine port)
        (λ to named. after_most C (found_quiet C _ (message_of s.machine to))
        (λ structure. after_most C (found_quiet C _ (new_message s structure))
        (λ t. let own = one_counted inside (port_named s.machine port) to (sym within ∙ ap is_some there) named in
        then_most C n (cond (counts_for s.machine buffer to) 1 0) (cond (is_counted port) 1 0 + n) (omega (arith, own))
        (most (bind (codes "out_msg") t frame) within)
        (λ x here. sent_most to written (length frame.names) x.flow x.frame here)))))

    stalled_most : (port : List ℕ) (address : Expr) → Blocks 0 (stalled s calls port address)
    unfolding stalled
    stalled_most port address frame within =
        after_most C (found_quiet C _ (port_named s.machine port))
        (λ k. after_most C (gives frame address)
        (λ t. next_most C (built_in_quiet s.machine buffer s.kept stall_call k (value_in t ∷ [])) (went_most frame within)))

    module _ (frame : Frame) (within : OfFrame frame) where
      rebind_within : (text : List ℕ) (t : Thing) → OfFrame (rebind text t frame)
      rebind_within text t = within

      part_within : (text : List ℕ) (k : ℕ) (v : Value) (o : Option Thing) → OfFrame (with_part text k v frame o)
      part_within text k v None = within
      part_within text k v (Some (thing.Message structure fields)) = within
      part_within text k v (Some (thing.Value x)) = within
      part_within text k v (Some (thing.Table x)) = within
      part_within text k v (Some (thing.Port x)) = within
      part_within text k v (Some thing.Sequencer) = within
      part_within text k v (Some (thing.Trigger x)) = within
      part_within text k v (Some thing.Nothing) = within

      write_most : (p : Place) (v : Value) → Most C 0 OfFrame (with_place frame p v)
      write_most (Named text) v = ends_most C within
      write_most (Part text k) v = ends_most C (part_within text k v (thing_bound text frame.names))
      write_most (Line r k) v = next_most C (act_quiet C (act.Set r k v) refl) (ends_most C within)

      -- Changes.

      kept_most : (p : Place) (v : Value) → Ends 0 (with_place frame p v >>= went_on)
      kept_most p v = then_most C 0 0 0 (omega arith) (write_most p v) (λ f so. went_most f so)

      assigned_most : (place e : Expr) → Ends 0 (assigned s calls place e frame)
      unfolding assigned
      assigned_most place e =
          after_most C (gives frame e)
          (λ t. after_most C (place_quiet s buffer calls quiet frame place) (λ p. kept_most p (value_in t)))

      -- what a call makes of the place that it changes
      written_most : (p : Place) (n : ℕ) (vs : List Value) → Ends 0 (built_in s.kept n 0 vs >>= (λ w. found own.Reference w >>= (λ x. with_place frame p x >>= went_on)))
      written_most p n vs =
          after_most C (built_in_quiet s.machine buffer s.kept n 0 vs) (λ w. after_most C (found_quiet C _ w) (λ x. kept_most p x))

      changed_most : (inner : Expr) (before : List Suffix) (text : List ℕ) (arguments : List Expr) → Ends 0 (changed s calls inner before text arguments frame)
      unfolding changed
      changed_most inner before text arguments =
          after_most C (with_quiet s buffer calls quiet frame inner before)
          (λ p. after_most C (at_quiet s buffer calls quiet frame p)
          (λ v. after_most C (all_values_quiet s buffer calls quiet frame arguments)
          (λ vs. after_most C (found_quiet C _ (value_call v text)) (λ n. written_most p n (v ∷ vs)))))

      back_most : (arguments : List Expr) → Ends 0 (written_back s calls arguments frame)
      back_most [] = stops_most C
      back_most (address ∷ []) = stops_most C
      back_most (address ∷ block ∷ others) =
          after_most C (gives frame address)
          (λ t. after_most C (place_quiet s buffer calls quiet frame block)
          (λ p. after_most C (at_quiet s buffer calls quiet frame p)
          (λ v. after_most C (all_values_quiet s buffer calls quiet frame others)
          (λ vs. written_most p (write_callback (2 + length vs)) (value_in t ∷ v ∷ vs)))))

      called_or_most : (text : List ℕ) (arguments : List Value) (o : Option (Option About)) → StaysAbout frame.about o → Ends 0 (called_or s calls text arguments frame o)
      called_or_most text arguments (Some about) stays = ends_most C (stays ∙ within)
      called_or_most text arguments None stays = by_most frame within (named_quiet s buffer calls quiet text arguments)

      called_most : (text : List ℕ) (arguments : List Value) → Ends 0 (called_alone s calls text frame arguments)
      unfolding called_alone
      called_most text arguments =
          called_or_most text arguments (about_after s calls text arguments frame.about (function_named s.machine text)) (about_stays frame.about calls text arguments (function_named s.machine text))

      -- Expressions as statements.

      behind_most : (inner : Expr) (suffixes : List Suffix) → Ends 0 (ends_by frame (value_behind s calls frame inner suffixes))
      behind_most inner suffixes = by_most frame within (behind_quiet s buffer calls quiet frame inner suffixes)

      last_most : (inner : Expr) (suffixes : List Suffix) (o : Option Suffix) → Ends 0 (last_alone s calls inner suffixes frame o)
      last_most inner suffixes (Some (Method' called shape row written span)) =
          let arguments : List Expr = items-the_row-Expr _ row in
          let change = changed s calls inner (before_last suffixes) called.text arguments frame in
          let back = written_back s calls arguments frame in
          let rest = ends_by frame (value_behind s calls frame inner suffixes) in
          cond_most C (changes_receiver called.text) change (cond (bytes_eq called.text (codes "writeCallback")) back rest)
          (changed_most inner (before_last suffixes) called.text arguments)
          (cond_most C (bytes_eq called.text (codes "writeCallback")) back rest (back_most arguments) (behind_most inner suffixes))
      last_most inner suffixes (Some (Field name span)) = behind_most inner suffixes
      last_most inner suffixes (Some (Index key span)) = behind_most inner suffixes
      last_most inner suffixes None = behind_most inner suffixes

      alone_most : (inner : Expr) (suffixes : List Suffix) → Ends 0 (behind_alone s calls inner suffixes frame)
      unfolding behind_alone
      alone_most inner suffixes = last_most inner suffixes (last_of suffixes)

      plainly : (e : Expr) → Ends 0 (ends_by frame (value s calls frame e))
      plainly e = by_most frame within (gives frame e)

      evaluated_most : (e : Expr) → Ends 0 (evaluated s calls e frame)
      evaluated_most (Group' inner span) = evaluated_most inner
      evaluated_most (Call' called shape row arguments span) =
          after_most C (all_values_quiet s buffer calls quiet frame (items-the_row-Expr _ row)) (λ vs. called_most called.text vs)
      evaluated_most (Postfix' inner n suffixes span) = alone_most inner (items-the_row-Suffix _ suffixes)
      evaluated_most (Variable name) = plainly (Variable name)
      evaluated_most (Operation' first n others span) = plainly (Operation' first n others span)
      evaluated_most (Not' operand span) = plainly (Not' operand span)
      evaluated_most (Negate' operand span) = plainly (Negate' operand span)
      evaluated_most (Number n span) = plainly (Number n span)
      evaluated_most (True span) = plainly (True span)
      evaluated_most (False span) = plainly (False span)
      evaluated_most (Nothing span) = plainly (Nothing span)
      evaluated_most (Member owner text span) = plainly (Member owner text span)
      evaluated_most (New made span) = plainly (New made span)
      evaluated_most (IsValid' inner span) = plainly (IsValid' inner span)
      evaluated_most (IsInvalid' inner span) = plainly (IsInvalid' inner span)
      evaluated_most (Cast' target mode inner span) = plainly (Cast' target mode inner span)

      returned_most : (o : Option Expr) → Ends 0 (returned s calls o frame)
      returned_most None = ends_most C within
      returned_most (Some e) = after_most C (gives frame e) (λ t. ends_most C within)

    chosen_most : (n : ℕ) (condition : Expr) (first second : Frame → Acting Ended) → Blocks n first → Blocks n second → Blocks n (chosen s calls condition first second)
    unfolding chosen
    chosen_most n condition first second one other frame within =
        after_most C (gives frame condition) (λ t. either_most C (truth (value_in t)) (one frame within) (other frame within))

    larger : (k n : ℕ) (block : Frame → Acting Ended) → k ≤ n → Blocks k block → Blocks n block
    larger k n block le most frame within = more_most C n (most frame within) le

    mutual
      exec_most : (x : Stmt) → Blocks (of_stmt x) (exec s calls x)
      exec_most (Declare kind local e span) frame within = after_most C (gives frame e) (λ t. went_most (bind local.text t frame) within)
      exec_most (Assign place e span) frame within = assigned_most frame within place e
      exec_most (Evaluate e span) frame within = evaluated_most frame within e
      exec_most (Return e span) frame within = returned_most frame within e
      exec_most (IfStmt i) frame within = if_most i frame within
      exec_most (Peek' port message attributes shape row block span) frame within = peeked_most (count_of (row_names Ports row)) port.text (row_done s calls row) (row_most row) frame within
      exec_most (Enqueue' port message written shape row block span) frame within =
          let all = count_first is_counted port.text (row_names Ports row) in
          more_most C (count_of (port.text ∷ row_names Ports row)) (enqueued_most (count_of (row_names Ports row)) port.text written (row_done s calls row) (row_most row) frame within) (omega (arith, all))
      exec_most (StallAndWait port address span) frame within = stalled_most port.text address frame within
      exec_most (CheckAllocate table span) frame within = went_most frame within
      exec_most (Error text span) frame within = stops_most C
      exec_most (Assert condition span) frame within =
          after_most C (gives frame condition) (λ t. either_most C (truth (value_in t)) (went_most frame within) (stops_most C))
      exec_most (Print which arguments span) frame within = went_most frame within

      if_most : (i : If) → Blocks (count_of (if_names Ports i)) (if_done s calls i)
      if_most (If' condition shape row block m others otherwise span) frame within =
          let first = row_names Ports row in
          let second = others_names Ports others in
          let third = otherwise_names Ports otherwise in
          let one = both first (second ++ third) in
          let two = both second third in
          let n = count_of (first ++ (second ++ third)) in
          chosen_most n condition (block_in (row_done s calls row)) (others_done s calls (otherwise_done s calls otherwise) others)
          (larger (count_of first) n (block_in (row_done s calls row)) (omega (arith, one)) (block_most (count_of first) (row_done s calls row) (row_most row)))
          (larger (count_of second + count_of third) n (others_done s calls (otherwise_done s calls otherwise) others) (omega (arith, one, two))
          (others_most (count_of third) (otherwise_done s calls otherwise) (otherwise_most otherwise) others))
          frame within

      others_most : {m : _} (k : ℕ) (otherwise : Frame → Acting Ended) → Blocks k otherwise → (row : Row_of-ElseIf m) → Blocks (count_of (others_names Ports row) + k) (others_done s calls otherwise row)
      others_most k otherwise last end_of-ElseIf frame within = more_most C (count_of [] + k) (last frame within) (omega arith)
      others_most k otherwise last (more_of-ElseIf condition shape row block more) frame within =
          let first = row_names Ports row in
          let second = others_names Ports more in
          let all = both first second in
          let n = count_of (first ++ second) + k in
          chosen_most n condition (block_in (row_done s calls row)) (others_done s calls otherwise more)
          (larger (count_of first) n (block_in (row_done s calls row)) (omega (arith, all)) (block_most (count_of first) (row_done s calls row) (row_most row)))
          (larger (count_of second + k) n (others_done s calls otherwise more) (omega (arith, all)) (others_most k otherwise last more))
          frame within

      otherwise_most : (x : Held-If-otherwise) → Blocks (count_of (otherwise_names Ports x)) (otherwise_done s calls x)
      otherwise_most None' frame within = went_most frame within
      otherwise_most (Some' shape row block) frame within = block_most (count_of (row_names Ports row)) (row_done s calls row) (row_most row) frame within

      row_most : {m : _} (row : Row_of-Stmt m) → Blocks (count_of (row_names Ports row)) (row_done s calls row)
      row_most end_of-Stmt frame within = went_most frame within
      row_most (more_of-Stmt first row) frame within =
          let all = both (names_in Ports first) (row_names Ports row) in
          goes_on_most (of_stmt first) (count_of (row_names Ports row)) (count_of (names_in Ports first ++ row_names Ports row)) (row_done s calls row) (omega (arith, all)) (exec_most first frame within) (row_most row)

    pub all_most : (xs : List Stmt) → Blocks (count_of (flat_map (names_in Ports) xs)) (all_done s calls xs)
    all_most [] frame within = went_most frame within
    all_most (x ∷ xs) frame within =
        let all = both (names_in Ports x) (flat_map (names_in Ports) xs) in
        goes_on_most (of_stmt x) (count_of (flat_map (names_in Ports) xs)) (count_of (names_in Ports x ++ flat_map (names_in Ports) xs)) (all_done s calls xs) (omega (arith, all)) (exec_most x frame within) (all_most xs)
