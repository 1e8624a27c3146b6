-- What a statement does in a body, and how it ends. A block's names are gone after it, and so are the messages that `peek` and
-- `enqueue` open. Of an assignment the right side is evaluated before its place. A call that changes its receiver, or the block of
-- a `writeCallback`, finds that place once: first the receiver, then the arguments, then the write. `return` and `trigger` end the
-- body, also from inside of blocks; out of an `enqueue` they send nothing. The latency of an `enqueue` is evaluated after its
-- block, and doesn't see the message. An `enqueue` outside of an action is the fault `reference`, and no accepted protocol has one: what
-- a transition sends is counted in its actions before they are done. `check_allocate` is looked at before the actions of a transition,
-- and does nothing itself.
use Rattle.std.specs.Prelude.{ℕ, pos, ℤ, ◌+◌, Option, None, Some, List, [], ◌∷◌, codes, cond, length}
use Rattle.std.specs.Str.{bytes_eq}
use Rattle.slicc_ast.specs.declared.tree.expression.Suffix.{Suffix, Method'}
use Rattle.slicc_ast.specs.declared.tree.expression.Expr.{Expr, Call', items-the_row-Expr, items-the_row-Suffix}
use Rattle.slicc_ast.specs.declared.tree.statement.If.{If, If', Held-If-otherwise, None', Some', Row_of-ElseIf, end_of-ElseIf, more_of-ElseIf}
use Rattle.slicc_ast.specs.declared.tree.statement.Stmt.{Stmt, Declare, Assign, Evaluate, Return, If as IfStmt, Peek', Enqueue', StallAndWait, CheckAllocate, Error, Assert, Print, Row_of-Stmt, end_of-Stmt, more_of-Stmt}
use Rattle.slicc_ast.specs.Prelude.{Postfix', Group'}
use Rattle.ruby_value.specs.declared.message.Message.{Message}
use Rattle.ruby_value.specs.declared.value.Value.{Value}
use Rattle.ruby_symbols.specs.declared.machine.MachineSymbols.{MachineSymbols}
use Rattle.ruby_symbols.specs.Prelude.{function_named}
use Rattle.acts.specs.declared.body_fault.BodyFault.TheVariants as own
use Rattle.acts.specs.Act as act
use Rattle.acts.specs.Prelude.{Acting, ends, stops, ◌>>=◌, ◌>>◌, act as done, either, found}
use Rattle.built_in_acts.specs.Prelude.{built_in, argument, number, reference, truth}
use Rattle.body_meaning.specs.declared.frame.About.{About}
use Rattle.body_meaning.specs.declared.frame.Bound.{Bound}
use Rattle.body_meaning.specs.declared.frame.Flow.{Flow}
use Rattle.body_meaning.specs.declared.frame.Flow.TheVariants.{WentOn, Returned, Triggered}
use Rattle.body_meaning.specs.declared.frame.Frame.{Frame}
use Rattle.body_meaning.specs.Reading.{Reading}
use Rattle.body_meaning.specs.declared.thing.Thing.{Thing}
use Rattle.body_meaning.specs.declared.thing.Thing.TheVariants as thing
use Rattle.body_meaning.specs.CallNumbers.{changes_receiver, stall_call, write_callback}
use Rattle.body_meaning.specs.Calls.{Calls, named_call, value_call}
use Rattle.body_meaning.specs.Names.{message_of, new_message, port_named}
use Rattle.body_meaning.specs.Expressions.{value, value_behind, values_of}
use Rattle.body_meaning.specs.Frames.{Ended, bind, ended, leave, outermost, with_entry, with_tbe}
use Rattle.body_meaning.specs.Places.{at_place, before_last, last_of, place_of, place_with, with_place}
use Rattle.body_meaning.specs.Things.{value_in}

-- Ends.

abbrev pub went_on : Frame → Acting Ended
went_on frame = ends (ended frame WentOn)

-- of a statement that is an expression: what a `trigger` gives ends the body
abbrev pub flow_of : Thing → Flow
flow_of (thing.Trigger t) = Triggered t
flow_of _ = WentOn

unfoldable pub ends_by : Frame → Acting Thing → Acting Ended
ends_by frame p = p >>= (λ t. ends (ended frame (flow_of t)))

abbrev pub after : (Frame → Acting Ended) → Flow → Frame → Acting Ended
after next WentOn frame = next frame
after next flow frame = ends (ended frame flow)

-- and then the rest, if the body goes on
unfoldable pub goes_on : Acting Ended → (Frame → Acting Ended) → Acting Ended
goes_on p next = p >>= (λ (e : Ended). after next e.flow e.frame)

-- a block, whose names are gone after it
unfoldable pub scoped : (Frame → Acting Ended) → ℕ → Frame → Acting Ended
scoped block n frame = block frame >>= (λ (e : Ended). ends (ended (leave n e.frame) e.flow))

abbrev pub block_in : (Frame → Acting Ended) → Frame → Acting Ended
block_in block frame = scoped block (length frame.names) frame

-- Messages.

-- the front of the buffer of a port, as `in_msg`
unfoldable pub peeked : MachineSymbols → List ℕ → (Frame → Acting Ended) → Frame → Acting Ended
peeked m port block frame =
    found own.Reference (port_named m port)
    >>= (λ buffer. found own.Reference (message_of m buffer)
    >>= (λ structure. done (act.Front buffer)
    >>= (λ (message : Message). scoped block (length frame.names) (bind (codes "in_msg") (thing.Message structure message.fields) frame))))

-- what was made as `out_msg`, which is the first of these names
abbrev pub fields_made : List Bound → List Value
fields_made [] = []
fields_made (b ∷ names) = made b.thing
  where
    made : Thing → List Value
    made (thing.Message structure fields) = fields
    made _ = []

module _ (s : Reading) (calls : Calls) where
  -- the latency that is written, and 1 where none is
  abbrev pub latency : Frame → Option Expr → Acting ℤ
  latency frame None = ends (pos 1)
  latency frame (Some e) = value s calls frame e >>= (λ t. ends (number (value_in t)))

  -- after the block of an `enqueue` that began with n names
  abbrev pub sent : ℕ → Option Expr → ℕ → Flow → Frame → Acting Ended
  sent buffer written n WentOn frame =
      latency (leave n frame) written
      >>= (λ l. done (act.Send buffer l (fields_made (outermost (n + 1) frame.names))) >> went_on (leave n frame))
  sent buffer written n flow frame = ends (ended (leave n frame) flow)

  unfoldable pub enqueued : List ℕ → Option Expr → (Frame → Acting Ended) → Frame → Acting Ended
  enqueued port written block frame =
      found own.Reference frame.about
      >>= (λ (a : About). found own.Reference (port_named s.machine port)
      >>= (λ buffer. found own.Reference (message_of s.machine buffer)
      >>= (λ structure. found own.Reference (new_message s structure)
      >>= (λ t. block (bind (codes "out_msg") t frame)
      >>= (λ (e : Ended). sent buffer written (length frame.names) e.flow e.frame)))))

  unfoldable pub stalled : List ℕ → Expr → Frame → Acting Ended
  stalled port address frame =
      found own.Reference (port_named s.machine port)
      >>= (λ buffer. value s calls frame address
      >>= (λ t. built_in s.kept stall_call buffer (value_in t ∷ []) >> went_on frame))

  -- Changes.

  unfoldable pub assigned : Expr → Expr → Frame → Acting Ended
  assigned place e frame =
      value s calls frame e
      >>= (λ t. place_of s calls frame place >>= (λ p. with_place frame p (value_in t) >>= went_on))

  -- the receiver with what the call makes of it
  unfoldable pub changed : Expr → List Suffix → List ℕ → List Expr → Frame → Acting Ended
  changed inner before text arguments frame =
      place_with s calls frame inner before
      >>= (λ p. at_place frame p
      >>= (λ v. values_of s calls frame arguments
      >>= (λ vs. found own.Reference (value_call v text)
      >>= (λ n. built_in s.kept n 0 (v ∷ vs)
      >>= (λ w. found own.Reference w
      >>= (λ x. with_place frame p x >>= went_on))))))

  -- the block of a `writeCallback` with the byte that is stored
  abbrev pub written_back : List Expr → Frame → Acting Ended
  written_back (address ∷ block ∷ others) frame =
      value s calls frame address
      >>= (λ t. place_of s calls frame block
      >>= (λ p. at_place frame p
      >>= (λ v. values_of s calls frame others
      >>= (λ vs. built_in s.kept (write_callback (2 + length vs)) 0 (value_in t ∷ v ∷ vs)
      >>= (λ w. found own.Reference w
      >>= (λ x. with_place frame p x >>= went_on))))))
  written_back _ frame = stops own.Reference

  -- `set_cache_entry` and its kin, which change the references of the transition for what comes later; a function of the machine
  -- that has such a name hides the call
  abbrev pub about_after : List ℕ → List Value → Option About → Option ℕ → Option (Option About)
  about_after text arguments about (Some function) = None
  about_after text arguments about None =
      cond (bytes_eq text (codes "set_cache_entry")) (Some (with_entry (reference (argument arguments 0)) about))
      (cond (bytes_eq text (codes "unset_cache_entry")) (Some (with_entry None about))
      (cond (bytes_eq text (codes "set_tbe")) (Some (with_tbe (reference (argument arguments 0)) about))
      (cond (bytes_eq text (codes "unset_tbe")) (Some (with_tbe None about)) None)))

  abbrev pub called_or : List ℕ → List Value → Frame → Option (Option About) → Acting Ended
  called_or text arguments frame (Some about) = went_on (record frame { about = about })
  called_or text arguments frame None = ends_by frame (named_call s calls text arguments)

  unfoldable pub called_alone : List ℕ → Frame → List Value → Acting Ended
  called_alone text frame arguments =
      called_or text arguments frame (about_after text arguments frame.about (function_named s.machine text))

  -- Expressions as statements.

  abbrev pub last_alone : Expr → List Suffix → Frame → Option Suffix → Acting Ended
  last_alone inner suffixes frame (Some (Method' called shape row arguments span)) =
      cond (changes_receiver called.text) (changed inner (before_last suffixes) called.text (items-the_row-Expr _ row) frame)
      (cond (bytes_eq called.text (codes "writeCallback")) (written_back (items-the_row-Expr _ row) frame)
      (ends_by frame (value_behind s calls frame inner suffixes)))
  last_alone inner suffixes frame _ = ends_by frame (value_behind s calls frame inner suffixes)

  unfoldable pub behind_alone : Expr → List Suffix → Frame → Acting Ended
  behind_alone inner suffixes frame = last_alone inner suffixes frame (last_of suffixes)

  abbrev pub evaluated : Expr → Frame → Acting Ended
  evaluated (Group' inner span) frame = evaluated inner frame
  evaluated (Call' called shape row arguments span) frame =
      values_of s calls frame (items-the_row-Expr _ row) >>= called_alone called.text frame
  evaluated (Postfix' inner n suffixes span) frame = behind_alone inner (items-the_row-Suffix _ suffixes) frame
  evaluated e frame = ends_by frame (value s calls frame e)

  -- Statements.

  abbrev pub returned : Option Expr → Frame → Acting Ended
  returned None frame = ends (ended frame (Returned thing.Nothing))
  returned (Some e) frame = value s calls frame e >>= (λ t. ends (ended frame (Returned t)))

  -- by a condition
  unfoldable pub chosen : Expr → (Frame → Acting Ended) → (Frame → Acting Ended) → Frame → Acting Ended
  chosen condition first second frame =
      value s calls frame condition >>= (λ t. either (truth (value_in t)) (first frame) (second frame))

  abbrev mutual
    pub exec : Stmt → Frame → Acting Ended
    exec (Declare kind local e span) frame = value s calls frame e >>= (λ t. went_on (bind local.text t frame))
    exec (Assign place e span) frame = assigned place e frame
    exec (Evaluate e span) frame = evaluated e frame
    exec (Return e span) frame = returned e frame
    exec (IfStmt i) frame = if_done i frame
    exec (Peek' port message attributes shape row block span) frame = peeked s.machine port.text (row_done row) frame
    exec (Enqueue' port message written shape row block span) frame = enqueued port.text written (row_done row) frame
    exec (StallAndWait port address span) frame = stalled port.text address frame
    exec (CheckAllocate table span) frame = went_on frame
    exec (Error text span) frame = stops (own.Error text)
    exec (Assert condition span) frame =
        value s calls frame condition >>= (λ t. either (truth (value_in t)) (went_on frame) (stops own.Assert))
    exec (Print which arguments span) frame = went_on frame

    pub if_done : If → Frame → Acting Ended
    if_done (If' condition shape row block n others otherwise span) =
        chosen condition (block_in (row_done row)) (others_done (otherwise_done otherwise) others)

    pub others_done : {m : _} → (Frame → Acting Ended) → Row_of-ElseIf m → Frame → Acting Ended
    others_done otherwise end_of-ElseIf = otherwise
    others_done otherwise (more_of-ElseIf condition shape row block more) =
        chosen condition (block_in (row_done row)) (others_done otherwise more)

    pub otherwise_done : Held-If-otherwise → Frame → Acting Ended
    otherwise_done None' = went_on
    otherwise_done (Some' shape row block) = block_in (row_done row)

    pub row_done : {m : _} → Row_of-Stmt m → Frame → Acting Ended
    row_done end_of-Stmt frame = went_on frame
    row_done (more_of-Stmt first row) frame = goes_on (exec first frame) (row_done row)

  -- a block as a list of statements
  abbrev pub all_done : List Stmt → Frame → Acting Ended
  all_done [] frame = went_on frame
  all_done (first ∷ others) frame = goes_on (exec first frame) (all_done others)
