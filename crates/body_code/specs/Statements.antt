-- The code of statements. Of an assignment the right side comes before its place. A call that changes its receiver, or the block of a
-- `writeCallback`, finds that place first. What is looked at is closed after its block, and what is made is sent after it, each where a
-- run goes on there. The latency of an `enqueue` inside of another one may read the outer message, which is hidden then: its fields are on
-- the stack before, and in locals after the block. A `trigger` by an expression goes by the event's number.
use Rattle.std.specs.Prelude.{ℕ, zero, suc, ℤ, pos, negsuc, ◌+◌, ◌-◌, ◌==◌, Bool, true, false, not, cond, Option, None, Some, List, [], ◌∷◌, ◌++◌, codes, is_some, length, map, option_and_then, reverse, slice_get, unwrap_or, if◌then◌else◌}
use Rattle.std.specs.List.{enumerate_from}
use Rattle.std.specs.Option.{option_map}
use Rattle.std.specs.Str.{bytes_eq}
use Rattle.slicc_ast.specs.declared.tree.expression.Suffix.{Suffix, Method'}
use Rattle.slicc_ast.specs.declared.tree.expression.Expr.{Expr, Member, Call', items-the_row-Expr, items-the_row-Suffix}
use Rattle.slicc_ast.specs.declared.tree.statement.If.{If, If', Held-If-otherwise, None', Some', Row_of-ElseIf, end_of-ElseIf, more_of-ElseIf}
use Rattle.slicc_ast.specs.declared.tree.statement.Stmt.{Stmt, Declare, Assign, Evaluate, Return, If as IfStmt, Peek', Enqueue', StallAndWait, CheckAllocate, Error, Assert, Print, Row_of-Stmt, end_of-Stmt, more_of-Stmt}
use Rattle.slicc_ast.specs.Prelude.{Postfix', Group', Cast'}
use Rattle.ruby_value.specs.declared.fault.Fault.TheVariants as fault
use Rattle.ruby_value.specs.declared.kind.Kind.{Kind}
use Rattle.ruby_value.specs.declared.kind.Kind.TheVariants as kind
use Rattle.ruby_value.specs.declared.value.Value.{Value}
use Rattle.ruby_value.specs.declared.value.Value.TheVariants as value
use Rattle.ruby_symbols.specs.declared.types.EnumerationSymbol.{EnumerationSymbol}
use Rattle.ruby_symbols.specs.declared.types.FieldSymbol.{FieldSymbol}
use Rattle.ruby_symbols.specs.declared.types.StructureSymbol.{StructureSymbol}
use Rattle.ruby_symbols.specs.Prelude.{function_named}
use Rattle.action_code.specs.declared.instr.Instr.{Instr}
use Rattle.action_code.specs.declared.instr.Instr.TheVariants as instr
use Rattle.body_meaning.specs.Prelude.{Reading, as_member, before_last, changes_receiver, last_of, member_value, message_of, port_named, stall_call, write_callback}
use Rattle.body_code.specs.declared.left.Home.{Home}
use Rattle.body_code.specs.declared.left.Home.TheVariants as home
use Rattle.body_code.specs.declared.numbers.BodyNumbers.{BodyNumbers}
use Rattle.body_code.specs.declared.own.Own.{Own}
use Rattle.body_code.specs.Calls.{value_call}
use Rattle.body_code.specs.Expressions.{arguments_by, kind_written, piece, piece_behind}
use Rattle.body_code.specs.Kinds.{entry_kind, null, tbe_kind}
use Rattle.body_code.specs.Lines.{Line, behind, closed, dropped, ends, followed_by, goes_on, in_block, with_locals, within}
use Rattle.body_code.specs.Locals.{declared, field_kinds, kept_for, scratch_for, with_name}
use Rattle.body_code.specs.Names.{home_of}
use Rattle.body_code.specs.Pieces.{Piece}
use Rattle.body_code.specs.Segments.{Segment, fork, guard, just, nothing, ◌⨾◌}
use Rattle.body_code.specs.Spots.{assigned_at, changed_at, kind_at, spot_of, spot_with}

-- What a body of this sort does where it returns: what it may answer, and how it ends without an answer.
pub record Ending : Type 0 where
  pub result : Option Kind
  pub without : List Instr

-- In an action the locals of what its transition is about: the line's address, and the references to its entry and to its TBE.
abbrev pub entry_slot : ℕ
entry_slot = 1

abbrev pub tbe_slot : ℕ
tbe_slot = 2

-- Messages that are made.

abbrev pub is_zero : ℤ → Bool
is_zero (pos n) = n == 0
is_zero (negsuc n) = false

-- Whether a field of a new message has another value than the default of its kind. Of an enumeration the kind has the member, and of all
-- other types no other value can be named.
abbrev pub is_set : Value → Bool
is_set (value.Bool b) = b
is_set (value.Int n) = not (is_zero n)
is_set (value.Addr a) = not (a == 0)
is_set _ = false

abbrev pub field_set : ℕ × FieldSymbol → List Instr
field_set f = cond (is_set f.1.initial) (instr.Push f.1.initial 0 ∷ instr.Setout f.0 ∷ []) []

abbrev pub fields_set : List (ℕ × FieldSymbol) → List Instr
fields_set [] = []
fields_set (f ∷ fs) = field_set f ++ fields_set fs

abbrev pub opened : ℕ → StructureSymbol → Segment
opened structure t = just (instr.New structure ∷ fields_set (enumerate_from 0 t.fields))

-- The message around an `enqueue`, where its latency can name it.

abbrev pub outer_of : Option Expr → Option Home → Option ℕ
outer_of (Some e) (Some (home.Made structure)) = Some structure
outer_of _ _ = None

abbrev pub each_field : (ℕ → Instr) → Reading → ℕ → List Instr
each_field i s structure = map (λ (f : ℕ × Kind). i f.0) (enumerate_from 0 (field_kinds (slice_get s.symbols.structures structure)))

abbrev pub fields_read : Reading → Option ℕ → Segment
fields_read s None = nothing
fields_read s (Some structure) = just (each_field instr.Outfield s structure)

-- those on the stack are kept in locals, under the name by which the latency finds them
abbrev pub fields_kept : Reading → Option ℕ → Own → Line
fields_kept s None own = goes_on nothing own
fields_kept s (Some structure) own =
    let kept = kept_for s.symbols structure own.locals in
    goes_on (just (reverse (each_field (λ k. instr.Store (kept.slot + k)) s structure)))
    (record { names = with_name (codes "out_msg") (home.Kept structure kept.slot) own.names; locals = kept.locals })

-- Events.

-- one that is written as a member
abbrev pub event_of : Reading → Expr → Option ℕ
event_of s (Member owner member span) = option_map (as_member s s.machine.events) (member_value s owner.text member.text)
event_of s (Group' inner span) = event_of s inner
event_of s (Cast' target mode inner span) = event_of s inner
event_of s _ = None

-- of the event in this local: for so many events, of which the first has this number, and else the first of all
abbrev pub event_chosen : (events slot : ℕ) → (more number : ℕ) → Segment
event_chosen events slot zero number = just (instr.Trigger 0 ∷ [])
event_chosen events slot (suc more) number =
    just (instr.Load slot ∷ instr.Push (value.Enum events number) 0 ∷ instr.Eq ∷ [])
    ⨾ guard (just (instr.Trigger number ∷ [])) (event_chosen events slot more (number + 1))

abbrev pub member_count : Option EnumerationSymbol → ℕ
member_count None = 0
member_count (Some e) = length e.members

-- By a condition on the stack the one branch or, where there is one, the other. The names are those before, and the locals of the first are
-- there in the second.

abbrev pub both : Line → Line → Segment
both a b = if a.goes_on then fork a.code b.code else guard a.code b.code

abbrev pub branched : Line → Option (Own → Line) → Line
branched a None = goes_on (guard a.code nothing) a.own
branched a (Some other) =
    let b = other a.own in record { code = both a b; own = b.own; goes_on = if a.goes_on then true else b.goes_on }

module _ (s : Reading) (n : BodyNumbers) (ending : Ending) where
  abbrev pub value_of : Option Kind → Expr → Own → Piece
  value_of expected e own = piece s n own.names expected e

  abbrev pub arguments_of : List Kind → List Expr → Own → Segment
  arguments_of expected arguments own = arguments_by s n own.names expected arguments

  abbrev pub optional : Option Expr → Own → Segment
  optional None own = nothing
  optional (Some e) own = (value_of None e own).code

  -- Ends.

  abbrev pub returned : Option Expr → Own → Line
  returned None own = ends (just ending.without) own
  returned (Some e) own = ends ((value_of ending.result e own).code ⨾ just (instr.Ret ∷ [])) own

  -- a reference that is written or, where the machine lacks the type, one to nothing
  abbrev pub reference_written : Bool → Kind → Option Expr → Own → Segment
  reference_written true k (Some e) own = (value_of (Some k) e own).code
  reference_written _ k _ own = just (null k ∷ [])

  abbrev pub about_triggered : List Expr → Own → Segment
  about_triggered arguments own =
      optional (slice_get arguments 1) own
      ⨾ reference_written (is_some s.machine.entry) (entry_kind s) (slice_get arguments 2) own
      ⨾ reference_written (is_some s.machine.tbe) (tbe_kind s)
      (slice_get arguments (if is_some s.machine.entry then 3 else 2)) own

  abbrev pub triggered_by : Expr → Segment → Own → Option ℕ → Line
  triggered_by e rest own (Some number) = ends (rest ⨾ just (instr.Trigger number ∷ [])) own
  triggered_by e rest own None =
      let x = scratch_for (kind.Enum s.machine.events 0) own.locals in
      let count = member_count (slice_get s.symbols.enumerations s.machine.events) in
      ends
      ((value_of None e own).code ⨾ just (instr.Store x.slot ∷ []) ⨾ rest
      ⨾ event_chosen s.machine.events x.slot (count - 1) 1)
      (with_locals x.locals own)

  abbrev pub triggered : List Expr → Own → Line
  triggered [] own = goes_on nothing own
  triggered (e ∷ others) own = triggered_by e (about_triggered (e ∷ others) own) own (event_of s e)

  -- Changes.

  abbrev pub assigned : Expr → Expr → Own → Line
  assigned place e own =
      let spot = spot_of s n own.names place in assigned_at spot (value_of (kind_at spot) e own).code own

  abbrev pub operation_on : Option ℕ → Segment
  operation_on None = nothing
  operation_on (Some number) = just (instr.Op number 0 ∷ [])

  abbrev pub changed : Expr → List Suffix → List ℕ → List Expr → Own → Line
  changed inner before text arguments own =
      let spot = spot_with s n own.names inner before in
      changed_at spot
      (arguments_of [] arguments own ⨾ operation_on (option_and_then (λ k. value_call k text) (kind_at spot))) own

  abbrev pub written_back : List Expr → Own → Line
  written_back (address ∷ block ∷ others) own =
      behind (value_of None address own).code
      (changed_at (spot_of s n own.names block)
      (arguments_of [] others own ⨾ just (instr.Op (write_callback (2 + length others)) 0 ∷ [])) own)
  written_back _ own = goes_on nothing own

  -- a reference of the transition's, for what comes later
  abbrev pub reference_set : (slot : ℕ) → Kind → List Expr → Own → Line
  reference_set slot k arguments own = goes_on (arguments_of (k ∷ []) arguments own ⨾ just (instr.Store slot ∷ [])) own

  abbrev pub reference_unset : (slot : ℕ) → Kind → Own → Line
  reference_unset slot k own = goes_on (just (null k ∷ instr.Store slot ∷ [])) own

  -- Expressions as statements.

  abbrev pub built_in_alone : Piece → List ℕ → List Expr → Own → Line
  built_in_alone p text arguments own =
      cond (bytes_eq text (codes "set_cache_entry")) (reference_set entry_slot (entry_kind s) arguments own)
      (cond (bytes_eq text (codes "unset_cache_entry")) (reference_unset entry_slot (entry_kind s) own)
      (cond (bytes_eq text (codes "set_tbe")) (reference_set tbe_slot (tbe_kind s) arguments own)
      (cond (bytes_eq text (codes "unset_tbe")) (reference_unset tbe_slot (tbe_kind s) own)
      (cond (bytes_eq text (codes "trigger")) (triggered arguments own) (dropped p own)))))

  abbrev pub called_alone : Piece → List ℕ → List Expr → Own → Option ℕ → Line
  called_alone p text arguments own (Some function) = dropped p own
  called_alone p text arguments own None = built_in_alone p text arguments own

  abbrev pub last_alone : Expr → List Suffix → Own → Option Suffix → Line
  last_alone inner suffixes own (Some (Method' called shape row arguments span)) =
      cond (changes_receiver called.text) (changed inner (before_last suffixes) called.text (items-the_row-Expr _ row) own)
      (cond (bytes_eq called.text (codes "writeCallback")) (written_back (items-the_row-Expr _ row) own)
      (dropped (piece_behind s n own.names inner suffixes) own))
  last_alone inner suffixes own _ = dropped (piece_behind s n own.names inner suffixes) own

  abbrev pub evaluated : Expr → Own → Line
  evaluated (Group' inner span) own = evaluated inner own
  evaluated (Call' called shape row arguments span) own =
      called_alone (value_of None (Call' called shape row arguments span) own) called.text (items-the_row-Expr _ row) own
      (function_named s.machine called.text)
  evaluated (Postfix' inner count suffixes span) own =
      let all = items-the_row-Suffix _ suffixes in last_alone inner all own (last_of all)
  evaluated e own = dropped (value_of None e own) own

  -- Messages.

  abbrev pub peeked_at : ℕ → Option ℕ → (Own → Line) → Own → Line
  peeked_at buffer None block own = goes_on nothing own
  peeked_at buffer (Some structure) block own =
      behind (just (instr.Peek buffer ∷ []))
      (closed (within (with_name (codes "in_msg") (home.Inner structure) own.names) block own) (instr.Unpeek ∷ []))

  abbrev pub peeked : List ℕ → (Own → Line) → Own → Line
  peeked port block own = on (port_named s.machine port)
    where
      on : Option ℕ → Line
      on None = goes_on nothing own
      on (Some buffer) = peeked_at buffer (message_of s.machine buffer) block own

  abbrev pub latency : Option Expr → Own → Segment
  latency None own = just (instr.Push (value.Int (pos 1)) 0 ∷ [])
  latency (Some e) own = (value_of None e own).code

  -- after the block
  abbrev pub sent : ℕ → Option Expr → Option ℕ → Own → Line
  sent buffer written outer own =
      let kept = fields_kept s outer own in
      goes_on (kept.code ⨾ latency written kept.own ⨾ just (instr.Send buffer ∷ [])) (record kept.own { names = own.names })

  abbrev pub enqueued_with : (buffer structure : ℕ) → Option StructureSymbol → Option Expr → (Own → Line) → Own → Line
  enqueued_with buffer structure None written block own = goes_on nothing own
  enqueued_with buffer structure (Some t) written block own =
      let outer = outer_of written (home_of (codes "out_msg") own.names) in
      followed_by
      (behind (fields_read s outer ⨾ opened structure t)
      (within (with_name (codes "out_msg") (home.Made structure) own.names) block own))
      (sent buffer written outer)

  abbrev pub enqueued_at : ℕ → Option ℕ → Option Expr → (Own → Line) → Own → Line
  enqueued_at buffer None written block own = goes_on nothing own
  enqueued_at buffer (Some structure) written block own =
      enqueued_with buffer structure (slice_get s.symbols.structures structure) written block own

  abbrev pub enqueued : List ℕ → Option Expr → (Own → Line) → Own → Line
  enqueued port written block own = on (port_named s.machine port)
    where
      on : Option ℕ → Line
      on None = goes_on nothing own
      on (Some buffer) = enqueued_at buffer (message_of s.machine buffer) written block own

  abbrev pub stalled : List ℕ → Expr → Own → Line
  stalled port address own = on (port_named s.machine port)
    where
      on : Option ℕ → Line
      on None = goes_on nothing own
      on (Some buffer) = goes_on ((value_of None address own).code ⨾ just (instr.Op stall_call buffer ∷ [])) own

  -- Statements.

  abbrev pub declared_as : List ℕ → Option Kind → Expr → Own → Line
  declared_as text k e own =
      let known = unwrap_or k kind.Bool in
      goes_on ((value_of (Some known) e own).code ⨾ just (instr.Store (length own.locals.kinds) ∷ [])) (declared text known own)

  abbrev pub asserted : Expr → Own → Line
  asserted condition own =
      goes_on
      ((value_of None condition own).code ⨾ just (instr.Not ∷ []) ⨾ guard (just (instr.Stop fault.Assert ∷ [])) nothing) own

  -- by a condition
  abbrev pub chosen : Expr → (Own → Line) → Option (Own → Line) → Own → Line
  chosen condition first other own =
      behind (value_of None condition own).code (branched (in_block first own) other)

  abbrev mutual
    pub line : Stmt → Own → Line
    line (Declare kind local e span) own = declared_as local.text (kind_written s kind.text) e own
    line (Assign place e span) own = assigned place e own
    line (Evaluate e span) own = evaluated e own
    line (Return e span) own = returned e own
    line (IfStmt i) own = if_line i own
    line (Peek' port message attributes shape row block span) own = peeked port.text (row_line row) own
    line (Enqueue' port message written shape row block span) own = enqueued port.text written (row_line row) own
    line (StallAndWait port address span) own = stalled port.text address own
    line (CheckAllocate table span) own = goes_on nothing own
    line (Error text span) own = ends (just (instr.Stop (fault.Error text) ∷ [])) own
    line (Assert condition span) own = asserted condition own
    line (Print which arguments span) own = goes_on nothing own

    pub if_line : If → Own → Line
    if_line (If' condition shape row block count others otherwise span) =
        chosen condition (row_line row) (others_line (otherwise_line otherwise) others)

    pub others_line : {m : _} → Option (Own → Line) → Row_of-ElseIf m → Option (Own → Line)
    others_line otherwise end_of-ElseIf = otherwise
    others_line otherwise (more_of-ElseIf condition shape row block more) =
        Some (chosen condition (row_line row) (others_line otherwise more))

    pub otherwise_line : Held-If-otherwise → Option (Own → Line)
    otherwise_line None' = None
    otherwise_line (Some' shape row block) = Some (in_block (row_line row))

    pub row_line : {m : _} → Row_of-Stmt m → Own → Line
    row_line end_of-Stmt own = goes_on nothing own
    row_line (more_of-Stmt first row) own = followed_by (line first own) (row_line row)

  -- statements as a list
  abbrev pub all_lines : List Stmt → Own → Line
  all_lines [] own = goes_on nothing own
  all_lines (first ∷ others) own = followed_by (line first own) (all_lines others)
