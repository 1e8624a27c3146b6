-- The result of each operation has the kind that the table of operations gives it. Which call an operation is stands in the table of
-- calls; that the two tables agree, number by number, is computed.
use Rattle.std.proofs.Common.{◌≡◌, ℕ, zero, suc, pos, ◌&&◌, Bool, true, false, Option, None, Some, List, [], ◌∷◌, Result, Ok, Err, nat_lt, slice_get, unwrap_or, refl, subst, ◌∙◌, arith}
use Rattle.std.proofs.lemmas.Bool.{and_parts, lt-ltb}
use Rattle.std.specs.Option.{option_and_then, option_map}
use Rattle.ruby_value.specs.declared.fault.Fault.{Fault}
use Rattle.ruby_value.specs.declared.kind.Kind.{Kind}
use Rattle.ruby_value.specs.declared.kind.Kind.TheVariants as kind
use Rattle.ruby_value.specs.declared.setup.MachineSetup.{MachineSetup}
use Rattle.ruby_value.specs.declared.value.Ref.{Ref}
use Rattle.ruby_value.specs.declared.value.Value.{Value}
use Rattle.ruby_value.specs.declared.value.Value.TheVariants as value
use Rattle.ruby_value.specs.Prelude.{equal_kinds, line_limit}
use Rattle.ctl_face.specs.Prelude.{LocalView, allocate, fields_in, reference_to, table_at}
use Rattle.acts.specs.Act as act
use Rattle.acts.specs.Prelude.{Acting, act as done, changes}
use Rattle.built_in_acts.specs.declared.call.Call.{Call}
use Rattle.built_in_acts.specs.declared.call.Call.TheVariants as call
use Rattle.built_in_acts.specs.declared.call.ControllerCall.{ControllerCall}
use Rattle.built_in_acts.specs.declared.call.ControllerCall.TheVariants as own_call
use Rattle.built_in_acts.specs.declared.call.MachineCall.{MachineCall}
use Rattle.built_in_acts.specs.declared.call.MachineCall.TheVariants as machines
use Rattle.built_in_acts.specs.declared.call.MessageCall.{MessageCall}
use Rattle.built_in_acts.specs.declared.call.MessageCall.TheVariants as message
use Rattle.built_in_acts.specs.declared.call.SetCall.{SetCall}
use Rattle.built_in_acts.specs.declared.call.SetCall.TheVariants as set
use Rattle.built_in_acts.specs.declared.call.TableCall.{TableCall}
use Rattle.built_in_acts.specs.declared.call.TableCall.TheVariants as table
use Rattle.built_in_acts.specs.declared.call.ValueCall.{ValueCall}
use Rattle.built_in_acts.specs.declared.call.ValueCall.TheVariants as plain
use Rattle.built_in_acts.specs.declared.machines.KeptMachines.{KeptMachines}
use Rattle.built_in_acts.specs.Prelude.{argument, built_in, call_at, called, calls, line_named, of_set, of_values, on_controller, on_machines, on_messages, on_table, silent, told}
use Rattle.action_code.specs.declared.operations.Answer.{Answer}
use Rattle.action_code.specs.declared.operations.Answer.TheVariants as answer
use Rattle.action_code.specs.declared.operations.Operation.{Operation}
use Rattle.action_code.specs.declared.operations.Receiver.{Receiver}
use Rattle.action_code.specs.declared.operations.Receiver.TheVariants as receiver
use Rattle.action_code.specs.declared.program.MachineDecl.{MachineDecl}
use Rattle.action_code.specs.declared.program.TableDecl.{TableDecl}
use Rattle.action_code.specs.declared.program.TableSort.{TableSort}
use Rattle.action_code.specs.Prelude.{answered, is_table, kind_of_table, line_answered, operations, serves, tables_of}
use Rattle.code_meaning.specs.Prelude.{is_of_kind}
use Rattle.code_meaning.specs.Answers.{HoldsOfAnswer as Holds, IsAnswer}
use Rattle.code_meaning.proofs.Gives.{Gives, act_gives, any_gives, ends_gives, stops_gives, then_gives, weaker_gives}
use Rattle.code_meaning.proofs.OfKind.{line_there, of_equal, table_entry}

-- The two tables.

answer_of_messages : MessageCall → Answer
answer_of_messages message.IsReady = answer.Value kind.Bool
answer_of_messages _ = answer.Nothing

answer_of_table : TableCall → Answer
answer_of_table table.Lookup = answer.Line
answer_of_table table.IsPresent = answer.Value kind.Bool
answer_of_table table.HasPlace = answer.Value kind.Bool
answer_of_table table.Replaced = answer.Value kind.Addr
answer_of_table table.Allocate = answer.Line
answer_of_table _ = answer.Nothing

answer_of_controller : ControllerCall → Answer
answer_of_controller own_call.WriteCallback = answer.Value kind.Block
answer_of_controller own_call.Cycle = answer.Value kind.Int
answer_of_controller own_call.Me = answer.Value kind.Machine
answer_of_controller _ = answer.Nothing

answer_of_machines : MachineCall → Answer
answer_of_machines machines.Broadcast = answer.Value kind.Dest
answer_of_machines machines.Home = answer.Value kind.Machine
answer_of_machines machines.Index = answer.Value kind.Int
answer_of_machines machines.MachineOf = answer.Value (kind.Enum 0 0)

answer_of_set : SetCall → Answer
answer_of_set set.Count = answer.Value kind.Int
answer_of_set set.Contains = answer.Value kind.Bool
answer_of_set set.IsEmpty = answer.Value kind.Bool
answer_of_set _ = answer.Value kind.Dest

answer_of_values : ValueCall → Answer
answer_of_values plain.HasLine = answer.Value kind.Bool
answer_of_values plain.ClearBlock = answer.Value kind.Block
answer_of_values plain.Number = answer.Value kind.Int
answer_of_values plain.LineAddress = answer.Value kind.Addr
answer_of_values plain.Nothing = answer.Nothing

answer_of : Call → Answer
answer_of (call.Message c) = answer_of_messages c
answer_of (call.Table c) = answer_of_table c
answer_of (call.Controller c) = answer_of_controller c
answer_of (call.Machines c) = answer_of_machines c
answer_of (call.Set c) = answer_of_set c
answer_of (call.Value c) = answer_of_values c
answer_of call.NotServed = answer.Nothing

same_answer : Answer → Answer → Bool
same_answer answer.Nothing answer.Nothing = true
same_answer (answer.Value k) (answer.Value l) = equal_kinds k l
same_answer answer.Line answer.Line = true
same_answer _ _ = false

is_on_table : Receiver → Bool
is_on_table (receiver.Table s) = true
is_on_table _ = false

-- a line is the answer on a table alone
lines_on_tables : Operation → Answer → Bool
lines_on_tables o answer.Line = is_on_table o.on
lines_on_tables o _ = true

is_unserved : Receiver → Bool
is_unserved receiver.Unserved = true
is_unserved _ = false

agrees : Call → Operation → Bool
agrees call.NotServed o = is_unserved o.on
agrees c o = same_answer (answer_of c) o.answer && lines_on_tables o o.answer

all_agree : List Call → List Operation → Bool
all_agree [] [] = true
all_agree (c ∷ cs) (o ∷ os) = agrees c o && all_agree cs os
all_agree _ _ = false

tables_agree : all_agree calls operations ≡ true
unfolding calls operations all_agree agrees is_unserved lines_on_tables is_on_table same_answer answer_of answer_of_values answer_of_set answer_of_machines answer_of_controller answer_of_table answer_of_messages
tables_agree = refl

agree_at : (cs : List Call) (os : List Operation) (n : ℕ) (o : Operation) → all_agree cs os ≡ true → slice_get os n ≡ Some o → agrees (unwrap_or (slice_get cs n) call.NotServed) o ≡ true
unfolding all_agree
agree_at [] [] n o all found = absurd (cc found)
agree_at [] (q ∷ os) n o all found = absurd (cc all)
agree_at (c ∷ cs) [] n o all found = absurd (cc found)
agree_at (c ∷ cs) (q ∷ os) zero o all found = let same : q ≡ o = cc found in subst (λ x. agrees c x ≡ true) same (and_parts (agrees c q) (all_agree cs os) all).0
agree_at (c ∷ cs) (q ∷ os) (suc n) o all found = agree_at cs os n o (and_parts (agrees c q) (all_agree cs os) all).1 found

call_agrees : (n : ℕ) (o : Operation) → slice_get operations n ≡ Some o → agrees (call_at n) o ≡ true
call_agrees n o found = agree_at calls operations n o tables_agree found

-- Calls.

module _ (m : Option MachineDecl) (setup : MachineSetup) where
  -- what is answered is as this says, of a call on the table of this number
  abbrev pub AnswersAs : ℕ → Answer → Option Value → Type 0
  AnswersAs on answer.Nothing None = Unit {0}
  AnswersAs on answer.Nothing (Some v) = ⊥
  AnswersAs on (answer.Value k) None = ⊥
  AnswersAs on (answer.Value k) (Some v) = is_of_kind (tables_of m) k v ≡ true
  AnswersAs on answer.Line None = ⊥
  AnswersAs on answer.Line (Some v) = (t : TableDecl) → slice_get (tables_of m) on ≡ Some t → is_of_kind (tables_of m) (kind_of_table (tables_of m) t) v ≡ true

  abbrev CallGives : ℕ → Answer → Acting (Option Value) → Type 0
  CallGives on a q = Gives setup (AnswersAs on a) q

  silent_gives : {A : Type 0} (on : ℕ) (q : Acting A) → CallGives on answer.Nothing (silent q)
  unfolding silent
  silent_gives on q = then_gives setup (any_gives setup q) (λ x any. ends_gives setup tt)

  told_gives : {A : Type 0} (on : ℕ) (k : Kind) (made : A → Value) (q : Acting A) → ((x : A) → is_of_kind (tables_of m) k (made x) ≡ true) → CallGives on (answer.Value k) (told made q)
  unfolding told
  told_gives on k made q is = then_gives setup (any_gives setup q) (λ x any. ends_gives setup (is x))

  messages_give : (c : MessageCall) (on : ℕ) (arguments : List Value) → CallGives on (answer_of_messages c) (on_messages c on arguments)
  unfolding answer_of_messages
  messages_give message.IsReady on arguments = told_gives on kind.Bool value.Bool (done (act.Ready on)) (λ x. refl)
  messages_give message.Dequeue on arguments = silent_gives on (done (act.Pop on))
  messages_give message.Recycle on arguments = silent_gives on _
  messages_give message.RecycleFor on arguments = silent_gives on _
  messages_give message.Stall on arguments = silent_gives on _
  messages_give message.Wake on arguments = silent_gives on _
  messages_give message.WakeAll on arguments = silent_gives on _

  -- references to lines that are looked up or allocated
  line_is : (on line : ℕ) → nat_lt line line_limit ≡ true → (t : TableDecl) → slice_get (tables_of m) on ≡ Some t → is_of_kind (tables_of m) (kind_of_table (tables_of m) t) (value.Entry (Some (reference_to on line))) ≡ true
  line_is on line is t found = table_entry (tables_of m) t (Some (reference_to on line)) ∙ line_there (tables_of m) t (reference_to on line) found is

  no_line_is : (t : TableDecl) → is_of_kind (tables_of m) (kind_of_table (tables_of m) t) (value.Entry None) ≡ true
  no_line_is t = table_entry (tables_of m) t None

  found_line : {B : Type 0} (on line : ℕ) → nat_lt line line_limit ≡ true → (o : Option B) → (t : TableDecl) → slice_get (tables_of m) on ≡ Some t
      → is_of_kind (tables_of m) (kind_of_table (tables_of m) t) (value.Entry (option_map (λ _. reference_to on line) o)) ≡ true
  found_line on line is None t found = no_line_is t
  found_line on line is (Some x) t found = line_is on line is t found

  named_line : (v : Value) → nat_lt (line_named v) line_limit ≡ true
  named_line v = lt-ltb (line_named v) line_limit (omega arith)

  lookup_gives : (on line : ℕ) → nat_lt line line_limit ≡ true → CallGives on answer.Line (told value.Entry (done (act.Lookup on line)))
  unfolding told
  lookup_gives on line is =
      then_gives setup (act_gives setup (act.Lookup on line) (λ r. (t : TableDecl) → slice_get (tables_of m) on ≡ Some t → is_of_kind (tables_of m) (kind_of_table (tables_of m) t) (value.Entry r) ≡ true)
      (λ v lawful same. found_line on line is (option_and_then (λ t. fields_in t line) (table_at v on))))
      (λ r holds. ends_gives setup holds)

  allocated : (on line : ℕ) → nat_lt line line_limit ≡ true → (want : Result LocalView Fault)
      → Holds (λ (r : Ref). (t : TableDecl) → slice_get (tables_of m) on ≡ Some t → is_of_kind (tables_of m) (kind_of_table (tables_of m) t) (value.Entry (Some r)) ≡ true) (changes (reference_to on line) want)
  allocated on line is (Ok w) = line_is on line is
  allocated on line is (Err f) = tt

  allocate_gives : (on line : ℕ) → nat_lt line line_limit ≡ true → CallGives on answer.Line (told (λ r. value.Entry (Some r)) (done (act.Allocate on line)))
  unfolding told
  allocate_gives on line is =
      then_gives setup (act_gives setup (act.Allocate on line) (λ (r : Ref). (t : TableDecl) → slice_get (tables_of m) on ≡ Some t → is_of_kind (tables_of m) (kind_of_table (tables_of m) t) (value.Entry (Some r)) ≡ true)
      (λ v lawful same. allocated on line is (allocate v on line)))
      (λ r holds. ends_gives setup holds)

  table_gives : (c : TableCall) (on : ℕ) (arguments : List Value) → CallGives on (answer_of_table c) (on_table c on arguments)
  unfolding answer_of_table
  table_gives table.Lookup on arguments = lookup_gives on (line_named (argument arguments 0)) (named_line (argument arguments 0))
  table_gives table.IsPresent on arguments = told_gives on kind.Bool _ (done (act.Lookup on (line_named (argument arguments 0)))) (λ x. refl)
  table_gives table.HasPlace on arguments = told_gives on kind.Bool _ (done (act.Avail on (line_named (argument arguments 0)))) (λ x. refl)
  table_gives table.Replaced on arguments = told_gives on kind.Addr _ (done (act.Probe on (line_named (argument arguments 0)))) (λ x. refl)
  table_gives table.Allocate on arguments = allocate_gives on (line_named (argument arguments 0)) (named_line (argument arguments 0))
  table_gives table.AllocateTbe on arguments = silent_gives on _
  table_gives table.Deallocate on arguments = silent_gives on _
  table_gives table.Use on arguments = silent_gives on _

  controller_gives : (c : ControllerCall) (on : ℕ) (arguments : List Value) → CallGives on (answer_of_controller c) (on_controller c arguments)
  unfolding answer_of_controller
  controller_gives own_call.ReadCallback on arguments = silent_gives on _
  controller_gives own_call.WriteCallback on arguments = told_gives on kind.Block value.Block _ (λ x. refl)
  controller_gives own_call.SetState on arguments = silent_gives on _
  controller_gives own_call.Cycle on arguments = told_gives on kind.Int (λ n. value.Int (pos n)) (done act.Now) (λ x. refl)
  controller_gives own_call.Me on arguments = told_gives on kind.Machine value.Machine (done act.Me) (λ x. refl)

  machines_give : (kept : KeptMachines) (c : MachineCall) (on : ℕ) (arguments : List Value) → CallGives on (answer_of_machines c) (on_machines kept c arguments)
  unfolding answer_of_machines
  machines_give kept machines.Broadcast on arguments = told_gives on kind.Dest _ _ (λ x. refl)
  machines_give kept machines.Home on arguments = told_gives on kind.Machine _ _ (λ x. refl)
  machines_give kept machines.Index on arguments = told_gives on kind.Int _ _ (λ x. refl)
  machines_give kept machines.MachineOf on arguments = told_gives on (kind.Enum 0 0) _ _ (λ x. refl)

  set_is : (c : SetCall) (on : ℕ) (members : List ℕ) (v : Value) → AnswersAs on (answer_of_set c) (Some (of_set c members v))
  unfolding answer_of_set
  set_is set.Add on members v = refl
  set_is set.Remove on members v = refl
  set_is set.ClearSet on members v = refl
  set_is set.Count on members v = refl
  set_is set.Contains on members v = refl
  set_is set.IsEmpty on members v = refl
  set_is set.AddAll on members v = refl
  set_is set.RemoveAll on members v = refl

  values_are : (c : ValueCall) (on : ℕ) (arguments : List Value) → AnswersAs on (answer_of_values c) (of_values c arguments)
  unfolding answer_of_values
  values_are plain.HasLine on arguments = refl
  values_are plain.ClearBlock on arguments = refl
  values_are plain.Number on arguments = refl
  values_are plain.LineAddress on arguments = refl
  values_are plain.Nothing on arguments = tt

  call_gives : (kept : KeptMachines) (c : Call) (on : ℕ) (arguments : List Value) → CallGives on (answer_of c) (called kept c on arguments)
  unfolding answer_of
  call_gives kept (call.Message c) on arguments = messages_give c on arguments
  call_gives kept (call.Table c) on arguments = table_gives c on arguments
  call_gives kept (call.Controller c) on arguments = controller_gives c on arguments
  call_gives kept (call.Machines c) on arguments = machines_give kept c on arguments
  call_gives kept (call.Set c) on arguments = ends_gives setup (set_is c on _ _)
  call_gives kept (call.Value c) on arguments = ends_gives setup (values_are c on arguments)
  call_gives kept call.NotServed on arguments = stops_gives setup

  -- Operations.

  -- what is answered is nothing, or a value of this kind
  abbrev pub Answered : Option Kind → Option Value → Type 0
  Answered o v = IsAnswer (tables_of m) o v

  line_from : (on : ℕ) (s : TableSort) (v : Option Value) (o : Option TableDecl) → slice_get (tables_of m) on ≡ o → is_table s o ≡ true → AnswersAs on answer.Line v → Answered (line_answered (tables_of m) o) v
  line_from on s v None found served as_call = absurd (cc served)
  line_from on s None (Some t) found served as_call = absurd as_call
  line_from on s (Some v) (Some t) found served as_call = as_call t found

  line_served : (on : ℕ) (r : Receiver) (v : Option Value) → is_on_table r ≡ true → serves m on r ≡ true → AnswersAs on answer.Line v → Answered (line_answered (tables_of m) (slice_get (tables_of m) on)) v
  unfolding is_on_table
  line_served on (receiver.Table s) v is served as_call = line_from on s v (slice_get (tables_of m) on) refl served as_call
  line_served on receiver.Port v is served as_call = absurd (cc is)
  line_served on receiver.Nothing v is served as_call = absurd (cc is)
  line_served on receiver.States v is served as_call = absurd (cc is)
  line_served on receiver.Unserved v is served as_call = absurd (cc is)

  by_answer : (on : ℕ) (o : Operation) (a b : Answer) (v : Option Value) → same_answer a b ≡ true → lines_on_tables o b ≡ true → serves m on o.on ≡ true → AnswersAs on a v → Answered (answered m on b) v
  unfolding same_answer lines_on_tables
  by_answer on o answer.Nothing answer.Nothing None same lines served as_call = tt
  by_answer on o answer.Nothing answer.Nothing (Some v) same lines served as_call = absurd as_call
  by_answer on o (answer.Value k) (answer.Value l) None same lines served as_call = absurd as_call
  by_answer on o (answer.Value k) (answer.Value l) (Some v) same lines served as_call = of_equal (tables_of m) k l v same as_call
  by_answer on o answer.Line answer.Line v same lines served as_call = line_served on o.on v lines served as_call
  by_answer on o a b v same lines served as_call = absurd (cc same)

  not_served : (on : ℕ) (r : Receiver) → is_unserved r ≡ true → serves m on r ≡ true → ⊥
  unfolding is_unserved
  not_served on receiver.Unserved is served = cc served
  not_served on (receiver.Table s) is served = cc is
  not_served on receiver.Port is served = cc is
  not_served on receiver.Nothing is served = cc is
  not_served on receiver.States is served = cc is

  by_call : (kept : KeptMachines) (c : Call) (on : ℕ) (o : Operation) (arguments : List Value) → (same_answer (answer_of c) o.answer && lines_on_tables o o.answer) ≡ true → serves m on o.on ≡ true
      → Gives setup (Answered (answered m on o.answer)) (called kept c on arguments)
  by_call kept c on o arguments agree served =
      let parts = and_parts (same_answer (answer_of c) o.answer) (lines_on_tables o o.answer) agree in
      weaker_gives setup (call_gives kept c on arguments) (λ v as_call. by_answer on o (answer_of c) o.answer v parts.0 parts.1 served as_call)

  agreed : (kept : KeptMachines) (c : Call) (on : ℕ) (o : Operation) (arguments : List Value) → agrees c o ≡ true → serves m on o.on ≡ true
      → Gives setup (Answered (answered m on o.answer)) (called kept c on arguments)
  unfolding agrees
  agreed kept call.NotServed on o arguments agree served = absurd (not_served on o.on agree served)
  agreed kept c on o arguments agree served = by_call kept c on o arguments agree served

  pub operation_gives : (kept : KeptMachines) (n on : ℕ) (o : Operation) (arguments : List Value) → slice_get operations n ≡ Some o → serves m on o.on ≡ true
      → Gives setup (Answered (answered m on o.answer)) (built_in kept n on arguments)
  unfolding built_in
  operation_gives kept n on o arguments found served = agreed kept (call_at n) on o arguments (call_agrees n o found) served
