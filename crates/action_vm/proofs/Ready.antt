-- What an instruction that breaks no rule needs is there.
use Rattle.std.proofs.Common.{◌≡◌, ℕ, suc, ◌<◌, ◌≤◌, true, Option, None, Some, List, [], ◌∷◌, ◌++◌, is_some, length, slice_get, refl, ap, ◌∙◌, arith}
use Rattle.std.proofs.lemmas.Bool.{and_parts}
use Rattle.std.proofs.lemmas.Option.{slice_get_within}
use Rattle.std.specs.Option.{option_map}
use Rattle.ruby_value.specs.declared.kind.Kind.{Kind}
use Rattle.ruby_value.specs.declared.kind.Kind.TheVariants as kind
use Rattle.ruby_value.specs.declared.value.Value.{Value}
use Rattle.ruby_value.specs.declared.value.Value.TheVariants as value
use Rattle.ruby_value.specs.Prelude.{has_kind, is_reference}
use Rattle.ctl_face.specs.declared.message_at.MessageAt.{MessageAt}
use Rattle.ctl_face.specs.Prelude.{IsLawful, LocalView}
use Rattle.action_code.specs.declared.instr.Code.{Code}
use Rattle.action_code.specs.declared.instr.Instr.{Instr}
use Rattle.action_code.specs.declared.instr.Instr.TheVariants as instr
use Rattle.action_code.specs.declared.operand.Operand.{Operand}
use Rattle.action_code.specs.declared.operand.Operand.TheVariants as operand
use Rattle.action_code.specs.declared.operations.Operation.{Operation}
use Rattle.action_code.specs.declared.program.BufferDecl.{BufferDecl}
use Rattle.action_code.specs.declared.program.MachineDecl.{MachineDecl}
use Rattle.action_code.specs.declared.program.Program.{Program}
use Rattle.action_code.specs.declared.program.TableDecl.{TableDecl}
use Rattle.action_code.specs.declared.program.TableSort.{TableSort}
use Rattle.action_code.specs.declared.program.TableSort.TheVariants as sort
use Rattle.action_code.specs.declared.shape.Shape.{Shape}
use Rattle.action_code.specs.Prelude.{KeepsRules, Way, accepts, bare, buffer_at, can_send, field_of, is_reference_to, local_kind, machine_of, operands_fit, operation_sign, operations, result_operand, sign, tables_of, wanted}
use Rattle.code_meaning.specs.Prelude.{IsDeclared, IsTyped, are_messages, are_of_kinds, arity, is_of_kind}
use Rattle.code_meaning.proofs.OfKind.{as_long, equal_is}
use Rattle.action_vm.proofs.Serving.{can_get, can_peek, can_send_it, can_set}
use Rattle.code_frame.specs.Prelude.{Any, IsAddress, IsBool, IsInt, IsReference, Over, Rest}
use Rattle.action_vm.specs.Prelude.{Needs, NeedsResult, Own, fields_at, held_of}

-- Values of a sort.

int_is : (v : Value) → has_kind kind.Int v ≡ true → IsInt v
int_is (value.Int n) h = tt
int_is v h = absurd (cc h)

bool_is : (v : Value) → has_kind kind.Bool v ≡ true → IsBool v
bool_is (value.Bool b) h = tt
bool_is v h = absurd (cc h)

address_is : (v : Value) → has_kind kind.Addr v ≡ true → IsAddress v
address_is (value.Addr a) h = tt
address_is v h = absurd (cc h)

reference_is : (tables : List TableDecl) (k : Kind) (v : Value) → is_reference k ≡ true → is_of_kind tables k v ≡ true → IsReference v
reference_is tables (kind.Entry n) (value.Entry r) is h = tt
reference_is tables (kind.Entry n) (value.Tbe r) is h = tt
reference_is tables (kind.Tbe n) (value.Entry r) is h = tt
reference_is tables (kind.Tbe n) (value.Tbe r) is h = tt
reference_is tables (kind.Entry n) v is h = absurd (cc h)
reference_is tables (kind.Tbe n) v is h = absurd (cc h)
reference_is tables k v is h = absurd (cc is)

to_reference : (tables : List TableDecl) (s : TableSort) (k : Kind) → is_reference_to tables s k ≡ true → is_reference k ≡ true
to_reference tables s (kind.Entry n) h = refl
to_reference tables s (kind.Tbe n) h = refl
to_reference tables s k h = absurd (cc h)

module _ (m : Option MachineDecl) (on : ℕ) where
  abbrev tables : List TableDecl
  tables = tables_of m

  -- an operand finds what it accepts
  abbrev Finds : Operand → (Value → Type 0) → Type 0
  Finds o P = (k : Kind) (v : Value) → accepts m on o k ≡ true → is_of_kind tables k v ≡ true → P v

  abbrev FindsAll : List Operand → (List Value → Type 0) → Type 0
  FindsAll os Q = (ks : List Kind) (vs : List Value) → operands_fit m on os ks ≡ true → are_of_kinds tables ks vs ≡ true → Q vs

  nothing_more : FindsAll [] Rest
  nothing_more ks vs fit h = tt

  one_more : (o : Operand) (os : List Operand) (P : Value → Type 0) (Q : List Value → Type 0) → Finds o P → FindsAll os Q → FindsAll (o ∷ os) (Over P Q)
  one_more o os P Q finds rest [] vs fit h = absurd (cc fit)
  one_more o os P Q finds rest (k ∷ ks) [] fit h = absurd (cc h)
  one_more o os P Q finds rest (k ∷ ks) (v ∷ vs) fit h =
      let a = and_parts (accepts m on o k) (operands_fit m on os ks) fit in
      let b = and_parts (is_of_kind tables k v) (are_of_kinds tables ks vs) h in
      (finds k v a.0 b.0, rest ks vs a.1 b.1)

  int_found : Finds (operand.Value kind.Int) IsInt
  int_found k v a h = int_is v (equal_is tables kind.Int k v a ∙ h)

  bool_found : Finds (operand.Value kind.Bool) IsBool
  bool_found k v a h = bool_is v (equal_is tables kind.Bool k v a ∙ h)

  address_found : Finds (operand.Value kind.Addr) IsAddress
  address_found k v a h = address_is v (equal_is tables kind.Addr k v a ∙ h)

  reference_found : Finds operand.Reference IsReference
  reference_found k v a h = reference_is tables k v a h

  entry_found : Finds operand.Entry IsReference
  entry_found k v a h = reference_is tables k v (to_reference tables sort.Cache k a) h

  tbe_found : Finds operand.Tbe IsReference
  tbe_found k v a h = reference_is tables k v (to_reference tables sort.Tbe k a) h

  any_found : (o : Operand) → Finds o Any
  any_found o k v a h = tt

  pub two_ints : FindsAll (operand.Value kind.Int ∷ operand.Value kind.Int ∷ []) (Over IsInt (Over IsInt Rest))
  two_ints = one_more (operand.Value kind.Int) (operand.Value kind.Int ∷ []) IsInt (Over IsInt Rest) int_found (one_more (operand.Value kind.Int) [] IsInt Rest int_found nothing_more)

  pub one_int : FindsAll (operand.Value kind.Int ∷ []) (Over IsInt Rest)
  one_int = one_more (operand.Value kind.Int) [] IsInt Rest int_found nothing_more

  pub one_bool : FindsAll (operand.Value kind.Bool ∷ []) (Over IsBool Rest)
  one_bool = one_more (operand.Value kind.Bool) [] IsBool Rest bool_found nothing_more

  pub one_reference : FindsAll (operand.Reference ∷ []) (Over IsReference Rest)
  one_reference = one_more operand.Reference [] IsReference Rest reference_found nothing_more

  pub any_over_reference : (o : Operand) → FindsAll (o ∷ operand.Reference ∷ []) (Over Any (Over IsReference Rest))
  any_over_reference o = one_more o (operand.Reference ∷ []) Any (Over IsReference Rest) (any_found o) one_reference

  pub one_any : (o : Operand) → FindsAll (o ∷ []) (Over Any Rest)
  one_any o = one_more o [] Any Rest (any_found o) nothing_more

  pub two_any : (o q : Operand) → FindsAll (o ∷ q ∷ []) (Over Any (Over Any Rest))
  two_any o q = one_more o (q ∷ []) Any (Over Any Rest) (any_found o) (one_any q)

  pub for_event : FindsAll (operand.Tbe ∷ operand.Entry ∷ operand.Value kind.Addr ∷ []) (Over IsReference (Over IsReference (Over IsAddress Rest)))
  for_event =
      one_more operand.Tbe (operand.Entry ∷ operand.Value kind.Addr ∷ []) IsReference (Over IsReference (Over IsAddress Rest)) tbe_found
      (one_more operand.Entry (operand.Value kind.Addr ∷ []) IsReference (Over IsAddress Rest) entry_found
      (one_more (operand.Value kind.Addr) [] IsAddress Rest address_found nothing_more))

-- Locals and messages.

local_there : (ks : List Kind) (vs : List Value) (n : ℕ) (o : Option Kind) → slice_get ks n ≡ o → is_some (option_map bare o) ≡ true → length ks ≡ length vs → n < length vs
local_there ks vs n None is known long = absurd (cc known)
local_there ks vs n (Some k) is known long = let lt : n < length ks = slice_get_within ks n k is in omega (arith, lt, long)

message_open : (p : Program) (tables : List TableDecl) (types : List ℕ) (messages : List (List Value)) (field : ℕ) → are_messages p tables types messages ≡ true → is_some (field_of p (slice_get types 0) field) ≡ true → 0 < length messages
message_open p tables [] messages field h known = absurd (cc known)
message_open p tables (n ∷ types) [] field h known = absurd (cc h)
message_open p tables (n ∷ types) (m ∷ messages) field h known = omega arith

made_open : (p : Program) (tables : List TableDecl) (types : List ℕ) (messages : List (List Value)) → are_messages p tables types messages ≡ true → is_some (slice_get types 0) ≡ true → 0 < length messages
made_open p tables [] messages h known = absurd (cc known)
made_open p tables (n ∷ types) [] h known = absurd (cc h)
made_open p tables (n ∷ types) (m ∷ messages) h known = omega arith

places_long : (v : LocalView) (places : List MessageAt) → length (fields_at v places) ≡ length places
places_long v [] = refl
places_long v (at ∷ places) = ap suc (places_long v places)

sent_open : (o : Option ℕ) (b : Option BufferDecl) → can_send o b ≡ true → is_some o ≡ true
sent_open None b h = absurd (cc h)
sent_open (Some n) b h = refl

op_long : (m : Option MachineDecl) (on : ℕ) (o : Option Operation) (n : ℕ) → length (operation_sign m on o).takes ≤ n → arity o ≤ n
op_long m on None n h = h
op_long m on (Some o) n h = h

module _ (p : Program) (body : ℕ) (c : Code) (s : Shape) (f : Own) (v : LocalView) (typed : IsTyped p c s (held_of v f)) where
  local_known : (n : ℕ) → is_some (local_kind c n) ≡ true → n < length f.locals
  local_known n known =
      local_there (c.arguments ++ c.locals) f.locals n (slice_get (c.arguments ++ c.locals) n) refl known (as_long (tables_of (machine_of p c)) (c.arguments ++ c.locals) f.locals typed.locals)

  result_found : (o : Option Kind) → operands_fit (machine_of p c) 0 (result_operand o) s.stack ≡ true → NeedsResult o f.stack
  result_found None fit = tt
  result_found (Some k) fit = one_any (machine_of p c) 0 (operand.Value k) s.stack f.stack fit typed.stack

  pub ready : IsLawful v → IsDeclared p (machine_of p c) v.machine → (at : ℕ) (ways : List Way) (i : Instr) → KeepsRules p c at ways s (sign p body c s i) i → Needs v c i f
  ready lawful declared at ways (instr.Push x n) k = tt
  ready lawful declared at ways (instr.Load n) k = local_known n k.names_what_is_served
  ready lawful declared at ways (instr.Store n) k = (one_any (machine_of p c) 0 (wanted (local_kind c n)) s.stack f.stack k.operands_have_their_kinds typed.stack, local_known n k.names_what_is_served)
  ready lawful declared at ways instr.Add k = two_ints (machine_of p c) 0 s.stack f.stack k.operands_have_their_kinds typed.stack
  ready lawful declared at ways instr.Sub k = two_ints (machine_of p c) 0 s.stack f.stack k.operands_have_their_kinds typed.stack
  ready lawful declared at ways instr.Mul k = two_ints (machine_of p c) 0 s.stack f.stack k.operands_have_their_kinds typed.stack
  ready lawful declared at ways instr.Neg k = one_int (machine_of p c) 0 s.stack f.stack k.operands_have_their_kinds typed.stack
  ready lawful declared at ways instr.Not k = one_bool (machine_of p c) 0 s.stack f.stack k.operands_have_their_kinds typed.stack
  ready lawful declared at ways instr.Lt k = two_ints (machine_of p c) 0 s.stack f.stack k.operands_have_their_kinds typed.stack
  ready lawful declared at ways instr.Le k = two_ints (machine_of p c) 0 s.stack f.stack k.operands_have_their_kinds typed.stack
  ready lawful declared at ways instr.Eq k = two_any (machine_of p c) 0 operand.Anything (wanted (slice_get s.stack 0)) s.stack f.stack k.operands_have_their_kinds typed.stack
  ready lawful declared at ways (instr.Jump to) k = tt
  ready lawful declared at ways (instr.Unless to) k = one_bool (machine_of p c) 0 s.stack f.stack k.operands_have_their_kinds typed.stack
  ready lawful declared at ways (instr.Get field) k = (one_reference (machine_of p c) 0 s.stack f.stack k.operands_have_their_kinds typed.stack, can_get p (machine_of p c) v lawful declared s.stack f.stack field k.operands_have_their_kinds typed.stack k.names_what_is_served)
  ready lawful declared at ways (instr.Set field) k = (any_over_reference (machine_of p c) 0 _ s.stack f.stack k.operands_have_their_kinds typed.stack, can_set p (machine_of p c) v lawful declared s.stack f.stack field k.operands_have_their_kinds typed.stack k.names_what_is_served)
  ready lawful declared at ways (instr.Peek buffer) k = can_peek p (machine_of p c) v lawful declared buffer k.names_what_is_served
  ready lawful declared at ways (instr.Infield field) k =
      let open_there : 0 < length (fields_at v f.inner) = message_open p (tables_of (machine_of p c)) s.inner (fields_at v f.inner) field typed.inner k.names_what_is_served in
      omega (arith, open_there, places_long v f.inner)
  ready lawful declared at ways instr.Unpeek k = tt
  ready lawful declared at ways (instr.New message) k = tt
  ready lawful declared at ways (instr.Outfield field) k = message_open p (tables_of (machine_of p c)) s.made f.made field typed.made k.names_what_is_served
  ready lawful declared at ways (instr.Setout field) k = (one_any (machine_of p c) 0 _ s.stack f.stack k.operands_have_their_kinds typed.stack, message_open p (tables_of (machine_of p c)) s.made f.made field typed.made k.names_what_is_served)
  ready lawful declared at ways (instr.Send buffer) k = (
    one_int (machine_of p c) 0 s.stack f.stack k.operands_have_their_kinds typed.stack,
    made_open p (tables_of (machine_of p c)) s.made f.made typed.made (sent_open (slice_get s.made 0) (buffer_at (machine_of p c) buffer) k.names_what_is_served),
    can_send_it p (machine_of p c) v lawful declared s.made f.made buffer f.stack typed.made k.names_what_is_served,
  )
  ready lawful declared at ways (instr.Op n on) k = op_long (machine_of p c) on (slice_get operations n) (length f.stack) (omega (arith, k.operands_are_there, as_long (tables_of (machine_of p c)) s.stack f.stack typed.stack))
  ready lawful declared at ways (instr.Call n) k = tt
  ready lawful declared at ways (instr.Trigger event) k = for_event (machine_of p c) 0 s.stack f.stack k.operands_have_their_kinds typed.stack
  ready lawful declared at ways (instr.Stop fault) k = tt
  ready lawful declared at ways instr.Ret k = result_found c.result k.operands_have_their_kinds
