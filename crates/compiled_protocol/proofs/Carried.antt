-- What bodies as code are to what the text says, of one machine: what is known of it where parts serve a protocol.
use Rattle.std.proofs.Common.{◌≡◌, ◌∙◌, ◌==◌, ◌+◌, ◌<◌, ◌^◌, ℕ, Bool, true, false, cond, Option, None, Some, List, [], ◌∷◌, All, nat_lt, slice_get, refl, sym, ap, arith}
use Rattle.std.specs.Prelude.{IfSome}
use Rattle.std.proofs.lemmas.Bool.Decides.{nat_tests}
use Rattle.slicc_ast.specs.declared.tree.item.Tree.{Tree}
use Rattle.ruby_value.specs.declared.kind.Kind.{Kind}
use Rattle.ruby_value.specs.declared.kind.Kind.TheVariants as kind
use Rattle.ruby_value.specs.declared.value.Value.{Value}
use Rattle.ruby_value.specs.declared.value.Value.TheVariants as value
use Rattle.ruby_symbols.specs.declared.machine.TransitionSymbol.{TransitionSymbol}
use Rattle.ruby_symbols.specs.declared.types.EnumerationSymbol.{EnumerationSymbol}
use Rattle.slicc_plan.specs.declared.row.Row.{Row}
use Rattle.slicc_plan.specs.CountsOfSymbols.{member_count}
use Rattle.slicc_flow.specs.Checks.{count_in}
use Rattle.slicc_flow.specs.Sends.{sends_in}
use Rattle.machine_table.specs.Prelude.{answer, state_count}
use Rattle.action_code.specs.declared.instr.Code.{Code}
use Rattle.action_code.specs.declared.program.Program.{Program}
use Rattle.body_meaning.specs.Prelude.{Reading, as_member, member_among, need, send_count}
use Rattle.action_gen.specs.Prelude.{CarriesMachine, IsBody, TriggersTyped, head_at}
use Rattle.compiled_protocol.specs.Prelude.{MachineCode, member_in}
use Rattle.compiled_protocol.proofs.Found.{IsFirst}

-- it is the machine that this reads
pub record IsRunBy (trees : List Tree) (s : Reading) (c : MachineCode) : Type 0 where
  pub carries : CarriesMachine c.parts.program trees c.number s c.head
  pub start : ℕ
  pub head : c.head ≡ head_at start s
  pub count : state_count c.parts.tables c.number ≡ member_count (slice_get s.symbols.enumerations s.machine.states)
  pub rows : (state event : ℕ) → IsFirst s.machine.transitions state event 0 (answer c.parts.tables c.number state event)
  pub needs : (place : ℕ) (t : TransitionSymbol) → slice_get s.machine.transitions place ≡ Some t → (table : ℕ)
      → count_in c.parts.flow.0 c.number place table ≡ need s t.actions table
  pub sends : (place : ℕ) (t : TransitionSymbol) → slice_get s.machine.transitions place ≡ Some t → (buffer : ℕ)
      → sends_in c.parts.flow.1 c.number place buffer ≡ send_count s t.actions buffer
  pub triggers : All (TriggersTyped c.parts.program c.number s) s.machine.in_ports
  -- the enumeration of its states, where bodies have it
  pub entry : Kind
  pub tbe : Kind
  pub reads : IfSome c.head.reads (IsBody c.parts.program c.number (kind.Addr ∷ entry ∷ tbe ∷ []) (Some (kind.Enum c.states 0)))
  pub asks : IfSome c.head.asks (IsBody c.parts.program c.number (kind.Addr ∷ []) (Some (kind.Enum c.states 0)))
  pub fires : (state event : ℕ) (row : Row) → answer c.parts.tables c.number state event ≡ Some row
      → IsBody c.parts.program c.number (kind.Addr ∷ entry ∷ tbe ∷ kind.Enum c.states 0 ∷ []) None (c.head.first + row.transition)
  -- the numbers of bodies have 32 bits
  pub numbered : (state event : ℕ) (row : Row) → answer c.parts.tables c.number state event ≡ Some row → c.head.first + row.transition < 2 ^ 32

-- Bodies of one number have the same arguments and the same result.
module _ (p : Program) (machine body : ℕ) (first second : List Kind) (one other : Option Kind) (a : IsBody p machine first one body) (b : IsBody p machine second other body) where
  one_code : a.code ≡ b.code
  one_code = let both : Some a.code ≡ Some b.code = sym a.is_there ∙ b.is_there in cc both

  pub same_arguments : first ≡ second
  same_arguments = sym a.arguments_are ∙ ap (λ (c : Code). c.arguments) one_code ∙ b.arguments_are

  pub same_result : one ≡ other
  same_result = sym a.result_is ∙ ap (λ (c : Code). c.result) one_code ∙ b.result_is

-- States.

none_below : (k : ℕ) → nat_lt k 0 ≡ false
none_below k = grind (arith, nat_tests)

among_same : (o : Option EnumerationSymbol) (k : ℕ) → cond (nat_lt k (member_count o)) k 0 ≡ member_among k o
among_same None k = ap (λ b. cond b k 0) (none_below k)
among_same (Some e) k = refl

module _ (s : Reading) (states count : ℕ) (counted : count ≡ member_count (slice_get s.symbols.enumerations states)) where
  enum_same : (number k : ℕ) (b : Bool) → (number == states) ≡ b → member_in states count (value.Enum number k) ≡ as_member s states (value.Enum number k)
  enum_same number k true is =
      let same : number ≡ states = grind (arith, nat_tests) in
      rw (is, counted) (among_same (slice_get s.symbols.enumerations states) k ∙ ap (λ n. member_among k (slice_get s.symbols.enumerations n)) (sym same))
  enum_same number k false is = rw is refl

  pub member_same : (v : Value) → member_in states count v ≡ as_member s states v
  member_same (value.Enum number k) = enum_same number k (number == states) refl
  member_same (value.Bool x) = refl
  member_same (value.Int x) = refl
  member_same (value.Addr x) = refl
  member_same (value.Machine x) = refl
  member_same (value.Dest x) = refl
  member_same (value.Block x) = refl
  member_same (value.Entry x) = refl
  member_same (value.Tbe x) = refl
