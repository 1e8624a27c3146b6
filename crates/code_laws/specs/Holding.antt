-- What the code of an expression leaves, against what the expression means: against its type by the rules, and against what it gives as it is
-- done. And what a body has of its own on both sides: the rules' names, those of code, and those of bodies.
use Rattle.std.specs.Prelude.{◌≡◌, ◌⊎◌, ℕ, ◌+◌, Bool, true, false, Option, None, Some, List, ◌∷◌, slice_get, unwrap_or}
use Rattle.ruby_value.specs.declared.kind.Kind.{Kind}
use Rattle.ruby_value.specs.declared.value.Value.{Value}
use Rattle.ruby_value.specs.Prelude.{is_reference}
use Rattle.ruby_symbols.specs.declared.machine.BufferSymbol.{BufferSymbol}
use Rattle.ruby_symbols.specs.declared.machine.TableSort.{TableSort}
use Rattle.ruby_symbols.specs.declared.machine.TableSort.TheVariants as table_sort
use Rattle.ruby_symbols.specs.declared.machine.TableSymbol.{TableSymbol}
use Rattle.slicc_plan.specs.declared.built_in.BuiltInType.{BuiltInType}
use Rattle.slicc_plan.specs.declared.built_in.BuiltInType.TheVariants.{Buffer, Cache, Directory, Sequencer, TbeTable}
use Rattle.slicc_plan.specs.Environment.{Bound, bound_as}
use Rattle.slicc_plan.specs.Meanings.{Meaning, value, no_line, bare_line, new_line, incoming, outgoing, table, in_port, out_port, nothing}
use Rattle.slicc_plan.specs.SymbolsOfMachines.{line_number}
use Rattle.slicc_plan.specs.Tables.{line_structure}
use Rattle.slicc_plan.specs.TypeNumbers.{no_structure, structure_number, value_kind}
use Rattle.slicc_plan.specs.Types.{KnownType}
use Rattle.action_code.specs.Prelude.{takes_from}
use Rattle.built_in_acts.specs.Prelude.{argument}
use Rattle.body_meaning.specs.declared.frame.Frame.{Frame}
use Rattle.body_meaning.specs.declared.thing.Thing.{Thing}
use Rattle.body_meaning.specs.declared.thing.Thing.TheVariants as thing
use Rattle.body_meaning.specs.Prelude.{thing_in, value_in}
use Rattle.code_meaning.specs.Prelude.{Held, are_of_kinds, innermost, is_of_kind, kinds_of}
use Rattle.body_code.specs.declared.left.Home.{Home}
use Rattle.body_code.specs.declared.left.Home.TheVariants as home
use Rattle.body_code.specs.declared.left.Left.{Left}
use Rattle.body_code.specs.declared.left.Left.TheVariants as left
use Rattle.body_code.specs.declared.left.NameAt.{NameAt}
use Rattle.body_code.specs.Prelude.{code_kind, home_of, place_of}
use Rattle.code_laws.specs.Setting.{Setting, tables}

-- Types.

-- tables of this type have this sort
abbrev pub is_sort_of : BuiltInType → TableSort → Bool
is_sort_of Cache table_sort.Cache = true
is_sort_of Directory table_sort.Directory = true
is_sort_of TbeTable (table_sort.Tbe entries) = true
is_sort_of _ _ = false

pub record IsTableLeft (z : Setting) (b : BuiltInType) (l : Left) : Type 0 where
  pub number : ℕ
  pub symbol : TableSymbol
  pub left_is : l ≡ left.Table number
  pub there : slice_get z.s.machine.tables number ≡ Some symbol
  pub sort_is : is_sort_of b symbol.sort ≡ true
  pub structure_is : symbol.structure ≡ unwrap_or (line_number z.trees z.m (line_structure z.m symbol.sort)) no_structure

abbrev pub IsNamedTable : Setting → BuiltInType → Left → Type 0
IsNamedTable z Sequencer l = l ≡ left.Sequencer
IsNamedTable z b l = IsTableLeft z b l

-- a port on a buffer whose messages have this type
pub record IsPortLeft (z : Setting) (t : KnownType) (l : Left) : Type 0 where
  pub number : ℕ
  pub buffer : BufferSymbol
  pub left_is : l ≡ left.Port number
  pub there : slice_get z.s.machine.buffers number ≡ Some buffer
  pub message : buffer.message ≡ structure_number z.trees t

-- one from which messages are taken
pub record IsInPortLeft (z : Setting) (t : KnownType) (l : Left) : Type 0 where
  pub port : IsPortLeft z t l
  pub receives : takes_from (place_of port.buffer.place) ≡ true

pub record IsMessageLeft (z : Setting) (t : KnownType) (l : ℕ → Left) (is : Left) : Type 0 where
  pub number : ℕ
  pub structure : structure_number z.trees t ≡ Some number
  pub left_is : is ≡ l number

pub record IsValueLeft (z : Setting) (t : KnownType) (l : Left) : Type 0 where
  pub kind : Kind
  pub kind_is : value_kind z.trees z.m t ≡ Some kind
  pub left_is : l ≡ left.Value (code_kind z.s.machine kind)

-- a reference, of whatever type
pub record IsReferenceLeft (l : Left) : Type 0 where
  pub kind : Kind
  pub kind_is : is_reference kind ≡ true
  pub left_is : l ≡ left.Value kind

abbrev pub IsLeft : Setting → Meaning → Left → Type 0
IsLeft z (value t) l = IsValueLeft z t l
IsLeft z no_line l = IsReferenceLeft l
IsLeft z bare_line l = IsReferenceLeft l
IsLeft z (incoming t) l = IsMessageLeft z t left.Inner l
IsLeft z (outgoing t) l = IsMessageLeft z t left.Made l ⊎ ((first : ℕ) × IsMessageLeft z t (λ n. left.Kept n first) l)
IsLeft z (table b) l = IsNamedTable z b l
IsLeft z (in_port (Some t)) l = IsInPortLeft z t l
IsLeft z (out_port (Some t)) l = IsPortLeft z t l
IsLeft z nothing l = l ≡ left.Nothing
IsLeft z _ l = ⊥

-- what may be used: all but a buffer by itself, and but what a call gives that answers nothing
abbrev pub is_used : Meaning → Bool
is_used (table Buffer) = false
is_used nothing = false
is_used _ = true

-- `OOD`, and `new`, which have no type of their own
abbrev pub is_ood : Meaning → Bool
is_ood no_line = true
is_ood _ = false

abbrev pub is_new : Meaning → Bool
is_new (new_line made) = true
is_new _ = false

abbrev pub is_untyped : Meaning → Bool
is_untyped no_line = true
is_untyped (new_line made) = true
is_untyped _ = false

-- Answers.

pub record IsValueOf (z : Setting) (k : Kind) (t : Thing) : Type 0 where
  pub value : Value
  pub is : t ≡ thing.Value value
  pub of_kind : is_of_kind (tables z) k value ≡ true

pub record IsMessageOf (z : Setting) (n : ℕ) (fields : List Value) (t : Thing) : Type 0 where
  pub is : t ≡ thing.Message n fields
  pub of_kinds : are_of_kinds (tables z) (kinds_of z.p n) fields ≡ true

-- a message whose fields are kept in locals from this one on
pub record IsKeptOf (z : Setting) (n first : ℕ) (locals : List Value) (t : Thing) : Type 0 where
  pub fields : List Value
  pub is : t ≡ thing.Message n fields
  pub of_kinds : are_of_kinds (tables z) (kinds_of z.p n) fields ≡ true
  pub kept : (k : ℕ) (v : Value) → slice_get fields k ≡ Some v → argument locals (first + k) ≡ v

-- what a body gives where code leaves this, with this held
abbrev pub OfLeft : Setting → Held → Left → Thing → Type 0
OfLeft z h (left.Value k) t = IsValueOf z k t
OfLeft z h (left.Table n) t = t ≡ thing.Table n
OfLeft z h (left.Port b) t = t ≡ thing.Port b
OfLeft z h left.Sequencer t = t ≡ thing.Sequencer
OfLeft z h (left.Inner n) t = IsMessageOf z n (innermost h.inner) t
OfLeft z h (left.Made n) t = IsMessageOf z n (innermost h.made) t
OfLeft z h (left.Kept n first) t = IsKeptOf z n first h.locals t
OfLeft z h left.Nothing t = t ≡ thing.Nothing

-- what is held after the code of an expression that has left this, by what the expression gives
abbrev pub left_on : Left → Held → Thing → Held
left_on (left.Value k) h t = record h { stack = value_in t ∷ h.stack }
left_on l h t = h

-- Names.

abbrev pub left_at : Home → Left
left_at (home.Local slot k) = left.Value k
left_at (home.Inner n) = left.Inner n
left_at (home.Made n) = left.Made n
left_at (home.Kept n first) = left.Kept n first

-- what is in a local, as a thing
abbrev pub IsIn : Held → Home → Thing → Type 0
IsIn h (home.Local slot k) t = t ≡ thing.Value (argument h.locals slot)
IsIn h _ t = Unit {0}

pub record IsAt (z : Setting) (h : Held) (meaning : Meaning) (at : Home) (t : Thing) : Type 0 where
  pub declared : is_untyped meaning ≡ false
  pub typed : IsLeft z meaning (left_at at)
  pub given : OfLeft z h (left_at at) t
  pub read : IsIn h at t

-- of one name, which the body has on all sides or on none
abbrev pub IsOwn : Setting → Held → Option Bound → Option Home → Option Thing → Type 0
IsOwn z h None None None = Unit {0}
IsOwn z h (Some b) (Some at) (Some t) = IsAt z h b.meaning at t
IsOwn z h _ _ _ = ⊥

-- of the names of the rules, of code and of the body
pub record Holds (z : Setting) (bound : List Bound) (names : List NameAt) (frame : Frame) (h : Held) : Type 0 where
  pub each : (text : List ℕ) → IsOwn z h (bound_as text bound) (home_of text names) (thing_in z.s frame text)
