-- The names of types, as symbols have them: what is found by a name among the symbols of enumerations and structures has the number of
-- the type that the name stands for, and the kind of its values.
use Rattle.std.proofs.Common.{◌≡◌, ◌∙◌, ◌≤◌, ◌+◌, ◌&&◌, ℕ, zero, suc, Bool, true, false, Option, None, Some, List, [], ◌∷◌, find, flat_map, length, map, not, position, slice_get, length-append, refl, sym, ap, arith, option_and_then, codes}
use Rattle.std.specs.Option.{option_map, option_or}
use Rattle.std.specs.Str.{bytes_eq}
use Rattle.std.proofs.lemmas.Bool.{false_from_ne_true}
use Rattle.ruby_value.specs.declared.kind.Kind.TheVariants as kind
use Rattle.ruby_symbols.specs.declared.types.EnumerationSymbol.{EnumerationSymbol}
use Rattle.ruby_symbols.specs.declared.types.StructureSymbol.{StructureSymbol}
use Rattle.ruby_symbols.specs.Kinds.{kind_of_enumeration}
use Rattle.ruby_symbols.specs.Types.{enumeration_of, is_owner, structure_of}
use Rattle.slicc_ast.specs.declared.tree.declaration.State.{State}
use Rattle.slicc_ast.specs.declared.tree.declaration.Structure.{Structure}
use Rattle.slicc_ast.specs.declared.tree.declaration.Symbol.{Symbol}
use Rattle.slicc_ast.specs.declared.tree.item.Tree.{Tree}
use Rattle.slicc_ast.specs.declared.tree.machine.Machine.{Machine}
use Rattle.slicc_plan.specs.declared.built_in.BuiltInType.{BuiltInType}
use Rattle.slicc_plan.specs.declared.built_in.BuiltInType.TheVariants.{Int, Cycles, Tick, Bool as Boolean, Address, MachineId, MachineType, NetDest, DataBlock, AccessPermission, RequestType, MessageSize, Request, AbstractEntry, Void, Cache, Directory, TbeTable, Sequencer, Buffer}
use Rattle.slicc_plan.specs.AllRules.{IsAccepted}
use Rattle.slicc_plan.specs.Buffers.{is_same_scope}
use Rattle.slicc_plan.specs.BuiltIn.{NamedType, built_in_type, built_in_types}
use Rattle.slicc_plan.specs.Declarations.{Declaration, enumeration, structure, states, Scope, everywhere, within, is_external, is_named, machines_of}
use Rattle.slicc_plan.specs.Limits.{is_counted_structure, is_enumeration}
use Rattle.slicc_plan.specs.SymbolsOf.{symbols_of}
use Rattle.slicc_plan.specs.SymbolsOfTypes.{built_in_symbols, enumeration_symbol, enumeration_symbols, field_symbols, owner, request_symbol, structure_symbol, structure_symbols}
use Rattle.slicc_plan.specs.TypeNumbers.{ScopedDeclaration, declared_enumerations, declared_number, declared_structures, declares, default_found, default_member, is_known_as, made_in, own_default, scoped_declarations, structure_number}
use Rattle.slicc_plan.specs.Types.{KnownType, enumerated, structured, structure_type}
use Rattle.slicc_plan.proofs.Few.{few_types}
use Rattle.slicc_plan.proofs.There.{There, found_passes, there_found}
use Rattle.slicc_plan.proofs.Types.{as_many, each_enumeration, each_structure, made_at}
use Rattle.rules_symbols.proofs.Lists.{every_there, filter_there, find_position, position_append, position_made, position_none, position_there, short_position}
use Rattle.rules_symbols.proofs.Owners.{owned, text_turned, unowned}
use Rattle.rules_symbols.proofs.Types.{text_same}

-- The name of a built-in type.

abbrev pub spelled : BuiltInType → List ℕ
spelled Int = codes "int"
spelled Cycles = codes "Cycles"
spelled Tick = codes "Tick"
spelled Boolean = codes "bool"
spelled Address = codes "Addr"
spelled MachineId = codes "MachineID"
spelled MachineType = codes "MachineType"
spelled NetDest = codes "NetDest"
spelled DataBlock = codes "DataBlock"
spelled AccessPermission = codes "AccessPermission"
spelled RequestType = codes "RubyRequestType"
spelled MessageSize = codes "MessageSizeType"
spelled Request = codes "RubyRequest"
spelled AbstractEntry = codes "AbstractCacheEntry"
spelled Void = codes "void"
spelled Cache = codes "CacheMemory"
spelled Directory = codes "DirectoryMemory"
spelled TbeTable = codes "TBETable"
spelled Sequencer = codes "Sequencer"
spelled Buffer = codes "MessageBuffer"

abbrev is_spelled : NamedType → Bool
is_spelled t = bytes_eq t.name (spelled t.meaning)

pub text_of_built_in : (text : List ℕ) (b : BuiltInType) → built_in_type text ≡ Some b → text ≡ spelled b
text_of_built_in text b is = by (find (λ (t : NamedType). bytes_eq t.name text) built_in_types) refl is
  where
    by : (o : Option NamedType) → find (λ (t : NamedType). bytes_eq t.name text) built_in_types ≡ o → option_map (λ (t : NamedType). t.meaning) o ≡ Some b → text ≡ spelled b
    by None found none = absurd (cc none)
    by (Some t) found some =
        let meaning : t.meaning ≡ b = cc some in
        let named : t.name ≡ text = text_same t.name text (found_passes (λ (u : NamedType). bytes_eq u.name text) built_in_types t found) in
        let written : t.name ≡ spelled t.meaning = text_same t.name (spelled t.meaning) (every_there is_spelled built_in_types t refl (there_found (λ (u : NamedType). bytes_eq u.name text) built_in_types t found)) in
        sym named ∙ written ∙ ap spelled meaning

-- a name that no built-in type has
pub not_spelled : (text : List ℕ) (b : BuiltInType) → built_in_type text ≡ None → built_in_type (spelled b) ≡ Some b → bytes_eq (spelled b) text ≡ false
not_spelled text b none own =
    false_from_ne_true (bytes_eq (spelled b) text)
    (λ is. let same = text_same (spelled b) text is in cc (sym none ∙ ap built_in_type (sym same) ∙ own))

-- What declarations of types make.

pub record MadeEnumeration (trees : List Tree) (d : ScopedDeclaration) : Type 0 where
  pub symbol : EnumerationSymbol
  pub made : enumeration_symbol trees d ≡ symbol ∷ []
  pub machine : symbol.machine ≡ owner trees d.scope
  pub default : symbol.default ≡ own_default d.scope d.declaration
  pub named : (text : List ℕ) → is_named text d.declaration ≡ bytes_eq symbol.name text
  pub alike : (scope : Scope) (text : List ℕ) (members : List (List ℕ)) → (is_same_scope scope d.scope && bytes_eq symbol.name text) ≡ declares (enumerated scope text members) d

pub made_enumeration : (trees : List Tree) (scope : Scope) (d : Declaration) → is_enumeration d ≡ true → MadeEnumeration trees (made_in scope d)
made_enumeration trees scope (enumeration e) is =
    record {
      symbol = record { name = e.name.text; machine = owner trees scope; members = map (λ (s : Symbol). s.name.text) e.members; default = own_default scope (enumeration e) };
      made = refl;
      machine = refl;
      default = refl;
      named = λ text. refl;
      alike = λ other text members. ap (λ v. is_same_scope other scope && v) (text_turned e.name.text text);
    }
made_enumeration trees scope (states e) is =
    record {
      symbol = record { name = e.name.text; machine = owner trees scope; members = map (λ (s : State). s.name.text) e.members; default = own_default scope (states e) };
      made = refl;
      machine = refl;
      default = refl;
      named = λ text. refl;
      alike = λ other text members. ap (λ v. is_same_scope other scope && v) (text_turned e.name.text text);
    }
made_enumeration trees scope _ is = absurd (cc is)

pub record MadeStructure (trees : List Tree) (d : ScopedDeclaration) : Type 0 where
  pub symbol : StructureSymbol
  pub made : structure_symbol trees d ≡ symbol ∷ []
  pub machine : symbol.machine ≡ owner trees d.scope
  pub named : (text : List ℕ) → is_named text d.declaration ≡ bytes_eq symbol.name text
  pub alike : (scope : Scope) (s : Structure) → (is_same_scope scope d.scope && bytes_eq symbol.name s.name.text) ≡ declares (structured scope s) d

pub made_structure : (trees : List Tree) (scope : Scope) (d : Declaration) → is_counted_structure d ≡ true → MadeStructure trees (made_in scope d)
made_structure trees scope (structure u) is =
    record {
      symbol = record { name = u.name.text; machine = owner trees scope; fields = field_symbols trees scope u };
      made = refl;
      machine = refl;
      named = λ text. refl;
      alike = λ other s. ap (λ v. is_same_scope other scope && v) (text_turned u.name.text s.name.text) ∙ by other s (is_external u) is;
    }
  where
    by : (other : Scope) (s : Structure) (b : Bool) → not b ≡ true → (is_same_scope other scope && bytes_eq s.name.text u.name.text) ≡ is_known_as (structured other s) (Some (structure_type scope u b))
    by other s true is = absurd (cc is)
    by other s false is = refl
made_structure trees scope _ is = absurd (cc is)

-- Numbers by names.

none_of_four : {X : Type 0} (p : X → Bool) (a b c d : X) → p a ≡ false → p b ≡ false → p c ≡ false → p d ≡ false → position p (a ∷ b ∷ c ∷ d ∷ []) ≡ None
none_of_four p a b c d first second third fourth =
    position_none p (a ∷ b ∷ c ∷ d ∷ []) each
  where
    each : (x : _) → There (a ∷ b ∷ c ∷ d ∷ []) x → p x ≡ false
    each x (zero, at) = let same : a ≡ x = cc at in ap p (sym same) ∙ first
    each x (suc zero, at) = let same : b ≡ x = cc at in ap p (sym same) ∙ second
    each x (suc (suc zero), at) = let same : c ≡ x = cc at in ap p (sym same) ∙ third
    each x (suc (suc (suc zero)), at) = let same : d ≡ x = cc at in ap p (sym same) ∙ fourth
    each x (suc (suc (suc (suc k))), at) = absurd (cc at)

or_nothing : (o : Option ℕ) → option_or o None ≡ o
or_nothing None = refl
or_nothing (Some n) = refl

abbrev pub is_the_enumeration : Option ℕ → List ℕ → EnumerationSymbol → Bool
is_the_enumeration own text e = is_owner e.machine own && bytes_eq e.name text

abbrev pub is_the_structure : Option ℕ → List ℕ → StructureSymbol → Bool
is_the_structure own text s = is_owner s.machine own && bytes_eq s.name text

module _ (trees : List Tree) where
  abbrev OwnedBy : Option ℕ → Scope → Type 0
  OwnedBy own scope = (x : ScopedDeclaration) → There (scoped_declarations trees) x → is_owner (owner trees x.scope) own ≡ is_same_scope scope x.scope

  enumerations_found : (own : Option ℕ) (scope : Scope) (text : List ℕ) (members : List (List ℕ)) → OwnedBy own scope
      → position (is_the_enumeration own text) (flat_map (enumeration_symbol trees) (declared_enumerations trees)) ≡ position (declares (enumerated scope text members)) (declared_enumerations trees)
  enumerations_found own scope text members alike =
      position_made (enumeration_symbol trees) (declares (enumerated scope text members)) (is_the_enumeration own text) (declared_enumerations trees)
      (λ x there.
      let inside = filter_there (λ (d : ScopedDeclaration). is_enumeration d.declaration) (scoped_declarations trees) x there in
      let made = made_enumeration trees x.scope x.declaration inside.1 in (
        made.symbol,
        made.made,
        ap (λ o. is_owner o own && bytes_eq made.symbol.name text) made.machine
            ∙ ap (λ v. v && bytes_eq made.symbol.name text) (alike x inside.0) ∙ made.alike scope text members,
      ))

  structures_found : (own : Option ℕ) (scope : Scope) (s : Structure) → OwnedBy own scope
      → position (is_the_structure own s.name.text) (flat_map (structure_symbol trees) (declared_structures trees)) ≡ position (declares (structured scope s)) (declared_structures trees)
  structures_found own scope s alike =
      position_made (structure_symbol trees) (declares (structured scope s)) (is_the_structure own s.name.text) (declared_structures trees)
      (λ x there.
      let inside = filter_there (λ (d : ScopedDeclaration). is_counted_structure d.declaration) (scoped_declarations trees) x there in
      let made = made_structure trees x.scope x.declaration inside.1 in (
        made.symbol,
        made.made,
        ap (λ o. is_owner o own && bytes_eq made.symbol.name s.name.text) made.machine
            ∙ ap (λ v. v && bytes_eq made.symbol.name s.name.text) (alike x inside.0) ∙ made.alike scope s,
      ))

  -- what stands under a number has the default member of the type
  pub enumeration_kind : (t : KnownType) (n : ℕ) → declared_number trees t ≡ Some n → kind_of_enumeration (symbols_of trees) n ≡ Some (kind.Enum n (default_member trees t))
  unfolding symbols_of
  enumeration_kind t n is = by (position (declares t) (declared_enumerations trees)) refl is
    where
      by : (o : Option ℕ) → position (declares t) (declared_enumerations trees) ≡ o → option_map (λ j. 4 + j) o ≡ Some n
          → option_map (λ (e : EnumerationSymbol). kind.Enum n e.default) (slice_get (enumeration_symbols trees) n) ≡ Some (kind.Enum n (default_found (find (declares t) (declared_enumerations trees))))
      by None found none = absurd (cc none)
      by (Some j) found some =
          let number : 4 + j ≡ n = cc some in
          let later : n ≡ suc (suc (suc (suc j))) = omega (arith, number) in
          let place = position_there (declares t) (declared_enumerations trees) j found in
          let x = place.0 in
          let inside = filter_there (λ (d : ScopedDeclaration). is_enumeration d.declaration) (scoped_declarations trees) x (j, place.1) in
          let made = made_enumeration trees x.scope x.declaration inside.1 in
          let symbol_at : slice_get (flat_map (enumeration_symbol trees) (declared_enumerations trees)) j ≡ Some made.symbol = made_at (enumeration_symbol trees) (declared_enumerations trees) j x made.symbol (each_enumeration trees) place.1 made.made in
          let first : find (declares t) (declared_enumerations trees) ≡ Some x = find_position (declares t) (declared_enumerations trees) j found ∙ place.1 in
          ap (λ i. option_map (λ (e : EnumerationSymbol). kind.Enum n e.default) (slice_get (enumeration_symbols trees) i)) later
          ∙ ap (option_map (λ (e : EnumerationSymbol). kind.Enum n e.default)) symbol_at
          ∙ ap (λ i. Some (kind.Enum n i)) (made.default ∙ sym (ap default_found first))

  pub plain_found : (t : KnownType) → option_and_then (kind_of_enumeration (symbols_of trees)) (declared_number trees t) ≡ option_map (λ n. kind.Enum n (default_member trees t)) (declared_number trees t)
  plain_found t = by (declared_number trees t) refl
    where
      by : (o : Option ℕ) → declared_number trees t ≡ o → option_and_then (kind_of_enumeration (symbols_of trees)) o ≡ option_map (λ n. kind.Enum n (default_member trees t)) o
      by None is = refl
      by (Some n) is = enumeration_kind t n is

  module _ (accepted : IsAccepted trees) where
    pub few_enumerations : length (enumeration_symbols trees) ≤ 65536
    few_enumerations =
        let types = few_types trees accepted.of_declarations in
        omega (arith, types.enumerations, as_many (enumeration_symbol trees) (declared_enumerations trees) (each_enumeration trees), length-append (built_in_symbols trees) (flat_map (enumeration_symbol trees) (declared_enumerations trees)))

    pub few_structures : length (structure_symbols trees) ≤ 65536
    few_structures =
        let types = few_types trees accepted.of_declarations in
        omega (arith, types.structures, as_many (structure_symbol trees) (declared_structures trees) (each_structure trees), length-append (flat_map (structure_symbol trees) (declared_structures trees)) (request_symbol ∷ []))

    -- right in the protocol
    pub global_enumeration : (text : List ℕ) (members : List (List ℕ)) → built_in_type text ≡ None → enumeration_of (symbols_of trees) None text ≡ declared_number trees (enumerated everywhere text members)
    unfolding symbols_of
    global_enumeration text members none =
        let q = is_the_enumeration None text in
        let rest = flat_map (enumeration_symbol trees) (declared_enumerations trees) in
        let later : Option ℕ = option_map (λ n. 4 + n) (position q rest) in
        short_position q (enumeration_symbols trees) few_enumerations
        ∙ position_append q (built_in_symbols trees) rest
        ∙ ap (λ o. option_or o later)
        (none_of_four q (get 0) (get 1) (get 2) (get 3) (not_spelled text MachineType none refl) (not_spelled text AccessPermission none refl) (not_spelled text RequestType none refl) (not_spelled text MessageSize none refl))
        ∙ ap (option_map (λ n. 4 + n)) (enumerations_found None everywhere text members (unowned trees))
      where
        nobody : EnumerationSymbol
        nobody = record { name = []; machine = None; members = []; default = 0 }

        get : ℕ → EnumerationSymbol
        get n = by (slice_get (built_in_symbols trees) n)
          where
            by : Option EnumerationSymbol → EnumerationSymbol
            by None = nobody
            by (Some e) = e

    module _ (k : ℕ) (m : Machine) (at : slice_get (machines_of trees) k ≡ Some m) where
      pub own_enumeration : (text : List ℕ) (members : List (List ℕ)) → enumeration_of (symbols_of trees) (Some k) text ≡ declared_number trees (enumerated (within m) text members)
      unfolding symbols_of
      own_enumeration text members =
          let q = is_the_enumeration (Some k) text in
          let rest = flat_map (enumeration_symbol trees) (declared_enumerations trees) in
          short_position q (enumeration_symbols trees) few_enumerations
          ∙ position_append q (built_in_symbols trees) rest
          ∙ ap (option_map (λ n. 4 + n)) (enumerations_found (Some k) (within m) text members (λ x there. owned trees accepted k m at x.scope))

      pub own_structure : (s : Structure) → structure_of (symbols_of trees) (Some k) s.name.text ≡ structure_number trees (structured (within m) s)
      unfolding symbols_of
      own_structure s =
          let q = is_the_structure (Some k) s.name.text in
          let front = flat_map (structure_symbol trees) (declared_structures trees) in
          short_position q (structure_symbols trees) few_structures
          ∙ position_append q front (request_symbol ∷ [])
          ∙ or_nothing (position q front)
          ∙ structures_found (Some k) (within m) s (λ x there. owned trees accepted k m at x.scope)
