-- The enumerations that a protocol declares: each has a number, under which its members stand among the symbols. In an accepted protocol a
-- type is one of them by its scope and its name.
use Rattle.std.proofs.Common.{◌≡◌, ◌<◌, ◌+◌, ◌∙◌, ℕ, suc, true, List, [], ◌∷◌, All, Option, None, Some, find, length, map, max, refl, sym, ap, arith, slice_get, option_and_then, unwrap_or}
use Rattle.std.specs.Prelude.{codes, nat_lt, position}
use Rattle.std.specs.List.{position_or_len}
use Rattle.std.specs.Option.{option_map}
use Rattle.std.proofs.lemmas.List.Elements.{filter_passes}
use Rattle.std.proofs.lemmas.List.Folds.{find_at}
use Rattle.std.proofs.lemmas.List.Quantifiers.{position-Some}
use Rattle.std.proofs.lemmas.Option.{cond_some}
use Rattle.ruby_symbols.specs.declared.types.EnumerationSymbol.{EnumerationSymbol}
use Rattle.slicc_ast.specs.declared.tree.declaration.PairValue.{PairValue}
use Rattle.slicc_ast.specs.declared.tree.declaration.State.{State}
use Rattle.slicc_ast.specs.declared.tree.declaration.Symbol.{Symbol}
use Rattle.slicc_ast.specs.declared.tree.item.Tree.{Tree}
use Rattle.slicc_ast.specs.declared.tree.name.Name.{Name}
use Rattle.slicc_plan.specs.Prelude.{IsAccepted, Attribute, first_attribute, Declaration, machine, states, state, member, Scope, name_of, is_enumeration, symbols_of, enumeration_symbol, enumeration_symbols, owner, ScopedDeclaration, declared_enumerations, declared_number, declares, default_found, default_member, default_number, is_default_of, made_in, member_number, own_default, scoped_declarations, KnownType, enumerated, declared_type}
use Rattle.slicc_plan.specs.Declarations.{enumeration}
use Rattle.slicc_plan.proofs.There.{There, all_there, there_filtered}
use Rattle.slicc_plan.proofs.Types.{each_enumeration, enumeration_stands, made_at}
use Rattle.protocol_meaning.proofs.Places.{at_position, map_found}
use Rattle.protocol_meaning.specs.Prelude.{Extent, IsMember, members_of, declared_extent}

-- Enumerations and state declarations.

abbrev pub names_in : Declaration → List (List ℕ)
names_in (enumeration e) = map (λ (s : Symbol). s.name.text) e.members
names_in (states d) = map (λ (s : State). s.name.text) d.members
names_in d = []

abbrev pub text_in : Declaration → List ℕ
text_in (enumeration e) = e.name.text
text_in (states d) = d.name.text
text_in d = []

pub record IsEnumeration (trees : List Tree) (scope : Scope) (d : Declaration) : Type 0 where
  pub type : declared_type scope d ≡ Some (enumerated scope (text_in d) (names_in d))
  pub name : Name
  pub named : name_of d ≡ Some name
  pub text : name.text ≡ text_in d
  pub default : own_default scope d < max 1 (length (names_in d))

named_default : (scope : Scope) (text : List ℕ) (members : List (List ℕ)) (value : PairValue) (o : Option ℕ) → member_number scope text members value ≡ o → unwrap_or o 0 < max 1 (length members)
named_default scope text members value None is = omega arith
named_default scope text members value (Some k) is =
    let first = (position-Some (is_default_of scope text value) members k [] is).0 in omega arith

default_below : (scope : Scope) (text : List ℕ) (members : List (List ℕ)) (a : Option Attribute) → default_number scope text members a < max 1 (length members)
default_below scope text members None = omega arith
default_below scope text members (Some a) = named_default scope text members a.value (member_number scope text members a.value) refl

pub as_enumeration : (trees : List Tree) (scope : Scope) (d : Declaration) → is_enumeration d ≡ true → IsEnumeration trees scope d
as_enumeration trees scope (enumeration e) is = record {
  type = refl;
  name = e.name;
  named = refl;
  text = refl;
  default = default_below scope e.name.text (map (λ (s : Symbol). s.name.text) e.members) (first_attribute (codes "default") e.pairs);
}
as_enumeration trees scope (states d) is = record {
  type = refl;
  name = d.name;
  named = refl;
  text = refl;
  default = default_below scope d.name.text (map (λ (s : State). s.name.text) d.members) (first_attribute (codes "default") d.pairs);
}
as_enumeration trees scope _ is = absurd (cc is)

abbrev symbol_of : List Tree → ScopedDeclaration → EnumerationSymbol
symbol_of trees x = record {
  name = text_in x.declaration;
  machine = owner trees x.scope;
  members = names_in x.declaration;
  default = own_default x.scope x.declaration;
}

makes_symbol : (trees : List Tree) (scope : Scope) (d : Declaration) → is_enumeration d ≡ true → enumeration_symbol trees (made_in scope d) ≡ symbol_of trees (made_in scope d) ∷ []
makes_symbol trees scope (enumeration e) is = refl
makes_symbol trees scope (states d) is = refl
makes_symbol trees scope _ is = absurd (cc is)

module _ (trees : List Tree) where
  -- those that are declared, by their numbers without the built-in ones
  abbrev pub L : List ScopedDeclaration
  L = declared_enumerations trees

  all_enumerations : All (λ (x : ScopedDeclaration). is_enumeration x.declaration ≡ true) L
  all_enumerations = filter_passes (λ (d : ScopedDeclaration). is_enumeration d.declaration) (scoped_declarations trees)

  pub is_one : (k : ℕ) (x : ScopedDeclaration) → slice_get L k ≡ Some x → IsEnumeration trees x.scope x.declaration
  is_one k x at = as_enumeration trees x.scope x.declaration (all_there (λ (y : ScopedDeclaration). is_enumeration y.declaration ≡ true) L x all_enumerations (k, at))

  module _ (controllers : ℕ) where
    abbrev E : Extent
    E = declared_extent trees controllers

    -- the members that stand under a number
    pub members_at : (k : ℕ) (x : ScopedDeclaration) → slice_get L k ≡ Some x → members_of E (4 + k) ≡ names_in x.declaration
    unfolding symbols_of
    members_at k x at =
        let next : 4 + k ≡ suc (suc (suc (suc k))) = omega arith in
        let makes = makes_symbol trees x.scope x.declaration (all_there (λ (y : ScopedDeclaration). is_enumeration y.declaration ≡ true) L x all_enumerations (k, at)) in
        let there : slice_get (enumeration_symbols trees) (4 + k) ≡ Some (symbol_of trees x) =
        ap (slice_get (enumeration_symbols trees)) next ∙ made_at (enumeration_symbol trees) L k x (symbol_of trees x) (each_enumeration trees) at makes in
        ap (λ (o : Option EnumerationSymbol). unwrap_or (option_map (λ (y : EnumerationSymbol). y.members) o) []) there

    -- A declared type: its number, and the declaration of that number.
    pub record HasNumber (t : KnownType) (number : ℕ) : Type 0 where
      pub k : ℕ
      pub is : number ≡ 4 + k
      pub x : ScopedDeclaration
      pub at : slice_get L k ≡ Some x
      pub default_is : default_member trees t ≡ own_default x.scope x.declaration

    pub has_number : (t : KnownType) (number : ℕ) → declared_number trees t ≡ Some number → HasNumber t number
    has_number t number is =
        let found = map_found (λ (n : ℕ). 4 + n) (position (declares t) L) number is in
        let place = at_position (declares t) L found.0 found.1 in
        let long : position_or_len (declares t) L ≡ found.0 = (cond_some (nat_lt (position_or_len (declares t) L) (length L)) (position_or_len (declares t) L) found.0 found.1).1 in
        let first : find (declares t) L ≡ Some place.0 = find_at (declares t) L ∙ ap (slice_get L) long ∙ place.1 in
        record {
          k = found.0;
          is = sym found.2;
          x = place.0;
          at = place.1;
          default_is = ap default_found first;
        }

    -- its own default is a member
    pub default_within : (t : KnownType) (number : ℕ) → declared_number trees t ≡ Some number → IsMember E number (default_member trees t)
    default_within t number is =
        let has = has_number t number is in
        let one = is_one has.k has.x has.at in
        let same : members_of E number ≡ names_in has.x.declaration = ap (members_of E) has.is ∙ members_at has.k has.x has.at in
        let long : length (members_of E number) ≡ length (names_in has.x.declaration) = ap (λ (ns : List (List ℕ)). length ns) same in
        let equal = has.default_is in
        let below = one.default in
        omega arith

  -- Of an accepted protocol a type is its declaration's.
  module _ (accepted : IsAccepted trees) where
    -- where a declaration stands
    pub listed : (x : ScopedDeclaration) → There (scoped_declarations trees) x → is_enumeration x.declaration ≡ true → There L x
    listed x there is = there_filtered (λ (d : ScopedDeclaration). is_enumeration d.declaration) (scoped_declarations trees) x there is

    -- the members of a declared enumeration stand under the number of its type
    pub counted : (controllers : ℕ) (x : ScopedDeclaration) (number : ℕ) (members : List (List ℕ)) → There L x → declared_number trees (enumerated x.scope (text_in x.declaration) members) ≡ Some number
        → members_of (declared_extent trees controllers) number ≡ names_in x.declaration
    unfolding symbols_of
    counted controllers x number members there is =
        let enum = all_there (λ (y : ScopedDeclaration). is_enumeration y.declaration ≡ true) L x all_enumerations there in
        let one = as_enumeration trees x.scope x.declaration enum in
        let at : slice_get (enumeration_symbols trees) number ≡ Some (symbol_of trees x) =
        sym (ap (option_and_then (slice_get (enumeration_symbols trees))) is)
        ∙ enumeration_stands trees accepted x.scope x.declaration (text_in x.declaration) members (names_in x.declaration) (symbol_of trees x) there one.type (makes_symbol trees x.scope x.declaration enum) in
        ap (λ (o : Option EnumerationSymbol). unwrap_or (option_map (λ (y : EnumerationSymbol). y.members) o) []) at
