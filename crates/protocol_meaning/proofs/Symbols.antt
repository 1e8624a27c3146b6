-- The symbols of an accepted protocol are within its extent: the values that fields begin with, permissions, and the states and events of
-- transitions.
use Rattle.std.proofs.Common.{◌≡◌, ◌<◌, ◌∙◌, ℕ, Bool, true, false, List, [], ◌∷◌, All, IfSome, Option, None, Some, find, flat_map, length, map, refl, sym, ap, subst, arith, unwrap_or, option_and_then}
use Rattle.std.specs.Prelude.{codes}
use Rattle.std.specs.Option.{option_map, option_or}
use Rattle.std.proofs.lemmas.List.Elements.{All-append, All-cons, All-filter, All-head, All-map, All-nil, All-tail}
use Rattle.std.proofs.lemmas.List.Quantifiers.{position-Some}
use Rattle.ruby_value.specs.declared.kind.Kind.{Kind}
use Rattle.ruby_value.specs.declared.kind.Kind.TheVariants as kind
use Rattle.ruby_value.specs.Prelude.{default_value}
use Rattle.ruby_symbols.specs.declared.types.FieldSymbol.{FieldSymbol}
use Rattle.ruby_symbols.specs.declared.types.StructureSymbol.{StructureSymbol}
use Rattle.slicc_ast.specs.declared.tree.declaration.Member.{Member}
use Rattle.slicc_ast.specs.declared.tree.declaration.Member.TheVariants.{Field, Method, Skipped}
use Rattle.slicc_ast.specs.declared.tree.declaration.PairValue.{PairValue}
use Rattle.slicc_ast.specs.declared.tree.declaration.Structure.{Structure}
use Rattle.slicc_ast.specs.declared.tree.item.Tree.{Tree}
use Rattle.slicc_plan.specs.declared.built_in.BuiltInType.{BuiltInType}
use Rattle.slicc_plan.specs.declared.built_in.BuiltInType.TheVariants as built
use Rattle.slicc_plan.specs.Prelude.{IsAccepted, Attribute, first_attribute, NamedType, request_fields, Declaration, machine, states, member, Scope, everywhere, within, first_named, global_declarations, is_external, is_named, machine_declarations, machine_names, FieldIn, field_type, field_kind, initial_of, initial_value, member_written, value_by, value_written, is_counted_structure, is_enumeration, symbols_of, field_of_type, field_symbol, field_symbols, owner, request_symbol, structure_declared, structure_symbol, structure_symbols, ScopedDeclaration, built_in_kind, declared_number, declared_structures, default_member, is_default_of, kind_or_bool, made_in, made_with_its_own, member_number, plain_kind, scoped_declarations, KnownType, built_in, enumerated, structured, declared_type, external_type, global_type, structure_type, table_named, type_in, type_of_found, type_where}
use Rattle.slicc_plan.specs.BuiltIn.{built_in_type}
use Rattle.slicc_plan.specs.BuiltIn as names
use Rattle.slicc_plan.specs.Declarations.{enumeration, structure}
use Rattle.slicc_plan.specs.SymbolsOfTypes.{request_field}
use Rattle.slicc_plan.proofs.There.{There, in_machine, there_first, there_flat, there_found, there_later}
use Rattle.protocol_meaning.specs.Prelude.{Extent, IsMember, IsWithin, members_of, declared_extent}
use Rattle.protocol_meaning.proofs.Declared.{L, counted, default_within, listed, names_in, text_in}

-- a scope of the protocol
abbrev pub InTrees : List Tree → Scope → Type 0
InTrees trees everywhere = Unit {0}
InTrees trees (within m) = There (global_declarations trees) (machine m)

-- each declaration is made in a scope of the protocol
own_scopes : (trees : List Tree) (d : Declaration) → There (global_declarations trees) d → All (λ (x : ScopedDeclaration). InTrees trees x.scope) (made_with_its_own d)
own_scopes trees (machine m) there =
    All-cons (λ (x : ScopedDeclaration). InTrees trees x.scope) (made_in everywhere (machine m)) (map (made_in (within m)) (machine_declarations m)) tt
    (All-map (λ (x : ScopedDeclaration). InTrees trees x.scope) (made_in (within m)) (machine_declarations m) (λ k d lt. there))
own_scopes trees d there = All-cons (λ (x : ScopedDeclaration). InTrees trees x.scope) (made_in everywhere d) [] tt (All-nil (λ (x : ScopedDeclaration). InTrees trees x.scope))

all_scopes : (trees : List Tree) (ds : List Declaration) → ((d : Declaration) → There ds d → There (global_declarations trees) d) → All (λ (x : ScopedDeclaration). InTrees trees x.scope) (flat_map made_with_its_own ds)
all_scopes trees [] among = All-nil (λ (x : ScopedDeclaration). InTrees trees x.scope)
all_scopes trees (d ∷ ds) among =
    All-append (λ (x : ScopedDeclaration). InTrees trees x.scope) (made_with_its_own d) (flat_map made_with_its_own ds)
    (own_scopes trees d (among d (there_first d ds))) (all_scopes trees ds (λ e there. among e (there_later d e ds there)))

scopes_in : (trees : List Tree) → All (λ (x : ScopedDeclaration). InTrees trees x.scope) (scoped_declarations trees)
scopes_in trees = all_scopes trees (global_declarations trees) (λ d there. there)

-- Where a declared type comes from.

pub record ComesFrom (trees : List Tree) (scope : Scope) (text : List ℕ) (members : List (List ℕ)) : Type 0 where
  pub x : ScopedDeclaration
  pub there : There (L trees) x
  pub scope_is : x.scope ≡ scope
  pub text_is : text_in x.declaration ≡ text
  pub members_are : names_in x.declaration ≡ members

no_enumeration : (scope other : Scope) (text : List ℕ) (members : List (List ℕ)) (t : KnownType) → Some t ≡ Some (enumerated other text members) → t ≡ enumerated other text members
no_enumeration scope other text members t is = cc is

external_none : (scope other : Scope) (text : List ℕ) (members : List (List ℕ)) (x : Structure) (o : Option BuiltInType) → external_type scope x o ≡ enumerated other text members → ⊥
external_none scope other text members x None is = cc is
external_none scope other text members x (Some b) is = cc is

structure_none : (scope other : Scope) (text : List ℕ) (members : List (List ℕ)) (x : Structure) (b : Bool) → structure_type scope x b ≡ enumerated other text members → ⊥
structure_none scope other text members x true is = external_none scope other text members x (table_named x.name.text) is
structure_none scope other text members x false is = cc is

-- what a declared enumeration says of itself
pub record Says (scope other : Scope) (d : Declaration) (text : List ℕ) (members : List (List ℕ)) : Type 0 where
  pub is : is_enumeration d ≡ true
  pub scope_is : scope ≡ other
  pub text_is : text_in d ≡ text
  pub members_are : names_in d ≡ members

says : (scope other : Scope) (d : Declaration) (text : List ℕ) (members : List (List ℕ)) → declared_type scope d ≡ Some (enumerated other text members) → Says scope other d text members
says scope other (enumeration e) text members is = let same = no_enumeration scope other text members (enumerated scope (text_in (enumeration e)) (names_in (enumeration e))) is in record { is = refl; scope_is = cc same; text_is = cc same; members_are = cc same }
says scope other (states d) text members is = let same = no_enumeration scope other text members (enumerated scope (text_in (states d)) (names_in (states d))) is in record { is = refl; scope_is = cc same; text_is = cc same; members_are = cc same }
says scope other (structure x) text members is = absurd (structure_none scope other text members x (is_external x) (no_enumeration scope other text members (structure_type scope x (is_external x)) is))
says scope other _ text members is = absurd (cc is)

-- right in the protocol
made_alone : (d : Declaration) → is_enumeration d ≡ true → There (made_with_its_own d) (made_in everywhere d)
made_alone (enumeration e) is = (0, refl)
made_alone (states e) is = (0, refl)
made_alone _ is = absurd (cc is)

module _ (trees : List Tree) (accepted : IsAccepted trees) where
  from_scope : (scope : Scope) (d : Declaration) (other : Scope) (text : List ℕ) (members : List (List ℕ)) → ((is_enumeration d ≡ true) → There (scoped_declarations trees) (made_in scope d))
      → declared_type scope d ≡ Some (enumerated other text members) → ComesFrom trees other text members
  from_scope scope d other text members there is =
      let said = says scope other d text members is in
      record {
        x = made_in scope d;
        there = listed trees accepted (made_in scope d) (there said.is) said.is;
        scope_is = said.scope_is;
        text_is = said.text_is;
        members_are = said.members_are;
      }

  from_global : (text : List ℕ) (o : Option Declaration) (other : Scope) (name : List ℕ) (members : List (List ℕ)) → find (is_named text) (global_declarations trees) ≡ o
      → type_of_found everywhere o ≡ Some (enumerated other name members) → ComesFrom trees other name members
  from_global text None other name members found is = absurd (cc is)
  from_global text (Some d) other name members found is =
      from_scope everywhere d other name members
      (λ enum. there_flat made_with_its_own (global_declarations trees) d (made_in everywhere d) (there_found (is_named text) (global_declarations trees) d found) (made_alone d enum)) is

  global_comes : (text : List ℕ) (other : Scope) (name : List ℕ) (members : List (List ℕ)) → global_type trees text ≡ Some (enumerated other name members) → ComesFrom trees other name members
  global_comes text other name members is = by (built_in_type text) is
    where
      by : (b : Option BuiltInType) → option_or (option_map built_in b) (type_of_found everywhere (first_named text (global_declarations trees))) ≡ Some (enumerated other name members) → ComesFrom trees other name members
      by None same = from_global text (first_named text (global_declarations trees)) other name members refl same
      by (Some b) same = absurd (cc same)

  comes : (scope : Scope) (text : List ℕ) (other : Scope) (name : List ℕ) (members : List (List ℕ)) → InTrees trees scope → type_in trees scope text ≡ Some (enumerated other name members) → ComesFrom trees other name members
  comes everywhere text other name members there is = global_comes text other name members is
  comes (within m) text other name members there is = by (first_named text (machine_declarations m)) refl is
    where
      by : (o : Option Declaration) → find (is_named text) (machine_declarations m) ≡ o → type_where trees (within m) text o ≡ Some (enumerated other name members) → ComesFrom trees other name members
      by None found same = global_comes text other name members same
      by (Some d) found same =
          from_scope (within m) d other name members (λ _. in_machine trees m d there (there_found (is_named text) (machine_declarations m) d found)) same

  module _ (controllers : ℕ) where
    abbrev E : Extent
    E = declared_extent trees controllers

    -- Kinds.

    abbrev pub KindWithin : Kind → Type 0
    KindWithin k = 0 < controllers → IsWithin E (default_value k)

    built_in_within : (b : BuiltInType) → IfSome (built_in_kind b) KindWithin
    built_in_within built.Int = λ _. tt
    built_in_within built.Cycles = λ _. tt
    built_in_within built.Tick = λ _. tt
    built_in_within built.Bool = λ _. tt
    built_in_within built.Address = λ _. tt
    built_in_within built.MachineId = λ some. some
    built_in_within built.MachineType = λ _. omega arith
    built_in_within built.NetDest = λ _. All-nil (λ controller. controller < controllers)
    built_in_within built.DataBlock = λ _. tt
    built_in_within built.AccessPermission = λ _. omega arith
    built_in_within built.RequestType = λ _. omega arith
    built_in_within built.MessageSize = λ _. omega arith
    built_in_within built.Request = tt
    built_in_within built.AbstractEntry = tt
    built_in_within built.Void = tt
    built_in_within built.Cache = tt
    built_in_within built.Directory = tt
    built_in_within built.TbeTable = tt
    built_in_within built.Sequencer = tt
    built_in_within built.Buffer = tt

    pub kind_within : (t : KnownType) → IfSome (plain_kind trees t) KindWithin
    kind_within (built_in b) = built_in_within b
    kind_within (structured scope x) = tt
    kind_within (enumerated scope text members) = by (declared_number trees (enumerated scope text members)) refl
      where
        by : (o : Option ℕ) → declared_number trees (enumerated scope text members) ≡ o
            → IfSome (option_map (λ number. kind.Enum number (default_member trees (enumerated scope text members))) o) KindWithin
        by None is = tt
        by (Some number) is = λ _. default_within trees controllers (enumerated scope text members) number is

    or_bool : (o : Option Kind) → IfSome o KindWithin → KindWithin (kind_or_bool o)
    or_bool None here = λ _. tt
    or_bool (Some k) here = here

    module _ (some : 0 < controllers) where
      field_kind_within : (f : FieldIn) → IsWithin E (default_value (field_kind trees f))
      field_kind_within f = or_bool (option_and_then (plain_kind trees) (field_type trees f)) (by (field_type trees f)) some
        where
          by : (o : Option KnownType) → IfSome (option_and_then (plain_kind trees) o) KindWithin
          by None = tt
          by (Some t) = kind_within t

      -- Members that are written.

      written_below : (scope : Scope) (text : List ℕ) (members : List (List ℕ)) (v : PairValue) → IfSome (member_number scope text members v) (λ k. k < length members)
      written_below scope text members v = by (member_number scope text members v) refl
        where
          by : (o : Option ℕ) → member_number scope text members v ≡ o → IfSome o (λ k. k < length members)
          by None is = tt
          by (Some k) is = (position-Some (is_default_of scope text v) members k [] is).0

      -- a member of these, or else the default one
      chosen : (number default : ℕ) (members : List (List ℕ)) (o : Option ℕ) → members_of E number ≡ members → IfSome o (λ k. k < length members) → IsMember E number default → IsMember E number (unwrap_or o default)
      chosen number default members None same below here = here
      chosen number default members (Some k) same below here =
          let long : length (members_of E number) ≡ length members = ap (λ (ns : List (List ℕ)). length ns) same in omega (arith, below, long)

      none_chosen : (number default : ℕ) (o : Option ℕ) → IfSome o (λ k. k < 0) → IsMember E number default → IsMember E number (unwrap_or o default)
      none_chosen number default None below here = here
      none_chosen number default (Some k) below here = absurd (omega (arith, below))

      machines_written : (text : List ℕ) (v : PairValue) → IsMember E 0 (unwrap_or (member_number everywhere text (machine_names trees) v) 0)
      unfolding symbols_of
      machines_written text v = chosen 0 0 (machine_names trees) (member_number everywhere text (machine_names trees) v) refl (written_below everywhere text (machine_names trees) v) (omega arith)

      permissions_written : (text : List ℕ) (v : PairValue) → IsMember E 1 (unwrap_or (member_number everywhere text names.permissions v) 0)
      unfolding symbols_of
      permissions_written text v = chosen 1 0 names.permissions (member_number everywhere text names.permissions v) refl (written_below everywhere text names.permissions v) (omega arith)

      requests_written : (text : List ℕ) (v : PairValue) → IsMember E 2 (unwrap_or (member_number everywhere text names.request_types v) 0)
      unfolding symbols_of
      requests_written text v = chosen 2 0 names.request_types (member_number everywhere text names.request_types v) refl (written_below everywhere text names.request_types v) (omega arith)

      sizes_written : (text : List ℕ) (v : PairValue) → IsMember E 3 (unwrap_or (member_number everywhere text names.message_sizes v) 0)
      unfolding symbols_of
      sizes_written text v = chosen 3 0 names.message_sizes (member_number everywhere text names.message_sizes v) refl (written_below everywhere text names.message_sizes v) (omega arith)

      same_kind : (a b c d : ℕ) → ◌≡◌ {A = Option Kind} (Some (kind.Enum a b)) (Some (kind.Enum c d)) → (P : ℕ → ℕ → Type 0) → P a b → P c d
      same_kind a b c d is P holds = let first : a ≡ c = cc is in let second : b ≡ d = cc is in subst (λ n. P n d) first (subst (P a) second holds)

      built_written : (b : BuiltInType) (number default : ℕ) (text : List ℕ) (v : PairValue) → built_in_kind b ≡ Some (kind.Enum number default)
          → IsMember E number (unwrap_or (member_number everywhere text (names.members_of (machine_names trees) b) v) default)
      built_written built.MachineType number default text v is = same_kind 0 0 number default is (λ n k. IsMember E n (unwrap_or (member_number everywhere text (machine_names trees) v) k)) (machines_written text v)
      built_written built.AccessPermission number default text v is = same_kind 1 0 number default is (λ n k. IsMember E n (unwrap_or (member_number everywhere text names.permissions v) k)) (permissions_written text v)
      built_written built.RequestType number default text v is = same_kind 2 0 number default is (λ n k. IsMember E n (unwrap_or (member_number everywhere text names.request_types v) k)) (requests_written text v)
      built_written built.MessageSize number default text v is = same_kind 3 0 number default is (λ n k. IsMember E n (unwrap_or (member_number everywhere text names.message_sizes v) k)) (sizes_written text v)
      built_written built.Int number default text v is = absurd (cc is)
      built_written built.Cycles number default text v is = absurd (cc is)
      built_written built.Tick number default text v is = absurd (cc is)
      built_written built.Bool number default text v is = absurd (cc is)
      built_written built.Address number default text v is = absurd (cc is)
      built_written built.MachineId number default text v is = absurd (cc is)
      built_written built.NetDest number default text v is = absurd (cc is)
      built_written built.DataBlock number default text v is = absurd (cc is)
      built_written built.Request number default text v is = absurd (cc is)
      built_written built.AbstractEntry number default text v is = absurd (cc is)
      built_written built.Void number default text v is = absurd (cc is)
      built_written built.Cache number default text v is = absurd (cc is)
      built_written built.Directory number default text v is = absurd (cc is)
      built_written built.TbeTable number default text v is = absurd (cc is)
      built_written built.Sequencer number default text v is = absurd (cc is)
      built_written built.Buffer number default text v is = absurd (cc is)

      declared_written : (scope : Scope) (text own : List ℕ) (members : List (List ℕ)) (v : PairValue) (number default : ℕ) → ComesFrom trees scope own members
          → (o : Option ℕ) → declared_number trees (enumerated scope own members) ≡ o
          → option_map (λ n. kind.Enum n (default_member trees (enumerated scope own members))) o ≡ Some (kind.Enum number default)
          → IsMember E number (unwrap_or (member_number scope own members v) default)
      declared_written scope text own members v number default from None found is = absurd (cc is)
      declared_written scope text own members v number default from (Some n) found is =
          let t : KnownType = enumerated scope own members in
          let same : declared_number trees (enumerated from.x.scope (text_in from.x.declaration) members) ≡ Some n =
          ap (λ (a : Scope). declared_number trees (enumerated a (text_in from.x.declaration) members)) from.scope_is ∙ ap (λ (a : List ℕ). declared_number trees (enumerated scope a members)) from.text_is ∙ found in
          let stand : members_of E n ≡ members = counted trees accepted controllers from.x n members from.there same ∙ from.members_are in
          same_kind n (default_member trees t) number default is (λ a k. IsMember E a (unwrap_or (member_number scope own members v) k))
          (chosen n (default_member trees t) members (member_number scope own members v) stand (written_below scope own members v) (default_within trees controllers t n found))

      -- the type of a field, as it is written in this scope
      member_within : (scope : Scope) (text : List ℕ) (t : KnownType) (v : PairValue) (number default : ℕ) → InTrees trees scope → type_in trees scope text ≡ Some t
          → plain_kind trees t ≡ Some (kind.Enum number default) → IsMember E number (unwrap_or (member_written trees text t v) default)
      member_within scope text (built_in b) v number default there is plain = built_written b number default text v plain
      member_within scope text (enumerated other own members) v number default there is plain =
          declared_written other text own members v number default (comes scope text other own members there is) (declared_number trees (enumerated other own members)) refl plain
      member_within scope text (structured other x) v number default there is plain = absurd (cc plain)

      written_within : (scope : Scope) (text : List ℕ) (t : KnownType) (v : PairValue) (o : Option Kind) → InTrees trees scope → type_in trees scope text ≡ Some t → plain_kind trees t ≡ o
          → KindWithin (kind_or_bool o) → IsWithin E (value_written trees text t (kind_or_bool o) v)
      written_within scope text t v None there is plain here = tt
      written_within scope text t v (Some kind.Int) there is plain here = tt
      written_within scope text t v (Some kind.Addr) there is plain here = tt
      written_within scope text t v (Some kind.Bool) there is plain here = tt
      written_within scope text t v (Some (kind.Enum number default)) there is plain here = member_within scope text t v number default there is plain
      written_within scope text t v (Some kind.Machine) there is plain here = here some
      written_within scope text t v (Some kind.Dest) there is plain here = here some
      written_within scope text t v (Some kind.Block) there is plain here = tt
      written_within scope text t v (Some (kind.Entry x)) there is plain here = tt
      written_within scope text t v (Some (kind.Tbe x)) there is plain here = tt

      -- Fields.

      by_attribute : (f : FieldIn) (t : KnownType) (a : Option Attribute) → InTrees trees f.scope → field_type trees f ≡ Some t → IsWithin E (value_by trees f.kind.text t (field_kind trees f) a)
      by_attribute f t None there is = field_kind_within f
      by_attribute f t (Some a) there is =
          let same : field_kind trees f ≡ kind_or_bool (plain_kind trees t) = ap (λ (o : Option KnownType). kind_or_bool (option_and_then (plain_kind trees) o)) is in
          subst (λ (k : Kind). IsWithin E (value_written trees f.kind.text t k a.value)) (sym same)
          (written_within f.scope f.kind.text t a.value (plain_kind trees t) there is refl (or_bool (plain_kind trees t) (kind_within t)))

      by_type : (f : FieldIn) (o : Option KnownType) → InTrees trees f.scope → field_type trees f ≡ o → IsWithin E (initial_of trees f o)
      by_type f None there is = field_kind_within f
      by_type f (Some t) there is = by_attribute f t (first_attribute (codes "default") f.attributes) there is

      pub field_within : (f : FieldIn) → InTrees trees f.scope → IsWithin E (initial_value trees f)
      field_within f there = by_type f (field_type trees f) there refl

      abbrev pub Field-within : FieldSymbol → Type 0
      Field-within f = IsWithin E f.initial

      member_fields : (scope : Scope) (x : Member) → InTrees trees scope → All Field-within (field_symbol trees scope x)
      member_fields scope (Field type called attributes span) there = All-cons Field-within (field_of_type trees called.text (record { scope = scope; kind = type; attributes = attributes })) [] (field_within (record { scope = scope; kind = type; attributes = attributes }) there) (All-nil Field-within)
      member_fields scope (Method type called formals attributes span) there = All-nil Field-within
      member_fields scope (Skipped x) there = All-nil Field-within

      flat_all : {X Y : Type 0} (P : Y → Type 0) (f : X → List Y) (xs : List X) → ((x : X) → All P (f x)) → All P (flat_map f xs)
      flat_all P f [] each = All-nil P
      flat_all P f (x ∷ xs) each = All-append P (f x) (flat_map f xs) (each x) (flat_all P f xs each)

      abbrev Structure-within : StructureSymbol → Type 0
      Structure-within t = All Field-within t.fields

      declared_structure : (scope : Scope) (d : Declaration) → InTrees trees scope → All Structure-within (structure_declared trees scope d)
      declared_structure scope (structure x) there =
          All-cons Structure-within (record { name = x.name.text; machine = owner trees scope; fields = field_symbols trees scope x }) [] (flat_all Field-within (field_symbol trees scope) x.members (λ y. member_fields scope y there)) (All-nil Structure-within)
      declared_structure scope d there = All-nil Structure-within

      all_structures : (xs : List ScopedDeclaration) → All (λ (x : ScopedDeclaration). InTrees trees x.scope) xs → All Structure-within (flat_map (structure_symbol trees) xs)
      all_structures [] there = All-nil Structure-within
      all_structures (x ∷ xs) there =
          All-append Structure-within (structure_symbol trees x) (flat_map (structure_symbol trees) xs)
          (declared_structure x.scope x.declaration (All-head (λ (y : ScopedDeclaration). InTrees trees y.scope) x xs there))
          (all_structures xs (All-tail (λ (y : ScopedDeclaration). InTrees trees y.scope) x xs there))

      request_within : All Field-within (map request_field request_fields)
      request_within = All-map Field-within request_field request_fields (all_types request_fields)
        where
          all_types : (fs : List NamedType) → All (λ (f : NamedType). Field-within (request_field f)) fs
          all_types [] = All-nil (λ (f : NamedType). Field-within (request_field f))
          all_types (f ∷ fs) = All-cons (λ (g : NamedType). Field-within (request_field g)) f fs (or_bool (built_in_kind f.meaning) (built_in_within f.meaning) some) (all_types fs)

      pub structures_within : All Structure-within (structure_symbols trees)
      structures_within =
          All-append Structure-within (flat_map (structure_symbol trees) (declared_structures trees)) (request_symbol ∷ [])
          (all_structures (declared_structures trees) (All-filter (λ (d : ScopedDeclaration). is_counted_structure d.declaration) (λ (x : ScopedDeclaration). InTrees trees x.scope) (scoped_declarations trees) (scopes_in trees)))
          (All-cons Structure-within request_symbol [] request_within (All-nil Structure-within))
