-- The fields of structures: what a body finds by a field's name in a type is, with its kind, what the type's symbol has under it.
use Rattle.std.proofs.Common.{◌≡◌, ◌∙◌, ◌+◌, ◌≤◌, ℕ, zero, suc, Bool, true, false, cond, Option, None, Some, List, [], ◌∷◌, find, flat_map, length, map, position, slice_get, refl, sym, ap, subst, arith, option_and_then}
use Rattle.std.specs.Prelude.{is_some}
use Rattle.std.specs.Option.{option_map, option_or}
use Rattle.std.specs.Str.{bytes_eq}
use Rattle.ruby_value.specs.declared.kind.Kind.{Kind}
use Rattle.ruby_symbols.specs.declared.types.FieldSymbol.{FieldSymbol}
use Rattle.ruby_symbols.specs.declared.types.StructureSymbol.{StructureSymbol}
use Rattle.ruby_symbols.specs.Types.{field_named}
use Rattle.slicc_ast.specs.declared.tree.declaration.Member.{Member}
use Rattle.slicc_ast.specs.declared.tree.declaration.Member.TheVariants.{Field, Method, Skipped}
use Rattle.slicc_ast.specs.declared.tree.declaration.Pairs.{Pairs}
use Rattle.slicc_ast.specs.declared.tree.declaration.State.{State}
use Rattle.slicc_ast.specs.declared.tree.declaration.Structure.{Structure}
use Rattle.slicc_ast.specs.declared.tree.declaration.Symbol.{Symbol}
use Rattle.slicc_ast.specs.declared.tree.item.Tree.{Tree}
use Rattle.slicc_ast.specs.declared.tree.machine.Machine.{Machine}
use Rattle.slicc_ast.specs.declared.tree.name.Name.{Name}
use Rattle.slicc_ast.specs.declared.tree.name.TypeName.{TypeName}
use Rattle.slicc_ast.specs.declared.tree.span.Span.{Span}
use Rattle.slicc_plan.specs.declared.built_in.BuiltInType.{BuiltInType}
use Rattle.slicc_plan.specs.declared.built_in.BuiltInType.TheVariants.{Request}
use Rattle.slicc_plan.specs.AllRules.{IsAccepted}
use Rattle.slicc_plan.specs.BuiltIn.{NamedType, built_in_type, request_fields, nature_of}
use Rattle.slicc_plan.specs.Declarations.{Declaration, enumeration, states, structure, member, Scope, everywhere, within, declared_in, first_named, global_declarations, is_external, is_named, machine_declarations, machine_names, machines_of, wide_scopes}
use Rattle.slicc_plan.specs.ExpressionTypes.{field_declared, field_in, fields_scope, request_field}
use Rattle.slicc_plan.specs.FieldTypes.{FieldIn, all_fields, field_of, fields_of, fields_within, may_be_field, no_field_type, refused_field, refused_for}
use Rattle.slicc_plan.specs.Lawful.{HasNumberedTypes}
use Rattle.slicc_plan.specs.Meanings.{Meaning, value, unknown, is_value, value_of_type}
use Rattle.slicc_plan.specs.Prototypes.{told_unless, unknown_built_in, unknown_structure}
use Rattle.slicc_plan.specs.SymbolsOf.{symbols_of}
use Rattle.slicc_plan.specs.SymbolsOfTypes.{field_of_type, field_symbol, field_symbols, owner, request_symbol, structure_symbol, structure_symbols}
use Rattle.slicc_plan.specs.SymbolsOfTypes as symbols
use Rattle.slicc_plan.specs.TypeNumbers.{built_in_kind, declared_structures, kind_or_bool, made_in, plain_kind, scoped_declarations, structure_number, value_kind}
use Rattle.slicc_plan.specs.Types.{KnownType, built_in, enumerated, structured, declared_type, external_type, global_type, nature_in, structure_type, table_named, type_in, type_of_found, type_where}
use Rattle.slicc_plan.specs.UnknownTypes.{member_uses, use_of}
use Rattle.slicc_plan.proofs.Messages.{none_unknown}
use Rattle.slicc_plan.proofs.Room.{mapped_at, none_at}
use Rattle.slicc_plan.proofs.There.{There, all_there, found_passes, get_right, in_machine, machine_there, there_flat, there_found}
use Rattle.slicc_plan.proofs.Types.{as_many, each_structure, structure_stands}
use Rattle.rules_symbols.specs.FieldsOf.{HasFieldsOf}
use Rattle.rules_symbols.specs.Fitting.{IsOfKind}
use Rattle.rules_symbols.specs.TypedMeaning.{IsStructureIn, IsTypeIn, IsTyped}
use Rattle.rules_symbols.proofs.Lists.{every_there, find_position, position_cons, position_mapped, position_some, short_position}
use Rattle.rules_symbols.proofs.Parameters.{machine_scope, none_refused, type_known}
use Rattle.rules_symbols.proofs.ValueKinds.{global_kind_there, in_protocol, kind_there}

-- The field of a name among the symbols of fields.

module _ (trees : List Tree) (scope : Scope) (text : List ℕ) where
  abbrev is_called : FieldSymbol → Bool
  is_called f = bytes_eq f.name text

  record FieldFound (ms : List Member) (f : FieldSymbol) : Type 0 where
    number : ℕ
    first : position is_called (flat_map (field_symbol trees scope) ms) ≡ Some number
    at : slice_get (flat_map (field_symbol trees scope) ms) number ≡ Some f

  abbrev field_made : TypeName → Name → Pairs → FieldSymbol
  field_made kind called attributes = field_of_type trees called.text (record { scope = scope; kind = kind; attributes = attributes })

  field_there : (ms : List Member) (kind : TypeName) (called : Name) (attributes : Pairs) (span : Span) → first_named text (map member ms) ≡ Some (member (Field kind called attributes span)) → FieldFound ms (field_made kind called attributes)
  field_there [] kind called attributes span is = absurd (cc is)
  field_there (Field kind0 called0 attributes0 span0 ∷ ms) kind called attributes span is =
      by (bytes_eq called0.text text) refl (λ rest. field_there ms kind called attributes span rest) is
    where
      here : FieldSymbol
      here = field_made kind0 called0 attributes0

      by : (b : Bool) → bytes_eq called0.text text ≡ b → (first_named text (map member ms) ≡ Some (member (Field kind called attributes span)) → FieldFound ms (field_made kind called attributes))
          → cond b (Some (member (Field kind0 called0 attributes0 span0))) (first_named text (map member ms)) ≡ Some (member (Field kind called attributes span)) → FieldFound (Field kind0 called0 attributes0 span0 ∷ ms) (field_made kind called attributes)
      by true named in_rest same =
          let one : Field kind0 called0 attributes0 span0 ≡ Field kind called attributes span = cc same in
          let kinds : kind0 ≡ kind = cc one in
          let names : called0 ≡ called = cc one in
          let pairs : attributes0 ≡ attributes = cc one in
          record {
            number = 0;
            first = position_cons is_called (field_made kind0 called0 attributes0) (flat_map (field_symbol trees scope) ms)
                ∙ ap (λ b. cond b (Some 0) (option_map suc (position is_called (flat_map (field_symbol trees scope) ms)))) named;
            at = ap (λ (k : TypeName). Some (field_made k called0 attributes0)) kinds ∙ ap (λ (n : Name). Some (field_made kind n attributes0)) names ∙ ap (λ (p : Pairs). Some (field_made kind called p)) pairs;
          }
      by false named in_rest same =
          let rest = in_rest same in
          record {
            number = suc rest.number;
            first = position_cons is_called (field_made kind0 called0 attributes0) (flat_map (field_symbol trees scope) ms)
                ∙ ap (λ b. cond b (Some 0) (option_map suc (position is_called (flat_map (field_symbol trees scope) ms)))) named ∙ ap (option_map suc) rest.first;
            at = rest.at;
          }
  field_there (Method kind0 called0 formals0 attributes0 span0 ∷ ms) kind called attributes span is =
      by (bytes_eq called0.text text) (λ rest. field_there ms kind called attributes span rest) is
    where
      by : (b : Bool) → (first_named text (map member ms) ≡ Some (member (Field kind called attributes span)) → FieldFound ms (field_made kind called attributes))
          → cond b (Some (member (Method kind0 called0 formals0 attributes0 span0))) (first_named text (map member ms)) ≡ Some (member (Field kind called attributes span)) → FieldFound (Method kind0 called0 formals0 attributes0 span0 ∷ ms) (field_made kind called attributes)
      by true in_rest same = absurd (cc same)
      by false in_rest same = let rest = in_rest same in record { number = rest.number; first = rest.first; at = rest.at }
  field_there (Skipped s ∷ ms) kind called attributes span is =
      by (bytes_eq s.name.text text) (λ rest. field_there ms kind called attributes span rest) is
    where
      by : (b : Bool) → (first_named text (map member ms) ≡ Some (member (Field kind called attributes span)) → FieldFound ms (field_made kind called attributes))
          → cond b (Some (member (Skipped s))) (first_named text (map member ms)) ≡ Some (member (Field kind called attributes span)) → FieldFound (Skipped s ∷ ms) (field_made kind called attributes)
      by true in_rest same = absurd (cc same)
      by false in_rest same = let rest = in_rest same in record { number = rest.number; first = rest.first; at = rest.at }

-- a member that is found is there
member_there : (ms : List Member) (x : Member) → There (map member ms) (member x) → There ms x
member_there [] x there = absurd (cc there.1)
member_there (y ∷ ys) x (zero, at) = let same : y ≡ x = cc at in (0, ap (λ (m : Member). Some m) same)
member_there (y ∷ ys) x (suc j, at) = let rest = member_there ys x (j, at) in (suc rest.0, rest.1)

-- Structures that names stand for.

module _ (trees : List Tree) (accepted : IsAccepted trees) where
  abbrev pub IsIn : Machine → KnownType → Type 0
  IsIn m t = IsTypeIn trees m t

  type_is_in : (m : Machine) (scope : Scope) → fields_scope m scope ≡ scope → There (wide_scopes trees) scope → (d : Declaration) → There (declared_in trees scope) d → There (scoped_declarations trees) (made_in scope d)
      → (t : KnownType) → declared_type scope d ≡ Some t → IsIn m t
  type_is_in m scope own among (structure s) there declared t is =
      known (is_external s) refl is (none_at (unknown_built_in (machine_names trees)) (declared_in trees scope) there.0 (structure s) (none_unknown trees accepted among.0 scope among.1) there.1)
    where
      external : (o : Option BuiltInType) → told_unless (is_some o) s.span ≡ [] → Some (external_type scope s o) ≡ Some t → IsIn m t
      external None none same = absurd (cc none)
      external (Some b) none same = let one : built_in b ≡ t = cc same in subst (λ (u : KnownType). IsIn m u) one tt

      known : (b : Bool) → is_external s ≡ b → Some (structure_type scope s b) ≡ Some t → unknown_structure (machine_names trees) s b ≡ [] → IsIn m t
      known true is_so same none = external (table_named s.name.text) none same
      known false is_so same none =
          let one : structured scope s ≡ t = cc same in
          subst (λ (u : KnownType). IsIn m u) one (record { among = among; there = there; declared = declared; is_own = is_so }, own)
  type_is_in m scope own among (enumeration e) there declared t is =
      let one : enumerated scope e.name.text (map (λ (x : Symbol). x.name.text) e.members) ≡ t = cc is in subst (λ (u : KnownType). IsIn m u) one own
  type_is_in m scope own among (states e) there declared t is =
      let one : enumerated scope e.name.text (map (λ (x : State). x.name.text) e.members) ≡ t = cc is in subst (λ (u : KnownType). IsIn m u) one own
  type_is_in m scope own among _ there declared t is = absurd (cc is)

  module _ (k : ℕ) (m : Machine) (at : slice_get (machines_of trees) k ≡ Some m) where
    global_is_in : (text : List ℕ) (t : KnownType) → global_type trees text ≡ Some t → IsIn m t
    global_is_in text t is = by (built_in_type text) is
      where
        first : (o : Option Declaration) → find (is_named text) (global_declarations trees) ≡ o → type_of_found everywhere o ≡ Some t → IsIn m t
        first None found same = absurd (cc same)
        first (Some d) found same =
            let place = there_found (is_named text) (global_declarations trees) d found in
            type_is_in m everywhere refl (0, refl) d place (in_protocol trees d place) t same

        by : (o : Option BuiltInType) → option_or (option_map built_in o) (type_of_found everywhere (first_named text (global_declarations trees))) ≡ Some t → IsIn m t
        by None same = first (first_named text (global_declarations trees)) refl same
        by (Some b) same = let one : built_in b ≡ t = cc same in subst (λ (u : KnownType). IsIn m u) one tt

    pub named_is_in : (text : List ℕ) (t : KnownType) → type_in trees (within m) text ≡ Some t → IsIn m t
    named_is_in text t is = by (first_named text (machine_declarations m)) refl is
      where
        by : (o : Option Declaration) → find (is_named text) (machine_declarations m) ≡ o → type_where trees (within m) text o ≡ Some t → IsIn m t
        by None found same = global_is_in text t same
        by (Some d) found same =
            let place = there_found (is_named text) (machine_declarations m) d found in
            type_is_in m (within m) refl (machine_scope trees accepted k m at) d place (in_machine trees m d (machine_there (global_declarations trees) m (k, at)) place) t same

    -- The types of fields.

    record FieldTyped (scope : Scope) (kind : TypeName) : Type 0 where
      type : KnownType
      found : type_in trees scope kind.text ≡ Some type
      valued : is_value m type ≡ true
      its_kind : Kind
      has_kind : value_kind trees m type ≡ Some its_kind
      is_plain : plain_kind trees type ≡ Some its_kind

    field_typed : (scope : Scope) (s : Structure) → IsStructureIn trees scope s → fields_scope m scope ≡ scope → (kind : TypeName) (called : Name) (attributes : Pairs) (span : Span) → There s.members (Field kind called attributes span) → FieldTyped scope kind
    field_typed scope s inside own kind called attributes span there =
        let used = type_known trees accepted scope inside.among (structure s) inside.there (use_of kind)
        (subst (λ b. There (cond b [] (flat_map member_uses s.members)) (use_of kind)) (sym inside.is_own)
        (there_flat member_uses s.members (Field kind called attributes span) (use_of kind) there (0, refl))) refl in
        let f : FieldIn = record { scope = scope; kind = kind; attributes = attributes } in
        let in_structure : There (fields_of scope (structure s)) f = subst (λ b. There (cond b [] (flat_map (field_of scope) s.members)) f) (sym inside.is_own)
        (there_flat (field_of scope) s.members (Field kind called attributes span) f there (0, refl)) in
        let among : There (all_fields trees) f = there_flat (fields_within trees) (wide_scopes trees) scope f inside.among (there_flat (fields_of scope) (declared_in trees scope) (structure s) f inside.there in_structure) in
        let none = none_at (refused_field trees) (all_fields trees) among.0 f (none_refused trees accepted) among.1 in
        let may : may_be_field (nature_in used.0) ≡ true = allowed (may_be_field (nature_in used.0)) (sym (ap (refused_for kind.span) used.1) ∙ none) in
        typed used.0 used.1 may
      where
        allowed : (b : Bool) → cond b [] (no_field_type kind.span ∷ []) ≡ [] → b ≡ true
        allowed true e = refl
        allowed false e = absurd (cc e)

        valued_kind : (x : Scope) → fields_scope m x ≡ x → (t : KnownType) → type_in trees x kind.text ≡ Some t → is_value m t ≡ true → (kk : Kind) × (value_kind trees m t ≡ Some kk)
        valued_kind everywhere same t is valued = global_kind_there trees k m at kind.text t is valued
        valued_kind (within n) same t is valued =
            let one : within n ≡ within m = sym same in
            kind_there trees k m at kind.text t (ap (λ (y : Scope). type_in trees y kind.text) (sym one) ∙ is) valued

        typed : (t : KnownType) → type_in trees scope kind.text ≡ Some t → may_be_field (nature_in t) ≡ true → FieldTyped scope kind
        typed (built_in b) is may =
            let has = valued_kind scope own (built_in b) is may in
            record { type = built_in b; found = is; valued = may; its_kind = has.0; has_kind = has.1; is_plain = has.1 }
        typed (enumerated x text members) is may =
            let has = valued_kind scope own (enumerated x text members) is refl in
            record { type = enumerated x text members; found = is; valued = refl; its_kind = has.0; has_kind = has.1; is_plain = has.1 }
        typed (structured x u) is may = absurd (cc may)

    -- Under the number of a structure stands a symbol with its fields.

    fields_of_structure : HasNumberedTypes (symbols_of trees) → (scope : Scope) (s : Structure) → IsStructureIn trees scope s → fields_scope m scope ≡ scope → (n : ℕ) → structure_number trees (structured scope s) ≡ Some n
        → (symbol : StructureSymbol) × (slice_get (symbols_of trees).structures n ≡ Some symbol) × HasFieldsOf trees m (structured scope s) symbol
    unfolding symbols_of
    fields_of_structure few scope s inside own n number = (symbol, stands, each)
      where
        symbol : StructureSymbol
        symbol = record { name = s.name.text; machine = owner trees scope; fields = field_symbols trees scope s }

        stands : slice_get (structure_symbols trees) n ≡ Some symbol
        stands = sym (ap (option_and_then (slice_get (structure_symbols trees))) number) ∙ structure_stands trees accepted scope s inside.declared inside.is_own

        short : length (field_symbols trees scope s) ≤ 64
        short = all_there (λ (t : StructureSymbol). length t.fields ≤ 64) (structure_symbols trees) symbol few.fields (n, stands)

        of_field : (text : List ℕ) (meaning : Meaning) (kind : TypeName) (called : Name) (attributes : Pairs) (span : Span) → first_named text (map member s.members) ≡ Some (member (Field kind called attributes span))
            → Some (value_of_type m (type_in trees (fields_scope m scope) kind.text)) ≡ Some meaning
            → (j : ℕ) × (f : FieldSymbol) × (field_named (field_symbols trees scope s) text ≡ Some j) × (slice_get (field_symbols trees scope s) j ≡ Some f) × IsOfKind trees m f.kind meaning
        of_field text meaning kind called attributes span found is =
            let in_list = member_there s.members (Field kind called attributes span) (there_found (is_named text) (map member s.members) (member (Field kind called attributes span)) found) in
            let typed = field_typed scope s inside own kind called attributes span in_list in
            let means : meaning ≡ value typed.type =
            value_of (sym is ∙ ap (λ (x : Scope). Some (value_of_type m (type_in trees x kind.text))) own ∙ ap (λ (o : Option KnownType). Some (value_of_type m o)) typed.found ∙ ap (λ b. Some (cond b (value typed.type) unknown)) typed.valued) in
            let place = field_there trees scope text s.members kind called attributes span found in
            let few_so : length (field_symbols trees scope s) ≤ 65536 = omega (arith, short) in
            let its : plain_of (type_in trees scope kind.text) ≡ typed.its_kind = ap plain_of typed.found ∙ ap kind_or_bool typed.is_plain in (
              place.number,
              field_made trees scope text kind called attributes,
              short_position (λ (f : FieldSymbol). bytes_eq f.name text) (field_symbols trees scope s) few_so ∙ place.first,
              place.at,
              subst (λ (x : Meaning). IsOfKind trees m (plain_of (type_in trees scope kind.text)) x) (sym means) (typed.has_kind ∙ ap Some (sym its)),
            )
          where
            value_of : {x y : Meaning} → Some x ≡ Some y → x ≡ y
            value_of e = cc e

            plain_of : Option KnownType → Kind
            plain_of o = kind_or_bool (option_and_then (plain_kind trees) o)

        each : HasFieldsOf trees m (structured scope s) symbol
        each text meaning is = by (first_named text (map member s.members)) refl is
          where
            by : (o : Option Declaration) → first_named text (map member s.members) ≡ o → field_declared trees m (fields_scope m scope) o ≡ Some meaning
                → (j : ℕ) × (f : FieldSymbol) × (field_named (field_symbols trees scope s) text ≡ Some j) × (slice_get (field_symbols trees scope s) j ≡ Some f) × IsOfKind trees m f.kind meaning
            by (Some (member (Field kind called attributes span))) found same = of_field text meaning kind called attributes span found same
            by _ found same = absurd (cc same)

    fields_of_request : (n : ℕ) → structure_number trees (built_in Request) ≡ Some n → (symbol : StructureSymbol) × (slice_get (symbols_of trees).structures n ≡ Some symbol) × HasFieldsOf trees m (built_in Request) symbol
    unfolding symbols_of
    fields_of_request n number =
        let front = flat_map (structure_symbol trees) (declared_structures trees) in
        let last : length (declared_structures trees) ≡ n = cc number in
        let place : n ≡ length front + 0 = omega (arith, last, as_many (structure_symbol trees) (declared_structures trees) (each_structure trees)) in
        (request_symbol, get_right front (request_symbol ∷ []) n 0 place, each)
      where
        some_kind : (o : Option Kind) → is_some o ≡ true → o ≡ Some (kind_or_bool o)
        some_kind None is = absurd (cc is)
        some_kind (Some kk) is = refl

        each : HasFieldsOf trees m (built_in Request) request_symbol
        each text meaning is = by (find (λ (f : NamedType). bytes_eq f.name text) request_fields) refl is
          where
            called : NamedType → Bool
            called f = bytes_eq f.name text

            by : (o : Option NamedType) → find (λ (f : NamedType). bytes_eq f.name text) request_fields ≡ o → option_map (λ (f : NamedType). value (built_in f.meaning)) o ≡ Some meaning
                → (j : ℕ) × (f : FieldSymbol) × (field_named request_symbol.fields text ≡ Some j) × (slice_get request_symbol.fields j ≡ Some f) × IsOfKind trees m f.kind meaning
            by None found same = absurd (cc same)
            by (Some f) found same =
                let test : NamedType → Bool = λ (g : NamedType). bytes_eq g.name text in
                let means : value (built_in f.meaning) ≡ meaning = cc same in
                let there = there_found test request_fields f found in
                let place = position_some test request_fields f there (found_passes test request_fields f found) in
                let at_place : slice_get request_fields place.0 ≡ Some f = sym (find_position test request_fields place.0 place.1) ∙ found in
                let kinded = every_there (λ (g : NamedType). is_some (built_in_kind g.meaning)) request_fields f refl there in
                let few_so : length (map symbols.request_field request_fields) ≤ 65536 = omega arith in (
                  place.0,
                  symbols.request_field f,
                  short_position (λ (g : FieldSymbol). bytes_eq g.name text) (map symbols.request_field request_fields) few_so
                      ∙ position_mapped (λ (g : FieldSymbol). bytes_eq g.name text) symbols.request_field request_fields ∙ place.1,
                  mapped_at symbols.request_field request_fields place.0 f at_place,
                  subst (λ (x : Meaning). IsOfKind trees m (kind_or_bool (built_in_kind f.meaning)) x) means (some_kind (built_in_kind f.meaning) kinded),
                )

    pub of_type : HasNumberedTypes (symbols_of trees) → (t : KnownType) → IsIn m t → (n : ℕ) → structure_number trees t ≡ Some n → (symbol : StructureSymbol) × (slice_get (symbols_of trees).structures n ≡ Some symbol) × HasFieldsOf trees m t symbol
    of_type few (structured scope s) inside n number = fields_of_structure few scope s inside.0 inside.1 n number
    of_type few (built_in Request) inside n number = fields_of_request n number
    of_type few (built_in _) inside n number = absurd (cc number)
    of_type few (enumerated scope text members) inside n number = absurd (cc number)

    -- what a name stands for in the machine has its fields under its number
    pub fields_stand : HasNumberedTypes (symbols_of trees) → (text : List ℕ) (t : KnownType) → type_in trees (within m) text ≡ Some t → (n : ℕ) → structure_number trees t ≡ Some n
        → (symbol : StructureSymbol) × (slice_get (symbols_of trees).structures n ≡ Some symbol) × HasFieldsOf trees m t symbol
    fields_stand few text t is n number = of_type few t (named_is_in text t is) n number

    -- and so has a machine's own structure
    pub own_fields_stand : HasNumberedTypes (symbols_of trees) → (s : Structure) → There (machine_declarations m) (structure s) → is_external s ≡ false → (n : ℕ) → structure_number trees (structured (within m) s) ≡ Some n
        → (symbol : StructureSymbol) × (slice_get (symbols_of trees).structures n ≡ Some symbol) × HasFieldsOf trees m (structured (within m) s) symbol
    own_fields_stand few s there own n number =
        fields_of_structure few (within m) s
        (record { among = machine_scope trees accepted k m at; there = there; declared = in_machine trees m (structure s) (machine_there (global_declarations trees) m (k, at)) there; is_own = own }) refl n number

    -- What a body finds under a field's name.

    type_of_field : (scope : Scope) → fields_scope m scope ≡ scope → (text : List ℕ) (t : KnownType) → type_in trees scope text ≡ Some t → IsTypeIn trees m t
    type_of_field everywhere own text t is = global_is_in text t is
    type_of_field (within n) own text t is = let same : within n ≡ within m = sym own in named_is_in text t (ap (λ (x : Scope). type_in trees x text) (sym same) ∙ is)

    field_of_structure : (scope : Scope) (s : Structure) → IsStructureIn trees scope s → fields_scope m scope ≡ scope → (text : List ℕ) (meaning : Meaning) → field_in trees m (structured scope s) text ≡ Some meaning → IsTyped trees m meaning
    field_of_structure scope s inside own text meaning is = by (first_named text (map member s.members)) refl is
      where
        by : (o : Option Declaration) → first_named text (map member s.members) ≡ o → field_declared trees m (fields_scope m scope) o ≡ Some meaning → IsTyped trees m meaning
        by (Some (member (Field kind called attributes span))) found same =
            let in_list = member_there s.members (Field kind called attributes span) (there_found (is_named text) (map member s.members) (member (Field kind called attributes span)) found) in
            let typed = field_typed scope s inside own kind called attributes span in_list in
            let both : Some meaning ≡ Some (value typed.type) =
            sym same ∙ ap (λ (x : Scope). Some (value_of_type m (type_in trees x kind.text))) own ∙ ap (λ (o : Option KnownType). Some (value_of_type m o)) typed.found ∙ ap (λ b. Some (cond b (value typed.type) unknown)) typed.valued in
            let means : meaning ≡ value typed.type = cc both in
            subst (λ (x : Meaning). IsTyped trees m x) (sym means) (typed.valued, type_of_field scope own kind.text typed.type typed.found, (typed.its_kind, typed.has_kind))
        by _ found same = absurd (cc same)

    field_of_request : (text : List ℕ) (meaning : Meaning) → request_field text ≡ Some meaning → IsTyped trees m meaning
    field_of_request text meaning is = by (find (λ (f : NamedType). bytes_eq f.name text) request_fields) refl is
      where
        some_kind : (o : Option Kind) → is_some o ≡ true → (kk : Kind) × (o ≡ Some kk)
        some_kind None none = absurd (cc none)
        some_kind (Some kk) some = (kk, refl)

        by : (o : Option NamedType) → find (λ (f : NamedType). bytes_eq f.name text) request_fields ≡ o → option_map (λ (f : NamedType). value (built_in f.meaning)) o ≡ Some meaning → IsTyped trees m meaning
        by None found same = absurd (cc same)
        by (Some f) found same =
            let means : value (built_in f.meaning) ≡ meaning = cc same in
            let there = there_found (λ (g : NamedType). bytes_eq g.name text) request_fields f found in
            let may = every_there (λ (g : NamedType). may_be_field (nature_of g.meaning)) request_fields f refl there in
            let kinded = every_there (λ (g : NamedType). is_some (built_in_kind g.meaning)) request_fields f refl there in
            subst (λ (x : Meaning). IsTyped trees m x) means (may, tt, some_kind (built_in_kind f.meaning) kinded)

    pub field_meaning : (t : KnownType) → IsTypeIn trees m t → (text : List ℕ) (meaning : Meaning) → field_in trees m t text ≡ Some meaning → IsTyped trees m meaning
    field_meaning (structured scope s) inside text meaning is = field_of_structure scope s inside.0 inside.1 text meaning is
    field_meaning (built_in Request) inside text meaning is = field_of_request text meaning is
    field_meaning (built_in _) inside text meaning is = absurd (cc is)
    field_meaning (enumerated scope name members) inside text meaning is = absurd (cc is)
