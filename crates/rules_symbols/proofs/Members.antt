-- The members of enumerations: a member that a body names has its number in the symbol of the type, and is a value of the type's kind.
use Rattle.std.proofs.Common.{◌≡◌, ◌∙◌, ◌≤◌, ◌||◌, ℕ, suc, Bool, true, false, cond, Option, None, Some, List, [], ◌∷◌, find, length, map, position, slice_get, refl, sym, ap, subst, arith, option_and_then, codes}
use Rattle.std.specs.Option.{option_map, option_or}
use Rattle.std.specs.Str.{bytes_eq}
use Rattle.ruby_value.specs.declared.kind.Kind.TheVariants as kind
use Rattle.ruby_symbols.specs.declared.types.EnumerationSymbol.{EnumerationSymbol}
use Rattle.ruby_symbols.specs.Types.{enumeration_named, enumeration_of, member_named}
use Rattle.slicc_ast.specs.declared.tree.declaration.State.{State}
use Rattle.slicc_ast.specs.declared.tree.declaration.Structure.{Structure}
use Rattle.slicc_ast.specs.declared.tree.declaration.Symbol.{Symbol}
use Rattle.slicc_ast.specs.declared.tree.item.Tree.{Tree}
use Rattle.slicc_ast.specs.declared.tree.machine.Machine.{Machine}
use Rattle.slicc_plan.specs.declared.built_in.BuiltInType.{BuiltInType}
use Rattle.slicc_plan.specs.declared.built_in.BuiltInType.TheVariants.{MachineType, AccessPermission, RequestType, MessageSize}
use Rattle.slicc_plan.specs.AllRules.{IsAccepted}
use Rattle.slicc_plan.specs.BuiltIn.{built_in_type, is_among, is_table_nature, nature_of}
use Rattle.slicc_plan.specs.Declarations.{Declaration, enumeration, structure, states, Scope, everywhere, within, first_named, global_declarations, is_external, is_named, machine_declarations, machines_of}
use Rattle.slicc_plan.specs.ExpressionTypes.{enumeration_members}
use Rattle.slicc_plan.specs.Lawful.{HasNumberedTypes}
use Rattle.slicc_plan.specs.Limits.{is_enumeration}
use Rattle.slicc_plan.specs.SymbolsOf.{symbols_of}
use Rattle.slicc_plan.specs.SymbolsOfTypes.{enumeration_symbol, enumeration_symbols, owner}
use Rattle.slicc_plan.specs.TypeNumbers.{ScopedDeclaration, declared_enumerations, declared_number, default_member, made_in, own_default, scoped_declarations, value_kind}
use Rattle.slicc_plan.specs.Types.{KnownType, built_in, enumerated, structured, declared_type, external_type, structure_type, table_named, table_or_none, type_in, type_of_found, type_where}
use Rattle.slicc_plan.proofs.There.{There, all_there, found_passes, in_machine, machine_there, there_filtered, there_found}
use Rattle.slicc_plan.proofs.Types.{enumeration_stands}
use Rattle.rules_symbols.proofs.Lists.{find_none, position_cons, short_position}
use Rattle.rules_symbols.proofs.TypeKinds.{first_found, first_place, later_place, no_enumeration, others, permissions, requests, sizes, types}
use Rattle.rules_symbols.proofs.TypeNames.{enumeration_kind, global_enumeration, own_enumeration, spelled, text_of_built_in}
use Rattle.rules_symbols.proofs.Types.{text_same}
use Rattle.rules_symbols.proofs.ValueKinds.{in_protocol}

or_first : (o p : Option ℕ) (n : ℕ) → o ≡ Some n → option_or o p ≡ Some n
or_first None p n is = absurd (cc is)
or_first (Some j) p n is = is

named_in : (names : List (List ℕ)) (text : List ℕ) → is_among names text ≡ true → (n : ℕ) × (position (λ name. bytes_eq name text) names ≡ Some n)
named_in [] text is = absurd (cc is)
named_in (name ∷ names) text is =
    let here = by (bytes_eq name text) is (λ rest. named_in names text rest) in
    (here.0, position_cons (λ x. bytes_eq x text) name names ∙ here.1)
  where
    by : (b : Bool) → (b || is_among names text) ≡ true → (is_among names text ≡ true → (n : ℕ) × (position (λ x. bytes_eq x text) names ≡ Some n)) → (n : ℕ) × (cond b (Some 0) (option_map suc (position (λ x. bytes_eq x text) names)) ≡ Some n)
    by true all in_rest = (0, refl)
    by false all in_rest = let rest = in_rest all in (suc rest.0, ap (option_map suc) rest.1)

-- a table has no members
no_members : (trees : List Tree) (b : BuiltInType) → is_table_nature (nature_of b) ≡ true → enumeration_members trees (built_in b) ≡ None
no_members trees MachineType is = absurd (cc is)
no_members trees AccessPermission is = absurd (cc is)
no_members trees RequestType is = absurd (cc is)
no_members trees MessageSize is = absurd (cc is)
no_members trees _ is = refl

table_members : (trees : List Tree) (text : List ℕ) (b : BuiltInType) → table_named text ≡ Some b → enumeration_members trees (built_in b) ≡ None
table_members trees text b is = by (built_in_type text) is
  where
    sorted : (c : BuiltInType) (v : Bool) → is_table_nature (nature_of c) ≡ v → cond v (Some c) None ≡ Some b → enumeration_members trees (built_in b) ≡ None
    sorted c true table some = let same : c ≡ b = cc some in no_members trees b (ap (λ d. is_table_nature (nature_of d)) (sym same) ∙ table)
    sorted c false table none = absurd (cc none)

    by : (o : Option BuiltInType) → table_or_none o ≡ Some b → enumeration_members trees (built_in b) ≡ None
    by None none = absurd (cc none)
    by (Some c) some = sorted c (is_table_nature (nature_of c)) refl some

module _ (trees : List Tree) (accepted : IsAccepted trees) (k : ℕ) (m : Machine) (at : slice_get (machines_of trees) k ≡ Some m) where
  -- the symbol of an enumeration that a name stands for: its members, and its default beside the kind of its values
  pub record EnumerationFound (text : List ℕ) (t : KnownType) (members : List (List ℕ)) : Type 0 where
    pub number : ℕ
    pub symbol : EnumerationSymbol
    pub named : enumeration_named (symbols_of trees) k text ≡ Some number
    pub stands : slice_get (symbols_of trees).enumerations number ≡ Some symbol
    pub has_members : symbol.members ≡ members
    pub has_kind : value_kind trees m t ≡ Some (kind.Enum number symbol.default)

  -- of a declared one, by its number
  of_declared : (text : List ℕ) (scope : Scope) (d : Declaration) (name : List ℕ) (members : List (List ℕ)) (symbol : EnumerationSymbol) → There (declared_enumerations trees) (made_in scope d)
      → declared_type scope d ≡ Some (enumerated scope name members) → enumeration_symbol trees (made_in scope d) ≡ symbol ∷ [] → symbol.members ≡ members
      → enumeration_named (symbols_of trees) k text ≡ declared_number trees (enumerated scope name members) → EnumerationFound text (enumerated scope name members) members
  unfolding symbols_of
  of_declared text scope d name members symbol there type made listed found =
      by (declared_number trees (enumerated scope name members)) refl (enumeration_stands trees accepted scope d name members members symbol there type made)
    where
      by : (o : Option ℕ) → declared_number trees (enumerated scope name members) ≡ o → option_and_then (slice_get (enumeration_symbols trees)) o ≡ Some symbol → EnumerationFound text (enumerated scope name members) members
      by None is none = absurd (cc none)
      by (Some n) is some =
          let kinds : option_map (λ (e : EnumerationSymbol). kind.Enum n e.default) (slice_get (enumeration_symbols trees) n) ≡ Some (kind.Enum n (default_member trees (enumerated scope name members))) = enumeration_kind trees (enumerated scope name members) n is in
          record {
            number = n;
            symbol = symbol;
            named = found ∙ is;
            stands = some;
            has_members = listed;
            has_kind = ap (option_map (λ number. kind.Enum number (default_member trees (enumerated scope name members)))) is
                ∙ sym kinds ∙ ap (option_map (λ (e : EnumerationSymbol). kind.Enum n e.default)) some;
          }

  own_found : (d : Declaration) → There (machine_declarations m) d → is_enumeration d ≡ true → (t : KnownType) (members : List (List ℕ)) (name : List ℕ) (symbol : EnumerationSymbol)
      → declared_type (within m) d ≡ Some (enumerated (within m) name members) → enumeration_symbol trees (made_in (within m) d) ≡ symbol ∷ [] → symbol.members ≡ members → EnumerationFound name (enumerated (within m) name members) members
  own_found d there is t members name symbol type made listed =
      of_declared name (within m) d name members symbol among type made listed (by (declared_number trees (enumerated (within m) name members)) refl)
    where
      among : There (declared_enumerations trees) (made_in (within m) d)
      among = there_filtered (λ (x : ScopedDeclaration). is_enumeration x.declaration) (scoped_declarations trees) (made_in (within m) d) (in_machine trees m d (machine_there (global_declarations trees) m (k, at)) there) is

      by : (o : Option ℕ) → declared_number trees (enumerated (within m) name members) ≡ o → enumeration_named (symbols_of trees) k name ≡ declared_number trees (enumerated (within m) name members)
      by None none =
          let stands = enumeration_stands trees accepted (within m) d name members members symbol among type made in
          let wrong : None ≡ Some symbol = sym (ap (option_and_then (slice_get (enumeration_symbols trees))) none) ∙ stands in absurd (cc wrong)
      by (Some n) some =
          or_first (enumeration_of (symbols_of trees) (Some k) name) (enumeration_of (symbols_of trees) None name) n (own_enumeration trees accepted k m at name members ∙ some) ∙ sym some

  global_found : (d : Declaration) → There (global_declarations trees) d → is_enumeration d ≡ true → (members : List (List ℕ)) (name : List ℕ) (symbol : EnumerationSymbol)
      → enumeration_of (symbols_of trees) (Some k) name ≡ None → built_in_type name ≡ None
      → declared_type everywhere d ≡ Some (enumerated everywhere name members) → enumeration_symbol trees (made_in everywhere d) ≡ symbol ∷ [] → symbol.members ≡ members → EnumerationFound name (enumerated everywhere name members) members
  global_found d there is members name symbol none not_built type made listed =
      of_declared name everywhere d name members symbol
      (there_filtered (λ (x : ScopedDeclaration). is_enumeration x.declaration) (scoped_declarations trees) (made_in everywhere d) (in_protocol trees d there) is)
      type made listed
      (ap (λ o. option_or o (enumeration_of (symbols_of trees) None name)) none ∙ global_enumeration trees accepted name members not_built)

  -- of one that is built in
  built_found : (b : BuiltInType) (members : List (List ℕ)) → enumeration_of (symbols_of trees) (Some k) (spelled b) ≡ None → enumeration_members trees (built_in b) ≡ Some members → EnumerationFound (spelled b) (built_in b) members
  unfolding symbols_of
  built_found MachineType members none is =
      record {
        number = 0;
        symbol = types trees accepted;
        named = ap (λ o. option_or o (enumeration_of (symbols_of trees) None (codes "MachineType"))) none
            ∙ first_found trees accepted (codes "MachineType") 0 (first_place trees accepted (codes "MachineType") (types trees accepted) (permissions trees accepted ∷ requests trees accepted ∷ sizes trees accepted ∷ others trees accepted) refl);
        stands = refl;
        has_members = cc is;
        has_kind = refl;
      }
  built_found AccessPermission members none is =
      let text = codes "AccessPermission" in
      record {
        number = 1;
        symbol = permissions trees accepted;
        named = ap (λ o. option_or o (enumeration_of (symbols_of trees) None text)) none
            ∙ first_found trees accepted text 1
            (later_place trees accepted text (types trees accepted) (permissions trees accepted ∷ requests trees accepted ∷ sizes trees accepted ∷ others trees accepted) 0 refl
            (first_place trees accepted text (permissions trees accepted) (requests trees accepted ∷ sizes trees accepted ∷ others trees accepted) refl));
        stands = refl;
        has_members = cc is;
        has_kind = refl;
      }
  built_found RequestType members none is =
      let text = codes "RubyRequestType" in
      record {
        number = 2;
        symbol = requests trees accepted;
        named = ap (λ o. option_or o (enumeration_of (symbols_of trees) None text)) none
            ∙ first_found trees accepted text 2
            (later_place trees accepted text (types trees accepted) (permissions trees accepted ∷ requests trees accepted ∷ sizes trees accepted ∷ others trees accepted) 1 refl
            (later_place trees accepted text (permissions trees accepted) (requests trees accepted ∷ sizes trees accepted ∷ others trees accepted) 0 refl
            (first_place trees accepted text (requests trees accepted) (sizes trees accepted ∷ others trees accepted) refl)));
        stands = refl;
        has_members = cc is;
        has_kind = refl;
      }
  built_found MessageSize members none is =
      let text = codes "MessageSizeType" in
      record {
        number = 3;
        symbol = sizes trees accepted;
        named = ap (λ o. option_or o (enumeration_of (symbols_of trees) None text)) none
            ∙ first_found trees accepted text 3
            (later_place trees accepted text (types trees accepted) (permissions trees accepted ∷ requests trees accepted ∷ sizes trees accepted ∷ others trees accepted) 2 refl
            (later_place trees accepted text (permissions trees accepted) (requests trees accepted ∷ sizes trees accepted ∷ others trees accepted) 1 refl
            (later_place trees accepted text (requests trees accepted) (sizes trees accepted ∷ others trees accepted) 0 refl
            (first_place trees accepted text (sizes trees accepted) (others trees accepted) refl))));
        stands = refl;
        has_members = cc is;
        has_kind = refl;
      }
  built_found _ members none is = absurd (cc is)

  pub enumeration_is : (text : List ℕ) (t : KnownType) (members : List (List ℕ)) → type_in trees (within m) text ≡ Some t → enumeration_members trees t ≡ Some members → EnumerationFound text t members
  enumeration_is text t members is listed = by (first_named text (machine_declarations m)) refl is
    where
      -- what a type's members are is known of the type
      moved : (name : List ℕ) (u : KnownType) (others : List (List ℕ)) → name ≡ text → u ≡ t → others ≡ members → EnumerationFound name u others → EnumerationFound text t members
      moved name u others names types lists found =
          subst (λ (x : List (List ℕ)). EnumerationFound text t x) lists (subst (λ (x : KnownType). EnumerationFound text x others) types (subst (λ (x : List ℕ). EnumerationFound x u others) names found))

      same_list : (u : KnownType) (others : List (List ℕ)) → u ≡ t → enumeration_members trees u ≡ Some others → others ≡ members
      same_list u others same is_so = let both : Some others ≡ Some members = sym is_so ∙ ap (enumeration_members trees) same ∙ listed in cc both

      -- structures have no members
      never : (scope : Scope) (s : Structure) → structured scope s ≡ t → ⊥
      never scope s same = cc (ap (enumeration_members trees) same ∙ listed)

      built : (b : BuiltInType) → enumeration_members trees (built_in b) ≡ None → Some (built_in b) ≡ Some t → ⊥
      built b none same = let one : built_in b ≡ t = cc same in cc (sym none ∙ ap (enumeration_members trees) one ∙ listed)

      external : (scope : Scope) (s : Structure) (o : Option BuiltInType) → table_named s.name.text ≡ o → Some (external_type scope s o) ≡ Some t → ⊥
      external scope s None named same = never scope s (cc same)
      external scope s (Some b) named same = built b (table_members trees s.name.text b named) same

      known : (scope : Scope) (s : Structure) (b : Bool) → Some (structure_type scope s b) ≡ Some t → ⊥
      known scope s true same = external scope s (table_named s.name.text) refl same
      known scope s false same = never scope s (cc same)

      of_own : (d : Declaration) → There (machine_declarations m) d → is_named text d ≡ true → declared_type (within m) d ≡ Some t → EnumerationFound text t members
      of_own (enumeration e) there named same =
          let names = map (λ (s : Symbol). s.name.text) e.members in
          let one : enumerated (within m) e.name.text names ≡ t = cc same in
          moved e.name.text (enumerated (within m) e.name.text names) names (text_same e.name.text text named) one (same_list (enumerated (within m) e.name.text names) names one refl)
          (own_found (enumeration e) there refl (enumerated (within m) e.name.text names) names e.name.text (record { name = e.name.text; machine = owner trees (within m); members = names; default = own_default (within m) (enumeration e) }) refl refl refl)
      of_own (states e) there named same =
          let names = map (λ (s : State). s.name.text) e.members in
          let one : enumerated (within m) e.name.text names ≡ t = cc same in
          moved e.name.text (enumerated (within m) e.name.text names) names (text_same e.name.text text named) one (same_list (enumerated (within m) e.name.text names) names one refl)
          (own_found (states e) there refl (enumerated (within m) e.name.text names) names e.name.text (record { name = e.name.text; machine = owner trees (within m); members = names; default = own_default (within m) (states e) }) refl refl refl)
      of_own (structure s) there named same = absurd (known (within m) s (is_external s) same)
      of_own _ there named same = absurd (cc same)

      of_global : (d : Declaration) → There (global_declarations trees) d → is_named text d ≡ true → enumeration_of (symbols_of trees) (Some k) text ≡ None → built_in_type text ≡ None → declared_type everywhere d ≡ Some t → EnumerationFound text t members
      of_global (enumeration e) there named none not_built same =
          let names = map (λ (s : Symbol). s.name.text) e.members in
          let one : enumerated everywhere e.name.text names ≡ t = cc same in
          let name = text_same e.name.text text named in
          moved e.name.text (enumerated everywhere e.name.text names) names name one (same_list (enumerated everywhere e.name.text names) names one refl)
          (global_found (enumeration e) there refl names e.name.text (record { name = e.name.text; machine = owner trees everywhere; members = names; default = own_default everywhere (enumeration e) })
          (ap (enumeration_of (symbols_of trees) (Some k)) name ∙ none) (ap built_in_type name ∙ not_built) refl refl refl)
      of_global (states e) there named none not_built same =
          let names = map (λ (s : State). s.name.text) e.members in
          let one : enumerated everywhere e.name.text names ≡ t = cc same in
          let name = text_same e.name.text text named in
          moved e.name.text (enumerated everywhere e.name.text names) names name one (same_list (enumerated everywhere e.name.text names) names one refl)
          (global_found (states e) there refl names e.name.text (record { name = e.name.text; machine = owner trees everywhere; members = names; default = own_default everywhere (states e) })
          (ap (enumeration_of (symbols_of trees) (Some k)) name ∙ none) (ap built_in_type name ∙ not_built) refl refl refl)
      of_global (structure s) there named none not_built same = absurd (known everywhere s (is_external s) same)
      of_global _ there named none not_built same = absurd (cc same)

      in_globals : (o : Option Declaration) → find (is_named text) (global_declarations trees) ≡ o → enumeration_of (symbols_of trees) (Some k) text ≡ None → built_in_type text ≡ None → type_of_found everywhere o ≡ Some t → EnumerationFound text t members
      in_globals None found none not_built same = absurd (cc same)
      in_globals (Some d) found none not_built same =
          of_global d (there_found (is_named text) (global_declarations trees) d found) (found_passes (is_named text) (global_declarations trees) d found) none not_built same

      in_protocol_type : (o : Option BuiltInType) → built_in_type text ≡ o → enumeration_of (symbols_of trees) (Some k) text ≡ None → option_or (option_map built_in o) (type_of_found everywhere (first_named text (global_declarations trees))) ≡ Some t → EnumerationFound text t members
      in_protocol_type None not_built none same = in_globals (first_named text (global_declarations trees)) refl none not_built same
      in_protocol_type (Some b) is_built none same =
          let one : built_in b ≡ t = cc same in
          let name = text_of_built_in text b is_built in
          moved (spelled b) (built_in b) members (sym name) one refl
          (built_found b members (ap (enumeration_of (symbols_of trees) (Some k)) (sym name) ∙ none) (ap (enumeration_members trees) one ∙ listed))

      by : (o : Option Declaration) → first_named text (machine_declarations m) ≡ o → type_where trees (within m) text o ≡ Some t → EnumerationFound text t members
      by (Some d) found same = of_own d (there_found (is_named text) (machine_declarations m) d found) (found_passes (is_named text) (machine_declarations m) d found) same
      by None found same =
          let none = no_enumeration trees accepted k m at text (λ d there named is_one. cc (sym (find_none (is_named text) (machine_declarations m) d found there) ∙ named)) in
          in_protocol_type (built_in_type text) refl none same

  -- a member by its name: its number, and its kind
  pub member_is : HasNumberedTypes (symbols_of trees) → (text called : List ℕ) (t : KnownType) (members : List (List ℕ)) → type_in trees (within m) text ≡ Some t → enumeration_members trees t ≡ Some members → is_among members called ≡ true
      → (n : ℕ) × (e : EnumerationSymbol) × (j : ℕ) × (enumeration_named (symbols_of trees) k text ≡ Some n) × (slice_get (symbols_of trees).enumerations n ≡ Some e) × (member_named e called ≡ Some j) × (value_kind trees m t ≡ Some (kind.Enum n e.default))
  member_is few text called t members is listed among =
      let found = enumeration_is text t members is listed in
      let e = found.symbol in
      let place = named_in members called among in
      let short : length e.members ≤ 65535 = all_there (λ (x : EnumerationSymbol). length x.members ≤ 65535) (symbols_of trees).enumerations e few.members (found.number, found.stands) in
      let few_so : length e.members ≤ 65536 = omega (arith, short) in (
        found.number,
        e,
        place.0,
        found.named,
        found.stands,
        short_position (λ member. bytes_eq member called) e.members few_so
            ∙ ap (position (λ member. bytes_eq member called)) found.has_members ∙ place.1,
        found.has_kind,
      )
