-- The kinds of values by the names of types: what the symbols say of a name is the kind of the type that it stands for.
use Rattle.std.proofs.Common.{◌≡◌, ◌∙◌, ◌==◌, ◌+◌, ◌&&◌, ◌||◌, ℕ, zero, suc, Bool, true, false, cond, Option, None, Some, List, [], ◌∷◌, eqb-true, find, flat_map, map, position, slice_get, refl, sym, ap, subst, arith, option_and_then, codes, inl, inr}
use Rattle.std.specs.Prelude.{◌⊎◌}
use Rattle.std.specs.Option.{option_map, option_or}
use Rattle.std.specs.Str.{bytes_eq}
use Rattle.std.proofs.lemmas.Bool.{and_parts, false_from_ne_true}
use Rattle.ruby_value.specs.declared.kind.Kind.{Kind}
use Rattle.ruby_value.specs.declared.kind.Kind.TheVariants as kind
use Rattle.ruby_symbols.specs.declared.machine.MachineSymbols.{MachineSymbols}
use Rattle.ruby_symbols.specs.declared.types.EnumerationSymbol.{EnumerationSymbol}
use Rattle.ruby_symbols.specs.declared.types.StructureSymbol.{StructureSymbol}
use Rattle.ruby_symbols.specs.Kinds.{kind_named, kind_of_enumeration, kind_of_own, kind_of_reference, simple_kind}
use Rattle.ruby_symbols.specs.Numbers.{is_number}
use Rattle.ruby_symbols.specs.Types.{enumeration_of, is_owner, structure_of}
use Rattle.slicc_ast.specs.declared.tree.declaration.State.{State}
use Rattle.slicc_ast.specs.declared.tree.declaration.Structure.{Structure}
use Rattle.slicc_ast.specs.declared.tree.declaration.Symbol.{Symbol}
use Rattle.slicc_ast.specs.declared.tree.item.Tree.{Tree}
use Rattle.slicc_ast.specs.declared.tree.machine.Machine.{Machine}
use Rattle.slicc_plan.specs.declared.built_in.BuiltInType.{BuiltInType}
use Rattle.slicc_plan.specs.declared.built_in.BuiltInType.TheVariants.{Int, Cycles, Tick, Bool as Boolean, Address, MachineId, MachineType, NetDest, DataBlock, AccessPermission, RequestType, MessageSize, Cache, Directory, TbeTable, Sequencer, Buffer}
use Rattle.slicc_plan.specs.AllRules.{IsAccepted}
use Rattle.slicc_plan.specs.Buffers.{is_same_known, is_same_scope}
use Rattle.slicc_plan.specs.BuiltIn.{built_in_type, is_table_nature, nature_of}
use Rattle.slicc_plan.specs.Declarations.{Declaration, enumeration, structure, states, Scope, everywhere, within, first_named, global_declarations, is_external, is_named, machine_declarations, machines_of}
use Rattle.slicc_plan.specs.Limits.{is_counted_structure, is_enumeration}
use Rattle.slicc_plan.specs.Machines.{directory_structure, entry_structure, tbe_structure}
use Rattle.slicc_plan.specs.SymbolsOf.{symbols_of}
use Rattle.slicc_plan.specs.SymbolsOfMachines.{line_number, machine_symbols}
use Rattle.slicc_plan.specs.SymbolsOfTypes.{built_in_enumeration, enumeration_symbol, enumeration_symbols, request_symbol, structure_symbol, structure_symbols}
use Rattle.slicc_plan.specs.TypeNumbers.{ScopedDeclaration, built_in_kind, declared_enumerations, declared_structures, declares, is_its, is_known_as, reference_kind, scoped_declarations, structure_number, value_kind}
use Rattle.slicc_plan.specs.Types.{KnownType, built_in, enumerated, structured, declared_type, external_type, global_type, structure_type, table_named, table_or_none, type_in, type_of_found, type_where}
use Rattle.slicc_plan.proofs.There.{There, found_passes, there_found}
use Rattle.rules_symbols.proofs.Lists.{filter_there, find_none, flat_there, position_cons, position_there, short_position, there_append}
use Rattle.rules_symbols.proofs.Owners.{named_once, own_declared, owned, text_turned}
use Rattle.rules_symbols.proofs.TypeNames.{few_enumerations, few_structures, global_enumeration, is_the_enumeration, is_the_structure, made_enumeration, made_structure, not_spelled, own_enumeration, own_structure, plain_found, spelled, text_of_built_in}
use Rattle.rules_symbols.proofs.Types.{known_alike, same_text, structures_alike, text_same}

-- Lines.

same_scope_itself : (scope : Scope) → is_same_scope scope scope ≡ true
same_scope_itself everywhere = refl
same_scope_itself (within m) = same_text m.name.text

same_structure_itself : (scope : Scope) (s : Structure) → is_same_known (structured scope s) (structured scope s) ≡ true
same_structure_itself scope s = ap (λ v. v && bytes_eq s.name.text s.name.text) (same_scope_itself scope) ∙ same_text s.name.text

-- structures of one number are one type
one_structure : (trees : List Tree) (a b : Scope) (s t : Structure) (n : ℕ) → structure_number trees (structured a s) ≡ Some n → structure_number trees (structured b t) ≡ Some n → is_same_known (structured a s) (structured b t) ≡ true
one_structure trees a b s t n first second =
    let x = position_there (declares (structured a s)) (declared_structures trees) n first in
    let y = position_there (declares (structured b t)) (declared_structures trees) n second in
    let both : Some x.0 ≡ Some y.0 = sym x.1 ∙ y.1 in
    let one : x.0 ≡ y.0 = cc both in
    by (declared_type x.0.scope x.0.declaration) x.2 (ap (λ (d : ScopedDeclaration). declares (structured b t) d) one ∙ y.2)
  where
    by : (o : Option KnownType) → is_known_as (structured a s) o ≡ true → is_known_as (structured b t) o ≡ true → is_same_known (structured a s) (structured b t) ≡ true
    by None is other = absurd (cc is)
    by (Some u) is other =
        known_alike (structured a s) u is (structured b t) ∙ sym (known_alike (structured b t) u other (structured b t)) ∙ same_structure_itself b t

-- a structure of a machine's lines by its number
line_is : (trees : List Tree) (m : Machine) (own : Option Structure) (scope : Scope) (s : Structure) (n : ℕ) → structure_number trees (structured scope s) ≡ Some n → is_number (line_number trees m own) (Some n) ≡ is_its m scope s own
line_is trees m None scope s n is = refl
line_is trees m (Some u) scope s n is = by (structure_number trees (structured (within m) u)) refl (is_same_known (structured scope s) (structured (within m) u)) refl
  where
    by : (o : Option ℕ) → structure_number trees (structured (within m) u) ≡ o → (b : Bool) → is_same_known (structured scope s) (structured (within m) u) ≡ b → is_number o (Some n) ≡ b
    by None none true same = let one = structures_alike trees scope (within m) s u same in cc (sym is ∙ one ∙ none)
    by None none false other = refl
    by (Some j) some true same =
        let one : Some n ≡ Some j = sym is ∙ structures_alike trees scope (within m) s u same ∙ some in
        let number : n ≡ j = cc one in
        grind arith
    by (Some j) some false other =
        false_from_ne_true (j == n)
        (λ equal.
        let number : j ≡ n = eqb-true j n equal in
        let same = one_structure trees scope (within m) s u n is (some ∙ ap Some number) in
        cc (sym other ∙ same))

pub reference_found : (trees : List Tree) (k : ℕ) (m : Machine) (scope : Scope) (s : Structure) (n : ℕ) → structure_number trees (structured scope s) ≡ Some n → kind_of_reference (machine_symbols trees k m) n ≡ reference_kind m scope s n
unfolding machine_symbols
reference_found trees k m scope s n is =
    let e = entry_structure m in
    let d = directory_structure m in
    let t = tbe_structure m in
    let line : Option Structure → Bool = λ own. is_number (line_number trees m own) (Some n) in
    ap (λ v. cond v (Some (kind.Tbe n)) (cond (line e || line d) (Some (kind.Entry n)) None)) (line_is trees m t scope s n is)
    ∙ ap (λ v. cond (is_its m scope s t) (Some (kind.Tbe n)) (cond (v || line d) (Some (kind.Entry n)) None)) (line_is trees m e scope s n is)
    ∙ ap (λ v. cond (is_its m scope s t) (Some (kind.Tbe n)) (cond (is_its m scope s e || v) (Some (kind.Entry n)) None)) (line_is trees m d scope s n is)

-- Built-in types.

tables_have_none : (b : BuiltInType) → is_table_nature (nature_of b) ≡ true → built_in_kind b ≡ None
tables_have_none Cache is = refl
tables_have_none Directory is = refl
tables_have_none TbeTable is = refl
tables_have_none Sequencer is = refl
tables_have_none Buffer is = refl
tables_have_none _ is = absurd (cc is)

table_found : (text : List ℕ) (b : BuiltInType) → table_named text ≡ Some b → built_in_kind b ≡ None
table_found text b is = by (built_in_type text) is
  where
    sorted : (c : BuiltInType) (v : Bool) → is_table_nature (nature_of c) ≡ v → cond v (Some c) None ≡ Some b → built_in_kind b ≡ None
    sorted c true yes_it_is some = let same : c ≡ b = cc some in tables_have_none b (ap (λ d. is_table_nature (nature_of d)) (sym same) ∙ yes_it_is)
    sorted c false other none = absurd (cc none)

    by : (o : Option BuiltInType) → table_or_none o ≡ Some b → built_in_kind b ≡ None
    by None none = absurd (cc none)
    by (Some c) some = sorted c (is_table_nature (nature_of c)) refl some

-- the kind of a name that is no built-in type's
no_simple : (text : List ℕ) → built_in_type text ≡ None → simple_kind text ≡ None
no_simple text none =
    let not_int = text_turned text (codes "int") ∙ not_spelled text Int none refl in
    let not_cycles = text_turned text (codes "Cycles") ∙ not_spelled text Cycles none refl in
    let not_tick = text_turned text (codes "Tick") ∙ not_spelled text Tick none refl in
    let not_bool = text_turned text (codes "bool") ∙ not_spelled text Boolean none refl in
    let not_addr = text_turned text (codes "Addr") ∙ not_spelled text Address none refl in
    let not_machine = text_turned text (codes "MachineID") ∙ not_spelled text MachineId none refl in
    let not_set = text_turned text (codes "NetDest") ∙ not_spelled text NetDest none refl in
    let not_block = text_turned text (codes "DataBlock") ∙ not_spelled text DataBlock none refl in
    by _ _ _ _ _ _ _ _ not_int not_cycles not_tick not_bool not_addr not_machine not_set not_block
  where
    by : (a b c d e f g h : Bool) → a ≡ false → b ≡ false → c ≡ false → d ≡ false → e ≡ false → f ≡ false → g ≡ false → h ≡ false
        → cond (a || b || c) (Some kind.Int) (cond d (Some kind.Bool) (cond e (Some kind.Addr) (cond f (Some kind.Machine) (cond g (Some kind.Dest) (cond h (Some kind.Block) None))))) ≡ None
    by false false false false false false false false a b c d e f g h = refl
    by true q c d e f g h is b' c' d' e' f' g' h' = absurd (cc is)
    by false true c d e f g h a' is c' d' e' f' g' h' = absurd (cc is)
    by false false true d e f g h a' b' is d' e' f' g' h' = absurd (cc is)
    by false false false true e f g h a' b' c' is e' f' g' h' = absurd (cc is)
    by false false false false true f g h a' b' c' d' is f' g' h' = absurd (cc is)
    by false false false false false true g h a' b' c' d' e' is g' h' = absurd (cc is)
    by false false false false false false true h a' b' c' d' e' f' is h' = absurd (cc is)
    by false false false false false false false true a' b' c' d' e' f' g' is = absurd (cc is)

-- Of types of a machine's own.

or_first : (o p : Option Kind) (k : Kind) → o ≡ Some k → option_or o p ≡ Some k
or_first None p k is = absurd (cc is)
or_first (Some j) p k is = is

module _ (trees : List Tree) (accepted : IsAccepted trees) where
  built_in_enumeration_kind : (text : List ℕ) (n : ℕ) (e : EnumerationSymbol) (own : MachineSymbols) → enumeration_of (symbols_of trees) None text ≡ Some n → slice_get (enumeration_symbols trees) n ≡ Some e → e.default ≡ 0
      → kind_of_own (symbols_of trees) own None text ≡ Some (kind.Enum n 0)
  unfolding symbols_of
  built_in_enumeration_kind text n e own found there default =
      or_first (option_and_then (kind_of_enumeration (symbols_of trees)) (enumeration_of (symbols_of trees) None text)) (option_and_then (kind_of_reference own) (structure_of (symbols_of trees) None text)) (kind.Enum n 0)
      (ap (option_and_then (kind_of_enumeration (symbols_of trees))) found
      ∙ ap (option_map (λ (x : EnumerationSymbol). kind.Enum n x.default)) there ∙ ap (λ d. Some (kind.Enum n d)) default)

  -- the four enumerations that are built in come first
  pub first_found : (text : List ℕ) (n : ℕ) → position (is_the_enumeration None text) (enumeration_symbols trees) ≡ Some n → enumeration_of (symbols_of trees) None text ≡ Some n
  unfolding symbols_of
  first_found text n is = short_position (is_the_enumeration None text) (enumeration_symbols trees) (few_enumerations trees accepted) ∙ is

  pub first_place : (text : List ℕ) (x : EnumerationSymbol) (xs : List EnumerationSymbol) → is_the_enumeration None text x ≡ true → position (is_the_enumeration None text) (x ∷ xs) ≡ Some 0
  first_place text x xs is =
      position_cons (is_the_enumeration None text) x xs ∙ ap (λ b. cond b (Some 0) (option_map suc (position (is_the_enumeration None text) xs))) is

  pub later_place : (text : List ℕ) (x : EnumerationSymbol) (xs : List EnumerationSymbol) (n : ℕ) → is_the_enumeration None text x ≡ false → position (is_the_enumeration None text) xs ≡ Some n → position (is_the_enumeration None text) (x ∷ xs) ≡ Some (suc n)
  later_place text x xs n is rest =
      position_cons (is_the_enumeration None text) x xs ∙ ap (λ b. cond b (Some 0) (option_map suc (position (is_the_enumeration None text) xs))) is ∙ ap (option_map suc) rest

  abbrev pub types : EnumerationSymbol
  types = built_in_enumeration trees (codes "MachineType") MachineType

  abbrev pub permissions : EnumerationSymbol
  permissions = built_in_enumeration trees (codes "AccessPermission") AccessPermission

  abbrev pub requests : EnumerationSymbol
  requests = built_in_enumeration trees (codes "RubyRequestType") RequestType

  abbrev pub sizes : EnumerationSymbol
  sizes = built_in_enumeration trees (codes "MessageSizeType") MessageSize

  abbrev pub others : List EnumerationSymbol
  others = flat_map (enumeration_symbol trees) (declared_enumerations trees)

  of_built_in : (own : MachineSymbols) (b : BuiltInType) (k : Kind) → built_in_kind b ≡ Some k → option_or (simple_kind (spelled b)) (kind_of_own (symbols_of trees) own None (spelled b)) ≡ Some k
  of_built_in own Int k is = is
  of_built_in own Cycles k is = is
  of_built_in own Tick k is = is
  of_built_in own Boolean k is = is
  of_built_in own Address k is = is
  of_built_in own MachineId k is = is
  of_built_in own NetDest k is = is
  of_built_in own DataBlock k is = is
  of_built_in own MachineType k is =
      built_in_enumeration_kind (codes "MachineType") 0 types own (first_found (codes "MachineType") 0 (first_place (codes "MachineType") types (permissions ∷ requests ∷ sizes ∷ others) refl)) refl refl ∙ is
  of_built_in own AccessPermission k is =
      let text = codes "AccessPermission" in
      built_in_enumeration_kind text 1 permissions own
      (first_found text 1 (later_place text types (permissions ∷ requests ∷ sizes ∷ others) 0 refl (first_place text permissions (requests ∷ sizes ∷ others) refl))) refl refl ∙ is
  of_built_in own RequestType k is =
      let text = codes "RubyRequestType" in
      built_in_enumeration_kind text 2 requests own
      (first_found text 2 (later_place text types (permissions ∷ requests ∷ sizes ∷ others) 1 refl (later_place text permissions (requests ∷ sizes ∷ others) 0 refl (first_place text requests (sizes ∷ others) refl)))) refl refl ∙ is
  of_built_in own MessageSize k is =
      let text = codes "MessageSizeType" in
      built_in_enumeration_kind text 3 sizes own
      (first_found text 3
      (later_place text types (permissions ∷ requests ∷ sizes ∷ others) 2 refl (later_place text permissions (requests ∷ sizes ∷ others) 1 refl (later_place text requests (sizes ∷ others) 0 refl (first_place text sizes others refl))))) refl refl ∙ is
  of_built_in own _ k is = absurd (cc is)

  -- structures that are declared right in the protocol are those of no machine's lines
  never_its : (m : Machine) (s : Structure) (own : Option Structure) → is_its m everywhere s own ≡ false
  never_its m s None = refl
  never_its m s (Some u) = refl

  global_structure : (m : Machine) (s : Structure) → value_kind trees m (structured everywhere s) ≡ None
  global_structure m s = by (structure_number trees (structured everywhere s))
    where
      none : (n : ℕ) (a b c : Bool) → a ≡ false → b ≡ false → c ≡ false → cond a (Some (kind.Tbe n)) (cond (b || c) (Some (kind.Entry n)) None) ≡ None
      none n false false false first second third = refl
      none n true b c first second third = absurd (cc first)
      none n false true c first second third = absurd (cc second)
      none n false false true first second third = absurd (cc third)

      by : (o : Option ℕ) → option_and_then (reference_kind m everywhere s) o ≡ None
      by None = refl
      by (Some n) = none n _ _ _ (never_its m s (tbe_structure m)) (never_its m s (entry_structure m)) (never_its m s (directory_structure m))

  of_protocol : (m : Machine) (own : MachineSymbols) (text : List ℕ) (t : KnownType) (k : Kind) → global_type trees text ≡ Some t → value_kind trees m t ≡ Some k → option_or (simple_kind text) (kind_of_own (symbols_of trees) own None text) ≡ Some k
  of_protocol m own text t k is valued = by (built_in_type text) refl is
    where
      Found : List ℕ → Type 0
      Found name = option_or (simple_kind name) (kind_of_own (symbols_of trees) own None name) ≡ Some k

      listed : (name : List ℕ) (members : List (List ℕ)) → built_in_type name ≡ None → value_kind trees m (enumerated everywhere name members) ≡ Some k → option_or (simple_kind name) (kind_of_own (symbols_of trees) own None name) ≡ Some k
      listed name members none has =
          ap (λ o. option_or o (kind_of_own (symbols_of trees) own None name)) (no_simple name none)
          ∙ or_first (option_and_then (kind_of_enumeration (symbols_of trees)) (enumeration_of (symbols_of trees) None name)) (option_and_then (kind_of_reference own) (structure_of (symbols_of trees) None name)) k
          (ap (option_and_then (kind_of_enumeration (symbols_of trees))) (global_enumeration trees accepted name members none) ∙ plain_found trees (enumerated everywhere name members) ∙ has)

      built : (b : BuiltInType) → built_in_kind b ≡ None → Some (built_in b) ≡ Some t → ⊥
      built b none same = let is_t : built_in b ≡ t = cc same in cc (sym none ∙ ap (value_kind trees m) is_t ∙ valued)

      external : (s : Structure) (o : Option BuiltInType) → table_named s.name.text ≡ o → Some (external_type everywhere s o) ≡ Some t → ⊥
      external s None named same = let is_t : structured everywhere s ≡ t = cc same in cc (sym (global_structure m s) ∙ ap (value_kind trees m) is_t ∙ valued)
      external s (Some b) named same = built b (table_found s.name.text b named) same

      known : (s : Structure) (b : Bool) → Some (structure_type everywhere s b) ≡ Some t → ⊥
      known s true same = external s (table_named s.name.text) refl same
      known s false same = let is_t : structured everywhere s ≡ t = cc same in cc (sym (global_structure m s) ∙ ap (value_kind trees m) is_t ∙ valued)

      declared : (d : Declaration) → is_named text d ≡ true → built_in_type text ≡ None → declared_type everywhere d ≡ Some t → option_or (simple_kind text) (kind_of_own (symbols_of trees) own None text) ≡ Some k
      declared (enumeration e) named none same =
          let members = map (λ (s : Symbol). s.name.text) e.members in
          let is_t : enumerated everywhere e.name.text members ≡ t = cc same in
          let name : e.name.text ≡ text = text_same e.name.text text named in
          subst (λ x. option_or (simple_kind x) (kind_of_own (symbols_of trees) own None x) ≡ Some k) name
          (listed e.name.text members (ap built_in_type name ∙ none) (ap (value_kind trees m) is_t ∙ valued))
      declared (states e) named none same =
          let members = map (λ (s : State). s.name.text) e.members in
          let is_t : enumerated everywhere e.name.text members ≡ t = cc same in
          let name : e.name.text ≡ text = text_same e.name.text text named in
          subst (λ x. option_or (simple_kind x) (kind_of_own (symbols_of trees) own None x) ≡ Some k) name
          (listed e.name.text members (ap built_in_type name ∙ none) (ap (value_kind trees m) is_t ∙ valued))
      declared (structure s) named none same = absurd (known s (is_external s) same)
      declared _ named none same = absurd (cc same)

      first : (o : Option Declaration) → find (is_named text) (global_declarations trees) ≡ o → built_in_type text ≡ None → type_of_found everywhere o ≡ Some t → option_or (simple_kind text) (kind_of_own (symbols_of trees) own None text) ≡ Some k
      first None found none same = absurd (cc same)
      first (Some d) found none same = declared d (found_passes (is_named text) (global_declarations trees) d found) none same

      by : (o : Option BuiltInType) → built_in_type text ≡ o → option_or (option_map built_in o) (type_of_found everywhere (first_named text (global_declarations trees))) ≡ Some t → option_or (simple_kind text) (kind_of_own (symbols_of trees) own None text) ≡ Some k
      by None none same = first (first_named text (global_declarations trees)) refl none same
      by (Some b) some same =
          let is_t : built_in b ≡ t = cc same in
          let name = text_of_built_in text b some in
          subst (λ x. option_or (simple_kind x) (kind_of_own (symbols_of trees) own None x) ≡ Some k) (sym name) (of_built_in own b k (ap (value_kind trees m) is_t ∙ valued))

  module _ (k : ℕ) (m : Machine) (at : slice_get (machines_of trees) k ≡ Some m) where
    -- what is found by a name among the machine's own types is declared by it
    abbrev DeclaredAs : (Declaration → Bool) → List ℕ → Type 0
    DeclaredAs p text = (d : Declaration) × There (machine_declarations m) d × (is_named text d ≡ true) × (p d ≡ true)

    own_enumeration_there : (text : List ℕ) (n : ℕ) → enumeration_of (symbols_of trees) (Some k) text ≡ Some n → DeclaredAs is_enumeration text
    own_enumeration_there text n is =
        by (position (declares (enumerated (within m) text [])) (declared_enumerations trees)) refl (sym (own_enumeration trees accepted k m at text []) ∙ is)
      where
        by : (o : Option ℕ) → position (declares (enumerated (within m) text [])) (declared_enumerations trees) ≡ o → option_map (λ j. 4 + j) o ≡ Some n → DeclaredAs is_enumeration text
        by None found none = absurd (cc none)
        by (Some j) found some =
            let there = position_there (declares (enumerated (within m) text [])) (declared_enumerations trees) j found in
            let x = there.0 in
            let inside = filter_there (λ (d : ScopedDeclaration). is_enumeration d.declaration) (scoped_declarations trees) x (j, there.1) in
            let made = made_enumeration trees x.scope x.declaration inside.1 in
            let parts = and_parts (is_same_scope (within m) x.scope) (bytes_eq made.symbol.name text) (made.alike (within m) text [] ∙ there.2) in
            (x.declaration, own_declared trees accepted k m at x inside.0 parts.0, made.named text ∙ parts.1, inside.1)

    own_structure_there : (text : List ℕ) (n : ℕ) → structure_of (symbols_of trees) (Some k) text ≡ Some n → DeclaredAs is_counted_structure text
    unfolding symbols_of
    own_structure_there text n is =
        let there = position_there (is_the_structure (Some k) text) (structure_symbols trees) n (sym (short_position (is_the_structure (Some k) text) (structure_symbols trees) (few_structures trees accepted)) ∙ is) in
        by there.0 there.2 (there_append (flat_map (structure_symbol trees) (declared_structures trees)) (request_symbol ∷ []) there.0 (n, there.1))
      where
        only : (y z : StructureSymbol) → There (y ∷ []) z → y ≡ z
        only y z (zero, is_z) = cc is_z
        only y z (suc j, is_z) = absurd (cc is_z)

        by : (y : StructureSymbol) → (is_owner y.machine (Some k) && bytes_eq y.name text) ≡ true → There (flat_map (structure_symbol trees) (declared_structures trees)) y ⊎ There (request_symbol ∷ []) y → DeclaredAs is_counted_structure text
        by y passes (inr last) =
            let same = only request_symbol y last in
            let wrong : false ≡ true = ap (λ (s : StructureSymbol). is_owner s.machine (Some k) && bytes_eq s.name text) same ∙ passes in absurd (cc wrong)
        by y passes (inl front) =
            let from = flat_there (structure_symbol trees) (declared_structures trees) y front in
            let x = from.0 in
            let inside = filter_there (λ (d : ScopedDeclaration). is_counted_structure d.declaration) (scoped_declarations trees) x from.1 in
            let made = made_structure trees x.scope x.declaration inside.1 in
            let same = only made.symbol y (subst (λ (ys : List StructureSymbol). There ys y) made.made from.2) in
            let parts = and_parts (is_owner y.machine (Some k)) (bytes_eq y.name text) passes in
            let scope : is_same_scope (within m) x.scope ≡ true =
            sym (owned trees accepted k m at x.scope) ∙ ap (λ o. is_owner o (Some k)) (sym made.machine) ∙ ap (λ (s : StructureSymbol). is_owner s.machine (Some k)) same ∙ parts.0 in
            (x.declaration, own_declared trees accepted k m at x inside.0 scope, made.named text ∙ ap (λ (s : StructureSymbol). bytes_eq s.name text) same ∙ parts.1, inside.1)

    pub no_enumeration : (text : List ℕ) → ((d : Declaration) → There (machine_declarations m) d → is_named text d ≡ true → is_enumeration d ≡ true → ⊥) → enumeration_of (symbols_of trees) (Some k) text ≡ None
    no_enumeration text never = by (enumeration_of (symbols_of trees) (Some k) text) refl
      where
        by : (o : Option ℕ) → enumeration_of (symbols_of trees) (Some k) text ≡ o → o ≡ None
        by None is = refl
        by (Some n) is = let d = own_enumeration_there text n is in absurd (never d.0 d.1 d.2 d.3)

    pub no_structure : (text : List ℕ) → ((d : Declaration) → There (machine_declarations m) d → is_named text d ≡ true → is_counted_structure d ≡ true → ⊥) → structure_of (symbols_of trees) (Some k) text ≡ None
    no_structure text never = by (structure_of (symbols_of trees) (Some k) text) refl
      where
        by : (o : Option ℕ) → structure_of (symbols_of trees) (Some k) text ≡ o → o ≡ None
        by None is = refl
        by (Some n) is = let d = own_structure_there text n is in absurd (never d.0 d.1 d.2 d.3)

    pub kind_is : (text : List ℕ) (t : KnownType) (kk : Kind) → type_in trees (within m) text ≡ Some t → value_kind trees m t ≡ Some kk → kind_named (symbols_of trees) k (machine_symbols trees k m) text ≡ Some kk
    kind_is text t kk is valued = by (first_named text (machine_declarations m)) refl is
      where
        own : MachineSymbols
        own = machine_symbols trees k m

        rest : List ℕ → Option Kind
        rest name = option_or (simple_kind name) (kind_of_own (symbols_of trees) (machine_symbols trees k m) None name)

        listed : (name : List ℕ) (members : List (List ℕ)) → value_kind trees m (enumerated (within m) name members) ≡ Some kk → kind_named (symbols_of trees) k (machine_symbols trees k m) name ≡ Some kk
        listed name members has =
            or_first (kind_of_own (symbols_of trees) (machine_symbols trees k m) (Some k) name) (option_or (simple_kind name) (kind_of_own (symbols_of trees) (machine_symbols trees k m) None name)) kk
            (or_first (option_and_then (kind_of_enumeration (symbols_of trees)) (enumeration_of (symbols_of trees) (Some k) name)) (option_and_then (kind_of_reference (machine_symbols trees k m)) (structure_of (symbols_of trees) (Some k) name)) kk
            (ap (option_and_then (kind_of_enumeration (symbols_of trees))) (own_enumeration trees accepted k m at name members) ∙ plain_found trees (enumerated (within m) name members) ∙ has))

        references : (s : Structure) (o : Option ℕ) → structure_number trees (structured (within m) s) ≡ o → option_and_then (kind_of_reference (machine_symbols trees k m)) o ≡ option_and_then (reference_kind m (within m) s) o
        references s None number = refl
        references s (Some n) number = reference_found trees k m (within m) s n number

        line : (s : Structure) → There (machine_declarations m) (structure s) → value_kind trees m (structured (within m) s) ≡ Some kk → kind_named (symbols_of trees) k (machine_symbols trees k m) s.name.text ≡ Some kk
        line s there has =
            let name = s.name.text in
            let none = no_enumeration name (λ d at_d named listed_one.
            let same = named_once trees accepted k m at name d (structure s) at_d there named (same_text name) in
            let wrong : false ≡ true = sym (ap is_enumeration same) ∙ listed_one in cc wrong) in
            or_first (kind_of_own (symbols_of trees) (machine_symbols trees k m) (Some k) name) (option_or (simple_kind name) (kind_of_own (symbols_of trees) (machine_symbols trees k m) None name)) kk
            (ap (λ o. option_or (option_and_then (kind_of_enumeration (symbols_of trees)) o) (option_and_then (kind_of_reference (machine_symbols trees k m)) (structure_of (symbols_of trees) (Some k) name))) none
            ∙ ap (option_and_then (kind_of_reference (machine_symbols trees k m))) (own_structure trees accepted k m at s)
            ∙ references s (structure_number trees (structured (within m) s)) refl ∙ has)

        external : (s : Structure) → There (machine_declarations m) (structure s) → (o : Option BuiltInType) → table_named s.name.text ≡ o → Some (external_type (within m) s o) ≡ Some t → kind_named (symbols_of trees) k (machine_symbols trees k m) s.name.text ≡ Some kk
        external s there None named same = let is_t : structured (within m) s ≡ t = cc same in line s there (ap (value_kind trees m) is_t ∙ valued)
        external s there (Some b) named same =
            let is_t : built_in b ≡ t = cc same in absurd (cc (sym (table_found s.name.text b named) ∙ ap (value_kind trees m) is_t ∙ valued))

        known : (s : Structure) → There (machine_declarations m) (structure s) → (b : Bool) → Some (structure_type (within m) s b) ≡ Some t → kind_named (symbols_of trees) k (machine_symbols trees k m) s.name.text ≡ Some kk
        known s there true same = external s there (table_named s.name.text) refl same
        known s there false same = let is_t : structured (within m) s ≡ t = cc same in line s there (ap (value_kind trees m) is_t ∙ valued)

        declared : (d : Declaration) → There (machine_declarations m) d → is_named text d ≡ true → declared_type (within m) d ≡ Some t → kind_named (symbols_of trees) k (machine_symbols trees k m) text ≡ Some kk
        declared (enumeration e) there named same =
            let members = map (λ (s : Symbol). s.name.text) e.members in
            let is_t : enumerated (within m) e.name.text members ≡ t = cc same in
            subst (λ x. kind_named (symbols_of trees) k (machine_symbols trees k m) x ≡ Some kk) (text_same e.name.text text named) (listed e.name.text members (ap (value_kind trees m) is_t ∙ valued))
        declared (states e) there named same =
            let members = map (λ (s : State). s.name.text) e.members in
            let is_t : enumerated (within m) e.name.text members ≡ t = cc same in
            subst (λ x. kind_named (symbols_of trees) k (machine_symbols trees k m) x ≡ Some kk) (text_same e.name.text text named) (listed e.name.text members (ap (value_kind trees m) is_t ∙ valued))
        declared (structure s) there named same =
            subst (λ x. kind_named (symbols_of trees) k (machine_symbols trees k m) x ≡ Some kk) (text_same s.name.text text named) (known s there (is_external s) same)
        declared _ there named same = absurd (cc same)

        by : (o : Option Declaration) → find (is_named text) (machine_declarations m) ≡ o → type_where trees (within m) text o ≡ Some t → kind_named (symbols_of trees) k (machine_symbols trees k m) text ≡ Some kk
        by (Some d) found same = declared d (there_found (is_named text) (machine_declarations m) d found) (found_passes (is_named text) (machine_declarations m) d found) same
        by None found same =
            let never : (d : Declaration) → There (machine_declarations m) d → is_named text d ≡ true → ⊥ = λ d there named. cc (sym (find_none (is_named text) (machine_declarations m) d found there) ∙ named) in
            let none = no_enumeration text (λ d there named is_one. never d there named) in
            let nothing = no_structure text (λ d there named is_one. never d there named) in
            ap (λ o. option_or (option_or (option_and_then (kind_of_enumeration (symbols_of trees)) o) (option_and_then (kind_of_reference (machine_symbols trees k m)) (structure_of (symbols_of trees) (Some k) text)))
            (option_or (simple_kind text) (kind_of_own (symbols_of trees) (machine_symbols trees k m) None text))) none
            ∙ ap (λ o. option_or (option_and_then (kind_of_reference (machine_symbols trees k m)) o) (option_or (simple_kind text) (kind_of_own (symbols_of trees) (machine_symbols trees k m) None text))) nothing
            ∙ of_protocol m (machine_symbols trees k m) text t kk same valued
