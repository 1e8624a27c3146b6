-- What the program declares of structures and of tables, and what the symbols have of them: fields have the kinds of their symbols, and none
-- is a reference; a table's references have the kind that code gives them.
use Rattle.std.proofs.Common.{◌≡◌, ◌+◌, ◌==◌, ◌&&◌, ◌||◌, ℕ, Bool, true, false, not, Option, Some, List, [], ◌∷◌, All, IfSome, length, map, slice_get, option_and_then, refl, sym, ap, subst, ◌∙◌, if◌then◌else◌, arith}
use Rattle.std.specs.Option.{option_map}
use Rattle.std.specs.List.{list_any}
use Rattle.std.proofs.lemmas.List.{length-map}
use Rattle.std.proofs.lemmas.List.Elements.{All-append, All-cons, All-nil}
use Rattle.std.proofs.lemmas.List.Folds.{list_any-append}
use Rattle.std.proofs.lemmas.Option.{slice_get-map, slice_get_within}
use Rattle.ctl_face.proofs.Lines.{All-found}
use Rattle.ruby_value.specs.declared.kind.Kind.{Kind}
use Rattle.ruby_value.specs.declared.kind.Kind.TheVariants as kind
use Rattle.ruby_value.specs.Prelude.{is_reference}
use Rattle.ruby_symbols.specs.declared.machine.TableSort.{TableSort}
use Rattle.ruby_symbols.specs.declared.machine.TableSort.TheVariants as table_sort
use Rattle.ruby_symbols.specs.declared.machine.TableSymbol.{TableSymbol}
use Rattle.ruby_symbols.specs.declared.types.FieldSymbol.{FieldSymbol}
use Rattle.ruby_symbols.specs.declared.types.StructureSymbol.{StructureSymbol}
use Rattle.slicc_ast.specs.declared.tree.declaration.Member.{Member}
use Rattle.slicc_ast.specs.declared.tree.declaration.Member.TheVariants.{Field, Method, Skipped}
use Rattle.slicc_ast.specs.declared.tree.item.Tree.{Tree}
use Rattle.slicc_plan.specs.BuiltIn.{NamedType, request_fields}
use Rattle.slicc_plan.specs.Declarations.{Declaration, structure, Scope}
use Rattle.slicc_plan.specs.FieldTypes.{field_type}
use Rattle.slicc_plan.specs.Prelude.{declared_structures, symbols_of}
use Rattle.slicc_plan.specs.SymbolsOf.{symbols_of as symbols_made}
use Rattle.slicc_plan.specs.SymbolsOfTypes.{field_symbol, request_field, request_symbol, structure_declared, structure_symbol}
use Rattle.slicc_plan.specs.TypeNumbers.{ScopedDeclaration}
use Rattle.slicc_plan.proofs.NoReferences.{all_flat, all_mapped, built_in_plain, known_plain}
use Rattle.slicc_plan.proofs.There.{get_left, get_right}
use Rattle.action_code.specs.declared.program.TableDecl.{TableDecl}
use Rattle.action_code.specs.declared.program.TableSort.TheVariants as sort
use Rattle.action_code.specs.Prelude.{bare, field_of, is_of, kind_of_table, no_structure, same_sort, tables_of}
use Rattle.body_code.specs.Kinds.{has_tbes, is_tbes, lines_kind, sort_of, table_declared, tables_declared, values_structure}
use Rattle.body_code.specs.Programs.{kinds_of, values_kinds}
use Rattle.code_laws.specs.Setting.{IsSet, Setting, tables}

-- Fields are no references.

abbrev IsPlain : FieldSymbol → Type 0
IsPlain f = is_reference f.kind ≡ false

abbrev HasPlain : StructureSymbol → Type 0
HasPlain s = All IsPlain s.fields

field_plain : (trees : List Tree) (scope : Scope) (x : Member) → All IsPlain (field_symbol trees scope x)
field_plain trees scope (Field kind called attributes span) = All-cons IsPlain _ [] (known_plain trees (field_type trees (record { scope = scope; kind = kind; attributes = attributes }))) (All-nil IsPlain)
field_plain trees scope (Method kind called formals attributes span) = All-nil IsPlain
field_plain trees scope (Skipped s) = All-nil IsPlain

declared_plain : (trees : List Tree) (scope : Scope) (d : Declaration) → All HasPlain (structure_declared trees scope d)
declared_plain trees scope (structure s) = All-cons HasPlain _ [] (all_flat IsPlain (field_symbol trees scope) (field_plain trees scope) s.members) (All-nil HasPlain)
declared_plain trees scope _ = All-nil HasPlain

request_plain : HasPlain request_symbol
request_plain = all_mapped IsPlain request_field (λ (f : NamedType). built_in_plain f.meaning) request_fields

structures_plain : (trees : List Tree) → All HasPlain (symbols_of trees).structures
unfolding symbols_made
structures_plain trees =
    All-append HasPlain _ (request_symbol ∷ []) (all_flat HasPlain (structure_symbol trees) (λ (d : ScopedDeclaration). declared_plain trees d.scope d.declaration) (declared_structures trees))
    (All-cons HasPlain request_symbol [] request_plain (All-nil HasPlain))

pub at_place : {X : Type 0} (Q : X → Type 0) (xs : List X) (x : X) (n : ℕ) → All Q xs → slice_get xs n ≡ Some x → Q x
at_place Q xs x n all found = let T : Option _ → Type 0 = λ o. IfSome o Q in subst T found (All-found Q xs n all)

-- Tables.

sorts_same : (s : TableSort) → same_sort (sort_of s) sort.Tbe ≡ is_tbes s
sorts_same table_sort.Cache = refl
sorts_same table_sort.Directory = refl
sorts_same (table_sort.Tbe entries) = refl

tbes_mapped : (ts : List TableSymbol) (n : ℕ) → list_any (λ (t : TableDecl). same_sort t.sort sort.Tbe && t.structure == n) (map table_declared ts) ≡ list_any (λ (t : TableSymbol). is_tbes t.sort && t.structure == n) ts
tbes_mapped [] n = refl
tbes_mapped (t ∷ ts) n = ap (λ b. (b && t.structure == n) || list_any (λ (t : TableDecl). same_sort t.sort sort.Tbe && t.structure == n) (map table_declared ts)) (sorts_same t.sort) ∙ ap (λ b. (is_tbes t.sort && t.structure == n) || b) (tbes_mapped ts n)

or_false : (b : Bool) → (b || false) ≡ b
or_false true = refl
or_false false = refl

module _ (z : Setting) (is : IsSet z) where
  pub tables_are : tables z ≡ tables_declared z.s.symbols z.s.number z.s.machine
  tables_are = ap tables_of is.declared

  tbes_same : (n : ℕ) → is_of (tables z) sort.Tbe n ≡ has_tbes z.s.machine n
  tbes_same n =
      ap (λ ts. is_of ts sort.Tbe n) tables_are
      ∙ list_any-append (λ (t : TableDecl). same_sort t.sort sort.Tbe && t.structure == n) (map table_declared z.s.machine.tables) _
      ∙ ap (λ b. b || false) (tbes_mapped z.s.machine.tables n) ∙ or_false (has_tbes z.s.machine n)

  -- the kind of references to a table's lines
  pub lines_same : (t : TableSymbol) → kind_of_table (tables z) (table_declared t) ≡ lines_kind z.s.machine t
  lines_same t =
      ap (λ b. if b || not (t.structure == no_structure) && is_of (tables z) sort.Tbe t.structure then kind.Tbe t.structure else kind.Entry t.structure) (sorts_same t.sort)
      ∙ ap (λ b. if is_tbes t.sort || not (t.structure == no_structure) && b then kind.Tbe t.structure else kind.Entry t.structure) (tbes_same t.structure)

  -- a table of the machine is declared, and the one after them is that of its values
  pub table_there : (n : ℕ) (t : TableSymbol) → slice_get z.s.machine.tables n ≡ Some t → slice_get (tables z) n ≡ Some (table_declared t)
  table_there n t found =
      let mapped : slice_get (map table_declared z.s.machine.tables) n ≡ Some (table_declared t) = slice_get-map table_declared z.s.machine.tables n ∙ ap (option_map table_declared) found in
      ap (λ ts. slice_get ts n) tables_are ∙ get_left (map table_declared z.s.machine.tables) _ n (slice_get_within (map table_declared z.s.machine.tables) n (table_declared t) mapped) ∙ mapped

  pub values_table : slice_get (tables z) (length z.s.machine.tables) ≡ Some (record { sort = sort.Parameters; structure = values_structure z.s.symbols z.s.number })
  values_table =
      let n : length z.s.machine.tables ≡ length (map table_declared z.s.machine.tables) + 0 = omega (arith, length-map z.s.machine.tables table_declared) in
      ap (λ ts. slice_get ts (length z.s.machine.tables)) tables_are ∙ get_right (map table_declared z.s.machine.tables) _ (length z.s.machine.tables) 0 n

  -- Fields.

  pub structure_there : (n : ℕ) (t : StructureSymbol) → slice_get z.s.symbols.structures n ≡ Some t → slice_get z.p.structures n ≡ Some (kinds_of t.fields)
  structure_there n t found =
      let F : StructureSymbol → List Kind = λ t. kinds_of t.fields in
      let mapped : slice_get (map F z.s.symbols.structures) n ≡ Some (kinds_of t.fields) = slice_get-map F z.s.symbols.structures n ∙ ap (option_map F) found in
      ap (λ ss. slice_get ss n) is.structures ∙ get_left (map F z.s.symbols.structures) _ n (slice_get_within (map F z.s.symbols.structures) n (kinds_of t.fields) mapped) ∙ mapped

  field_by : (number field : ℕ) (kinds : List Kind) (k : Kind) → slice_get z.p.structures number ≡ Some kinds → slice_get kinds field ≡ Some k → field_of z.p (Some number) field ≡ Some (bare k)
  field_by number field kinds k there found =
      ap (λ o. option_map bare (option_and_then (λ (fields : List Kind). slice_get fields field) o)) there ∙ ap (option_map bare) found

  pub field_declared : (n field : ℕ) (t : StructureSymbol) (f : FieldSymbol) → slice_get z.s.symbols.structures n ≡ Some t → slice_get t.fields field ≡ Some f → field_of z.p (Some n) field ≡ Some (bare f.kind)
  field_declared n field t f there found =
      field_by n field (kinds_of t.fields) f.kind (structure_there n t there) (slice_get-map (λ (g : FieldSymbol). g.kind) t.fields field ∙ ap (option_map (λ (g : FieldSymbol). g.kind)) found)

  pub field_plainly : (n field : ℕ) (t : StructureSymbol) (f : FieldSymbol) → slice_get z.s.symbols.structures n ≡ Some t → slice_get t.fields field ≡ Some f → is_reference f.kind ≡ false
  field_plainly n field t f there found =
      let here : slice_get (symbols_of z.trees).structures n ≡ Some t = subst (λ ss. slice_get ss.structures n ≡ Some t) is.symbols there in
      at_place IsPlain t.fields f field (at_place HasPlain (symbols_of z.trees).structures t n (structures_plain z.trees) here) found

  -- a value of the machine
  pub value_declared : (n : ℕ) (v : FieldSymbol) → slice_get z.s.machine.values n ≡ Some v → field_of z.p (Some (values_structure z.s.symbols z.s.number)) n ≡ Some (bare v.kind)
  value_declared n v found =
      let F : StructureSymbol → List Kind = λ t. kinds_of t.fields in
      let after : values_structure z.s.symbols z.s.number ≡ length (map F z.s.symbols.structures) + z.s.number = ap (λ k. k + z.s.number) (sym (length-map z.s.symbols.structures F)) in
      let there : slice_get z.p.structures (values_structure z.s.symbols z.s.number) ≡ Some (values_kinds z.s.symbols z.s.machine) =
      ap (λ ss. slice_get ss (values_structure z.s.symbols z.s.number)) is.structures
      ∙ get_right (map F z.s.symbols.structures) (map (values_kinds z.s.symbols) z.s.symbols.machines) (values_structure z.s.symbols z.s.number) z.s.number after
      ∙ slice_get-map (values_kinds z.s.symbols) z.s.symbols.machines z.s.number ∙ ap (option_map (values_kinds z.s.symbols)) is.among in
      let mapped : slice_get (kinds_of z.s.machine.values) n ≡ Some v.kind = slice_get-map (λ (g : FieldSymbol). g.kind) z.s.machine.values n ∙ ap (option_map (λ (g : FieldSymbol). g.kind)) found in
      field_by (values_structure z.s.symbols z.s.number) n (values_kinds z.s.symbols z.s.machine) v.kind there
      (get_left (kinds_of z.s.machine.values) _ n (slice_get_within (kinds_of z.s.machine.values) n v.kind mapped) ∙ mapped)
