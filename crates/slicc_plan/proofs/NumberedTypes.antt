-- The types of an accepted protocol, their members and their fields are within its limits.
use Rattle.std.proofs.Common.{◌≡◌, ◌++◌, ◌≤◌, ℕ, Bool, true, false, cond, not, codes, Option, List, [], ◌∷◌, All, filter, flat_map, length, map, refl, ap, suc, arith, length-append}
use Rattle.std.proofs.lemmas.List.{length-map}
use Rattle.std.proofs.lemmas.List.Elements.{All-append, All-cons, All-filter, All-head, All-nil, All-tail, filter_passes}
use Rattle.ruby_symbols.specs.declared.types.EnumerationSymbol.{EnumerationSymbol}
use Rattle.ruby_symbols.specs.declared.types.StructureSymbol.{StructureSymbol}
use Rattle.slicc_ast.specs.declared.tree.declaration.Member.{Member}
use Rattle.slicc_ast.specs.declared.tree.declaration.Member.TheVariants.{Field, Method, Skipped}
use Rattle.slicc_ast.specs.declared.tree.declaration.State.{State}
use Rattle.slicc_ast.specs.declared.tree.declaration.Symbol.{Symbol}
use Rattle.slicc_ast.specs.declared.tree.item.Tree.{Tree}
use Rattle.slicc_ast.specs.declared.tree.machine.Machine.{Machine}
use Rattle.slicc_plan.specs.declared.built_in.BuiltInType.TheVariants.{MachineType, AccessPermission, RequestType, MessageSize}
use Rattle.slicc_plan.specs.Declarations.{enumeration, structure}
use Rattle.slicc_plan.specs.Limits.{most_members}
use Rattle.slicc_plan.specs.SymbolsOfTypes.{enumeration_declared}
use Rattle.slicc_plan.specs.Prelude.{IsAccepted, Declaration, machine, states, symbol, state, member, Scope, everywhere, within, global_declarations, is_external, machine_declarations, machine_in, machines_of, beyond, beyond_in_declaration, beyond_in_scope, fields_in, is_counted_structure, is_enumeration, is_field, machine_limits, members_in, most_fields, built_in_enumeration, built_in_symbols, enumeration_symbol, field_symbol, field_symbols, own_default, owner, request_symbol, structure_declared, structure_symbol, symbols_of, ScopedDeclaration, declared_enumerations, declared_structures, made_in, made_with_its_own, scoped_declarations, HasNumberedTypes}
use Rattle.slicc_plan.proofs.Few.{few_machines, few_types, limits_kept, within_limit}
use Rattle.slicc_plan.proofs.Room.{left_none, right_none}
use Rattle.slicc_plan.proofs.Types.{as_many, each_enumeration, each_structure}

-- what holds for all that is made of what holds for all
made_all : {X Y : Type 0} (P Q : X → Type 0) (R : Y → Type 0) (f : X → List Y) → ((x : X) → P x → Q x → All R (f x)) → (xs : List X) → All P xs → All Q xs → All R (flat_map f xs)
made_all P Q R f h [] p q = All-nil R
made_all P Q R f h (x ∷ xs) p q =
    All-append R (f x) (flat_map f xs) (h x (All-head P x xs p) (All-head Q x xs q)) (made_all P Q R f h xs (All-tail P x xs p) (All-tail Q x xs q))

-- each declaration, wherever it is made, keeps its limits

abbrev IsKept : Declaration → Type 0
IsKept d = beyond_in_declaration d ≡ []

abbrev IsKeptIn : ScopedDeclaration → Type 0
IsKeptIn d = IsKept d.declaration

kept_in : (scope : Scope) (ds : List Declaration) → flat_map beyond_in_declaration ds ≡ [] → All IsKeptIn (map (made_in scope) ds)
kept_in scope [] e = All-nil IsKeptIn
kept_in scope (d ∷ ds) e =
    All-cons IsKeptIn (made_in scope d) (map (made_in scope) ds) (left_none (beyond_in_declaration d) (flat_map beyond_in_declaration ds) e) (kept_in scope ds (right_none (beyond_in_declaration d) (flat_map beyond_in_declaration ds) e))

all_kept : (trees : List Tree) (ds : List Declaration) → flat_map beyond_in_declaration ds ≡ [] → flat_map (beyond_in_scope trees) (map within (flat_map machine_in ds)) ≡ [] → All IsKeptIn (flat_map made_with_its_own ds)
all_kept trees [] e f = All-nil IsKeptIn
all_kept trees (machine m ∷ ds) e f =
    let own = kept_in (within m) (machine_declarations m) (left_none (flat_map beyond_in_declaration (machine_declarations m)) (machine_limits trees (within m)) (left_none (beyond_in_scope trees (within m)) (flat_map (beyond_in_scope trees) (map within (flat_map machine_in ds))) f)) in
    let rest = all_kept trees ds e (right_none (beyond_in_scope trees (within m)) (flat_map (beyond_in_scope trees) (map within (flat_map machine_in ds))) f) in
    All-cons IsKeptIn (made_in everywhere (machine m)) (map (made_in (within m)) (machine_declarations m) ++ flat_map made_with_its_own ds) refl
    (All-append IsKeptIn (map (made_in (within m)) (machine_declarations m)) (flat_map made_with_its_own ds) own rest)
all_kept trees (d ∷ ds) e f =
    All-cons IsKeptIn (made_in everywhere d) (flat_map made_with_its_own ds) (left_none (beyond_in_declaration d) (flat_map beyond_in_declaration ds) e) (all_kept trees ds (right_none (beyond_in_declaration d) (flat_map beyond_in_declaration ds) e) f)

-- members

abbrev HasMembers : EnumerationSymbol → Type 0
HasMembers e = length e.members ≤ 65535

few_members : (n : Option ℕ) (default : ℕ) (d : Declaration) → IsKept d → All HasMembers (enumeration_declared n default d)
few_members n default (enumeration e) k =
    let few = within_limit 65535 (map symbol e.members) (left_none (beyond most_members (members_in (enumeration e))) [] k) in
    All-cons HasMembers (record { name = e.name.text; machine = n; members = map (λ (s : Symbol). s.name.text) e.members; default = default }) [] (omega (arith, few, length-map e.members symbol, length-map e.members (λ (s : Symbol). s.name.text))) (All-nil HasMembers)
few_members n default (states d) k =
    let few = within_limit 65535 (map state d.members) (left_none (beyond most_members (members_in (states d))) [] k) in
    All-cons HasMembers (record { name = d.name.text; machine = n; members = map (λ (s : State). s.name.text) d.members; default = default }) [] (omega (arith, few, length-map d.members state, length-map d.members (λ (s : State). s.name.text))) (All-nil HasMembers)
few_members n default _ k = All-nil HasMembers

built_in_members : (trees : List Tree) → length (machines_of trees) ≤ 16 → All HasMembers (built_in_symbols trees)
built_in_members trees few =
    let types = built_in_enumeration trees (codes "MachineType") MachineType in
    let permissions = built_in_enumeration trees (codes "AccessPermission") AccessPermission in
    let requests = built_in_enumeration trees (codes "RubyRequestType") RequestType in
    let sizes = built_in_enumeration trees (codes "MessageSizeType") MessageSize in
    All-cons HasMembers types (permissions ∷ requests ∷ sizes ∷ []) (omega (arith, few, length-map (machines_of trees) (λ (m : Machine). m.name.text)))
    (All-cons HasMembers permissions (requests ∷ sizes ∷ []) (omega arith)
    (All-cons HasMembers requests (sizes ∷ []) (omega arith)
    (All-cons HasMembers sizes [] (omega arith) (All-nil HasMembers))))

-- fields

abbrev HasFields : StructureSymbol → Type 0
HasFields s = length s.fields ≤ 64

as_many_fields : (trees : List Tree) (scope : Scope) (ms : List Member) → length (flat_map (field_symbol trees scope) ms) ≡ length (filter is_field (map member ms))
as_many_fields trees scope [] = refl
as_many_fields trees scope (Field kind called attributes span ∷ ms) = ap suc (as_many_fields trees scope ms)
as_many_fields trees scope (Method kind called formals attributes span ∷ ms) = as_many_fields trees scope ms
as_many_fields trees scope (Skipped s ∷ ms) = as_many_fields trees scope ms

few_fields : (trees : List Tree) (scope : Scope) (d : Declaration) → IsKept d → is_counted_structure d ≡ true → All HasFields (structure_declared trees scope d)
few_fields trees scope (structure s) k own = by (is_external s) own (right_none (beyond most_members []) (beyond most_fields (fields_in (structure s))) k)
  where
    by : (external : Bool) → not external ≡ true → beyond most_fields (cond external [] (filter is_field (map member s.members))) ≡ [] → All HasFields (structure_declared trees scope (structure s))
    by true own k = absurd (cc own)
    by false own k =
        let few = within_limit 64 (filter is_field (map member s.members)) k in
        All-cons HasFields (record { name = s.name.text; machine = owner trees scope; fields = field_symbols trees scope s }) [] (omega (arith, few, as_many_fields trees scope s.members)) (All-nil HasFields)
few_fields trees scope _ k own = All-nil HasFields

pub types_numbered : (trees : List Tree) → IsAccepted trees → HasNumberedTypes (symbols_of trees)
unfolding symbols_of
types_numbered trees h =
    let kept = limits_kept trees h.of_declarations in
    let machines = few_machines trees h.of_declarations in
    let types = few_types trees h.of_declarations in
    let globals = global_declarations trees in
    let all : All IsKeptIn (scoped_declarations trees) =
    all_kept trees globals (left_none (flat_map beyond_in_declaration globals) [] (left_none (beyond_in_scope trees everywhere) (flat_map (beyond_in_scope trees) (map within (machines_of trees))) kept.scopes))
    (right_none (beyond_in_scope trees everywhere) (flat_map (beyond_in_scope trees) (map within (machines_of trees))) kept.scopes) in
    let IsEnumeration : ScopedDeclaration → Type 0 = λ (d : ScopedDeclaration). is_enumeration d.declaration ≡ true in
    let IsStructure : ScopedDeclaration → Type 0 = λ (d : ScopedDeclaration). is_counted_structure d.declaration ≡ true in
    let enumerations = flat_map (enumeration_symbol trees) (declared_enumerations trees) in
    let structures = flat_map (structure_symbol trees) (declared_structures trees) in
    record {
      enumerations = omega (arith, types.enumerations, as_many (enumeration_symbol trees) (declared_enumerations trees) (each_enumeration trees), length-append (built_in_symbols trees) enumerations);
      structures = omega (arith, types.structures, as_many (structure_symbol trees) (declared_structures trees) (each_structure trees), length-append structures (request_symbol ∷ []));
      members =
          All-append HasMembers (built_in_symbols trees) enumerations (built_in_members trees machines.machines)
          (made_all IsKeptIn IsEnumeration HasMembers (enumeration_symbol trees) (λ d k is. few_members (owner trees d.scope) (own_default d.scope d.declaration) d.declaration k) (declared_enumerations trees)
          (All-filter (λ (d : ScopedDeclaration). is_enumeration d.declaration) IsKeptIn (scoped_declarations trees) all)
          (filter_passes (λ (d : ScopedDeclaration). is_enumeration d.declaration) (scoped_declarations trees)));
      fields =
          All-append HasFields structures (request_symbol ∷ [])
          (made_all IsKeptIn IsStructure HasFields (structure_symbol trees) (λ d k is. few_fields trees d.scope d.declaration k is) (declared_structures trees)
          (All-filter (λ (d : ScopedDeclaration). is_counted_structure d.declaration) IsKeptIn (scoped_declarations trees) all)
          (filter_passes (λ (d : ScopedDeclaration). is_counted_structure d.declaration) (scoped_declarations trees)))
          (All-cons HasFields request_symbol [] (omega arith) (All-nil HasFields));
    }
