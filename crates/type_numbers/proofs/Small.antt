-- In an accepted protocol enumerations have few members and structures few fields.
use Rattle.std.proofs.Common.{◌≡◌, ◌≤◌, ℕ, suc, Bool, true, false, cond, Option, None, Some, IfSome, List, [], ◌∷◌, All, filter, find, flat_map, length, map, refl, ap, subst, arith}
use Rattle.std.specs.Option.{option_map, option_or}
use Rattle.std.proofs.lemmas.List.{length-map}
use Rattle.std.proofs.lemmas.List.Elements.{All-append, All-cons, All-filter, All-head, All-map, All-nil, All-tail, All-weaker}
use Rattle.slicc_ast.specs.declared.tree.declaration.Member.{Member}
use Rattle.slicc_ast.specs.declared.tree.declaration.State.{State}
use Rattle.slicc_ast.specs.declared.tree.declaration.Structure.{Structure}
use Rattle.slicc_ast.specs.declared.tree.declaration.Symbol.{Symbol}
use Rattle.slicc_ast.specs.declared.tree.item.Tree.{Tree}
use Rattle.slicc_ast.specs.declared.tree.machine.Machine.{Machine}
use Rattle.slicc_plan.specs.declared.built_in.BuiltInType.{BuiltInType}
use Rattle.slicc_plan.specs.BuiltIn.{built_in_type}
use Rattle.slicc_plan.specs.Declarations.{enumeration, structure}
use Rattle.slicc_plan.specs.Limits.{most_fields, most_members}
use Rattle.slicc_plan.specs.MessageTypes.{message_type}
use Rattle.slicc_plan.specs.Prelude.{IsAccepted, BufferIn, Declaration, machine, states, symbol, state, member, Scope, everywhere, within, first_named, global_declarations, is_external, is_named, machine_declarations, machine_in, machines_of, beyond, beyond_in_declaration, beyond_in_scope, fields_in, is_counted_structure, is_enumeration, is_field, machine_limits, members_in, ScopedDeclaration, declared_enumerations, declared_structures, made_in, made_with_its_own, scoped_declarations, KnownType, built_in, enumerated, structured, declared_type, external_type, structure_type, table_named}
use Rattle.slicc_plan.specs.Types.{type_of_found, type_where}
use Rattle.slicc_plan.proofs.Few.{limits_kept, within_limit}
use Rattle.slicc_plan.proofs.Messages.{IsDeclared, message_declared}
use Rattle.slicc_plan.proofs.Room.{left_none, right_none}
use Rattle.slicc_plan.proofs.There.{all_there, there_found}
use Rattle.type_numbers.specs.Prelude.{HasFewMembers, IsOfFewFields, IsOfFewMembers, NamesFewMembers}

-- what is declared keeps its limits
abbrev Fits : Declaration → Type 0
Fits d = HasFewMembers d × (length (fields_in d) ≤ 64)

all_fit : (ds : List Declaration) → flat_map beyond_in_declaration ds ≡ [] → All Fits ds
all_fit [] e = All-nil Fits
all_fit (d ∷ ds) e =
    let here : beyond_in_declaration d ≡ [] = left_none (beyond_in_declaration d) (flat_map beyond_in_declaration ds) e in
    let members = left_none (beyond most_members (members_in d)) (beyond most_fields (fields_in d)) here in
    let fields = right_none (beyond most_members (members_in d)) (beyond most_fields (fields_in d)) here in
    All-cons Fits d ds (within_limit 65535 (members_in d) members, within_limit 64 (fields_in d) fields)
    (all_fit ds (right_none (beyond_in_declaration d) (flat_map beyond_in_declaration ds) e))

-- What names stand for.

external_few : (scope : Scope) (s : Structure) (o : Option BuiltInType) → IsOfFewMembers (external_type scope s o)
external_few scope s None = tt
external_few scope s (Some b) = tt

structure_few : (scope : Scope) (s : Structure) (b : Bool) → IsOfFewMembers (structure_type scope s b)
structure_few scope s true = external_few scope s (table_named s.name.text)
structure_few scope s false = tt

declared_few : (scope : Scope) (d : Declaration) → Fits d → IfSome (declared_type scope d) IsOfFewMembers
declared_few scope (enumeration e) h =
    omega (arith, h.0, length-map e.members symbol, length-map e.members (λ (s : Symbol). s.name.text))
declared_few scope (states d) h =
    omega (arith, h.0, length-map d.members state, length-map d.members (λ (s : State). s.name.text))
declared_few scope (structure s) h = structure_few scope s (is_external s)
declared_few scope _ h = tt

found_few : (scope : Scope) (text : List ℕ) (ds : List Declaration) (o : Option Declaration) → All Fits ds → find (is_named text) ds ≡ o → IfSome (type_of_found scope o) IsOfFewMembers
found_few scope text ds None all is = tt
found_few scope text ds (Some d) all is = declared_few scope d (all_there Fits ds d all (there_found (is_named text) ds d is))

global_few : (trees : List Tree) → All Fits (global_declarations trees) → NamesFewMembers trees everywhere
global_few trees all text = by (built_in_type text)
  where
    by : (b : Option BuiltInType) → IfSome (option_or (option_map built_in b) (type_of_found everywhere (first_named text (global_declarations trees)))) IsOfFewMembers
    by None = found_few everywhere text (global_declarations trees) (first_named text (global_declarations trees)) all refl
    by (Some b) = tt

within_few : (trees : List Tree) (m : Machine) → NamesFewMembers trees everywhere → All Fits (machine_declarations m) → NamesFewMembers trees (within m)
within_few trees m outer all text = by (first_named text (machine_declarations m)) refl
  where
    by : (o : Option Declaration) → find (is_named text) (machine_declarations m) ≡ o → IfSome (type_where trees (within m) text o) IsOfFewMembers
    by None is = outer text
    by (Some d) is = found_few (within m) text (machine_declarations m) (Some d) all is

-- What is declared, with where it is.

abbrev FitsThere : List Tree → ScopedDeclaration → Type 0
FitsThere trees d = Fits d.declaration × NamesFewMembers trees d.scope

made_fit : (trees : List Tree) (scope : Scope) (ds : List Declaration) → NamesFewMembers trees scope → All Fits ds → All (FitsThere trees) (map (made_in scope) ds)
made_fit trees scope ds names all =
    All-map (FitsThere trees) (made_in scope) ds
    (All-weaker Fits (λ (d : Declaration). FitsThere trees (made_in scope d)) (λ d h. (h, names)) ds all)

each_fits : (trees : List Tree) (ds : List Declaration) → NamesFewMembers trees everywhere → All Fits ds → flat_map (beyond_in_scope trees) (map within (flat_map machine_in ds)) ≡ [] → All (FitsThere trees) (flat_map made_with_its_own ds)
each_fits trees [] names all e = All-nil (FitsThere trees)
each_fits trees (machine m ∷ ds) names all e =
    let rest = flat_map (beyond_in_scope trees) (map within (flat_map machine_in ds)) in
    let fit = all_fit (machine_declarations m) (left_none (flat_map beyond_in_declaration (machine_declarations m)) (machine_limits trees (within m)) (left_none (beyond_in_scope trees (within m)) rest e)) in
    All-append (FitsThere trees) (made_with_its_own (machine m)) (flat_map made_with_its_own ds)
    (All-cons (FitsThere trees) (made_in everywhere (machine m)) (map (made_in (within m)) (machine_declarations m)) (All-head Fits (machine m) ds all, names) (made_fit trees (within m) (machine_declarations m) (within_few trees m names fit) fit))
    (each_fits trees ds names (All-tail Fits (machine m) ds all) (right_none (beyond_in_scope trees (within m)) rest e))
each_fits trees (d ∷ ds) names all e =
    All-cons (FitsThere trees) (made_in everywhere d) (flat_map made_with_its_own ds) (All-head Fits d ds all, names)
    (each_fits trees ds names (All-tail Fits d ds all) e)

all_declared : (trees : List Tree) → IsAccepted trees → All (FitsThere trees) (scoped_declarations trees)
all_declared trees h =
    let kept = limits_kept trees h.of_declarations in
    let outer = beyond_in_scope trees everywhere in
    let inner = flat_map (beyond_in_scope trees) (map within (machines_of trees)) in
    let fit = all_fit (global_declarations trees) (left_none (flat_map beyond_in_declaration (global_declarations trees)) (machine_limits trees everywhere) (left_none outer inner kept.scopes)) in
    each_fits trees (global_declarations trees) (global_few trees fit) fit (right_none outer inner kept.scopes)

pub members_few : (trees : List Tree) → IsAccepted trees → All (λ (d : ScopedDeclaration). HasFewMembers d.declaration) (declared_enumerations trees)
members_few trees h =
    let P : ScopedDeclaration → Type 0 = λ d. HasFewMembers d.declaration in
    All-filter (λ (d : ScopedDeclaration). is_enumeration d.declaration) P (scoped_declarations trees)
    (All-weaker (FitsThere trees) P (λ d f. f.0.0) (scoped_declarations trees) (all_declared trees h))

pub names_few : (trees : List Tree) → IsAccepted trees → All (λ (d : ScopedDeclaration). NamesFewMembers trees d.scope) (declared_structures trees)
names_few trees h =
    let P : ScopedDeclaration → Type 0 = λ d. NamesFewMembers trees d.scope in
    All-filter (λ (d : ScopedDeclaration). is_counted_structure d.declaration) P (scoped_declarations trees)
    (All-weaker (FitsThere trees) P (λ d f. f.1) (scoped_declarations trees) (all_declared trees h))

-- Messages.

as_many_fields : (ms : List Member) → length (filter (λ (m : Member). is_field (member m)) ms) ≡ length (filter is_field (map member ms))
as_many_fields [] = refl
as_many_fields (m ∷ ms) = by (is_field (member m)) (as_many_fields ms)
  where
    fields : List Member
    fields = filter (λ (n : Member). is_field (member n)) ms

    declared : List Declaration
    declared = filter is_field (map member ms)

    by : (b : Bool) → length fields ≡ length declared → length (cond b (m ∷ fields) fields) ≡ length (cond b (member m ∷ declared) declared)
    by true e = ap suc e
    by false e = e

fields_few : (trees : List Tree) → IsAccepted trees → (t : KnownType) → IsDeclared trees t → IsOfFewFields t
fields_few trees h (structured scope s) d =
    let fit = all_there (FitsThere trees) (scoped_declarations trees) (made_in scope (structure s)) (all_declared trees h) d.0 in
    let shown : length (filter is_field (map member s.members)) ≤ 64 = subst (λ b. length (cond b [] (filter is_field (map member s.members))) ≤ 64) d.1 fit.0.1 in
    omega (arith, as_many_fields s.members, shown)
fields_few trees h (built_in b) d = tt
fields_few trees h (enumerated scope text members) d = tt

-- the messages of a buffer are of a structure with few fields
pub message_few : (trees : List Tree) → IsAccepted trees → (number : ℕ) (b : BufferIn) → IfSome (message_type trees number b) IsOfFewFields
message_few trees h number b = by (message_type trees number b) (message_declared trees h number b)
  where
    by : (t : Option KnownType) → IfSome t (IsDeclared trees) → IfSome t IsOfFewFields
    by None is = tt
    by (Some t) is = fields_few trees h t is
