-- What is declared in a scope counts in a limit, or bears one of a few names: an external structure that of a built-in table, and
-- a function that isn't looked at one of two.
use Rattle.std.proofs.Common.{◌≡◌, ◌≤◌, ◌||◌, ◌+◌, ◌++◌, ℕ, zero, suc, Bool, true, false, not, cond, All, Option, None, Some, IsTrue, List, [], ◌∷◌, codes, filter, find, flat_map, get_or, is_some, length, map, option_and_then, slice_get, refl, sym, ap, ◌∙◌, subst, arith, length-append}
use Rattle.std.specs.Option.{option_map}
use Rattle.std.proofs.Math.Bool.{or_assoc}
use Rattle.std.proofs.lemmas.Bool.{and_parts, or_left, or_right}
use Rattle.std.proofs.lemmas.List.Elements.{All-append, All-cons, All-head, All-map, All-nil, All-tail, All-weaker, filter-append}
use Rattle.std.proofs.lemmas.List.Folds.{list_any-append}
use Rattle.std.proofs.lemmas.Option.{get_or_from_slice_get, slice_get-get_or, slice_get_within}
use Rattle.std.proofs.lemmas.Slice.Eq.{bytes_eq-Decides}
use Rattle.std.specs.Cmp.Lexicographic.{nat_list_eq_equiv}
use Rattle.std.specs.List.{list_any}
use Rattle.std.specs.Str.{bytes_eq}
use Rattle.slicc_ast.specs.declared.tree.declaration.Function.TheVariants.{Skipped}
use Rattle.slicc_ast.specs.declared.tree.declaration.Structure.{Structure}
use Rattle.slicc_ast.specs.declared.tree.item.Item.{Item}
use Rattle.slicc_ast.specs.declared.tree.item.Item.TheVariants as item
use Rattle.slicc_ast.specs.declared.tree.item.Tree.{Tree}
use Rattle.slicc_ast.specs.declared.tree.machine.Decl.{Decl}
use Rattle.slicc_ast.specs.declared.tree.machine.Decl.TheVariants as decl
use Rattle.slicc_ast.specs.declared.tree.machine.Machine.{Machine}
use Rattle.slicc_ast.specs.declared.tree.machine.Parameter.{Parameter}
use Rattle.slicc_ast.specs.Prelude.{is_skipped, decl as decl_outline, decl_list, parameter_list, type_parts, Parts, are_allowed, is_allowed, item_list, protocol_parts, tree}
use Rattle.slicc_ast.specs.declared.tree.span.Span.{Span}
use Rattle.slicc_ast.specs.Machines.{machine as machine_outline, parameter as parameter_outline}
use Rattle.slicc_ast.specs.Trees.{item as item_outline}
use Rattle.ruby_base.specs.Prelude.{is_name, number_among}
use Rattle.slicc_plan.specs.Prelude.{broken_declarations, NamedType, built_in_types, Declaration, machine, parameter, function, Scope, everywhere, within, declared_in, global_declarations, is_external, is_named, item_declarations, machine_declarations, machine_in, machine_names, machines_of, named_declarations, first_named, wide_scopes, all_declarations, beyond_in_declaration, beyond_in_machine, beyond_in_scope, is_action, is_counted_function, is_counted_structure, is_enumeration, is_machine, is_object, is_port, limit_passed, limits_passed, with_its_own, told_unless, unknown_built_in, unknown_built_ins_in, unknown_structure, table_named, table_or_none}
use Rattle.slicc_plan.specs.Declarations.{enumeration, structure}
use Rattle.slicc_plan.proofs.Room.{left_none, mapped_at, none_at, right_none}
use Rattle.declared_types.proofs.NameParts.{list_any_map}
use Rattle.slicc_names.specs.Prelude.{inside, KeepGrammar, all_names, name_number, short_number, once_each, scope_names, texts_declared}
use Rattle.slicc_names.proofs.OnceEach.{among_declared, few_declared, few_texts, found, has_number}

-- the names that count in no limit
abbrev few_names : List (List ℕ)
few_names = codes "functionalRead" ∷ codes "functionalWrite" ∷ map (λ (t : NamedType). t.name) built_in_types

abbrev is_few : List ℕ → Bool
is_few q = list_any (is_name q) few_names

-- what one of the tests counts, and how many all of them count
abbrev is_counted : List (Declaration → Bool) → Declaration → Bool
is_counted tests d = list_any (λ (p : Declaration → Bool). p d) tests

abbrev counts : List (Declaration → Bool) → List Declaration → ℕ
counts [] ds = 0
counts (p ∷ tests) ds = length (filter p ds) + counts tests ds

counted_either : (p q : Declaration → Bool) (ds : List Declaration) → length (filter (λ d. p d || q d) ds) ≤ length (filter p ds) + length (filter q ds)
counted_either p q [] = omega arith
counted_either p q (d ∷ ds) = grind (arith, counted_either p q ds)

counted_all : (tests : List (Declaration → Bool)) (ds : List Declaration) → length (filter (is_counted tests) ds) ≤ counts tests ds
counted_all [] [] = omega arith
counted_all [] (d ∷ ds) = counted_all [] ds
counted_all (p ∷ tests) ds = omega (arith, counted_either p (is_counted tests) ds, counted_all tests ds)

-- A declaration is counted or bears one of these names, where it breaks no rule of built-in names.

abbrev of_protocol : List (Declaration → Bool)
of_protocol = is_machine ∷ is_enumeration ∷ is_counted_structure ∷ []

abbrev of_machine : List (Declaration → Bool)
of_machine = is_enumeration ∷ is_counted_structure ∷ is_action ∷ is_counted_function ∷ is_port ∷ is_object ∷ []

table_is_few : (q : List ℕ) → is_some (table_named q) ≡ true → is_few q ≡ true
table_is_few q e =
    let types = list_any (is_name q) (map (λ (t : NamedType). t.name) built_in_types) in
    let named : types ≡ true = list_any_map (is_name q) (λ (t : NamedType). t.name) built_in_types ∙ sym (found (λ (t : NamedType). bytes_eq t.name q) built_in_types) ∙ by (find (λ (t : NamedType). bytes_eq t.name q) built_in_types) e in
    or_right (is_name q (codes "functionalRead")) (is_name q (codes "functionalWrite") || types) (or_right (is_name q (codes "functionalWrite")) types named)
  where
    by : (o : Option NamedType) → is_some (table_or_none (option_map (λ (t : NamedType). t.meaning) o)) ≡ true → is_some o ≡ true
    by None e = e
    by (Some t) e = refl

skipped_is_few : (text : List ℕ) → (bytes_eq text (codes "functionalRead") || bytes_eq text (codes "functionalWrite")) ≡ true → is_few text ≡ true
skipped_is_few text e =
    let same = nat_list_eq_equiv.symm in
    sym (or_assoc (is_name text (codes "functionalRead")) (is_name text (codes "functionalWrite")) (list_any (is_name text) (map (λ (t : NamedType). t.name) built_in_types)))
    ∙ or_left _ _ ((λ i. same (codes "functionalRead") text i || same (codes "functionalWrite") text i) ∙ e)

told_none : (v : Bool) (place : Span) → told_unless v place ≡ [] → v ≡ true
told_none true place e = refl
told_none false place e = cc

past_type : (v : Bool) (parts : Parts) → are_allowed (type_parts v parts) ≡ true → are_allowed parts ≡ true
past_type true parts a = a
past_type false parts a = a

past_parameters : (ps : List Parameter) (parts : Parts) → are_allowed (parameter_list ps parts) ≡ true → are_allowed parts ≡ true
past_parameters [] parts a = a
past_parameters (p ∷ ps) parts a = past_parameters ps parts (and_parts (is_allowed (parameter_outline p)) (are_allowed (parameter_list ps parts)) a).1

past_protocol : (o : Option (List ℕ)) (parts : Parts) → are_allowed (protocol_parts o parts) ≡ true → are_allowed parts ≡ true
past_protocol None parts a = a
past_protocol (Some name) parts a = a

abbrev Allowed : Tree → Type 0
Allowed t = IsTrue (is_allowed (tree t))

filter_both : (p : Declaration → Bool) (ds es : List Declaration) → length (filter p (ds ++ es)) ≡ length (filter p ds) + length (filter p es)
filter_both p ds es = ap length (filter-append p ds es) ∙ length-append (filter p ds) (filter p es)

module _ (machines : List (List ℕ)) where
  abbrev Counts : List (Declaration → Bool) → Declaration → Type 0
  Counts tests d = unknown_built_in machines d ≡ [] → (q : List ℕ) → is_named q d ≡ true → (is_counted tests d || is_few q) ≡ true

  all_count : (tests : List (Declaration → Bool)) (q : List ℕ) (ds : List Declaration) → All (Counts tests) ds → flat_map (unknown_built_in machines) ds ≡ [] → list_any (is_named q) ds ≡ true → (is_few q || list_any (is_named q) (filter (is_counted tests) ds)) ≡ true
  all_count tests q [] h e m = cc
  all_count tests q (d ∷ ds) h e m =
      by (is_few q) (is_counted tests d) (is_named q d) refl (All-head (Counts tests) d ds h (left_none (unknown_built_in machines d) (flat_map (unknown_built_in machines) ds) e) q)
      (all_count tests q ds (All-tail (Counts tests) d ds h) (right_none (unknown_built_in machines d) (flat_map (unknown_built_in machines) ds) e)) m
    where
      by : (few counted named : Bool) → is_named q d ≡ named → (named ≡ true → (counted || few) ≡ true) → (list_any (is_named q) ds ≡ true → (few || list_any (is_named q) (filter (is_counted tests) ds)) ≡ true) → (named || list_any (is_named q) ds) ≡ true
          → (few || list_any (is_named q) (cond counted (d ∷ filter (is_counted tests) ds) (filter (is_counted tests) ds))) ≡ true
      by true counted named f k r g = refl
      by false counted false f k r g = grind (arith, r g)
      by false counted true f k r g = grind (arith, k refl)

  few : (tests : List (Declaration → Bool)) (ds : List Declaration) → All (Counts tests) ds → flat_map (unknown_built_in machines) ds ≡ [] → length (once_each (texts_declared ds)) ≤ 22 + counts tests ds
  few tests ds h e =
      let counted = filter (is_counted tests) ds in
      let bound : length (once_each (texts_declared ds)) ≤ length (few_names ++ texts_declared counted) =
      few_texts (texts_declared ds) (few_names ++ texts_declared counted) (λ q m.
      list_any-append (is_name q) few_names (texts_declared counted) ∙ ap (λ b. is_few q || b) (among_declared q counted)
      ∙ all_count tests q ds h e (sym (among_declared q ds) ∙ m)) in
      omega (arith, bound, length-append few_names (texts_declared counted), few_declared counted, counted_all tests ds)

  -- what the grammar gives

  one : (tests : List (Declaration → Bool)) (d : Declaration) → Counts tests d → All (Counts tests) (d ∷ [])
  one tests d h = All-cons (Counts tests) d [] h (All-nil (Counts tests))

  structure_counts : (s : Structure) (v : Bool) → is_external s ≡ v → unknown_structure machines s v ≡ [] → (q : List ℕ) → bytes_eq s.name.text q ≡ true → ((not v || false) || is_few q) ≡ true
  structure_counts s false w e q f = refl
  structure_counts s true w e q f =
      subst (λ t. is_few t ≡ true) ((bytes_eq-Decides s.name.text q).0 f) (table_is_few s.name.text (told_none (is_some (table_named s.name.text)) s.span e))

  decl_counts : (d : Decl) → is_allowed (decl_outline d) ≡ true → All (Counts of_machine) (named_declarations d)
  decl_counts (decl.Structure s) a = one of_machine (structure s) (structure_counts s (is_external s) refl)
  decl_counts (decl.Function (Skipped s)) a =
      one of_machine (function (Skipped s)) (λ e q f. subst (λ t. is_few t ≡ true) ((bytes_eq-Decides s.name.text q).0 f) (skipped_is_few s.name.text (and_parts (is_skipped s.name) _ a).0))
  decl_counts (decl.Transition t) a = All-nil (Counts of_machine)
  decl_counts _ a = one of_machine _ (λ e q f. refl)

  decls_count : (ds : List Decl) (parts : Parts) → are_allowed (decl_list ds parts) ≡ true → All (Counts of_machine) (flat_map named_declarations ds)
  decls_count [] parts a = All-nil (Counts of_machine)
  decls_count (d ∷ ds) parts a =
      let both = and_parts (is_allowed (decl_outline d)) (are_allowed (decl_list ds parts)) a in
      All-append (Counts of_machine) (named_declarations d) (flat_map named_declarations ds) (decl_counts d both.0) (decls_count ds parts both.1)

  machine_counts : (m : Machine) → is_allowed (machine_outline m) ≡ true → All (Counts of_machine) (machine_declarations m)
  machine_counts m a =
      All-append (Counts of_machine) (map parameter m.parameters) (flat_map named_declarations m.declarations)
      (All-map (Counts of_machine) parameter m.parameters (λ k d lt e q f. refl))
      (decls_count m.declarations _ (past_parameters m.parameters _ (and_parts _ _ (past_type m.has_type _ a)).1))

  -- of a declaration right in the protocol, with what is declared in it
  abbrev AllCount : Declaration → Type 0
  AllCount d = Counts of_protocol d × All (Counts of_machine) (inside d)

  item_counts : (i : Item) → is_allowed (item_outline i) ≡ true → All AllCount (item_declarations i)
  item_counts (item.Include text span) a = All-nil AllCount
  item_counts (item.Enumeration d) a = All-cons AllCount (enumeration d) [] (λ e q f. refl, All-nil (Counts of_machine)) (All-nil AllCount)
  item_counts (item.Structure s) a = All-cons AllCount (structure s) [] (structure_counts s (is_external s) refl, All-nil (Counts of_machine)) (All-nil AllCount)
  item_counts (item.Machine m) a = All-cons AllCount (machine m) [] (λ e q f. refl, machine_counts m a) (All-nil AllCount)

  items_count : (is : List Item) → are_allowed (item_list is) ≡ true → All AllCount (flat_map item_declarations is)
  items_count [] a = All-nil AllCount
  items_count (i ∷ is) a =
      let both = and_parts (is_allowed (item_outline i)) (are_allowed (item_list is)) a in
      All-append AllCount (item_declarations i) (flat_map item_declarations is) (item_counts i both.0) (items_count is both.1)

  globals_count : (trees : List Tree) → KeepGrammar trees → All AllCount (global_declarations trees)
  globals_count [] h = All-nil AllCount
  globals_count (t ∷ ts) h =
      All-append AllCount (flat_map item_declarations t.items) (global_declarations ts)
      (items_count t.items (past_protocol t.protocol (item_list t.items) (and_parts _ _ (All-head Allowed t ts h)).1)) (globals_count ts (All-tail Allowed t ts h))

  -- with all that is declared in the protocol, of which the machine's declarations are a part
  abbrev IsCounted : List Declaration → Machine → Type 0
  IsCounted all m = All (Counts of_machine) (machine_declarations m) × ((p : Declaration → Bool) → length (filter p (machine_declarations m)) ≤ length (filter p all))

  own_machine : (d : Declaration) (all : List Declaration) → All (Counts of_machine) (inside d) → All (IsCounted (with_its_own d ++ all)) (machine_in d)
  own_machine (machine m) all h =
      All-cons (IsCounted (machine m ∷ machine_declarations m ++ all)) m [] (h, λ p. omega (arith, filter_both p (machine m ∷ []) (machine_declarations m ++ all), filter_both p (machine_declarations m) all)) (All-nil _)
  own_machine d all h = All-nil _

  each_machine : (ds : List Declaration) → All AllCount ds → All (IsCounted (flat_map with_its_own ds)) (flat_map machine_in ds)
  each_machine [] h = All-nil (IsCounted [])
  each_machine (d ∷ ds) h =
      let all = flat_map with_its_own ds in
      All-append (IsCounted (with_its_own d ++ all)) (machine_in d) (flat_map machine_in ds) (own_machine d all (All-head AllCount d ds h).1)
      (All-weaker (IsCounted all) (IsCounted (with_its_own d ++ all)) (λ m k. (k.0, λ p. let under = k.1 p in omega (arith, under, filter_both p (with_its_own d) all))) (flat_map machine_in ds) (each_machine ds (All-tail AllCount d ds h)))

fewer_globals : (p : Declaration → Bool) (ds : List Declaration) → length (filter p ds) ≤ length (filter p (flat_map with_its_own ds))
fewer_globals p [] = omega arith
fewer_globals p (d ∷ ds) = omega (arith, filter_both p (d ∷ []) ds, filter_both p (with_its_own d) (flat_map with_its_own ds), by d, fewer_globals p ds)
  where
    by : (d : Declaration) → length (filter p (d ∷ [])) ≤ length (filter p (with_its_own d))
    by (machine m) = omega (arith, filter_both p (machine m ∷ []) (machine_declarations m))
    by d = omega arith

-- the limits

in_limit : (limit : ℕ) (ds : List Declaration) → limit_passed (slice_get ds limit) ≡ [] → length ds ≤ limit
in_limit limit [] e = omega arith
in_limit zero (d ∷ ds) e = cc
in_limit (suc limit) (d ∷ ds) e = let rest : length ds ≤ limit = in_limit limit ds e in omega (arith, rest)

global_limits : (trees : List Tree) → limits_passed trees ≡ []
    → (length (filter is_machine (global_declarations trees)) ≤ 16) × (length (filter is_enumeration (all_declarations trees)) ≤ 16380) × (length (filter is_counted_structure (all_declarations trees)) ≤ 16384)
global_limits trees e =
    let structures = left_none _ _ e in
    let enumerations = left_none _ _ structures in
    (in_limit 16 _ (left_none _ _ enumerations), in_limit 16380 _ (right_none _ _ enumerations), in_limit 16384 _ (right_none _ _ structures))

machine_limits : (trees : List Tree) (m : Machine) → beyond_in_machine trees m ≡ []
    → (length (filter is_action (machine_declarations m)) ≤ 256) × (length (filter is_counted_function (machine_declarations m)) ≤ 256) × (length (filter is_port (machine_declarations m)) ≤ 32) × (length (filter is_object (machine_declarations m)) ≤ 64)
machine_limits trees m e =
    let objects = left_none _ _ (left_none _ _ e) in
    let ports = left_none _ _ objects in
    let functions = left_none _ _ ports in
    (in_limit 256 _ (right_none _ _ (left_none _ _ functions)), in_limit 256 _ (right_none _ _ functions), in_limit 32 _ (right_none _ _ ports), in_limit 64 _ (right_none _ _ objects))

abbrev Known : List Tree → Scope → Type 0
Known trees everywhere = All (Counts (machine_names trees) of_protocol) (global_declarations trees)
Known trees (within m) = IsCounted (machine_names trees) (all_declarations trees) m

abbrev HasSize : List Tree → Scope → Type 0
HasSize trees scope = length (scope_names trees scope) ≤ 65536

scope_size : (trees : List Tree) (scope : Scope) → limits_passed trees ≡ [] → Known trees scope → unknown_built_ins_in trees scope ≡ [] → beyond_in_scope trees scope ≡ [] → HasSize trees scope
scope_size trees everywhere e k u b =
    let ds = global_declarations trees in
    omega (arith, few (machine_names trees) of_protocol ds k u, global_limits trees e, fewer_globals is_enumeration ds, fewer_globals is_counted_structure ds)
scope_size trees (within m) e k u b =
    let ds = machine_declarations m in
    omega (arith, few (machine_names trees) of_machine ds k.0 u, global_limits trees e, machine_limits trees m (right_none (flat_map beyond_in_declaration ds) (beyond_in_machine trees m) b), k.1 is_enumeration, k.1 is_counted_structure)

all_sizes : (trees : List Tree) → KeepGrammar trees → broken_declarations trees ≡ [] → All (HasSize trees) (wide_scopes trees)
all_sizes trees a b =
    let names = machine_names trees in
    let globals = globals_count names trees a in
    let known : All (Known trees) (wide_scopes trees) =
    All-cons (Known trees) everywhere (map within (machines_of trees)) (All-weaker (AllCount names) (Counts names of_protocol) (λ d h. h.0) (global_declarations trees) globals)
    (All-map (Known trees) within (machines_of trees) (each_machine names (global_declarations trees) globals)) in
    let limits : limits_passed trees ≡ [] = right_none _ _ (left_none _ _ (left_none _ _ (left_none _ _ b))) in
    λ k d lt.
    let at = slice_get-get_or (wide_scopes trees) k d lt in
    scope_size trees (get_or (wide_scopes trees) k d) limits (known k d lt) (none_at (unknown_built_ins_in trees) (wide_scopes trees) k _ (right_none _ _ b) at)
    (none_at (beyond_in_scope trees) (wide_scopes trees) k _ (right_none _ _ limits) at)

pub sizes : (trees : List Tree) → KeepGrammar trees → broken_declarations trees ≡ [] → All (λ (names : List (List ℕ)). length names ≤ 65536) (all_names trees)
sizes trees a b = All-map (λ (names : List (List ℕ)). length names ≤ 65536) (scope_names trees) (wide_scopes trees) (all_sizes trees a b)

pub numbers : (trees : List Tree) → KeepGrammar trees → broken_declarations trees ≡ [] → (number : ℕ) (scope : Scope) → slice_get (wide_scopes trees) number ≡ Some scope → (name : List ℕ) → is_some (name_number (all_names trees) number name) ≡ is_some (first_named name (declared_in trees scope))
numbers trees a b number scope at name =
    let size : HasSize trees scope = subst (HasSize trees) (get_or_from_slice_get (wide_scopes trees) number scope scope at) (all_sizes trees a b number scope (slice_get_within (wide_scopes trees) number scope at)) in
    ap (λ o. is_some (option_and_then short_number (option_and_then (λ names. number_among names name) o))) (mapped_at (scope_names trees) (wide_scopes trees) number scope at)
    ∙ has_number (declared_in trees scope) name size
