-- A protocol whose declarations keep all rules is within the limits.
use Rattle.std.proofs.Common.{◌≡◌, ◌++◌, ◌+◌, ◌-◌, ◌≤◌, ℕ, zero, suc, Bool, true, false, cond, Some, List, [], ◌∷◌, All, filter, flat_map, length, map, slice_get, refl, ◌∙◌, ap, arith, length-append}
use Rattle.std.proofs.lemmas.List.Elements.{All-cons, All-nil, filter-append}
use Rattle.std.proofs.lemmas.List.{map-append}
use Rattle.slicc_ast.specs.declared.tree.item.Tree.{Tree}
use Rattle.slicc_ast.specs.declared.tree.machine.Machine.{Machine}
use Rattle.slicc_plan.specs.Prelude.{Declaration, machine, Scope, everywhere, within, global_declarations, machine_declarations, machine_in, machines_of, wide_scopes, HasFewMachines, HasFewParts, HasFewTypes, broken_declarations, refused_field_types, all_declarations, beyond, beyond_in_body, beyond_in_declaration, beyond_in_machine, beyond_in_scope, built_in_enumerations, event_members, is_action, is_counted_function, is_counted_structure, is_enumeration, is_machine, is_object, is_port, is_sequencer, limit_passed, limits_passed, most_enumerations, most_machines, most_objects, most_of_each, most_ports, most_sequencers, most_structures, state_members, with_its_own, unknown_built_ins, machine_bodies, names_twice_declared, ScopedDeclaration, made_in, made_with_its_own, scoped_declarations, unknown_types, bad_values}
use Rattle.slicc_plan.proofs.Room.{left_none, mapped_at, none_at, right_none}

-- what isn't beyond a limit

pub within_limit : (limit : ℕ) (ds : List Declaration) → limit_passed (slice_get ds limit) ≡ [] → length ds ≤ limit
within_limit limit [] e = omega arith
within_limit zero (d ∷ ds) e = cc
within_limit (suc limit) (d ∷ ds) e = let rest : length ds ≤ limit = within_limit limit ds e in omega (arith, rest)

counted_as : (p : Declaration → Bool) (d : Declaration) → length (filter p (d ∷ [])) ≡ cond (p d) 1 0
counted_as p d = by_test (p d)
  where
    by_test : (v : Bool) → length (cond v (d ∷ []) []) ≡ cond v 1 0
    by_test true = refl
    by_test false = refl

-- what is made of declarations, one of each at most, where they are counted
pub at_most : {Y : Type 0} (p : Declaration → Bool) (f : Declaration → List Y) → ((d : Declaration) → length (f d) ≤ cond (p d) 1 0) → (ds : List Declaration) → length (flat_map f ds) ≤ length (filter p ds)
at_most p f h [] = omega arith
at_most p f h (d ∷ ds) =
    let made : length (flat_map f (d ∷ ds)) ≡ length (f d) + length (flat_map f ds) = length-append (f d) (flat_map f ds) in
    let split : filter p (d ∷ ds) ≡ filter p (d ∷ []) ++ filter p ds = filter-append p (d ∷ []) ds in
    let counts : length (filter p (d ∷ ds)) ≡ length (filter p (d ∷ [])) + length (filter p ds) = rw split (length-append (filter p (d ∷ [])) (filter p ds)) in
    omega (arith, made, counts, counted_as p d, h d, at_most p f h ds)

-- the limits that are kept
pub record Kept (trees : List Tree) : Type 0 where
  pub machines : length (filter is_machine (global_declarations trees)) ≤ 16
  pub enumerations : length (filter is_enumeration (all_declarations trees)) ≤ 16380
  pub structures : length (filter is_counted_structure (all_declarations trees)) ≤ 16384
  pub scopes : flat_map (beyond_in_scope trees) (wide_scopes trees) ≡ []

no_limit_passed : (trees : List Tree) → broken_declarations trees ≡ [] → limits_passed trees ≡ []
no_limit_passed trees e =
    right_none (names_twice_declared trees ++ unknown_types trees) (limits_passed trees)
    (left_none (names_twice_declared trees ++ unknown_types trees ++ limits_passed trees) (refused_field_types trees)
    (left_none (names_twice_declared trees ++ unknown_types trees ++ limits_passed trees ++ refused_field_types trees) (bad_values trees)
    (left_none (names_twice_declared trees ++ unknown_types trees ++ limits_passed trees ++ refused_field_types trees ++ bad_values trees) (unknown_built_ins trees) e)))

pub limits_kept : (trees : List Tree) → broken_declarations trees ≡ [] → Kept trees
limits_kept trees e =
    let machines = beyond most_machines (filter is_machine (global_declarations trees)) in
    let enumerations = beyond (most_enumerations - built_in_enumerations) (filter is_enumeration (all_declarations trees)) in
    let structures = beyond most_structures (filter is_counted_structure (all_declarations trees)) in
    let scopes = flat_map (beyond_in_scope trees) (wide_scopes trees) in
    let to_scopes : machines ++ enumerations ++ structures ++ scopes ≡ [] = no_limit_passed trees e in
    let to_structures : machines ++ enumerations ++ structures ≡ [] = left_none (machines ++ enumerations ++ structures) scopes to_scopes in
    let to_enumerations : machines ++ enumerations ≡ [] = left_none (machines ++ enumerations) structures to_structures in
    record {
      machines = within_limit 16 (filter is_machine (global_declarations trees)) (left_none machines enumerations to_enumerations);
      enumerations = within_limit 16380 (filter is_enumeration (all_declarations trees)) (right_none machines enumerations to_enumerations);
      structures = within_limit 16384 (filter is_counted_structure (all_declarations trees)) (right_none (machines ++ enumerations) structures to_structures);
      scopes = right_none (machines ++ enumerations ++ structures) scopes to_scopes;
    }

-- of a machine's own limits
pub record Limits (m : Machine) : Type 0 where
  pub few : HasFewParts m
  pub functions : length (filter is_counted_function (machine_declarations m)) ≤ 256
  pub ports : length (filter is_port (machine_declarations m)) ≤ 32
  pub objects : length (filter is_object (machine_declarations m)) ≤ 64

limits_of : (trees : List Tree) (m : Machine) → beyond_in_scope trees (within m) ≡ [] → Limits m
limits_of trees m e =
    let states = beyond most_of_each (state_members m) in
    let events = beyond most_of_each (event_members m) in
    let actions = beyond most_of_each (filter is_action (machine_declarations m)) in
    let functions = beyond most_of_each (filter is_counted_function (machine_declarations m)) in
    let ports = beyond most_ports (filter is_port (machine_declarations m)) in
    let objects = beyond most_objects (filter is_object (machine_declarations m)) in
    let sequencers = beyond most_sequencers (filter (is_sequencer trees m) (machine_declarations m)) in
    let all : beyond_in_machine trees m ≡ [] = right_none (flat_map beyond_in_declaration (machine_declarations m)) (beyond_in_machine trees m) e in
    let to_sequencers : states ++ events ++ actions ++ functions ++ ports ++ objects ++ sequencers ≡ [] = left_none (states ++ events ++ actions ++ functions ++ ports ++ objects ++ sequencers) (flat_map beyond_in_body (machine_bodies m)) all in
    let to_objects : states ++ events ++ actions ++ functions ++ ports ++ objects ≡ [] = left_none (states ++ events ++ actions ++ functions ++ ports ++ objects) sequencers to_sequencers in
    let to_ports : states ++ events ++ actions ++ functions ++ ports ≡ [] = left_none (states ++ events ++ actions ++ functions ++ ports) objects to_objects in
    let to_functions : states ++ events ++ actions ++ functions ≡ [] = left_none (states ++ events ++ actions ++ functions) ports to_ports in
    let to_actions : states ++ events ++ actions ≡ [] = left_none (states ++ events ++ actions) functions to_functions in
    let to_events : states ++ events ≡ [] = left_none (states ++ events) actions to_actions in
    record {
      few =
          record {
            states = within_limit 256 (state_members m) (left_none states events to_events);
            events = within_limit 256 (event_members m) (right_none states events to_events);
            actions = within_limit 256 (filter is_action (machine_declarations m)) (right_none (states ++ events) actions to_actions);
          };
      functions = within_limit 256 (filter is_counted_function (machine_declarations m)) (right_none (states ++ events ++ actions) functions to_functions);
      ports = within_limit 32 (filter is_port (machine_declarations m)) (right_none (states ++ events ++ actions ++ functions) ports to_ports);
      objects = within_limit 64 (filter is_object (machine_declarations m)) (right_none (states ++ events ++ actions ++ functions ++ ports) objects to_objects);
    }

pub machine_limited : (trees : List Tree) (k : ℕ) (m : Machine) → broken_declarations trees ≡ [] → slice_get (machines_of trees) k ≡ Some m → Limits m
machine_limited trees k m e at =
    let kept = limits_kept trees e in
    limits_of trees m (none_at (beyond_in_scope trees) (wide_scopes trees) (suc k) (within m) kept.scopes (mapped_at within (machines_of trees) k m at))

-- machines

machine_each : (d : Declaration) → length (machine_in d) ≤ cond (is_machine d) 1 0
machine_each (machine d) = omega arith
machine_each _ = omega arith

few_parts : (trees : List Tree) (ms : List Machine) → flat_map (beyond_in_scope trees) (map within ms) ≡ [] → All HasFewParts ms
few_parts trees [] e = All-nil HasFewParts
few_parts trees (m ∷ ms) e =
    let limits = limits_of trees m (left_none (beyond_in_scope trees (within m)) (flat_map (beyond_in_scope trees) (map within ms)) e) in
    All-cons HasFewParts m ms limits.few (few_parts trees ms (right_none (beyond_in_scope trees (within m)) (flat_map (beyond_in_scope trees) (map within ms)) e))

pub few_machines : (trees : List Tree) → broken_declarations trees ≡ [] → HasFewMachines trees
few_machines trees e =
    let kept = limits_kept trees e in
    record {
      machines = omega (arith, at_most is_machine machine_in machine_each (global_declarations trees), kept.machines);
      each = few_parts trees (machines_of trees) (right_none (beyond_in_scope trees everywhere) (flat_map (beyond_in_scope trees) (map within (machines_of trees))) kept.scopes);
    }

-- enumerations and structures

-- as many with their scopes as without
counted_scoped : (p : Declaration → Bool) (ds : List ScopedDeclaration) → length (filter (λ (d : ScopedDeclaration). p d.declaration) ds) ≡ length (filter p (map (λ (d : ScopedDeclaration). d.declaration) ds))
counted_scoped p [] = refl
counted_scoped p (d ∷ ds) = by_test (p d.declaration) (counted_scoped p ds)
  where
    kept : List ScopedDeclaration
    kept = filter (λ (d : ScopedDeclaration). p d.declaration) ds

    plain : List Declaration
    plain = filter p (map (λ (d : ScopedDeclaration). d.declaration) ds)

    by_test : (v : Bool) → length kept ≡ length plain → length (cond v (d ∷ kept) kept) ≡ length (cond v (d.declaration ∷ plain) plain)
    by_test true e = ap suc e
    by_test false e = e

unscoped_in : (scope : Scope) (ds : List Declaration) → map (λ (d : ScopedDeclaration). d.declaration) (map (made_in scope) ds) ≡ ds
unscoped_in scope [] = refl
unscoped_in scope (d ∷ ds) = ap (λ (l : List Declaration). d ∷ l) (unscoped_in scope ds)

unscoped_one : (d : Declaration) → map (λ (s : ScopedDeclaration). s.declaration) (made_with_its_own d) ≡ with_its_own d
unscoped_one (machine m) = ap (λ (l : List Declaration). machine m ∷ l) (unscoped_in (within m) (machine_declarations m))
unscoped_one _ = refl

unscoped : (ds : List Declaration) → map (λ (d : ScopedDeclaration). d.declaration) (flat_map made_with_its_own ds) ≡ flat_map with_its_own ds
unscoped [] = refl
unscoped (d ∷ ds) =
    let split : map (λ (d : ScopedDeclaration). d.declaration) (flat_map made_with_its_own (d ∷ ds)) ≡ map (λ (d : ScopedDeclaration). d.declaration) (made_with_its_own d) ++ map (λ (d : ScopedDeclaration). d.declaration) (flat_map made_with_its_own ds) = map-append (λ (d : ScopedDeclaration). d.declaration) (made_with_its_own d) (flat_map made_with_its_own ds) in
    cc (split, unscoped_one d, unscoped ds)

scoped_counted : (p : Declaration → Bool) (trees : List Tree) → length (filter (λ (d : ScopedDeclaration). p d.declaration) (scoped_declarations trees)) ≡ length (filter p (all_declarations trees))
scoped_counted p trees =
    counted_scoped p (scoped_declarations trees) ∙ ap (λ (ds : List Declaration). length (filter p ds)) (unscoped (global_declarations trees))

pub few_types : (trees : List Tree) → broken_declarations trees ≡ [] → HasFewTypes trees
few_types trees e =
    let kept = limits_kept trees e in
    record {
      enumerations = omega (arith, scoped_counted is_enumeration trees, kept.enumerations);
      structures = omega (arith, scoped_counted is_counted_structure trees, kept.structures);
    }
