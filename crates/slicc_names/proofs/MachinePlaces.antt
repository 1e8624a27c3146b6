-- The places in a machine, and the limits of a machine, by its parts.
use Rattle.std.proofs.Common.{◌≡◌, ℕ, List, ◌++◌, filter, find, flat_map, map, refl, sym, ap, ◌∙◌, Option}
use Rattle.std.proofs.lemmas.Grind.{flat_map-append}
use Rattle.std.proofs.lemmas.List.Folds.{flat_map-map}
use Rattle.slicc_ast.specs.declared.tree.item.Tree.{Tree}
use Rattle.slicc_ast.specs.declared.tree.machine.Machine.{Machine}
use Rattle.slicc_plan.proofs.Firsts.{first_after-append}
use Rattle.slicc_plan.specs.declared.broken.Broken.{Broken}
use Rattle.slicc_plan.specs.Declarations.{enumeration, structure, out_port, in_port}
use Rattle.slicc_plan.specs.Prelude.{Declaration, machine, states, parameter, object, action, function, symbol, state, member, formal, local, Scope, within, declared_in, global_declarations, machine_declarations, named_declarations, wide_scopes, all_declarations, beyond, beyond_in_body, beyond_in_declaration, beyond_in_machine, beyond_in_scope, is_action, is_counted_function, is_counted_structure, is_enumeration, is_events, is_machine, is_object, is_port, is_sequencer, is_states, limits_passed, machine_limits, members_of_found, most_machines, most_objects, most_of_each, most_ports, most_sequencers, most_structures, with_its_own, first_after, bodies_in, machine_bodies}
use Rattle.slicc_names.proofs.Counts.{beyond_passing}
use Rattle.slicc_names.proofs.Parts.{flat_flat}
use Rattle.slicc_names.specs.Prelude.{decl_places, found_after, if_counted, is_of_kind, is_sequencer_in, told_found, kind_limits, limits_of, parameter_places, with_its_own_places}
use Rattle.slicc_names.specs.declared.count.Found.TheVariants.{Left}
use Rattle.slicc_names.specs.declared.count.Kind.{Kind}

pub machine_places : (kind : Kind) (m : Machine) → flat_map (if_counted kind) (machine_declarations m) ≡ flat_map (parameter_places kind) m.parameters ++ flat_map (decl_places kind) m.declarations
machine_places kind m =
    flat_map-append (if_counted kind) (map parameter m.parameters) (flat_map named_declarations m.declarations)
    ∙ ap (λ ps. ps ++ flat_map (if_counted kind) (flat_map named_declarations m.declarations)) (flat_map-map (if_counted kind) parameter m.parameters)
    ∙ ap (λ ps. flat_map (parameter_places kind) m.parameters ++ ps) (flat_flat (if_counted kind) named_declarations m.declarations)

same_sequencer : (trees : List Tree) (m : Machine) (d : Declaration) → is_sequencer_in trees (within m) d ≡ is_sequencer trees m d
same_sequencer trees m (machine n) = refl
same_sequencer trees m (enumeration e) = refl
same_sequencer trees m (structure s) = refl
same_sequencer trees m (states s) = refl
same_sequencer trees m (parameter p) = refl
same_sequencer trees m (object o) = refl
same_sequencer trees m (out_port p) = refl
same_sequencer trees m (in_port p) = refl
same_sequencer trees m (action a) = refl
same_sequencer trees m (function f) = refl
same_sequencer trees m (symbol s) = refl
same_sequencer trees m (state s) = refl
same_sequencer trees m (member n) = refl
same_sequencer trees m (formal f) = refl
same_sequencer trees m (local kind called span) = refl

pub own_limits : (trees : List Tree) (m : Machine) → limits_of trees (within m) (machine_declarations m) ≡ beyond_in_machine trees m
own_limits trees m =
    let same : is_sequencer_in trees (within m) ≡ is_sequencer trees m = λ i d. same_sequencer trees m d i in
    ap (λ test. kind_limits (machine_declarations m) ++ beyond most_sequencers (filter test (machine_declarations m)) ++ flat_map beyond_in_body (machine_bodies m)) same

its_own : (kind : Kind) (d : Declaration) → flat_map (if_counted kind) (with_its_own d) ≡ with_its_own_places kind d
its_own kind (machine n) = refl
its_own kind (enumeration e) = refl
its_own kind (structure s) = refl
its_own kind (states s) = refl
its_own kind (parameter p) = refl
its_own kind (object o) = refl
its_own kind (out_port p) = refl
its_own kind (in_port p) = refl
its_own kind (action a) = refl
its_own kind (function f) = refl
its_own kind (symbol s) = refl
its_own kind (state s) = refl
its_own kind (member n) = refl
its_own kind (formal f) = refl
its_own kind (local k called span) = refl

pub all_places : (kind : Kind) (ds : List Declaration) → flat_map (if_counted kind) (flat_map with_its_own ds) ≡ flat_map (with_its_own_places kind) ds
all_places kind ds = flat_flat (if_counted kind) with_its_own ds ∙ (λ i. flat_map (λ d. its_own kind d i) ds)

-- one list more that is told of
pub told_next : (f g h : Option Broken) (xs ys : List Broken) → g ≡ first_after f xs → h ≡ first_after g ys → h ≡ first_after f (xs ++ ys)
told_next f g h xs ys p q = q ∙ ap (λ o. first_after o ys) p ∙ sym (first_after-append f xs ys)

pub machine_told : (trees : List Tree) (s : Scope) (m : Machine) → within m ≡ s → limits_of trees s (declared_in trees s) ≡ machine_limits trees s
machine_told trees s m e =
    sym (ap (λ t. limits_of trees t (declared_in trees t)) e) ∙ own_limits trees m ∙ ap (machine_limits trees) e

pub kinds_told : (kind : Kind) (n : ℕ) (trees : List Tree) (ds : List Declaration) → ds ≡ global_declarations trees
    → told_found (found_after (Left n) (flat_map (with_its_own_places kind) ds)) ≡ beyond n (filter (is_of_kind kind) (all_declarations trees))
kinds_told kind n trees ds e =
    ap (λ es. told_found (found_after (Left n) (flat_map (with_its_own_places kind) es))) e
    ∙ ap (λ ps. told_found (found_after (Left n) ps)) (sym (all_places kind (global_declarations trees)))
    ∙ sym (beyond_passing (is_of_kind kind) n (all_declarations trees))

pub kind_limits_told : (ds : List Declaration) (f f1 f2 f3 f4 f5 f6 : Option Broken)
    → f1 ≡ first_after f (beyond most_of_each (members_of_found (find is_states ds))) → f2 ≡ first_after f1 (beyond most_of_each (members_of_found (find is_events ds)))
    → f3 ≡ first_after f2 (beyond most_of_each (filter is_action ds)) → f4 ≡ first_after f3 (beyond most_of_each (filter is_counted_function ds))
    → f5 ≡ first_after f4 (beyond most_ports (filter is_port ds)) → f6 ≡ first_after f5 (beyond most_objects (filter is_object ds)) → f6 ≡ first_after f (kind_limits ds)
kind_limits_told ds f f1 f2 f3 f4 f5 f6 p1 p2 p3 p4 p5 p6 =
    let l1 = beyond most_of_each (members_of_found (find is_states ds)) in
    let l2 = beyond most_of_each (members_of_found (find is_events ds)) in
    let l3 = beyond most_of_each (filter is_action ds) in
    let l4 = beyond most_of_each (filter is_counted_function ds) in
    let l5 = beyond most_ports (filter is_port ds) in
    let l6 = beyond most_objects (filter is_object ds) in
    told_next f f5 f6 (l1 ++ l2 ++ l3 ++ l4 ++ l5) l6
    (told_next f f4 f5 (l1 ++ l2 ++ l3 ++ l4) l5 (told_next f f3 f4 (l1 ++ l2 ++ l3) l4 (told_next f f2 f3 (l1 ++ l2) l3 (told_next f f1 f2 l1 l2 p1 p2) p3) p4) p5) p6

pub limits_told : (trees : List Tree) (s : Scope) (ds : List Declaration) (f g h k : Option Broken) → g ≡ first_after f (kind_limits ds) → h ≡ first_after g (beyond most_sequencers (filter (is_sequencer_in trees s) ds))
    → k ≡ first_after h (flat_map beyond_in_body (flat_map bodies_in ds)) → k ≡ first_after f (limits_of trees s ds)
limits_told trees s ds f g h k p q r =
    told_next f h k (kind_limits ds ++ beyond most_sequencers (filter (is_sequencer_in trees s) ds)) (flat_map beyond_in_body (flat_map bodies_in ds))
    (told_next f g h (kind_limits ds) (beyond most_sequencers (filter (is_sequencer_in trees s) ds)) p q) r

pub scope_told : (trees : List Tree) (s : Scope) (f g h : Option Broken) → g ≡ first_after f (flat_map beyond_in_declaration (declared_in trees s)) → h ≡ first_after g (machine_limits trees s) → h ≡ first_after f (beyond_in_scope trees s)
scope_told trees s f g h p q = told_next f g h (flat_map beyond_in_declaration (declared_in trees s)) (machine_limits trees s) p q

pub protocol_told : (trees : List Tree) (f f1 f2 f3 f4 : Option Broken) → f1 ≡ first_after f (beyond most_machines (filter is_machine (global_declarations trees)))
    → f2 ≡ first_after f1 (beyond 16380 (filter is_enumeration (all_declarations trees))) → f3 ≡ first_after f2 (beyond most_structures (filter is_counted_structure (all_declarations trees)))
    → f4 ≡ first_after f3 (flat_map (beyond_in_scope trees) (wide_scopes trees)) → f4 ≡ first_after f (limits_passed trees)
protocol_told trees f f1 f2 f3 f4 p1 p2 p3 p4 =
    let l1 = beyond most_machines (filter is_machine (global_declarations trees)) in
    let l2 = beyond 16380 (filter is_enumeration (all_declarations trees)) in
    let l3 = beyond most_structures (filter is_counted_structure (all_declarations trees)) in
    let l4 = flat_map (beyond_in_scope trees) (wide_scopes trees) in
    told_next f f3 f4 (l1 ++ l2 ++ l3) l4 (told_next f f2 f3 (l1 ++ l2) l3 (told_next f f1 f2 l1 l2 p1 p2) p3) p4
