-- Counting through places to the one of a number.
use Rattle.std.specs.Prelude.{ℕ, zero, suc, Bool, false, cond, ◌++◌, filter, find, Option, None, Some, List, [], ◌∷◌, flat_map, map}
use Rattle.std.specs.List.{slice_get}
use Rattle.slicc_ast.specs.declared.tree.declaration.Member.{Member}
use Rattle.slicc_ast.specs.declared.tree.item.Tree.{Tree}
use Rattle.slicc_ast.specs.declared.tree.machine.Decl.{Decl}
use Rattle.slicc_ast.specs.declared.tree.machine.Parameter.{Parameter}
use Rattle.slicc_ast.specs.declared.tree.span.Span.{Span}
use Rattle.slicc_ast.specs.declared.tree.statement.ElseIf.{ElseIf}
use Rattle.slicc_ast.specs.declared.tree.statement.Stmt.{Stmt}
use Rattle.slicc_plan.specs.declared.broken.Broken.{Broken}
use Rattle.slicc_plan.specs.declared.broken.Rule.TheVariants.{LimitPassed}
use Rattle.slicc_plan.specs.declared.built_in.BuiltInType.TheVariants.{Sequencer}
use Rattle.slicc_plan.specs.Prelude.{body_locals, locals_in, Declaration, Scope, machine, machine_declarations, member, named_declarations, object, parameter, place_of, bodies_in, is_built_in, type_in, beyond, beyond_in_body, members_of_found, most_objects, most_of_each, most_ports, most_sequencers, is_action, is_counted_function, is_counted_structure, is_enumeration, is_events, is_field, is_machine, is_object, is_port, is_states}
use Rattle.declared_types.specs.declared.lent.Declared.{Declared}
use Rattle.declared_types.specs.Prelude.{declaration_of}
use Rattle.slicc_names.specs.declared.count.Found.{Found}
use Rattle.slicc_names.specs.declared.count.Found.TheVariants.{At, Left}
use Rattle.slicc_names.specs.declared.limits.Wanted.{Wanted}
use Rattle.slicc_names.specs.declared.limits.Wanted.TheVariants.{States, Events}
use Rattle.slicc_names.specs.declared.count.Kind.{Kind}
use Rattle.slicc_names.specs.declared.count.Kind.TheVariants.{Machine, Enumeration, Structure, Action, Function, Port, Object}

abbrev pub listed_place : Option Span → List Span
listed_place None = []
listed_place (Some p) = p ∷ []

-- what is found with one place more, and with further ones
abbrev pub found_next : Found → Span → Found
found_next (At q) p = At q
found_next (Left zero) p = At p
found_next (Left (suc n)) p = Left n

abbrev pub found_after : Found → List Span → Found
found_after found [] = found
found_after found (p ∷ ps) = found_after (found_next found p) ps

abbrev pub told_found : Found → List Broken
told_found (At p) = record { rule = LimitPassed; machine = 0; place = p; other = None } ∷ []
told_found (Left n) = []

abbrev pub is_of_kind : Kind → Declaration → Bool
is_of_kind Machine d = is_machine d
is_of_kind Enumeration d = is_enumeration d
is_of_kind Structure d = is_counted_structure d
is_of_kind Action d = is_action d
is_of_kind Function d = is_counted_function d
is_of_kind Port d = is_port d
is_of_kind Object d = is_object d

-- the place of what passes the test
abbrev pub place_if : (Declaration → Bool) → Declaration → List Span
place_if test d = cond (test d) (place_of d ∷ []) []

abbrev pub if_counted : Kind → Declaration → List Span
if_counted kind d = place_if (is_of_kind kind) d

abbrev pub declared_places : Kind → Declared → List Span
declared_places kind d = if_counted kind (declaration_of d)

-- the places of the locals of a statement
abbrev pub local_places : Stmt → List Span
local_places s = map place_of (locals_in s)

-- `else if ( expr ) block`
abbrev pub else_if_places : ElseIf → List Span
else_if_places e = map place_of (body_locals e.then)

abbrev pub field_places : Member → List Span
field_places m = place_if is_field (member m)

-- the place of a declaration, where there is one
abbrev pub found_place : Option Declaration → List Span
found_place None = []
found_place (Some d) = place_of d ∷ []

abbrev pub member_place : List Declaration → ℕ → List Span
member_place members number = found_place (slice_get members number)

abbrev pub is_wanted : Wanted → Declaration → Bool
is_wanted States d = is_states d
is_wanted Events d = is_events d

-- the places of the declarations of a kind in a part of a machine
abbrev pub decl_places : Kind → Decl → List Span
decl_places kind d = flat_map (if_counted kind) (named_declarations d)

abbrev pub parameter_places : Kind → Parameter → List Span
parameter_places kind p = if_counted kind (parameter p)

-- what a declaration declares in itself, which a machine does
abbrev pub inside : Declaration → List Declaration
inside (machine m) = machine_declarations m
inside _ = []

abbrev pub with_its_own_places : Kind → Declaration → List Span
with_its_own_places kind d = if_counted kind d ++ flat_map (if_counted kind) (inside d)

-- the same as in a machine, in any scope
abbrev pub is_sequencer_in : List Tree → Scope → Declaration → Bool
is_sequencer_in trees scope (parameter p) = is_built_in Sequencer (type_in trees scope p.kind.text)
is_sequencer_in trees scope (object o) = is_built_in Sequencer (type_in trees scope o.kind.text)
is_sequencer_in trees scope _ = false

-- the limits of a machine with these declarations
abbrev pub kind_limits : List Declaration → List Broken
kind_limits ds =
    beyond most_of_each (members_of_found (find is_states ds)) ++ beyond most_of_each (members_of_found (find is_events ds))
    ++ beyond most_of_each (filter is_action ds) ++ beyond most_of_each (filter is_counted_function ds)
    ++ beyond most_ports (filter is_port ds) ++ beyond most_objects (filter is_object ds)

abbrev pub limits_of : List Tree → Scope → List Declaration → List Broken
limits_of trees scope ds =
    kind_limits ds ++ beyond most_sequencers (filter (is_sequencer_in trees scope) ds)
    ++ flat_map beyond_in_body (flat_map bodies_in ds)
