-- In an accepted protocol a structure that a name stands for, or that the messages of a buffer are of, is declared in the protocol
-- and isn't external.
use Rattle.std.proofs.Common.{◌≡◌, ◌++◌, ◌+◌, ℕ, suc, Bool, true, false, Option, None, Some, IfSome, List, [], ◌∷◌, All, find, flat_map, slice_get, refl, sym, ◌∙◌, ◌||◌, ap, cond}
use Rattle.std.specs.Prelude.{is_some}
use Rattle.std.specs.Option.{option_map, option_or}
use Rattle.std.proofs.lemmas.List.Elements.{All-append, All-cons, All-nil}
use Rattle.slicc_ast.specs.declared.tree.item.Tree.{Tree}
use Rattle.slicc_ast.specs.declared.tree.machine.Machine.{Machine}
use Rattle.slicc_ast.specs.declared.tree.span.Span.{Span}
use Rattle.slicc_plan.specs.declared.built_in.BuiltInType.{BuiltInType}
use Rattle.slicc_plan.specs.declared.built_in.BuiltInType.TheVariants.{Request}
use Rattle.slicc_plan.specs.declared.broken.Rule.TheVariants.{NoStates}
use Rattle.slicc_plan.specs.Prelude.{IsAccepted, BufferIn, Place, own, to_network, from_network, PortOn, buffer_named, port_on, ports_of, Declaration, machine, Scope, everywhere, within, first_named, global_declarations, is_external, is_named, machine_declarations, machine_names, machines_of, wide_scopes, refused_field_types, event_members, is_states, limits_passed, members_of_found, is_empty, missing_parts_in, is_on, is_on_network, port_message, type_at, all_ports, all_ports_from, is_mandatory, told_unless, unknown_built_in, unknown_built_ins, unknown_built_ins_in, unknown_structure, names_twice_declared, made_in, made_with_its_own, scoped_declarations, KnownType, built_in, structured, declared_type, external_type, global_type, structure_type, table_named, type_in, type_of_found, type_where, unknown_types, bad_values}
use Rattle.slicc_plan.specs.Buffers.{port_in}
use Rattle.slicc_plan.specs.BuiltIn.{built_in_type}
use Rattle.slicc_plan.specs.Declarations.{structure, in_port, out_port}
use Rattle.slicc_plan.specs.MessageTypes.{message_type}
use Rattle.slicc_plan.proofs.Room.{mapped_at, none_at, right_none}
use Rattle.slicc_plan.proofs.Machines.{none_in_one}
use Rattle.slicc_plan.proofs.MachinesKept.{machines_kept}
use Rattle.slicc_plan.proofs.There.{There, all_there, in_machine, machine_there, there_first, there_flat, there_found, there_later}

abbrev pub IsDeclared : List Tree → KnownType → Type 0
IsDeclared trees (structured scope s) =
    There (scoped_declarations trees) (made_in scope (structure s)) × (is_external s ≡ false)
IsDeclared trees _ = Unit {0}

right_in : (d : Declaration) → There (made_with_its_own d) (made_in everywhere d)
right_in (machine m) = (0, refl)
right_in d = (0, refl)

flat_all : {X Y : Type 0} (P : Y → Type 0) (f : X → List Y) (xs : List X) → ((x : X) → There xs x → All P (f x)) → All P (flat_map f xs)
flat_all P f [] each = All-nil P
flat_all P f (x ∷ xs) each =
    All-append P (f x) (flat_map f xs) (each x (there_first x xs)) (flat_all P f xs (λ y there. each y (there_later x y xs there)))

module _ (trees : List Tree) (accepted : IsAccepted trees) where
  pub none_unknown : (k : ℕ) (scope : Scope) → slice_get (wide_scopes trees) k ≡ Some scope → unknown_built_ins_in trees scope ≡ []
  none_unknown k scope at =
      none_at (unknown_built_ins_in trees) (wide_scopes trees) k scope
      (right_none (names_twice_declared trees ++ unknown_types trees ++ limits_passed trees ++ refused_field_types trees ++ bad_values trees) (unknown_built_ins trees) accepted.of_declarations) at

  declared : (scope : Scope) (d : Declaration) → unknown_built_in (machine_names trees) d ≡ [] → There (scoped_declarations trees) (made_in scope d) → IfSome (declared_type scope d) (IsDeclared trees)
  declared scope (structure s) none there = by (is_external s) refl none
    where
      external : (o : Option BuiltInType) → told_unless (is_some o) s.span ≡ [] → IsDeclared trees (external_type scope s o)
      external None none = absurd (cc none)
      external (Some b) none = tt

      by : (b : Bool) → is_external s ≡ b → unknown_structure (machine_names trees) s b ≡ [] → IsDeclared trees (structure_type scope s b)
      by true is none = external (table_named s.name.text) none
      by false is none = (there, is)
  declared scope _ none there = tt

  of_global : (text : List ℕ) → IfSome (global_type trees text) (IsDeclared trees)
  of_global text = by (built_in_type text)
    where
      first : (o : Option Declaration) → find (is_named text) (global_declarations trees) ≡ o → IfSome (type_of_found everywhere o) (IsDeclared trees)
      first None is = tt
      first (Some d) is =
          let place = there_found (is_named text) (global_declarations trees) d is in
          declared everywhere d (none_at (unknown_built_in (machine_names trees)) (global_declarations trees) place.0 d (none_unknown 0 everywhere refl) place.1)
          (there_flat made_with_its_own (global_declarations trees) d (made_in everywhere d) place (right_in d))

      by : (b : Option BuiltInType) → IfSome (option_or (option_map built_in b) (type_of_found everywhere (first_named text (global_declarations trees)))) (IsDeclared trees)
      by None = first (first_named text (global_declarations trees)) refl
      by (Some b) = tt

  of_name : (k : ℕ) (m : Machine) → slice_get (machines_of trees) k ≡ Some m → (text : List ℕ) → IfSome (type_in trees (within m) text) (IsDeclared trees)
  of_name k m at text = by (first_named text (machine_declarations m)) refl
    where
      by : (o : Option Declaration) → find (is_named text) (machine_declarations m) ≡ o → IfSome (type_where trees (within m) text o) (IsDeclared trees)
      by None is = of_global text
      by (Some d) is =
          let place = there_found (is_named text) (machine_declarations m) d is in
          declared (within m) d (none_at (unknown_built_in (machine_names trees)) (machine_declarations m) place.0 d (none_unknown (suc k) (within m) (mapped_at within (machines_of trees) k m at)) place.1)
          (in_machine trees m d (machine_there (global_declarations trees) m (k, at)) place)

  -- Ports, and the buffers that they are on.

  abbrev Carries : PortOn → Type 0
  Carries p = IsDeclared trees p.message

  one_port : (number : ℕ) (is_in : Bool) (span : Span) (b : Option BufferIn) (t : Option KnownType) → IfSome t (IsDeclared trees) → All Carries (port_on number is_in span b t)
  one_port number is_in span (Some b) (Some t) is = All-cons Carries _ [] is (All-nil Carries)
  one_port number is_in span (Some b) None is = All-nil Carries
  one_port number is_in span None t is = All-nil Carries

  port : (k number : ℕ) (m : Machine) → slice_get (machines_of trees) k ≡ Some m → (d : Declaration) → All Carries (port_in trees number m d)
  port k number m at (in_port p) = one_port number true p.span (buffer_named trees m p.buffer) (type_in trees (within m) p.message.text) (of_name k m at p.message.text)
  port k number m at (out_port p) = one_port number false p.span (buffer_named trees m p.buffer) (type_in trees (within m) p.message.text) (of_name k m at p.message.text)
  port k number m at _ = All-nil Carries

  ports : (number : ℕ) (ms : List Machine) → ((m : Machine) → There ms m → There (machines_of trees) m) → All Carries (all_ports_from trees number ms)
  ports number [] among = All-nil Carries
  ports number (m ∷ ms) among =
      let place = among m (there_first m ms) in
      All-append Carries (ports_of trees number m) (all_ports_from trees (number + 1) ms)
      (flat_all Carries (port_in trees number m) (machine_declarations m) (λ d there. port place.0 number m place.1 d))
      (ports (number + 1) ms (λ n there. among n (there_later m n ms there)))

  of_port : (p : PortOn → Bool) → IfSome (port_message (find p (all_ports trees))) (IsDeclared trees)
  of_port p = by (find p (all_ports trees)) refl
    where
      by : (o : Option PortOn) → find p (all_ports trees) ≡ o → IfSome (port_message o) (IsDeclared trees)
      by None is = tt
      by (Some q) is =
          all_there Carries (all_ports trees) q (ports 0 (machines_of trees) (λ m there. there)) (there_found p (all_ports trees) q is)

  pub message_declared : (number : ℕ) (b : BufferIn) → IfSome (message_type trees number b) (IsDeclared trees)
  message_declared number b = by b.place
    where
      or_request : (o : Option KnownType) (mandatory : Bool) → IfSome o (IsDeclared trees) → IfSome (option_or o (cond mandatory (Some (built_in Request)) None)) (IsDeclared trees)
      or_request None true is = tt
      or_request None false is = tt
      or_request (Some t) mandatory is = is

      by : (place : Place) → IfSome (type_at trees number b place) (IsDeclared trees)
      by own = or_request (port_message (find (is_on number b) (all_ports trees))) (is_mandatory b) (of_port (is_on number b))
      by (to_network n) = of_port (λ (p : PortOn). is_on_network n p.buffer.place)
      by (from_network n) = of_port (λ (p : PortOn). is_on_network n p.buffer.place)

  -- A machine has states.
  pub has_states : (k : ℕ) (m : Machine) → slice_get (machines_of trees) k ≡ Some m → (d : Declaration) × (find is_states (machine_declarations m) ≡ Some d)
  has_states k m at = by (find is_states (machine_declarations m)) refl
    where
      by : (o : Option Declaration) → find is_states (machine_declarations m) ≡ o → (d : Declaration) × (o ≡ Some d)
      by None is =
          let none : missing_parts_in (0 + k) m ≡ [] =
          none_in_one missing_parts_in 0 (machines_of trees) k m
          (machines_kept trees accepted.of_machines).parts at in
          let told : missing_parts_in (0 + k) m ≡ record { rule = NoStates; machine = 0 + k; place = m.span; other = None } ∷ [] =
          ap (λ o. cond (is_empty (members_of_found o) || is_empty (event_members m)) (record { rule = NoStates; machine = 0 + k; place = m.span; other = None } ∷ []) []) is in
          absurd (cc (sym none ∙ told))
      by (Some d) is = (d, refl)
