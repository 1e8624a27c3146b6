-- The functions of states take and answer values of the kinds that the rules say.
use Rattle.std.proofs.Common.{◌≡◌, ◌∙◌, ◌+◌, ◌++◌, ◌&&◌, ℕ, Bool, true, false, cond, Option, None, Some, List, [], ◌∷◌, find, map, slice_get, refl, sym, ap, subst, arith, option_and_then, unwrap_or, codes}
use Rattle.std.specs.Option.{option_map}
use Rattle.std.specs.Str.{bytes_eq}
use Rattle.std.proofs.lemmas.Bool.{and_parts}
use Rattle.std.proofs.lemmas.List.{map-append}
use Rattle.ruby_value.specs.declared.kind.Kind.{Kind}
use Rattle.ruby_value.specs.declared.kind.Kind.TheVariants as kind
use Rattle.ruby_symbols.specs.declared.states.StateArgument.{StateArgument}
use Rattle.ruby_symbols.specs.declared.states.StateArgument.TheVariants.{Tbe, Entry, Address as AddressArgument, State as StateOf}
use Rattle.ruby_symbols.specs.Kinds.{kind_of_enumeration, kind_of_reference}
use Rattle.ruby_symbols.specs.States.{get_state_arguments, set_permission_arguments, set_state_arguments, where_there}
use Rattle.slicc_ast.specs.declared.tree.declaration.Formal.{Formal}
use Rattle.slicc_ast.specs.declared.tree.declaration.Formals.{Formals}
use Rattle.slicc_ast.specs.declared.tree.declaration.Function.TheVariants.{Plain}
use Rattle.slicc_ast.specs.declared.tree.declaration.Pairs.{Pairs}
use Rattle.slicc_ast.specs.declared.tree.declaration.State.{State}
use Rattle.slicc_ast.specs.declared.tree.declaration.Structure.{Structure}
use Rattle.slicc_ast.specs.declared.tree.item.Tree.{Tree}
use Rattle.slicc_ast.specs.declared.tree.machine.Machine.{Machine}
use Rattle.slicc_ast.specs.declared.tree.name.Name.{Name}
use Rattle.slicc_ast.specs.declared.tree.name.TypeName.{TypeName}
use Rattle.slicc_ast.specs.declared.tree.span.Span.{Span}
use Rattle.slicc_ast.specs.declared.tree.statement.Block.{Block}
use Rattle.slicc_plan.specs.declared.broken.Broken.{Broken}
use Rattle.slicc_plan.specs.declared.built_in.BuiltInType.TheVariants.{Address, Void}
use Rattle.slicc_plan.specs.AllRules.{IsAccepted}
use Rattle.slicc_plan.specs.Buffers.{is_same_known, is_same_scope}
use Rattle.slicc_plan.specs.Declarations.{Declaration, function, states, everywhere, within, first_named, is_named, machine_declarations, machines_of}
use Rattle.slicc_plan.specs.Limits.{is_states}
use Rattle.slicc_plan.specs.Machines.{entry_structure, is_entry, is_tbe, own_structures, tbe_structure}
use Rattle.slicc_plan.specs.Machines as plan
use Rattle.slicc_plan.specs.StateFunctions.{Wanted, built_in_type, line, own_state, alone, are_wanted, is_own_states, is_own_structure, is_wanted, line_where, state_functions_in, taken_to_permit, taken_to_read, taken_to_write, told_at, unlike}
use Rattle.slicc_plan.specs.SymbolsOf.{symbols_of}
use Rattle.slicc_plan.specs.SymbolsOfMachines.{kind_in, line_number, machine_symbols, number_of_found}
use Rattle.slicc_plan.specs.TypeNumbers.{built_in_kind, declared_number, default_member, no_structure, reference_kind, value_kind}
use Rattle.slicc_plan.specs.Types.{KnownType, built_in, enumerated, structured, type_in}
use Rattle.slicc_plan.proofs.Machines.{none_in_one}
use Rattle.slicc_plan.proofs.MachinesKept.{machines_kept}
use Rattle.slicc_plan.proofs.Room.{left_none, right_none}
use Rattle.slicc_plan.proofs.There.{found_passes}
use Rattle.rules_symbols.specs.StateKinds.{argument_kind}
use Rattle.rules_symbols.proofs.Fields.{named_is_in}
use Rattle.rules_symbols.proofs.Owners.{text_turned}
use Rattle.rules_symbols.proofs.Standing.{is_type}
use Rattle.rules_symbols.proofs.TypeKinds.{reference_found}
use Rattle.rules_symbols.proofs.TypeNames.{enumeration_kind}
use Rattle.rules_symbols.proofs.Types.{enumerations_alike, kinds_same, same_text}
use Rattle.rules_symbols.proofs.ValueKinds.{line_numbered, named_numbered, structure_itself}

module _ (trees : List Tree) (accepted : IsAccepted trees) (k : ℕ) (m : Machine) (at : slice_get (machines_of trees) k ≡ Some m) where
  states_kept : (machine_symbols trees k m).states ≡ number_of_found trees m (find is_states (machine_declarations m))
  unfolding machine_symbols
  states_kept = refl

  tbe_kept : (machine_symbols trees k m).tbe ≡ line_number trees m (tbe_structure m)
  unfolding machine_symbols
  tbe_kept = refl

  entry_kept : (machine_symbols trees k m).entry ≡ line_number trees m (entry_structure m)
  unfolding machine_symbols
  entry_kept = refl

  -- the kind of what is wanted
  abbrev wanted_kind : Wanted → Option Kind
  wanted_kind (built_in_type b) = built_in_kind b
  wanted_kind (line s) = value_kind trees m (structured (within m) s)
  wanted_kind own_state = kind_of_enumeration (symbols_of trees) (machine_symbols trees k m).states

  -- a type in its scope
  same_own : (n : Machine) → within m ≡ within n → is_same_scope (within m) (within n) ≡ true
  same_own n same = ap (is_same_scope (within m)) (sym same) ∙ same_text m.name.text

  of_line : (text : List ℕ) (s : Structure) (t : Option KnownType) → type_in trees (within m) text ≡ t → is_own_structure s.name.text t ≡ true → option_and_then (value_kind trees m) t ≡ value_kind trees m (structured (within m) s)
  of_line text s None is wanted = absurd (cc wanted)
  of_line text s (Some (built_in b)) is wanted = absurd (cc wanted)
  of_line text s (Some (enumerated scope name members)) is wanted = absurd (cc wanted)
  of_line text s (Some (structured everywhere u)) is wanted = absurd (cc wanted)
  of_line text s (Some (structured (within n) u)) is wanted =
      let inside = named_is_in trees accepted k m at text (structured (within n) u) is in
      let scopes = same_own n inside.1 in
      let same : is_same_known (structured (within m) s) (structured (within n) u) ≡ true = ap (λ b. b && bytes_eq s.name.text u.name.text) scopes ∙ text_turned s.name.text u.name.text ∙ wanted in
      sym (kinds_same trees m (structured (within m) s) (structured (within n) u) same)

  of_states : (text : List ℕ) (d : Option Declaration) (t : Option KnownType) → find is_states (machine_declarations m) ≡ d → type_in trees (within m) text ≡ t → is_own_states d t ≡ true
      → option_and_then (value_kind trees m) t ≡ kind_of_enumeration (symbols_of trees) (machine_symbols trees k m).states
  of_states text None t found is wanted = absurd (cc wanted)
  of_states text (Some d) None found is wanted = absurd (cc wanted)
  of_states text (Some d) (Some (built_in b)) found is wanted = absurd (cc wanted)
  of_states text (Some d) (Some (structured scope s)) found is wanted = absurd (cc wanted)
  of_states text (Some d) (Some (enumerated everywhere name members)) found is wanted = absurd (cc wanted)
  of_states text (Some d) (Some (enumerated (within n) name members)) found is wanted =
      by d (found_passes is_states (machine_declarations m) d found) found wanted
    where
      t : KnownType
      t = enumerated (within n) name members

      numbered : (j : ℕ) × (declared_number trees (enumerated (within n) name members) ≡ Some j)
      numbered = named_numbered trees k m at text (enumerated (within n) name members) is

      by : (e : Declaration) → is_states e ≡ true → find is_states (machine_declarations m) ≡ Some e → is_named name e ≡ true
          → value_kind trees m (enumerated (within n) name members) ≡ kind_of_enumeration (symbols_of trees) (machine_symbols trees k m).states
      by (states e) states_so first named =
          let names = map (λ (s : State). s.name.text) e.members in
          let u : KnownType = enumerated (within m) e.name.text names in
          let inside = named_is_in trees accepted k m at text (enumerated (within n) name members) is in
          let same : is_same_known u (enumerated (within n) name members) ≡ true = ap (λ b. b && bytes_eq e.name.text name) (same_own n inside) ∙ named in
          let number : declared_number trees u ≡ Some numbered.0 = enumerations_alike trees u (enumerated (within n) name members) same ∙ numbered.1 in
          let own : (machine_symbols trees k m).states ≡ numbered.0 = states_kept ∙ ap (number_of_found trees m) first ∙ ap (λ (o : Option ℕ). unwrap_or o no_structure) number in
          ap (option_map (λ i. kind.Enum i (default_member trees (enumerated (within n) name members)))) numbered.1
          ∙ sym (enumeration_kind trees (enumerated (within n) name members) numbered.0 numbered.1)
          ∙ ap (kind_of_enumeration (symbols_of trees)) (sym own)
      by _ states_so first named = absurd (cc states_so)

  -- a type that is wanted has that kind
  wanted_is : (w : Wanted) (text : List ℕ) → is_wanted m w (type_in trees (within m) text) ≡ true → option_and_then (value_kind trees m) (type_in trees (within m) text) ≡ wanted_kind w
  wanted_is (built_in_type b) text is = ap (option_and_then (value_kind trees m)) (is_type b (type_in trees (within m) text) is)
  wanted_is (line s) text is = of_line text s (type_in trees (within m) text) refl is
  wanted_is own_state text is = of_states text (find is_states (machine_declarations m)) (type_in trees (within m) text) refl refl is

  all_wanted : (ws : List Wanted) (fs : List Formal) → are_wanted trees m ws fs ≡ true → map (λ (f : Formal). kind_in trees m f.kind) fs ≡ map wanted_kind ws
  all_wanted [] [] is = refl
  all_wanted [] (f ∷ fs) is = absurd (cc is)
  all_wanted (w ∷ ws) [] is = absurd (cc is)
  all_wanted (w ∷ ws) (f ∷ fs) is =
      let parts = and_parts (is_wanted m w (type_in trees (within m) f.kind.text)) (are_wanted trees m ws fs) is in
      ap (λ (o : Option Kind). o ∷ map (λ (g : Formal). kind_in trees m g.kind) fs) (wanted_is w f.kind.text parts.0)
      ∙ ap (λ (os : List (Option Kind)). wanted_kind w ∷ os) (all_wanted ws fs parts.1)

  -- What is wanted of the three functions.

  abbrev kind_of : StateArgument → Option Kind
  kind_of = argument_kind (symbols_of trees) (machine_symbols trees k m)

  line_taken : (argument : StateArgument) (p : Structure → Bool) (own : Option Structure) → find p (own_structures m) ≡ own → kind_of argument ≡ option_and_then (kind_of_reference (machine_symbols trees k m)) (line_number trees m own)
      → map wanted_kind (line_where own) ≡ map kind_of (where_there argument (line_number trees m own))
  line_taken argument p None found its = refl
  line_taken argument p (Some s) found its =
      let number = line_numbered trees k m at (within m) s (Some s) p found (s, refl, structure_itself (within m) s) in
      let kinds : value_kind trees m (structured (within m) s) ≡ kind_of argument =
      sym (its ∙ ap (option_and_then (kind_of_reference (machine_symbols trees k m))) number.1 ∙ reference_found trees k m (within m) s number.0 number.1
      ∙ sym (ap (option_and_then (reference_kind m (within m) s)) number.1)) in
      ap (λ (o : Option Kind). o ∷ []) kinds ∙ sym (ap (λ (o : Option ℕ). map kind_of (where_there argument o)) number.1)

  tbe_taken : map wanted_kind (line_where (tbe_structure m)) ≡ map kind_of (where_there Tbe (machine_symbols trees k m).tbe)
  tbe_taken =
      line_taken Tbe is_tbe (tbe_structure m) refl (ap (option_and_then (kind_of_reference (machine_symbols trees k m))) tbe_kept)
      ∙ ap (λ (o : Option ℕ). map kind_of (where_there Tbe o)) (sym tbe_kept)

  entry_taken : map wanted_kind (line_where (entry_structure m)) ≡ map kind_of (where_there Entry (machine_symbols trees k m).entry)
  entry_taken =
      line_taken Entry is_entry (entry_structure m) refl (ap (option_and_then (kind_of_reference (machine_symbols trees k m))) entry_kept)
      ∙ ap (λ (o : Option ℕ). map kind_of (where_there Entry o)) (sym entry_kept)

  read_taken : map wanted_kind (taken_to_read m) ≡ map kind_of (get_state_arguments (machine_symbols trees k m))
  read_taken =
      map-append wanted_kind (line_where (tbe_structure m) ++ line_where (entry_structure m)) (built_in_type Address ∷ [])
      ∙ ap (λ (os : List (Option Kind)). os ++ Some kind.Addr ∷ [])
      (map-append wanted_kind (line_where (tbe_structure m)) (line_where (entry_structure m))
      ∙ ap (λ (os : List (Option Kind)). os ++ map wanted_kind (line_where (entry_structure m))) tbe_taken
      ∙ ap (λ (os : List (Option Kind)). map kind_of (where_there Tbe (machine_symbols trees k m).tbe) ++ os) entry_taken
      ∙ sym (map-append kind_of (where_there Tbe (machine_symbols trees k m).tbe) (where_there Entry (machine_symbols trees k m).entry)))
      ∙ sym (map-append kind_of (where_there Tbe (machine_symbols trees k m).tbe ++ where_there Entry (machine_symbols trees k m).entry) (AddressArgument ∷ []))

  write_taken : map wanted_kind (taken_to_write m) ≡ map kind_of (set_state_arguments (machine_symbols trees k m))
  write_taken =
      map-append wanted_kind (taken_to_read m) (own_state ∷ [])
      ∙ ap (λ (os : List (Option Kind)). os ++ kind_of StateOf ∷ []) read_taken
      ∙ sym (map-append kind_of (get_state_arguments (machine_symbols trees k m)) (StateOf ∷ []))

  permit_taken : map wanted_kind (taken_to_permit m) ≡ map kind_of (set_permission_arguments (machine_symbols trees k m))
  permit_taken =
      map-append wanted_kind (line_where (entry_structure m)) (built_in_type Address ∷ own_state ∷ [])
      ∙ ap (λ (os : List (Option Kind)). os ++ Some kind.Addr ∷ kind_of StateOf ∷ []) entry_taken
      ∙ sym (map-append kind_of (where_there Entry (machine_symbols trees k m).entry) (AddressArgument ∷ StateOf ∷ []))

  -- What the rule on functions of states says.

  unlike_none : (answered : Wanted) (taken : List Wanted) (text : List ℕ) → unlike trees k m answered taken (plan.function_named m text) ≡ []
      → (kind : TypeName) (called : Name) (formals : Formals) (attributes : Pairs) (body : Block) (span : Span)
      → first_named text (machine_declarations m) ≡ Some (function (Plain kind called formals attributes (Some body) span))
      → (kind_in trees m kind ≡ wanted_kind answered) × (map (λ (f : Formal). kind_in trees m f.kind) formals.items ≡ map wanted_kind taken)
  unlike_none answered taken text none kind called formals attributes body span first =
      let told : unlike trees k m answered taken (Some (Plain kind called formals attributes (Some body) span)) ≡ [] = sym (ap (λ (o : Option Declaration). unlike trees k m answered taken (plan.function_found o)) first) ∙ none in
      let both = holds (is_wanted m answered (type_in trees (within m) kind.text) && are_wanted trees m taken formals.items) told in
      let parts = and_parts (is_wanted m answered (type_in trees (within m) kind.text)) (are_wanted trees m taken formals.items) both in
      (wanted_is answered kind.text parts.0, all_wanted taken formals.items parts.1)
    where
      holds : (b : Bool) → cond b [] (told_at k span ∷ []) ≡ [] → b ≡ true
      holds true e = refl
      holds false e = absurd (cc e)

  record StatesKept : Type 0 where
    read : unlike trees k m own_state (taken_to_read m) (plan.function_named m (codes "getState")) ≡ []
    write : unlike trees k m (built_in_type Void) (taken_to_write m) (plan.function_named m (codes "setState")) ≡ []
    permit : unlike trees k m (built_in_type Void) (taken_to_permit m) (plan.function_named m (codes "setAccessPermission")) ≡ []

  states_are_kept : StatesKept
  states_are_kept =
      let kept = machines_kept trees accepted.of_machines in
      let none : 0 + k ≡ k = omega arith in
      let all : state_functions_in trees k m ≡ [] = subst (λ (i : ℕ). state_functions_in trees i m ≡ []) none (none_in_one (state_functions_in trees) 0 (machines_of trees) k m kept.states at) in
      let reader = plan.function_named m (codes "getState") in
      let writer = plan.function_named m (codes "setState") in
      let permitter = plan.function_named m (codes "setAccessPermission") in
      let first : List Broken = alone k reader writer ++ alone k writer reader in
      let second : List Broken = unlike trees k m own_state (taken_to_read m) reader in
      let third : List Broken = unlike trees k m (built_in_type Void) (taken_to_write m) writer in
      let fourth : List Broken = unlike trees k m (built_in_type Void) (taken_to_permit m) permitter in
      let to_third : first ++ second ++ third ≡ [] = left_none (first ++ second ++ third) fourth all in
      record {
        read = right_none first second (left_none (first ++ second) third to_third);
        write = right_none (first ++ second) third to_third;
        permit = right_none (first ++ second ++ third) fourth all;
      }

  -- by the declarations of the functions
  module _ (kind : TypeName) (called : Name) (formals : Formals) (attributes : Pairs) (body : Block) (span : Span) where
    pub get_state_is : first_named (codes "getState") (machine_declarations m) ≡ Some (function (Plain kind called formals attributes (Some body) span))
        → (kind_in trees m kind ≡ kind_of StateOf) × (map (λ (f : Formal). kind_in trees m f.kind) formals.items ≡ map kind_of (get_state_arguments (machine_symbols trees k m)))
    get_state_is first =
        let kept = states_are_kept in
        let is = unlike_none own_state (taken_to_read m) (codes "getState") kept.read kind called formals attributes body span first in
        (is.0, is.1 ∙ read_taken)

    pub set_state_is : first_named (codes "setState") (machine_declarations m) ≡ Some (function (Plain kind called formals attributes (Some body) span))
        → (kind_in trees m kind ≡ None) × (map (λ (f : Formal). kind_in trees m f.kind) formals.items ≡ map kind_of (set_state_arguments (machine_symbols trees k m)))
    set_state_is first =
        let kept = states_are_kept in
        let is = unlike_none (built_in_type Void) (taken_to_write m) (codes "setState") kept.write kind called formals attributes body span first in
        (is.0, is.1 ∙ write_taken)

    pub set_permission_is : first_named (codes "setAccessPermission") (machine_declarations m) ≡ Some (function (Plain kind called formals attributes (Some body) span))
        → (kind_in trees m kind ≡ None) × (map (λ (f : Formal). kind_in trees m f.kind) formals.items ≡ map kind_of (set_permission_arguments (machine_symbols trees k m)))
    set_permission_is first =
        let kept = states_are_kept in
        let is = unlike_none (built_in_type Void) (taken_to_permit m) (codes "setAccessPermission") kept.permit kind called formals attributes body span first in
        (is.0, is.1 ∙ permit_taken)
