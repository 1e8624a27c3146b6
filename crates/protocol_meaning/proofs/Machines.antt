-- Each machine of an accepted protocol, with a topology that fits it, is within the extent of its runs.
use Rattle.std.proofs.Common.{◌≡◌, ◌<◌, ◌≤◌, ◌+◌, ◌*◌, ◌++◌, ◌&&◌, ◌||◌, ◌==◌, ◌∙◌, ℕ, ℤ, zero, suc, Bool, true, false, cond, List, [], ◌∷◌, All, IfSome, IsSomeAnd, Option, None, Some, find, flat_map, fold, get_or, length, length-append, lit<, map, pos, refl, sym, ap, subst, arith, slice_get, unwrap_or, option_and_then}
use Rattle.std.specs.Prelude.{codes, is_none, position}
use Rattle.std.specs.Option.{option_map}
use Rattle.std.specs.Str.{bytes_eq}
use Rattle.std.proofs.lemmas.Bool.{and_from, cond_both}
use Rattle.std.proofs.lemmas.List.{length-map}
use Rattle.std.proofs.lemmas.List.Elements.{All-append, All-cons, All-head, All-map, All-nil, All-push, All-tail, All-weaker}
use Rattle.std.proofs.lemmas.List.Quantifiers.{position-Some}
use Rattle.std.proofs.lemmas.Option.{slice_get-get_or, slice_get_within}
use Rattle.std.proofs.lemmas.Slice.Eq.{bytes_eq-Decides}
use Rattle.ruby_value.specs.declared.kind.Kind.{Kind}
use Rattle.ruby_value.specs.declared.kind.Kind.TheVariants as kind
use Rattle.ruby_value.specs.declared.setup.MachineSetup.{MachineSetup}
use Rattle.ruby_value.specs.declared.setup.Sizes.{Sizes}
use Rattle.ruby_value.specs.declared.setup.TableSetup.{TableSetup}
use Rattle.ruby_value.specs.declared.setup.TableSize.{TableSize}
use Rattle.ruby_value.specs.declared.value.Value.{Value}
use Rattle.ruby_value.specs.declared.value.Value.TheVariants as value
use Rattle.ruby_symbols.specs.declared.machine.MachineSymbols.{MachineSymbols}
use Rattle.ruby_symbols.specs.declared.machine.TableSort.{TableSort}
use Rattle.ruby_symbols.specs.declared.machine.Next.TheVariants.{To}
use Rattle.ruby_symbols.specs.declared.machine.TransitionSymbol.{TransitionSymbol}
use Rattle.ruby_symbols.specs.declared.types.FieldSymbol.{FieldSymbol}
use Rattle.slicc_ast.specs.declared.tree.declaration.Member.{Member}
use Rattle.slicc_ast.specs.declared.tree.declaration.Member.TheVariants.{Field, Method, Skipped}
use Rattle.slicc_ast.specs.declared.tree.declaration.State.{State}
use Rattle.slicc_ast.specs.declared.tree.declaration.Structure.{Structure}
use Rattle.slicc_ast.specs.declared.tree.declaration.Symbol.{Symbol}
use Rattle.slicc_ast.specs.declared.tree.item.Tree.{Tree}
use Rattle.slicc_ast.specs.declared.tree.machine.Literal.{Literal}
use Rattle.slicc_ast.specs.declared.tree.machine.Literal.TheVariants.{Number, Minus, Quoted, True}
use Rattle.slicc_ast.specs.declared.tree.machine.Machine.{Machine}
use Rattle.slicc_ast.specs.declared.tree.machine.NextState.{NextState}
use Rattle.slicc_ast.specs.declared.tree.machine.NextState.TheVariants.{Named, Asked}
use Rattle.slicc_ast.specs.declared.tree.machine.Transition.{Transition}
use Rattle.slicc_ast.specs.declared.tree.name.Name.{Name}
use Rattle.slicc_plan.specs.declared.broken.Broken.{Broken}
use Rattle.slicc_plan.specs.declared.broken.Rule.TheVariants.{NoStates}
use Rattle.slicc_plan.specs.declared.built_in.BuiltInType.TheVariants.{Cycles}
use Rattle.slicc_plan.specs.Prelude.{IsAccepted, large_bodies, permissions, is_same_scope, call_circles, Declaration, machine, states, parameter, object, symbol, state, member, within, global_declarations, is_named, machine_declarations, machines_of, initial_value, event_members, is_enumeration, is_events, is_states, members_in, members_of_found, state_members, is_empty, missing_machine, missing_parts, unanswered_stars, missing_parts_in, literal_value, value_in, value_of_kind, values_of, written_value, function_named, includes, in_each_from, next_number, number_among, numbers_among, transitions_of, with_number, written, wrong_networks, reading_changes, default_state, first_state, opening_value, parameter_table, range_values, set_value, setup_in, table_of_lines, table_setup, table_size, tables_from, values_from, wrong_state_functions, machines_from, symbols_of, structure_symbols, machine_symbols, number_of_found, permission_number, permissions_found, transition_symbol, line_structure, tables_of, ScopedDeclaration, declared_number, declares, is_known_as, made_in, no_structure, plain_kind, shared_pairs, KnownType, enumerated, is_built_in, type_in}
use Rattle.slicc_plan.specs.Declarations.{enumeration}
use Rattle.slicc_plan.specs.FieldTypes.{field_of}
use Rattle.slicc_plan.specs.Machines.{names_in as names_written}
use Rattle.slicc_plan.proofs.Room.{left_none, right_none}
use Rattle.ctl_face.specs.Prelude.{opening_table, AreNumbered}
use Rattle.ctl_face.proofs.Lines.{All-found}
use Rattle.ruby_topology.specs.declared.topology.Topology.{Topology}
use Rattle.protocol_meaning.specs.Prelude.{AreSizesIn, FitsPlan, ranges_of, setups_of, IsKept, KeepsRanges, kept_value, reading_of, reading_with, AreWithin, Extent, IsMember, IsWithin, members_of, declared_extent}
use Rattle.protocol_meaning.proofs.ByNumber.{setup_found, setups_counted, symbols_found}
use Rattle.protocol_meaning.proofs.Places.{any_get, any_position, at_position}
use Rattle.protocol_runs.proofs.Ranges.{first-free}
use Rattle.body_meaning.specs.Prelude.{Reading}
use Rattle.protocol_meaning.proofs.Kept.{ranges_are_kept}
use Rattle.slicc_plan.proofs.Machines.{symbols_counted}
use Rattle.slicc_plan.proofs.Pairs.{positions_below}
use Rattle.slicc_plan.proofs.There.{There, found_passes, get_right, in_machine, machine_there, there_found}
use Rattle.protocol_meaning.proofs.Bounds.{Bounds}
use Rattle.protocol_meaning.proofs.Reading.{NextWithin, ReadingWithin, TransitionWithin, bounds_of}
use Rattle.protocol_meaning.proofs.OfMachine.{MachineWithin}
use Rattle.protocol_meaning.proofs.KeptBounds.{HasRange}
use Rattle.protocol_meaning.proofs.Declared.{L, as_enumeration, counted, listed, names_in, text_in}
use Rattle.protocol_meaning.proofs.Symbols.{Field-within, KindWithin, field_within, kind_within, structures_within}

-- States and events.

as_many : (d : Declaration) → length (members_in d) ≡ length (names_in d)
as_many (enumeration e) = length-map {B = Declaration} e.members symbol ∙ sym (length-map e.members (λ (s : Symbol). s.name.text))
as_many (states d) = length-map {B = Declaration} d.members state ∙ sym (length-map d.members (λ (s : State). s.name.text))
as_many d = refl

states_are : (d : Declaration) → is_states d ≡ true → is_enumeration d ≡ true
states_are (states d) is = refl
states_are (enumeration d) is = refl
states_are _ is = absurd (cc is)

events_are : (d : Declaration) → is_events d ≡ true → is_enumeration d ≡ true
events_are (enumeration d) is = refl
events_are (states d) is = refl
events_are _ is = absurd (cc is)

-- Numbers of names.

numbered_below : (ds : List Declaration) (n : Name) → IfSome (number_among ds n) (λ k. k < length ds)
numbered_below ds n = by (number_among ds n) refl
  where
    by : (o : Option ℕ) → number_among ds n ≡ o → IfSome o (λ k. k < length ds)
    by None is = tt
    by (Some k) is = let place = at_position (is_named n.text) ds k is in slice_get_within ds k place.0 place.1

once_holds : (P : ℕ → Type 0) (seen numbers : List ℕ) → All P seen → All P numbers → All P (fold with_number seen numbers)
once_holds P seen [] first rest = first
once_holds P seen (n ∷ ns) first rest =
    once_holds P (with_number seen n) ns
    (cond_both (includes seen n) seen (seen ++ n ∷ []) (All P) (λ _. first) (λ _. All-push P seen n first (All-head P n ns rest))) (All-tail P n ns rest)

module _ (trees : List Tree) (accepted : IsAccepted trees) (controllers : ℕ) (some : 0 < controllers) where
  abbrev E : Extent
  E = declared_extent trees controllers

  same_text : (xs : List ℕ) → bytes_eq xs xs ≡ true
  same_text xs = (bytes_eq-Decides xs xs).1 refl

  module _ (m : Machine) (there : There (global_declarations trees) (machine m)) where
    -- a declared enumeration of the machine stands under its number
    record Stands (d : Declaration) : Type 0 where
      number : ℕ
      is : declared_number trees (enumerated (within m) (text_in d) (names_in d)) ≡ Some number
      members : members_of E number ≡ names_in d

    stands : (d : Declaration) → There (machine_declarations m) d → is_enumeration d ≡ true → Stands d
    stands d at enum =
        let t : KnownType = enumerated (within m) (text_in d) (names_in d) in
        let x : ScopedDeclaration = made_in (within m) d in
        let one = as_enumeration trees (within m) d enum in
        let in_list = listed trees accepted x (in_machine trees m d there at) enum in
        let scopes : is_same_scope (within m) (within m) ≡ true = same_text m.name.text in
        let texts = same_text (text_in d) in
        let itself : is_known_as t (Some (enumerated (within m) (text_in d) (names_in d))) ≡ true = both scopes texts in
        let declares_it : declares t x ≡ true = subst (λ (o : Option KnownType). is_known_as t o ≡ true) (sym one.type) itself in
        let place = any_position (declares t) (L trees) (any_get (declares t) (L trees) in_list.0 x in_list.1 declares_it) in
        let numbered : declared_number trees t ≡ Some (4 + place.0) = ap (option_map (λ (n : ℕ). 4 + n)) place.1 in
        record { number = 4 + place.0; is = numbered; members = counted trees accepted controllers x (4 + place.0) (names_in d) in_list numbered }
      where
        both : {a b : Bool} → a ≡ true → b ≡ true → (a && b) ≡ true
        both {a} {b} first second = and_from a b first second

    -- a member of the first one that passes the test
    found_member : (p : Declaration → Bool) → ((d : Declaration) → p d ≡ true → is_enumeration d ≡ true) → (o : Option Declaration) → find p (machine_declarations m) ≡ o
        → (n : ℕ) → n < length (members_of_found o) → IsMember E (number_of_found trees m o) n
    found_member p are None found n below = absurd (omega (arith, below))
    found_member p are (Some d) found n below =
        let enum = are d (found_passes p (machine_declarations m) d found) in
        let stand = stands d (there_found p (machine_declarations m) d found) enum in
        let one = as_enumeration trees (within m) d enum in
        let same : number_of_found trees m (Some d) ≡ stand.number =
        ap (λ (t : Option KnownType). unwrap_or (option_and_then (declared_number trees) t) no_structure) one.type ∙ ap (λ (k : Option ℕ). unwrap_or k no_structure) stand.is in
        let long : length (members_of E stand.number) ≡ length (names_in d) = ap (λ (ns : List (List ℕ)). length ns) stand.members in
        let count = as_many d in
        subst (λ (k : ℕ). IsMember E k n) (sym same) (omega (arith, below, long, count))

    -- and its enumeration has as many members
    found_count : (p : Declaration → Bool) → ((d : Declaration) → p d ≡ true → is_enumeration d ≡ true) → (o : Option Declaration) → find p (machine_declarations m) ≡ o
        → 1 ≤ length (members_of_found o) → 1 ≤ length (members_of E (number_of_found trees m o))
    found_count p are None found more = absurd (omega (arith, more))
    found_count p are (Some d) found more =
        let enum = are d (found_passes p (machine_declarations m) d found) in
        let stand = stands d (there_found p (machine_declarations m) d found) enum in
        let one = as_enumeration trees (within m) d enum in
        let same : number_of_found trees m (Some d) ≡ stand.number =
        ap (λ (t : Option KnownType). unwrap_or (option_and_then (declared_number trees) t) no_structure) one.type ∙ ap (λ (k : Option ℕ). unwrap_or k no_structure) stand.is in
        let long : length (members_of E stand.number) ≡ length (names_in d) = ap (λ (ns : List (List ℕ)). length ns) stand.members in
        let count = as_many d in
        subst (λ (k : ℕ). 1 ≤ length (members_of E k)) (sym same) (omega (arith, more, long, count))

    found_default : (o : Option Declaration) → find is_states (machine_declarations m) ≡ o → IsMember E (number_of_found trees m o) (first_state m o)
    found_default None found = omega arith
    found_default (Some d) found =
        let enum = states_are d (found_passes is_states (machine_declarations m) d found) in
        let stand = stands d (there_found is_states (machine_declarations m) d found) enum in
        let one = as_enumeration trees (within m) d enum in
        let same : number_of_found trees m (Some d) ≡ stand.number =
        ap (λ (t : Option KnownType). unwrap_or (option_and_then (declared_number trees) t) no_structure) one.type ∙ ap (λ (k : Option ℕ). unwrap_or k no_structure) stand.is in
        let long : length (members_of E stand.number) ≡ length (names_in d) = ap (λ (ns : List (List ℕ)). length ns) stand.members in
        let below = one.default in
        subst (λ (k : ℕ). IsMember E k (first_state m (Some d))) (sym same) (omega (arith, below, long))

    module _ (number : ℕ) where
      abbrev S : MachineSymbols
      S = machine_symbols trees number m

      state_within : (n : ℕ) → n < length (state_members m) → IsMember E S.states n
      unfolding machine_symbols
      state_within n below = found_member is_states states_are (find is_states (machine_declarations m)) refl n below

      event_within : (n : ℕ) → n < length (event_members m) → IsMember E S.events n
      unfolding machine_symbols
      event_within n below = found_member is_events events_are (find is_events (machine_declarations m)) refl n below

      has_states : 1 ≤ length (state_members m) → 1 ≤ length (members_of E S.states)
      unfolding machine_symbols
      has_states more = found_count is_states states_are (find is_states (machine_declarations m)) refl more

      has_events : 1 ≤ length (event_members m) → 1 ≤ length (members_of E S.events)
      unfolding machine_symbols
      has_events more = found_count is_events events_are (find is_events (machine_declarations m)) refl more

      next_within : (o : Option NextState) → IfSome (next_number m o) (NextWithin E S.states)
      next_within None = tt
      next_within (Some (Asked span)) = tt
      next_within (Some (Named n)) = by (number_among (state_members m) n) (numbered_below (state_members m) n)
        where
          by : (o : Option ℕ) → IfSome o (λ k. k < length (state_members m)) → IfSome (option_map (λ k. To k) o) (NextWithin E S.states)
          by None below = tt
          by (Some k) below = state_within k below

      row_within : (t : Transition) → TransitionWithin E S.states S.events (transition_symbol (written m t))
      row_within t = record {
        from = once_holds (IsMember E S.states) [] (numbers_among (state_members m) (names_written t.states)) (All-nil (IsMember E S.states))
            (All-weaker (λ k. k < length (state_members m)) (IsMember E S.states) state_within (numbers_among (state_members m) (names_written t.states)) (positions_below (state_members m) (names_written t.states)));
        on = once_holds (IsMember E S.events) [] (numbers_among (event_members m) (names_written t.events)) (All-nil (IsMember E S.events))
            (All-weaker (λ k. k < length (event_members m)) (IsMember E S.events) event_within (numbers_among (event_members m) (names_written t.events)) (positions_below (event_members m) (names_written t.events)));
        next = next_within t.next;
      }

      rows_within : (ts : List Transition) → All (TransitionWithin E S.states S.events) (map transition_symbol (map (written m) ts))
      rows_within [] = All-nil (TransitionWithin E S.states S.events)
      rows_within (t ∷ ts) = All-cons (TransitionWithin E S.states S.events) (transition_symbol (written m t)) (map transition_symbol (map (written m) ts)) (row_within t) (rows_within ts)

      transitions_are : S.transitions ≡ map transition_symbol (map (written m) (transitions_of m))
      unfolding machine_symbols
      transitions_are = refl

      transitions_within : All (TransitionWithin E S.states S.events) S.transitions
      transitions_within = subst (λ (ts : List TransitionSymbol). All (TransitionWithin E S.states S.events) ts) (sym transitions_are) (rows_within (transitions_of m))

      default_within : IfSome (default_state m) (IsMember E S.states)
      unfolding machine_symbols
      default_within =
          cond_both (is_none (function_named m (codes "getState"))) (Some (first_state m (find is_states (machine_declarations m)))) None (λ o. IfSome o (IsMember E S.states))
          (λ _. found_default (find is_states (machine_declarations m)) refl) (λ _. tt)

    -- Values and lines.

    literal_within : (k : Kind) (x : Literal) → KindWithin trees accepted controllers k → IsWithin E (literal_value k x)
    literal_within kind.Int (Number n span) here = tt
    literal_within kind.Int (Minus n span) here = tt
    literal_within kind.Bool (True span) here = tt
    literal_within kind.Bool (Quoted text span) here = tt
    literal_within k x here = here some

    written_value_within : (k : Kind) (b : Bool) (o : Option Literal) → KindWithin trees accepted controllers k → IsWithin E (written_value k b o)
    written_value_within k b (Some x) here = literal_within k x here
    written_value_within kind.Int true None here = tt
    written_value_within k b None here = here some

    of_kind_within : (text : List ℕ) (t : Option KnownType) (x : Option Literal) (o : Option Kind) → IfSome o (KindWithin trees accepted controllers) → All (Field-within trees accepted controllers some) (value_of_kind text t x o)
    of_kind_within text t x None here = All-nil (Field-within trees accepted controllers some)
    of_kind_within text t x (Some k) here =
        All-cons (Field-within trees accepted controllers some) (record { name = text; kind = k; initial = written_value k (is_built_in Cycles t) x }) []
        (written_value_within k (is_built_in Cycles t) x here) (All-nil (Field-within trees accepted controllers some))

    plain_within : (o : Option KnownType) → IfSome (option_and_then (plain_kind trees) o) (KindWithin trees accepted controllers)
    plain_within None = tt
    plain_within (Some t) = kind_within trees accepted controllers t

    value_within : (d : Declaration) → All (Field-within trees accepted controllers some) (value_in trees m d)
    value_within (parameter p) = of_kind_within p.name.text (type_in trees (within m) p.kind.text) p.literal (option_and_then (plain_kind trees) (type_in trees (within m) p.kind.text)) (plain_within (type_in trees (within m) p.kind.text))
    value_within (object o) = of_kind_within o.name.text (type_in trees (within m) o.kind.text) None (option_and_then (plain_kind trees) (type_in trees (within m) o.kind.text)) (plain_within (type_in trees (within m) o.kind.text))
    value_within d = All-nil (Field-within trees accepted controllers some)

    flat_all : {X Y : Type 0} (P : Y → Type 0) (f : X → List Y) (xs : List X) → ((x : X) → All P (f x)) → All P (flat_map f xs)
    flat_all P f [] each = All-nil P
    flat_all P f (x ∷ xs) each = All-append P (f x) (flat_map f xs) (each x) (flat_all P f xs each)

    values_within : All (Field-within trees accepted controllers some) (values_of trees m)
    values_within = flat_all (Field-within trees accepted controllers some) (value_in trees m) (machine_declarations m) value_within

    set_within : (k : Kind) (v : Value) (o : Option (ℕ × ℤ)) → IsWithin E v → IsWithin E (set_value k v o)
    set_within kind.Int v (Some (n, x)) here = tt
    set_within k v o here = here

    opening_within : (sizes : Sizes) (n : ℕ) (vs : List FieldSymbol) → All (Field-within trees accepted controllers some) vs → AreWithin E (values_from sizes n vs)
    opening_within sizes n [] all = All-nil (IsWithin E)
    opening_within sizes n (v ∷ vs) all =
        All-cons (IsWithin E) (opening_value sizes n v) (values_from sizes (n + 1) vs)
        (set_within v.kind v.initial (find (λ (x : ℕ × ℤ). x.0 == n) sizes.parameters) (All-head (Field-within trees accepted controllers some) v vs all))
        (opening_within sizes (n + 1) vs (All-tail (Field-within trees accepted controllers some) v vs all))

    ranges_within : (sizes : Sizes) → AreWithin E (range_values sizes)
    ranges_within sizes = flat_all (IsWithin E) (λ (r : ℕ × ℕ). value.Int (pos r.0) ∷ value.Int (pos r.1) ∷ []) sizes.machines
        (λ r. All-cons (IsWithin E) (value.Int (pos r.0)) (value.Int (pos r.1) ∷ []) tt (All-cons (IsWithin E) (value.Int (pos r.1)) [] tt (All-nil (IsWithin E))))

    fields_in : (xs : List Member) → AreWithin E (map (initial_value trees) (flat_map (field_of (within m)) xs))
    fields_in [] = All-nil (IsWithin E)
    fields_in (Field type called attributes span ∷ xs) =
        All-cons (IsWithin E) (initial_value trees (record { scope = within m; kind = type; attributes = attributes })) (map (initial_value trees) (flat_map (field_of (within m)) xs))
        (field_within trees accepted controllers some (record { scope = within m; kind = type; attributes = attributes }) there) (fields_in xs)
    fields_in (Method type called formals attributes span ∷ xs) = fields_in xs
    fields_in (Skipped x ∷ xs) = fields_in xs

    lines_within : (places : TableSize) (o : Option Structure) → AreWithin E (table_of_lines trees m places o).initial
    lines_within places None = All-nil (IsWithin E)
    lines_within places (Some x) = fields_in x.members

    abbrev Table-within : TableSetup → Type 0
    Table-within s = AreWithin E s.initial

    tables_within : (sizes : Sizes) (n : ℕ) (ts : List TableSort) → All Table-within (tables_from trees m sizes n ts)
    tables_within sizes n [] = All-nil Table-within
    tables_within sizes n (t ∷ ts) =
        All-cons Table-within (table_setup trees m sizes n t) (tables_from trees m sizes (n + 1) ts) (lines_within (table_size sizes n t) (line_structure m t)) (tables_within sizes (n + 1) ts)

  -- Permissions.

  permission_below : (text : List ℕ) → IsMember E 1 (permission_number text)
  unfolding symbols_of
  permission_below text = by (position (λ name. bytes_eq name text) permissions) refl
    where
      by : (o : Option ℕ) → position (λ name. bytes_eq name text) permissions ≡ o → unwrap_or o 2 < 7
      by None is = lit< tt
      by (Some k) is = (position-Some (λ name. bytes_eq name text) permissions k [] is).0

  found_permissions : (o : Option Declaration) → All (IsMember E 1) (permissions_found o)
  found_permissions (Some (states d)) = All-map (IsMember E 1) (λ (s : State). permission_number s.permission.text) d.members (λ k x lt. permission_below (get_or d.members k x).permission.text)
  found_permissions o = All-nil (IsMember E 1)

  machine_permissions : (number : ℕ) (m : Machine) → All (IsMember E 1) (machine_symbols trees number m).permissions
  unfolding machine_symbols
  machine_permissions number m = found_permissions (find is_states (machine_declarations m))

  all_permissions : (number : ℕ) (ms : List Machine) → All (λ (x : MachineSymbols). All (IsMember E 1) x.permissions) (machines_from trees number ms)
  all_permissions number [] = All-nil (λ (x : MachineSymbols). All (IsMember E 1) x.permissions)
  all_permissions number (m ∷ ms) =
      All-cons (λ (x : MachineSymbols). All (IsMember E 1) x.permissions) (machine_symbols trees number m) (machines_from trees (number + 1) ms) (machine_permissions number m) (all_permissions (number + 1) ms)

  permissions_within : All (λ (x : MachineSymbols). All (IsMember E 1) x.permissions) (symbols_of trees).machines
  unfolding symbols_of
  permissions_within = all_permissions 0 (machines_of trees)

  invalid_within : IsMember E 1 2
  unfolding symbols_of
  invalid_within = lit< tt

  machines_counted : length (members_of E 0) ≡ length (machines_of trees)
  unfolding symbols_of
  machines_counted = length-map (machines_of trees) (λ (m : Machine). m.name.text)

  structures_found : (k : ℕ) → IfSome (slice_get (symbols_of trees).structures k) (λ t. All (Field-within trees accepted controllers some) t.fields)
  unfolding symbols_of
  structures_found k = All-found (λ t. All (Field-within trees accepted controllers some) t.fields) (structure_symbols trees) k (structures_within trees accepted controllers some)

-- Each machine has states and events.

none_in_each : (f : ℕ → Machine → List Broken) (number : ℕ) (ms : List Machine) (k : ℕ) (m : Machine) → in_each_from number f ms ≡ [] → slice_get ms k ≡ Some m → (j : ℕ) × (f j m ≡ [])
none_in_each f number [] k m none at = absurd (cc at)
none_in_each f number (n ∷ ms) zero m none at =
    let same : n ≡ m = cc at in
    (number, ap (λ (x : Machine). f number x) (sym same) ∙ left_none (f number n) (in_each_from (number + 1) f ms) none)
none_in_each f number (n ∷ ms) (suc k) m none at = none_in_each f (number + 1) ms k m (right_none (f number n) (in_each_from (number + 1) f ms) none) at

has_some : {X : Type 0} (xs : List X) → is_empty xs ≡ false → 1 ≤ length xs
has_some [] is = absurd (cc is)
has_some (x ∷ xs) is = omega arith

parts_there : (number : ℕ) (m : Machine) → missing_parts_in number m ≡ [] → (1 ≤ length (state_members m)) × (1 ≤ length (event_members m))
parts_there number m none = by (is_empty (state_members m)) (is_empty (event_members m)) refl refl none
  where
    by : (a b : Bool) → is_empty (state_members m) ≡ a → is_empty (event_members m) ≡ b
        → cond {A = List Broken} (a || b) (record { rule = NoStates; machine = number; place = m.span; other = None } ∷ []) [] ≡ [] → (1 ≤ length (state_members m)) × (1 ≤ length (event_members m))
    by true b first second is = absurd (cc is)
    by false true first second is = absurd (cc is)
    by false false first second is = (has_some (state_members m) first, has_some (event_members m) second)

parts_of : (trees : List Tree) → IsAccepted trees → (k : ℕ) (m : Machine) → slice_get (machines_of trees) k ≡ Some m → (1 ≤ length (state_members m)) × (1 ≤ length (event_members m))
parts_of trees accepted k m at =
    let none = right_none
    (call_circles trees ++ large_bodies trees ++ reading_changes trees ++ shared_pairs trees ++ wrong_state_functions trees ++ wrong_networks trees ++ missing_machine trees)
    (missing_parts trees)
    (left_none
    (call_circles trees ++ large_bodies trees ++ reading_changes trees ++ shared_pairs trees ++ wrong_state_functions trees ++ wrong_networks trees ++ missing_machine trees ++ missing_parts trees)
    (unanswered_stars trees) accepted.of_machines) in
    let here = none_in_each missing_parts_in 0 (machines_of trees) k m none at in
    parts_there here.0 m here.1

-- Ranges of controllers.

range_fits : (first free : ℕ) (ranges : List (ℕ × ℕ)) (k : ℕ) (r : ℕ × ℕ) → AreNumbered first free ranges → slice_get ranges k ≡ Some r → (1 ≤ r.1) × (r.0 + r.1 ≤ free)
range_fits first free [] k r is at = absurd (cc at)
range_fits first free (q ∷ qs) zero r is at =
    let same : q ≡ r = cc at in
    let begins = is.0 in
    let end = first-free (first + q.1) free qs is.2 in
    subst (λ (p : ℕ × ℕ). (1 ≤ p.1) × (p.0 + p.1 ≤ free)) same (is.1, omega (arith, begins, end))
range_fits first free (q ∷ qs) (suc k) r is at = range_fits (first + q.1) free qs k r is.2 at

some_at : (xs : List (ℕ × ℕ)) (k : ℕ) → k < length xs → (r : ℕ × ℕ) × (slice_get xs k ≡ Some r)
some_at xs k below = (get_or xs k (0, 0), slice_get-get_or xs k (0, 0) below)

and_some : {X : Type 0} (P : X → Type 0) (o : Option X) (x : X) → o ≡ Some x → IsSomeAnd o P → P x
and_some P o x is here = subst (λ p. IsSomeAnd p P) is here

if_some : {X : Type 0} (P : X → Type 0) (o : Option X) (x : X) → o ≡ Some x → IfSome o P → P x
if_some P o x is here = subst (λ p. IfSome p P) is here

module _ (trees : List Tree) (accepted : IsAccepted trees) (t : Topology) (fit : FitsPlan trees t) (total : ℕ) (numbered : AreNumbered 0 total (ranges_of t)) where
  many : length t.sizes ≡ length (machines_of trees)
  many = let each = fit.sizes.each_machine in each ∙ symbols_counted trees

  module _ (k : ℕ) (m : Machine) (own : Sizes) (at : slice_get (machines_of trees) k ≡ Some m) (is_own : slice_get t.sizes k ≡ Some own) where
    abbrev Own : MachineSymbols
    Own = machine_symbols trees k m

    abbrev read : Reading
    read = reading_with (symbols_of trees) k Own m

    abbrev setup : MachineSetup
    setup = setup_in trees k own m

    abbrev last : TableSetup
    last = parameter_table trees k m own

    abbrev lines : List TableSetup
    lines = tables_from trees m own 0 (tables_of trees m)

    symbols_there : slice_get (symbols_of trees).machines k ≡ Some Own
    symbols_there = symbols_found trees k m at

    reads_it : reading_of trees k ≡ Some read
    reads_it =
        ap (λ (o : Option MachineSymbols). option_and_then (λ (x : MachineSymbols). option_map (reading_with (symbols_of trees) k x) (slice_get (machines_of trees) k)) o) symbols_there
        ∙ ap (λ (o : Option Machine). option_map (reading_with (symbols_of trees) k Own) o) at

    own_sizes : AreSizesIn (ranges_of t) Own own
    own_sizes =
        and_some (AreSizesIn (ranges_of t) Own) (slice_get t.sizes k) own is_own
        (if_some (λ (x : MachineSymbols). IsSomeAnd (slice_get t.sizes k) (AreSizesIn (ranges_of t) x)) (slice_get (symbols_of trees).machines k) Own symbols_there (fit.sizes.own k))

    ranges_are : own.machines ≡ ranges_of t
    ranges_are = own_sizes.machines

    ranges_counted : length (ranges_of t) ≡ length (machines_of trees)
    ranges_counted = let each = fit.routes.numbers.each_machine in each ∙ setups_counted trees t.sizes many

    keeps : KeepsRanges read.kept setup own.machines
    keeps =
        ranges_are_kept trees k own read setup reads_it (ap (option_map (setup_in trees k own)) at)
        (ap (λ (rs : List (ℕ × ℕ)). length rs) ranges_are ∙ ranges_counted)

    last_is : slice_get setup.tables (length Own.tables) ≡ Some last
    last_is =
        let end = keeps.last in
        let long = length-append lines (last ∷ []) in
        let place : length Own.tables ≡ length lines + 0 = omega (arith, end, long) in
        get_right lines (last ∷ []) (length Own.tables) 0 place

    own_range : (r : ℕ × ℕ) × (slice_get (ranges_of t) k ≡ Some r)
    own_range = let inside = slice_get_within (machines_of trees) k m at in some_at (ranges_of t) k (omega (arith, inside, ranges_counted))

    some : 0 < total
    some = let fits = range_fits 0 total (ranges_of t) k own_range.0 numbered own_range.1 in omega (arith, fits.0, fits.1)

    abbrev bounds : Bounds
    bounds = bounds_of read total last.initial

    value_at : (place : ℕ) (v : Value) → kept_value read.kept setup place ≡ Some v → slice_get last.initial (read.kept.first + place) ≡ Some v
    value_at place v is = sym (ap (λ (o : Option TableSetup). option_and_then (λ (x : TableSetup). slice_get x.initial (read.kept.first + place)) o) last_is) ∙ is

    has_range : (j : ℕ) → j < read.kept.count → HasRange bounds read.kept j
    has_range j below =
        let all = keeps.all in
        let range = some_at own.machines j (omega (arith, below, all)) in
        let here = if_some (IsKept read.kept setup j) (slice_get own.machines j) range.0 range.1 (keeps.each j) in
        let fits = range_fits 0 total (ranges_of t) j range.0 numbered (ap (λ (rs : List (ℕ × ℕ)). slice_get rs j) (sym ranges_are) ∙ range.1) in
        record {
          first = range.0.0;
          count = range.0.1;
          first_is = value_at (2 * j) (value.Int (pos range.0.0)) here.first;
          count_is = value_at (2 * j + 1) (value.Int (pos range.0.1)) here.count;
          within = fits.1;
        }

    there : There (global_declarations trees) (machine m)
    there = machine_there (global_declarations trees) m (k, at)

    reading_within : ReadingWithin read total last.initial
    reading_within = record {
      kept = record {
        table = refl;
        machines = (let first = machines_counted trees accepted total some in let second = symbols_counted trees in omega (arith, first, second));
        ranges = has_range;
        some = some;
      };
      structures = structures_found trees accepted total some;
      permissions = permissions_within trees accepted total some;
      invalid = invalid_within trees accepted total some;
      transitions = transitions_within trees accepted total some m there k;
    }

    last_within : AreWithin (declared_extent trees total) last.initial
    last_within =
        All-append (IsWithin (declared_extent trees total)) (values_from own 0 (values_of trees m)) (range_values own)
        (opening_within trees accepted total some m there own 0 (values_of trees m) (values_within trees accepted total some m there)) (ranges_within trees accepted total some m there own)

    abbrev Begins-within : TableSetup → Type 0
    Begins-within x = AreWithin (declared_extent trees total) x.initial

    one_within : MachineWithin trees total k setup
    one_within = record {
      m = Own;
      tree = m;
      symbols = symbols_there;
      reads = reads_it;
      values = last.initial;
      within = reading_within;
      tables = All-append Begins-within lines (last ∷ []) (tables_within trees accepted total some m there own 0 (tables_of trees m)) (All-cons Begins-within last [] last_within (All-nil Begins-within));
      has_states = has_states trees accepted total some m there k (parts_of trees accepted k m at).0;
      has_events = has_events trees accepted total some m there k (parts_of trees accepted k m at).1;
      default_state = default_within trees accepted total some m there k;
      kept = ap (λ (o : Option TableSetup). option_map (λ (x : TableSetup). opening_table x.size x.initial) o) last_is;
    }

  pub machine_within : (k : ℕ) (x : MachineSetup) → slice_get (setups_of trees t.sizes) k ≡ Some x → MachineWithin trees total k x
  machine_within k x found =
      let here = setup_found trees t.sizes k x many found in
      subst (MachineWithin trees total k) here.setup (one_within k here.tree here.own here.at here.is_own)
