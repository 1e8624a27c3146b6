-- What a name stands for: a table, a value, a reference to nothing, a buffer, a port, the sequencer, or nothing that is declared.
use Rattle.std.proofs.Common.{◌≡◌, ◌∙◌, ◌≤◌, ◌++◌, ℕ, zero, suc, Bool, true, false, cond, Option, None, Some, List, [], ◌∷◌, filter, filter_map, flat_map, length, slice_get, refl, sym, ap, subst, arith, option_and_then}
use Rattle.std.specs.List.{cons_option}
use Rattle.std.specs.Option.{option_map, option_or}
use Rattle.std.specs.Str.{bytes_eq}
use Rattle.std.proofs.lemmas.Bool.{false_from_ne_true}
use Rattle.ruby_value.specs.declared.kind.Kind.{Kind}
use Rattle.ruby_symbols.specs.declared.machine.BufferSymbol.{BufferSymbol}
use Rattle.ruby_symbols.specs.declared.machine.TableSymbol.{TableSymbol}
use Rattle.ruby_symbols.specs.declared.names.Named.{Named}
use Rattle.ruby_symbols.specs.declared.names.Named.TheVariants as named
use Rattle.ruby_symbols.specs.declared.types.FieldSymbol.{FieldSymbol}
use Rattle.ruby_symbols.specs.Names.{buffer_among, buffer_named, port_named, port_or_sequencer, sequencer_named, stands_for}
use Rattle.ruby_symbols.specs.Types.{field_named}
use Rattle.slicc_ast.specs.declared.tree.declaration.Pairs.{Pairs}
use Rattle.slicc_ast.specs.declared.tree.item.Tree.{Tree}
use Rattle.slicc_ast.specs.declared.tree.machine.Decl.{Decl}
use Rattle.slicc_ast.specs.declared.tree.machine.Decl.TheVariants as decl
use Rattle.slicc_ast.specs.declared.tree.machine.InPort.{InPort}
use Rattle.slicc_ast.specs.declared.tree.machine.Literal.{Literal}
use Rattle.slicc_ast.specs.declared.tree.machine.Machine.{Machine}
use Rattle.slicc_ast.specs.declared.tree.machine.OutPort.{OutPort}
use Rattle.slicc_plan.specs.declared.built_in.BuiltInType.{BuiltInType}
use Rattle.slicc_plan.specs.declared.built_in.BuiltInType.TheVariants.{Int, Cycles, Tick, Bool as Boolean, Address, MachineId, MachineType, NetDest, DataBlock, AccessPermission, RequestType, MessageSize, Sequencer, Buffer}
use Rattle.slicc_plan.specs.AllRules.{IsAccepted}
use Rattle.slicc_plan.specs.Buffers.{buffer_of}
use Rattle.slicc_plan.specs.Declarations.{Declaration, parameter, object, out_port, in_port, within, first_named, is_named, machine_declarations, machines_of, wide_scopes}
use Rattle.slicc_plan.specs.Limits.{beyond, beyond_in_body, beyond_in_declaration, beyond_in_machine, beyond_in_scope, event_members, is_action, is_counted_function, is_object, is_port, is_sequencer, most_objects, most_of_each, most_ports, most_sequencers, state_members}
use Rattle.slicc_plan.specs.MachineValues.{reference_in, reference_of_type, value_in, value_of_kind, value_of_type}
use Rattle.slicc_plan.specs.Scopes.{machine_bodies}
use Rattle.slicc_plan.specs.SymbolsOfMachines.{buffer_of_place, buffer_symbol, buffer_symbols, in_port_symbol, machine_symbols, out_port_symbol, port_on_buffer, sequencer_in, sequencer_name, table_of_sort, table_symbol}
use Rattle.slicc_plan.specs.Tables.{table_sort}
use Rattle.slicc_plan.specs.TypeNumbers.{built_in_kind, plain_kind}
use Rattle.slicc_plan.specs.Types.{KnownType, built_in, enumerated, structured, is_built_in, type_in}
use Rattle.slicc_plan.proofs.Few.{limits_kept, within_limit}
use Rattle.slicc_plan.proofs.Room.{left_none, mapped_at, none_at, right_none}
use Rattle.slicc_plan.proofs.There.{There, there_filtered, there_first, there_later}
use Rattle.rules_symbols.proofs.Lists.{find_none}
use Rattle.rules_symbols.proofs.Owners.{named_once}
use Rattle.rules_symbols.proofs.Types.{built_in_same, same_text}
use Rattle.rules_symbols.proofs.ValueNames.{M, declared_there, buffers_none, buffers_some, in_ports_none, in_ports_some, is_named_decl, out_ports_none, out_ports_some, references_none, references_some, tables_none, tables_some, values_none, values_some, written_as, written_there}

-- What is one of these is none of the others.

pub is_type : (b : BuiltInType) (o : Option KnownType) → is_built_in b o ≡ true → o ≡ Some (built_in b)
is_type b None is = absurd (cc is)
is_type b (Some (built_in c)) is = ap (λ (d : BuiltInType). Some (built_in d)) (sym (built_in_same b c is))
is_type b (Some (enumerated scope text members)) is = absurd (cc is)
is_type b (Some (structured scope s)) is = absurd (cc is)

no_table : (b : BuiltInType) (k : Kind) (pairs : Pairs) → built_in_kind b ≡ Some k → table_sort (Some (built_in b)) pairs ≡ None
no_table Int k pairs is = refl
no_table Cycles k pairs is = refl
no_table Tick k pairs is = refl
no_table Boolean k pairs is = refl
no_table Address k pairs is = refl
no_table MachineId k pairs is = refl
no_table MachineType k pairs is = refl
no_table NetDest k pairs is = refl
no_table DataBlock k pairs is = refl
no_table AccessPermission k pairs is = refl
no_table RequestType k pairs is = refl
no_table MessageSize k pairs is = refl
no_table _ k pairs is = absurd (cc is)

module _ (trees : List Tree) (m : Machine) (name : List ℕ) (pairs : Pairs) where
  value_no_table : (o : Option KnownType) (k : Kind) → option_and_then (plain_kind trees) o ≡ Some k → table_sort o pairs ≡ None
  value_no_table None k is = absurd (cc is)
  value_no_table (Some (built_in b)) k is = no_table b k pairs is
  value_no_table (Some (enumerated scope text members)) k is = refl
  value_no_table (Some (structured scope s)) k is = absurd (cc is)

  apart_value : (o : Option KnownType) (l : Option Literal) (v : FieldSymbol) → value_of_type trees name o l ≡ v ∷ [] → table_of_sort trees m name (table_sort o pairs) ≡ []
  apart_value o l v made = by (option_and_then (plain_kind trees) o) refl made
    where
      by : (k : Option Kind) → option_and_then (plain_kind trees) o ≡ k → value_of_kind name o l k ≡ v ∷ [] → table_of_sort trees m name (table_sort o pairs) ≡ []
      by None is none = absurd (cc none)
      by (Some k) is some = ap (table_of_sort trees m name) (value_no_table o k is)

  apart_reference : (o : Option KnownType) (l : Option Literal) (v : FieldSymbol) → reference_of_type trees m name o ≡ v ∷ [] → (table_of_sort trees m name (table_sort o pairs) ≡ []) × (value_of_type trees name o l ≡ [])
  apart_reference None l v made = absurd (cc made)
  apart_reference (Some (built_in b)) l v made = absurd (cc made)
  apart_reference (Some (enumerated scope text members)) l v made = absurd (cc made)
  apart_reference (Some (structured scope s)) l v made = (refl, refl)

  apart_buffer : (o : Option KnownType) (l : Option Literal) → is_built_in Buffer o ≡ true
      → (table_of_sort trees m name (table_sort o pairs) ≡ []) × (value_of_type trees name o l ≡ []) × (reference_of_type trees m name o ≡ [])
  apart_buffer o l is =
      let one = is_type Buffer o is in (
        ap (λ (x : Option KnownType). table_of_sort trees m name (table_sort x pairs)) one,
        ap (λ (x : Option KnownType). value_of_type trees name x l) one,
        ap (λ (x : Option KnownType). reference_of_type trees m name x) one,
      )

  apart_sequencer : (o : Option KnownType) (l : Option Literal) → is_built_in Sequencer o ≡ true
      → (table_of_sort trees m name (table_sort o pairs) ≡ []) × (value_of_type trees name o l ≡ []) × (reference_of_type trees m name o ≡ []) × (is_built_in Buffer o ≡ false)
  apart_sequencer o l is =
      let one = is_type Sequencer o is in (
        ap (λ (x : Option KnownType). table_of_sort trees m name (table_sort x pairs)) one,
        ap (λ (x : Option KnownType). value_of_type trees name x l) one,
        ap (λ (x : Option KnownType). reference_of_type trees m name x) one,
        ap (is_built_in Buffer) one,
      )

module _ (trees : List Tree) (m : Machine) where
  value_alone : (d : Declaration) (v : FieldSymbol) → value_in trees m d ≡ v ∷ [] → table_symbol trees m d ≡ []
  value_alone (parameter p) v made = apart_value trees m p.name.text p.pairs (type_in trees (within m) p.kind.text) p.literal v made
  value_alone (object o) v made = apart_value trees m o.name.text o.pairs (type_in trees (within m) o.kind.text) None v made
  value_alone _ v made = absurd (cc made)

  reference_alone : (d : Declaration) (v : FieldSymbol) → reference_in trees m d ≡ v ∷ [] → (table_symbol trees m d ≡ []) × (value_in trees m d ≡ [])
  reference_alone (parameter p) v made = apart_reference trees m p.name.text p.pairs (type_in trees (within m) p.kind.text) p.literal v made
  reference_alone (object o) v made = apart_reference trees m o.name.text o.pairs (type_in trees (within m) o.kind.text) None v made
  reference_alone _ v made = absurd (cc made)

  abbrev IsNoField : Declaration → Type 0
  IsNoField d = (table_symbol trees m d ≡ []) × (value_in trees m d ≡ []) × (reference_in trees m d ≡ [])

  buffer_alone : (number : ℕ) (d : Declaration) (b : BufferSymbol) → buffer_symbol trees number m d ≡ b ∷ [] → IsNoField d
  buffer_alone number (parameter p) b made = by (is_built_in Buffer (type_in trees (within m) p.kind.text)) refl made
    where
      by : (v : Bool) → is_built_in Buffer (type_in trees (within m) p.kind.text) ≡ v → buffer_of_place trees number (Some p.pairs) (buffer_of v p.name p.pairs p.span) ≡ b ∷ [] → IsNoField (parameter p)
      by true is some = apart_buffer trees m p.name.text p.pairs (type_in trees (within m) p.kind.text) p.literal is
      by false is none = absurd (cc none)
  buffer_alone number (object o) b made = by (is_built_in Buffer (type_in trees (within m) o.kind.text)) refl made
    where
      by : (v : Bool) → is_built_in Buffer (type_in trees (within m) o.kind.text) ≡ v → buffer_of_place trees number (Some o.pairs) (buffer_of v o.name o.pairs o.span) ≡ b ∷ [] → IsNoField (object o)
      by true is some = apart_buffer trees m o.name.text o.pairs (type_in trees (within m) o.kind.text) None is
      by false is none = absurd (cc none)
  buffer_alone number _ b made = absurd (cc made)

  sequencer_alone : (number : ℕ) (d : Declaration) → is_sequencer trees m d ≡ true → (table_symbol trees m d ≡ []) × (value_in trees m d ≡ []) × (reference_in trees m d ≡ []) × (buffer_symbol trees number m d ≡ [])
  sequencer_alone number (parameter p) is =
      let all = apart_sequencer trees m p.name.text p.pairs (type_in trees (within m) p.kind.text) p.literal is in
      (all.0, all.1, all.2, ap (λ v. buffer_of_place trees number (Some p.pairs) (buffer_of v p.name p.pairs p.span)) all.3)
  sequencer_alone number (object o) is =
      let all = apart_sequencer trees m o.name.text o.pairs (type_in trees (within m) o.kind.text) None is in
      (all.0, all.1, all.2, ap (λ v. buffer_of_place trees number (Some o.pairs) (buffer_of v o.name o.pairs o.span)) all.3)
  sequencer_alone number _ is = absurd (cc is)

  -- The sequencer is the only one.

  one_sequencer : (ds : List Declaration) (d : Declaration) (name : List ℕ) → There ds d → sequencer_in trees m d ≡ Some name → length (filter (is_sequencer trees m) ds) ≤ 1 → slice_get (filter_map (sequencer_in trees m) ds) 0 ≡ Some name
  one_sequencer [] d name there is few = absurd (cc there.1)
  one_sequencer (e ∷ ds) d name (zero, at) is few =
      let same : e ≡ d = cc at in
      let here : sequencer_in trees m e ≡ Some name = ap (sequencer_in trees m) same ∙ is in
      first (sequencer_in trees m e) here
    where
      first : (o : Option (List ℕ)) → o ≡ Some name → slice_get (cons_option o (filter_map (sequencer_in trees m) ds)) 0 ≡ Some name
      first None none = absurd (cc none)
      first (Some n) some = some
  one_sequencer (e ∷ ds) d name (suc j, at) is few = by (is_sequencer trees m e) refl few (λ rest. one_sequencer ds d name (j, at) is rest)
    where
      one : (x : Declaration) → sequencer_in trees m x ≡ Some name → is_sequencer trees m x ≡ true
      one (parameter p) some = of (is_sequencer trees m (parameter p)) some
        where
          of : (b : Bool) → cond b (Some p.name.text) None ≡ Some name → b ≡ true
          of true is_it = refl
          of false is_it = absurd (cc is_it)
      one (object o) some = of (is_sequencer trees m (object o)) some
        where
          of : (b : Bool) → cond b (Some o.name.text) None ≡ Some name → b ≡ true
          of true is_it = refl
          of false is_it = absurd (cc is_it)
      one _ some = absurd (cc some)

      not_one : (x : Declaration) → is_sequencer trees m x ≡ false → sequencer_in trees m x ≡ None
      not_one (parameter p) other = ap (λ b. cond b (Some p.name.text) None) other
      not_one (object o) other = ap (λ b. cond b (Some o.name.text) None) other
      not_one _ other = refl

      long : (xs : List Declaration) → There xs d → 1 ≤ length xs
      long [] there = absurd (cc there.1)
      long (x ∷ xs) there = omega arith

      by : (b : Bool) → is_sequencer trees m e ≡ b → length (cond b (e ∷ filter (is_sequencer trees m) ds) (filter (is_sequencer trees m) ds)) ≤ 1
          → (length (filter (is_sequencer trees m) ds) ≤ 1 → slice_get (filter_map (sequencer_in trees m) ds) 0 ≡ Some name) → slice_get (filter_map (sequencer_in trees m) (e ∷ ds)) 0 ≡ Some name
      by true it_is short rest =
          let more = long (filter (is_sequencer trees m) ds) (there_filtered (is_sequencer trees m) ds d (j, at) (one d is)) in
          absurd (omega (arith, short, more))
      by false other short rest = ap (λ o. slice_get (cons_option o (filter_map (sequencer_in trees m) ds)) 0) (not_one e other) ∙ rest short

-- A machine of an accepted protocol.

filter_map_there : {X Y : Type 0} (f : X → Option Y) (xs : List X) (y : Y) → There (filter_map f xs) y → (x : X) × There xs x × (f x ≡ Some y)
filter_map_there f [] y there = absurd (cc there.1)
filter_map_there {X} {Y} f (x ∷ xs) y there = by (λ rest. filter_map_there f xs y rest) (f x) refl there
  where
    by : (There (filter_map f xs) y → (z : X) × There xs z × (f z ≡ Some y)) → (o : Option Y) → f x ≡ o → There (cons_option o (filter_map f xs)) y → (z : X) × There (x ∷ xs) z × (f z ≡ Some y)
    by in_rest None is at = let rest = in_rest at in (rest.0, there_later x rest.0 xs rest.1, rest.2)
    by in_rest (Some w) is (zero, at) = (x, there_first x xs, is ∙ at)
    by in_rest (Some w) is (suc j, at) = let rest = in_rest (j, at) in (rest.0, there_later x rest.0 xs rest.1, rest.2)

module _ (trees : List Tree) (accepted : IsAccepted trees) (k : ℕ) (m : Machine) (at : slice_get (machines_of trees) k ≡ Some m) where
  few_sequencers : length (filter (is_sequencer trees m) (machine_declarations m)) ≤ 1
  few_sequencers =
      let kept = limits_kept trees accepted.of_declarations in
      let here = none_at (beyond_in_scope trees) (wide_scopes trees) (suc k) (within m) kept.scopes (mapped_at within (machines_of trees) k m at) in
      let states = beyond most_of_each (state_members m) in
      let events = beyond most_of_each (event_members m) in
      let actions = beyond most_of_each (filter is_action (machine_declarations m)) in
      let functions = beyond most_of_each (filter is_counted_function (machine_declarations m)) in
      let ports = beyond most_ports (filter is_port (machine_declarations m)) in
      let objects = beyond most_objects (filter is_object (machine_declarations m)) in
      let sequencers = beyond most_sequencers (filter (is_sequencer trees m) (machine_declarations m)) in
      let all : beyond_in_machine trees m ≡ [] = right_none (flat_map beyond_in_declaration (machine_declarations m)) (beyond_in_machine trees m) here in
      let to_sequencers : states ++ events ++ actions ++ functions ++ ports ++ objects ++ sequencers ≡ [] = left_none (states ++ events ++ actions ++ functions ++ ports ++ objects ++ sequencers) (flat_map beyond_in_body (machine_bodies m)) all in
      within_limit 1 (filter (is_sequencer trees m) (machine_declarations m)) (right_none (states ++ events ++ actions ++ functions ++ ports ++ objects) sequencers to_sequencers)

  sequencer_kept : (machine_symbols trees k m).sequencer ≡ sequencer_name trees m
  unfolding machine_symbols
  sequencer_kept = refl

  module _ (text : List ℕ) where
    -- what is so of one declaration of the name is so of each
    each_named : {Y : Type 0} (f : Declaration → List Y) (d : Declaration) → There (machine_declarations m) d → is_named text d ≡ true → f d ≡ [] → (e : Declaration) → There (machine_declarations m) e → is_named text e ≡ true → f e ≡ []
    each_named f d there is none e at_e is_e = ap f (named_once trees accepted k m at text e d at_e there is_e is) ∙ none

    abbrev later_values : Option Named
    later_values =
        option_or (option_map named.Value (field_named (M trees accepted k m at).values text))
        (option_or (option_map named.Reference (field_named (M trees accepted k m at).references text))
        (option_or (option_map named.Buffer (buffer_named (M trees accepted k m at) text)) (port_or_sequencer (M trees accepted k m at) text)))

    abbrev later_references : Option Named
    later_references =
        option_or (option_map named.Reference (field_named (M trees accepted k m at).references text))
        (option_or (option_map named.Buffer (buffer_named (M trees accepted k m at) text)) (port_or_sequencer (M trees accepted k m at) text))

    abbrev later_buffers : Option Named
    later_buffers = option_or (option_map named.Buffer (buffer_named (M trees accepted k m at) text)) (port_or_sequencer (M trees accepted k m at) text)

    pub table_stands : (d : Declaration) (t : TableSymbol) → There (machine_declarations m) d → is_named text d ≡ true → table_symbol trees m d ≡ t ∷ []
        → (n : ℕ) × (stands_for (machine_symbols trees k m) text ≡ Some (named.Table n)) × (slice_get (machine_symbols trees k m).tables n ≡ Some t)
    table_stands d t there is made =
        let found = tables_some trees accepted k m at text d t there is made in
        (found.0, ap (λ o. option_or (option_map named.Table o) later_values) found.1, found.2)

    pub value_stands : (d : Declaration) (v : FieldSymbol) → There (machine_declarations m) d → is_named text d ≡ true → value_in trees m d ≡ v ∷ []
        → (n : ℕ) × (stands_for (machine_symbols trees k m) text ≡ Some (named.Value n)) × (slice_get (machine_symbols trees k m).values n ≡ Some v)
    value_stands d v there is made =
        let found = values_some trees accepted k m at text d v there is made in
        let tables = tables_none trees accepted k m at text (each_named (table_symbol trees m) d there is (value_alone trees m d v made)) in (
          found.0,
          ap (λ o. option_or (option_map named.Table o) later_values) tables
              ∙ ap (λ o. option_or (option_map named.Value o) later_references) found.1,
          found.2,
        )

    pub reference_stands : (d : Declaration) (v : FieldSymbol) → There (machine_declarations m) d → is_named text d ≡ true → reference_in trees m d ≡ v ∷ []
        → (n : ℕ) × (stands_for (machine_symbols trees k m) text ≡ Some (named.Reference n)) × (slice_get (machine_symbols trees k m).references n ≡ Some v)
    reference_stands d v there is made =
        let found = references_some trees accepted k m at text d v there is made in
        let alone = reference_alone trees m d v made in
        let tables = tables_none trees accepted k m at text (each_named (table_symbol trees m) d there is alone.0) in
        let values = values_none trees accepted k m at text (each_named (value_in trees m) d there is alone.1) in (
          found.0,
          ap (λ o. option_or (option_map named.Table o) later_values) tables
              ∙ ap (λ o. option_or (option_map named.Value o) later_references) values
              ∙ ap (λ o. option_or (option_map named.Reference o) later_buffers) found.1,
          found.2,
        )

    -- what is no field stands for what comes later
    no_field : (d : Declaration) → There (machine_declarations m) d → is_named text d ≡ true → IsNoField trees m d → stands_for (machine_symbols trees k m) text ≡ later_buffers
    no_field d there is alone =
        ap (λ o. option_or (option_map named.Table o) later_values) (tables_none trees accepted k m at text (each_named (table_symbol trees m) d there is alone.0))
        ∙ ap (λ o. option_or (option_map named.Value o) later_references) (values_none trees accepted k m at text (each_named (value_in trees m) d there is alone.1))
        ∙ ap (λ o. option_or (option_map named.Reference o) later_buffers) (references_none trees accepted k m at text (each_named (reference_in trees m) d there is alone.2))

    pub buffer_stands : (d : Declaration) (b : BufferSymbol) → There (machine_declarations m) d → is_named text d ≡ true → buffer_symbol trees k m d ≡ b ∷ []
        → (n : ℕ) × (stands_for (machine_symbols trees k m) text ≡ Some (named.Buffer n)) × (slice_get (machine_symbols trees k m).buffers n ≡ Some b)
    buffer_stands d b there is made =
        let found = buffers_some trees accepted k m at text d b there is made in (
          found.0,
          no_field d there is (buffer_alone trees m k d b made)
              ∙ ap (λ o. option_or (option_map named.Buffer o) (port_or_sequencer (machine_symbols trees k m) text)) found.1,
          found.2,
        )

    -- what is no buffer either
    abbrev later_ports : Option Named
    later_ports = option_or (option_map named.OutPort (port_named (M trees accepted k m at).out_ports text)) (sequencer_named (M trees accepted k m at).sequencer text)

    no_buffer : (d : Declaration) → There (machine_declarations m) d → is_named text d ≡ true → IsNoField trees m d → buffer_symbol trees k m d ≡ []
        → stands_for (machine_symbols trees k m) text ≡ option_or (option_map named.InPort (port_named (machine_symbols trees k m).in_ports text)) later_ports
    no_buffer d there is alone none =
        no_field d there is alone
        ∙ ap (λ o. option_or (option_map named.Buffer o) (port_or_sequencer (machine_symbols trees k m) text)) (buffers_none trees accepted k m at text (each_named (buffer_symbol trees k m) d there is none))

    not_in : (d : Declaration) → There (machine_declarations m) d → is_named text d ≡ true → ((x : Decl) → written_as d ≡ Some x → (j : ℕ) → in_port_symbol (buffer_symbols trees k m) j x ≡ []) → port_named (machine_symbols trees k m).in_ports text ≡ None
    not_in d there is none =
        in_ports_none trees accepted k m at text (λ x at_x is_x. none x (written_there trees accepted k m at text x d at_x is_x there is))

    not_out : (d : Declaration) → There (machine_declarations m) d → is_named text d ≡ true → ((x : Decl) → written_as d ≡ Some x → (j : ℕ) → out_port_symbol (buffer_symbols trees k m) j x ≡ []) → port_named (machine_symbols trees k m).out_ports text ≡ None
    not_out d there is none =
        out_ports_none trees accepted k m at text (λ x at_x is_x. none x (written_there trees accepted k m at text x d at_x is_x there is))

  -- a port is found by its name, with its buffer and its place between the machine's braces
  pub in_port_stands : (p : InPort) (b : ℕ) → There m.declarations (decl.InPort p) → There (machine_declarations m) (in_port p) → buffer_among (buffer_symbols trees k m) p.buffer.text ≡ Some b
      → (n : ℕ) × (j : ℕ) × (stands_for (machine_symbols trees k m) p.name.text ≡ Some (named.InPort n))
      × (slice_get (machine_symbols trees k m).in_ports n ≡ Some (record { name = p.name.text; buffer = b; declaration = j })) × (slice_get m.declarations j ≡ Some (decl.InPort p))
  in_port_stands p b there declared on =
      let text = p.name.text in
      let is = same_text text in
      let found = in_ports_some trees accepted k m at text (decl.InPort p) b there is (λ j. ap (port_on_buffer text j) on) in (
        found.0,
        found.1,
        no_buffer text (in_port p) declared is (refl, refl, refl) refl
            ∙ ap (λ o. option_or (option_map named.InPort o) (later_ports text)) found.2,
        found.3,
        found.4,
      )

  pub out_port_stands : (p : OutPort) (b : ℕ) → There m.declarations (decl.OutPort p) → There (machine_declarations m) (out_port p) → buffer_among (buffer_symbols trees k m) p.buffer.text ≡ Some b
      → (n : ℕ) × (j : ℕ) × (stands_for (machine_symbols trees k m) p.name.text ≡ Some (named.OutPort n))
      × (slice_get (machine_symbols trees k m).out_ports n ≡ Some (record { name = p.name.text; buffer = b; declaration = j })) × (slice_get m.declarations j ≡ Some (decl.OutPort p))
  out_port_stands p b there declared on =
      let text = p.name.text in
      let is = same_text text in
      let found = out_ports_some trees accepted k m at text (decl.OutPort p) b there is (λ j. ap (port_on_buffer text j) on) in
      let none = not_in text (out_port p) declared is (λ x written j. let same : decl.OutPort p ≡ x = cc written in subst (λ (y : Decl). in_port_symbol (buffer_symbols trees k m) j y ≡ []) same refl) in (
        found.0,
        found.1,
        no_buffer text (out_port p) declared is (refl, refl, refl) refl
            ∙ ap (λ o. option_or (option_map named.InPort o) (later_ports text)) none
            ∙ ap (λ o. option_or (option_map named.OutPort o) (sequencer_named (machine_symbols trees k m).sequencer text)) found.2,
        found.3,
        found.4,
      )

  -- the sequencer
  no_port : (d : Declaration) → is_sequencer trees m d ≡ true → (x : Decl) → written_as d ≡ Some x → (j : ℕ) → (in_port_symbol (buffer_symbols trees k m) j x ≡ []) × (out_port_symbol (buffer_symbols trees k m) j x ≡ [])
  no_port (parameter p) is x written j = absurd (cc written)
  no_port (object o) is x written j =
      let same : decl.Object o ≡ x = cc written in
      subst (λ (y : Decl). (in_port_symbol (buffer_symbols trees k m) j y ≡ []) × (out_port_symbol (buffer_symbols trees k m) j y ≡ [])) same (refl, refl)
  no_port _ is x written j = absurd (cc is)

  sequencer_name_of : (text : List ℕ) (d : Declaration) → is_named text d ≡ true → is_sequencer trees m d ≡ true → (name : List ℕ) × (sequencer_in trees m d ≡ Some name) × (bytes_eq name text ≡ true)
  sequencer_name_of text (parameter p) named is = (p.name.text, ap (λ b. cond b (Some p.name.text) None) is, named)
  sequencer_name_of text (object o) named is = (o.name.text, ap (λ b. cond b (Some o.name.text) None) is, named)
  sequencer_name_of text _ named is = absurd (cc is)

  pub sequencer_stands : (text : List ℕ) (d : Declaration) → There (machine_declarations m) d → is_named text d ≡ true → is_sequencer trees m d ≡ true → stands_for (machine_symbols trees k m) text ≡ Some named.Sequencer
  sequencer_stands text d there is one =
      let alone = sequencer_alone trees m k d one in
      let name = sequencer_name_of text d is one in
      let first = one_sequencer trees m (machine_declarations m) d name.0 there name.1 few_sequencers in
      no_buffer text d there is (alone.0, alone.1, alone.2) alone.3
      ∙ ap (λ o. option_or (option_map named.InPort o) (later_ports text)) (not_in text d there is (λ x written j. let none = no_port d one x written j in none.0))
      ∙ ap (λ o. option_or (option_map named.OutPort o) (sequencer_named (machine_symbols trees k m).sequencer text)) (not_out text d there is (λ x written j. let none = no_port d one x written j in none.1))
      ∙ ap (λ o. sequencer_named o text) (sequencer_kept ∙ first)
      ∙ ap (λ b. cond b (Some named.Sequencer) None) name.2

  -- a name that the machine doesn't declare
  pub nothing_stands : (text : List ℕ) → first_named text (machine_declarations m) ≡ None → stands_for (machine_symbols trees k m) text ≡ None
  nothing_stands text none =
      ap (λ o. option_or (option_map named.Table o) (later_values text)) (tables_none trees accepted k m at text (never (table_symbol trees m)))
      ∙ ap (λ o. option_or (option_map named.Value o) (later_references text)) (values_none trees accepted k m at text (never (value_in trees m)))
      ∙ ap (λ o. option_or (option_map named.Reference o) (later_buffers text)) (references_none trees accepted k m at text (never (reference_in trees m)))
      ∙ ap (λ o. option_or (option_map named.Buffer o) (port_or_sequencer (machine_symbols trees k m) text)) (buffers_none trees accepted k m at text (never (buffer_symbol trees k m)))
      ∙ ap (λ o. option_or (option_map named.InPort o) (later_ports text)) (in_ports_none trees accepted k m at text (λ x there is j. absurd (unwritten x there is)))
      ∙ ap (λ o. option_or (option_map named.OutPort o) (sequencer_named (machine_symbols trees k m).sequencer text)) (out_ports_none trees accepted k m at text (λ x there is j. absurd (unwritten x there is)))
      ∙ sequencer (slice_get (filter_map (sequencer_in trees m) (machine_declarations m)) 0) refl
    where
      undeclared : (d : Declaration) → There (machine_declarations m) d → is_named text d ≡ true → ⊥
      undeclared d there is = cc (sym (find_none (is_named text) (machine_declarations m) d none there) ∙ is)

      never : {Y : Type 0} (f : Declaration → List Y) (d : Declaration) → There (machine_declarations m) d → is_named text d ≡ true → f d ≡ []
      never f d there is = absurd (undeclared d there is)

      unwritten : (x : Decl) → There m.declarations x → is_named_decl text x ≡ true → ⊥
      unwritten x there is = let its = declared_there trees accepted k m at text x there is in undeclared its.0 its.1 its.2

      texts : (d : Declaration) (name : List ℕ) → sequencer_in trees m d ≡ Some name → is_named text d ≡ bytes_eq name text
      texts (parameter p) name some = of (is_sequencer trees m (parameter p)) some
        where
          of : (b : Bool) → cond b (Some p.name.text) None ≡ Some name → bytes_eq p.name.text text ≡ bytes_eq name text
          of true same = let one : p.name.text ≡ name = cc same in ap (λ t. bytes_eq t text) one
          of false same = absurd (cc same)
      texts (object p) name some = of (is_sequencer trees m (object p)) some
        where
          of : (b : Bool) → cond b (Some p.name.text) None ≡ Some name → bytes_eq p.name.text text ≡ bytes_eq name text
          of true same = let one : p.name.text ≡ name = cc same in ap (λ t. bytes_eq t text) one
          of false same = absurd (cc same)
      texts _ name some = absurd (cc some)

      other_name : (name : List ℕ) → slice_get (filter_map (sequencer_in trees m) (machine_declarations m)) 0 ≡ Some name → bytes_eq name text ≡ false
      other_name name first =
          false_from_ne_true (bytes_eq name text)
          (λ is.
          let from = filter_map_there (sequencer_in trees m) (machine_declarations m) name (0, first) in
          undeclared from.0 from.1 (texts from.0 name from.2 ∙ is))

      sequencer : (o : Option (List ℕ)) → slice_get (filter_map (sequencer_in trees m) (machine_declarations m)) 0 ≡ o → sequencer_named (machine_symbols trees k m).sequencer text ≡ None
      sequencer None first = ap (λ o. sequencer_named o text) (sequencer_kept ∙ first)
      sequencer (Some name) first = ap (λ o. sequencer_named o text) (sequencer_kept ∙ first) ∙ ap (λ b. cond b (Some named.Sequencer) None) (other_name name first)
