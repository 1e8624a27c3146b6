-- In an accepted protocol the symbols make of a machine what its trees say that it is to its controllers.
use Rattle.std.proofs.Common.{◌≡◌, ◌++◌, ◌+◌, ◌||◌, ◌∙◌, ℕ, zero, suc, Bool, true, false, cond, Option, None, Some, IfSome, List, [], ◌∷◌, find, flat_map, length, length-append, map, not, slice_get, refl, sym, ap, arith, option_and_then, unwrap_or}
use Rattle.std.specs.Prelude.{filter_map, is_some}
use Rattle.std.specs.List.{cons_option, list_any}
use Rattle.std.specs.Option.{option_map}
use Rattle.std.proofs.lemmas.List.{map-append}
use Rattle.ruby_value.specs.declared.kind.Kind.{Kind}
use Rattle.ruby_value.specs.declared.kind.Kind.TheVariants as kind
use Rattle.ruby_value.specs.declared.setup.BufferSetup.{BufferSetup}
use Rattle.ruby_value.specs.declared.setup.Sizes.{Sizes}
use Rattle.ruby_value.specs.declared.setup.TableSize.TheVariants.{Parameters}
use Rattle.ruby_value.specs.declared.value.Value.{Value}
use Rattle.ruby_symbols.specs.declared.machine.MachineSymbols.{MachineSymbols}
use Rattle.ruby_symbols.specs.declared.machine.TableSort.{TableSort}
use Rattle.ruby_symbols.specs.declared.machine.TableSort.TheVariants.{Cache, Directory, Tbe}
use Rattle.ruby_symbols.specs.declared.machine.TableSymbol.{TableSymbol}
use Rattle.ruby_symbols.specs.declared.types.EnumerationSymbol.{EnumerationSymbol}
use Rattle.ruby_symbols.specs.declared.types.FieldSymbol.{FieldSymbol}
use Rattle.slicc_ast.specs.declared.tree.declaration.Member.{Member}
use Rattle.slicc_ast.specs.declared.tree.declaration.Member.TheVariants.{Field, Method, Skipped}
use Rattle.slicc_ast.specs.declared.tree.declaration.Pairs.{Pairs}
use Rattle.slicc_ast.specs.declared.tree.declaration.Structure.{Structure}
use Rattle.slicc_ast.specs.declared.tree.item.Tree.{Tree}
use Rattle.slicc_ast.specs.declared.tree.machine.Machine.{Machine}
use Rattle.slicc_plan.specs.declared.built_in.BuiltInType.TheVariants.{Request}
use Rattle.slicc_plan.specs.Prelude.{IsAccepted, BufferIn, buffer_in, Declaration, states, parameter, object, Scope, within, global_declarations, is_external, machine_declarations, machines_of, FieldIn, field_kind, field_kinds, initial_fields, initial_value, message_kinds, is_sequencer, is_states, is_directory_entry, is_entry, is_tbe, own_structures, structure_in, values_of, attributes_of, buffer_place, default_state, first_state, is_ordered, kinds_on, parameter_table, setup_in, setup_of, table_of_lines, table_setup, table_size, tables_from, values_from, symbols_of, buffer_of_place, buffer_symbol, line_number, machine_symbols, number_of_found, sequencer_in, table_of_sort, table_symbol, enumeration_symbols, field_of_type, field_symbol, field_symbols, request_symbol, structure_symbol, structure_symbols, line_structure, table_in, declared_structures, made_in, no_structure, own_default, scoped_declarations, structure_number, KnownType, built_in, enumerated, structured}
use Rattle.slicc_plan.specs.Declarations.{structure}
use Rattle.slicc_plan.specs.FieldTypes.{field_of}
use Rattle.slicc_plan.specs.MessageTypes.{message_type}
use Rattle.slicc_plan.specs.Setups as plan
use Rattle.slicc_plan.proofs.Counted.{machine_has_numbers}
use Rattle.slicc_plan.proofs.Machines.{symbols_at}
use Rattle.slicc_plan.proofs.Messages.{IsDeclared, has_states, message_declared}
use Rattle.slicc_plan.proofs.Reading.{reads_states}
use Rattle.slicc_plan.proofs.There.{There, found_passes, get_right, in_machine, machine_there, there_found, there_later}
use Rattle.slicc_plan.proofs.Types.{as_many, each_structure, states_stand, structure_stands}
use Rattle.machine_setup.specs.Prelude.{buffer_by, default_of, default_state_by, fields_at, fields_of, first_values, kinds_of, kinds_of_ranges, line_of, setup_by, table_by, tables_by, values_by, values_of_ranges}

-- What is read off the symbols of fields is read off the fields.
module _ {X : Type 0} (trees : List Tree) (scope : Scope) (f : FieldSymbol → X) (g : FieldIn → X) (same : (text : List ℕ) (x : FieldIn) → f (field_of_type trees text x) ≡ g x) where
  read_off : (ms : List Member) → map f (flat_map (field_symbol trees scope) ms) ≡ map g (flat_map (field_of scope) ms)
  read_off [] = refl
  read_off (Field kind called attributes span ∷ ms) =
      λ i. same called.text (record { scope = scope; kind = kind; attributes = attributes }) i ∷ read_off ms i
  read_off (Method kind called formals attributes span ∷ ms) = read_off ms
  read_off (Skipped s ∷ ms) = read_off ms

fields_have_kinds : (trees : List Tree) (scope : Scope) (s : Structure) → kinds_of (field_symbols trees scope s) ≡ field_kinds trees scope s
fields_have_kinds trees scope s = read_off trees scope (λ x. x.kind) (field_kind trees) (λ text x. refl) s.members

fields_have_values : (trees : List Tree) (scope : Scope) (s : Structure) → first_values (field_symbols trees scope s) ≡ initial_fields trees scope s
fields_have_values trees scope s = read_off trees scope (λ x. x.initial) (initial_value trees) (λ text x. refl) s.members

-- Structures of lines.

structure_there : (ds : List Declaration) (s : Structure) → There (flat_map structure_in ds) s → There ds (structure s) × (is_external s ≡ false)
structure_there [] s there = absurd (cc there.1)
structure_there (structure u ∷ ds) s there = by (is_external u) refl (structure_there ds s) there
  where
    later : There ds (structure s) × (is_external s ≡ false) → There (structure u ∷ ds) (structure s) × (is_external s ≡ false)
    later rest = (there_later (structure u) (structure s) ds rest.0, rest.1)

    by : (b : Bool) → is_external u ≡ b → (There (flat_map structure_in ds) s → There ds (structure s) × (is_external s ≡ false)) → There (cond b [] (u ∷ []) ++ flat_map structure_in ds) s
        → There (structure u ∷ ds) (structure s) × (is_external s ≡ false)
    by true is rest there = later (rest there)
    by false is rest (zero, at) =
        let same : u ≡ s = cc at in ((0, ap (λ (x : Structure). Some (structure x)) same), ap is_external (sym same) ∙ is)
    by false is rest (suc n, at) = later (rest (n, at))
structure_there (d ∷ ds) s there =
    let rest = structure_there ds s there in (there_later d (structure s) ds rest.0, rest.1)

line_there : (m : Machine) (sort : TableSort) (s : Structure) → line_structure m sort ≡ Some s → There (own_structures m) s
line_there m Cache s is = there_found is_entry (own_structures m) s is
line_there m Directory s is = there_found is_directory_entry (own_structures m) s is
line_there m (Tbe entries) s is = there_found is_tbe (own_structures m) s is

-- The sequencer.

if_one : (text : List ℕ) (b : Bool) → is_some (cond b (Some text) None) ≡ b
if_one text true = refl
if_one text false = refl

one_sequencer : (trees : List Tree) (m : Machine) (d : Declaration) → is_some (sequencer_in trees m d) ≡ is_sequencer trees m d
one_sequencer trees m (parameter p) = if_one p.name.text (is_sequencer trees m (parameter p))
one_sequencer trees m (object o) = if_one o.name.text (is_sequencer trees m (object o))
one_sequencer trees m _ = refl

some_sequencer : (trees : List Tree) (m : Machine) (ds : List Declaration) → list_any (is_sequencer trees m) ds ≡ is_some (slice_get (filter_map (sequencer_in trees m) ds) 0)
some_sequencer trees m [] = refl
some_sequencer trees m (d ∷ ds) =
    ap (λ b. b || list_any (is_sequencer trees m) ds) (sym (one_sequencer trees m d)) ∙ by (sequencer_in trees m d) (some_sequencer trees m ds)
  where
    by : (o : Option (List ℕ)) → list_any (is_sequencer trees m) ds ≡ is_some (slice_get (filter_map (sequencer_in trees m) ds) 0) → (is_some o || list_any (is_sequencer trees m) ds) ≡ is_some (slice_get (cons_option o (filter_map (sequencer_in trees m) ds)) 0)
    by None rest = rest
    by (Some text) rest = refl

-- Ranges.

range_kinds : (rs : List (ℕ × ℕ)) → map (λ (v : Value). kind.Int) (values_of_ranges rs) ≡ kinds_of_ranges rs
range_kinds [] = refl
range_kinds (r ∷ rs) = ap (λ (ks : List Kind). kind.Int ∷ kind.Int ∷ ks) (range_kinds rs)

module _ (trees : List Tree) (accepted : IsAccepted trees) where
  -- Fields.

  request_at : kinds_of (fields_at (symbols_of trees) (structure_number trees (built_in Request))) ≡ message_kinds trees (built_in Request)
  unfolding symbols_of
  request_at =
      let declared = flat_map (structure_symbol trees) (declared_structures trees) in
      let many : length declared ≡ length (declared_structures trees) = as_many (structure_symbol trees) (declared_structures trees) (each_structure trees) in
      ap (λ o. kinds_of (fields_of o)) (get_right declared (request_symbol ∷ []) (length (declared_structures trees)) 0 (omega (arith, many)))

  kinds_at : (t : KnownType) → IsDeclared trees t → kinds_of (fields_at (symbols_of trees) (structure_number trees t)) ≡ message_kinds trees t
  unfolding symbols_of
  kinds_at (built_in Request) is = request_at
  kinds_at (built_in _) is = refl
  kinds_at (enumerated scope text members) is = refl
  kinds_at (structured scope s) is =
      ap (λ o. kinds_of (fields_of o)) (structure_stands trees accepted scope s is.0 is.1) ∙ fields_have_kinds trees scope s

  kinds_of_type : (o : Option KnownType) → IfSome o (IsDeclared trees) → kinds_on trees o ≡ kinds_of (fields_at (symbols_of trees) (option_and_then (structure_number trees) o))
  kinds_of_type None is = refl
  kinds_of_type (Some t) is = sym (kinds_at t is)

  module _ (k : ℕ) (m : Machine) (at : slice_get (machines_of trees) k ≡ Some m) (sizes : Sizes) where
    abbrev own : MachineSymbols
    own = machine_symbols trees k m

    abbrev ds : List Declaration
    ds = machine_declarations m

    there : (d : Declaration) → There ds d → There (scoped_declarations trees) (made_in (within m) d)
    there d place = in_machine trees m d (machine_there (global_declarations trees) m (k, at)) place

    -- Tables.

    line_is : (sort : TableSort) → line_of own sort ≡ line_number trees m (line_structure m sort)
    unfolding machine_symbols
    line_is Cache = refl
    line_is Directory = refl
    line_is (Tbe entries) = refl

    module _ (sort : TableSort) (number : ℕ) where
      abbrev fields : Option ℕ → List FieldSymbol
      fields line = fields_at (symbols_of trees) line

      lines : (o : Option Structure) → line_structure m sort ≡ o → table_of_lines trees m (table_size sizes number sort) o
          ≡ record { size = table_size sizes number sort; structure = unwrap_or (line_number trees m o) no_structure; kinds = kinds_of (fields (line_number trees m o)); initial = first_values (fields (line_number trees m o)) }
      unfolding symbols_of
      lines None is = refl
      lines (Some s) is =
          let own_structure = structure_there ds s (line_there m sort s is) in
          let stands = kept s own_structure.0 own_structure.1 in
          λ i. record {
            size = table_size sizes number sort;
            structure = unwrap_or (structure_number trees (structured (within m) s)) no_structure;
            kinds = (sym (ap kinds_of stands ∙ fields_have_kinds trees (within m) s)) i;
            initial = (sym (ap first_values stands ∙ fields_have_values trees (within m) s)) i;
          }
        where
          kept : (s : Structure) → There ds (structure s) → is_external s ≡ false → fields (structure_number trees (structured (within m) s)) ≡ field_symbols trees (within m) s
          kept s place inner = ap fields_of (structure_stands trees accepted (within m) s (there (structure s) place) inner)

      one_table : (text : List ℕ) → table_setup trees m sizes number sort ≡ table_by (symbols_of trees) own sizes number (record { name = text; sort = sort; structure = unwrap_or (line_number trees m (line_structure m sort)) no_structure })
      one_table text =
          lines (line_structure m sort) refl
          ∙ ap (λ (line : Option ℕ). record { size = table_size sizes number sort; structure = unwrap_or (line_number trees m (line_structure m sort)) no_structure; kinds = kinds_of (fields line); initial = first_values (fields line) }) (sym (line_is sort))

    abbrev AreSame : ℕ → List TableSort → List TableSymbol → Type 0
    AreSame number sorts symbols = tables_from trees m sizes number sorts ≡ tables_by (symbols_of trees) own sizes number symbols

    module _ (number : ℕ) (sorts : List TableSort) (symbols : List TableSymbol) (here : AreSame number sorts symbols) (later : AreSame (number + 1) sorts symbols) where
      one_more : (text : List ℕ) (o : Option TableSort) → AreSame number (cons_option o sorts) (table_of_sort trees m text o ++ symbols)
      one_more text None = here
      one_more text (Some sort) = λ i. one_table sort number text i ∷ later i

      declared_more : (d : Declaration) → AreSame number (cons_option (table_in trees m d) sorts) (table_symbol trees m d ++ symbols)
      declared_more (parameter p) = one_more p.name.text (table_in trees m (parameter p))
      declared_more (object o) = one_more o.name.text (table_in trees m (object o))
      declared_more _ = here

    all_tables : (number : ℕ) (es : List Declaration) → AreSame number (filter_map (table_in trees m) es) (flat_map (table_symbol trees m) es)
    all_tables number [] = refl
    all_tables number (d ∷ es) =
        declared_more number (filter_map (table_in trees m) es) (flat_map (table_symbol trees m) es) (all_tables number es) (all_tables (number + 1) es) d

    values_table : parameter_table trees k m sizes ≡ values_by (symbols_of trees) k own sizes
    unfolding symbols_of machine_symbols
    values_table =
        let declared = flat_map (structure_symbol trees) (declared_structures trees) in
        let many : length declared ≡ length (declared_structures trees) = as_many (structure_symbol trees) (declared_structures trees) (each_structure trees) in
        let long : length (structure_symbols trees) ≡ length declared + 1 = length-append declared (request_symbol ∷ []) in
        let number : length (declared_structures trees) + 1 + k ≡ length (structure_symbols trees) + k = omega (arith, many, long) in
        λ i. record {
          size = Parameters;
          structure = number i;
          kinds = kinds_of (values_of trees m) ++ range_kinds sizes.machines i;
          initial = values_from sizes 0 (values_of trees m) ++ values_of_ranges sizes.machines;
        }

    -- Buffers.

    one_buffer : (pairs : Option Pairs) (o : Option BufferIn) → plan.buffer_by trees k pairs o ≡ map (buffer_by (symbols_of trees)) (buffer_of_place trees k pairs o)
    one_buffer pairs None = refl
    one_buffer pairs (Some b) =
        let t = message_type trees k b in
        ap (λ (ks : List Kind). record { place = buffer_place trees b.place t; ordered = is_ordered pairs; kinds = ks } ∷ []) (kinds_of_type t (message_declared trees accepted k b))

    all_buffers : (es : List Declaration) → flat_map (λ (d : Declaration). plan.buffer_by trees k (attributes_of d) (buffer_in trees m d)) es ≡ map (buffer_by (symbols_of trees)) (flat_map (buffer_symbol trees k m) es)
    all_buffers [] = refl
    all_buffers (d ∷ es) =
        ap (λ (bs : List BufferSetup). bs ++ flat_map (λ (e : Declaration). plan.buffer_by trees k (attributes_of e) (buffer_in trees m e)) es) (one_buffer (attributes_of d) (buffer_in trees m d))
        ∙ ap (λ (bs : List BufferSetup). map (buffer_by (symbols_of trees)) (buffer_symbol trees k m d) ++ bs) (all_buffers es)
        ∙ sym (map-append (buffer_by (symbols_of trees)) (buffer_symbol trees k m d) (flat_map (buffer_symbol trees k m) es))

    -- States.

    first : first_state m (find is_states ds) ≡ default_of (slice_get (symbols_of trees).enumerations (number_of_found trees m (find is_states ds)))
    unfolding symbols_of
    first =
        let states_found = has_states trees accepted k m at in
        ap (first_state m) states_found.1
        ∙ of_states states_found.0 (found_passes is_states ds states_found.0 states_found.1) (there states_found.0 (there_found is_states ds states_found.0 states_found.1))
        ∙ ap (λ o. default_of (slice_get (symbols_of trees).enumerations (number_of_found trees m o))) (sym states_found.1)
      where
        read : (o : Option EnumerationSymbol) (n : ℕ) → option_map (λ (e : EnumerationSymbol). e.default) o ≡ Some n → n ≡ default_of o
        read None n is = absurd (cc is)
        read (Some e) n is = cc is

        of_states : (d : Declaration) → is_states d ≡ true → There (scoped_declarations trees) (made_in (within m) d) → own_default (within m) d ≡ default_of (slice_get (symbols_of trees).enumerations (number_of_found trees m (Some d)))
        of_states (states d) is place = read (slice_get (enumeration_symbols trees) (number_of_found trees m (Some (states d)))) (own_default (within m) (states d)) (states_stand trees accepted m d place)
        of_states _ is place = absurd (cc is)

    state_of : default_state m ≡ default_state_by (symbols_of trees) own
    unfolding machine_symbols
    state_of =
        let few = machine_has_numbers trees k m accepted at in
        ap (λ b. cond (not b) (Some (first_state m (find is_states ds))) None) (sym (reads_states trees accepted k m at few.functions))
        ∙ ap (λ n. cond (not (is_some own.get_state)) (Some n) None) first

    pub by_symbols : setup_in trees k sizes m ≡ setup_by (symbols_of trees) k own sizes
    unfolding machine_symbols
    by_symbols = λ i. record {
      tables = all_tables 0 ds i ++ values_table i ∷ [];
      buffers = all_buffers ds i;
      default_state = state_of i;
      has_sequencer = some_sequencer trees m ds i;
    }

  pub of_number : (k : ℕ) (sizes : Sizes) → setup_of trees k sizes ≡ option_map (λ (own : MachineSymbols). setup_by (symbols_of trees) k own sizes) (slice_get (symbols_of trees).machines k)
  of_number k sizes =
      by (slice_get (machines_of trees) k) refl ∙ ap (option_map (λ (own : MachineSymbols). setup_by (symbols_of trees) k own sizes)) (sym (symbols_at trees k))
    where
      by : (o : Option Machine) → slice_get (machines_of trees) k ≡ o → option_map (setup_in trees k sizes) o ≡ option_map (λ (own : MachineSymbols). setup_by (symbols_of trees) k own sizes) (option_map (machine_symbols trees k) o)
      by None at = refl
      by (Some m) at = ap Some (by_symbols k m at sizes)
