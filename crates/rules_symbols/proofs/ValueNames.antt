-- What the names of a machine's parameters, objects and ports stand for among its symbols, by what these are declared as.
use Rattle.std.proofs.Common.{◌≡◌, ◌∙◌, ◌≤◌, ℕ, Bool, true, false, Option, None, Some, List, [], ◌∷◌, flat_map, length, map, slice_get, refl, sym, ap, subst, arith, option_and_then}
use Rattle.std.specs.Str.{bytes_eq}
use Rattle.ruby_value.specs.declared.kind.Kind.{Kind}
use Rattle.ruby_symbols.specs.declared.machine.BufferSymbol.{BufferSymbol}
use Rattle.ruby_symbols.specs.declared.machine.MachineSymbols.{MachineSymbols}
use Rattle.ruby_symbols.specs.declared.machine.PortSymbol.{PortSymbol}
use Rattle.ruby_symbols.specs.declared.machine.TableSort.{TableSort}
use Rattle.ruby_symbols.specs.declared.machine.TableSymbol.{TableSymbol}
use Rattle.ruby_symbols.specs.declared.types.FieldSymbol.{FieldSymbol}
use Rattle.ruby_symbols.specs.Names.{buffer_among, buffer_named, port_named, table_named}
use Rattle.ruby_symbols.specs.Types.{field_named}
use Rattle.slicc_ast.specs.declared.tree.declaration.Pairs.{Pairs}
use Rattle.slicc_ast.specs.declared.tree.item.Tree.{Tree}
use Rattle.slicc_ast.specs.declared.tree.machine.Decl.{Decl}
use Rattle.slicc_ast.specs.declared.tree.machine.Decl.TheVariants as decl
use Rattle.slicc_ast.specs.declared.tree.machine.Literal.{Literal}
use Rattle.slicc_ast.specs.declared.tree.machine.Machine.{Machine}
use Rattle.slicc_ast.specs.declared.tree.name.Name.{Name}
use Rattle.slicc_ast.specs.declared.tree.span.Span.{Span}
use Rattle.slicc_plan.specs.AllRules.{IsAccepted}
use Rattle.slicc_plan.specs.Buffers.{buffer_of}
use Rattle.slicc_plan.specs.Declarations.{Declaration, enumeration, structure, states, parameter, object, out_port, in_port, action, function, within, is_named, machine_declarations, machines_of, named_declarations}
use Rattle.slicc_plan.specs.MachineValues.{reference_in, reference_of_kind, line_kind, value_in, value_of_kind}
use Rattle.slicc_plan.specs.SymbolsOfMachines.{buffer_of_place, buffer_symbol, buffer_symbols, in_port_symbol, machine_symbols, numbered_from, out_port_symbol, port_on_buffer, table_of_sort, table_symbol}
use Rattle.slicc_plan.specs.Tables.{table_in}
use Rattle.slicc_plan.specs.TypeNumbers.{plain_kind}
use Rattle.slicc_plan.specs.Types.{KnownType, type_in}
use Rattle.slicc_plan.proofs.Counted.{machine_has_numbers}
use Rattle.slicc_plan.proofs.There.{There, there_first, there_flat, there_right}
use Rattle.rules_symbols.proofs.Lists.{short_position}
use Rattle.rules_symbols.proofs.Made.{named_none, named_some, numbered_none, numbered_some, only_there}
use Rattle.rules_symbols.proofs.Owners.{named_once}

-- Names of what is made.

module _ (trees : List Tree) (m : Machine) (text : List ℕ) where
  table_text : (d : Declaration) (y : TableSymbol) → There (table_symbol trees m d) y → bytes_eq y.name text ≡ is_named text d
  table_text d y = by d
    where
      of_sort : (name : List ℕ) (o : Option TableSort) → There (table_of_sort trees m name o) y → bytes_eq y.name text ≡ bytes_eq name text
      of_sort name None there = absurd (cc there.1)
      of_sort name (Some sort) there = ap (λ (t : TableSymbol). bytes_eq t.name text) (sym (only_there _ y there))

      by : (e : Declaration) → There (table_symbol trees m e) y → bytes_eq y.name text ≡ is_named text e
      by (parameter p) there = of_sort p.name.text (table_in trees m (parameter p)) there
      by (object o) there = of_sort o.name.text (table_in trees m (object o)) there
      by _ there = absurd (cc there.1)

  value_text : (d : Declaration) (y : FieldSymbol) → There (value_in trees m d) y → bytes_eq y.name text ≡ is_named text d
  value_text d y = by d
    where
      of_kind : (name : List ℕ) (t : Option KnownType) (l : Option Literal) (k : Option Kind) → There (value_of_kind name t l k) y → bytes_eq y.name text ≡ bytes_eq name text
      of_kind name t l None there = absurd (cc there.1)
      of_kind name t l (Some k) there = ap (λ (f : FieldSymbol). bytes_eq f.name text) (sym (only_there _ y there))

      by : (e : Declaration) → There (value_in trees m e) y → bytes_eq y.name text ≡ is_named text e
      by (parameter p) there = of_kind p.name.text (type_in trees (within m) p.kind.text) p.literal (option_and_then (plain_kind trees) (type_in trees (within m) p.kind.text)) there
      by (object o) there = of_kind o.name.text (type_in trees (within m) o.kind.text) None (option_and_then (plain_kind trees) (type_in trees (within m) o.kind.text)) there
      by _ there = absurd (cc there.1)

  reference_text : (d : Declaration) (y : FieldSymbol) → There (reference_in trees m d) y → bytes_eq y.name text ≡ is_named text d
  reference_text d y = by d
    where
      of_kind : (name : List ℕ) (k : Option Kind) → There (reference_of_kind name k) y → bytes_eq y.name text ≡ bytes_eq name text
      of_kind name None there = absurd (cc there.1)
      of_kind name (Some k) there = ap (λ (f : FieldSymbol). bytes_eq f.name text) (sym (only_there _ y there))

      by : (e : Declaration) → There (reference_in trees m e) y → bytes_eq y.name text ≡ is_named text e
      by (parameter p) there = of_kind p.name.text (option_and_then (line_kind trees m) (type_in trees (within m) p.kind.text)) there
      by (object o) there = of_kind o.name.text (option_and_then (line_kind trees m) (type_in trees (within m) o.kind.text)) there
      by _ there = absurd (cc there.1)

  buffer_text : (number : ℕ) (d : Declaration) (y : BufferSymbol) → There (buffer_symbol trees number m d) y → bytes_eq y.name text ≡ is_named text d
  buffer_text number d y = by d
    where
      of_place : (n : Name) (given : Option Pairs) (v : Bool) (pairs : Pairs) (span : Span) → There (buffer_of_place trees number given (buffer_of v n pairs span)) y → bytes_eq y.name text ≡ bytes_eq n.text text
      of_place n given true pairs span there = ap (λ (b : BufferSymbol). bytes_eq b.name text) (sym (only_there _ y there))
      of_place n given false pairs span there = absurd (cc there.1)

      by : (e : Declaration) → There (buffer_symbol trees number m e) y → bytes_eq y.name text ≡ is_named text e
      by (parameter p) there = of_place p.name (Some p.pairs) _ p.pairs p.span there
      by (object o) there = of_place o.name (Some o.pairs) _ o.pairs o.span there
      by _ there = absurd (cc there.1)

-- Declarations between a machine's braces.

abbrev first_is_named : List ℕ → List Declaration → Bool
first_is_named text [] = false
first_is_named text (d ∷ ds) = is_named text d

abbrev pub is_named_decl : List ℕ → Decl → Bool
is_named_decl text d = first_is_named text (named_declarations d)

-- what is written there that declares this
abbrev pub written_as : Declaration → Option Decl
written_as (states s) = Some (decl.States s)
written_as (enumeration e) = Some (decl.Enumeration e)
written_as (structure s) = Some (decl.Structure s)
written_as (out_port p) = Some (decl.OutPort p)
written_as (in_port p) = Some (decl.InPort p)
written_as (action a) = Some (decl.Action a)
written_as (function f) = Some (decl.Function f)
written_as (object o) = Some (decl.Object o)
written_as _ = None

record Declaring (text : List ℕ) (d : Decl) : Type 0 where
  declaration : Declaration
  declared : named_declarations d ≡ declaration ∷ []
  written : written_as declaration ≡ Some d
  named : is_named text declaration ≡ true

declaring : (text : List ℕ) (d : Decl) → is_named_decl text d ≡ true → Declaring text d
declaring text (decl.States s) is = record { declaration = states s; declared = refl; written = refl; named = is }
declaring text (decl.Enumeration e) is = record { declaration = enumeration e; declared = refl; written = refl; named = is }
declaring text (decl.Structure s) is = record { declaration = structure s; declared = refl; written = refl; named = is }
declaring text (decl.OutPort p) is = record { declaration = out_port p; declared = refl; written = refl; named = is }
declaring text (decl.InPort p) is = record { declaration = in_port p; declared = refl; written = refl; named = is }
declaring text (decl.Action a) is = record { declaration = action a; declared = refl; written = refl; named = is }
declaring text (decl.Function f) is = record { declaration = function f; declared = refl; written = refl; named = is }
declaring text (decl.Object o) is = record { declaration = object o; declared = refl; written = refl; named = is }
declaring text (decl.Transition t) is = absurd (cc is)

in_port_text : (buffers : List BufferSymbol) (text : List ℕ) (j : ℕ) (d : Decl) (y : PortSymbol) → There (in_port_symbol buffers j d) y → bytes_eq y.name text ≡ is_named_decl text d
in_port_text buffers text j d y = by d
  where
    on : (name : List ℕ) (o : Option ℕ) → There (port_on_buffer name j o) y → bytes_eq y.name text ≡ bytes_eq name text
    on name None there = absurd (cc there.1)
    on name (Some b) there = ap (λ (p : PortSymbol). bytes_eq p.name text) (sym (only_there _ y there))

    by : (e : Decl) → There (in_port_symbol buffers j e) y → bytes_eq y.name text ≡ is_named_decl text e
    by (decl.InPort p) there = on p.name.text (buffer_among buffers p.buffer.text) there
    by _ there = absurd (cc there.1)

out_port_text : (buffers : List BufferSymbol) (text : List ℕ) (j : ℕ) (d : Decl) (y : PortSymbol) → There (out_port_symbol buffers j d) y → bytes_eq y.name text ≡ is_named_decl text d
out_port_text buffers text j d y = by d
  where
    on : (name : List ℕ) (o : Option ℕ) → There (port_on_buffer name j o) y → bytes_eq y.name text ≡ bytes_eq name text
    on name None there = absurd (cc there.1)
    on name (Some b) there = ap (λ (p : PortSymbol). bytes_eq p.name text) (sym (only_there _ y there))

    by : (e : Decl) → There (out_port_symbol buffers j e) y → bytes_eq y.name text ≡ is_named_decl text e
    by (decl.OutPort p) there = on p.name.text (buffer_among buffers p.buffer.text) there
    by _ there = absurd (cc there.1)

module _ (trees : List Tree) (accepted : IsAccepted trees) (k : ℕ) (m : Machine) (at : slice_get (machines_of trees) k ≡ Some m) where
  abbrev pub M : MachineSymbols
  M = machine_symbols trees k m

  -- what is written under a name is what is declared by it
  pub written_there : (text : List ℕ) (x : Decl) (d : Declaration) → There m.declarations x → is_named_decl text x ≡ true → There (machine_declarations m) d → is_named text d ≡ true → written_as d ≡ Some x
  written_there text x d there named at_d named_d =
      let its = declaring text x named in
      let inside : There (named_declarations x) its.declaration = subst (λ (ds : List Declaration). There ds its.declaration) (sym its.declared) (there_first its.declaration []) in
      let among : There (machine_declarations m) its.declaration = there_right (map parameter m.parameters) (flat_map named_declarations m.declarations) its.declaration (there_flat named_declarations m.declarations x its.declaration there inside) in
      let same = named_once trees accepted k m at text its.declaration d among at_d its.named named_d in
      ap written_as (sym same) ∙ its.written

  pub declared_there : (text : List ℕ) (x : Decl) → There m.declarations x → is_named_decl text x ≡ true → (d : Declaration) × There (machine_declarations m) d × (is_named text d ≡ true)
  declared_there text x there named =
      let its = declaring text x named in
      let inside : There (named_declarations x) its.declaration = subst (λ (ds : List Declaration). There ds its.declaration) (sym its.declared) (there_first its.declaration []) in
      (its.declaration, there_right (map parameter m.parameters) (flat_map named_declarations m.declarations) its.declaration (there_flat named_declarations m.declarations x its.declaration there inside), its.named)

  pub one_written : (text : List ℕ) (x z : Decl) → There m.declarations x → There m.declarations z → is_named_decl text x ≡ true → is_named_decl text z ≡ true → z ≡ x
  one_written text x z first second one other =
      let its = declaring text x one in
      let inside : There (named_declarations x) its.declaration = subst (λ (ds : List Declaration). There ds its.declaration) (sym its.declared) (there_first its.declaration []) in
      let among : There (machine_declarations m) its.declaration = there_right (map parameter m.parameters) (flat_map named_declarations m.declarations) its.declaration (there_flat named_declarations m.declarations x its.declaration first inside) in
      let both : Some z ≡ Some x = sym (written_there text z its.declaration second other among its.named) ∙ its.written in
      cc both

  module _ (text : List ℕ) where
    pub tables_none : ((d : Declaration) → There (machine_declarations m) d → is_named text d ≡ true → table_symbol trees m d ≡ []) → table_named M text ≡ None
    unfolding machine_symbols
    tables_none none =
        let few = machine_has_numbers trees k m accepted at in
        let short : length (flat_map (table_symbol trees m) (machine_declarations m)) ≤ 65536 = omega (arith, few.tables) in
        short_position (λ (t : TableSymbol). bytes_eq t.name text) (flat_map (table_symbol trees m) (machine_declarations m)) short
        ∙ named_none (table_symbol trees m) (is_named text) (λ (t : TableSymbol). bytes_eq t.name text) (table_text trees m text) (machine_declarations m) none

    pub tables_some : (d : Declaration) (y : TableSymbol) → There (machine_declarations m) d → is_named text d ≡ true → table_symbol trees m d ≡ y ∷ [] → (n : ℕ) × (table_named M text ≡ Some n) × (slice_get M.tables n ≡ Some y)
    unfolding machine_symbols
    tables_some d y there is made =
        let few = machine_has_numbers trees k m accepted at in
        let short : length (flat_map (table_symbol trees m) (machine_declarations m)) ≤ 65536 = omega (arith, few.tables) in
        let found = named_some (table_symbol trees m) (is_named text) (λ (t : TableSymbol). bytes_eq t.name text) (table_text trees m text) (machine_declarations m) d y there is made
        (λ e at_e is_e. named_once trees accepted k m at text e d at_e there is_e is) in
        (found.0, short_position (λ (t : TableSymbol). bytes_eq t.name text) (flat_map (table_symbol trees m) (machine_declarations m)) short ∙ found.1, found.2)

    pub values_none : ((d : Declaration) → There (machine_declarations m) d → is_named text d ≡ true → value_in trees m d ≡ []) → field_named M.values text ≡ None
    unfolding machine_symbols
    values_none none =
        let few = machine_has_numbers trees k m accepted at in
        let short : length (flat_map (value_in trees m) (machine_declarations m)) ≤ 65536 = omega (arith, few.values) in
        short_position (λ (f : FieldSymbol). bytes_eq f.name text) (flat_map (value_in trees m) (machine_declarations m)) short
        ∙ named_none (value_in trees m) (is_named text) (λ (f : FieldSymbol). bytes_eq f.name text) (value_text trees m text) (machine_declarations m) none

    pub values_some : (d : Declaration) (y : FieldSymbol) → There (machine_declarations m) d → is_named text d ≡ true → value_in trees m d ≡ y ∷ [] → (n : ℕ) × (field_named M.values text ≡ Some n) × (slice_get M.values n ≡ Some y)
    unfolding machine_symbols
    values_some d y there is made =
        let few = machine_has_numbers trees k m accepted at in
        let short : length (flat_map (value_in trees m) (machine_declarations m)) ≤ 65536 = omega (arith, few.values) in
        let found = named_some (value_in trees m) (is_named text) (λ (f : FieldSymbol). bytes_eq f.name text) (value_text trees m text) (machine_declarations m) d y there is made
        (λ e at_e is_e. named_once trees accepted k m at text e d at_e there is_e is) in
        (found.0, short_position (λ (f : FieldSymbol). bytes_eq f.name text) (flat_map (value_in trees m) (machine_declarations m)) short ∙ found.1, found.2)

    pub references_none : ((d : Declaration) → There (machine_declarations m) d → is_named text d ≡ true → reference_in trees m d ≡ []) → field_named M.references text ≡ None
    unfolding machine_symbols
    references_none none =
        let few = machine_has_numbers trees k m accepted at in
        let short : length (flat_map (reference_in trees m) (machine_declarations m)) ≤ 65536 = omega (arith, few.references) in
        short_position (λ (f : FieldSymbol). bytes_eq f.name text) (flat_map (reference_in trees m) (machine_declarations m)) short
        ∙ named_none (reference_in trees m) (is_named text) (λ (f : FieldSymbol). bytes_eq f.name text) (reference_text trees m text) (machine_declarations m) none

    pub references_some : (d : Declaration) (y : FieldSymbol) → There (machine_declarations m) d → is_named text d ≡ true → reference_in trees m d ≡ y ∷ [] → (n : ℕ) × (field_named M.references text ≡ Some n) × (slice_get M.references n ≡ Some y)
    unfolding machine_symbols
    references_some d y there is made =
        let few = machine_has_numbers trees k m accepted at in
        let short : length (flat_map (reference_in trees m) (machine_declarations m)) ≤ 65536 = omega (arith, few.references) in
        let found = named_some (reference_in trees m) (is_named text) (λ (f : FieldSymbol). bytes_eq f.name text) (reference_text trees m text) (machine_declarations m) d y there is made
        (λ e at_e is_e. named_once trees accepted k m at text e d at_e there is_e is) in
        (found.0, short_position (λ (f : FieldSymbol). bytes_eq f.name text) (flat_map (reference_in trees m) (machine_declarations m)) short ∙ found.1, found.2)

    pub buffers_none : ((d : Declaration) → There (machine_declarations m) d → is_named text d ≡ true → buffer_symbol trees k m d ≡ []) → buffer_named M text ≡ None
    unfolding machine_symbols
    buffers_none none =
        let few = machine_has_numbers trees k m accepted at in
        let short : length (flat_map (buffer_symbol trees k m) (machine_declarations m)) ≤ 65536 = omega (arith, few.buffers) in
        short_position (λ (b : BufferSymbol). bytes_eq b.name text) (flat_map (buffer_symbol trees k m) (machine_declarations m)) short
        ∙ named_none (buffer_symbol trees k m) (is_named text) (λ (b : BufferSymbol). bytes_eq b.name text) (buffer_text trees m text k) (machine_declarations m) none

    pub buffers_some : (d : Declaration) (y : BufferSymbol) → There (machine_declarations m) d → is_named text d ≡ true → buffer_symbol trees k m d ≡ y ∷ [] → (n : ℕ) × (buffer_named M text ≡ Some n) × (slice_get M.buffers n ≡ Some y)
    unfolding machine_symbols
    buffers_some d y there is made =
        let few = machine_has_numbers trees k m accepted at in
        let short : length (flat_map (buffer_symbol trees k m) (machine_declarations m)) ≤ 65536 = omega (arith, few.buffers) in
        let found = named_some (buffer_symbol trees k m) (is_named text) (λ (b : BufferSymbol). bytes_eq b.name text) (buffer_text trees m text k) (machine_declarations m) d y there is made
        (λ e at_e is_e. named_once trees accepted k m at text e d at_e there is_e is) in
        (found.0, short_position (λ (b : BufferSymbol). bytes_eq b.name text) (flat_map (buffer_symbol trees k m) (machine_declarations m)) short ∙ found.1, found.2)

    pub in_ports_none : ((x : Decl) → There m.declarations x → is_named_decl text x ≡ true → (j : ℕ) → in_port_symbol (buffer_symbols trees k m) j x ≡ []) → port_named M.in_ports text ≡ None
    unfolding machine_symbols
    in_ports_none none =
        let few = machine_has_numbers trees k m accepted at in
        let short : length (numbered_from (in_port_symbol (buffer_symbols trees k m)) 0 m.declarations) ≤ 65536 = omega (arith, few.in_ports) in
        short_position (λ (p : PortSymbol). bytes_eq p.name text) (numbered_from (in_port_symbol (buffer_symbols trees k m)) 0 m.declarations) short
        ∙ numbered_none (in_port_symbol (buffer_symbols trees k m)) (is_named_decl text) (λ (p : PortSymbol). bytes_eq p.name text) (in_port_text (buffer_symbols trees k m) text) m.declarations none

    pub in_ports_some : (x : Decl) (b : ℕ) → There m.declarations x → is_named_decl text x ≡ true → ((j : ℕ) → in_port_symbol (buffer_symbols trees k m) j x ≡ record { name = text; buffer = b; declaration = j } ∷ [])
        → (n : ℕ) × (j : ℕ) × (port_named M.in_ports text ≡ Some n) × (slice_get M.in_ports n ≡ Some (record { name = text; buffer = b; declaration = j })) × (slice_get m.declarations j ≡ Some x)
    unfolding machine_symbols
    in_ports_some x b there is made =
        let few = machine_has_numbers trees k m accepted at in
        let short : length (numbered_from (in_port_symbol (buffer_symbols trees k m)) 0 m.declarations) ≤ 65536 = omega (arith, few.in_ports) in
        let found = numbered_some (in_port_symbol (buffer_symbols trees k m)) (is_named_decl text) (λ (p : PortSymbol). bytes_eq p.name text) (in_port_text (buffer_symbols trees k m) text) m.declarations x there is
        (λ j. (record { name = text; buffer = b; declaration = j }, made j))
        (λ z at_z is_z. one_written text x z there at_z is is_z) in
        let both : record { name = text; buffer = b; declaration = found.1 } ∷ [] ≡ found.2 ∷ [] = sym (made found.1) ∙ found.6 in
        let one : record { name = text; buffer = b; declaration = found.1 } ≡ found.2 = cc both in
        (found.0, found.1, short_position (λ (p : PortSymbol). bytes_eq p.name text) (numbered_from (in_port_symbol (buffer_symbols trees k m)) 0 m.declarations) short ∙ found.3, found.4 ∙ ap Some (sym one), found.5)

    pub out_ports_none : ((x : Decl) → There m.declarations x → is_named_decl text x ≡ true → (j : ℕ) → out_port_symbol (buffer_symbols trees k m) j x ≡ []) → port_named M.out_ports text ≡ None
    unfolding machine_symbols
    out_ports_none none =
        let few = machine_has_numbers trees k m accepted at in
        let short : length (numbered_from (out_port_symbol (buffer_symbols trees k m)) 0 m.declarations) ≤ 65536 = omega (arith, few.out_ports) in
        short_position (λ (p : PortSymbol). bytes_eq p.name text) (numbered_from (out_port_symbol (buffer_symbols trees k m)) 0 m.declarations) short
        ∙ numbered_none (out_port_symbol (buffer_symbols trees k m)) (is_named_decl text) (λ (p : PortSymbol). bytes_eq p.name text) (out_port_text (buffer_symbols trees k m) text) m.declarations none

    pub out_ports_some : (x : Decl) (b : ℕ) → There m.declarations x → is_named_decl text x ≡ true → ((j : ℕ) → out_port_symbol (buffer_symbols trees k m) j x ≡ record { name = text; buffer = b; declaration = j } ∷ [])
        → (n : ℕ) × (j : ℕ) × (port_named M.out_ports text ≡ Some n) × (slice_get M.out_ports n ≡ Some (record { name = text; buffer = b; declaration = j })) × (slice_get m.declarations j ≡ Some x)
    unfolding machine_symbols
    out_ports_some x b there is made =
        let few = machine_has_numbers trees k m accepted at in
        let short : length (numbered_from (out_port_symbol (buffer_symbols trees k m)) 0 m.declarations) ≤ 65536 = omega (arith, few.out_ports) in
        let found = numbered_some (out_port_symbol (buffer_symbols trees k m)) (is_named_decl text) (λ (p : PortSymbol). bytes_eq p.name text) (out_port_text (buffer_symbols trees k m) text) m.declarations x there is
        (λ j. (record { name = text; buffer = b; declaration = j }, made j))
        (λ z at_z is_z. one_written text x z there at_z is is_z) in
        let both : record { name = text; buffer = b; declaration = found.1 } ∷ [] ≡ found.2 ∷ [] = sym (made found.1) ∙ found.6 in
        let one : record { name = text; buffer = b; declaration = found.1 } ≡ found.2 = cc both in
        (found.0, found.1, short_position (λ (p : PortSymbol). bytes_eq p.name text) (numbered_from (out_port_symbol (buffer_symbols trees k m)) 0 m.declarations) short ∙ found.3, found.4 ∙ ap Some (sym one), found.5)
