-- A name that a body doesn't have of its own: what the machine declares by it, or one that is there in each body.
use Rattle.std.proofs.Common.{◌≡◌, ◌⊎◌, ◌∙◌, ℕ, pos, Bool, true, false, cond, Option, None, Some, List, [], ◌∷◌, codes, flat_map, map, unwrap_or, refl, sym, ap, subst, inl, inr}
use Rattle.std.specs.Str.{bytes_eq}
use Rattle.ruby_value.specs.declared.kind.Kind.{Kind}
use Rattle.ruby_symbols.specs.declared.machine.TableSort.{TableSort}
use Rattle.ruby_symbols.specs.declared.machine.TableSort.TheVariants as table_sort
use Rattle.slicc_ast.specs.declared.tree.declaration.Pairs.{Pairs}
use Rattle.slicc_ast.specs.declared.tree.machine.Decl.{Decl}
use Rattle.slicc_ast.specs.declared.tree.machine.Decl.TheVariants as decl
use Rattle.slicc_ast.specs.declared.tree.machine.InPort.{InPort}
use Rattle.slicc_ast.specs.declared.tree.machine.Machine.{Machine}
use Rattle.slicc_ast.specs.declared.tree.machine.OutPort.{OutPort}
use Rattle.slicc_plan.specs.declared.built_in.BuiltInType.TheVariants.{Buffer, Cache, Directory, Int, MachineId, Sequencer, TbeTable}
use Rattle.slicc_plan.specs.BrokenBodies.{broken_port, port_environment, wrong_type_in}
use Rattle.slicc_plan.specs.BuiltIn.{is_table_nature, nature_of}
use Rattle.slicc_plan.specs.Declarations.{Declaration, in_port, object, out_port, parameter, within, first_named, is_named, machine_declarations, named_declarations}
use Rattle.slicc_plan.specs.Environment.{Bound, declared_value, fixed, value_outside, wrong_value_name}
use Rattle.slicc_plan.specs.JudgedStatements.{body_judged}
use Rattle.slicc_plan.specs.Limits.{is_sequencer}
use Rattle.slicc_plan.specs.Meanings.{Meaning, value as value_meaning, table as table_meaning, in_port as in_port_meaning, out_port as out_port_meaning, unknown, is_message, is_object_type, is_value, message_type, object_of_type, table_of}
use Rattle.slicc_plan.specs.Prelude.{machine_symbols}
use Rattle.slicc_plan.specs.SymbolsOfMachines.{line_number, table_of_sort, table_symbol}
use Rattle.slicc_plan.specs.Tables.{line_structure, table_sort as sort_typed, written_entries}
use Rattle.slicc_plan.specs.TypeNumbers.{no_structure, value_kind}
use Rattle.slicc_plan.specs.Types.{KnownType, built_in, enumerated, structured, is_built_in}
use Rattle.slicc_plan.specs.UnknownTypes.{use_of}
use Rattle.slicc_plan.proofs.Room.{left_none}
use Rattle.slicc_plan.proofs.There.{There, found_passes, there_found}
use Rattle.rules_symbols.specs.NamedValues.{IsNamedValue}
use Rattle.rules_symbols.proofs.Lists.{flat_there, there_append, there_map}
use Rattle.rules_symbols.proofs.Made.{only_there}
use Rattle.rules_symbols.proofs.Parameters.{machine_scope, object_stands, parameter_stands, right_type, type_known, unbroken}
use Rattle.rules_symbols.proofs.PortBuffers.{in_port_on, out_port_on}
use Rattle.rules_symbols.proofs.Standing.{nothing_stands, sequencer_stands, table_stands}
use Rattle.rules_symbols.proofs.Types.{same_text, text_same}
use Rattle.rules_symbols.proofs.ValueKinds.{kind_there}
use Rattle.acts.specs.Prelude.{ends, either, stops}
use Rattle.acts.specs.declared.body_fault.BodyFault.TheVariants as own
use Rattle.ruby_value.specs.declared.value.Value.TheVariants as value
use Rattle.ruby_value.specs.declared.kind.Kind.TheVariants as kind
use Rattle.action_code.specs.declared.instr.Instr.TheVariants as instr
use Rattle.body_meaning.specs.declared.thing.Thing.TheVariants as thing
use Rattle.body_meaning.specs.Prelude.{named_everywhere, own_number}
use Rattle.code_meaning.specs.Prelude.{Held}
use Rattle.body_code.specs.declared.left.Left.TheVariants as left
use Rattle.body_code.specs.Prelude.{giving, known, read_everywhere}
use Rattle.code_laws.specs.Holding.{is_used}
use Rattle.code_laws.specs.Setting.{IsSet, Setting}
use Rattle.code_laws.proofs.DeclaredNames.{GoodName, in_port_name, out_port_name, sequencer_name, standing, table_name, value_name}
use Rattle.code_laws.proofs.Good.{IsGood}
use Rattle.code_laws.proofs.MachineNames.{latency_good, number_good}

-- the test of two texts, turned
turned_test : (a b : List ℕ) (v : Bool) → bytes_eq a b ≡ v → bytes_eq b a ≡ v
turned_test a b true e = ap (λ x. bytes_eq x a) (sym (text_same a b e)) ∙ same_text a
turned_test a b false e = by (bytes_eq b a) refl
  where
    by : (v : Bool) → bytes_eq b a ≡ v → v ≡ false
    by false is = refl
    by true is = absurd (cc (sym e ∙ ap (λ x. bytes_eq x b) (sym (text_same b a is)) ∙ same_text b))

-- a port that is declared stands between the braces
in_port_written : (m : Machine) (p : InPort) → There (machine_declarations m) (in_port p) → There m.declarations (decl.InPort p)
in_port_written m p there = by (there_append (map parameter m.parameters) (flat_map named_declarations m.declarations) (in_port p) there)
  where
    of : (x : Decl) → There m.declarations x → There (named_declarations x) (in_port p) → There m.declarations (decl.InPort p)
    of (decl.InPort q) at inside = let same : in_port q ≡ in_port p = only_there (in_port q) (in_port p) inside in let one : q ≡ p = cc same in subst (λ (h : InPort). There m.declarations (decl.InPort h)) one at
    of (decl.Transition s) at inside = absurd (cc inside.1)
    of (decl.Function g) at inside = absurd (cc (only_there _ (in_port p) inside))
    of (decl.States s) at inside = absurd (cc (only_there _ (in_port p) inside))
    of (decl.Enumeration s) at inside = absurd (cc (only_there _ (in_port p) inside))
    of (decl.Structure s) at inside = absurd (cc (only_there _ (in_port p) inside))
    of (decl.OutPort s) at inside = absurd (cc (only_there _ (in_port p) inside))
    of (decl.Action s) at inside = absurd (cc (only_there _ (in_port p) inside))
    of (decl.Object s) at inside = absurd (cc (only_there _ (in_port p) inside))

    by : There (map parameter m.parameters) (in_port p) ⊎ There (flat_map named_declarations m.declarations) (in_port p) → There m.declarations (decl.InPort p)
    by (inl front) = let from = there_map parameter m.parameters (in_port p) front in absurd (cc from.2)
    by (inr rest) = let from = flat_there named_declarations m.declarations (in_port p) rest in of from.0 from.1 from.2

out_port_written : (m : Machine) (p : OutPort) → There (machine_declarations m) (out_port p) → There m.declarations (decl.OutPort p)
out_port_written m p there = by (there_append (map parameter m.parameters) (flat_map named_declarations m.declarations) (out_port p) there)
  where
    of : (x : Decl) → There m.declarations x → There (named_declarations x) (out_port p) → There m.declarations (decl.OutPort p)
    of (decl.OutPort q) at inside = let same : out_port q ≡ out_port p = only_there (out_port q) (out_port p) inside in let one : q ≡ p = cc same in subst (λ (h : OutPort). There m.declarations (decl.OutPort h)) one at
    of (decl.Transition s) at inside = absurd (cc inside.1)
    of (decl.Function g) at inside = absurd (cc (only_there _ (out_port p) inside))
    of (decl.States s) at inside = absurd (cc (only_there _ (out_port p) inside))
    of (decl.Enumeration s) at inside = absurd (cc (only_there _ (out_port p) inside))
    of (decl.Structure s) at inside = absurd (cc (only_there _ (out_port p) inside))
    of (decl.InPort s) at inside = absurd (cc (only_there _ (out_port p) inside))
    of (decl.Action s) at inside = absurd (cc (only_there _ (out_port p) inside))
    of (decl.Object s) at inside = absurd (cc (only_there _ (out_port p) inside))

    by : There (map parameter m.parameters) (out_port p) ⊎ There (flat_map named_declarations m.declarations) (out_port p) → There m.declarations (decl.OutPort p)
    by (inl front) = let from = there_map parameter m.parameters (out_port p) front in absurd (cc from.2)
    by (inr rest) = let from = flat_there named_declarations m.declarations (out_port p) rest in of from.0 from.1 from.2

module _ (z : Setting) (is : IsSet z) (h : Held) where
  abbrev Q : List ℕ → Meaning → Type 0
  Q text meaning = GoodName z is h text meaning

  -- In each body.

  everywhere_by : (x y : Bool) (b : Bound) → cond x (Some (fixed (codes "machineID") (value_meaning (built_in MachineId)))) (cond y (Some (fixed (codes "recycle_latency") (value_meaning (built_in Int)))) None) ≡ Some b
      → IsGood z h b.meaning (cond x (giving kind.Machine (instr.Op 58 0 ∷ [])) (cond y (giving kind.Int (instr.Push (value.Int (pos 10)) 0 ∷ [])) (known left.Nothing)))
      (either x own_number (either y (ends (thing.Value (value.Int (pos 10)))) (stops own.Reference)))
  unfolding either
  everywhere_by true y b e = let one : fixed (codes "machineID") (value_meaning (built_in MachineId)) ≡ b = cc e in subst (λ (c : Bound). IsGood z h c.meaning (giving kind.Machine (instr.Op 58 0 ∷ [])) own_number) one (number_good z is h)
  everywhere_by false true b e =
      let one : fixed (codes "recycle_latency") (value_meaning (built_in Int)) ≡ b = cc e in
      subst (λ (c : Bound). IsGood z h c.meaning (giving kind.Int (instr.Push (value.Int (pos 10)) 0 ∷ [])) (ends (thing.Value (value.Int (pos 10))))) one (latency_good z is h)
  everywhere_by false false b e = absurd (cc e)

  everywhere : (text : List ℕ) (b : Bound) → value_outside z.trees z.m text None ≡ Some b → IsGood z h b.meaning (read_everywhere text) (named_everywhere text)
  everywhere text b e =
      let T : Bool → Bool → Type 0 = λ x y.
      IsGood z h b.meaning (cond x (giving kind.Machine (instr.Op 58 0 ∷ [])) (cond y (giving kind.Int (instr.Push (value.Int (pos 10)) 0 ∷ [])) (known left.Nothing)))
      (either x own_number (either y (ends (thing.Value (value.Int (pos 10)))) (stops own.Reference))) in
      let x : bytes_eq (codes "machineID") text ≡ bytes_eq text (codes "machineID") = turned_test text (codes "machineID") (bytes_eq text (codes "machineID")) refl in
      let y : bytes_eq (codes "recycle_latency") text ≡ bytes_eq text (codes "recycle_latency") = turned_test text (codes "recycle_latency") (bytes_eq text (codes "recycle_latency")) refl in
      subst (λ v. T v (bytes_eq text (codes "recycle_latency"))) x (subst (λ w. T (bytes_eq (codes "machineID") text) w) y (everywhere_by (bytes_eq (codes "machineID") text) (bytes_eq (codes "recycle_latency") text) b e))

  -- Parameters and objects, by their types.

  typed_name : (text : List ℕ) (d : Declaration) (t : KnownType) (pairs : Pairs) (name : List ℕ) → There (machine_declarations z.m) d → is_named text d ≡ true
      → ((sort : TableSort) → sort_typed (Some t) pairs ≡ Some sort → table_symbol z.trees z.m d ≡ record { name = name; sort = sort; structure = unwrap_or (line_number z.trees z.m (line_structure z.m sort)) no_structure } ∷ [])
      → ((k : Kind) → value_kind z.trees z.m t ≡ Some k → IsNamedValue (machine_symbols z.trees z.s.number z.m) text t k) → (t ≡ built_in Sequencer → is_sequencer z.trees z.m d ≡ true)
      → (is_value z.m t ≡ true → (k : Kind) × (value_kind z.trees z.m t ≡ Some k)) → is_object_type z.m t ≡ true → is_used (object_of_type z.m (Some t)) ≡ true → Q text (object_of_type z.m (Some t))
  typed_name text d (built_in Cache) pairs name there named_so tables values sequencer kinds right used =
      let s = table_stands z.trees is.accepted z.s.number z.m is.machine_there text d _ there named_so (tables table_sort.Cache refl) in
      table_name z is h text Cache table_sort.Cache _ refl refl refl (λ n left_is. left_is) s.0 s.1 s.2
  typed_name text d (built_in Directory) pairs name there named_so tables values sequencer kinds right used =
      let s = table_stands z.trees is.accepted z.s.number z.m is.machine_there text d _ there named_so (tables table_sort.Directory refl) in
      table_name z is h text Directory table_sort.Directory _ refl refl refl (λ n left_is. left_is) s.0 s.1 s.2
  typed_name text d (built_in TbeTable) pairs name there named_so tables values sequencer kinds right used =
      let s = table_stands z.trees is.accepted z.s.number z.m is.machine_there text d _ there named_so (tables (table_sort.Tbe (written_entries pairs)) refl) in
      table_name z is h text TbeTable (table_sort.Tbe (written_entries pairs)) _ refl refl refl (λ n left_is. left_is) s.0 s.1 s.2
  typed_name text d (built_in Sequencer) pairs name there named_so tables values sequencer kinds right used =
      sequencer_name z is h text (sequencer_stands z.trees is.accepted z.s.number z.m is.machine_there text d there named_so (sequencer refl))
  typed_name text d (built_in Buffer) pairs name there named_so tables values sequencer kinds right used = absurd (cc used)
  typed_name text d (built_in b) pairs name there named_so tables values sequencer kinds right used = by (is_value z.m (built_in b)) refl
    where
      by : (v : Bool) → is_value z.m (built_in b) ≡ v → Q text (object_of_type z.m (Some (built_in b)))
      by true so =
          let k = kinds so in
          subst (λ v. Q text (cond (is_table_nature (nature_of b)) (table_meaning b) (cond v (value_meaning (built_in b)) unknown))) (sym so) (value_name z is h text (built_in b) k.0 k.1 (values k.0 k.1))
      by false so = absurd (cc (sym right ∙ so))
  typed_name text d (enumerated scope n members) pairs name there named_so tables values sequencer kinds right used = let k = kinds refl in value_name z is h text (enumerated scope n members) k.0 k.1 (values k.0 k.1)
  typed_name text d (structured scope s) pairs name there named_so tables values sequencer kinds right used =
      let k = kinds right in
      subst (λ v. Q text (cond v (value_meaning (structured scope s)) unknown)) (sym right) (value_name z is h text (structured scope s) k.0 k.1 (values k.0 k.1))

  declared_good : (text : List ℕ) (d : Declaration) → There (machine_declarations z.m) d → is_named text d ≡ true → (b : Bound) → declared_value z.trees z.m d ≡ Some b → is_used b.meaning ≡ true → Q text b.meaning
  declared_good text (parameter p) there named_so b e used =
      let known = type_known z.trees is.accepted (within z.m) (machine_scope z.trees is.accepted z.s.number z.m is.machine_there) (parameter p) there (use_of p.kind) (0, refl) refl in
      let right = right_type z.trees is.accepted z.s.number z.m is.machine_there (is_object_type z.m) p.kind known.0 known.1 (unbroken z.trees is.accepted z.s.number z.m is.machine_there (parameter p) there) in
      let meaning : b.meaning ≡ object_of_type z.m (Some known.0) = ap (λ (c : Bound). c.meaning) (some_same e) ∙ ap (object_of_type z.m) known.1 in
      let T : List ℕ → Type 0 = λ x. (k : Kind) → value_kind z.trees z.m known.0 ≡ Some k → IsNamedValue (machine_symbols z.trees z.s.number z.m) x known.0 k in
      subst (λ m. Q text m) (sym meaning)
      (typed_name text (parameter p) known.0 p.pairs p.name.text there named_so
      (λ sort so. ap (λ t. table_of_sort z.trees z.m p.name.text (sort_typed t p.pairs)) known.1 ∙ ap (table_of_sort z.trees z.m p.name.text) so)
      (subst T (text_same p.name.text text named_so) (λ k is_kind. parameter_stands z.trees is.accepted z.s.number z.m is.machine_there p known.0 k there known.1 is_kind))
      (λ same. ap (is_built_in Sequencer) (known.1 ∙ ap Some same))
      (λ valued. kind_there z.trees z.s.number z.m is.machine_there p.kind.text known.0 known.1 valued) right (subst (λ m. is_used m ≡ true) meaning used))
    where
      some_same : {x y : Bound} → Some x ≡ Some y → y ≡ x
      some_same e = cc e
  declared_good text (object p) there named_so b e used =
      let known = type_known z.trees is.accepted (within z.m) (machine_scope z.trees is.accepted z.s.number z.m is.machine_there) (object p) there (use_of p.kind) (0, refl) refl in
      let right = right_type z.trees is.accepted z.s.number z.m is.machine_there (is_object_type z.m) p.kind known.0 known.1 (unbroken z.trees is.accepted z.s.number z.m is.machine_there (object p) there) in
      let meaning : b.meaning ≡ object_of_type z.m (Some known.0) = ap (λ (c : Bound). c.meaning) (some_same e) ∙ ap (object_of_type z.m) known.1 in
      let T : List ℕ → Type 0 = λ x. (k : Kind) → value_kind z.trees z.m known.0 ≡ Some k → IsNamedValue (machine_symbols z.trees z.s.number z.m) x known.0 k in
      subst (λ m. Q text m) (sym meaning)
      (typed_name text (object p) known.0 p.pairs p.name.text there named_so
      (λ sort so. ap (λ t. table_of_sort z.trees z.m p.name.text (sort_typed t p.pairs)) known.1 ∙ ap (table_of_sort z.trees z.m p.name.text) so)
      (subst T (text_same p.name.text text named_so) (λ k is_kind. object_stands z.trees is.accepted z.s.number z.m is.machine_there p known.0 k there known.1 is_kind))
      (λ same. ap (is_built_in Sequencer) (known.1 ∙ ap Some same))
      (λ valued. kind_there z.trees z.s.number z.m is.machine_there p.kind.text known.0 known.1 valued) right (subst (λ m. is_used m ≡ true) meaning used))
    where
      some_same : {x y : Bound} → Some x ≡ Some y → y ≡ x
      some_same e = cc e
  declared_good text (in_port p) there named_so b e used =
      let known = type_known z.trees is.accepted (within z.m) (machine_scope z.trees is.accepted z.s.number z.m is.machine_there) (in_port p) there (use_of p.message) (0, refl) refl in
      let whole = unbroken z.trees is.accepted z.s.number z.m is.machine_there (in_port p) there in
      let port = left_none (broken_port z.trees z.m p.message p.buffer) (body_judged (port_environment z.trees z.m) p.body) whole in
      let right = right_type z.trees is.accepted z.s.number z.m is.machine_there is_message p.message known.0 known.1 (left_none (wrong_type_in z.trees z.m is_message p.message) (wrong_value_name (port_environment z.trees z.m) (table_of Buffer) p.buffer) port) in
      let meaning : b.meaning ≡ in_port_meaning (Some known.0) = ap (λ (c : Bound). c.meaning) (some_same e) ∙ ap (λ t. in_port_meaning (message_type t)) known.1 ∙ ap (λ v. in_port_meaning (cond v (Some known.0) None)) right in
      let on = in_port_on z.trees is.accepted z.s.number z.m is.machine_there p known.0 (in_port_written z.m p there) known.1 in
      subst (λ m. Q text m) (sym meaning) (subst (λ x. Q x (in_port_meaning (Some known.0))) (text_same p.name.text text named_so) (in_port_name z is h p.name.text known.0 on))
    where
      some_same : {x y : Bound} → Some x ≡ Some y → y ≡ x
      some_same e = cc e
  declared_good text (out_port p) there named_so b e used =
      let known = type_known z.trees is.accepted (within z.m) (machine_scope z.trees is.accepted z.s.number z.m is.machine_there) (out_port p) there (use_of p.message) (0, refl) refl in
      let port = unbroken z.trees is.accepted z.s.number z.m is.machine_there (out_port p) there in
      let right = right_type z.trees is.accepted z.s.number z.m is.machine_there is_message p.message known.0 known.1 (left_none (wrong_type_in z.trees z.m is_message p.message) (wrong_value_name (port_environment z.trees z.m) (table_of Buffer) p.buffer) port) in
      let meaning : b.meaning ≡ out_port_meaning (Some known.0) = ap (λ (c : Bound). c.meaning) (some_same e) ∙ ap (λ t. out_port_meaning (message_type t)) known.1 ∙ ap (λ v. out_port_meaning (cond v (Some known.0) None)) right in
      let on = out_port_on z.trees is.accepted z.s.number z.m is.machine_there p known.0 (out_port_written z.m p there) known.1 in
      subst (λ m. Q text m) (sym meaning) (subst (λ x. Q x (out_port_meaning (Some known.0))) (text_same p.name.text text named_so) (out_port_name z is h p.name.text known.0 on))
    where
      some_same : {x y : Bound} → Some x ≡ Some y → y ≡ x
      some_same e = cc e
  declared_good text _ there named_so b e used = absurd (cc e)

  pub outside_good : (text : List ℕ) (b : Bound) → value_outside z.trees z.m text (first_named text (machine_declarations z.m)) ≡ Some b → is_used b.meaning ≡ true → Q text b.meaning
  outside_good text b e used = by (first_named text (machine_declarations z.m)) refl e
    where
      by : (o : Option Declaration) → first_named text (machine_declarations z.m) ≡ o → value_outside z.trees z.m text o ≡ Some b → Q text b.meaning
      by None found same = standing z is h text b.meaning None (nothing_stands z.trees is.accepted z.s.number z.m is.machine_there text found) (everywhere text b same)
      by (Some d) found same = declared_good text d (there_found (is_named text) (machine_declarations z.m) d found) (found_passes (is_named text) (machine_declarations z.m) d found) b same used
