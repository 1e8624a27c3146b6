-- What a machine declares by a name, by what it is: a table, a value, a reference to nothing, a port or the sequencer.
use Rattle.std.proofs.Common.{◌≡◌, ◌∙◌, ℕ, true, false, Option, None, Some, List, [], ◌∷◌, length, slice_get, unwrap_or, refl, sym, ap, subst}
use Rattle.std.specs.Option.{option_map}
use Rattle.ruby_value.specs.declared.kind.Kind.{Kind}
use Rattle.ruby_value.specs.declared.kind.Kind.TheVariants as kind
use Rattle.ruby_value.specs.declared.value.Value.{Value}
use Rattle.ruby_value.specs.declared.value.Value.TheVariants as value
use Rattle.ruby_value.specs.Prelude.{is_reference}
use Rattle.ruby_symbols.specs.declared.machine.MachineSymbols.{MachineSymbols}
use Rattle.ruby_symbols.specs.declared.machine.PortSymbol.{PortSymbol}
use Rattle.ruby_symbols.specs.declared.machine.TableSort.{TableSort}
use Rattle.ruby_symbols.specs.declared.machine.TableSymbol.{TableSymbol}
use Rattle.ruby_symbols.specs.declared.names.Named.{Named}
use Rattle.ruby_symbols.specs.declared.names.Named.TheVariants as named
use Rattle.ruby_symbols.specs.declared.types.FieldSymbol.{FieldSymbol}
use Rattle.ruby_symbols.specs.Prelude.{stands_for}
use Rattle.slicc_plan.specs.declared.built_in.BuiltInType.{BuiltInType}
use Rattle.slicc_plan.specs.declared.built_in.BuiltInType.TheVariants.{Sequencer}
use Rattle.slicc_plan.specs.Declarations.{Scope}
use Rattle.slicc_plan.specs.Meanings.{Meaning, value as value_meaning, table as table_meaning, in_port as in_port_meaning, out_port as out_port_meaning}
use Rattle.slicc_plan.specs.Prelude.{machine_symbols}
use Rattle.slicc_plan.specs.SymbolsOfMachines.{line_number}
use Rattle.slicc_plan.specs.Tables.{line_structure}
use Rattle.slicc_plan.specs.TypeNumbers.{built_in_kind, declared_number, default_member, kind_or_bool, no_structure, structure_number, value_kind}
use Rattle.slicc_plan.specs.Types.{KnownType, built_in, enumerated, structured}
use Rattle.slicc_plan.proofs.NoReferences.{built_in_plain}
use Rattle.rules_symbols.specs.NamedValues.{IsNamedValue, IsPortOf}
use Rattle.rules_symbols.proofs.WhatFits.{structure_kind}
use Rattle.acts.specs.Prelude.{ends, found, ◌>>=◌}
use Rattle.action_code.specs.declared.instr.Instr.TheVariants as instr
use Rattle.action_code.specs.Prelude.{bare}
use Rattle.body_meaning.specs.declared.thing.Thing.TheVariants as thing
use Rattle.body_meaning.specs.Prelude.{declared, no_line, parameter, port_at, port_thing, thing_declared}
use Rattle.code_meaning.specs.Prelude.{Held}
use Rattle.body_code.specs.declared.left.Left.TheVariants as left
use Rattle.body_code.specs.Prelude.{code_kind, declared_read, giving, kind_in, null, or_none, port_read, value_read}
use Rattle.body_code.specs.Names.{reference_read}
use Rattle.code_laws.specs.Holding.{IsLeft, IsTableLeft, is_sort_of}
use Rattle.code_laws.specs.Setting.{IsSet, Setting}
use Rattle.code_laws.proofs.FieldForms.{plain_code}
use Rattle.code_laws.proofs.Good.{IsDone, IsGood, held, known_done, value_done}
use Rattle.code_laws.proofs.MachineNames.{parameter_done}
use Rattle.code_laws.proofs.Plain.{null_done}
use Rattle.code_laws.proofs.Typing.{code_kind_reference}

-- values that aren't of structures are no references
plain_built_in : (b : BuiltInType) (k : Kind) → built_in_kind b ≡ Some k → is_reference k ≡ false
plain_built_in b k e = ap (λ o. is_reference (kind_or_bool o)) (sym e) ∙ built_in_plain b

plain_enumerated : (z : Setting) (scope : Scope) (text : List ℕ) (members : List (List ℕ)) (k : Kind) → value_kind z.trees z.m (enumerated scope text members) ≡ Some k → is_reference k ≡ false
plain_enumerated z scope text members k e = by (declared_number z.trees (enumerated scope text members)) e
  where
    by : (o : Option ℕ) → option_map (λ n. kind.Enum n (default_member z.trees (enumerated scope text members))) o ≡ Some k → is_reference k ≡ false
    by None e = absurd (cc e)
    by (Some n) e = let same : kind.Enum n (default_member z.trees (enumerated scope text members)) ≡ k = cc e in subst (λ x. is_reference x ≡ false) same refl

module _ (z : Setting) (is : IsSet z) (h : Held) (text : List ℕ) where
  abbrev H : List Value → Held
  H stack = held z h stack

  abbrev M : MachineSymbols
  M = machine_symbols z.trees z.s.number z.m

  -- where the name stands for this
  abbrev GoodAs : Meaning → Option Named → Type 0
  GoodAs meaning n = IsGood z h meaning (declared_read z.s text n) (thing_declared z.s.machine text n)

  abbrev pub GoodName : Meaning → Type 0
  GoodName meaning = IsGood z h meaning (declared_read z.s text (stands_for z.s.machine text)) (declared z.s.machine text)

  pub standing : (meaning : Meaning) (n : Option Named) → stands_for M text ≡ n → GoodAs meaning n → GoodName meaning
  unfolding declared
  standing meaning n stands good =
      let T : Option Named → Type 0 = λ o. GoodAs meaning o in subst T (sym (ap (λ m. stands_for m text) is.machine ∙ stands)) good

  -- Values.

  value_as : (t : KnownType) (k : Kind) (n : ℕ) (v : FieldSymbol) → value_kind z.trees z.m t ≡ Some k → is_reference k ≡ false → slice_get z.s.machine.values n ≡ Some v → v.kind ≡ k → GoodAs (value_meaning t) (Some (named.Value n))
  value_as t k n v kind_is plain there of =
      let kinds : kind_in z.s v.kind ≡ code_kind z.s.machine k = ap (kind_in z.s) of in
      let bare_is : kind_in z.s v.kind ≡ bare v.kind = ap (code_kind z.s.machine) of ∙ plain_code z.s.machine k plain ∙ ap bare (sym of) in
      let O : Option FieldSymbol → Type 0 = λ o. IsGood z h (value_meaning t) (or_none (option_map (value_read z.s n) o)) (parameter z.s.machine n) in
      let K : Kind → Type 0 = λ l. IsDone z h H (giving l (instr.Push (value.Entry (Some (record { table = length z.s.machine.tables; line = 0 }))) 0 ∷ instr.Get n ∷ [])) (parameter z.s.machine n) in
      subst O (sym there)
      (record {
        left_is = record { kind = k; kind_is = kind_is; left_is = ap left.Value kinds };
        done = subst K (sym bare_is) (value_done z h (parameter_done z is h n v there));
      })

  reference_as : (t : KnownType) (k : Kind) (n : ℕ) (v : FieldSymbol) → value_kind z.trees z.m t ≡ Some k → is_reference k ≡ true → slice_get z.s.machine.references n ≡ Some v → v.kind ≡ k → GoodAs (value_meaning t) (Some (named.Reference n))
  reference_as t k n v kind_is ref there of =
      let kinds : kind_in z.s v.kind ≡ code_kind z.s.machine k = ap (kind_in z.s) of in
      let O : Option FieldSymbol → Type 0 = λ o. IsGood z h (value_meaning t) (or_none (option_map (reference_read z.s) o)) (ends no_line) in
      let K : Kind → Type 0 = λ l. IsDone z h H (giving l (null l ∷ [])) (ends no_line) in
      subst O (sym there)
      (record {
        left_is = record { kind = k; kind_is = kind_is; left_is = ap left.Value kinds };
        done = subst K (sym kinds) (null_done z h (code_kind z.s.machine k) (code_kind_reference z.s.machine k ref));
      })

  pub value_name : (t : KnownType) (k : Kind) → value_kind z.trees z.m t ≡ Some k → IsNamedValue M text t k → GoodName (value_meaning t)
  value_name (structured scope s) k kind_is (n, v, stands, there, of) =
      standing (value_meaning (structured scope s)) (Some (named.Reference n)) stands
      (reference_as (structured scope s) k n v kind_is (structure_kind z.trees z.m scope s k kind_is) (subst (λ (m : MachineSymbols). slice_get m.references n ≡ Some v) (sym is.machine) there) of)
  value_name (built_in b) k kind_is (n, v, stands, there, of) =
      standing (value_meaning (built_in b)) (Some (named.Value n)) stands
      (value_as (built_in b) k n v kind_is (plain_built_in b k kind_is) (subst (λ (m : MachineSymbols). slice_get m.values n ≡ Some v) (sym is.machine) there) of)
  value_name (enumerated scope name members) k kind_is (n, v, stands, there, of) =
      standing (value_meaning (enumerated scope name members)) (Some (named.Value n)) stands
      (value_as (enumerated scope name members) k n v kind_is (plain_enumerated z scope name members k kind_is) (subst (λ (m : MachineSymbols). slice_get m.values n ≡ Some v) (sym is.machine) there) of)

  -- Tables and the sequencer.

  pub table_name : (b : BuiltInType) (sort : TableSort) (made : TableSymbol) → is_sort_of b sort ≡ true → made.sort ≡ sort → made.structure ≡ unwrap_or (line_number z.trees z.m (line_structure z.m sort)) no_structure
      → ((n : ℕ) → IsTableLeft z b (left.Table n) → IsLeft z (table_meaning b) (left.Table n)) → (n : ℕ) → stands_for M text ≡ Some (named.Table n) → slice_get M.tables n ≡ Some made → GoodName (table_meaning b)
  table_name b sort made sort_is of structure_is as_left n stands there =
      standing (table_meaning b) (Some (named.Table n)) stands
      (record {
        left_is = as_left n (record {
          number = n;
          symbol = made;
          left_is = refl;
          there = subst (λ (m : MachineSymbols). slice_get m.tables n ≡ Some made) (sym is.machine) there;
          sort_is = ap (is_sort_of b) of ∙ sort_is;
          structure_is = structure_is ∙ ap (λ s. unwrap_or (line_number z.trees z.m (line_structure z.m s)) no_structure) (sym of);
        });
        done = known_done z h (left.Table n) (thing.Table n) refl (λ stack. refl);
      })

  pub sequencer_name : stands_for M text ≡ Some named.Sequencer → GoodName (table_meaning Sequencer)
  sequencer_name stands = standing (table_meaning Sequencer) (Some named.Sequencer) stands (record { left_is = refl; done = known_done z h left.Sequencer thing.Sequencer refl (λ stack. refl) })

  -- Ports.

  port_done : (ports : List PortSymbol) (n : ℕ) (p : PortSymbol) → slice_get ports n ≡ Some p → (meaning : Meaning) → IsLeft z meaning (left.Port p.buffer) → IsGood z h meaning (port_read (port_at ports n)) (port_thing (port_at ports n))
  unfolding port_thing found ◌>>=◌
  port_done ports n p there meaning of =
      let O : Option PortSymbol → Type 0 = λ o. IsGood z h meaning (port_read (option_map (λ (q : PortSymbol). q.buffer) o)) (port_thing (option_map (λ (q : PortSymbol). q.buffer) o)) in
      subst O (sym there) (record { left_is = of; done = known_done z h (left.Port p.buffer) (thing.Port p.buffer) refl (λ stack. refl) })

  pub in_port_name : (t : KnownType) → IsPortOf M text named.InPort M.in_ports (structure_number z.trees t) → GoodName (in_port_meaning (Some t))
  in_port_name t (n, p, b, stands, there, on, message) =
      standing (in_port_meaning (Some t)) (Some (named.InPort n)) stands
      (port_done z.s.machine.in_ports n p (subst (λ (m : MachineSymbols). slice_get m.in_ports n ≡ Some p) (sym is.machine) there) (in_port_meaning (Some t))
      (record {
        port = record { number = p.buffer; buffer = b; left_is = refl; there = subst (λ (m : MachineSymbols). slice_get m.buffers p.buffer ≡ Some b) (sym is.machine) on; message = message };
        receives = is.receives n p b (subst (λ (m : MachineSymbols). slice_get m.in_ports n ≡ Some p) (sym is.machine) there) (subst (λ (m : MachineSymbols). slice_get m.buffers p.buffer ≡ Some b) (sym is.machine) on);
      }))

  pub out_port_name : (t : KnownType) → IsPortOf M text named.OutPort M.out_ports (structure_number z.trees t) → GoodName (out_port_meaning (Some t))
  out_port_name t (n, p, b, stands, there, on, message) =
      standing (out_port_meaning (Some t)) (Some (named.OutPort n)) stands
      (port_done z.s.machine.out_ports n p (subst (λ (m : MachineSymbols). slice_get m.out_ports n ≡ Some p) (sym is.machine) there) (out_port_meaning (Some t))
      (record { number = p.buffer; buffer = b; left_is = refl; there = subst (λ (m : MachineSymbols). slice_get m.buffers p.buffer ≡ Some b) (sym is.machine) on; message = message }))
