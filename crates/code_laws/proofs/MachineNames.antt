-- Names that a machine declares, and those that are there in each body.
use Rattle.std.proofs.Common.{◌≡◌, ℕ, true, pos, Some, List, [], ◌∷◌, length, slice_get, refl, sym, ap, subst, ◌∙◌}
use Rattle.std.proofs.lemmas.Bool.{cond_both}
use Rattle.action_code.specs.declared.program.TableSort.TheVariants as sort
use Rattle.ruby_value.specs.declared.kind.Kind.TheVariants as kind
use Rattle.ruby_value.specs.declared.value.Ref.{Ref}
use Rattle.ruby_value.specs.declared.value.Value.{Value}
use Rattle.ruby_value.specs.declared.value.Value.TheVariants as value
use Rattle.ruby_value.specs.Prelude.{is_reference}
use Rattle.ruby_symbols.specs.declared.types.FieldSymbol.{FieldSymbol}
use Rattle.slicc_plan.specs.declared.built_in.BuiltInType.TheVariants.{Int, MachineId}
use Rattle.slicc_plan.specs.Meanings.{value as value_meaning}
use Rattle.slicc_plan.specs.Types.{built_in}
use Rattle.acts.specs.declared.body_fault.BodyFault.TheVariants as own
use Rattle.acts.specs.Prelude.{Acting, ends, ◌>>=◌, act as done, found}
use Rattle.built_in_acts.specs.Prelude.{built_in as built_in_act, calls, field_of as line_read, told}
use Rattle.action_code.specs.declared.instr.Instr.TheVariants as instr
use Rattle.action_code.specs.declared.program.TableDecl.{TableDecl}
use Rattle.action_code.specs.Prelude.{bare, field_of, kind_of_table, machine_of, operations, structure_of}
use Rattle.body_meaning.specs.declared.thing.Thing.{Thing}
use Rattle.body_meaning.specs.declared.thing.Thing.TheVariants as thing
use Rattle.body_meaning.specs.Prelude.{own_number, parameter, thing_built, thing_got}
use Rattle.code_meaning.specs.Prelude.{Held, is_of_kind}
use Rattle.code_meaning.proofs.Fields.{field_gives}
use Rattle.code_meaning.proofs.OfKind.{line_there, table_entry, table_structure}
use Rattle.body_code.specs.Kinds.{values_structure}
use Rattle.body_code.specs.Prelude.{giving, just}
use Rattle.code_laws.specs.Setting.{IsSet, Setting, tables}
use Rattle.code_laws.proofs.FieldForms.{read_valued}
use Rattle.code_laws.proofs.Good.{IsDone, IsGood, IsValued, held, pushed_done}
use Rattle.code_laws.proofs.OperationCalls.{operation_done}
use Rattle.code_laws.proofs.Segments.{runs_more}
use Rattle.code_laws.proofs.Structures.{value_declared, values_table}

module _ (z : Setting) (is : IsSet z) (h : Held) where
  abbrev H : List Value → Held
  H stack = held z h stack

  -- In each body.

  number_same : thing_built z.s 58 0 [] ≡ own_number
  unfolding thing_built built_in_act calls told own_number ◌>>=◌ done
  number_same = refl

  pub number_good : IsGood z h (value_meaning (built_in MachineId)) (giving kind.Machine (instr.Op 58 0 ∷ [])) own_number
  unfolding operations
  number_good = record {
    left_is = record { kind = kind.Machine; kind_is = refl; left_is = refl };
    done = subst (λ t. IsDone z h H (giving kind.Machine (instr.Op 58 0 ∷ [])) t) number_same (operation_done z is h 58 0 _ refl refl tt [] refl);
  }

  pub latency_good : IsGood z h (value_meaning (built_in Int)) (giving kind.Int (instr.Push (value.Int (pos 10)) 0 ∷ [])) (ends (thing.Value (value.Int (pos 10))))
  latency_good = record { left_is = record { kind = kind.Int; kind_is = refl; left_is = refl }; done = pushed_done z h kind.Int (value.Int (pos 10)) 0 refl }

  -- A value of the machine: a field of line 0 of the table after its others.

  abbrev at_values : Ref
  at_values = record { table = length z.s.machine.tables; line = 0 }

  got_same : (k : ℕ) → (line_read (value.Entry (Some at_values)) k >>= (λ y. ends (thing.Value y))) ≡ parameter z.s.machine k
  unfolding parameter thing_got line_read found ◌>>=◌
  got_same k = sym (ap (λ o. found own.Reference o >>= (λ table. thing_got (record { table = table; line = 0 }) k)) is.few_tables)

  abbrev values_decl : TableDecl
  values_decl = record { sort = sort.Parameters; structure = values_structure z.s.symbols z.s.number }

  values_kind : is_of_kind (tables z) (kind_of_table (tables z) values_decl) (value.Entry (Some at_values)) ≡ true
  values_kind = table_entry (tables z) values_decl (Some at_values) ∙ line_there (tables z) values_decl at_values (values_table z is) refl

  pub parameter_done : (k : ℕ) (v : FieldSymbol) → slice_get z.s.machine.values k ≡ Some v → IsValued z h H (bare v.kind) (just (instr.Push (value.Entry (Some at_values)) 0 ∷ instr.Get k ∷ [])) (parameter z.s.machine k)
  parameter_done k v found =
      let has : field_of z.p (structure_of (kind_of_table (tables z) values_decl)) k ≡ Some (bare v.kind) = ap (λ s. field_of z.p s k) (table_structure (tables z) values_decl) ∙ value_declared z is k v found in
      let gives = field_gives z.p (machine_of z.p z.c) z.setup is.is_setup (kind_of_table (tables z) values_decl) (value.Entry (Some at_values)) k (bare v.kind) (table_reference values_decl) values_kind has in
      let read = read_valued z is h (value.Entry (Some at_values)) k (bare v.kind) gives in
      let V : Acting Thing → Type 0 = λ t. IsValued z h H (bare v.kind) (just (instr.Push (value.Entry (Some at_values)) 0 ∷ instr.Get k ∷ [])) t in
      subst V (got_same k)
      (record {
        stays = read.stays;
        does = λ stack. runs_more z.p z.c z.calls z.setup (instr.Push (value.Entry (Some at_values)) 0) (instr.Get k ∷ []) (H stack) (value.Entry (Some at_values) ∷ stack) refl (read.does stack);
      })
    where
      table_reference : (t : TableDecl) → is_reference (kind_of_table (tables z) t) ≡ true
      table_reference t = cond_both _ (kind.Tbe t.structure) (kind.Entry t.structure) (λ k. is_reference k ≡ true) (λ e. refl) (λ e. refl)
