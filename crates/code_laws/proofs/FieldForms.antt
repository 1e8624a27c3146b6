-- Fields, of lines through references and of messages.
use Rattle.std.proofs.Common.{◌≡◌, ◌⊎◌, ◌++◌, ◌+◌, ℕ, zero, suc, true, false, Option, None, Some, List, [], ◌∷◌, length, map, slice_get, refl, sym, ap, subst, ◌∙◌, inl, inr, option_and_then, arith}
use Rattle.std.specs.Option.{option_map}
use Rattle.std.proofs.lemmas.Bool.{and_parts, cases_cond}
use Rattle.std.proofs.lemmas.Option.{slice_get_within}
use Rattle.ruby_value.specs.declared.kind.Kind.{Kind}
use Rattle.ruby_value.specs.declared.kind.Kind.TheVariants as kind
use Rattle.ruby_value.specs.declared.value.Ref.{Ref}
use Rattle.ruby_value.specs.declared.value.Value.{Value}
use Rattle.ruby_value.specs.declared.value.Value.TheVariants as value
use Rattle.ruby_value.specs.Prelude.{is_reference}
use Rattle.ruby_symbols.specs.declared.machine.MachineSymbols.{MachineSymbols}
use Rattle.ruby_symbols.specs.declared.machine.TableSymbol.{TableSymbol}
use Rattle.ruby_symbols.specs.declared.types.FieldSymbol.{FieldSymbol}
use Rattle.ruby_symbols.specs.declared.types.StructureSymbol.{StructureSymbol}
use Rattle.ruby_symbols.specs.Prelude.{field_named}
use Rattle.slicc_plan.specs.ExpressionTypes.{field_in as field_typed}
use Rattle.slicc_plan.specs.Meanings.{Meaning, value as value_meaning, no_line, bare_line, new_line, incoming, outgoing, table, in_port, out_port, nothing, unknown}
use Rattle.slicc_plan.specs.TypeNumbers.{structure_number}
use Rattle.slicc_plan.specs.Types.{KnownType}
use Rattle.rules_symbols.specs.Fitting.{IsOfKind}
use Rattle.rules_symbols.specs.TypedMeaning.{IsTypeIn}
use Rattle.rules_symbols.proofs.Fields.{of_type}
use Rattle.acts.specs.declared.body_fault.BodyFault.TheVariants as own
use Rattle.acts.specs.Act as act
use Rattle.acts.specs.Prelude.{ends, ◌>>=◌, act as done, found}
use Rattle.built_in_acts.specs.Prelude.{field_of as line_read, reference}
use Rattle.action_code.specs.declared.instr.Instr.TheVariants as instr
use Rattle.action_code.specs.declared.program.TableDecl.{TableDecl}
use Rattle.action_code.specs.Prelude.{bare, field_of, kind_of_table, machine_of, structure_of}
use Rattle.body_meaning.specs.declared.thing.Thing.TheVariants as thing
use Rattle.body_meaning.specs.Prelude.{field_at, field_through, line_field, structure_field, thing_got}
use Rattle.code_meaning.specs.Prelude.{Held, fetched, has_lines_of, is_line_of, is_of_kind}
use Rattle.code_meaning.proofs.Fields.{field_gives}
use Rattle.code_meaning.proofs.Gives.{Gives}
use Rattle.code_meaning.proofs.OfKind.{same_structure, table_structure}
use Rattle.body_code.specs.declared.left.Left.TheVariants as left
use Rattle.body_code.specs.Kinds.{code_kind, table_declared}
use Rattle.body_code.specs.Prelude.{field_in as field_code, giving, just}
use Rattle.code_laws.specs.Holding.{IsLeft}
use Rattle.code_laws.specs.Setting.{IsSet, Setting, tables}
use Rattle.code_laws.proofs.Good.{IsDone, IsValued, held, value_done}
use Rattle.code_laws.proofs.Operators.{IsMade, made_valued}
use Rattle.code_laws.proofs.Segments.{runs_made, runs_step}
use Rattle.code_laws.proofs.Structures.{field_declared, field_plainly, tables_are}

-- Tables by their lines.

declared_at : (xs : List TableSymbol) (p : TableDecl) (j : ℕ) (t : TableDecl) → slice_get (map table_declared xs ++ p ∷ []) j ≡ Some t → ((s : TableSymbol) × (slice_get xs j ≡ Some s) × (t ≡ table_declared s)) ⊎ (t ≡ p)
declared_at [] p zero t is = inr (cc is)
declared_at [] p (suc j) t is = absurd (cc is)
declared_at (x ∷ xs) p zero t is = let same : table_declared x ≡ t = cc is in inl (x, refl, sym same)
declared_at (x ∷ xs) p (suc j) t is = elim (declared_at xs p j t is) [ inl found ↦ inl found | inr same ↦ inr same ]

pub code_structure : (m : MachineSymbols) (k : Kind) → structure_of (code_kind m k) ≡ structure_of k
code_structure m (kind.Tbe n) = elim (cases_cond _ (kind.Tbe n) (kind.Entry n) (code_kind m (kind.Tbe n)) refl) [ inl e ↦ ap structure_of e | inr e ↦ ap structure_of e ]
code_structure m kind.Bool = refl
code_structure m kind.Int = refl
code_structure m (kind.Enum a d) = refl
code_structure m kind.Addr = refl
code_structure m kind.Machine = refl
code_structure m kind.Dest = refl
code_structure m kind.Block = refl
code_structure m (kind.Entry n) = refl

-- a kind that isn't of references is the same in code, down to its default member
pub plain_code : (m : MachineSymbols) (k : Kind) → is_reference k ≡ false → code_kind m k ≡ bare k
plain_code m (kind.Tbe n) plain = absurd (cc plain)
plain_code m kind.Bool plain = refl
plain_code m kind.Int plain = refl
plain_code m (kind.Enum a d) plain = refl
plain_code m kind.Addr plain = refl
plain_code m kind.Machine plain = refl
plain_code m kind.Dest plain = refl
plain_code m kind.Block plain = refl
plain_code m (kind.Entry n) plain = refl

reference_structure : (k : Kind) → is_reference k ≡ true → (n : ℕ) × (structure_of k ≡ Some n)
reference_structure (kind.Entry n) is = (n, refl)
reference_structure (kind.Tbe n) is = (n, refl)
reference_structure k is = absurd (cc is)

module _ (z : Setting) (is : IsSet z) (h : Held) where
  abbrev H : List Value → Held
  H stack = held z h stack

  -- Reading a line.

  read_made : (v : Value) (field : ℕ) (k : Kind) → Gives z.setup (λ y. is_of_kind (tables z) k y ≡ true) (line_read v field) → IsMade z h (λ stack. H (v ∷ stack)) k (just (instr.Get field ∷ [])) (line_read v field)
  read_made v field k gives = record {
    stays = gives;
    does = λ stack.
        runs_made z.p z.c z.calls z.setup (λ y. y ∷ stack) (λ s. H s) (runs_step z.p z.c z.calls z.setup (instr.Get field) (H (v ∷ stack)) (fetched field (v ∷ stack)) refl);
  }

  pub read_valued : (v : Value) (field : ℕ) (k : Kind) → Gives z.setup (λ y. is_of_kind (tables z) k y ≡ true) (line_read v field)
      → IsValued z h (λ stack. H (v ∷ stack)) k (just (instr.Get field ∷ [])) (line_read v field >>= (λ y. ends (thing.Value y)))
  read_valued v field k gives = made_valued z h (line_read v field) (read_made v field k gives)

  -- the field of the line is that of the structure
  read_same : (v : Value) (text : List ℕ) (field : ℕ) → ((r : Ref) → reference v ≡ Some r → line_field z.s r.table text ≡ Some field)
      → (line_read v field >>= (λ y. ends (thing.Value y))) ≡ field_through z.s v text
  unfolding field_through field_at thing_got line_read found ◌>>=◌
  read_same v text field each = by (reference v) refl
    where
      by : (r : Option Ref) → reference v ≡ r
          → (found own.Reference r >>= (λ (r : Ref). done (act.Get r field)) >>= (λ y. ends (thing.Value y))) ≡ (found own.Reference r >>= (λ (r : Ref). field_at z.s text r))
      by None e = refl
      by (Some r) e = sym (ap (λ o. found own.Reference o >>= (λ k. thing_got r k)) (each r e))

  -- a reference of a kind is to a table with its structure
  table_of : (k : Kind) (n : ℕ) (t : StructureSymbol) → structure_of k ≡ Some n → slice_get z.s.symbols.structures n ≡ Some t → (r : Ref) → is_line_of (tables z) k (Some r) ≡ true
      → (s : TableSymbol) × (slice_get z.s.machine.tables r.table ≡ Some s) × (s.structure ≡ n)
  table_of k n t of there r line = by (slice_get (tables z) r.table) refl (and_parts (has_lines_of (tables z) (slice_get (tables z) r.table) k) _ line).0
    where
      by : (o : Option TableDecl) → slice_get (tables z) r.table ≡ o → has_lines_of (tables z) o k ≡ true → (s : TableSymbol) × (slice_get z.s.machine.tables r.table ≡ Some s) × (s.structure ≡ n)
      by None found lines = absurd (cc lines)
      by (Some d) found lines =
          let structure : Some d.structure ≡ Some n = sym (table_structure (tables z) d) ∙ same_structure (kind_of_table (tables z) d) k lines ∙ of in
          let number : d.structure ≡ n = cc structure in
          let few = slice_get_within z.s.symbols.structures n t there in
          elim (declared_at z.s.machine.tables _ r.table d (ap (λ ts. slice_get ts r.table) (sym (tables_are z is)) ∙ found)) [
            | inl at ↦ (at.0, at.1, ap (λ (x : TableDecl). x.structure) (sym at.2) ∙ number)
            | inr last ↦ (let past : d.structure ≡ length z.s.symbols.structures + z.s.number = ap (λ (x : TableDecl). x.structure) last in absurd (omega (arith, past, number, few)))
          ]

  line_of : (k : Kind) (v : Value) → is_reference k ≡ true → is_of_kind (tables z) k v ≡ true → (r : Ref) → reference v ≡ Some r → is_line_of (tables z) k (Some r) ≡ true
  line_of (kind.Entry n) (value.Entry o) ref of r e = ap (λ x. is_line_of (tables z) (kind.Entry n) x) (sym e) ∙ of
  line_of (kind.Entry n) (value.Tbe o) ref of r e = ap (λ x. is_line_of (tables z) (kind.Entry n) x) (sym e) ∙ of
  line_of (kind.Tbe n) (value.Entry o) ref of r e = ap (λ x. is_line_of (tables z) (kind.Tbe n) x) (sym e) ∙ of
  line_of (kind.Tbe n) (value.Tbe o) ref of r e = ap (λ x. is_line_of (tables z) (kind.Tbe n) x) (sym e) ∙ of
  line_of (kind.Entry n) v ref of r e = absurd (cc of)
  line_of (kind.Tbe n) v ref of r e = absurd (cc of)
  line_of k v ref of r e = absurd (cc ref)

  -- Fields of a structure.

  pub record FieldFound (n : ℕ) (text : List ℕ) (meaning : Meaning) : Type 0 where
    pub structure : StructureSymbol
    pub number : ℕ
    pub field : FieldSymbol
    pub there : slice_get z.s.symbols.structures n ≡ Some structure
    pub named : field_named structure.fields text ≡ Some number
    pub at : slice_get structure.fields number ≡ Some field
    pub of : IsOfKind z.trees z.m field.kind meaning

  pub field_is : (t : KnownType) (n : ℕ) (text : List ℕ) (meaning : Meaning) → IsTypeIn z.trees z.m t → structure_number z.trees t ≡ Some n → field_typed z.trees z.m t text ≡ Some meaning → FieldFound n text meaning
  field_is t n text meaning inside number typed =
      let s = of_type z.trees is.accepted z.s.number z.m is.machine_there is.numbered t inside n number in
      let f = s.2 text meaning typed in
      record {
        structure = s.0;
        number = f.0;
        field = f.1;
        there = subst (λ ss. slice_get ss.structures n ≡ Some s.0) (sym is.symbols) s.1;
        named = f.2;
        at = f.3;
        of = f.4;
      }

  field_left : (k : Kind) (meaning : Meaning) → is_reference k ≡ false → IsOfKind z.trees z.m k meaning → IsLeft z meaning (left.Value (bare k))
  field_left k (value_meaning u) plain of = record { kind = k; kind_is = of; left_is = ap left.Value (sym (plain_code z.s.machine k plain)) }
  field_left k no_line plain of = absurd (cc (sym of ∙ plain))
  field_left k bare_line plain of = absurd of
  field_left k (new_line made) plain of = absurd of
  field_left k (incoming t) plain of = absurd of
  field_left k (outgoing t) plain of = absurd of
  field_left k (table b) plain of = absurd of
  field_left k (in_port t) plain of = absurd of
  field_left k (out_port t) plain of = absurd of
  field_left k nothing plain of = absurd of
  field_left k unknown plain of = absurd of

  module _ (n : ℕ) (text : List ℕ) (meaning : Meaning) (f : FieldFound n text meaning) where
    pub typed_left : IsLeft z meaning (left.Value (bare f.field.kind))
    typed_left = field_left f.field.kind meaning (field_plainly z is n f.number f.structure f.field f.there f.at) f.of

    pub code_field : field_code z.s.symbols n text ≡ Some (record { number = f.number; kind = bare f.field.kind })
    code_field =
        ap (option_and_then (λ (t : StructureSymbol). option_and_then (λ k. option_map (λ (x : FieldSymbol). record { number = k; kind = bare x.kind }) (slice_get t.fields k)) (field_named t.fields text))) f.there
        ∙ ap (option_and_then (λ k. option_map (λ (x : FieldSymbol). record { number = k; kind = bare x.kind }) (slice_get f.structure.fields k))) f.named
        ∙ ap (option_map (λ (x : FieldSymbol). record { number = f.number; kind = bare x.kind })) f.at

    pub body_field : structure_field z.s.symbols n text ≡ Some f.number
    body_field = ap (option_and_then (λ (t : StructureSymbol). field_named t.fields text)) f.there ∙ f.named

    -- through a reference of the kind
    pub through : (k : Kind) → is_reference k ≡ true → structure_of k ≡ Some n → (v : Value) → is_of_kind (tables z) k v ≡ true
        → IsDone z h (λ stack. H (v ∷ stack)) (giving (bare f.field.kind) (instr.Get f.number ∷ [])) (field_through z.s v text)
    through k ref of v typed =
        let each : (r : Ref) → reference v ≡ Some r → line_field z.s r.table text ≡ Some f.number =
        λ r e.
        let t = table_of k n f.structure of f.there r (line_of k v ref typed r e) in
        ap (option_and_then (λ (t : TableSymbol). structure_field z.s.symbols t.structure text)) t.1 ∙ ap (λ x. structure_field z.s.symbols x text) t.2 ∙ body_field in
        let has : field_of z.p (structure_of k) f.number ≡ Some (bare f.field.kind) = ap (λ s. field_of z.p s f.number) of ∙ field_declared z is n f.number f.structure f.field f.there f.at in
        subst (λ t. IsDone z h (λ stack. H (v ∷ stack)) (giving (bare f.field.kind) (instr.Get f.number ∷ [])) t) (read_same v text f.number each)
        (value_done z h (read_valued v f.number (bare f.field.kind) (field_gives z.p (machine_of z.p z.c) z.setup is.is_setup k v f.number (bare f.field.kind) ref typed has)))
