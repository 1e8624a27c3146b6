-- Fields of messages, and all fields by what they are of.
use Rattle.std.proofs.Common.{◌≡◌, ◌+◌, ◌<◌, ℕ, zero, suc, Bool, true, false, cond, Option, None, Some, IfSome, List, [], ◌∷◌, length, slice_get, unwrap_or, refl, sym, ap, subst, ◌∙◌, inl, inr, option_and_then, arith}
use Rattle.std.specs.Option.{option_map}
use Rattle.std.proofs.lemmas.Bool.{and_parts}
use Rattle.std.proofs.lemmas.List.{length-map}
use Rattle.std.proofs.lemmas.Option.{slice_get-map, slice_get_within}
use Rattle.ruby_value.specs.declared.kind.Kind.{Kind}
use Rattle.ruby_value.specs.declared.kind.Kind.TheVariants as kind
use Rattle.ruby_value.specs.declared.value.Value.{Value}
use Rattle.ruby_value.specs.Prelude.{is_reference}
use Rattle.ruby_symbols.specs.declared.types.FieldSymbol.{FieldSymbol}
use Rattle.slicc_ast.specs.declared.tree.name.Name.{Name}
use Rattle.slicc_plan.specs.declared.broken.Broken.{Broken}
use Rattle.slicc_plan.specs.declared.built_in.BuiltInType.TheVariants.{Request}
use Rattle.slicc_plan.specs.CallTypes.{Typed, Written, a_field, no_place}
use Rattle.slicc_plan.specs.Declarations.{Scope}
use Rattle.slicc_plan.specs.Environment.{BodySort, Bound, Environment}
use Rattle.slicc_plan.specs.ExpressionTypes.{field_in as field_typed, field_of as field_type, found_field}
use Rattle.slicc_plan.specs.Meanings.{Meaning, value as value_meaning, no_line, bare_line, new_line, incoming, outgoing, table, in_port, out_port, nothing, unknown}
use Rattle.slicc_plan.specs.TypeNumbers.{reference_kind, structure_number, value_kind}
use Rattle.slicc_plan.specs.Types.{KnownType, built_in, enumerated, structured}
use Rattle.slicc_ast.specs.declared.tree.declaration.Structure.{Structure}
use Rattle.rules_symbols.specs.TypedMeaning.{IsTyped}
use Rattle.rules_symbols.proofs.TypedParts.{told_last}
use Rattle.acts.specs.declared.body_fault.BodyFault.TheVariants as own
use Rattle.acts.specs.Prelude.{Acting, ends, ◌>>=◌, found}
use Rattle.built_in_acts.specs.Prelude.{argument}
use Rattle.action_code.specs.declared.instr.Instr.{Instr}
use Rattle.action_code.specs.declared.instr.Instr.TheVariants as instr
use Rattle.action_code.specs.Prelude.{bare, structure_of}
use Rattle.body_meaning.specs.declared.thing.Thing.{Thing}
use Rattle.body_meaning.specs.declared.thing.Thing.TheVariants as thing
use Rattle.body_meaning.specs.Prelude.{field_in, message_field, value_found, value_in}
use Rattle.code_meaning.specs.Prelude.{Held, are_of_kinds, code_step, innermost, is_of_kind, kinds_of, on_stack}
use Rattle.code_meaning.proofs.Gives.{ends_gives, found_gives}
use Rattle.code_meaning.proofs.OfKind.{bare_is, found_kinds}
use Rattle.body_code.specs.declared.left.Left.{Left}
use Rattle.body_code.specs.declared.left.Left.TheVariants as left
use Rattle.body_code.specs.Kinds.{code_kind}
use Rattle.body_code.specs.Prelude.{Piece, field_by, field_in as field_code, field_read, giving}
use Rattle.body_code.specs.Programs.{kinds_of as declared_kinds}
use Rattle.code_laws.specs.Holding.{IsKeptOf, IsLeft, IsMessageOf, OfLeft, left_on}
use Rattle.code_laws.specs.Setting.{IsSet, Setting, env_of, tables}
use Rattle.code_laws.proofs.FieldForms.{FieldFound, body_field, code_field, code_structure, field_is, through, typed_left}
use Rattle.code_laws.proofs.Good.{IsDone, held, value_done}
use Rattle.code_laws.proofs.Operators.{made_valued}
use Rattle.code_laws.proofs.Segments.{runs_made, runs_plain, runs_step}
use Rattle.code_laws.proofs.Structures.{structure_there}
use Rattle.code_laws.proofs.Typing.{code_kind_reference}
use Rattle.rules_symbols.proofs.WhatFits.{structure_kind}

-- as many values as kinds
pub same_count : (z : Setting) (ks : List Kind) (vs : List Value) → are_of_kinds (tables z) ks vs ≡ true → length vs ≡ length ks
same_count z [] [] is = refl
same_count z [] (v ∷ vs) is = absurd (cc is)
same_count z (k ∷ ks) [] is = absurd (cc is)
same_count z (k ∷ ks) (v ∷ vs) is = ap suc (same_count z ks vs (and_parts (is_of_kind (tables z) k v) (are_of_kinds (tables z) ks vs) is).1)

there_within : {X : Type 0} (xs : List X) (n : ℕ) → n < length xs → (x : X) × (slice_get xs n ≡ Some x)
there_within [] n lt = absurd (omega (arith, lt))
there_within (x ∷ xs) zero lt = (x, refl)
there_within (x ∷ xs) (suc n) lt = there_within xs n (omega (arith, lt))

module _ (z : Setting) (is : IsSet z) (h : Held) where
  abbrev H : List Value → Held
  H stack = held z h stack

  -- what is behind what has left this
  abbrev pub Next : Left → Meaning → Piece → (Thing → Acting Thing) → Type 0
  Next l meaning p f = IsLeft z meaning p.left × ((t : Thing) → OfLeft z h l t → IsDone z h (λ stack. left_on l (H stack) t) p (f t))

  -- one that may not be there
  open_done : (i : Instr) (o : Option Value) (k : Kind) → ((v : Value) → o ≡ Some v → is_of_kind (tables z) k v ≡ true)
      → ((stack : List Value) → code_step z.p z.c z.calls i (H stack) ≡ on_stack (H stack) (found own.Reference o >>= (λ v. ends (v ∷ stack)))) → IsDone z h H (giving k (i ∷ [])) (value_found o)
  unfolding value_found
  open_done i o k of step = value_done z h (made_valued z h (found own.Reference o) (record {
    stays = found_gives z.setup own.Reference o (by o of);
    does = λ stack. runs_made z.p z.c z.calls z.setup (λ v. v ∷ stack) (λ s. H s) (runs_step z.p z.c z.calls z.setup i (H stack) (found own.Reference o >>= (λ v. ends (v ∷ stack))) (step stack));
  }))
    where
      by : (o : Option Value) → ((v : Value) → o ≡ Some v → is_of_kind (tables z) k v ≡ true) → IfSome o (λ v. is_of_kind (tables z) k v ≡ true)
      by None of = tt
      by (Some v) of = of v refl

  module _ (n : ℕ) (text : List ℕ) (meaning : Meaning) (f : FieldFound z is h n text meaning) where
    kinds_there : kinds_of z.p n ≡ declared_kinds f.structure.fields
    kinds_there = ap (λ o. unwrap_or o []) (structure_there z is n f.structure f.there)

    kind_there : slice_get (declared_kinds f.structure.fields) f.number ≡ Some f.field.kind
    kind_there = slice_get-map (λ (x : FieldSymbol). x.kind) f.structure.fields f.number ∙ ap (option_map (λ (x : FieldSymbol). x.kind)) f.at

    -- a field of a message with this structure has its kind
    field_of_kind : (fields : List Value) → are_of_kinds (tables z) (kinds_of z.p n) fields ≡ true → (v : Value) → slice_get fields f.number ≡ Some v → is_of_kind (tables z) (bare f.field.kind) v ≡ true
    field_of_kind fields of v found =
        sym (bare_is (tables z) f.field.kind v)
        ∙ found_kinds (tables z) (declared_kinds f.structure.fields) fields f.number f.field.kind v (subst (λ ks. are_of_kinds (tables z) ks fields ≡ true) kinds_there of) kind_there found

    message_is : (fields : List Value) → message_field z.s n fields text ≡ slice_get fields f.number
    message_is fields = ap (option_and_then (slice_get fields)) (body_field z is h n text meaning f)

    piece_is : (get : ℕ → Instr) → field_by get (field_code z.s.symbols n text) ≡ giving (bare f.field.kind) (get f.number ∷ [])
    piece_is get = ap (field_by get) (code_field z is h n text meaning f)

    -- of the message that is open
    of_message : (get : ℕ → Instr) (fields : List Value) (t : Thing) → ((stack : List Value) → code_step z.p z.c z.calls (get f.number) (H stack) ≡ on_stack (H stack) (found own.Reference (slice_get fields f.number) >>= (λ v. ends (v ∷ stack))))
        → IsMessageOf z n fields t → IsDone z h H (field_by get (field_code z.s.symbols n text)) (field_in z.s text t)
    of_message get fields t step of =
        let P : Piece → Type 0 = λ p. IsDone z h H p (field_in z.s text t) in
        let Q : Thing → Type 0 = λ u. IsDone z h H (giving (bare f.field.kind) (get f.number ∷ [])) (field_in z.s text u) in
        let O : Option Value → Type 0 = λ o. IsDone z h H (giving (bare f.field.kind) (get f.number ∷ [])) (value_found o) in
        subst P (sym (piece_is get)) (subst Q (sym of.is) (subst O (sym (message_is fields)) (open_done (get f.number) (slice_get fields f.number) (bare f.field.kind) (field_of_kind fields of.of_kinds) step)))

    -- of one that is kept in locals
    kept_done : (first : ℕ) (fields : List Value) → are_of_kinds (tables z) (kinds_of z.p n) fields ≡ true → ((k : ℕ) (v : Value) → slice_get fields k ≡ Some v → argument h.locals (first + k) ≡ v)
        → IsDone z h H (giving (bare f.field.kind) (instr.Load (first + f.number) ∷ [])) (value_found (slice_get fields f.number))
    unfolding value_found found ◌>>=◌
    kept_done first fields of kept =
        let count : length fields ≡ length f.structure.fields = same_count z (kinds_of z.p n) fields of ∙ ap length kinds_there ∙ length-map f.structure.fields (λ (x : FieldSymbol). x.kind) in
        let v = there_within fields f.number (omega (arith, count, slice_get_within f.structure.fields f.number f.field f.at)) in
        rw v.1 (record {
          stays = ends_gives z.setup (record { value = v.0; is = refl; of_kind = field_of_kind fields of v.0 v.1 });
          does = λ stack.
              runs_plain z.p z.c z.calls z.setup (instr.Load (first + f.number)) (H stack) (argument h.locals (first + f.number) ∷ stack) (thing.Value v.0) (λ t. H (value_in t ∷ stack)) refl
              (ap (λ x. H (x ∷ stack)) (sym (kept f.number v.0 v.1)));
        })

    of_kept : (first : ℕ) (t : Thing) → IsKeptOf z n first h.locals t → IsDone z h H (field_by (λ k. instr.Load (first + k)) (field_code z.s.symbols n text)) (field_in z.s text t)
    of_kept first t of =
        let P : Piece → Type 0 = λ p. IsDone z h H p (field_in z.s text t) in
        let Q : Thing → Type 0 = λ u. IsDone z h H (giving (bare f.field.kind) (instr.Load (first + f.number) ∷ [])) (field_in z.s text u) in
        let O : Option Value → Type 0 = λ o. IsDone z h H (giving (bare f.field.kind) (instr.Load (first + f.number) ∷ [])) (value_found o) in
        subst P (sym (piece_is (λ k. instr.Load (first + k)))) (subst Q (sym of.is) (subst O (sym (message_is of.fields)) (kept_done first of.fields of.of_kinds of.kept)))

    left_by : (get : ℕ → Instr) → IsLeft z meaning (field_by get (field_code z.s.symbols n text)).left
    left_by get = let T : Piece → Type 0 = λ p. IsLeft z meaning p.left in subst T (sym (piece_is get)) (typed_left z is h n text meaning f)

    pub inner_next : Next (left.Inner n) meaning (field_read z.s (left.Inner n) text) (field_in z.s text)
    inner_next = (left_by instr.Infield, λ t of. of_message instr.Infield (innermost h.inner) t (λ stack. refl) of)

    pub made_next : Next (left.Made n) meaning (field_read z.s (left.Made n) text) (field_in z.s text)
    made_next = (left_by instr.Outfield, λ t of. of_message instr.Outfield (innermost h.made) t (λ stack. refl) of)

    pub kept_next : (first : ℕ) → Next (left.Kept n first) meaning (field_read z.s (left.Kept n first) text) (field_in z.s text)
    kept_next first = (left_by (λ k. instr.Load (first + k)), λ t of. of_kept first t of)

    -- through a reference
    pub line_next : (k : Kind) → is_reference k ≡ true → structure_of k ≡ Some n → Next (left.Value k) meaning (field_read z.s (left.Value k) text) (field_in z.s text)
    line_next k ref of =
        let G : Option ℕ → Piece = λ o. field_by instr.Get (option_and_then (λ structure. field_code z.s.symbols structure text) o) in
        let e : field_read z.s (left.Value k) text ≡ giving (bare f.field.kind) (instr.Get f.number ∷ []) = ap G of ∙ piece_is instr.Get in
        let T : Piece → Type 0 = λ p. Next (left.Value k) meaning p (field_in z.s text) in
        subst T (sym e) (
          typed_left z is h n text meaning f,
          λ t typed.
              let Q : Thing → Type 0 = λ u. IsDone z h (λ stack. H (value_in u ∷ stack)) (giving (bare f.field.kind) (instr.Get f.number ∷ [])) (field_in z.s text u) in
              subst Q (sym typed.is) (through z is h n text meaning f k ref of typed.value typed.of_kind),
        )

  -- All fields.

  -- the number of a structure whose references have this kind
  numbered : (scope : Scope) (s : Structure) (k : Kind) → value_kind z.trees z.m (structured scope s) ≡ Some k → (n : ℕ) × (structure_number z.trees (structured scope s) ≡ Some n) × (structure_of k ≡ Some n)
  numbered scope s k e = by (structure_number z.trees (structured scope s)) refl e
    where
      chosen : (a b : Bool) (n : ℕ) → cond a (Some (kind.Tbe n)) (cond b (Some (kind.Entry n)) None) ≡ Some k → structure_of k ≡ Some n
      chosen true b n e = let same : kind.Tbe n ≡ k = cc e in ap structure_of (sym same)
      chosen false true n e = let same : kind.Entry n ≡ k = cc e in ap structure_of (sym same)
      chosen false false n e = absurd (cc e)

      by : (o : Option ℕ) → structure_number z.trees (structured scope s) ≡ o → option_and_then (reference_kind z.m scope s) o ≡ Some k → (n : ℕ) × (structure_number z.trees (structured scope s) ≡ Some n) × (structure_of k ≡ Some n)
      by None is e = absurd (cc e)
      by (Some n) is e = (n, is, chosen _ _ n e)

  module _ (body : BodySort) (answer : Meaning) (bound : List Bound) where
    abbrev E : Environment
    E = env_of z body answer bound

    value_next : (t : KnownType) (l : Left) (text : List ℕ) (meaning : Meaning) → IsTyped z.trees z.m (value_meaning t) → IsLeft z (value_meaning t) l → field_typed z.trees z.m t text ≡ Some meaning → Next l meaning (field_read z.s l text) (field_in z.s text)
    value_next (structured scope s) l text meaning known typed found =
        let n = numbered scope s typed.kind typed.kind_is in
        let f = field_is z is h (structured scope s) n.0 text meaning known.1 n.1 found in
        let ref = code_kind_reference z.s.machine typed.kind (structure_kind z.trees z.m scope s typed.kind typed.kind_is) in
        let T : Left → Type 0 = λ y. Next y meaning (field_read z.s y text) (field_in z.s text) in
        subst T (sym typed.left_is) (line_next n.0 text meaning f (code_kind z.s.machine typed.kind) ref (code_structure z.s.machine typed.kind ∙ n.2))
    value_next (built_in Request) l text meaning known typed found = absurd (cc typed.kind_is)
    value_next (built_in b) l text meaning known typed found = absurd (cc found)
    value_next (enumerated scope name members) l text meaning known typed found = absurd (cc found)

    by_found : (l : Left) (text : List ℕ) (written : Written) (broken : List Broken) (n : Name) (o : Option Meaning) → ((meaning : Meaning) → o ≡ Some meaning → Next l meaning (field_read z.s l text) (field_in z.s text))
        → (found_field written broken n o).broken ≡ [] → Next l (found_field written broken n o).meaning (field_read z.s l text) (field_in z.s text)
    by_found l text written broken n None each none = absurd (told_last broken _ none)
    by_found l text written broken n (Some meaning) each none = each meaning refl

    outgoing_next : (t : KnownType) (l : Left) (text : List ℕ) (meaning : Meaning) → IsTyped z.trees z.m (outgoing t) → IsLeft z (outgoing t) l → field_typed z.trees z.m t text ≡ Some meaning → Next l meaning (field_read z.s l text) (field_in z.s text)
    outgoing_next t l text meaning known (inl made) found =
        let T : Left → Type 0 = λ y. Next y meaning (field_read z.s y text) (field_in z.s text) in
        subst T (sym made.left_is) (made_next made.number text meaning (field_is z is h t made.number text meaning known.1 made.structure found))
    outgoing_next t l text meaning known (inr (first, kept)) found =
        let T : Left → Type 0 = λ y. Next y meaning (field_read z.s y text) (field_in z.s text) in
        subst T (sym kept.left_is) (kept_next kept.number text meaning (field_is z is h t kept.number text meaning known.1 kept.structure found) first)

    field_by_meaning : (broken : List Broken) (name : Name) (l : Left) (on : Meaning) → IsTyped z.trees z.m on → IsLeft z on l → (field_type E broken name on).broken ≡ [] → Next l (field_type E broken name on).meaning (field_read z.s l name.text) (field_in z.s name.text)
    field_by_meaning broken name l (value_meaning t) known typed none =
        by_found l name.text a_field broken name (field_typed z.trees z.m t name.text) (λ meaning e. value_next t l name.text meaning known typed e) none
    field_by_meaning broken name l (incoming t) known typed none =
        by_found l name.text no_place broken name (field_typed z.trees z.m t name.text)
        (λ meaning e.
        let T : Left → Type 0 = λ y. Next y meaning (field_read z.s y name.text) (field_in z.s name.text) in
        subst T (sym typed.left_is) (inner_next typed.number name.text meaning (field_is z is h t typed.number name.text meaning known.1 typed.structure e))) none
    field_by_meaning broken name l (outgoing t) known typed none =
        by_found l name.text a_field broken name (field_typed z.trees z.m t name.text) (λ meaning e. outgoing_next t l name.text meaning known typed e) none
    field_by_meaning broken name l no_line known typed none = absurd (told_last broken _ none)
    field_by_meaning broken name l bare_line known typed none = absurd (told_last broken _ none)
    field_by_meaning broken name l (new_line made) known typed none = absurd known
    field_by_meaning broken name l (table b) known typed none = absurd (told_last broken _ none)
    field_by_meaning broken name l (in_port t) known typed none = absurd (told_last broken _ none)
    field_by_meaning broken name l (out_port t) known typed none = absurd (told_last broken _ none)
    field_by_meaning broken name l nothing known typed none = absurd (told_last broken _ none)
    field_by_meaning broken name l unknown known typed none = absurd known

    pub field_good : (on : Typed) (l : Left) (name : Name) → IsTyped z.trees z.m on.meaning → IsLeft z on.meaning l → (field_type E on.broken name on.meaning).broken ≡ []
        → Next l (field_type E on.broken name on.meaning).meaning (field_read z.s l name.text) (field_in z.s name.text)
    field_good on l name known typed none = field_by_meaning on.broken name l on.meaning known typed none
