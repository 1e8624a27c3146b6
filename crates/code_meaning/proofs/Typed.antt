-- What a run has of its own has the kinds that are known of it at a place of its body; and so it has those of each shape like that.
use Rattle.std.proofs.Common.{◌≡◌, ℕ, ◌==◌, ◌&&◌, true, Option, None, Some, List, [], ◌∷◌, drop, map, slice_get, slice_set, unwrap_or, bytes_eq, refl, sym, ap, subst, ◌∙◌}
use Rattle.std.proofs.lemmas.Bool.{and_from, and_parts, eqb-true}
use Rattle.std.specs.Option.{option_and_then, option_map}
use Rattle.ruby_value.specs.declared.kind.Kind.{Kind}
use Rattle.ruby_value.specs.declared.value.Value.{Value}
use Rattle.ruby_value.specs.Prelude.{default_value, same_kinds}
use Rattle.action_code.specs.declared.instr.Code.{Code}
use Rattle.action_code.specs.declared.program.Program.{Program}
use Rattle.action_code.specs.declared.program.TableDecl.{TableDecl}
use Rattle.action_code.specs.declared.shape.Shape.{Shape}
use Rattle.action_code.specs.Prelude.{bare, empty_shape, field_of, machine_of, same_shape, tables_of}
use Rattle.code_meaning.specs.Prelude.{Held, IsTyped, are_messages, are_of_kinds, entered, innermost, is_of_kind, kinds_of}
use Rattle.code_meaning.proofs.OfKind.{append_kinds, bare_is, defaults_are, found_kinds, same_are, set_kinds}

same_numbers : (xs ys : List ℕ) → bytes_eq xs ys ≡ true → xs ≡ ys
same_numbers [] [] h = refl
same_numbers [] (y ∷ ys) h = absurd (cc h)
same_numbers (x ∷ xs) [] h = absurd (cc h)
same_numbers (x ∷ xs) (y ∷ ys) h =
    let parts = and_parts (x == y) (bytes_eq xs ys) h in
    ap (λ z. z ∷ xs) (eqb-true x y parts.0) ∙ ap (λ zs. y ∷ zs) (same_numbers xs ys parts.1)

-- as a body begins
pub begins_typed : (p : Program) (c : Code) (arguments : List Value) → are_of_kinds (tables_of (machine_of p c)) c.arguments arguments ≡ true → IsTyped p c empty_shape (entered c arguments)
begins_typed p c arguments fit = record {
  stack = refl;
  locals = append_kinds (tables_of (machine_of p c)) c.arguments c.locals arguments (map default_value c.locals) fit (defaults_are (tables_of (machine_of p c)) c.locals);
  inner = refl;
  made = refl;
}

-- shapes that are the same have the same values
pub same_typed : (p : Program) (c : Code) (s t : Shape) (h : Held) → same_shape s t ≡ true → IsTyped p c t h → IsTyped p c s h
same_typed p c s t h same typed =
    let tables = tables_of (machine_of p c) in
    let both = and_parts (same_kinds s.stack t.stack && bytes_eq s.inner t.inner) (bytes_eq s.made t.made) same in
    let first = and_parts (same_kinds s.stack t.stack) (bytes_eq s.inner t.inner) both.0 in
    record {
      stack = same_are tables s.stack t.stack h.stack first.0 ∙ typed.stack;
      locals = typed.locals;
      inner = subst (λ ns. are_messages p tables ns h.inner ≡ true) (sym (same_numbers s.inner t.inner first.1)) typed.inner;
      made = subst (λ ns. are_messages p tables ns h.made ≡ true) (sym (same_numbers s.made t.made both.1)) typed.made;
    }

-- Open messages.

module _ (p : Program) (tables : List TableDecl) where
  pub drop_messages : (types : List ℕ) (messages : List (List Value)) → are_messages p tables types messages ≡ true → are_messages p tables (drop 1 types) (drop 1 messages) ≡ true
  drop_messages [] [] h = refl
  drop_messages [] (m ∷ messages) h = absurd (cc h)
  drop_messages (n ∷ types) [] h = absurd (cc h)
  drop_messages (n ∷ types) (m ∷ messages) h = (and_parts (are_of_kinds tables (kinds_of p n) m) (are_messages p tables types messages) h).1

  pub more_messages : (n : ℕ) (types : List ℕ) (kinds : List Kind) (m : List Value) (messages : List (List Value)) → kinds_of p n ≡ kinds → are_of_kinds tables kinds m ≡ true
      → are_messages p tables types messages ≡ true → are_messages p tables (n ∷ types) (m ∷ messages) ≡ true
  more_messages n types kinds m messages found is h =
      and_from (are_of_kinds tables (kinds_of p n) m) (are_messages p tables types messages) (ap (λ ks. are_of_kinds tables ks m) found ∙ is) h

  -- a field's kind, as verification has it, is that of the structure's field
  pub record FieldOf (n : Option ℕ) (field : ℕ) (k : Kind) : Type 0 where
    pub structure : ℕ
    pub kinds : List Kind
    pub declared : Kind
    pub is_structure : n ≡ Some structure
    pub has_kinds : slice_get p.structures structure ≡ Some kinds
    pub has_field : slice_get kinds field ≡ Some declared
    pub is_kind : bare declared ≡ k

  field_in : (n field : ℕ) (k : Kind) (o : Option (List Kind)) → slice_get p.structures n ≡ o → (q : Option Kind) → option_and_then (λ (fields : List Kind). slice_get fields field) o ≡ q → option_map bare q ≡ Some k → FieldOf (Some n) field k
  field_in n field k None is q has found = absurd (let e : None ≡ q = has in let f : option_map bare None ≡ Some k = subst (λ x. option_map bare x ≡ Some k) (sym e) found in cc f)
  field_in n field k (Some kinds) is None has found = absurd (cc found)
  field_in n field k (Some kinds) is (Some declared) has found = record {
    structure = n;
    kinds = kinds;
    declared = declared;
    is_structure = refl;
    has_kinds = is;
    has_field = has;
    is_kind = cc found;
  }

  pub field_found : (n : Option ℕ) (field : ℕ) (k : Kind) → field_of p n field ≡ Some k → FieldOf n field k
  field_found None field k found = absurd (cc found)
  field_found (Some n) field k found = field_in n field k (slice_get p.structures n) refl (option_and_then (λ (fields : List Kind). slice_get fields field) (slice_get p.structures n)) refl found

  -- a message has the fields of its type's structure
  pub kinds_there : (n structure : ℕ) (kinds : List Kind) → n ≡ structure → slice_get p.structures structure ≡ Some kinds → kinds_of p n ≡ kinds
  kinds_there n structure kinds is found = ap (kinds_of p) is ∙ ap (λ (o : Option (List Kind)). unwrap_or o []) found

  -- what is read of the innermost message
  pub message_read : (types : List ℕ) (messages : List (List Value)) (field : ℕ) (k : Kind) (v : Value) → are_messages p tables types messages ≡ true → field_of p (slice_get types 0) field ≡ Some k
      → slice_get (innermost messages) field ≡ Some v → is_of_kind tables k v ≡ true
  message_read [] messages field k v h found is = absurd (cc found)
  message_read (n ∷ types) [] field k v h found is = absurd (cc h)
  message_read (n ∷ types) (m ∷ messages) field k v h found is =
      let f = field_found (Some n) field k found in
      let number : n ≡ f.structure = cc f.is_structure in
      let here : kinds_of p n ≡ f.kinds = kinds_there n f.structure f.kinds number f.has_kinds in
      let fits : are_of_kinds tables f.kinds m ≡ true = subst (λ ks. are_of_kinds tables ks m ≡ true) here (and_parts (are_of_kinds tables (kinds_of p n) m) (are_messages p tables types messages) h).0 in
      let of : is_of_kind tables f.declared v ≡ true = found_kinds tables f.kinds m field f.declared v fits f.has_field is in
      subst (λ x. is_of_kind tables x v ≡ true) f.is_kind (sym (bare_is tables f.declared v) ∙ of)

  -- and what is written of it
  pub message_written : (types : List ℕ) (messages : List (List Value)) (field : ℕ) (k : Kind) (v : Value) → are_messages p tables types messages ≡ true → field_of p (slice_get types 0) field ≡ Some k
      → is_of_kind tables k v ≡ true → are_messages p tables types (slice_set (innermost messages) field v ∷ drop 1 messages) ≡ true
  message_written [] messages field k v h found is = absurd (cc found)
  message_written (n ∷ types) [] field k v h found is = absurd (cc h)
  message_written (n ∷ types) (m ∷ messages) field k v h found is =
      let f = field_found (Some n) field k found in
      let number : n ≡ f.structure = cc f.is_structure in
      let here : kinds_of p n ≡ f.kinds = kinds_there n f.structure f.kinds number f.has_kinds in
      let parts = and_parts (are_of_kinds tables (kinds_of p n) m) (are_messages p tables types messages) h in
      let fits : are_of_kinds tables f.kinds m ≡ true = subst (λ ks. are_of_kinds tables ks m ≡ true) here parts.0 in
      let of : is_of_kind tables f.declared v ≡ true = bare_is tables f.declared v ∙ subst (λ x. is_of_kind tables x v ≡ true) (sym f.is_kind) is in
      more_messages n types f.kinds (slice_set m field v) messages here (set_kinds tables f.kinds m field f.declared v fits f.has_field of) parts.1
