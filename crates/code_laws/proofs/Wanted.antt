-- An expression where a value of a type is wanted: its code leaves a value of that type's kind. And casts.
use Rattle.std.proofs.Common.{◌≡◌, ◌∙◌, Bool, true, false, cond, Option, None, Some, List, [], ◌∷◌, refl, sym, ap, subst}
use Rattle.std.specs.Option.{option_map}
use Rattle.slicc_ast.specs.declared.tree.expression.Expr.{Expr}
use Rattle.slicc_ast.specs.declared.tree.name.TypeName.{TypeName}
use Rattle.ruby_value.specs.declared.kind.Kind.{Kind}
use Rattle.ruby_value.specs.declared.kind.Kind.TheVariants as kind
use Rattle.ruby_value.specs.declared.value.Value.TheVariants as plain_value
use Rattle.ruby_value.specs.Prelude.{is_reference}
use Rattle.ruby_symbols.specs.Prelude.{kind_named}
use Rattle.slicc_plan.specs.declared.broken.Rule.TheVariants.{WrongType}
use Rattle.slicc_plan.specs.Declarations.{within}
use Rattle.slicc_plan.specs.Environment.{BodySort, Bound, Environment, type_named, wrong_type_name}
use Rattle.slicc_plan.specs.ExpressionTypes.{cast_meaning, cast_to, given_at, span_of, typed}
use Rattle.slicc_plan.specs.Meanings.{Meaning, value, no_line, bare_line, new_line, incoming, outgoing, table, in_port, out_port, nothing, unknown, fits, one_of, unfit, value_of_type}
use Rattle.slicc_plan.specs.Prelude.{symbols_of}
use Rattle.slicc_plan.specs.TypeNumbers.{value_kind}
use Rattle.slicc_plan.specs.Types.{KnownType, type_in}
use Rattle.slicc_plan.proofs.Room.{left_none, right_none}
use Rattle.rules_symbols.specs.Fitting.{IsLike}
use Rattle.rules_symbols.specs.TypedMeaning.{IsTypedIn}
use Rattle.rules_symbols.proofs.StatementForms.{type_name_is}
use Rattle.rules_symbols.proofs.TypeKinds.{kind_is}
use Rattle.rules_symbols.proofs.TypedExpressions.{typed_is}
use Rattle.rules_symbols.proofs.TypedParts.{like_valued, type_in_of, typed_sure}
use Rattle.rules_symbols.proofs.Types.{kinds_agree}
use Rattle.rules_symbols.proofs.ValueKinds.{kind_there}
use Rattle.rules_symbols.proofs.WhatFits.{like_fits, line_kinds, untold}
use Rattle.acts.specs.Prelude.{Acting, ends}
use Rattle.body_meaning.specs.declared.frame.Frame.{Frame}
use Rattle.body_meaning.specs.declared.thing.Thing.{Thing}
use Rattle.body_meaning.specs.Prelude.{no_line as nothing_given, value as value_of}
use Rattle.code_meaning.specs.Prelude.{Held}
use Rattle.body_code.specs.declared.left.Left.TheVariants as left
use Rattle.body_code.specs.declared.left.NameAt.{NameAt}
use Rattle.body_code.specs.Prelude.{Piece, code_kind, kind_in, kind_written, null_kind, piece}
use Rattle.code_laws.specs.Holding.{Holds, IsLeft, is_ood}
use Rattle.code_laws.specs.Setting.{IsSet, Setting, env_of}
use Rattle.code_laws.specs.Whole.{IsWhole}
use Rattle.code_laws.proofs.Forms.{Good}
use Rattle.code_laws.proofs.Good.{IsGood, IsValued, as_value, held, value_given}
use Rattle.code_laws.proofs.NoLine.{ood_is}
use Rattle.code_laws.proofs.Operands.{used_where}
use Rattle.code_laws.proofs.Plain.{nothing_is, null_done}
use Rattle.code_laws.proofs.Typing.{code_kind_reference}

null_of : (k : Kind) → is_reference k ≡ true → null_kind (Some k) ≡ k
null_of (kind.Entry n) is = refl
null_of (kind.Tbe n) is = refl
null_of k is = absurd (cc is)

null_is_reference : (expected : Option Kind) → is_reference (null_kind expected) ≡ true
null_is_reference None = refl
null_is_reference (Some (kind.Entry n)) = refl
null_is_reference (Some (kind.Tbe n)) = refl
null_is_reference (Some kind.Bool) = refl
null_is_reference (Some kind.Int) = refl
null_is_reference (Some (kind.Enum a m)) = refl
null_is_reference (Some kind.Addr) = refl
null_is_reference (Some kind.Machine) = refl
null_is_reference (Some kind.Dest) = refl
null_is_reference (Some kind.Block) = refl

module _ (z : Setting) (is : IsSet z) (body : BodySort) (answer : Meaning) (bound : List Bound) (names : List NameAt) (frame : Frame) (h : Held)
    (typed_in : IsTypedIn z.s.number (env_of z body answer bound)) (holds : Holds z bound names frame h) where
  abbrev E : Environment
  E = env_of z body answer bound

  abbrev P : Option Kind → Expr → Piece
  P expected e = piece z.s z.numbers names expected e

  abbrev V : Expr → Acting Thing
  V e = value_of z.s z.functions frame e

  -- where a value of this type is wanted, one of its kind
  abbrev pub ValuedAs : Kind → Option Kind → Expr → Type 0
  ValuedAs k expected e = IsValued z h (held z h) (code_kind z.s.machine k) (P expected e).code (V e)

  -- what fits is a value of a type with the same kind, or `OOD`
  pub record IsFitting (t : KnownType) (k : Kind) (e : Expr) : Type 0 where
    pub value_left : is_ood (typed E e).meaning ≡ false → (expected : Option Kind) → IsGood z h (typed E e).meaning (P expected e) (V e) → (P expected e).left ≡ left.Value (code_kind z.s.machine k)
    pub line_kind : is_ood (typed E e).meaning ≡ true → is_reference k ≡ true

  fitting_by : (t : KnownType) (k : Kind) (e : Expr) → value_kind z.trees z.m t ≡ Some k → (meaning : Meaning) → (typed E e).meaning ≡ meaning → IsLike z.m t meaning → IsFitting t k e
  fitting_by t k e kind_of_t (value u) same like = record {
    value_left = λ differs expected good.
        let L : Meaning → Type 0 = λ m. IsLeft z m (P expected e).left in
        let l = subst L same good.left_is in
        let kinds : l.kind ≡ k = cc (sym l.kind_is ∙ sym (kinds_agree z.trees z.m t u like) ∙ kind_of_t) in
        l.left_is ∙ ap (λ x. left.Value (code_kind z.s.machine x)) kinds;
    line_kind = λ ood. absurd (cc (sym ood ∙ ap is_ood same));
  }
  fitting_by t k e kind_of_t no_line same like = record {
    value_left = λ differs expected good. absurd (cc (sym differs ∙ ap is_ood same));
    line_kind = λ ood. line_kinds z.trees z.m t k like kind_of_t;
  }
  fitting_by t k e kind_of_t bare_line same like = absurd like
  fitting_by t k e kind_of_t (new_line made) same like = absurd like
  fitting_by t k e kind_of_t (incoming u) same like = absurd like
  fitting_by t k e kind_of_t (outgoing u) same like = absurd like
  fitting_by t k e kind_of_t (table b) same like = absurd like
  fitting_by t k e kind_of_t (in_port u) same like = absurd like
  fitting_by t k e kind_of_t (out_port u) same like = absurd like
  fitting_by t k e kind_of_t nothing same like = absurd like
  fitting_by t k e kind_of_t unknown same like = absurd like

  fitting_is : (t : KnownType) (k : Kind) (e : Expr) → value_kind z.trees z.m t ≡ Some k → (typed E e).broken ≡ [] → fits z.m (one_of (t ∷ [])) (typed E e).meaning ≡ true → IsFitting t k e
  fitting_is t k e kind_of_t none fit =
      fitting_by t k e kind_of_t (typed E e).meaning refl (like_fits z.m t (typed E e).meaning fit (typed_sure z.trees z.m (typed E e).meaning (typed_is z.s.number E typed_in e none)))

  good_where : (t : KnownType) (e : Expr) → Good z body answer bound names frame h e → (typed E e).broken ≡ [] → fits z.m (one_of (t ∷ [])) (typed E e).meaning ≡ true → (expected : Option Kind) → IsGood z h (typed E e).meaning (P expected e) (V e)
  good_where t e good none fit expected = good none (used_where z.m (one_of (t ∷ [])) (typed E e).meaning refl refl fit) expected

  ood_valued : (k : Kind) (e : Expr) → IsWhole z e → is_ood (typed E e).meaning ≡ true → is_reference k ≡ true → (expected : Option Kind) → ValuedAs k expected e
  ood_valued k e whole ood ref expected =
      let o = ood_is z body answer bound names frame h holds e whole ood in
      let pushed = as_value z h (null_kind expected) refl (null_done z h (null_kind expected) (null_is_reference expected)) in
      let T : Acting Thing → Type 0 = λ t. IsValued z h (held z h) (code_kind z.s.machine k) (P expected e).code t in
      let U : Piece → Type 0 = λ p. IsValued z h (held z h) (code_kind z.s.machine k) p.code (ends nothing_given) in
      subst T (sym o.0)
      (subst U (sym (o.1 expected))
      (record {
        stays = value_given z h (code_kind z.s.machine k) (plain_value.Entry None) (nothing_is z h (code_kind z.s.machine k) (code_kind_reference z.s.machine k ref));
        does = pushed.does;
      }))

  pub wanted_valued : (t : KnownType) (k : Kind) → value_kind z.trees z.m t ≡ Some k → (e : Expr) → IsWhole z e → Good z body answer bound names frame h e → (typed E e).broken ≡ [] → fits z.m (one_of (t ∷ [])) (typed E e).meaning ≡ true
      → (expected : Option Kind) → ValuedAs k expected e
  wanted_valued t k kind_of_t e whole good none fit expected = by (is_ood (typed E e).meaning) refl
    where
      by : (v : Bool) → is_ood (typed E e).meaning ≡ v → ValuedAs k expected e
      by true ood = let f = fitting_is t k e kind_of_t none fit in ood_valued k e whole ood (f.line_kind ood) expected
      by false differs =
          let f = fitting_is t k e kind_of_t none fit in
          let g = good_where t e good none fit expected in
          as_value z h (code_kind z.s.machine k) (f.value_left differs expected g) g.done

  -- Casts.

  written_is : (target : TypeName) (t : KnownType) (k : Kind) → type_in z.trees (within z.m) target.text ≡ Some t → value_kind z.trees z.m t ≡ Some k → kind_written z.s target.text ≡ Some (code_kind z.s.machine k)
  written_is target t k named kind_of_t =
      let made = kind_is z.trees is.accepted z.s.number z.m is.machine_there target.text t k named kind_of_t in
      ap (λ ss. option_map (kind_in z.s) (kind_named ss z.s.number z.s.machine target.text)) is.symbols
      ∙ ap (λ m. option_map (kind_in z.s) (kind_named (symbols_of z.trees) z.s.number m target.text)) is.machine ∙ ap (option_map (kind_in z.s)) made

  cast_left : (target : TypeName) (t : KnownType) (k : Kind) (e : Expr) → IsWhole z e → type_in z.trees (within z.m) target.text ≡ Some t → value_kind z.trees z.m t ≡ Some k → IsFitting t k e
      → IsGood z h (typed E e).meaning (P (kind_written z.s target.text) e) (V e) → (v : Bool) → is_ood (typed E e).meaning ≡ v → (P (kind_written z.s target.text) e).left ≡ left.Value (code_kind z.s.machine k)
  cast_left target t k e whole named kind_of_t f g false differs = f.value_left differs (kind_written z.s target.text) g
  cast_left target t k e whole named kind_of_t f g true ood =
      let o = ood_is z body answer bound names frame h holds e whole ood in
      ap (λ (p : Piece). p.left) (o.1 (kind_written z.s target.text)) ∙ ap (λ x. left.Value (null_kind x)) (written_is target t k named kind_of_t)
      ∙ ap left.Value (null_of (code_kind z.s.machine k) (code_kind_reference z.s.machine k (f.line_kind ood)))

  abbrev IsCast : TypeName → Expr → Meaning → Type 0
  IsCast target e meaning = IsGood z h meaning (P (kind_written z.s target.text) e) (V e)

  pub cast_good : (target : TypeName) (e : Expr) → IsWhole z e → Good z body answer bound names frame h e → (cast_to E target (given_at (span_of e) (typed E e)) (type_named E target.text)).broken ≡ []
      → IsCast target e (cast_to E target (given_at (span_of e) (typed E e)) (type_named E target.text)).meaning
  cast_good target e whole good none = by (type_named E target.text) refl none
    where
      by : (o : Option KnownType) → type_named E target.text ≡ o → (cast_to E target (given_at (span_of e) (typed E e)) o).broken ≡ [] → IsCast target e (cast_to E target (given_at (span_of e) (typed E e)) o).meaning
      by None named told =
          let known = type_name_is E target.text target.span (left_none (wrong_type_name E target.text target.span) (typed E e).broken told) in
          let wrong : None ≡ Some known.1.0 = sym named ∙ known.1.1 in absurd (cc wrong)
      by (Some t) named told =
          let unbroken = left_none (typed E e).broken (unfit z.m (one_of (t ∷ [])) (span_of e) (typed E e).meaning) told in
          let fit = untold (fits z.m (one_of (t ∷ [])) (typed E e).meaning) WrongType (span_of e) (right_none (typed E e).broken (unfit z.m (one_of (t ∷ [])) (span_of e) (typed E e).meaning) told) in
          let known = typed_is z.s.number E typed_in e unbroken in
          let like = like_fits z.m t (typed E e).meaning fit (typed_sure z.trees z.m (typed E e).meaning known) in
          let valued = like_valued z.trees z.m t (typed E e).meaning known like in
          let found = type_in_of E target.text t named in
          let k = kind_there z.trees z.s.number z.m is.machine_there target.text t found valued in
          let g = good_where t e good unbroken fit (kind_written z.s target.text) in
          let meaning : cast_meaning z.m t (typed E e).meaning ≡ value t = ap (λ b. cond b (value_of_type z.m (Some t)) unknown) fit ∙ ap (λ b. cond b (value t) unknown) valued in
          subst (λ m. IsCast target e m) (sym meaning)
          (record {
            left_is = record { kind = k.0; kind_is = k.1; left_is = cast_left target t k.0 e whole found k.1 (fitting_is t k.0 e k.1 unbroken fit) g (is_ood (typed E e).meaning) refl };
            done = g.done;
          })
