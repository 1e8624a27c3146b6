-- The arms of the emission of expressions: what is written for an expression that has another one in a box, or arguments, where the code
-- of those is written.
use Rattle.std.proofs.Common.{◌≡◌, ◌∙◌, ◌⊎◌, ℕ, ℤ, List, [], ◌∷◌, Option, None, Result, Ok, inl, inr, refl, sym, ap, subst, length}
use Rattle.slicc_ast.specs.declared.tree.span.Span.{Span}
use Rattle.slicc_ast.specs.declared.tree.name.Name.{Name}
use Rattle.slicc_ast.specs.declared.tree.name.TypeName.{TypeName}
use Rattle.slicc_ast.specs.declared.tree.expression.Args.{Args}
use Rattle.slicc_ast.specs.declared.tree.expression.Suffix.{Suffix, Method}
use Rattle.slicc_ast.specs.declared.tree.expression.Expr.{Expr, Number, True, False, Nothing, Variable, Member, New}
use Rattle.slicc_ast.specs.declared.tree.expression.Operand.{Operand}
use Rattle.slicc_ast.specs.declared.tree.expression.Operator.{Operator}
use Rattle.slicc_ast.specs.declared.tree.expression.Operator.TheVariants.{Or, And, Equal, Unequal, Less, Greater, LessOrEqual, GreaterOrEqual, Plus, Minus, Times}
use Rattle.slicc_ast.specs.declared.tree.expression.Expr.TheViews as views
use Rattle.slicc_ast.proofs.Boxes.{Not_is, Negate_is, IsValid_is, IsInvalid_is}
use Rattle.ruby_value.specs.declared.kind.Kind.{Kind}
use Rattle.ruby_base.specs.declared.memory.NoMemory.{NoMemory}
use Rattle.action_code.specs.declared.instr.Instr.{Instr}
use Rattle.body_meaning.specs.Prelude.{Reading}
use Rattle.body_code.specs.declared.left.Left.{Left}
use Rattle.body_code.specs.declared.left.NameAt.{NameAt}
use Rattle.body_code.specs.declared.numbers.BodyNumbers.{BodyNumbers}
use Rattle.body_code.specs.Prelude.{Piece, Segment, after, arguments_by, called_on, entry_kind, kind_written, method_call, numbered_call, operation_by, piece, suffixed, suffixed_by, then}
use Rattle.emit_expressions.specs.Prelude.{Adds, Writes}
use Rattle.emit_expressions.specs.declared.operators.Unary.{Unary}
use Rattle.emit_expressions.specs.declared.operators.Unary.TheVariants.{Not, Negate, IsValid, IsInvalid}
use Rattle.emit_expressions.specs.Parts.{called, leaf, of_operand, operands_by, strict, unary_of}
use Rattle.emit_expressions.proofs.Adding.{writes_after, writes_then}
use Rattle.emit_expressions.proofs.Forms.{piece_of_Call, piece_of_Cast, piece_of_Group, piece_of_Operation, piece_of_Postfix, suffixed_of_Method}

module _ (s : Reading) (n : BodyNumbers) (names : List NameAt) (expected : Option Kind) where
  unary_is : (unary known : Unary) (e inner got made : Expr) → e ≡ made → of_operand s n names known inner ≡ piece s n names expected made → unary ≡ known → got ≡ inner
      → of_operand s n names unary got ≡ piece s n names expected e
  unary_is unary known e inner got made is form same here =
      ap (λ (u : Unary). of_operand s n names u got) same ∙ ap (λ (x : Expr). of_operand s n names known x) here ∙ form ∙ sym (ap (piece s n names expected) is)

  pub operand_is : (e inner got : Expr) (unary : Unary)
      → ((span : Span) × (e ≡ views.Not inner span)) ⊎ (((span : Span) × (e ≡ views.Negate inner span)) ⊎ (((span : Span) × (e ≡ views.IsValid inner span)) ⊎ ((span : Span) × (e ≡ views.IsInvalid inner span))))
      → unary ≡ unary_of e → got ≡ inner → of_operand s n names unary got ≡ piece s n names expected e
  operand_is e inner got unary (inl (span, is)) made =
      let e_is = is ∙ Not_is inner span in unary_is unary Not e inner got _ e_is refl (made ∙ ap unary_of e_is)
  operand_is e inner got unary (inr (inl (span, is))) made =
      let e_is = is ∙ Negate_is inner span in unary_is unary Negate e inner got _ e_is refl (made ∙ ap unary_of e_is)
  operand_is e inner got unary (inr (inr (inl (span, is)))) made =
      let e_is = is ∙ IsValid_is inner span in unary_is unary IsValid e inner got _ e_is refl (made ∙ ap unary_of e_is)
  operand_is e inner got unary (inr (inr (inr (span, is)))) made =
      let e_is = is ∙ IsInvalid_is inner span in unary_is unary IsInvalid e inner got _ e_is refl (made ∙ ap unary_of e_is)

  -- what has no other expression in it
  same_leaf : (e x : Expr) → e ≡ x → leaf s names expected x ≡ piece s n names expected x → leaf s names expected e ≡ piece s n names expected e
  same_leaf e x is there = ap (leaf s names expected) is ∙ there ∙ sym (ap (piece s n names expected) is)

  pub leaf_is : (e : Expr)
      → ((k : ℤ) × (span : Span) × (e ≡ Number k span)) ⊎ (((span : Span) × (e ≡ True span)) ⊎ (((span : Span) × (e ≡ False span)) ⊎ (((span : Span) × (e ≡ Nothing span)) ⊎ (((name : Name) × (e ≡ Variable name))
      ⊎ (((owner : Name) × (member : Name) × (span : Span) × (e ≡ Member owner member span)) ⊎ ((made : Name) × (span : Span) × (e ≡ New made span)))))))
      → leaf s names expected e ≡ piece s n names expected e
  leaf_is e (inl (k, span, is)) = same_leaf e (Number k span) is refl
  leaf_is e (inr (inl (span, is))) = same_leaf e (True span) is refl
  leaf_is e (inr (inr (inl (span, is)))) = same_leaf e (False span) is refl
  leaf_is e (inr (inr (inr (inl (span, is))))) = same_leaf e (Nothing span) is refl
  leaf_is e (inr (inr (inr (inr (inl (name, is)))))) = same_leaf e (Variable name) is refl
  leaf_is e (inr (inr (inr (inr (inr (inl (owner, member, span, is))))))) = same_leaf e (Member owner member span) is refl
  leaf_is e (inr (inr (inr (inr (inr (inr (made, span, is))))))) = same_leaf e (New made span) is refl

  -- another one in a box, as it is
  pub cast_is : (e inner got : Expr) (target : TypeName) (mode : Option (List ℕ)) (span : Span) (text : List ℕ) (k : Option Kind) → e ≡ views.Cast target mode inner span → got ≡ inner → text ≡ target.text → k ≡ kind_written s text
      → piece s n names k got ≡ piece s n names expected e
  cast_is e inner got target mode span text k is same named kind =
      ap (λ (x : Option Kind). piece s n names x got) (kind ∙ ap (kind_written s) named) ∙ ap (piece s n names (kind_written s target.text)) same
      ∙ sym (ap (piece s n names expected) is ∙ piece_of_Cast s n names expected target mode inner span)

  pub group_is : (e inner got : Expr) (span : Span) → e ≡ views.Group inner span → got ≡ inner → piece s n names expected got ≡ piece s n names expected e
  group_is e inner got span is same =
      ap (piece s n names expected) same ∙ sym (ap (piece s n names expected) is ∙ piece_of_Group s n names expected inner span)

  pub call_is : (e : Expr) (name : Name) (given : Args) (span : Span) (held : List Expr) (text : List ℕ) → e ≡ views.Call name given span → held ≡ given.items → text ≡ name.text
      → called s n names text held ≡ piece s n names expected e
  call_is e name given span held text is all same =
      ap (called s n names text) all ∙ ap (λ (x : List ℕ). called s n names x given.items) same
      ∙ sym (ap (piece s n names expected) is ∙ piece_of_Call s n names expected name given span)

  -- others behind another one in a box
  pub operation_writes : (e inner got : Expr) (others held : List Operand) (span : Span) (l : Left) (result : Result Left NoMemory) (old mid new : List Instr)
      → e ≡ views.Operation inner others span → got ≡ inner → held ≡ others
      → Writes (piece s n names None got) (Ok l) old mid → Writes (operands_by s n names l held) result mid new → Writes (piece s n names expected e) result old new
  operation_writes e inner got others held span l result old mid new is same all first rest =
      subst (λ (p : Piece). Writes p result old new)
      (sym (ap (piece s n names expected) is ∙ piece_of_Operation s n names expected inner others span
      ∙ ap (λ (x : Expr). then (piece s n names None x) (λ m. operands_by s n names m others)) (sym same)
      ∙ ap (λ (xs : List Operand). then (piece s n names None got) (λ m. operands_by s n names m xs)) (sym all)))
      (writes_then (piece s n names None got) (λ m. operands_by s n names m held) l result old mid new first rest)

  pub postfix_writes : (e inner got : Expr) (suffixes held : List Suffix) (span : Span) (l : Left) (result : Result Left NoMemory) (old mid new : List Instr)
      → e ≡ views.Postfix inner suffixes span → got ≡ inner → held ≡ suffixes
      → Writes (piece s n names None got) (Ok l) old mid → Writes (suffixed_by s n names l held) result mid new → Writes (piece s n names expected e) result old new
  postfix_writes e inner got suffixes held span l result old mid new is same all first rest =
      subst (λ (p : Piece). Writes p result old new)
      (sym (ap (piece s n names expected) is ∙ piece_of_Postfix s n names expected inner suffixes span
      ∙ ap (λ (x : Expr). then (piece s n names None x) (λ m. suffixed_by s n names m suffixes)) (sym same)
      ∙ ap (λ (xs : List Suffix). then (piece s n names None got) (λ m. suffixed_by s n names m xs)) (sym all)))
      (writes_then (piece s n names None got) (λ m. suffixed_by s n names m held) l result old mid new first rest)

module _ (s : Reading) (n : BodyNumbers) (names : List NameAt) where
  pub method_writes : (l : Left) (suffix : Suffix) (name : Name) (given : Args) (span : Span) (held : List Expr) (text : List ℕ) (k : Kind) (count : ℕ) (result : Result Left NoMemory) (old mid new : List Instr)
      → suffix ≡ Method name given span → held ≡ given.items → text ≡ name.text → k ≡ entry_kind s → count ≡ length held
      → Adds (arguments_by s n names (k ∷ []) held) old mid → Writes (numbered_call s (called_on s l text count)) result mid new
      → Writes (suffixed s n names l suffix) result old new
  method_writes l suffix name given span held text k count result old mid new is all same kind many first rest =
      subst (λ (p : Piece). Writes p result old new)
      (sym (ap (suffixed s n names l) is ∙ suffixed_of_Method s n names l name given span
      ∙ ap (λ (xs : List Expr). method_call s l name.text (length xs) (arguments_by s n names (entry_kind s ∷ []) xs)) (sym all)
      ∙ ap (λ (x : List ℕ). method_call s l x (length held) (arguments_by s n names (entry_kind s ∷ []) held)) (sym same)
      ∙ ap (λ (x : Kind). method_call s l text (length held) (arguments_by s n names (x ∷ []) held)) (sym kind)
      ∙ ap (λ (m : ℕ). method_call s l text m (arguments_by s n names (k ∷ []) held)) (sym many)))
      (writes_after (arguments_by s n names (k ∷ []) held) (numbered_call s (called_on s l text count)) result old mid new first rest)

-- an operator that isn't lazy comes after both sides
pub strict_is : (operator : Operator) (right : Segment) → (operator ≡ Or → ⊥) → (operator ≡ And → ⊥) → after right (strict operator) ≡ operation_by operator right
strict_is Or right or and = absurd (or refl)
strict_is And right or and = absurd (and refl)
strict_is Equal right or and = refl
strict_is Unequal right or and = refl
strict_is Less right or and = refl
strict_is Greater right or and = refl
strict_is LessOrEqual right or and = refl
strict_is GreaterOrEqual right or and = refl
strict_is Plus right or and = refl
strict_is Minus right or and = refl
strict_is Times right or and = refl
