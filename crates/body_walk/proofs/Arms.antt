-- The arms of the walk over expressions: what an expression does that has another one in a box, or arguments, where those have done theirs.
use Rattle.std.proofs.Common.{◌≡◌, ◌∙◌, ◌⊎◌, ◌++◌, ◌∷◌, [], ℕ, ℤ, List, Option, Result, Ok, Err, inl, inr, refl, sym, ap, subst}
use Rattle.slicc_ast.specs.declared.tree.span.Span.{Span}
use Rattle.slicc_ast.specs.declared.tree.name.Name.{Name}
use Rattle.slicc_ast.specs.declared.tree.name.TypeName.{TypeName}
use Rattle.slicc_ast.specs.declared.tree.expression.Args.{Args}
use Rattle.slicc_ast.specs.declared.tree.expression.Expr.{Expr, Number, True, False, Nothing, Variable, Member, New}
use Rattle.slicc_ast.specs.declared.tree.expression.Operand.{Operand}
use Rattle.slicc_ast.specs.declared.tree.expression.Suffix.{Suffix, Method}
use Rattle.slicc_ast.specs.declared.tree.expression.Expr.TheViews as views
use Rattle.slicc_ast.proofs.Boxes.{Not_is, Negate_is, IsValid_is, IsInvalid_is}
use Rattle.ruby_value.specs.declared.value.Value.{Value}
use Rattle.ctl_face.specs.declared.trouble.Trouble.{Trouble}
use Rattle.ctl_face.specs.Prelude.{LocalView}
use Rattle.acts.specs.Prelude.{Acting, ends, given, ◌>>=◌, DoesAs, itself}
use Rattle.acts.proofs.Walk.{does_ends_as, then_does, then_stops}
use Rattle.body_meaning.specs.declared.frame.Frame.{Frame}
use Rattle.body_meaning.specs.declared.thing.Thing.{Thing}
use Rattle.body_meaning.specs.declared.thing.Thing.TheVariants as thing
use Rattle.body_meaning.specs.Prelude.{Reading, Calls, method_call, each, negation_of, operand_step, suffixed, value, value_step, values_of, with_value, value_in}
use Rattle.body_walk.specs.declared.places.Unary.{Unary}
use Rattle.body_walk.specs.declared.places.Unary.TheVariants.{Not, Negate, IsValid, IsInvalid}
use Rattle.body_walk.specs.Prelude.{called, leaf, of_operand, operation, thing_made, unary_of}
use Rattle.body_walk.proofs.Forms.{suffixed_of_Method, value_of_Call, value_of_Cast, value_of_Group, value_of_IsInvalid, value_of_IsValid, value_of_Negate, value_of_Not, value_of_Operation, value_of_Postfix}

-- Something, and then what comes of it.
module _ {A B : Type 0} (whole : Acting B) (p q : Acting A) (next : A → Acting B) where
  through_does : (x : A) (result : Result B Trouble) (u v w : LocalView) → whole ≡ p >>= next → q ≡ p → DoesAs itself q (Ok x) u v → DoesAs itself (next x) result v w
      → DoesAs itself whole result u w
  through_does x result u v w is same first rest =
      subst (λ (r : Acting B). DoesAs itself r result u w) (sym is)
      (then_does itself itself p next x result u v w (subst (λ (r : Acting A). DoesAs itself r (Ok x) u v) same first) rest)

  through_stops : (e : Trouble) (u v w : LocalView) → whole ≡ p >>= next → q ≡ p → DoesAs itself q (Err e) u v → DoesAs itself whole (Err e) u w
  through_stops e u v w is same first =
      subst (λ (r : Acting B). DoesAs itself r (Err e) u w) (sym is)
      (then_stops itself itself p next e u v w (subst (λ (r : Acting A). DoesAs itself r (Err e) u v) same first))

module _ (s : Reading) (calls : Calls) (frame : Frame) where
  -- what is made of one operand
  unary_does : (unary known : Unary) (e inner got : Expr) (result : Result Thing Trouble) (u v : LocalView) → value s calls frame e ≡ value s calls frame inner >>= thing_made known → unary ≡ known
      → got ≡ inner → DoesAs itself (of_operand s calls frame unary got) result u v → DoesAs itself (value s calls frame e) result u v
  unary_does unary known e inner got result u v is made same does =
      subst (λ (p : Acting Thing). DoesAs itself p result u v)
      (sym (is ∙ ap (λ (x : Expr). value s calls frame x >>= thing_made known) (sym same) ∙ ap (λ (x : Unary). of_operand s calls frame x got) (sym made))) does

  pub operand_does : (e inner got : Expr) (unary : Unary) (result : Result Thing Trouble) (u v : LocalView)
      → ((span : Span) × (e ≡ views.Not inner span)) ⊎ (((span : Span) × (e ≡ views.Negate inner span)) ⊎ (((span : Span) × (e ≡ views.IsValid inner span)) ⊎ ((span : Span) × (e ≡ views.IsInvalid inner span))))
      → unary ≡ unary_of e → got ≡ inner → DoesAs itself (of_operand s calls frame unary got) result u v → DoesAs itself (value s calls frame e) result u v
  unfolding thing_made given negation_of ◌>>=◌
  operand_does e inner got unary result u v (inl (span, is)) made =
      unary_does unary Not e inner got result u v (ap (value s calls frame) is ∙ value_of_Not s calls frame inner span) (made ∙ ap unary_of (is ∙ Not_is inner span))
  operand_does e inner got unary result u v (inr (inl (span, is))) made =
      unary_does unary Negate e inner got result u v (ap (value s calls frame) is ∙ value_of_Negate s calls frame inner span) (made ∙ ap unary_of (is ∙ Negate_is inner span))
  operand_does e inner got unary result u v (inr (inr (inl (span, is)))) made =
      unary_does unary IsValid e inner got result u v (ap (value s calls frame) is ∙ value_of_IsValid s calls frame inner span) (made ∙ ap unary_of (is ∙ IsValid_is inner span))
  operand_does e inner got unary result u v (inr (inr (inr (span, is)))) made =
      unary_does unary IsInvalid e inner got result u v (ap (value s calls frame) is ∙ value_of_IsInvalid s calls frame inner span) (made ∙ ap unary_of (is ∙ IsInvalid_is inner span))

  -- what another one in a box gives, unchanged
  pub inner_does : (e inner got : Expr) (result : Result Thing Trouble) (u v : LocalView)
      → ((target : TypeName) × (mode : Option (List ℕ)) × (span : Span) × (e ≡ views.Cast target mode inner span)) ⊎ ((span : Span) × (e ≡ views.Group inner span))
      → got ≡ inner → DoesAs itself (value s calls frame got) result u v → DoesAs itself (value s calls frame e) result u v
  inner_does e inner got result u v (inl (target, mode, span, is)) same first =
      subst (λ (p : Acting Thing). DoesAs itself p result u v)
      (sym (ap (value s calls frame) is ∙ value_of_Cast s calls frame target mode inner span ∙ ap (value s calls frame) (sym same))) first
  inner_does e inner got result u v (inr (span, is)) same first =
      subst (λ (p : Acting Thing). DoesAs itself p result u v)
      (sym (ap (value s calls frame) is ∙ value_of_Group s calls frame inner span ∙ ap (value s calls frame) (sym same))) first

  -- what has no other expression in it
  same_leaf : (e x : Expr) → e ≡ x → leaf s frame x ≡ value s calls frame x → leaf s frame e ≡ value s calls frame e
  same_leaf e x is there = ap (leaf s frame) is ∙ there ∙ sym (ap (value s calls frame) is)

  pub leaf_is : (e : Expr)
      → ((n : ℤ) × (span : Span) × (e ≡ Number n span)) ⊎ (((span : Span) × (e ≡ True span)) ⊎ (((span : Span) × (e ≡ False span)) ⊎ (((span : Span) × (e ≡ Nothing span)) ⊎ (((name : Name) × (e ≡ Variable name))
      ⊎ (((owner : Name) × (member : Name) × (span : Span) × (e ≡ Member owner member span)) ⊎ ((made : Name) × (span : Span) × (e ≡ New made span)))))))
      → leaf s frame e ≡ value s calls frame e
  leaf_is e (inl (n, span, is)) = same_leaf e (Number n span) is refl
  leaf_is e (inr (inl (span, is))) = same_leaf e (True span) is refl
  leaf_is e (inr (inr (inl (span, is)))) = same_leaf e (False span) is refl
  leaf_is e (inr (inr (inr (inl (span, is))))) = same_leaf e (Nothing span) is refl
  leaf_is e (inr (inr (inr (inr (inl (name, is)))))) = same_leaf e (Variable name) is refl
  leaf_is e (inr (inr (inr (inr (inr (inl (owner, member, span, is))))))) = same_leaf e (Member owner member span) is refl
  leaf_is e (inr (inr (inr (inr (inr (inr (made, span, is))))))) = same_leaf e (New made span) is refl

  pub postfix_does : (e inner got : Expr) (suffixes held : List Suffix) (span : Span) (t : Thing) (result : Result Thing Trouble) (u v w : LocalView)
      → e ≡ views.Postfix inner suffixes span → got ≡ inner → held ≡ suffixes
      → DoesAs itself (value s calls frame got) (Ok t) u v → DoesAs itself (each (suffixed s calls frame) t held) result v w → DoesAs itself (value s calls frame e) result u w
  postfix_does e inner got suffixes held span t result u v w is same all first rest =
      through_does (value s calls frame e) (value s calls frame inner) (value s calls frame got) (λ x. each (suffixed s calls frame) x suffixes) t result u v w
      (ap (value s calls frame) is ∙ value_of_Postfix s calls frame inner suffixes span) (ap (value s calls frame) same) first
      (subst (λ (xs : List Suffix). DoesAs itself (each (suffixed s calls frame) t xs) result v w) all rest)

  pub postfix_stops : (e inner got : Expr) (suffixes : List Suffix) (span : Span) (x : Trouble) (u v w : LocalView)
      → e ≡ views.Postfix inner suffixes span → got ≡ inner → DoesAs itself (value s calls frame got) (Err x) u v → DoesAs itself (value s calls frame e) (Err x) u w
  postfix_stops e inner got suffixes span x u v w is same first =
      through_stops (value s calls frame e) (value s calls frame inner) (value s calls frame got) (λ t. each (suffixed s calls frame) t suffixes) x u v w
      (ap (value s calls frame) is ∙ value_of_Postfix s calls frame inner suffixes span) (ap (value s calls frame) same) first

  pub operation_stops : (e inner got : Expr) (others : List Operand) (span : Span) (x : Trouble) (u v w : LocalView)
      → e ≡ views.Operation inner others span → got ≡ inner → DoesAs itself (value s calls frame got) (Err x) u v → DoesAs itself (value s calls frame e) (Err x) u w
  operation_stops e inner got others span x u v w is same first =
      through_stops (value s calls frame e) (value s calls frame inner) (value s calls frame got) (λ t. each (operand_step s calls frame) (value_in t) others >>= (λ b. ends (thing.Value b))) x u v w
      (ap (value s calls frame) is ∙ value_of_Operation s calls frame inner others span) (ap (value s calls frame) same) first

  pub operation_does : (e inner got : Expr) (others held : List Operand) (span : Span) (t : Thing) (left : Value) (result : Result Thing Trouble) (u v w : LocalView)
      → e ≡ views.Operation inner others span → got ≡ inner → held ≡ others → DoesAs itself (value s calls frame got) (Ok t) u v → left ≡ value_in t
      → DoesAs itself (operation s calls frame left held) result v w → DoesAs itself (value s calls frame e) result u w
  operation_does e inner got others held span t left result u v w is same all first made rest =
      through_does (value s calls frame e) (value s calls frame inner) (value s calls frame got) (λ x. operation s calls frame (value_in x) others) t result u v w
      (ap (value s calls frame) is ∙ value_of_Operation s calls frame inner others span) (ap (value s calls frame) same) first
      (subst (λ (xs : List Operand). DoesAs itself (operation s calls frame (value_in t) xs) result v w) all
      (subst (λ (x : Value). DoesAs itself (operation s calls frame x held) result v w) made rest))

  pub call_does : (e : Expr) (name : Name) (arguments : Args) (span : Span) (held : List Expr) (text : List ℕ) (result : Result Thing Trouble) (u v : LocalView)
      → e ≡ views.Call name arguments span → held ≡ arguments.items → text ≡ name.text
      → DoesAs itself (called s calls frame text held) result u v → DoesAs itself (value s calls frame e) result u v
  call_does e name arguments span held text result u v is all same does =
      subst (λ (p : Acting Thing). DoesAs itself p result u v)
      (sym (ap (value s calls frame) is ∙ value_of_Call s calls frame name arguments span
      ∙ ap (called s calls frame name.text) (sym all) ∙ ap (λ (x : List ℕ). called s calls frame x held) (sym same))) does

  pub method_does : (t : Thing) (suffix : Suffix) (called : Name) (arguments : Args) (span : Span) (held : List Expr) (text : List ℕ) (vs : List Value) (result : Result Thing Trouble) (u v w : LocalView)
      → suffix ≡ Method called arguments span → held ≡ arguments.items → text ≡ called.text
      → DoesAs itself (values_of s calls frame held) (Ok vs) u v → DoesAs itself (method_call s t text vs) result v w → DoesAs itself (suffixed s calls frame t suffix) result u w
  method_does t suffix called arguments span held text vs result u v w is all same first rest =
      through_does (suffixed s calls frame t suffix) (values_of s calls frame arguments.items) (values_of s calls frame held) (method_call s t called.text) vs result u v w
      (ap (suffixed s calls frame t) is ∙ suffixed_of_Method s calls frame t called arguments span) (ap (values_of s calls frame) all) first
      (subst (λ (name : List ℕ). DoesAs itself (method_call s t name vs) result v w) same rest)

  pub method_stops : (t : Thing) (suffix : Suffix) (called : Name) (arguments : Args) (span : Span) (held : List Expr) (x : Trouble) (u v w : LocalView)
      → suffix ≡ Method called arguments span → held ≡ arguments.items → DoesAs itself (values_of s calls frame held) (Err x) u v
      → DoesAs itself (suffixed s calls frame t suffix) (Err x) u w
  method_stops t suffix called arguments span held x u v w is all first =
      through_stops (suffixed s calls frame t suffix) (values_of s calls frame arguments.items) (values_of s calls frame held) (method_call s t called.text) x u v w
      (ap (suffixed s calls frame t) is ∙ suffixed_of_Method s calls frame t called arguments span) (ap (values_of s calls frame) all) first

  -- one more argument

  pub value_added : (before vs : List Value) (e : Expr) (t : Thing) (u v : LocalView) → DoesAs itself (value s calls frame e) (Ok t) u v → vs ≡ before ++ value_in t ∷ []
      → DoesAs itself (value_step s calls frame before e) (Ok vs) u v
  unfolding with_value
  value_added before vs e t u v first made =
      then_does itself itself (value s calls frame e) (λ x. ends (before ++ value_in x ∷ [])) t (Ok vs) u v v first (does_ends_as itself (before ++ value_in t ∷ []) vs v made)

  pub value_not_added : (before : List Value) (e : Expr) (x : Trouble) (u v w : LocalView) → DoesAs itself (value s calls frame e) (Err x) u v
      → DoesAs itself (value_step s calls frame before e) (Err x) u w
  unfolding with_value
  value_not_added before e x u v w first = then_stops itself itself (value s calls frame e) (λ y. ends (before ++ value_in y ∷ [])) x u v w first
