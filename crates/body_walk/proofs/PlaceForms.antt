-- The place that an expression names, at each form of it.
use Rattle.std.proofs.Common.{◌≡◌, ◌∙◌, List, Some, Result, refl, sym, ap, subst}
use Rattle.slicc_ast.specs.declared.tree.span.Span.{Span}
use Rattle.slicc_ast.specs.declared.tree.name.Name.{Name}
use Rattle.slicc_ast.specs.declared.tree.expression.Expr.{Expr, Variable, Postfix, Group}
use Rattle.slicc_ast.specs.declared.tree.expression.Suffix.{Suffix, Field, Method', Index}
use Rattle.slicc_ast.specs.declared.tree.expression.Expr.TheViews.{roll-Expr, roll-out-Expr, outs-Postfix', rolls-Postfix}
use Rattle.slicc_ast.specs.Prelude.{Operation', Postfix', Not', Negate', IsValid', IsInvalid', Cast', Group'}
use Rattle.slicc_ast.proofs.Boxes.{Group_is}
use Rattle.ctl_face.specs.declared.trouble.Trouble.{Trouble}
use Rattle.ctl_face.specs.Prelude.{LocalView}
use Rattle.acts.specs.declared.body_fault.BodyFault.TheVariants as own
use Rattle.acts.specs.Prelude.{Acting, stops, DoesAs, itself}
use Rattle.body_meaning.specs.declared.frame.Frame.{Frame}
use Rattle.body_meaning.specs.declared.frame.Place.{Place}
use Rattle.body_meaning.specs.Prelude.{Reading, Calls, place_behind, place_last, place_of}
use Rattle.body_walk.proofs.Forms.{place_of_Group, place_of_Postfix}

module _ (s : Reading) (calls : Calls) (frame : Frame) where
  pub group_place : (e inner got : Expr) (span : Span) (result : Result Place Trouble) (u v : LocalView) → e ≡ Group inner span → got ≡ inner
      → DoesAs itself (place_of s calls frame got) result u v → DoesAs itself (place_of s calls frame e) result u v
  group_place e inner got span result u v is same first =
      subst (λ (p : Acting Place). DoesAs itself p result u v)
      (sym (ap (place_of s calls frame) is ∙ place_of_Group s calls frame inner span ∙ ap (place_of s calls frame) (sym same))) first

  pub postfix_place : (e inner got : Expr) (suffixes held : List Suffix) (span : Span) (result : Result Place Trouble) (u v : LocalView) → e ≡ Postfix inner suffixes span → got ≡ inner
      → held ≡ suffixes → DoesAs itself (place_behind s calls frame got held) result u v → DoesAs itself (place_of s calls frame e) result u v
  postfix_place e inner got suffixes held span result u v is same all first =
      subst (λ (p : Acting Place). DoesAs itself p result u v)
      (sym (ap (place_of s calls frame) is ∙ place_of_Postfix s calls frame inner suffixes span
      ∙ ap (λ x. place_behind s calls frame x suffixes) (sym same) ∙ ap (place_behind s calls frame got) (sym all))) first

  -- what is neither of these, nor a name, names none
  pub other_place : (e : Expr) → ((called : Name) → e ≡ Variable called → ⊥) → ((inner : Expr) (span : Span) → e ≡ Group inner span → ⊥)
      → ((inner : Expr) (suffixes : List Suffix) (span : Span) → e ≡ Postfix inner suffixes span → ⊥) → place_of s calls frame e ≡ stops own.Reference
  unfolding roll-Expr denote.Hole.Carrier.roll
  other_place (Variable called) name group postfix = absurd (name called refl)
  other_place (Group' inner span) name group postfix = absurd (group inner span (sym (Group_is inner span)))
  other_place (Postfix' inner n row span) name group postfix =
      absurd (postfix _ _ span (sym (roll-out-Expr (Postfix' inner n row span)) ∙ ap roll-Expr (outs-Postfix' _ _ n row span) ∙ sym (rolls-Postfix _ _ span)))
  other_place (Operation' first n row span) name group postfix = refl
  other_place (Not' operand span) name group postfix = refl
  other_place (Negate' operand span) name group postfix = refl
  other_place (IsValid' inner span) name group postfix = refl
  other_place (IsInvalid' inner span) name group postfix = refl
  other_place (Cast' target mode inner span) name group postfix = refl
  other_place _ name group postfix = refl

  -- and a suffix that is no field
  pub other_last : (inner : Expr) (before : List Suffix) (suffix : Suffix) → ((called : Name) (span : Span) → suffix ≡ Field called span → ⊥)
      → place_last s calls frame inner before (Some suffix) ≡ stops own.Reference
  other_last inner before (Field called span) other = absurd (other called span refl)
  other_last inner before (Method' called shape row arguments span) other = refl
  other_last inner before (Index key span) other = refl
