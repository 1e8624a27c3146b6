use mir.Val.{SFits}
use Rattle.std.proofs.Common.{◌≡◌, ℤ, refl, ap, rules, w64}
use Rattle.std.proofs.lemmas.Int.{to_z-of_z}
use Rattle.ruby_value.specs.declared.value.Value.TheVariants.{Int}
use Rattle.slicc_ast.specs.declared.tree.span.Span.{Span}
use Rattle.slicc_ast.specs.declared.tree.name.Name.{Name}
use Rattle.slicc_ast.specs.declared.tree.expression.Expr.{Expr, Number, True, False, Nothing, Variable, Member}
use Rattle.acts.specs.Prelude.{ends, itself}
use Rattle.acts.proofs.Walk.{does_ends_as}
use Rattle.body_meaning.specs.declared.frame.Frame.{Frame}
use Rattle.body_meaning.specs.declared.thing.Thing.TheVariants as thing
use Rattle.body_meaning.specs.Prelude.{Reading, reading}
use Rattle.body_walk.specs.Prelude.{leaf}
use Rattle.body_walk.proofs.expressions.leaf.Goals as goal

-- what is none of these gives nothing
other_leaf : (s : Reading) (frame : Frame) (e : Expr)
    → ((n : ℤ) (span : Span) → e ≡ Number n span → ⊥) → ((span : Span) → e ≡ True span → ⊥) → ((span : Span) → e ≡ False span → ⊥)
    → ((span : Span) → e ≡ Nothing span → ⊥) → ((name : Name) → e ≡ Variable name → ⊥)
    → ((owner member : Name) (span : Span) → e ≡ Member owner member span → ⊥) → leaf s frame e ≡ ends thing.Nothing
other_leaf s frame (Number n span) number true' false' nothing variable member = absurd (number n span refl)
other_leaf s frame (True span) number true' false' nothing variable member = absurd (true' span refl)
other_leaf s frame (False span) number true' false' nothing variable member = absurd (false' span refl)
other_leaf s frame (Nothing span) number true' false' nothing variable member = absurd (nothing span refl)
other_leaf s frame (Variable name) number true' false' nothing variable member = absurd (variable name refl)
other_leaf s frame (Member owner of span) number true' false' nothing variable member = absurd (member owner of span refl)
other_leaf s frame _ number true' false' nothing variable member = refl

pub returns-in-Number : goal.returns-in-Number
returns-in-Number g c =
    let fits : SFits w64 c.in-Number.n = search rules in
    rw c.in-Number.is (does_ends_as itself _ _ _ (ap (λ n. thing.Value (Int n)) (to_z-of_z w64 c.in-Number.n fits)))

pub returns-in-True : goal.returns-in-True
returns-in-True g c = rw c.in-True.is (does_ends_as itself _ _ _ refl)

pub returns-in-False : goal.returns-in-False
returns-in-False g c = rw c.in-False.is (does_ends_as itself _ _ _ refl)

pub returns-in-Nothing : goal.returns-in-Nothing
returns-in-Nothing g c = rw c.in-Nothing.is (does_ends_as itself _ _ _ refl)

pub returns-in-Variable : goal.returns-in-Variable
returns-in-Variable g c = rw (c.in-Variable.is, ← c.deref.ensures) c.variable.ensures

pub returns-in-Member : goal.returns-in-Member
returns-in-Member g c = rw (c.in-Member.is, ← c.deref-in-Member.ensures, ← c.deref-in-Member-2.ensures, ← c.member_value.ensures) c.value_found.ensures

pub returns-in_default : goal.returns-in_default
returns-in_default g c =
    rw (other_leaf (reading c.args.s) c.args.frame.now c.args.e.now c.in_default.not-Number c.in_default.not-True c.in_default.not-False c.in_default.not-Nothing c.in_default.not-Variable c.in_default.not-Member)
    (does_ends_as itself _ _ _ refl)
