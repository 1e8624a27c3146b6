-- What the typing of operands tells of the code of the right one.
use Rattle.std.proofs.Common.{◌≡◌, true, false, [], ◌∷◌, refl, sym, subst, ◌∙◌}
use Rattle.slicc_ast.specs.declared.tree.expression.Operator.{Operator}
use Rattle.slicc_ast.specs.declared.tree.expression.Operator.TheVariants.{Or, And, Equal, Unequal, Less, Greater, LessOrEqual, GreaterOrEqual, Plus, Minus, Times}
use Rattle.slicc_ast.specs.declared.tree.machine.Machine.{Machine}
use Rattle.ruby_value.specs.declared.kind.Kind.{Kind}
use Rattle.ruby_value.specs.declared.kind.Kind.TheVariants as kind
use Rattle.slicc_plan.specs.declared.built_in.BuiltInType.TheVariants.{Buffer, Int, Bool as Boolean}
use Rattle.slicc_plan.specs.ExpressionTypes.{wanted_left, wanted_right}
use Rattle.slicc_plan.specs.Meanings.{Meaning, value, no_line, bare_line, new_line, incoming, outgoing, table, in_port, out_port, nothing, unknown, Wanted, one_of, fits, like_it, of_built_in, nothing_fits, table_fits}
use Rattle.slicc_plan.specs.Types.{KnownType, built_in}
use Rattle.rules_symbols.specs.Fitting.{IsComparable, IsLike, IsSure}
use Rattle.rules_symbols.proofs.WhatFits.{comparable_fits, like_fits}
use Rattle.body_code.specs.declared.left.Left.{Left}
use Rattle.body_code.specs.declared.left.Left.TheVariants as left
use Rattle.code_laws.specs.Holding.{IsLeft, is_used}
use Rattle.code_laws.specs.Setting.{Setting}
use Rattle.code_laws.proofs.Operators.{IsRight}
use Rattle.code_laws.proofs.Typing.{left_sure, wanted_left as kind_wanted}

-- where neither a table nor nothing fits
pub used_where : (m : Machine) (wanted : Wanted) (meaning : Meaning) → nothing_fits wanted ≡ false → table_fits wanted Buffer ≡ false → fits m wanted meaning ≡ true → is_used meaning ≡ true
used_where m wanted (value t) none no_table fit = refl
used_where m wanted no_line none no_table fit = refl
used_where m wanted bare_line none no_table fit = refl
used_where m wanted (new_line made) none no_table fit = refl
used_where m wanted (incoming t) none no_table fit = refl
used_where m wanted (outgoing t) none no_table fit = refl
used_where m wanted (table Buffer) none no_table fit = absurd (cc (sym fit ∙ no_table))
used_where m wanted (table b) none no_table fit = refl
used_where m wanted (in_port t) none no_table fit = refl
used_where m wanted (out_port t) none no_table fit = refl
used_where m wanted nothing none no_table fit = absurd (cc (sym fit ∙ none))
used_where m wanted unknown none no_table fit = refl

-- what is wanted of the right side is a value of a type
pub right_wanted : (m : Machine) (operator : Operator) (left : Meaning) → IsSure left → fits m (wanted_left operator) left ≡ true → (t : KnownType) × (wanted_right operator left ≡ one_of (t ∷ []))
right_wanted m Equal left sure fit = by left (comparable_fits m left fit sure)
  where
    by : (meaning : Meaning) → IsComparable m meaning → (t : KnownType) × (like_it meaning ≡ one_of (t ∷ []))
    by (value t) is = (t, refl)
    by _ is = absurd is
right_wanted m Unequal left sure fit = by left (comparable_fits m left fit sure)
  where
    by : (meaning : Meaning) → IsComparable m meaning → (t : KnownType) × (like_it meaning ≡ one_of (t ∷ []))
    by (value t) is = (t, refl)
    by _ is = absurd is
right_wanted m Or left sure fit = (built_in Boolean, refl)
right_wanted m And left sure fit = (built_in Boolean, refl)
right_wanted m Less left sure fit = (built_in Int, refl)
right_wanted m Greater left sure fit = (built_in Int, refl)
right_wanted m LessOrEqual left sure fit = (built_in Int, refl)
right_wanted m GreaterOrEqual left sure fit = (built_in Int, refl)
right_wanted m Plus left sure fit = (built_in Int, refl)
right_wanted m Minus left sure fit = (built_in Int, refl)
right_wanted m Times left sure fit = (built_in Int, refl)

module _ (z : Setting) where
  -- a value, where one of a type is wanted
  pub value_left : (t : KnownType) (meaning : Meaning) (l : Left) → IsLeft z meaning l → fits z.m (one_of (t ∷ [])) meaning ≡ true → (k : Kind) × (l ≡ left.Value k)
  value_left t meaning l is fit = by meaning is (like_fits z.m t meaning fit (left_sure z meaning l is))
    where
      by : (meaning : Meaning) → IsLeft z meaning l → IsLike z.m t meaning → (k : Kind) × (l ≡ left.Value k)
      by (value u) is like = (_, is.left_is)
      by no_line is like = (_, is.left_is)
      by bare_line is like = absurd like
      by (new_line made) is like = absurd like
      by (incoming u) is like = absurd like
      by (outgoing u) is like = absurd like
      by (table b) is like = absurd like
      by (in_port u) is like = absurd like
      by (out_port u) is like = absurd like
      by nothing is like = absurd like
      by unknown is like = absurd like

  pub bool_left : (meaning : Meaning) (l : Left) → IsLeft z meaning l → fits z.m (of_built_in Boolean) meaning ≡ true → l ≡ left.Value kind.Bool
  bool_left meaning l is fit = kind_wanted z (built_in Boolean) kind.Bool meaning l is refl refl fit

  pub int_left : (meaning : Meaning) (l : Left) → IsLeft z meaning l → fits z.m (of_built_in Int) meaning ≡ true → l ≡ left.Value kind.Int
  int_left meaning l is fit = kind_wanted z (built_in Int) kind.Int meaning l is refl refl fit

  -- the right side of an operator leaves a value, and where the operator is lazy a truth value
  pub right_left : (operator : Operator) (on : Meaning) (meaning : Meaning) (l : Left) → IsSure on → fits z.m (wanted_left operator) on ≡ true → IsLeft z meaning l → fits z.m (wanted_right operator on) meaning ≡ true
      → (k : Kind) × (l ≡ left.Value k) × IsRight operator k
  right_left Or on meaning l sure fit is right = (kind.Bool, bool_left meaning l is right, refl)
  right_left And on meaning l sure fit is right = (kind.Bool, bool_left meaning l is right, refl)
  right_left Equal on meaning l sure fit is right = let w = right_wanted z.m Equal on sure fit in let v = value_left w.0 meaning l is (subst (λ x. fits z.m x meaning ≡ true) w.1 right) in (v.0, v.1, tt)
  right_left Unequal on meaning l sure fit is right = let w = right_wanted z.m Unequal on sure fit in let v = value_left w.0 meaning l is (subst (λ x. fits z.m x meaning ≡ true) w.1 right) in (v.0, v.1, tt)
  right_left Less on meaning l sure fit is right = (kind.Int, int_left meaning l is right, tt)
  right_left Greater on meaning l sure fit is right = (kind.Int, int_left meaning l is right, tt)
  right_left LessOrEqual on meaning l sure fit is right = (kind.Int, int_left meaning l is right, tt)
  right_left GreaterOrEqual on meaning l sure fit is right = (kind.Int, int_left meaning l is right, tt)
  right_left Plus on meaning l sure fit is right = (kind.Int, int_left meaning l is right, tt)
  right_left Minus on meaning l sure fit is right = (kind.Int, int_left meaning l is right, tt)
  right_left Times on meaning l sure fit is right = (kind.Int, int_left meaning l is right, tt)

  -- it may be used
  pub right_used : (operator : Operator) (on : Meaning) (meaning : Meaning) → IsSure on → fits z.m (wanted_left operator) on ≡ true → fits z.m (wanted_right operator on) meaning ≡ true → is_used meaning ≡ true
  right_used operator on meaning sure fit right =
      let w = right_wanted z.m operator on sure fit in used_where z.m (one_of (w.0 ∷ [])) meaning refl refl (subst (λ x. fits z.m x meaning ≡ true) w.1 right)

  -- the left side of an operator leaves a value, too
  pub on_left : (operator : Operator) (on : Meaning) (l : Left) → IsLeft z on l → fits z.m (wanted_left operator) on ≡ true → (k : Kind) × (l ≡ left.Value k)
  on_left Equal on l is fit = compared on is (comparable_fits z.m on fit (left_sure z on l is))
    where
      compared : (meaning : Meaning) → IsLeft z meaning l → IsComparable z.m meaning → (k : Kind) × (l ≡ left.Value k)
      compared (value t) of is = (_, of.left_is)
      compared _ of is = absurd is
  on_left Unequal on l is fit = compared on is (comparable_fits z.m on fit (left_sure z on l is))
    where
      compared : (meaning : Meaning) → IsLeft z meaning l → IsComparable z.m meaning → (k : Kind) × (l ≡ left.Value k)
      compared (value t) of is = (_, of.left_is)
      compared _ of is = absurd is
  on_left Or on l is fit = (kind.Bool, bool_left on l is fit)
  on_left And on l is fit = (kind.Bool, bool_left on l is fit)
  on_left Less on l is fit = (kind.Int, int_left on l is fit)
  on_left Greater on l is fit = (kind.Int, int_left on l is fit)
  on_left LessOrEqual on l is fit = (kind.Int, int_left on l is fit)
  on_left GreaterOrEqual on l is fit = (kind.Int, int_left on l is fit)
  on_left Plus on l is fit = (kind.Int, int_left on l is fit)
  on_left Minus on l is fit = (kind.Int, int_left on l is fit)
  on_left Times on l is fit = (kind.Int, int_left on l is fit)

pub on_used : (m : Machine) (operator : Operator) (on : Meaning) → fits m (wanted_left operator) on ≡ true → is_used on ≡ true
on_used m Or on fit = used_where m (wanted_left Or) on refl refl fit
on_used m And on fit = used_where m (wanted_left And) on refl refl fit
on_used m Equal on fit = used_where m (wanted_left Equal) on refl refl fit
on_used m Unequal on fit = used_where m (wanted_left Unequal) on refl refl fit
on_used m Less on fit = used_where m (wanted_left Less) on refl refl fit
on_used m Greater on fit = used_where m (wanted_left Greater) on refl refl fit
on_used m LessOrEqual on fit = used_where m (wanted_left LessOrEqual) on refl refl fit
on_used m GreaterOrEqual on fit = used_where m (wanted_left GreaterOrEqual) on refl refl fit
on_used m Plus on fit = used_where m (wanted_left Plus) on refl refl fit
on_used m Minus on fit = used_where m (wanted_left Minus) on refl refl fit
on_used m Times on fit = used_where m (wanted_left Times) on refl refl fit
