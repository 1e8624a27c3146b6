-- What is left of the arguments of a call in which nothing is broken.
use Rattle.std.proofs.Common.{◌≡◌, ◌∙◌, ◌≤◌, ◌++◌, ◌||◌, ℕ, zero, suc, Bool, true, false, Option, None, Some, List, [], ◌∷◌, length, refl, sym, ap, subst, arith}
use Rattle.slicc_ast.specs.declared.tree.expression.Expr.{Row_of-Expr, end_of-Expr, more_of-Expr}
use Rattle.slicc_ast.specs.declared.tree.name.Name.{Name}
use Rattle.slicc_plan.specs.declared.broken.Rule.TheVariants.{WrongType}
use Rattle.slicc_plan.specs.CallTypes.{Given, wrong_argument, wrong_arguments, wrong_line_type, wrong_new_line}
use Rattle.slicc_plan.specs.Environment.{Environment, type_named}
use Rattle.slicc_plan.specs.ExpressionTypes.{arguments_typed, given_at, span_of, typed}
use Rattle.slicc_plan.specs.Meanings.{Meaning, value, no_line, bare_line, new_line, incoming, outgoing, table, in_port, out_port, nothing, unknown, Wanted, anything, any_value, one_of, any_line, only_no_line, comparable, new_line_of, address_or_line_of, table_of, any_in_port, any_out_port, agree, fits, unfit}
use Rattle.slicc_plan.specs.Types.{KnownType}
use Rattle.slicc_plan.proofs.Room.{left_none, right_none}
use Rattle.slicc_plan.proofs.There.{There, there_first, there_later}
use Rattle.rules_symbols.specs.CallArguments.{AreArguments, IsArgument, IsGiven, IsNewLine}
use Rattle.rules_symbols.specs.TypedMeaning.{IsTyped, IsTypedIn}
use Rattle.rules_symbols.proofs.StatementForms.{type_name_is}
use Rattle.rules_symbols.proofs.TypedExpressions.{typed_is}
use Rattle.rules_symbols.proofs.WhatFits.{untold}

module _ (env : Environment) where
  abbrev IsKnown : Given → Type 0
  IsKnown g = g.typed.broken ≡ [] → IsTyped env.trees env.machine g.typed.meaning

  given_is : (wanted : Wanted) (g : Given) → IsKnown g → g.typed.broken ++ unfit env.machine wanted g.place g.typed.meaning ≡ [] → IsGiven env wanted g
  given_is wanted g known none =
      let unbroken = left_none g.typed.broken (unfit env.machine wanted g.place g.typed.meaning) none in
      record {
        unbroken = unbroken;
        known = known unbroken;
        fitting = untold (fits env.machine wanted g.typed.meaning) WrongType g.place (right_none g.typed.broken (unfit env.machine wanted g.place g.typed.meaning) none);
      }

  alone : (b : Bool) → (b || false) ≡ true → b ≡ true
  alone true is = refl
  alone false is = is

  -- nothing that is known is a new line
  no_new_line : (line : Option KnownType) (meaning : Meaning) → IsTyped env.trees env.machine meaning → fits env.machine (new_line_of line) meaning ≡ true → ⊥
  no_new_line line (value t) is fitting = cc fitting
  no_new_line line no_line is fitting = cc fitting
  no_new_line line bare_line is fitting = cc fitting
  no_new_line line (new_line made) is fitting = is
  no_new_line line (incoming t) is fitting = cc fitting
  no_new_line line (outgoing t) is fitting = cc fitting
  no_new_line line (table b) is fitting = cc fitting
  no_new_line line (in_port t) is fitting = cc fitting
  no_new_line line (out_port t) is fitting = cc fitting
  no_new_line line nothing is fitting = cc fitting
  no_new_line line unknown is fitting = is

  line_type_is : (line : Option KnownType) (g : Given) (made : Name) → g.typed.meaning ≡ new_line made → (o : Option KnownType) → type_named env made.text ≡ o → wrong_line_type env line made o ≡ [] → IsNewLine env line g
  line_type_is line g made is None named none =
      let known = type_name_is env made.text made.span none in
      let wrong : None ≡ Some known.1.0 = sym named ∙ known.1.1 in absurd (cc wrong)
  line_type_is None g made is (Some t) named none = absurd (cc none)
  line_type_is (Some w) g made is (Some t) named none =
      record {
        name = made;
        wanted = w;
        type = t;
        made = is;
        line_is = refl;
        named = named;
        agreed = alone (agree w t) (untold (fits env.machine (one_of (w ∷ [])) (value t)) WrongType made.span none);
      }

  new_line_is : (line : Option KnownType) (g : Given) → IsKnown g → (meaning : Meaning) → g.typed.meaning ≡ meaning → wrong_new_line env line g meaning ≡ [] → IsNewLine env line g
  new_line_is line g known (new_line made) is none = line_type_is line g made is (type_named env made.text) refl none
  new_line_is line g known meaning is none = absurd (other meaning is none)
    where
      other : (u : Meaning) → g.typed.meaning ≡ u → g.typed.broken ++ unfit env.machine (new_line_of line) g.place u ≡ [] → ⊥
      other u same clear =
          let unbroken = left_none g.typed.broken (unfit env.machine (new_line_of line) g.place u) clear in
          let fitting = untold (fits env.machine (new_line_of line) u) WrongType g.place (right_none g.typed.broken (unfit env.machine (new_line_of line) g.place u) clear) in
          no_new_line line g.typed.meaning (known unbroken) (ap (fits env.machine (new_line_of line)) same ∙ fitting)

  argument_is : (w : Wanted) (g : Given) → IsKnown g → wrong_argument env w g ≡ [] → IsArgument env w g
  argument_is (new_line_of line) g known none = new_line_is line g known g.typed.meaning refl none
  argument_is anything g known none = given_is anything g known none
  argument_is any_value g known none = given_is any_value g known none
  argument_is (one_of types) g known none = given_is (one_of types) g known none
  argument_is any_line g known none = given_is any_line g known none
  argument_is only_no_line g known none = given_is only_no_line g known none
  argument_is comparable g known none = given_is comparable g known none
  argument_is (address_or_line_of line) g known none = given_is (address_or_line_of line) g known none
  argument_is (table_of b) g known none = given_is (table_of b) g known none
  argument_is any_in_port g known none = given_is any_in_port g known none
  argument_is any_out_port g known none = given_is any_out_port g known none

  pub arguments_are : (ws : List Wanted) (gs : List Given) → length gs ≤ length ws → ((g : Given) → There gs g → IsKnown g) → wrong_arguments env ws gs ≡ [] → AreArguments env ws gs
  arguments_are ws [] few known none = tt
  arguments_are [] (g ∷ gs) few known none = absurd (omega (arith, few))
  arguments_are (w ∷ ws) (g ∷ gs) few known none = (
    argument_is w g (known g (there_first g gs)) (left_none (wrong_argument env w g) (wrong_arguments env ws gs) none),
    arguments_are ws gs (omega (arith, few)) (λ x there. known x (there_later g x gs there)) (right_none (wrong_argument env w g) (wrong_arguments env ws gs) none),
  )

-- the arguments of a call that is written
pub written_known : {n : _} (k : ℕ) (env : Environment) → IsTypedIn k env → (row : Row_of-Expr n) → (g : Given) → There (arguments_typed env row) g → g.typed.broken ≡ [] → IsTyped env.trees env.machine g.typed.meaning
written_known k env h end_of-Expr g there none = absurd (cc there.1)
written_known k env h (more_of-Expr first row) g (zero, at) none =
    let same : given_at (span_of first) (typed env first) ≡ g = cc at in
    let P : Given → Type 0 = λ x. x.typed.broken ≡ [] → IsTyped env.trees env.machine x.typed.meaning in
    subst P same (λ clear. typed_is k env h first clear) none
written_known k env h (more_of-Expr first row) g (suc j, at) none = written_known k env h row g (j, at) none
