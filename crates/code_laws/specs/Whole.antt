-- Expressions as the grammar writes them: an operator has an operand on each side, and behind an expression in front of suffixes there is
-- one. The rules don't look at that, and what isn't so has another meaning as code where it stands for a table or a port. And expressions
-- that call only functions which the body may call. The name of a call on something is no bracket, by which the rules call an index.
use Rattle.std.specs.Prelude.{◌≡◌, ℕ, true, false, Some, List, codes}
use Rattle.std.specs.Str.{bytes_eq}
use Rattle.ruby_symbols.specs.Prelude.{function_named}
use Rattle.slicc_ast.specs.declared.tree.expression.Suffix.{Suffix, Field, Method', Index}
use Rattle.slicc_ast.specs.declared.tree.expression.Expr.{Expr, Number, True, False, Nothing, Variable, Member, Call', New, Row_of-Expr, end_of-Expr, more_of-Expr, Row_of-Operand, end_of-Operand, more_of-Operand, Row_of-Suffix, end_of-Suffix, more_of-Suffix}
use Rattle.code_laws.specs.Setting.{Setting}
use Rattle.slicc_ast.specs.Prelude.{Operation', Not', Negate', Postfix', IsValid', IsInvalid', Cast', Group'}

abbrev pub HasOperand : {m : _} → Row_of-Operand m → Type 0
HasOperand end_of-Operand = ⊥
HasOperand (more_of-Operand operator inner row) = Unit {0}

abbrev pub HasSuffix : {m : _} → Row_of-Suffix m → Type 0
HasSuffix end_of-Suffix = ⊥
HasSuffix (more_of-Suffix first row) = Unit {0}

module _ (z : Setting) where
  -- the function of this name, if it is one
  abbrev pub MayCall : List ℕ → Type 0
  MayCall text = (k : ℕ) → function_named z.s.machine text ≡ Some k → z.may_call k ≡ true

  abbrev mutual
    pub IsWhole : Expr → Type 0
    IsWhole (Operation' first n others span) = IsWhole first × HasOperand others × AreWholeOperands others
    IsWhole (Not' operand span) = IsWhole operand
    IsWhole (Negate' operand span) = IsWhole operand
    IsWhole (Postfix' inner n suffixes span) = IsWhole inner × HasSuffix suffixes × AreWholeSuffixes suffixes
    IsWhole (Number n span) = Unit {0}
    IsWhole (True span) = Unit {0}
    IsWhole (False span) = Unit {0}
    IsWhole (Nothing span) = Unit {0}
    IsWhole (Variable name) = Unit {0}
    IsWhole (Member owner member span) = Unit {0}
    IsWhole (Call' called shape row arguments span) = MayCall called.text × AreWhole row
    IsWhole (New made span) = Unit {0}
    IsWhole (IsValid' inner span) = IsWhole inner
    IsWhole (IsInvalid' inner span) = IsWhole inner
    IsWhole (Cast' target mode inner span) = IsWhole inner
    IsWhole (Group' inner span) = IsWhole inner

    pub AreWholeOperands : {m : _} → Row_of-Operand m → Type 0
    AreWholeOperands end_of-Operand = Unit {0}
    AreWholeOperands (more_of-Operand operator inner row) = IsWhole inner × AreWholeOperands row

    pub IsWholeSuffix : Suffix → Type 0
    IsWholeSuffix (Field name span) = Unit {0}
    IsWholeSuffix (Method' called shape row arguments span) = (bytes_eq called.text (codes "[]") ≡ false) × AreWhole row
    IsWholeSuffix (Index key span) = IsWhole key

    pub AreWholeSuffixes : {m : _} → Row_of-Suffix m → Type 0
    AreWholeSuffixes end_of-Suffix = Unit {0}
    AreWholeSuffixes (more_of-Suffix first row) = IsWholeSuffix first × AreWholeSuffixes row

    pub AreWhole : {m : _} → Row_of-Expr m → Type 0
    AreWhole end_of-Expr = Unit {0}
    AreWhole (more_of-Expr first row) = IsWhole first × AreWhole row
