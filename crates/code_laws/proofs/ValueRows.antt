-- The arguments of built-in calls, where each is a value.
use Rattle.std.proofs.Common.{◌≡◌, suc, true, Option, None, Some, List, [], ◌∷◌, drop, length, slice_get, refl, ap}
use Rattle.std.specs.List.{list_all}
use Rattle.slicc_ast.specs.declared.tree.expression.Expr.{Expr, Row_of-Expr, end_of-Expr, more_of-Expr, items-the_row-Expr}
use Rattle.ruby_value.specs.declared.kind.Kind.{Kind}
use Rattle.slicc_plan.specs.BuiltInCalls.{Receiver, Argument, value_of, new_line, address_or_line, cache_line, tbe_line, own_cache_line, own_tbe_line, event, state_of}
use Rattle.slicc_plan.specs.CallTypes.{structure_on, type_of_line, wanted_by}
use Rattle.slicc_plan.specs.Environment.{BodySort, Bound, Environment}
use Rattle.slicc_plan.specs.ExpressionTypes.{arguments_typed, given_at, span_of, typed}
use Rattle.slicc_plan.specs.Meanings.{Meaning, value, no_line, bare_line, new_line as new_line_meaning, incoming, outgoing, table, in_port, out_port, nothing, unknown, address_or_line_of, one_of, fits}
use Rattle.slicc_plan.specs.Types.{KnownType, built_in}
use Rattle.rules_symbols.specs.CallArguments.{AreArguments, IsGiven}
use Rattle.rules_symbols.specs.Fitting.{IsAddressOrLine}
use Rattle.rules_symbols.proofs.WhatFits.{address_or_line_fits}
use Rattle.body_meaning.specs.declared.frame.Frame.{Frame}
use Rattle.body_meaning.specs.Prelude.{value as value_done, values}
use Rattle.code_meaning.specs.Prelude.{Held}
use Rattle.body_code.specs.declared.left.Left.{Left}
use Rattle.body_code.specs.declared.left.Left.TheVariants as left
use Rattle.body_code.specs.declared.left.NameAt.{NameAt}
use Rattle.body_code.specs.Prelude.{all_arguments, piece}
use Rattle.code_laws.specs.Holding.{IsLeft}
use Rattle.code_laws.specs.Setting.{Setting, env_of}
use Rattle.code_laws.proofs.ArgumentRows.{IsListed, more_listed, none_listed}
use Rattle.code_laws.proofs.CallTables.{is_simple}
use Rattle.code_laws.proofs.Forms.{AllGood, Good}
use Rattle.code_laws.proofs.Good.{IsValued, as_value, held}
use Rattle.code_laws.proofs.Operands.{used_where, value_left}
use Rattle.code_laws.proofs.Typing.{left_sure}

-- as many as are written
pub row_count : {m : _} (env : Environment) (row : Row_of-Expr m) → length (items-the_row-Expr m row) ≡ length (arguments_typed env row)
row_count env end_of-Expr = refl
row_count env (more_of-Expr first row) = ap suc (row_count env row)

module _ (z : Setting) where
  -- an address or a reference is a value
  address_by : (line : Option KnownType) (meaning : Meaning) (l : Left) → IsLeft z meaning l → IsAddressOrLine z.m line meaning → (k : Kind) × (l ≡ left.Value k)
  address_by line (value u) l is fits = (_, is.left_is)
  address_by line no_line l is fits = (_, is.left_is)
  address_by line bare_line l is fits = (_, is.left_is)
  address_by line (new_line_meaning made) l is fits = absurd is
  address_by None (incoming u) l is fits = absurd fits
  address_by (Some t) (incoming u) l is fits = absurd fits
  address_by None (outgoing u) l is fits = absurd fits
  address_by (Some t) (outgoing u) l is fits = absurd fits
  address_by None (table b) l is fits = absurd fits
  address_by (Some t) (table b) l is fits = absurd fits
  address_by None (in_port u) l is fits = absurd fits
  address_by (Some t) (in_port u) l is fits = absurd fits
  address_by None (out_port u) l is fits = absurd fits
  address_by (Some t) (out_port u) l is fits = absurd fits
  address_by None nothing l is fits = absurd fits
  address_by (Some t) nothing l is fits = absurd fits
  address_by line unknown l is fits = absurd is

  address_left : (line : Option KnownType) (meaning : Meaning) (l : Left) → IsLeft z meaning l → fits z.m (address_or_line_of line) meaning ≡ true → (k : Kind) × (l ≡ left.Value k)
  address_left line meaning l is fit = address_by line meaning l is (address_or_line_fits z.m line meaning fit (left_sure z meaning l is))

module _ (z : Setting) (body : BodySort) (answer : Meaning) (bound : List Bound) (names : List NameAt) (frame : Frame) (h : Held) where
  abbrev E : Environment
  E = env_of z body answer bound

  abbrev V : Option Kind → Expr → Kind → Type 0
  V expected e k = IsValued z h (held z h) k (piece z.s z.numbers names expected e).code (value_done z.s z.functions frame e)

  pub one_value : (t : KnownType) (e : Expr) → Good z body answer bound names frame h e → IsGiven E (one_of (t ∷ [])) (given_at (span_of e) (typed E e)) → (expected : Option Kind) → (k : Kind) × V expected e k
  one_value t e good given expected =
      let g = good given.unbroken (used_where z.m (one_of (t ∷ [])) (typed E e).meaning refl refl given.fitting) expected in
      let l = value_left z t (typed E e).meaning (piece z.s z.numbers names expected e).left g.left_is given.fitting in
      (l.0, as_value z h l.0 l.1 g.done)

  one_address : (line : Option KnownType) (e : Expr) → Good z body answer bound names frame h e → IsGiven E (address_or_line_of line) (given_at (span_of e) (typed E e)) → (expected : Option Kind) → (k : Kind) × V expected e k
  one_address line e good given expected =
      let g = good given.unbroken (used_where z.m (address_or_line_of line) (typed E e).meaning refl refl given.fitting) expected in
      let l = address_left z line (typed E e).meaning (piece z.s z.numbers names expected e).left g.left_is given.fitting in
      (l.0, as_value z h l.0 l.1 g.done)

  -- a row of values, of whichever kinds
  abbrev pub AnyListed : {m : _} → List Kind → Row_of-Expr m → Type 0
  AnyListed expected row = (ks : List Kind) × (length ks ≡ length (arguments_typed E row)) × IsListed z h ks (all_arguments z.s z.numbers names expected row) (λ before. values z.s z.functions frame before row)

  first_listed : {m : _} (e : Expr) (row : Row_of-Expr m) (expected : List Kind) → (k : Kind) × V (slice_get expected 0) e k → AnyListed (drop 1 expected) row → AnyListed expected (more_of-Expr e row)
  first_listed e row expected (k, first) (ks, count, rest) = (k ∷ ks, ap suc count, more_listed z h (λ before. values z.s z.functions frame before row) first rest)

  pub values_listed : {m : _} (row : Row_of-Expr m) (on : Receiver) (xs : List Argument) → list_all is_simple xs ≡ true → AreArguments E (wanted_by z.m on xs) (arguments_typed E row) → AllGood z body answer bound names frame h row
      → (expected : List Kind) → AnyListed expected row
  values_listed end_of-Expr on xs all are good expected = ([], refl, none_listed z h)
  values_listed (more_of-Expr first row) on [] all are good expected = absurd are
  values_listed (more_of-Expr first row) on (value_of b ∷ xs) all are good expected =
      first_listed first row expected (one_value (built_in b) first good.0 are.0 (slice_get expected 0)) (values_listed row on xs all are.1 good.1 (drop 1 expected))
  values_listed (more_of-Expr first row) on (address_or_line ∷ xs) all are good expected =
      first_listed first row expected (one_address (type_of_line z.m (structure_on z.m on)) first good.0 are.0 (slice_get expected 0)) (values_listed row on xs all are.1 good.1 (drop 1 expected))
  values_listed (more_of-Expr first row) on (new_line ∷ xs) all are good expected = absurd (cc all)
  values_listed (more_of-Expr first row) on (cache_line ∷ xs) all are good expected = absurd (cc all)
  values_listed (more_of-Expr first row) on (tbe_line ∷ xs) all are good expected = absurd (cc all)
  values_listed (more_of-Expr first row) on (own_cache_line ∷ xs) all are good expected = absurd (cc all)
  values_listed (more_of-Expr first row) on (own_tbe_line ∷ xs) all are good expected = absurd (cc all)
  values_listed (more_of-Expr first row) on (event ∷ xs) all are good expected = absurd (cc all)
  values_listed (more_of-Expr first row) on (state_of n ∷ xs) all are good expected = absurd (cc all)
