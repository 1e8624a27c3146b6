-- Arguments: their code puts what they give on the stack, the first one lowest.
use Rattle.std.proofs.Common.{◌≡◌, ◌∙◌, ◌++◌, true, cond, Option, Some, List, [], ◌∷◌, drop, length, map, reverse, slice_get, refl, sym, ap, subst, arith}
use Rattle.std.proofs.lemmas.List.{append-nil, append_assoc, reverse-append}
use Rattle.std.proofs.lemmas.Bool.{and_from}
use Rattle.slicc_ast.specs.declared.tree.declaration.Formal.{Formal}
use Rattle.slicc_ast.specs.declared.tree.expression.Expr.{Expr, Row_of-Expr, end_of-Expr, more_of-Expr}
use Rattle.ruby_value.specs.declared.kind.Kind.{Kind}
use Rattle.ruby_value.specs.declared.value.Value.{Value}
use Rattle.slicc_plan.specs.CallTypes.{formal_wanted}
use Rattle.slicc_plan.specs.Declarations.{within}
use Rattle.slicc_plan.specs.Environment.{BodySort, Bound, Environment}
use Rattle.slicc_plan.specs.ExpressionTypes.{arguments_typed, given_at, span_of, typed}
use Rattle.slicc_plan.specs.Meanings.{Meaning, value, unknown, Wanted, one_of, is_value, like_it, value_of_type}
use Rattle.slicc_plan.specs.Prelude.{formal_symbol}
use Rattle.slicc_plan.specs.TypeNumbers.{value_kind}
use Rattle.slicc_plan.specs.Types.{KnownType, type_in}
use Rattle.slicc_plan.proofs.There.{There, there_first, there_later}
use Rattle.rules_symbols.specs.CallArguments.{AreArguments, IsArgument, IsGiven}
use Rattle.rules_symbols.specs.TypedMeaning.{IsTypedIn}
use Rattle.acts.specs.Prelude.{Acting, ends, ◌>>=◌}
use Rattle.body_meaning.specs.declared.frame.Frame.{Frame}
use Rattle.body_meaning.specs.declared.thing.Thing.{Thing}
use Rattle.body_meaning.specs.Prelude.{value as value_of, value_in, values, with_value}
use Rattle.code_meaning.specs.Prelude.{Held, are_of_kinds, is_of_kind}
use Rattle.code_meaning.proofs.Gives.{Gives, ends_gives, then_gives, weaker_gives}
use Rattle.body_code.specs.declared.left.NameAt.{NameAt}
use Rattle.body_code.specs.Prelude.{Segment, all_arguments, kind_in, nothing, piece, ◌⨾◌}
use Rattle.code_laws.specs.Holding.{Holds, IsValueOf}
use Rattle.code_laws.specs.Same.{Same}
use Rattle.code_laws.specs.Setting.{IsSet, Setting, env_of, tables}
use Rattle.code_laws.specs.Whole.{AreWhole, IsWhole}
use Rattle.code_laws.proofs.Forms.{AllGood, Good}
use Rattle.code_laws.proofs.Good.{IsValued, R, held}
use Rattle.code_laws.proofs.Same.{at_once, each_same, joined, regrouped, same_gives, turned}
use Rattle.code_laws.proofs.Segments.{runs_as, runs_nothing, runs_then}
use Rattle.code_laws.proofs.Wanted.{wanted_valued}

module _ (z : Setting) (h : Held) where
  abbrev H : List Value → Held
  H stack = held z h stack

  -- values of these kinds, behind those before
  abbrev pub AreMore : List Kind → List Value → List Value → Type 0
  AreMore ks before vs = (new : List Value) × (vs ≡ before ++ new) × (are_of_kinds (tables z) ks new ≡ true)

  pub record IsListed (ks : List Kind) (code : Segment) (q : List Value → Acting (List Value)) : Type 0 where
    pub stays : (before : List Value) → Gives z.setup (AreMore ks before) (q before)
    pub does : (before stack : List Value) → R z h code (H (reverse before ++ stack)) (q before) (λ vs. H (reverse vs ++ stack))

  pub none_listed : IsListed [] nothing (λ before. ends before)
  none_listed = record {
    stays = λ before. ends_gives z.setup ([], sym (append-nil before), refl);
    does = λ before stack. runs_nothing z.p z.c z.calls z.setup (H (reverse before ++ stack)) before (λ vs. H (reverse vs ++ stack)) refl;
  }

  on_top : (before stack : List Value) (v : Value) → reverse (before ++ v ∷ []) ++ stack ≡ v ∷ (reverse before ++ stack)
  on_top before stack v = ap (λ s. s ++ stack) (reverse-append before (v ∷ []))

  more_of : (k : Kind) (ks : List Kind) (before : List Value) (x : Thing) → IsValueOf z k x → (vs : List Value) → AreMore ks (before ++ value_in x ∷ []) vs → AreMore (k ∷ ks) before vs
  more_of k ks before x of vs (new, is, are) = (
    value_in x ∷ new,
    is ∙ append_assoc before (value_in x ∷ []) new,
    and_from (is_of_kind (tables z) k (value_in x)) (are_of_kinds (tables z) ks new) (ap (λ (y : Thing). is_of_kind (tables z) k (value_in y)) of.is ∙ of.of_kind) are,
  )

  -- one by one
  same_row : (t : Acting Thing) (q : List Value → Acting (List Value)) (before : List Value) → Same z.setup (t >>= (λ x. q (before ++ value_in x ∷ []))) (with_value before t >>= q)
  unfolding with_value
  same_row t q before =
      turned z.setup
      (joined z.setup (regrouped z.setup t (λ x. ends (before ++ value_in x ∷ [])) q) (each_same z.setup t (λ x. at_once z.setup (before ++ value_in x ∷ []) q)))

  pub more_listed : {k : Kind} {ks : List Kind} {a b : Segment} {t : Acting Thing} (q : List Value → Acting (List Value)) → IsValued z h H k a t → IsListed ks b q → IsListed (k ∷ ks) (a ⨾ b) (λ before. with_value before t >>= q)
  more_listed {k} {ks} {a} {b} {t} q first rest = record {
    stays = λ before.
        same_gives z.setup (same_row t q before)
        (then_gives z.setup first.stays (λ x of. weaker_gives z.setup (rest.stays (before ++ value_in x ∷ [])) (λ vs are. more_of k ks before x of vs are)));
    does = λ before stack.
        runs_as z.p z.c z.calls z.setup (same_row t q before)
        (runs_then z.p z.c z.calls z.setup (first.does (reverse before ++ stack)) first.stays
        (λ x of.
        let T : List Value → Type 0 = λ s. R z h b (H s) (q (before ++ value_in x ∷ [])) (λ vs. H (reverse vs ++ stack)) in
        subst T (on_top before stack (value_in x)) (rest.does (before ++ value_in x ∷ []) stack)));
  }

-- The arguments of a function of the machine.

-- the type of a formal, and its kind
abbrev pub IsFormal : Setting → Formal → Type 0
IsFormal z f =
    (t : KnownType) × (k : Kind) × (type_in z.trees (within z.m) f.kind.text ≡ Some t) × (is_value z.m t ≡ true) × (value_kind z.trees z.m t ≡ Some k)
    × ((formal_symbol z.trees z.m f).kind ≡ k)

module _ (z : Setting) (is : IsSet z) (body : BodySort) (answer : Meaning) (bound : List Bound) (names : List NameAt) (frame : Frame) (h : Held)
    (typed_in : IsTypedIn z.s.number (env_of z body answer bound)) (holds : Holds z bound names frame h) where
  abbrev E : Environment
  E = env_of z body answer bound

  abbrev pub Listed : {m : _} → List Kind → List Kind → Row_of-Expr m → Type 0
  Listed ks expected row = IsListed z h ks (all_arguments z.s z.numbers names expected row) (λ before. values z.s z.functions frame before row)

  formal_kind : Formal → Kind
  formal_kind f = kind_in z.s (formal_symbol z.trees z.m f).kind

  one_formal : (f : Formal) → IsFormal z f → (e : Expr) → IsWhole z e → Good z body answer bound names frame h e → IsArgument E (formal_wanted E f) (given_at (span_of e) (typed E e)) → (expected : Option Kind)
      → IsValued z h (held z h) (kind_in z.s (formal_symbol z.trees z.m f).kind) (piece z.s z.numbers names expected e).code (value_of z.s z.functions frame e)
  one_formal f (t, k, named, valued, kind_of_t, symbol) e whole good argument expected =
      let wanted : formal_wanted E f ≡ one_of (t ∷ []) = ap (λ o. like_it (value_of_type z.m o)) named ∙ ap (λ b. like_it (cond b (value t) unknown)) valued in
      let W : Wanted → Type 0 = λ w. IsArgument E w (given_at (span_of e) (typed E e)) in
      let given : IsGiven E (one_of (t ∷ [])) (given_at (span_of e) (typed E e)) = subst W wanted argument in
      let V : Kind → Type 0 = λ x. IsValued z h (held z h) (kind_in z.s x) (piece z.s z.numbers names expected e).code (value_of z.s z.functions frame e) in
      subst V (sym symbol) (wanted_valued z is body answer bound names frame h typed_in holds t k kind_of_t e whole good given.unbroken given.fitting expected)

  pub formals_listed : {m : _} (row : Row_of-Expr m) (fs : List Formal) → ((f : Formal) → There fs f → IsFormal z f) → length (arguments_typed E row) ≡ length fs → AreArguments E (map (formal_wanted E) fs) (arguments_typed E row)
      → AreWhole z row → AllGood z body answer bound names frame h row → (expected : List Kind) → Listed (map (λ (f : Formal). kind_in z.s (formal_symbol z.trees z.m f).kind) fs) expected row
  formals_listed end_of-Expr [] formal count are whole good expected = none_listed z h
  formals_listed end_of-Expr (f ∷ fs) formal count are whole good expected = absurd (omega (arith, count))
  formals_listed (more_of-Expr first row) [] formal count are whole good expected = absurd (omega (arith, count))
  formals_listed (more_of-Expr first row) (f ∷ fs) formal count are whole good expected =
      more_listed z h (λ before. values z.s z.functions frame before row)
      (one_formal f (formal f (there_first f fs)) first whole.0 good.0 are.0 (slice_get expected 0))
      (formals_listed row fs (λ g there. formal g (there_later f g fs there)) (omega (arith, count)) are.1 whole.1 good.1 (drop 1 expected))
