-- The front of a list is a ready message before which no other ready one comes.
use Rattle.std.proofs.Common.{◌≡◌, ℕ, Bool, true, false, Option, None, Some, List, [], ◌∷◌, cond, IsTrue, Contains, refl, sym, ◌∙◌, subst, ⊎_elim, filter, arith}
use mathlib.Core.Bool.{false≢true}
use Rattle.std.proofs.lemmas.Bool.Decides.{nat_tests}
use Rattle.ruby_value.specs.declared.message.MsgNo.{MsgNo}
use Rattle.ruby_value.specs.Prelude.{IsBefore, number_before, comes_before, earlier, least, front, ComesBefore, IsFirstReady, IsFront}
use Rattle.ruby_value.proofs.Contained.{Contains-cons_cases, Contains-cons_here, Contains-cons_there}

pub number-comes : (a b : MsgNo) → number_before a b ≡ true → IsBefore a b
number-comes a b is = grind (arith, nat_tests, is)

module _ {X : Type 0} (is_ready : X → Bool) (arrival : X → ℕ) (number : X → MsgNo) where
  abbrev Before : X → X → Type 0
  Before a b = ComesBefore arrival number a b

  abbrev FrontOf : List X → Option X → Type 0
  FrontOf xs o = IsFront is_ready arrival number xs o

  comes : (a b : X) → comes_before arrival number a b ≡ true → Before a b
  comes a b is = grind (arith, nat_tests, is)

  comes-not : (a b : X) → comes_before arrival number a b ≡ false → Before a b → ⊥
  comes-not a b is before = grind (arith, nat_tests, is, before)

  itself : (a : X) → Before a a → ⊥
  itself a before = grind (arith, before)

  -- the later of two doesn't come before the earlier
  opposite : (a b : X) → Before a b → Before b a → ⊥
  opposite a b before after = grind (arith, before, after)

  -- what comes before one of two that are in order comes before the later
  passing : (a b c : X) → Before a c → (Before b c → ⊥) → Before a b
  passing a b c before not = grind (arith, before, not)

  -- no ready one of the list comes before this one
  abbrev IsFirst : List X → X → Type 0
  IsFirst xs x = (other : X) → Contains xs other → IsTrue (is_ready other) → Before other x → ⊥

  -- nor one more, where that isn't ready or doesn't come before it
  first-more : (y x : X) (ys : List X) → (IsTrue (is_ready y) → Before y x → ⊥) → IsFirst ys x → IsFirst (y ∷ ys) x
  first-more y x ys not first = λ other has ready before.
      ⊎_elim
      (λ same. not (subst (λ z. IsTrue (is_ready z)) (sym same) ready) (subst (λ z. Before z x) (sym same) before))
      (λ there. first other there ready before)
      (Contains-cons_cases y other ys has)

  -- one that isn't ready changes nothing
  passed-over : (x : X) (xs : List X) (o : Option X) → is_ready x ≡ false → FrontOf xs o → FrontOf (x ∷ xs) o
  passed-over x xs None not is = λ other has ready.
      ⊎_elim
      (λ same. absurd (false≢true (sym not ∙ subst (λ z. IsTrue (is_ready z)) (sym same) ready)))
      (λ there. is other there ready)
      (Contains-cons_cases x other xs has)
  passed-over x xs (Some o) not is = record {
    held = Contains-cons_there x o xs is.held;
    ready = is.ready;
    first = first-more x o xs (λ ready before. false≢true (sym not ∙ ready)) is.first;
  }

  -- of a ready one and the front of the rest the earlier is the front
  earlier-of : (x : X) (xs : List X) (o : X) (b : Bool) → comes_before arrival number o x ≡ b → IsTrue (is_ready x)
      → IsFirstReady is_ready arrival number xs o → IsFirstReady is_ready arrival number (x ∷ xs) (cond b o x)
  earlier-of x xs o true is ready_x rest = record {
    held = Contains-cons_there x o xs rest.held;
    ready = rest.ready;
    first = first-more x o xs (λ ready before. opposite o x (comes o x is) before) rest.first;
  }
  earlier-of x xs o false is ready_x rest = record {
    held = Contains-cons_here x xs;
    ready = ready_x;
    first = first-more x x xs (λ ready before. itself x before)
        (λ other has ready before. rest.first other has ready (passing other o x before (comes-not o x is)));
  }

  taken-in : (x : X) (xs : List X) (o : Option X) → IsTrue (is_ready x) → FrontOf xs o
      → FrontOf (x ∷ xs) (Some (earlier arrival number x o))
  taken-in x xs None ready_x is = record {
    held = Contains-cons_here x xs;
    ready = ready_x;
    first = first-more x x xs (λ ready before. itself x before) (λ other has ready before. is other has ready);
  }
  taken-in x xs (Some o) ready_x is = earlier-of x xs o (comes_before arrival number o x) refl ready_x is

  front-by : (x : X) (xs : List X) (b : Bool) → is_ready x ≡ b → FrontOf xs (front is_ready arrival number xs)
      → FrontOf (x ∷ xs) (least arrival number (cond b (x ∷ filter is_ready xs) (filter is_ready xs)))
  front-by x xs true is rest = taken-in x xs (front is_ready arrival number xs) is rest
  front-by x xs false is rest = passed-over x xs (front is_ready arrival number xs) is rest

  pub front-is : (xs : List X) → FrontOf xs (front is_ready arrival number xs)
  front-is [] = λ x has ready. absurd (omega (arith, has.1))
  front-is (x ∷ xs) = front-by x xs (is_ready x) refl (front-is xs)
