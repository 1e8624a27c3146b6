-- What is proved of an expression and its code: the code leaves what the expression's type is, what the expression gives is of that, and the
-- code does what the expression does and leaves what it gives.
use Rattle.std.proofs.Common.{◌≡◌, ℕ, true, List, [], ◌∷◌, refl, sym, subst}
use Rattle.ruby_value.specs.declared.kind.Kind.{Kind}
use Rattle.ruby_value.specs.declared.value.Value.{Value}
use Rattle.slicc_plan.specs.Meanings.{Meaning}
use Rattle.acts.specs.Prelude.{Acting, ends, ◌>>=◌}
use Rattle.body_meaning.specs.declared.thing.Thing.{Thing}
use Rattle.body_meaning.specs.declared.thing.Thing.TheVariants as thing
use Rattle.body_meaning.specs.Prelude.{value_in}
use Rattle.code_meaning.specs.Prelude.{Held, is_of_kind, of_one_sort}
use Rattle.code_meaning.proofs.Gives.{Gives, ends_gives, then_gives}
use Rattle.body_code.specs.declared.left.Left.{Left}
use Rattle.body_code.specs.declared.left.Left.TheVariants as left
use Rattle.body_code.specs.Prelude.{Piece, Segment, giving, known, then, ◌⨾◌}
use Rattle.action_code.specs.declared.instr.Instr.TheVariants as instr
use Rattle.code_laws.specs.Holding.{IsLeft, IsValueOf, OfLeft, left_on}
use Rattle.code_laws.specs.Runs.{Runs}
use Rattle.code_laws.specs.Same.{Same}
use Rattle.code_laws.specs.Setting.{Setting, tables}
use Rattle.code_laws.proofs.Same.{same_gives}
use Rattle.code_laws.proofs.Segments.{runs_as, runs_nothing, runs_plain, runs_then}

module _ (z : Setting) (h : Held) where
  abbrev pub held : List Value → Held
  held stack = record h { stack = stack }

  abbrev pub R : {A : Type 0} → Segment → Held → Acting A → (A → Held) → Type 0
  R code k q after = Runs z.p z.c z.calls z.setup code k q after

  -- from what is held by what the rest of the stack is
  pub record IsDone (from : List Value → Held) (p : Piece) (t : Acting Thing) : Type 0 where
    pub stays : Gives z.setup (OfLeft z h p.left) t
    pub does : (stack : List Value) → R p.code (from stack) t (left_on p.left (held stack))

  -- where it is a value of this kind
  pub record IsValued (from : List Value → Held) (k : Kind) (code : Segment) (t : Acting Thing) : Type 0 where
    pub stays : Gives z.setup (IsValueOf z k) t
    pub does : (stack : List Value) → R code (from stack) t (λ x. held (value_in x ∷ stack))

  pub record IsGood (meaning : Meaning) (p : Piece) (t : Acting Thing) : Type 0 where
    pub left_is : IsLeft z meaning p.left
    pub done : IsDone held p t

  module _ {from : List Value → Held} where
    pub as_value : {p : Piece} {t : Acting Thing} (k : Kind) → p.left ≡ left.Value k → IsDone from p t → IsValued from k p.code t
    as_value {p} {t} k is done = record {
      stays = subst (λ l. Gives z.setup (OfLeft z h l) t) is done.stays;
      does = λ stack. subst (λ l. R p.code (from stack) t (left_on l (held stack))) is (done.does stack);
    }

    pub value_done : {k : Kind} {code : Segment} {t : Acting Thing} → IsValued from k code t → IsDone from (record { left = left.Value k; code = code }) t
    value_done v = record { stays = v.stays; does = v.does }

    -- of what does the same
    pub done_as : {p : Piece} {t u : Acting Thing} → Same z.setup t u → IsDone from p t → IsDone from p u
    done_as same done = record { stays = same_gives z.setup same done.stays; does = λ stack. runs_as z.p z.c z.calls z.setup same (done.does stack) }

    pub done_then : {p : Piece} {t : Acting Thing} (next : Left → Piece) (f : Thing → Acting Thing) → IsDone from p t
        → ((x : Thing) → OfLeft z h p.left x → IsDone (λ stack. left_on p.left (held stack) x) (next p.left) (f x)) → IsDone from (then p next) (t >>= f)
    done_then next f done each = record {
      stays = then_gives z.setup done.stays (λ x of. let e = each x of in e.stays);
      does = λ stack. runs_then z.p z.c z.calls z.setup (done.does stack) done.stays (λ x of. let e = each x of in e.does stack);
    }

    -- a value, and code that makes another of it
    pub valued_then : {k l : Kind} {a b : Segment} {t : Acting Thing} (f : Thing → Acting Thing) → IsValued from k a t
        → ((v : Value) → is_of_kind (tables z) k v ≡ true → IsValued (λ stack. held (v ∷ stack)) l b (f (thing.Value v))) → IsValued from l (a ⨾ b) (t >>= f)
    valued_then {k} {l} {b = b} f first each = record {
      stays = then_gives z.setup first.stays (λ x of. let e = each of.value of.of_kind in subst (λ y. Gives z.setup (IsValueOf z l) (f y)) (sym of.is) e.stays);
      does = λ stack.
          runs_then z.p z.c z.calls z.setup (first.does stack) first.stays
          (λ x of. let e = each of.value of.of_kind in subst (λ y. R b (held (value_in y ∷ stack)) (f y) (λ w. held (value_in w ∷ stack))) (sym of.is) (e.does stack));
    }

  -- a value that is given at once
  pub value_given : (k : Kind) (v : Value) → is_of_kind (tables z) k v ≡ true → Gives z.setup (IsValueOf z k) (ends (thing.Value v))
  value_given k v is = ends_gives z.setup (record { value = v; is = refl; of_kind = is })

  -- a value that is pushed
  pub pushed_done : (k : Kind) (v : Value) (n : ℕ) → is_of_kind (tables z) k (of_one_sort v) ≡ true → IsDone held (giving k (instr.Push v n ∷ [])) (ends (thing.Value (of_one_sort v)))
  pushed_done k v n is = record {
    stays = value_given k (of_one_sort v) is;
    does = λ stack. runs_plain z.p z.c z.calls z.setup (instr.Push v n) (held stack) (of_one_sort v ∷ stack) (thing.Value (of_one_sort v)) _ refl refl;
  }

  -- what is known as the code is written
  pub known_done : (l : Left) (t : Thing) → OfLeft z h l t → ((stack : List Value) → left_on l (held stack) t ≡ held stack) → IsDone held (known l) (ends t)
  known_done l t of same = record {
    stays = ends_gives z.setup of;
    does = λ stack. runs_nothing z.p z.c z.calls z.setup (held stack) t (left_on l (held stack)) (same stack);
  }
