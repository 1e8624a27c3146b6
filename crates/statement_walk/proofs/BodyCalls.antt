-- Calls of functions by how many may be inside of one another, and how the formals of a function are bound one after another.
use Rattle.std.proofs.Common.{arith, ◌≡◌, ◌+◌, ℕ, suc, Option, None, Some, List, [], ◌∷◌, ◌++◌, map, slice_get, refl, sym, subst, ap, ◌∙◌, append_assoc, append-nil}
use Rattle.ruby_value.specs.declared.value.Value.{Value}
use Rattle.ruby_symbols.specs.declared.machine.FormalSymbol.{FormalSymbol}
use Rattle.acts.specs.declared.body_fault.BodyFault.TheVariants as own
use Rattle.acts.specs.Prelude.{stops}
use Rattle.body_meaning.specs.declared.frame.Bound.{Bound}
use Rattle.body_meaning.specs.Prelude.{Reading, bound_formals, calls_within, function_called, with_formal}

pub no_call_within : (s : Reading) (depth k : ℕ) (arguments : List Value) → depth ≡ 0 → calls_within s depth k arguments ≡ stops own.Reference
unfolding calls_within
no_call_within s depth k arguments is = rw is refl

pub call_within : (s : Reading) (depth inner k : ℕ) (arguments : List Value) → depth ≡ inner + 1
    → calls_within s depth k arguments ≡ function_called s (calls_within s inner) arguments (slice_get s.machine.functions k)
unfolding calls_within
call_within s depth inner k arguments is =
    let next : depth ≡ suc inner = omega arith in
    subst (λ (d : ℕ). calls_within s d k arguments ≡ function_called s (calls_within s inner) arguments (slice_get s.machine.functions k)) (sym next) refl

-- One more formal.

pub with_formal-append : (name : Option (List ℕ)) (v : Value) (names : List Bound) → with_formal name v names ≡ with_formal name v [] ++ names
with_formal-append None v names = refl
with_formal-append (Some name) v names = refl

pub bound-none : (formals : List FormalSymbol) → bound_formals formals [] ≡ []
bound-none [] = refl
bound-none (f ∷ fs) = refl

pub bound-more : (names after : List Bound) (formals : List FormalSymbol) (f : FormalSymbol) (fs : List FormalSymbol) (v : Value) (vs : List Value)
    → formals ≡ f ∷ fs → after ≡ names ++ with_formal f.name v [] → after ++ bound_formals fs vs ≡ names ++ bound_formals formals (v ∷ vs)
bound-more names after formals f fs v vs is more =
    ap (λ xs. xs ++ bound_formals fs vs) more
    ∙ append_assoc names (with_formal f.name v []) (bound_formals fs vs)
    ∙ ap (λ xs. names ++ xs) (sym (with_formal-append f.name v (bound_formals fs vs)))
    ∙ ap (λ xs. names ++ bound_formals xs (v ∷ vs)) (sym is)

pub bound-past : (names : List Bound) (formals : List FormalSymbol) (v : Value) (vs : List Value) → formals ≡ []
    → names ++ bound_formals formals vs ≡ names ++ bound_formals formals (v ∷ vs)
bound-past names formals v vs is = rw is refl

-- all arguments are bound
pub bound-all : (names : List Bound) (rest formals : List FormalSymbol) (vs : List Value)
    → ((later : List Value) → names ++ bound_formals rest later ≡ bound_formals formals (vs ++ later)) → names ≡ bound_formals formals vs
bound-all names rest formals vs all =
    sym (append-nil names) ∙ ap (λ xs. names ++ xs) (sym (bound-none rest)) ∙ all [] ∙ ap (bound_formals formals) (append-nil vs)

pub map-itself : {X : Type 0} (xs : List X) → map (λ x. x) xs ≡ xs
map-itself [] = refl
map-itself (x ∷ xs) = ap (λ ys. x ∷ ys) (map-itself xs)
