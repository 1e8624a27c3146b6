-- What is decided to be reached is what calls lead to.
use Rattle.std.proofs.Common.{◌≡◌, ◌<◌, ◌==◌, ◌||◌, ℕ, Bool, true, false, zero, suc, Option, None, List, [], ◌∷◌, length, get_or, nat_lt, ltb-true, ltb-false, arith, refl, sym, ap, ◌∙◌, subst, Contains, slice_index_or}
use Rattle.std.proofs.lemmas.Bool.{eqb-true, eq-eqb}
use Rattle.std.proofs.lemmas.Option.{slice_get_past}
use Rattle.std.specs.List.{slice_get}
use Rattle.slicc_plan.specs.declared.part.Body.{Body}
use Rattle.slicc_plan.specs.Prelude.{IsReaching, Reaches, directly, through, calls_at, calls_or_none, is_reached, reaches_within}
use Rattle.slicc_flow.specs.declared.reach.Found.{Found}
use Rattle.slicc_flow.specs.Marks.{found_in}
use Rattle.slicc_flow.proofs.Reaching.{any_in, has, has_index, or_left}
use Rattle.slicc_flow.proofs.Marking.{Closed, closed_found, found_right}

contains_go : (k x : ℕ) (xs : List ℕ) (v : Bool) → (x == k) ≡ v → (has k xs ≡ true → Contains xs k) → (v || has k xs) ≡ true → Contains (x ∷ xs) k
contains_go k x xs true e later h = (0, omega arith, eqb-true x k e)
contains_go k x xs false e later h = let (i, below, is) = later h in (suc i, omega (arith, below), is)

contains_of : (k : ℕ) (xs : List ℕ) → has k xs ≡ true → Contains xs k
contains_of k [] h = absurd (cc)
contains_of k (x ∷ xs) h = contains_go k x xs (x == k) refl (contains_of k xs) h

or_later : (a b : Bool) → b ≡ true → (a || b) ≡ true
or_later true b h = refl
or_later false b h = h

has_at : (k : ℕ) (xs : List ℕ) (i : ℕ) → i < length xs → slice_index_or xs i k ≡ k → has k xs ≡ true
has_at k [] i below e = absurd (omega arith)
has_at k (x ∷ xs) zero below e = or_left (x == k) (has k xs) (eq-eqb x k e)
has_at k (x ∷ xs) (suc i) below e = or_later (x == k) (has k xs) (has_at k xs i (omega arith) e)

has_of : (k : ℕ) (xs : List ℕ) → Contains xs k → has k xs ≡ true
has_of k xs (i, below, e) = has_at k xs i below e

one_of : (a b : Bool) (R : Type 0) → (a ≡ true → R) → (b ≡ true → R) → (a || b) ≡ true → R
one_of true b R f g h = f refl
one_of false b R f g h = g h

-- what is reached with so many calls is reached
way_of : (depth : ℕ) (functions : List Body) (k : ℕ) (cs : List ℕ) → reaches_within depth functions k cs ≡ true → Reaches functions k cs
way_of zero functions k cs h = absurd (cc)
way_of (suc depth) functions k cs h =
    any_in (λ c. (c == k) || reaches_within depth functions k (calls_at functions c)) (Reaches functions k cs) cs
    (λ c among passes.
    one_of (c == k) (reaches_within depth functions k (calls_at functions c)) (Reaches functions k cs)
    (λ e. let same : c ≡ k = eqb-true c k e in directly (subst (Contains cs) same (contains_of c cs among)))
    (λ way. through c (contains_of c cs among) (way_of depth functions k (calls_at functions c) way)) passes) h

-- the calls of a function that is found are found
next_marked : (functions : List Body) (calls : List ℕ) (f : Found) (c : ℕ) → Closed functions calls (length functions) f → (v : Bool) → nat_lt c (length functions) ≡ v → (c < length functions → get_or f.seen c false ≡ true) → (d : ℕ) → has d (calls_at functions c) ≡ true → d < length functions → get_or f.seen d false ≡ true
next_marked functions calls f c all true e marked d among there =
    let (i, below, is) = has_index c f.queue (all.sound.queued c (marked (ltb-true c (length functions) e))) in
    let total = all.sound.counted in
    all.closed i (omega (arith, below)) below d (subst (λ x. has d (calls_at functions x) ≡ true) (sym is) among) there
next_marked functions calls f c all false e marked d among there =
    let past : slice_get functions c ≡ None = slice_get_past functions c (ltb-false c (length functions) e) in
    let nothing : calls_at functions c ≡ [] = ap calls_or_none past in
    let none : has d (calls_at functions c) ≡ false = ap (has d) nothing in
    absurd (cc)

way_found : (functions : List Body) (calls : List ℕ) (f : Found) (k : ℕ) (cs : List ℕ) → Closed functions calls (length functions) f → ((c : ℕ) → has c cs ≡ true → c < length functions → get_or f.seen c false ≡ true) → k < length functions → Reaches functions k cs → get_or f.seen k false ≡ true
way_found functions calls f k cs all marked below (directly among) = marked k (has_of k cs among) below
way_found functions calls f k cs all marked below (through c among way) =
    way_found functions calls f k (calls_at functions c) all
    (next_marked functions calls f c all (nat_lt c (length functions)) refl (marked c (has_of c cs among))) below way

pub reaching : IsReaching
reaching functions k calls below =
    let all : Closed functions calls (length functions) (found_in functions calls) = closed_found functions calls in (
      way_of (length functions) functions k calls,
      λ way. sym (found_right functions calls (found_in functions calls) refl k below) ∙ way_found functions calls (found_in functions calls) k calls all all.roots below way,
    )
