-- That nothing is broken is what it is for a program to fit place by place.
use Rattle.std.proofs.Common.{◌≡◌, ℕ, zero, suc, ◌+◌, ◌<◌, ◌≤◌, Option, None, Some, List, [], ◌∷◌, length, slice_get, refl, ap, sym, subst, ◌∙◌, arith}
use Rattle.std.proofs.lemmas.Option.{slice_get_within}
use Rattle.action_code.specs.declared.instr.Code.{Code}
use Rattle.action_code.specs.declared.instr.Instr.{Instr}
use Rattle.action_code.specs.declared.program.Program.{Program}
use Rattle.action_code.specs.declared.shape.Shape.{Shape}
use Rattle.action_code.specs.EachPlace.{FitsBody, FitsEachPlace, shape_before, ways_before}
use Rattle.action_code.specs.Fits.{Fits}
use Rattle.action_code.specs.Rules.{Broken, broken_from, broken_here, broken_in, broken_in_bodies, or_later, rule_at}
use Rattle.action_code.proofs.EachRule.{keeps_from, keeps_to}
use Rattle.action_code.proofs.Steps.{from, from_end, from_is, there}

no_rule : (o : Option ℕ) (body at : ℕ) (s : Shape) (later : Option Broken) → broken_here o body at s later ≡ None → (o ≡ None) × (later ≡ None)
no_rule None body at s later h = (refl, h)
no_rule (Some rule) body at s later h = absurd (cc)

none_here : (o : Option ℕ) (body at : ℕ) (s : Shape) (later : Option Broken) → o ≡ None → later ≡ None → broken_here o body at s later ≡ None
none_here None body at s later h k = k
none_here (Some rule) body at s later h k = absurd (cc)

-- of a body

nothing_from : (p : Program) (body : ℕ) (c : Code) (at : ℕ) → from p body c 0 ≡ None → at ≤ length c.instructions → from p body c at ≡ None
nothing_from p body c zero none le = none
nothing_from p body c (suc at) none le =
    let before : from p body c at ≡ None = nothing_from p body c at none (omega (arith, le)) in
    let i = there c.instructions at (omega (arith, le)) in
    let next : from p body c (at + 1) ≡ None =
    (no_rule (rule_at p body c at (ways_before p body c at) i.0) body at (shape_before p body c at) (from p body c (at + 1))
    (sym (from_is p body c at i.0 i.1) ∙ before)).1 in
    let e : at + 1 ≡ suc at = omega arith in
    let P : ℕ → Type 0 = λ k. from p body c k ≡ None in
    subst P e next

nothing_at : (p : Program) (body : ℕ) (c : Code) (at : ℕ) (i : Instr) → from p body c at ≡ None → slice_get c.instructions at ≡ Some i
    → rule_at p body c at (ways_before p body c at) i ≡ None
nothing_at p body c at i none found =
    (no_rule (rule_at p body c at (ways_before p body c at) i) body at (shape_before p body c at) (from p body c (at + 1))
    (sym (from_is p body c at i found) ∙ none)).0

all_from : (p : Program) (body : ℕ) (c : Code) (n at : ℕ) → at + n ≡ length c.instructions
    → ((k : ℕ) (i : Instr) → slice_get c.instructions k ≡ Some i → rule_at p body c k (ways_before p body c k) i ≡ None)
    → from p body c at ≡ None
all_from p body c zero at e none = from_end p body c at (omega (arith, e))
all_from p body c (suc n) at e none =
    let i = there c.instructions at (omega (arith, e)) in
    from_is p body c at i.0 i.1
    ∙ none_here (rule_at p body c at (ways_before p body c at) i.0) body at (shape_before p body c at) (from p body c (at + 1))
    (none at i.0 i.1) (all_from p body c n (at + 1) (omega (arith, e)) none)

body_from : (p : Program) (body : ℕ) (c : Code) (instructions : List Instr) → instructions ≡ c.instructions → broken_in p body c instructions ≡ None
    → (0 < length instructions) × (from p body c 0 ≡ None)
body_from p body c [] same h = absurd (cc)
body_from p body c (i ∷ instructions) same h =
    (omega arith, ap (broken_from p body c [] 0) (sym same) ∙ h)

body_to : (p : Program) (body : ℕ) (c : Code) (instructions : List Instr) → instructions ≡ c.instructions → 0 < length instructions
    → from p body c 0 ≡ None → broken_in p body c instructions ≡ None
body_to p body c [] same h none = absurd (omega (arith, h))
body_to p body c (i ∷ instructions) same h none = ap (broken_from p body c [] 0) same ∙ none

fits_body_from : (p : Program) (body : ℕ) (c : Code) → broken_in p body c c.instructions ≡ None → FitsBody p body c
fits_body_from p body c h =
    let facts = body_from p body c c.instructions refl h in
    record {
      has_an_instruction = facts.0;
      each = λ at i found. keeps_from p body c at (ways_before p body c at) i
          (nothing_at p body c at i (nothing_from p body c at facts.1 (le_of at i found)) found);
    }
  where
    le_of : (at : ℕ) (i : Instr) → slice_get c.instructions at ≡ Some i → at ≤ length c.instructions
    le_of at i found = let lt : at < length c.instructions = slice_get_within c.instructions at i found in omega (arith, lt)

fits_body_to : (p : Program) (body : ℕ) (c : Code) → FitsBody p body c → broken_in p body c c.instructions ≡ None
fits_body_to p body c f =
    body_to p body c c.instructions refl f.has_an_instruction
    (all_from p body c (length c.instructions) 0 (omega arith)
    (λ at i found. keeps_to p body c at (ways_before p body c at) i (f.each at i found)))

-- of all bodies

none_of : (o later : Option Broken) → or_later o later ≡ None → (o ≡ None) × (later ≡ None)
none_of None later h = (refl, h)
none_of (Some x) later h = absurd (cc)

none_or : (o later : Option Broken) → o ≡ None → later ≡ None → or_later o later ≡ None
none_or None later h k = k
none_or (Some x) later h k = absurd (cc)

same_code : (c d : Code) → Some c ≡ Some d → c ≡ d
same_code c d h = cc

bodies_from : (p : Program) (bodies : List Code) (n k m : ℕ) (c : Code) → broken_in_bodies p n bodies ≡ None → slice_get bodies k ≡ Some c → n + k ≡ m
    → broken_in p m c c.instructions ≡ None
bodies_from p [] n k m c h found e = absurd (cc)
bodies_from p (d ∷ bodies) n zero m c h found e =
    let number : n ≡ m = omega (arith, e) in
    let is : d ≡ c = same_code d c found in
    let here : broken_in p n d d.instructions ≡ None = (none_of (broken_in p n d d.instructions) (broken_in_bodies p (n + 1) bodies) h).0 in
    let P : ℕ → Type 0 = λ j. broken_in p j c c.instructions ≡ None in
    let Q : Code → Type 0 = λ x. broken_in p n x x.instructions ≡ None in
    subst P number (subst Q is here)
bodies_from p (d ∷ bodies) n (suc k) m c h found e =
    bodies_from p bodies (n + 1) k m c (none_of (broken_in p n d d.instructions) (broken_in_bodies p (n + 1) bodies) h).1 found (omega (arith, e))

bodies_to : (p : Program) (bodies : List Code) (n : ℕ)
    → ((k : ℕ) (c : Code) → slice_get bodies k ≡ Some c → broken_in p (n + k) c c.instructions ≡ None) → broken_in_bodies p n bodies ≡ None
bodies_to p [] n all = refl
bodies_to p (d ∷ bodies) n all =
    none_or (broken_in p n d d.instructions) (broken_in_bodies p (n + 1) bodies)
    (let P : ℕ → Type 0 = λ j. broken_in p j d d.instructions ≡ None in let e : n + 0 ≡ n = omega arith in subst P e (all zero d refl))
    (bodies_to p bodies (n + 1)
    (λ k c found. let P : ℕ → Type 0 = λ j. broken_in p j c c.instructions ≡ None in
    let e : n + suc k ≡ n + 1 + k = omega arith in subst P e (all (suc k) c found)))

pub each_place_from : (p : Program) → Fits p → FitsEachPlace p
each_place_from p fits body c found =
    fits_body_from p body c (bodies_from p p.bodies 0 body body c fits found (omega arith))

pub each_place_to : (p : Program) → FitsEachPlace p → Fits p
each_place_to p all =
    bodies_to p p.bodies 0 (λ k c found. let P : ℕ → Type 0 = λ j. broken_in p j c c.instructions ≡ None in
    let e : k ≡ 0 + k = omega arith in subst P e (fits_body_to p k c (all k c found)))
