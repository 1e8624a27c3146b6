-- From one place of a body to the next, and from one body to the next: the ways that lead on, and what is broken from there on.
use Rattle.std.proofs.Common.{◌≡◌, ℕ, zero, suc, ◌+◌, ◌<◌, ◌≤◌, Bool, true, false, None, Some, Option, Err, List, [], ◌∷◌, ◌++◌, length, take, drop, get_or, slice_get, slice_set, refl, ap, sym, subst, ◌∙◌, arith}
use Rattle.std.proofs.lemmas.List.{drop_all, drop_more, length-take-le, take_more}
use Rattle.std.proofs.lemmas.Option.{get_or_from_slice_get, slice_get_within}
use Rattle.action_code.specs.declared.arrivals.Arrival.{Arrival}
use Rattle.action_code.specs.declared.instr.Code.{Code}
use Rattle.action_code.specs.declared.instr.Instr.{Instr}
use Rattle.action_code.specs.declared.program.MachineDecl.{MachineDecl}
use Rattle.action_code.specs.declared.program.Program.{Program}
use Rattle.action_code.specs.declared.shape.Shape.{Shape}
use Rattle.action_code.specs.declared.sign.Sign.{Sign}
use Rattle.action_code.specs.declared.verified.CodeFault.{CodeFault}
use Rattle.action_code.specs.declared.verified.CodeFault.TheVariants.{Broken as BrokenAt, NoMemory}
use Rattle.action_code.specs.Answers.{Answers}
use Rattle.action_code.specs.EachPlace.{broken_at, broken_by, shape_before, ways_before, ways_from}
use Rattle.action_code.specs.Rules.{Broken, broken_from, broken_here, broken_in, broken_in_bodies, least_broken, or_later, rule_at, rule_broken, stays_within}
use Rattle.action_code.specs.Sign.{sign}
use Rattle.action_code.specs.Table.{Holds}
use Rattle.action_code.specs.Ways.{Way, arrived, no_arrival, shape_after, shape_of, ways_after, with_ways}
use Rattle.action_code.proofs.Places.{holds_past}

last_kept : (a b c d e f : Bool) → least_broken a b c d e f ≡ None → f ≡ true
last_kept false b c d e f h = absurd (cc)
last_kept true false c d e f h = absurd (cc)
last_kept true true false d e f h = absurd (cc)
last_kept true true true false e f h = absurd (cc)
last_kept true true true true false f h = absurd (cc)
last_kept true true true true true false h = absurd (cc)
last_kept true true true true true true h = refl

pub stays_within_kept : (m : Option MachineDecl) (count at : ℕ) (clash : Bool) (s : Shape) (sg : Sign) (i : Instr)
    → rule_broken m count at clash s sg i ≡ None → stays_within count at i ≡ true
stays_within_kept m count at clash s sg i h = last_kept _ _ _ _ _ _ h

-- the first instructions of a body, one more
taken : (instructions : List Instr) (at : ℕ) (i : Instr) → slice_get instructions at ≡ Some i
    → take (at + 1) instructions ≡ take at instructions ++ i ∷ []
taken instructions at i h =
    let lt : at < length instructions = slice_get_within instructions at i h in
    let is : get_or instructions at i ≡ i = get_or_from_slice_get instructions at i i h in
    take_more instructions at i lt ∙ ap (λ j. take at instructions ++ j ∷ []) is

-- those that are left
left : {A : Type 0} (xs : List A) (at : ℕ) (x : A) → slice_get xs at ≡ Some x → drop at xs ≡ x ∷ drop (at + 1) xs
left xs at x h =
    let lt : at < length xs = slice_get_within xs at x h in
    let is : get_or xs at x ≡ x = get_or_from_slice_get xs at x x h in
    drop_more xs at x lt ∙ ap (λ y. y ∷ drop (at + 1) xs) is

ways_more : (p : Program) (body : ℕ) (c : Code) (xs : List Instr) (i : Instr) (ways : List Way) (at n : ℕ) → at + length xs ≡ n
    → ways_from p body c ways at (xs ++ i ∷ [])
    ≡ ways_after p body c n (shape_of (arrived n (ways_from p body c ways at xs))) i (ways_from p body c ways at xs)
ways_more p body c [] i ways at n e =
    let same : at ≡ n = omega (arith, e) in
    ap (λ k. ways_after p body c k (shape_of (arrived k ways)) i ways) same
ways_more p body c (x ∷ xs) i ways at n e =
    ways_more p body c xs i (ways_after p body c at (shape_of (arrived at ways)) x ways) (at + 1) n (omega (arith, e))

pub ways_before_next : (p : Program) (body : ℕ) (c : Code) (at : ℕ) (i : Instr) → slice_get c.instructions at ≡ Some i
    → ways_before p body c (at + 1) ≡ ways_after p body c at (shape_before p body c at) i (ways_before p body c at)
ways_before_next p body c at i h =
    let lt : at < length c.instructions = slice_get_within c.instructions at i h in
    let many : length (take at c.instructions) ≡ at = length-take-le at c.instructions (omega (arith, lt)) in
    ap (ways_from p body c [] 0) (taken c.instructions at i h)
    ∙ ways_more p body c (take at c.instructions) i [] 0 at (omega (arith, many))

-- where nothing is broken at a place, what is broken later is the first
here_none : (o : Option ℕ) (body at : ℕ) (s : Shape) (later : Option Broken) → broken_here o body at s None ≡ None
    → broken_here o body at s later ≡ later
here_none None body at s later h = refl
here_none (Some rule) body at s later h = absurd (cc)

here_some : (o : Option ℕ) (body at : ℕ) (s : Shape) (later : Option Broken) (x : Broken) → broken_here o body at s None ≡ Some x
    → broken_here o body at s later ≡ Some x
here_some None body at s later x h = absurd (cc)
here_some (Some rule) body at s later x h = h

-- the first that is broken from a place on, where the ways from all earlier instructions are known
abbrev pub from : Program → ℕ → Code → ℕ → Option Broken
from p body c at = broken_from p body c (ways_before p body c at) at (drop at c.instructions)

pub from_is : (p : Program) (body : ℕ) (c : Code) (at : ℕ) (i : Instr) → slice_get c.instructions at ≡ Some i
    → from p body c at
    ≡ broken_here (rule_at p body c at (ways_before p body c at) i) body at (shape_before p body c at) (from p body c (at + 1))
from_is p body c at i h =
    ap (broken_from p body c (ways_before p body c at) at) (left c.instructions at i h)
    ∙ ap (λ ways. broken_here (rule_at p body c at (ways_before p body c at) i) body at (shape_before p body c at)
    (broken_from p body c ways (at + 1) (drop (at + 1) c.instructions))) (sym (ways_before_next p body c at i h))

at_is : (p : Program) (body : ℕ) (c : Code) (at : ℕ) (i : Instr) → slice_get c.instructions at ≡ Some i
    → broken_at p body c at ≡ broken_here (rule_at p body c at (ways_before p body c at) i) body at (shape_before p body c at) None
at_is p body c at i h = ap (broken_by p body c at) h

pub there : {A : Type 0} (xs : List A) (at : ℕ) → at < length xs → (x : A) × (slice_get xs at ≡ Some x)
there [] at h = absurd (omega (arith, h))
there (x ∷ xs) zero h = (x, refl)
there (x ∷ xs) (suc at) h = there xs at (omega (arith, h))

pub from_next : (p : Program) (body : ℕ) (c : Code) (at : ℕ) → at < length c.instructions → broken_at p body c at ≡ None
    → from p body c at ≡ from p body c (at + 1)
from_next p body c at lt none =
    let i = there c.instructions at lt in
    from_is p body c at i.0 i.1
    ∙ here_none (rule_at p body c at (ways_before p body c at) i.0) body at (shape_before p body c at) (from p body c (at + 1))
    (sym (at_is p body c at i.0 i.1) ∙ none)

pub from_here : (p : Program) (body : ℕ) (c : Code) (at : ℕ) (x : Broken) → at < length c.instructions → broken_at p body c at ≡ Some x
    → from p body c at ≡ Some x
from_here p body c at x lt some =
    let i = there c.instructions at lt in
    from_is p body c at i.0 i.1
    ∙ here_some (rule_at p body c at (ways_before p body c at) i.0) body at (shape_before p body c at) (from p body c (at + 1)) x
    (sym (at_is p body c at i.0 i.1) ∙ some)

pub from_end : (p : Program) (body : ℕ) (c : Code) (at : ℕ) → length c.instructions ≤ at → from p body c at ≡ None
from_end p body c at le = ap (broken_from p body c (ways_before p body c at) at) (drop_all at c.instructions le)

-- a fault that tells of the one tells of the other
pub answers_through : (A B : Type 0) (found first : Option Broken) (fault : CodeFault)
    → ((x : Broken) → found ≡ Some x → first ≡ Some x) → Answers {A = A} found (Err fault) → Answers {A = B} first (Err fault)
answers_through A B found first (BrokenAt rule body at kept) carries h = carries (record { rule = rule; body = body; at = at; kept = kept }) h
answers_through A B found first NoMemory carries h = h

-- from one body to the next
pub bodies_next : (p : Program) (bodies : List Code) (body : ℕ) (c : Code) → slice_get bodies body ≡ Some c
    → broken_in_bodies p body (drop body bodies)
    ≡ or_later (broken_in p body c c.instructions) (broken_in_bodies p (body + 1) (drop (body + 1) bodies))
bodies_next p bodies body c h = ap (broken_in_bodies p body) (left bodies body c h)

pub or_some : (o later : Option Broken) (x : Broken) → o ≡ Some x → or_later o later ≡ Some x
or_some None later x h = absurd (cc)
or_some (Some y) later x h = h

pub or_none : (o later : Option Broken) → o ≡ None → or_later o later ≡ later
or_none None later h = refl
or_none (Some y) later h = absurd (cc)

same_some : {A : Type 0} (x y : A) → Some x ≡ Some y → x ≡ y
same_some x y h = cc

-- the ways that are kept for the next place, after those from an instruction were added to what was kept for this one
pub went_on : (p : Program) (body : ℕ) (c : Code) (at : ℕ) (i : Instr) (table replaced after : List Arrival) (a : Arrival) (s : Shape) (sg : Sign)
    → slice_get c.instructions at ≡ Some i → at < length table → Holds table (ways_before p body c at) at
    → Some a ≡ slice_get table at → s ≡ shape_of a → sg ≡ sign p body c s i → replaced ≡ slice_set table at no_arrival
    → ((ways : List Way) (from : ℕ) → Holds replaced ways from → Holds after (with_ways at i (shape_after p c s i sg) ways) from)
    → Holds after (ways_before p body c (at + 1)) (at + 1)
went_on p body c at i table replaced after a s sg found lt holds was shape sign_is replaced_is adds =
    let W : List Way = ways_before p body c at in
    let P : List Arrival → Type 0 = λ t. Holds t W (at + 1) in
    let held : Holds replaced W (at + 1) = subst P (sym replaced_is) (holds_past table at no_arrival W holds) in
    let arrival : a ≡ arrived at W = same_some a (arrived at W) (was ∙ holds at (omega arith) lt) in
    let before : s ≡ shape_before p body c at = shape ∙ ap shape_of arrival in
    let step : with_ways at i (shape_after p c s i sg) W ≡ ways_before p body c (at + 1) =
    ap (λ g. with_ways at i (shape_after p c s i g) W) sign_is
    ∙ ap (λ t. ways_after p body c at t i W) before
    ∙ sym (ways_before_next p body c at i found) in
    let Q : List Way → Type 0 = λ ways. Holds after ways (at + 1) in
    subst Q step (adds W (at + 1) held)
