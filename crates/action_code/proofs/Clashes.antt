-- The ways to a place don't clash exactly where each has the shape of the first.
use Rattle.std.proofs.Common.{◌≡◌, ℕ, zero, suc, Bool, true, false, not, ◌&&◌, ◌||◌, ◌==◌, Option, None, Some, List, [], ◌∷◌, slice_get, refl, ap, sym, ◌∙◌, arith, inl, inr, if◌then◌else◌, eq-eqb}
use Rattle.std.specs.Prelude.{unwrap_or}
use Rattle.std.specs.Str.{bytes_eq}
use Rattle.std.proofs.lemmas.Bool.{cases_eq}
use Rattle.std.proofs.lemmas.Bool.Decides.{nat_tests}
use Rattle.ruby_value.specs.declared.kind.Kind.{Kind}
use Rattle.ruby_value.specs.declared.kind.Kind.TheVariants as kind
use Rattle.ruby_value.specs.Prelude.{equal_kinds, same_kinds}
use Rattle.action_code.specs.declared.arrivals.Arrival.{Arrival}
use Rattle.action_code.specs.declared.shape.Shape.{Shape}
use Rattle.action_code.specs.Shapes.{empty_shape, same_shape}
use Rattle.action_code.specs.Ways.{Way, arrive, arrive_after, arrived, shape_of}

equal_self : (k : Kind) → equal_kinds k k ≡ true
equal_self kind.Bool = refl
equal_self kind.Int = refl
equal_self (kind.Enum a m) = eq-eqb a a refl
equal_self kind.Addr = refl
equal_self kind.Machine = refl
equal_self kind.Dest = refl
equal_self kind.Block = refl
equal_self (kind.Entry a) = eq-eqb a a refl
equal_self (kind.Tbe a) = eq-eqb a a refl

both : (a b : Bool) → a ≡ true → b ≡ true → (a && b) ≡ true
both true b h k = k
both false b h k = absurd (cc)

kinds_self : (ks : List Kind) → same_kinds ks ks ≡ true
kinds_self [] = refl
kinds_self (k ∷ ks) = both (equal_kinds k k) (same_kinds ks ks) (equal_self k) (kinds_self ks)

numbers_self : (ns : List ℕ) → bytes_eq ns ns ≡ true
numbers_self [] = refl
numbers_self (n ∷ ns) = both (n == n) (bytes_eq ns ns) (eq-eqb n n refl) (numbers_self ns)

same_self : (s : Shape) → same_shape s s ≡ true
same_self s =
    both (same_kinds s.stack s.stack && bytes_eq s.inner s.inner) (bytes_eq s.made s.made)
    (both (same_kinds s.stack s.stack) (bytes_eq s.inner s.inner) (kinds_self s.stack) (numbers_self s.inner)) (numbers_self s.made)

either_first : (a b : Bool) → (a || b) ≡ false → a ≡ false
either_first true b h = h
either_first false b h = refl

either_second : (a b : Bool) → (a || not b) ≡ false → b ≡ true
either_second true b h = absurd (cc)
either_second false true h = refl
either_second false false h = absurd (cc)

neither : (a b : Bool) → a ≡ false → b ≡ true → (a || not b) ≡ false
neither true b h k = absurd (cc)
neither false true h k = refl
neither false false h k = absurd (cc)

-- one more way

clash_before : (o : Option Shape) (b : Bool) (s : Shape) → (arrive_after o b s).clash ≡ false → b ≡ false
clash_before None b s h = h
clash_before (Some first) b s h = either_first b (not (same_shape first s)) h

same_as_first : (o : Option Shape) (b : Bool) (s : Shape) → (arrive_after o b s).clash ≡ false → same_shape (shape_of (arrive_after o b s)) s ≡ true
same_as_first None b s h = same_self s
same_as_first (Some first) b s h = either_second b (same_shape first s) h

first_stays : (o : Option Shape) (b : Bool) (s first : Shape) → o ≡ Some first → shape_of (arrive_after o b s) ≡ first
first_stays None b s first h = absurd (cc)
first_stays (Some f) b s first h = let e : f ≡ first = cc in e

clash_after : (o : Option Shape) (b : Bool) (s : Shape) → b ≡ false → same_shape (shape_of (arrive_after o b s)) s ≡ true
    → (arrive_after o b s).clash ≡ false
clash_after None b s none same = none
clash_after (Some first) b s none same = neither b (same_shape first s) none same

first_there : (o : Option Shape) (b : Bool) (s : Shape) → (first : Shape) × ((arrive_after o b s).shape ≡ Some first)
first_there None b s = (s, refl)
first_there (Some first) b s = (first, refl)

is_other : (a b : ℕ) → (a ≡ b → ⊥) → (a == b) ≡ false
is_other a b h = grind (arith, nat_tests)

take_then : {A : Type 0} (b : Bool) (x y : A) → b ≡ true → (if b then x else y) ≡ x
take_then true x y h = refl
take_then false x y h = absurd (cc)

take_else : {A : Type 0} (b : Bool) (x y : A) → b ≡ false → (if b then x else y) ≡ y
take_else true x y h = absurd (cc)
take_else false x y h = refl

arrives : (at : ℕ) (v : Way) (older : List Way) → v.to ≡ at → arrived at (v ∷ older) ≡ arrive (arrived at older) v.shape
arrives at v older e = take_then (v.to == at) (arrive (arrived at older) v.shape) (arrived at older) (eq-eqb v.to at e)

passes : (at : ℕ) (v : Way) (older : List Way) → (v.to ≡ at → ⊥) → arrived at (v ∷ older) ≡ arrived at older
passes at v older e = take_else (v.to == at) (arrive (arrived at older) v.shape) (arrived at older) (is_other v.to at e)

same_way : (v w : Way) → Some v ≡ Some w → v ≡ w
same_way v w h = cc

here_arrives : (at : ℕ) (v : Way) (older : List Way) → v.to ≡ at → (first : Shape) × ((arrived at (v ∷ older)).shape ≡ Some first)
here_arrives at v older e =
    let there = first_there (arrived at older).shape (arrived at older).clash v.shape in
    (there.0, ap (λ (a : Arrival). a.shape) (arrives at v older e) ∙ there.1)

-- where a way leads to a place, one arrives there
one_arrives : (at : ℕ) (ways : List Way) (k : ℕ) (w : Way) → slice_get ways k ≡ Some w → w.to ≡ at
    → (first : Shape) × ((arrived at ways).shape ≡ Some first)
one_arrives at [] k w found to = absurd (cc)
one_arrives at (v ∷ older) zero w found to = here_arrives at v older (ap (λ (x : Way). x.to) (same_way v w found) ∙ to)
one_arrives at (v ∷ older) (suc k) w found to =
    elim (cases_eq v.to at) [
      | inl e ↦ here_arrives at v older e
      | inr other ↦ let there = one_arrives at older k w found to in
          (there.0, ap (λ (a : Arrival). a.shape) (passes at v older other) ∙ there.1)
    ]

some_shape : (a : Arrival) (first : Shape) → a.shape ≡ Some first → shape_of a ≡ first
some_shape a first h = ap (λ o. unwrap_or o empty_shape) h

-- the shape that a place is judged by stays with one way more, where one arrived before
shape_stays : (at : ℕ) (v : Way) (older : List Way) (k : ℕ) (w : Way) → v.to ≡ at → slice_get older k ≡ Some w → w.to ≡ at
    → shape_of (arrived at (v ∷ older)) ≡ shape_of (arrived at older)
shape_stays at v older k w e found to =
    let there = one_arrives at older k w found to in
    ap shape_of (arrives at v older e)
    ∙ first_stays (arrived at older).shape (arrived at older).clash v.shape there.0 there.1
    ∙ sym (some_shape (arrived at older) there.0 there.1)

pub agree_from : (at : ℕ) (ways : List Way) → (arrived at ways).clash ≡ false → (k : ℕ) (w : Way) → slice_get ways k ≡ Some w → w.to ≡ at
    → same_shape (shape_of (arrived at ways)) w.shape ≡ true
agree_from at [] none k w found to = absurd (cc)
agree_from at (v ∷ older) none zero w found to =
    let is : v ≡ w = same_way v w found in
    let here : v.to ≡ at = ap (λ (x : Way). x.to) is ∙ to in
    let after : arrived at (v ∷ older) ≡ arrive (arrived at older) v.shape = arrives at v older here in
    let none_here : (arrive (arrived at older) v.shape).clash ≡ false = ap (λ (a : Arrival). a.clash) (sym after) ∙ none in
    ap (λ (x : Way). same_shape (shape_of (arrived at (v ∷ older))) x.shape) (sym is)
    ∙ ap (λ (a : Arrival). same_shape (shape_of a) v.shape) after
    ∙ same_as_first (arrived at older).shape (arrived at older).clash v.shape none_here
agree_from at (v ∷ older) none (suc k) w found to =
    elim (cases_eq v.to at) [
      | inl e ↦
          let after : arrived at (v ∷ older) ≡ arrive (arrived at older) v.shape = arrives at v older e in
          let none_here : (arrive (arrived at older) v.shape).clash ≡ false = ap (λ (a : Arrival). a.clash) (sym after) ∙ none in
          let none_before : (arrived at older).clash ≡ false = clash_before (arrived at older).shape (arrived at older).clash v.shape none_here in
          ap (λ s. same_shape s w.shape) (shape_stays at v older k w e found to) ∙ agree_from at older none_before k w found to
      | inr other ↦
          let after : arrived at (v ∷ older) ≡ arrived at older = passes at v older other in
          ap (λ (a : Arrival). same_shape (shape_of a) w.shape) after
          ∙ agree_from at older (ap (λ (a : Arrival). a.clash) (sym after) ∙ none) k w found to
    ]

pub agree_to : (at : ℕ) (ways : List Way)
    → ((k : ℕ) (w : Way) → slice_get ways k ≡ Some w → w.to ≡ at → same_shape (shape_of (arrived at ways)) w.shape ≡ true)
    → (arrived at ways).clash ≡ false
agree_to at [] all = refl
agree_to at (v ∷ older) all =
    elim (cases_eq v.to at) [
      | inl e ↦
          let after : arrived at (v ∷ older) ≡ arrive (arrived at older) v.shape = arrives at v older e in
          let before : (arrived at older).clash ≡ false =
          agree_to at older (λ k w found to. ap (λ s. same_shape s w.shape) (sym (shape_stays at v older k w e found to)) ∙ all (suc k) w found to) in
          ap (λ (a : Arrival). a.clash) after
          ∙ clash_after (arrived at older).shape (arrived at older).clash v.shape before
          (ap (λ (a : Arrival). same_shape (shape_of a) v.shape) (sym after) ∙ all zero v refl e)
      | inr other ↦
          let after : arrived at (v ∷ older) ≡ arrived at older = passes at v older other in
          ap (λ (a : Arrival). a.clash) after
          ∙ agree_to at older (λ k w found to. ap (λ (a : Arrival). same_shape (shape_of a) w.shape) (sym after) ∙ all (suc k) w found to)
    ]
