-- Bodies whose acts count nothing, and bodies whose acts count at most n together, made of others; of the latter also what their answers
-- are.
use Rattle.std.proofs.Common.{◌≡◌, ◌≤◌, ◌+◌, ◌-◌, ℕ, Bool, true, false, cond, arith, Option, None, Some, Result, Ok, Err, refl}
use Rattle.acts.specs.declared.body_fault.BodyFault.{BodyFault}
use Rattle.acts.specs.Prelude.{Act, answer, Acting, ends, stops, acts, ◌>>=◌, ◌>>◌, act, decided, either, found, given}
use Rattle.slot_laws.specs.Sends.{CountsAtMost}

module _ (count : Act → ℕ) where
  abbrev QuietEnds : {A : Type 0} → Acting A → Type 0
  QuietEnds (ends x) = Unit {0}
  QuietEnds (stops f) = Unit {0}
  QuietEnds (acts a more) = (count a ≡ 0) × ((x : answer a) → QuietEnds (more x))

  abbrev MostEnds : {A : Type 0} → ℕ → (A → Type 0) → Acting A → Type 0
  MostEnds n R (ends x) = R x
  MostEnds n R (stops f) = Unit {0}
  MostEnds n R (acts a more) = (count a ≤ n) × ((x : answer a) → MostEnds (n - count a) R (more x))

  pub record Quiet {A : Type 0} (p : Acting A) : Type 0 where
    quiet : QuietEnds p

  pub record Most {A : Type 0} (n : ℕ) (R : A → Type 0) (p : Acting A) : Type 0 where
    most : MostEnds n R p

  -- Bodies that count nothing.

  quiet_go : {A B : Type 0} (p : Acting A) (next : A → Acting B) → QuietEnds p → ((x : A) → QuietEnds (next x)) → QuietEnds (p >>= next)
  unfolding ◌>>=◌
  quiet_go (ends x) next first rest = rest x
  quiet_go (stops f) next first rest = tt
  quiet_go (acts a more) next first rest = (first.0, λ x. quiet_go (more x) next (first.1 x) rest)

  module _ {A B : Type 0} where
    pub then_quiet : {p : Acting A} {next : A → Acting B} → Quiet p → ((x : A) → Quiet (next x)) → Quiet (p >>= next)
    then_quiet {p} {next} first rest = record { quiet = quiet_go p next first.quiet (λ x. let r = rest x in r.quiet) }

    pub and_quiet : {p : Acting A} {next : Acting B} → Quiet p → Quiet next → Quiet (p >> next)
    unfolding ◌>>◌
    and_quiet {p} {next} first rest = record { quiet = quiet_go p (λ _. next) first.quiet (λ x. rest.quiet) }

  module _ {A : Type 0} where
    pub ends_quiet : {x : A} → Quiet (ends x)
    ends_quiet = record { quiet = tt }

    pub stops_quiet : {f : BodyFault} → Quiet {A = A} (stops f)
    stops_quiet = record { quiet = tt }

    pub found_quiet : (f : BodyFault) (o : Option A) → Quiet (found f o)
    unfolding found
    found_quiet f (Some x) = record { quiet = tt }
    found_quiet f None = record { quiet = tt }

    pub given_quiet : (o : Result A BodyFault) → Quiet (given o)
    unfolding given
    given_quiet (Ok x) = record { quiet = tt }
    given_quiet (Err f) = record { quiet = tt }

    pub decided_quiet : (o : Option A) {p : Acting A} → Quiet p → Quiet (decided o p)
    unfolding decided
    decided_quiet (Some x) rest = record { quiet = tt }
    decided_quiet None rest = rest

    pub either_quiet : (test : Bool) {p q : Acting A} → Quiet p → Quiet q → Quiet (either test p q)
    unfolding either
    either_quiet true first second = first
    either_quiet false first second = second

    pub cond_quiet : (test : Bool) (p q : Acting A) → Quiet p → Quiet q → Quiet (cond test p q)
    cond_quiet true p q first second = first
    cond_quiet false p q first second = second

  pub act_quiet : (a : Act) → count a ≡ 0 → Quiet (act a)
  unfolding act
  act_quiet a none = record { quiet = (none, λ x. tt) }

  -- Bodies that count at most n.

  more_go : {A : Type 0} (R : A → Type 0) (k n : ℕ) (p : Acting A) → k ≤ n → MostEnds k R p → MostEnds n R p
  more_go R k n (ends x) le here = here
  more_go R k n (stops f) le here = tt
  more_go R k n (acts a more) le here =
      let first = here.0 in
      (omega arith, λ x. more_go R (k - count a) (n - count a) (more x) (omega arith) (here.1 x))

  then_go : {A B : Type 0} (R : A → Type 0) (Q : B → Type 0) (k l n : ℕ) (p : Acting A) (next : A → Acting B) → k + l ≤ n
      → MostEnds k R p → ((x : A) → R x → MostEnds l Q (next x)) → MostEnds n Q (p >>= next)
  unfolding ◌>>=◌
  then_go R Q k l n (ends x) next le first rest = more_go Q l n (next x) (omega arith) (rest x first)
  then_go R Q k l n (stops f) next le first rest = tt
  then_go R Q k l n (acts a more) next le first rest =
      let here = first.0 in
      (omega arith, λ x. then_go R Q (k - count a) l (n - count a) (more x) next (omega arith) (first.1 x) rest)

  after_go : {A B : Type 0} (Q : B → Type 0) (n : ℕ) (p : Acting A) (next : A → Acting B) → QuietEnds p → ((x : A) → MostEnds n Q (next x)) → MostEnds n Q (p >>= next)
  unfolding ◌>>=◌
  after_go Q n (ends x) next first rest = rest x
  after_go Q n (stops f) next first rest = tt
  after_go Q n (acts a more) next first rest =
      let here = first.0 in
      (omega arith, λ x. more_go Q n (n - count a) (more x >>= next) (omega arith) (after_go Q n (more x) next (first.1 x) rest))

  silent_go : {A : Type 0} (R : A → Type 0) (p : Acting A) → MostEnds 0 R p → QuietEnds p
  silent_go R (ends x) here = tt
  silent_go R (stops f) here = tt
  silent_go R (acts a more) here =
      let first = here.0 in
      (omega arith, λ x. silent_go R (more x) (more_go R (0 - count a) 0 (more x) (omega arith) (here.1 x)))

  counts_go : {A : Type 0} (R : A → Type 0) (n : ℕ) (p : Acting A) → MostEnds n R p → CountsAtMost count n p
  counts_go R n (ends x) here = tt
  counts_go R n (stops f) here = tt
  counts_go R n (acts a more) here = (here.0, λ x. counts_go R (n - count a) (more x) (here.1 x))

  none_go : {A : Type 0} (n : ℕ) (p : Acting A) → QuietEnds p → MostEnds n (λ _. Unit {0}) p
  none_go n (ends x) here = tt
  none_go n (stops f) here = tt
  none_go n (acts a more) here = let first = here.0 in (omega arith, λ x. none_go (n - count a) (more x) (here.1 x))

  module _ {A : Type 0} {R : A → Type 0} where
    pub more_most : {k : ℕ} {p : Acting A} (n : ℕ) → Most k R p → k ≤ n → Most n R p
    more_most {k} {p} n first le = record { most = more_go R k n p le first.most }

    pub ends_most : {n : ℕ} {x : A} → R x → Most n R (ends x)
    ends_most here = record { most = here }

    pub stops_most : {n : ℕ} {f : BodyFault} → Most n R (stops f)
    stops_most = record { most = tt }

    pub either_most : {n : ℕ} (test : Bool) {p q : Acting A} → Most n R p → Most n R q → Most n R (either test p q)
    unfolding either
    either_most true first second = first
    either_most false first second = second

    pub cond_most : {n : ℕ} (test : Bool) (p q : Acting A) → Most n R p → Most n R q → Most n R (cond test p q)
    cond_most true p q first second = first
    cond_most false p q first second = second

    pub silent : {p : Acting A} → Most 0 R p → Quiet p
    silent {p} first = record { quiet = silent_go R p first.most }

    pub counts_most : {n : ℕ} {p : Acting A} → Most n R p → CountsAtMost count n p
    counts_most {n} {p} first = counts_go R n p first.most

  pub counts_none : {A : Type 0} {p : Acting A} → Quiet p → CountsAtMost count 0 p
  counts_none {A} {p} first = counts_go (λ _. Unit {0}) 0 p (none_go 0 p first.quiet)

  module _ {A B : Type 0} {Q : B → Type 0} where
    pub then_most : {R : A → Type 0} {p : Acting A} {next : A → Acting B} (k l n : ℕ) → k + l ≤ n → Most k R p → ((x : A) → R x → Most l Q (next x)) → Most n Q (p >>= next)
    then_most {R} {p} {next} k l n le first rest = record { most = then_go R Q k l n p next le first.most (λ x here. let r = rest x here in r.most) }

    -- after what counts nothing
    pub after_most : {n : ℕ} {p : Acting A} {next : A → Acting B} → Quiet p → ((x : A) → Most n Q (next x)) → Most n Q (p >>= next)
    after_most {n} {p} {next} first rest = record { most = after_go Q n p next first.quiet (λ x. let r = rest x in r.most) }

    pub next_most : {n : ℕ} {p : Acting A} {next : Acting B} → Quiet p → Most n Q next → Most n Q (p >> next)
    unfolding ◌>>◌
    next_most {n} {p} {next} first rest = record { most = after_go Q n p (λ _. next) first.quiet (λ x. rest.most) }

    pub found_most : {n : ℕ} (f : BodyFault) (o : Option A) {next : A → Acting B} → ((x : A) → o ≡ Some x → Most n Q (next x)) → Most n Q (found f o >>= next)
    unfolding found ◌>>=◌
    found_most f (Some x) rest = rest x refl
    found_most f None rest = record { most = tt }

  -- after an act that counts at most n
  pub act_most : {B : Type 0} {Q : B → Type 0} {next : Acting B} (a : Act) (n : ℕ) → count a ≤ n → Most 0 Q next → Most n Q (act a >> next)
  unfolding ◌>>◌ ◌>>=◌ act
  act_most {B} {Q} {next} a n le rest = record { most = (le, λ x. more_go Q 0 (n - count a) next (omega arith) rest.most) }
