-- What the next mark of a controller says of its marks.
use Rattle.std.proofs.Common.{◌≡◌, ◌<◌, ◌≤◌, ◌+◌, ◌==◌, ◌||◌, ℕ, Bool, true, false, cond, subst, Option, None, Some, List, [], ◌∷◌, refl, sym, ap, ◌∙◌, nat_lt, arith}
use Rattle.std.specs.List.{All}
use Rattle.std.proofs.lemmas.Bool.{eq-eqb, eqb-true, ltb-true, ltb-false}
use Rattle.std.proofs.lemmas.List.Elements.{All-cons, All-nil, All-head, All-tail, All-contains, All-weaker}
use Rattle.ruby_value.specs.Prelude.{has_mark}
use Rattle.ruby_value.proofs.Contained.{Contains-cons_here, Contains-cons_there}
use Rattle.protocol_runs.specs.Prelude.{above, earlier, least_above}
use Rattle.ctl_mail.specs.Prelude.{IsNextMark}

-- there is one next mark at most
pub one-next : (marks : List ℕ) (from : ℕ) (a b : Option ℕ) → IsNextMark marks from a → IsNextMark marks from b → a ≡ b
one-next marks from None None first second = refl
one-next marks from None (Some m) below next =
    absurd (let lt : m < from = All-contains (λ (other : ℕ). other < from) marks m below next.held in omega (arith, next.not_below))
one-next marks from (Some m) None next below =
    absurd (let lt : m < from = All-contains (λ (other : ℕ). other < from) marks m below next.held in omega (arith, next.not_below))
one-next marks from (Some m) (Some n) first second =
    let one : m ≤ n = All-contains (λ (other : ℕ). from ≤ other → m ≤ other) marks n first.least second.held second.not_below in
    let two : n ≤ m = All-contains (λ (other : ℕ). from ≤ other → n ≤ other) marks m second.least first.held first.not_below in
    let same : m ≡ n = omega arith in
    ap (λ (k : ℕ). Some k) same

-- a cycle is a mark where the next one from it on is this cycle
absent : (cycle : ℕ) (marks : List ℕ) → All (λ (other : ℕ). cycle ≤ other → cycle < other) marks → has_mark marks cycle ≡ false
absent cycle [] all = refl
absent cycle (m ∷ marks) all =
    by (m == cycle) refl (absent cycle marks (All-tail (λ (other : ℕ). cycle ≤ other → cycle < other) m marks all))
  where
    by : (b : Bool) → (m == cycle) ≡ b → has_mark marks cycle ≡ false → (b || has_mark marks cycle) ≡ false
    by true is rest =
        absurd
        (let same = eqb-true m cycle is in
        let lt : cycle < m = All-head (λ (other : ℕ). cycle ≤ other → cycle < other) m marks all (omega (arith, same)) in omega (arith, same, lt))
    by false is rest = rest

there : (cycle : ℕ) (marks : List ℕ) → has_mark marks cycle ≡ false → All (λ (other : ℕ). (other == cycle) ≡ false) marks
there cycle [] is = All-nil (λ (other : ℕ). (other == cycle) ≡ false)
there cycle (m ∷ marks) is = by (m == cycle) refl is (λ none. there cycle marks none)
  where
    by : (b : Bool) → (m == cycle) ≡ b → (b || has_mark marks cycle) ≡ false
        → (has_mark marks cycle ≡ false → All (λ (other : ℕ). (other == cycle) ≡ false) marks) → All (λ (other : ℕ). (other == cycle) ≡ false) (m ∷ marks)
    by true same none rest = absurd (cc none)
    by false differ none rest = All-cons (λ (other : ℕ). (other == cycle) ≡ false) m marks differ (rest none)

abbrev pub is_at : ℕ → Option ℕ → Bool
is_at cycle None = false
is_at cycle (Some m) = m == cycle

pub marked-at : (cycle : ℕ) (marks : List ℕ) (o : Option ℕ) → IsNextMark marks cycle o → has_mark marks cycle ≡ is_at cycle o
marked-at cycle marks None below =
    absent cycle marks (All-weaker (λ (other : ℕ). other < cycle) (λ (other : ℕ). cycle ≤ other → cycle < other) (λ other lt le. absurd (omega arith)) marks below)
marked-at cycle marks (Some m) next = by (m == cycle) refl
  where
    by : (b : Bool) → (m == cycle) ≡ b → has_mark marks cycle ≡ b
    by true is = held (has_mark marks cycle) refl
      where
        held : (b : Bool) → has_mark marks cycle ≡ b → b ≡ true
        held true has = refl
        held false none = absurd (cc (All-contains (λ (other : ℕ). (other == cycle) ≡ false) marks m (there cycle marks none) next.held, is))
    by false is =
        absent cycle marks
        (All-weaker (λ (other : ℕ). cycle ≤ other → m ≤ other) (λ (other : ℕ). cycle ≤ other → cycle < other)
        (λ other least le. let ge = least le in let differ : m ≡ cycle → ⊥ = λ same. cc (eq-eqb m cycle same, is) in above-it other differ ge) marks next.least)
      where
        above-it : (other : ℕ) → (m ≡ cycle → ⊥) → m ≤ other → cycle < other
        above-it other differ ge = omega (arith, next.not_below, differ, ge)

pub marked-some : (cycle : ℕ) (marks : List ℕ) (o : Option ℕ) (m : ℕ) → o ≡ Some m → IsNextMark marks cycle o → (m == cycle) ≡ has_mark marks cycle
marked-some cycle marks o m is next = sym (marked-at cycle marks o next ∙ ap (is_at cycle) is)

pub marked-none : (cycle : ℕ) (marks : List ℕ) (o : Option ℕ) → o ≡ None → IsNextMark marks cycle o → false ≡ has_mark marks cycle
marked-none cycle marks o is next = sym (marked-at cycle marks o next ∙ ap (is_at cycle) is)

-- the least mark above a cycle is the next one from the cycle after it on
module _ (now : ℕ) where
  here : (x : ℕ) (xs : List ℕ) (o : Option ℕ) → now < x → IsNextMark xs (now + 1) o → IsNextMark (x ∷ xs) (now + 1) (earlier (Some x) o)
  here x xs None above below = record {
    held = Contains-cons_here x xs;
    not_below = omega arith;
    least = All-cons (λ (other : ℕ). now + 1 ≤ other → x ≤ other) x xs (λ _. omega arith)
        (All-weaker (λ (other : ℕ). other < now + 1) (λ (other : ℕ). now + 1 ≤ other → x ≤ other) (λ other lt le. absurd (omega arith)) xs below);
  }
  here x xs (Some m) above next = by (nat_lt m x) refl
    where
      by : (b : Bool) → nat_lt m x ≡ b → IsNextMark (x ∷ xs) (now + 1) (earlier (Some x) (Some m))
      by true less =
          let lt = ltb-true m x less in
          let is : earlier (Some x) (Some m) ≡ Some m = ap (λ (k : ℕ). Some k) (omega arith) in
          subst (IsNextMark (x ∷ xs) (now + 1)) (sym is)
          (record {
            held = Contains-cons_there x m xs next.held;
            not_below = next.not_below;
            least = All-cons (λ (other : ℕ). now + 1 ≤ other → m ≤ other) x xs (λ _. omega (arith, lt)) next.least;
          })
      by false not =
          let le = ltb-false m x not in
          let is : earlier (Some x) (Some m) ≡ Some x = ap (λ (k : ℕ). Some k) (omega arith) in
          subst (IsNextMark (x ∷ xs) (now + 1)) (sym is)
          (record {
            held = Contains-cons_here x xs;
            not_below = omega arith;
            least = All-cons (λ (other : ℕ). now + 1 ≤ other → x ≤ other) x xs (λ _. omega arith)
                (All-weaker (λ (other : ℕ). now + 1 ≤ other → m ≤ other) (λ (other : ℕ). now + 1 ≤ other → x ≤ other) (λ other least ge. let m_le = least ge in omega (arith, le, m_le)) xs next.least);
          })

  past : (x : ℕ) (xs : List ℕ) (o : Option ℕ) → x ≤ now → IsNextMark xs (now + 1) o → IsNextMark (x ∷ xs) (now + 1) (earlier None o)
  past x xs None le below = All-cons (λ (other : ℕ). other < now + 1) x xs (omega arith) below
  past x xs (Some m) le next = record {
    held = Contains-cons_there x m xs next.held;
    not_below = next.not_below;
    least = All-cons (λ (other : ℕ). now + 1 ≤ other → m ≤ other) x xs (λ ge. absurd (omega arith)) next.least;
  }

  least-next : (marks : List ℕ) → IsNextMark marks (now + 1) (least_above now marks)
  least-next [] = All-nil (λ (other : ℕ). other < now + 1)
  least-next (x ∷ xs) = by (nat_lt now x) refl (least-next xs)
    where
      by : (b : Bool) → nat_lt now x ≡ b → IsNextMark xs (now + 1) (least_above now xs) → IsNextMark (x ∷ xs) (now + 1) (earlier (cond b (Some x) None) (least_above now xs))
      by true less rest = here x xs (least_above now xs) (ltb-true now x less) rest
      by false not rest = past x xs (least_above now xs) (ltb-false now x not) rest

  pub next-least : (marks : List ℕ) (o : Option ℕ) → IsNextMark marks (now + 1) o → o ≡ least_above now marks
  next-least marks o next = one-next marks (now + 1) o (least_above now marks) next (least-next marks)
