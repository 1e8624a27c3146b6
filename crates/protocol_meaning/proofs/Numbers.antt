-- The numbers of controllers: the ranges of machines follow on one another, and a controller is of the machine in whose range its
-- number is.
use Rattle.std.proofs.Common.{◌≡◌, ◌<◌, ◌≤◌, ◌+◌, ◌-◌, ◌∙◌, ℕ, zero, suc, true, false, Some, List, [], ◌∷◌, ap, refl, sym, subst, arith, ⊎_elim, length, sum, le-ltb, le-leb, lt-ltb, leb, ltb}
use Rattle.std.specs.Prelude.{position, slice_get}
use Rattle.std.specs.List.{All, range_with_len}
use Rattle.std.proofs.lemmas.Bool.{and_from, and_right, cases_lt}
use Rattle.std.proofs.lemmas.List.{length-map}
use Rattle.std.proofs.lemmas.List.Elements.{All-head, All-tail}
use Rattle.std.proofs.lemmas.List.FromFn.{length-range_with_len}
use Rattle.std.proofs.lemmas.List.Sums.{sum_by-cons}
use Rattle.ctl_face.specs.Prelude.{AreNumbered, IsOfMachine}
use Rattle.protocol_runs.specs.Prelude.{is_in_range}
use Rattle.ruby_topology.specs.declared.forms.Member.{Member}
use Rattle.ruby_topology.specs.Prelude.{members_from, members_of, ranges_from}
use Rattle.slicc_plan.proofs.There.{get_left, get_right}
use Rattle.protocol_meaning.proofs.Places.{position_first, position_next, ranged_at}

pub ranges_counted : (first : ℕ) (counts : List ℕ) → length (ranges_from first counts) ≡ length counts
ranges_counted first [] = refl
ranges_counted first (count ∷ counts) = ap suc (ranges_counted (first + count) counts)

pub ranges_numbered : (first : ℕ) (counts : List ℕ) → All (λ (c : ℕ). 1 ≤ c) counts → AreNumbered first (first + sum counts) (ranges_from first counts)
ranges_numbered first [] some = omega arith
ranges_numbered first (count ∷ counts) some =
    let all = sum_by-cons (λ (x : ℕ). x) count counts in
    let end : first + count + sum counts ≡ first + sum (count ∷ counts) = omega (arith, all) in (
      refl,
      All-head (λ (c : ℕ). 1 ≤ c) count counts some,
      subst (λ n. AreNumbered (first + count) n (ranges_from (first + count) counts)) end
          (ranges_numbered (first + count) counts (All-tail (λ (c : ℕ). 1 ≤ c) count counts some)),
    )

members_counted : (machine count : ℕ) → length (members_of machine count) ≡ count
members_counted machine count =
    length-map {B = Member} (range_with_len 0 count) (λ index. record { machine = machine; index = index }) ∙ length-range_with_len 0 count

member_at : (machine count n : ℕ) → n < count → slice_get (members_of machine count) n ≡ Some (record { machine = machine; index = n })
member_at machine count n lt = ranged_at {B = Member} (λ index. record { machine = machine; index = index }) count n lt

inside : (first count n : ℕ) → n < count → is_in_range (first + n) (first, count) ≡ true
inside first count n lt =
    and_from (leb first (first + n)) (ltb (first + n) (first + count)) (le-leb first (first + n) (omega arith))
    (lt-ltb (first + n) (first + count) (omega arith))

beyond : (first count n : ℕ) → count ≤ n → is_in_range (first + n) (first, count) ≡ false
beyond first count n le =
    and_right (leb first (first + n)) (ltb (first + n) (first + count)) (le-ltb (first + n) (first + count) (omega arith))

-- a controller's machine is the one in whose range it is
pub record IsLocated (first machine : ℕ) (counts : List ℕ) (n : ℕ) (c : Member) : Type 0 where
  pub place : ℕ
  pub is_machine : c.machine ≡ machine + place
  pub found : position (is_in_range (first + n)) (ranges_from first counts) ≡ Some place

member_is : (a b : Member) → Some a ≡ Some b → a ≡ b
member_is a b e = cc e

pub located : (first machine : ℕ) (counts : List ℕ) (n : ℕ) (c : Member) → slice_get (members_from machine counts) n ≡ Some c → IsLocated first machine counts n c
located first machine [] n c e = absurd (cc e)
located first machine (count ∷ counts) n c e =
    ⊎_elim
    (λ (lt : n < count).
    let here : slice_get (members_from machine (count ∷ counts)) n ≡ Some (record { machine = machine; index = n }) =
    get_left (members_of machine count) (members_from (machine + 1) counts) n (omega (arith, members_counted machine count)) ∙ member_at machine count n lt in
    let same : c ≡ record { machine = machine; index = n } = member_is c (record { machine = machine; index = n }) (sym e ∙ here) in
    let none : machine ≡ machine + 0 = omega arith in
    record {
      place = 0;
      is_machine = ap (λ (x : Member). x.machine) same ∙ none;
      found = position_first (is_in_range (first + n)) (first, count) (ranges_from (first + count) counts) (inside first count n lt);
    })
    (λ (le : count ≤ n).
    let there : slice_get (members_from machine (count ∷ counts)) n ≡ slice_get (members_from (machine + 1) counts) (n - count) =
    get_right (members_of machine count) (members_from (machine + 1) counts) n (n - count) (omega (arith, members_counted machine count)) in
    let rest = located (first + count) (machine + 1) counts (n - count) c (sym there ∙ e) in
    let number : first + count + (n - count) ≡ first + n = omega arith in
    let sum : machine + 1 + rest.place ≡ machine + suc rest.place = omega arith in
    record {
      place = suc rest.place;
      is_machine = rest.is_machine ∙ sum;
      found = position_next (is_in_range (first + n)) (first, count) (ranges_from (first + count) counts) rest.place (beyond first count n le)
          (subst (λ k. position (is_in_range k) (ranges_from (first + count) counts) ≡ Some rest.place) number rest.found);
    })
    (cases_lt n count)

-- the controller of a number in the range of a machine
pub record IsMemberAt (first machine : ℕ) (counts : List ℕ) (k n : ℕ) : Type 0 where
  pub member : Member
  pub at : slice_get (members_from machine counts) (n - first) ≡ Some member
  pub is_machine : member.machine ≡ machine + k
  pub from : first ≤ n

pub member_in_range : (first machine : ℕ) (counts : List ℕ) (k n : ℕ) → IsOfMachine (ranges_from first counts) k n → IsMemberAt first machine counts k n
member_in_range first machine [] k n h = absurd h
member_in_range first machine (count ∷ counts) zero n h =
    let low : first ≤ n = h.0 in
    let high : n < first + count = h.1 in
    record {
      member = record { machine = machine; index = n - first };
      at = get_left (members_of machine count) (members_from (machine + 1) counts) (n - first) (omega (arith, members_counted machine count))
          ∙ member_at machine count (n - first) (omega arith);
      is_machine = omega arith;
      from = low;
    }
member_in_range first machine (count ∷ counts) (suc k) n h =
    let rest = member_in_range (first + count) (machine + 1) counts k n h in
    let from = rest.from in
    let is_machine = rest.is_machine in
    record {
      member = rest.member;
      at = get_right (members_of machine count) (members_from (machine + 1) counts) (n - first) (n - (first + count)) (omega (arith, members_counted machine count, from))
          ∙ rest.at;
      is_machine = omega (arith, is_machine);
      from = omega (arith, from);
    }
