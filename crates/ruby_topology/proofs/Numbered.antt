-- A controller's number is in the range of its machine.
use Rattle.std.proofs.Common.{◌≡◌, ◌<◌, ◌≤◌, ◌+◌, ◌-◌, ◌∙◌, ℕ, suc, Some, List, [], ◌∷◌, ap, sym, subst, arith, ⊎_elim, length, slice_get}
use Rattle.std.specs.List.{range_with_len}
use Rattle.std.proofs.lemmas.Bool.{cases_lt}
use Rattle.std.proofs.lemmas.List.{length-map}
use Rattle.std.proofs.lemmas.List.FromFn.{length-range_with_len}
use Rattle.std.proofs.lemmas.Option.{slice_get-get_or}
use Rattle.std.proofs.lemmas.List.FromFn.{get_or-map-range_with_len}
use Rattle.ctl_face.specs.Prelude.{IsOfMachine}
use Rattle.slicc_plan.proofs.There.{get_left, get_right}
use Rattle.ruby_topology.specs.declared.forms.Member.{Member}
use Rattle.ruby_topology.specs.Prelude.{members_from, members_of, ranges_from}

member_of : ℕ → ℕ → Member
member_of machine index = record { machine = machine; index = index }

members_counted : (machine count : ℕ) → length (members_of machine count) ≡ count
members_counted machine count =
    length-map {B = Member} (range_with_len 0 count) (λ index. record { machine = machine; index = index }) ∙ length-range_with_len 0 count

machine_at : (machine count n : ℕ) (c : Member) → n < count → slice_get (members_of machine count) n ≡ Some c → c.machine ≡ machine
machine_at machine count n c lt at =
    let of : ℕ → Member = λ index. record { machine = machine; index = index } in
    let many = members_counted machine count in
    let here : slice_get (members_of machine count) n ≡ Some (of n) =
    slice_get-get_or (members_of machine count) n c (omega (arith, many, lt)) ∙ ap Some (get_or-map-range_with_len of 0 count n n c lt (omega arith)) in
    let same : c ≡ of n = cc (at, here) in
    ap (λ (x : Member). x.machine) same

-- the place of a controller's machine among the machines from one on
record IsPlacedIn (first machine : ℕ) (counts : List ℕ) (n : ℕ) (c : Member) : Type 0 where
  place : ℕ
  is_machine : c.machine ≡ machine + place
  of_machine : IsOfMachine (ranges_from first counts) place (first + n)

placed_in : (first machine : ℕ) (counts : List ℕ) (n : ℕ) (c : Member) → slice_get (members_from machine counts) n ≡ Some c → IsPlacedIn first machine counts n c
placed_in first machine [] n c e = absurd (cc e)
placed_in first machine (count ∷ counts) n c e =
    let many = members_counted machine count in
    ⊎_elim
    (λ (lt : n < count).
    let here : slice_get (members_of machine count) n ≡ Some c =
    sym (get_left (members_of machine count) (members_from (machine + 1) counts) n (omega (arith, many, lt))) ∙ e in
    let none : machine ≡ machine + 0 = omega arith in
    record { place = 0; is_machine = machine_at machine count n c lt here ∙ none; of_machine = (omega arith, omega (arith, lt)) })
    (λ (le : count ≤ n).
    let there : slice_get (members_from (machine + 1) counts) (n - count) ≡ Some c =
    sym (get_right (members_of machine count) (members_from (machine + 1) counts) n (n - count) (omega (arith, many, le))) ∙ e in
    let rest = placed_in (first + count) (machine + 1) counts (n - count) c there in
    let number : first + count + (n - count) ≡ first + n = omega (arith, le) in
    let next : machine + 1 + rest.place ≡ machine + suc rest.place = omega arith in
    record {
      place = suc rest.place;
      is_machine = rest.is_machine ∙ next;
      of_machine = subst (IsOfMachine (ranges_from (first + count) counts) rest.place) number rest.of_machine;
    })
    (cases_lt n count)

pub members_are_of : (counts : List ℕ) (n : ℕ) (c : Member) → slice_get (members_from 0 counts) n ≡ Some c → IsOfMachine (ranges_from 0 counts) c.machine n
members_are_of counts n c at =
    let h = placed_in 0 0 counts n c at in
    let none : 0 + n ≡ n = omega arith in
    let zero_on : 0 + h.place ≡ h.place = omega arith in
    let machine : h.place ≡ c.machine = sym (h.is_machine ∙ zero_on) in
    subst (λ k. IsOfMachine (ranges_from 0 counts) k n) machine (subst (IsOfMachine (ranges_from 0 counts) h.place) none h.of_machine)
