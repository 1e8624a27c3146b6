-- What bodies send to a buffer with a size, by what they count; and what it says of a local that the test of free slots has passed there.
use Rattle.std.proofs.Common.{◌≡◌, ◌<◌, ◌≤◌, ◌+◌, ◌-◌, ◌==◌, ◌⊎◌, ◌∙◌, ℕ, ℤ, zero, suc, Bool, true, false, cond, List, [], ◌∷◌, All, Option, Result, Ok, Err, inl, inr, length, map, filter, min, nat_lt, refl, sym, ap, subst, arith, eqb-true}
use Rattle.std.specs.List.{fold}
use Rattle.std.proofs.lemmas.Bool.{cond_both}
use Rattle.std.proofs.lemmas.Bool.Decides.{nat_tests}
use Rattle.std.proofs.lemmas.List.Elements.{All-cons, All-head, All-nil, All-tail}
use Rattle.ruby_value.specs.declared.fault.Fault.{Fault}
use Rattle.ruby_value.specs.declared.fault.Fault.TheVariants.{Reference}
use Rattle.ruby_value.specs.declared.setup.MachineSetup.{MachineSetup}
use Rattle.ruby_value.specs.declared.value.Value.{Value}
use Rattle.ctl_face.specs.Prelude.{Actor, LocalView, SameScan, buffer_place, free, leads_to, least_of}
use Rattle.ctl_face.specs.Slots.{slots}
use Rattle.acts.specs.Act as act
use Rattle.acts.specs.Prelude.{Act, answer, Acting, ends, stops, acts, act as done, either, follow, run, ◌>>=◌, HoldsAfter, Done, does, does_served, serves}
use Rattle.acts.proofs.Scans.{DoneEffect, act_effect, weaker_after}
use Rattle.acts.proofs.Walk.{run-then}
use Rattle.body_meaning.specs.Prelude.{buffer_short, is_fewer, is_short, table_short}
use Rattle.slot_laws.specs.Prelude.{CountsAtMost}
use Rattle.slot_laws.proofs.Sending.{does_few, from_map, sends_here, sent_here}

-- an act stays in its scan
in_scan : (v : LocalView) {A : Type 0} (r : Result (Done A) Fault) → DoneEffect v r → HoldsAfter (SameScan v) r
in_scan v (Ok d) effect = effect.scan
in_scan v (Err f) effect = tt

act_stays : (a : Act) (v : LocalView) → HoldsAfter (SameScan v) (does a v)
unfolding does
act_stays a v = cond_both (serves v.machine a) (does_served a v) (Err Reference) (HoldsAfter (SameScan v)) (λ _. in_scan v (does_served a v) (act_effect a v)) (λ _. tt)

module _ (slot : ℕ × ℕ × ℕ) (count : Act → ℕ) where
  -- each act counts what it sends there at least
  pub record Counts (v : LocalView) : Type 0 where
    pub each : (a : Act) → sends_here slot v a ≤ count a

  -- no other act sends anything
  pub counts_by_sends : (v : LocalView) → ((other : ℕ) (latency : ℤ) (fields : List Value) → sends_here slot v (act.Send other latency fields) ≤ count (act.Send other latency fields)) → Counts v
  counts_by_sends v sends = record { each = by }
    where
      by : (a : Act) → sends_here slot v a ≤ count a
      by (act.Send other latency fields) = sends other latency fields
      by act.Now = omega arith
      by act.Me = omega arith
      by (act.Get r field) = omega arith
      by (act.Set r field value) = omega arith
      by (act.Lookup table line) = omega arith
      by (act.Avail table line) = omega arith
      by (act.Probe table line) = omega arith
      by (act.Allocate table line) = omega arith
      by (act.Deallocate table line) = omega arith
      by (act.Touch table line) = omega arith
      by (act.Free table) = omega arith
      by (act.Ready buffer) = omega arith
      by (act.Front buffer) = omega arith
      by (act.Pop buffer) = omega arith
      by (act.Stall buffer line) = omega arith
      by (act.Wake line) = omega arith
      by act.WakeAll = omega arith
      by (act.Recycle buffer latency) = omega arith
      by (act.Slots buffer) = omega arith
      by (act.ReadBack line block) = omega arith
      by (act.WriteBack line block) = omega arith
      by (act.State line) = omega arith
      by (act.SetState line new) = omega arith
      by act.Again = omega arith

  pub counts_still : (v w : LocalView) → SameScan v w → Counts v → Counts w
  counts_still v w same counts =
      counts_by_sends w
      (λ other latency fields.
      subst (λ (x : Actor). cond (leads_to x other (buffer_place w.machine other) slot) 1 0 ≤ count (act.Send other latency fields)) (sym same.actor)
      (subst (λ (m : MachineSetup). cond (leads_to v.actor other (buffer_place m other) slot) 1 0 ≤ count (act.Send other latency fields)) (sym same.machine) (counts.each (act.Send other latency fields))))

  abbrev Few : LocalView → ℕ → LocalView → Type 0
  Few v n w = sent_here slot w ≤ sent_here slot v + n

  module _ {A : Type 0} where
    after_act : (a : Act) (n : ℕ) (v : LocalView) (more : answer a → Acting A) → count a ≤ n → Counts v
        → ((x : answer a) (w : LocalView) → Counts w → HoldsAfter (Few w (n - count a)) (run (more x) w))
        → (r : Result (Done (answer a)) Fault) → HoldsAfter (λ w. sent_here slot w ≤ sent_here slot v + sends_here slot v a) r → HoldsAfter (SameScan v) r
        → HoldsAfter (Few v n) (follow r (λ x w. run (more x) w))
    after_act a n v more enough counts rest (Ok d) few same =
        let here = counts.each a in
        weaker_after (Few d.view (n - count a)) (Few v n) (λ w more_few. omega arith) (run (more d.value) d.view) (rest d.value d.view (counts_still v d.view same counts))
    after_act a n v more enough counts rest (Err f) few same = tt

    pub body_few : (p : Acting A) (n : ℕ) → CountsAtMost count n p → (v : LocalView) → Counts v → HoldsAfter (Few v n) (run p v)
    unfolding run
    body_few (ends x) n counted v counts = omega arith
    body_few (stops f) n counted v counts = tt
    body_few (acts a more) n counted v counts =
        after_act a n v more counted.0 counts (λ x w still. body_few (more x) (n - count a) (counted.1 x) w still) (does a v) (does_few slot a v) (act_stays a v)

-- Bodies one after the other.

by_result : {A B : Type 0} (r : Result (Done A) Fault) (next : A → LocalView → Result (Done B) Fault) (d : Done B) → follow r next ≡ Ok d → (e : Done A) × (r ≡ Ok e) × (next e.value e.view ≡ Ok d)
by_result (Ok e) next d is = (e, refl, is)
by_result (Err f) next d is = absurd (cc is)

pub body_then : {A B : Type 0} (p : Acting A) (next : A → Acting B) (v : LocalView) (d : Done B) → run (p >>= next) v ≡ Ok d → (e : Done A) × (run p v ≡ Ok e) × (run (next e.value) e.view ≡ Ok d)
body_then p next v d is = by_result (run p v) (λ x w. run (next x) w) d (sym (run-then p next v) ∙ is)

pub ends_here : {A : Type 0} (x : A) (v : LocalView) (d : Done A) → run (ends x) v ≡ Ok d → ◌≡◌ {A = Done A} (record { value = x; view = v }) d
unfolding run
ends_here x v d is = cc is

-- Tests that only read.

abbrev Reads : {A : Type 0} → Acting A → Type 0
Reads p = (u : LocalView) (d : Done _) → run p u ≡ Ok d → d.view ≡ u

either_reads : {A : Type 0} (k : Bool) (p q : Acting A) → Reads p → Reads q → Reads (either k p q)
unfolding either
either_reads true p q first second = first
either_reads false p q first second = second

ends_reads : {A : Type 0} (x : A) → Reads (ends x)
ends_reads x u d is = sym (ap (λ (e : Done _). e.view) (ends_here x u d is))

-- the answer of a read, and what comes of it
free_then : (table : ℕ) (f : ℕ → Bool) → Reads (done (act.Free table) >>= (λ n. ends (f n)))
unfolding run does done ◌>>=◌
free_then table f u d is = by (serves u.machine (act.Free table)) is
  where
    by : (k : Bool) → follow (cond k (does_served (act.Free table) u) (Err Reference)) (λ x w. Ok (record { value = f x; view = w })) ≡ Ok d → d.view ≡ u
    by true same = let is_d : ◌≡◌ {A = Done Bool} (record { value = f (free u table); view = u }) d = cc same in sym (ap (λ (e : Done Bool). e.view) is_d)
    by false same = absurd (cc same)

slots_then : (buffer : ℕ) (f : Option ℕ → Bool) (u : LocalView) (d : Done Bool) → run (done (act.Slots buffer) >>= (λ n. ends (f n))) u ≡ Ok d
    → ◌≡◌ {A = Done Bool} (record { value = f (slots u buffer); view = u }) d
unfolding run does done ◌>>=◌
slots_then buffer f u d is = by (serves u.machine (act.Slots buffer)) is
  where
    by : (k : Bool) → follow (cond k (does_served (act.Slots buffer) u) (Err Reference)) (λ x w. Ok (record { value = f x; view = w })) ≡ Ok d → ◌≡◌ {A = Done Bool} (record { value = f (slots u buffer); view = u }) d
    by true same = cc same
    by false same = absurd (cc same)

pub table_reads : (need : ℕ → ℕ) (table : ℕ) → Reads (table_short need table)
table_reads need table = either_reads (need table == 0) (ends false) _ (ends_reads false) (free_then table (λ n. nat_lt n (need table)))

pub buffer_reads : (sent : ℕ → ℕ) (buffer : ℕ) → Reads (buffer_short sent buffer)
buffer_reads sent buffer =
    either_reads (sent buffer == 0) (ends false) _ (ends_reads false)
    (λ u d is. sym (ap (λ (e : Done Bool). e.view) (slots_then buffer (λ free. is_fewer free (sent buffer)) u d is)))

-- a buffer that isn't short has as many slots free as are counted, or nothing is counted
pub not_short : (sent : ℕ → ℕ) (buffer : ℕ) (u : LocalView) → run (buffer_short sent buffer) u ≡ Ok (record { value = false; view = u }) → (sent buffer ≡ 0) ⊎ (is_fewer (slots u buffer) (sent buffer) ≡ false)
unfolding either
not_short sent buffer u is = by (sent buffer == 0) refl is
  where
    by : (k : Bool) → (sent buffer == 0) ≡ k
        → run (either k (ends false) (done (act.Slots buffer) >>= (λ free. ends (is_fewer free (sent buffer))))) u ≡ Ok (record { value = false; view = u })
        → (sent buffer ≡ 0) ⊎ (is_fewer (slots u buffer) (sent buffer) ≡ false)
    by true none same = inl (eqb-true (sent buffer) 0 none)
    by false some same = inr (ap (λ (e : Done Bool). e.value) (slots_then buffer (λ free. is_fewer free (sent buffer)) u (record { value = false; view = u }) same))

-- where none of some is short, each was found so in the local as it is
pub record NoneShort (short : ℕ → Acting Bool) (number count : ℕ) (u : LocalView) (d : Done Bool) : Type 0 where
  pub view : d.view ≡ u
  pub each : d.value ≡ false → (j : ℕ) → j < count → run (short (number + j)) u ≡ Ok (record { value = false; view = u })

module _ {X : Type 0} (short : ℕ → Acting Bool) (reads : (number : ℕ) → Reads (short number)) where
  pub none_short : (number : ℕ) (xs : List X) (u : LocalView) (d : Done Bool) → run (is_short short number xs) u ≡ Ok d → NoneShort short number (length xs) u d
  unfolding either
  none_short number [] u d is = record { view = ends_reads false u d is; each = λ value j within. absurd (omega arith) }
  none_short number (x ∷ xs) u d is =
      let first = body_then (short number) (λ k. either k (ends true) (is_short short (number + 1) xs)) u d is in
      let e : Done Bool = first.0 in
      by e.value e.view (reads number u e first.1) first.1 (λ w. none_short (number + 1) xs w d) first.2
    where
      by : (k : Bool) (w : LocalView) → w ≡ u → run (short number) u ≡ Ok (record { value = k; view = w })
          → ((y : LocalView) → run (is_short short (number + 1) xs) y ≡ Ok d → NoneShort short (number + 1) (length xs) y d)
          → run (either k (ends true) (is_short short (number + 1) xs)) w ≡ Ok d → NoneShort short number (length (x ∷ xs)) u d
      by true w same ran rest goes =
          let is_d = ends_here true w d goes in
          record { view = sym (ap (λ (e : Done Bool). e.view) is_d) ∙ same; each = λ value j within. absurd (cc (ap (λ (e : Done Bool). e.value) is_d ∙ value)) }
      by false w same ran rest goes =
          let later = rest u (subst (λ (y : LocalView). run (is_short short (number + 1) xs) y ≡ Ok d) same goes) in
          let here : run (short number) u ≡ Ok (record { value = false; view = u }) = ran ∙ ap (λ (y : LocalView). Ok (record { value = false; view = y })) same in
          record {
            view = later.view;
            each = λ value j. at j value here later.each;
          }
        where
          at : (j : ℕ) → d.value ≡ false → run (short number) u ≡ Ok (record { value = false; view = u })
              → (d.value ≡ false → (i : ℕ) → i < length xs → run (short (number + 1 + i)) u ≡ Ok (record { value = false; view = u }))
              → j < length (x ∷ xs) → run (short (number + j)) u ≡ Ok (record { value = false; view = u })
          at zero value here others within = subst (λ (i : ℕ). run (short i) u ≡ Ok (record { value = false; view = u })) (omega arith) here
          at (suc j) value here others within = subst (λ (i : ℕ). run (short i) u ≡ Ok (record { value = false; view = u })) (omega arith) (others value j (omega arith))

-- The least of some numbers is below none of them.

least_first : (n : ℕ) (ns : List ℕ) → fold min n ns ≤ n
least_first n [] = omega arith
least_first n (m ∷ ns) = let rest = least_first (min n m) ns in omega arith

least_each : (least n : ℕ) (ns : List ℕ) → least ≤ fold min n ns → All (λ m. least ≤ m) (n ∷ ns)
least_each least n [] few = All-cons (λ m. least ≤ m) n [] few (All-nil (λ m. least ≤ m))
least_each least n (m ∷ ns) few =
    let rest = least_each least (min n m) ns few in
    let first : least ≤ min n m = All-head (λ k. least ≤ k) (min n m) ns rest in
    All-cons (λ k. least ≤ k) n (m ∷ ns) (omega arith) (All-cons (λ k. least ≤ k) m ns (omega arith) (All-tail (λ k. least ≤ k) (min n m) ns rest))

not_fewer : (count : ℕ) (ns : List ℕ) → is_fewer (least_of ns) count ≡ false → All (λ n. count ≤ n) ns
not_fewer count [] is = All-nil (λ n. count ≤ n)
not_fewer count (n ∷ ns) is = least_each count n ns (not_less (fold min n ns) count is)
  where
    not_less : (a b : ℕ) → nat_lt a b ≡ false → b ≤ a
    not_less a b is = grind (arith, nat_tests, is)

from_filter : {X : Type 0} (P : X → Type 0) (p : X → Bool) (xs : List X) → All P (filter p xs) → All (λ x. p x ≡ true → P x) xs
from_filter P p [] all = All-nil (λ x. p x ≡ true → P x)
from_filter {X} P p (x ∷ xs) all = by (p x) refl all (λ rest. from_filter P p xs rest)
  where
    by : (k : Bool) → p x ≡ k → All P (cond k (x ∷ filter p xs) (filter p xs)) → (All P (filter p xs) → All (λ y. p y ≡ true → P y) xs) → All (λ y. p y ≡ true → P y) (x ∷ xs)
    by true is all rest = All-cons (λ y. p y ≡ true → P y) x xs (λ _. All-head P x (filter p xs) all) (rest (All-tail P x (filter p xs) all))
    by false is all rest = All-cons (λ y. p y ≡ true → P y) x xs (λ passes. absurd (cc (sym is ∙ passes))) (rest all)

-- what is free at each of some, where as many are free of the least of those that pass
pub free_at_each : {X : Type 0} (f : X → ℕ) (p : X → Bool) (xs : List X) (count : ℕ) → is_fewer (least_of (map f (filter p xs))) count ≡ false → All (λ x. p x ≡ true → count ≤ f x) xs
free_at_each f p xs count is = from_filter (λ x. count ≤ f x) p xs (from_map (λ n. count ≤ n) f (filter p xs) (not_fewer count (map f (filter p xs)) is))
