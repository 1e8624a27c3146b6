-- The messages of a buffer: which is the first that passes a test, and what stays so after an edit.
use Rattle.std.proofs.Common.{◌≡◌, ◌≢◌, ◌⊎◌, ℕ, zero, suc, ◌-◌, ◌<◌, ◌≤◌, Bool, true, false, not, ◌&&◌, Option, None, Some, is_some, IfOk, List, [], ◌∷◌, ◌++◌, length, get_or, refl, sym, ap, subst, ◌∙◌, ⊎_elim, arith, Bor}
use Rattle.std.specs.Option.{ok_or, option_copied, option_to_list}
use Rattle.std.proofs.lemmas.Bool.Decides.{nat_tests}
use Rattle.std.proofs.lemmas.List.Elements.{All-tail, All-weaker, filter_passes}
use Rattle.std.proofs.lemmas.List.Kept.{AllPairs-filter}
use Rattle.std.proofs.lemmas.List.{get_or_read, get_or_default}
use Rattle.std.specs.List.Sorted.{IsPartitionPoint, IsPartitionedBy}
use Rattle.std.specs.List.{All, AllPairs, filter, insert, slice_get}
use Rattle.ruby_value.specs.declared.message.Message.{Message}
use Rattle.ruby_value.specs.declared.message.MsgNo.{MsgNo}
use Rattle.ruby_value.specs.Prelude.{least, earlier, same_number}
use Rattle.ruby_value.proofs.Fronts.{front-is}
use Rattle.ruby_value.proofs.Ordered.{AllPairs-head, AllPairs-tail, AllPairs-insert}
use Rattle.msg_buffer.specs.Prelude.{ComesBefore, IsFront, IsNew, IsQueue, comes_before, first_where, front, is_after, is_ready, with_message, without_message}
use Rattle.msg_buffer.proofs.Placed.{IsPlace, filter-all, AllPairs-placed}

-- the order of two messages
comes : (a b : Message) → comes_before a b ≡ true → ComesBefore a b
comes a b is = grind (arith, nat_tests, is)

before-is : (a b : Message) → ComesBefore a b → comes_before a b ≡ true
before-is a b is = grind (arith, nat_tests, is)

not-back : (a b : Message) → ComesBefore a b → comes_before b a ≡ false
not-back a b is = grind (arith, nat_tests, is)

far : (a b c : Message) → ComesBefore a b → ComesBefore b c → ComesBefore a c
far a b c ab bc = grind (arith, ab, bc)

later : (a b : Message) → ComesBefore a b → a.arrival ≤ b.arrival
later a b is = grind (arith, is)

number-is : (a b : MsgNo) → a.sender ≡ b.sender → a.count ≡ b.count → a ≡ b
number-is a b s n = λ i. record { sender = s i; count = n i }

same-parts : (a b : MsgNo) → ((a.sender ≡ b.sender) × (a.count ≡ b.count)) ⊎ (same_number a b ≡ false)
same-parts a b = grind (arith, nat_tests)

same-refl : (a : MsgNo) → same_number a a ≡ true
same-refl a = grind (arith, nat_tests)

apart : (a b : MsgNo) → a ≢ b → same_number a b ≡ false
apart a b differ = ⊎_elim (λ same. absurd (differ (number-is a b same.0 same.1))) (λ is. is) (same-parts a b)

tied-or-before : (a b : Message) → comes_before b a ≡ false → ((a.number.sender ≡ b.number.sender) × (a.number.count ≡ b.number.count)) ⊎ (comes_before a b ≡ true)
tied-or-before a b not_after = grind (arith, nat_tests, not_after)

before-else : (a b : Message) → a.number ≢ b.number → comes_before b a ≡ false → ComesBefore a b
before-else a b differ not_after =
    ⊎_elim
    (λ same. absurd (differ (number-is a.number b.number same.0 same.1)))
    (comes a b)
    (tied-or-before a b not_after)

stays-first : (x y : Message) (o : Option Message) → o ≡ Some y → comes_before y x ≡ false → Some (earlier (λ (m : Message). m.arrival) (λ (m : Message). m.number) x o) ≡ Some x
stays-first x y o is not_before = subst (λ p. Some (earlier (λ (m : Message). m.arrival) (λ (m : Message). m.number) x p) ≡ Some x) (sym is) (rw not_before refl)

-- the least of a list that ascends is its first
least-first : (xs : List Message) → AllPairs ComesBefore xs → least (λ (m : Message). m.arrival) (λ (m : Message). m.number) xs ≡ slice_get xs 0
least-first [] pairs = refl
least-first (x ∷ []) pairs = refl
least-first (x ∷ (y ∷ ys)) pairs =
    stays-first x y _ (least-first (y ∷ ys) (AllPairs-tail ComesBefore x (y ∷ ys) pairs)) (not-back x y (pairs 0 1 x (omega arith) (omega arith)))

first-is : (test : Message → Bool) (xs : List Message) → AllPairs ComesBefore xs → first_where test xs ≡ slice_get (filter test xs) 0
first-is test xs pairs = least-first (filter test xs) (AllPairs-filter ComesBefore test xs pairs)

head-at : (test : Message → Bool) (xs : List Message) (at : ℕ) (d : Message) → at < length xs
    → ((k : ℕ) → k < at → test (get_or xs k d) ≡ false) → test (get_or xs at d) ≡ true → slice_get (filter test xs) 0 ≡ Some (get_or xs at d)
head-at test [] at d lt before here = absurd (omega arith)
head-at test (x ∷ xs) zero d lt before here = rw here refl
head-at test (x ∷ xs) (suc at) d lt before here =
    rw (before 0 (omega arith)) (head-at test xs at d (omega arith) (λ k less. before (suc k) (omega arith)) here)

head-none : (test : Message → Bool) (xs : List Message) → All (λ m. test m ≡ false) xs → slice_get (filter test xs) 0 ≡ None
head-none test [] fails = refl
head-none test (x ∷ xs) fails = rw (fails 0 x (omega arith)) (head-none test xs (All-tail (λ m. test m ≡ false) x xs fails))

ready-if : (now : ℕ) (m : Message) → m.arrival ≤ now → is_ready now m ≡ true
ready-if now m le = grind (arith, nat_tests)

unready-if : (now : ℕ) (m : Message) → now < m.arrival → is_ready now m ≡ false
unready-if now m lt = grind (arith, nat_tests)

-- from a place on, each message has arrived no earlier than the one there
not-earlier : (xs : List Message) → AllPairs ComesBefore xs → (at k : ℕ) (d : Message) → at ≤ k → k < length xs → (get_or xs at d).arrival ≤ (get_or xs k d).arrival
not-earlier xs pairs at k d le lt =
    ⊎_elim
    (λ less. later (get_or xs at d) (get_or xs k d) (pairs at k d less lt))
    (λ same. subst (λ j. (get_or xs at d).arrival ≤ (get_or xs j d).arrival) same (omega arith))
    (at-or-above at k le)
  where
    at-or-above : (i j : ℕ) → i ≤ j → (i < j) ⊎ (i ≡ j)
    at-or-above i j le = grind arith

-- a place below which no message passes a test, and from which on each that is ready does
pub record Begins (ready test : Message → Bool) (xs : List Message) (at : ℕ) : Type 0 where
  pub fails_below : (k : ℕ) (d : Message) → k < at → test (get_or xs k d) ≡ false
  pub passes_above : (k : ℕ) (d : Message) → at ≤ k → k < length xs → test (get_or xs k d) ≡ ready (get_or xs k d)

pub first-begins : (now : ℕ) (test : Message → Bool) (xs : List Message) (at : ℕ) (m : Message) → IsQueue xs → Begins (is_ready now) test xs at
    → at < length xs → m ≡ get_or xs at m → m.arrival ≤ now → first_where test xs ≡ Some m
first-begins now test xs at m queue begins lt stands le =
    let here : test (get_or xs at m) ≡ true = begins.passes_above at m (omega arith) lt ∙ ready-if now (get_or xs at m) (subst (λ (o : Message). o.arrival ≤ now) stands le) in
    first-is test xs queue.ascending ∙ (head-at test xs at m lt (λ k less. begins.fails_below k m less) here ∙ ap Some (sym stands))

at-or-above : (i j : ℕ) → (i < j) ⊎ (j ≤ i)
at-or-above i j = grind arith

pub none-begins-late : (now : ℕ) (test : Message → Bool) (xs : List Message) (at : ℕ) (m : Message) → IsQueue xs → Begins (is_ready now) test xs at
    → at < length xs → m ≡ get_or xs at m → now < m.arrival → first_where test xs ≡ None
none-begins-late now test xs at m queue begins lt stands late =
    first-is test xs queue.ascending ∙ head-none test xs (λ k d within.
    ⊎_elim
    (λ less. begins.fails_below k d less)
    (λ le.
    let here : now < (get_or xs at d).arrival = subst (λ (o : Message). now < o.arrival) (get_or_read xs at m lt stands d) late in
    begins.passes_above k d le within ∙ unready-if now (get_or xs k d) (omega (arith, here, not-earlier xs queue.ascending at k d le within)))
    (at-or-above k at))

pub none-begins : (now : ℕ) (test : Message → Bool) (xs : List Message) (at : ℕ) → IsQueue xs → Begins (is_ready now) test xs at
    → length xs ≤ at → first_where test xs ≡ None
none-begins now test xs at queue begins past =
    first-is test xs queue.ascending ∙ head-none test xs (λ k d lt. begins.fails_below k d (omega arith))

-- the whole list begins so with readiness itself
pub begins-front : (now : ℕ) (xs : List Message) → Begins (is_ready now) (is_ready now) xs 0
begins-front now xs = record { fails_below = λ k d lt. absurd (omega arith); passes_above = λ k d le lt. refl }

and-false : (a b : Bool) → b ≡ false → (a && b) ≡ false
and-false true b is = is
and-false false b is = refl

and-true : (a b : Bool) → b ≡ true → (a && b) ≡ a
and-true true b is = is
and-true false b is = refl

-- where what doesn't come after a pair ends
pub begins-after : (now arrival : ℕ) (number : MsgNo) (xs : List Message) (at : ℕ)
    → IsPartitionPoint (λ m. not (is_after arrival number m) ≡ true) (λ m. not (is_after arrival number m) ≡ false) xs at
    → Begins (is_ready now) (λ m. is_ready now m && is_after arrival number m) xs at
begins-after now arrival number xs at point = record {
  fails_below = λ k d lt. and-false (is_ready now (get_or xs k d)) (is_after arrival number (get_or xs k d)) (grind (arith, point.0 k d (omega arith) lt));
  passes_above = λ k d le lt. and-true (is_ready now (get_or xs k d)) (is_after arrival number (get_or xs k d)) (grind (arith, point.1 k d le lt));
}

after-far : (arrival : ℕ) (number : MsgNo) (a b : Message) → is_after arrival number a ≡ true → ComesBefore a b → is_after arrival number b ≡ true
after-far arrival number a b after before = grind (arith, nat_tests, after, before)

not-after-down : (arrival : ℕ) (number : MsgNo) (a b : Message) → ComesBefore a b → not (is_after arrival number b) ≡ true → not (is_after arrival number a) ≡ true
not-after-down arrival number a b before is = by (is_after arrival number a) refl
  where
    by : (t : Bool) → is_after arrival number a ≡ t → not t ≡ true
    by true after = let so : is_after arrival number b ≡ true = after-far arrival number a b after before in absurd (cc (so, is))
    by false after = refl

pub partitioned : (arrival : ℕ) (number : MsgNo) (xs : List Message) → IsQueue xs → IsPartitionedBy (λ m. not (is_after arrival number m)) xs
partitioned arrival number xs queue i j d le lt passes =
    ⊎_elim
    (λ less. not-after-down arrival number (get_or xs i d) (get_or xs j d) (queue.ascending i j d less lt) passes)
    (λ ge. subst (λ k. not (is_after arrival number (get_or xs k d)) ≡ true) (same i j le ge) passes)
    (at-or-above i j)
  where
    same : (i j : ℕ) → i ≤ j → j ≤ i → j ≡ i
    same i j le ge = omega arith

-- the place that a look from the back ends at
pub place : (xs : List Message) (m : Message) (at : ℕ) → IsQueue xs → IsNew xs m.number → at ≤ length xs
    → ((k : ℕ) (d : Message) → at ≤ k → k < length xs → comes_before m (get_or xs k d) ≡ true)
    → (0 < at → comes_before m (get_or xs (at - 1) m) ≡ false)
    → IsPlace comes_before m xs at
place xs m at queue new within above stop = record {
  within = within;
  below = λ k d lt. before-is (get_or xs k d) m (under k d lt);
  not_above = λ k d lt. not-back (get_or xs k d) m (under k d lt);
  above = above;
  not_below = λ k d le lt. not-back m (get_or xs k d) (comes m (get_or xs k d) (above k d le lt));
}
  where
    last : (d : Message) → 0 < at → ComesBefore (get_or xs (at - 1) d) m
    last d positive =
        subst (λ (o : Message). ComesBefore o m) (get_or_default xs (at - 1) m d (omega arith))
        (before-else (get_or xs (at - 1) m) m (new (at - 1) m (omega arith)) (stop positive))

    under : (k : ℕ) (d : Message) → k < at → ComesBefore (get_or xs k d) m
    under k d lt =
        ⊎_elim
        (λ less. far (get_or xs k d) (get_or xs (at - 1) d) m (queue.ascending k (at - 1) d less (omega arith)) (last d (omega arith)))
        (λ ge. subst (λ j. ComesBefore (get_or xs j d) m) (same k ge lt) (last d (omega arith)))
        (at-or-above k (at - 1))
      where
        same : (k : ℕ) → at - 1 ≤ k → k < at → at - 1 ≡ k
        same k ge lt = omega arith

-- the list with a new message is still a queue
pub queue-with : (xs : List Message) (m : Message) (at : ℕ) → IsQueue xs → IsNew xs m.number → insert xs at m ≡ with_message xs m → IsQueue (insert xs at m)
queue-with xs m at queue new is = record {
  ascending = rw is (AllPairs-insert ComesBefore far (λ o. comes_before o m) (λ o. comes_before m o) m (λ a before. comes a m before) (λ b after. comes m b after) xs queue.ascending);
  distinct = AllPairs-placed (λ a b. a.number ≢ b.number) m xs at queue.distinct new (All-weaker (λ o. o.number ≢ m.number) (λ o. m.number ≢ o.number) (λ o differ same. differ (sym same)) xs new);
}

-- the front is the first, where it is there
pub front-head : (x : Message) (xs : List Message) (now : ℕ) → IsQueue (x ∷ xs) → is_some (front (x ∷ xs) now) ≡ true → front (x ∷ xs) now ≡ Some x
front-head x xs now queue there =
    ⊎_elim
    (λ late. absurd (nothing (front (x ∷ xs) now) (none-begins-late now (is_ready now) (x ∷ xs) 0 x queue (begins-front now (x ∷ xs)) (omega arith) refl late) there))
    (λ le. first-begins now (is_ready now) (x ∷ xs) 0 x queue (begins-front now (x ∷ xs)) (omega arith) refl le)
    (at-or-above now x.arrival)
  where
    nothing : (o : Option Message) → o ≡ None → is_some o ≡ true → ⊥
    nothing o is some = absurd (cc (ap is_some is, some))

pub queue-rest : (x : Message) (xs : List Message) → IsQueue (x ∷ xs) → IsQueue xs
queue-rest x xs queue = record { ascending = AllPairs-tail ComesBefore x xs queue.ascending; distinct = AllPairs-tail (λ a b. a.number ≢ b.number) x xs queue.distinct }

pub without-head : (x : Message) (xs : List Message) → IsQueue (x ∷ xs) → without_message (x ∷ xs) x.number ≡ xs
without-head x xs queue =
    rw (same-refl x.number)
    (filter-all (λ o. not (same_number o.number x.number)) xs
    (All-weaker (λ o. x.number ≢ o.number) (λ o. not (same_number o.number x.number) ≡ true)
    (λ o differ. ap not (apart o.number x.number (λ same. differ (sym same)))) xs
    (AllPairs-head (λ a b. a.number ≢ b.number) x xs queue.distinct)))

pub new-without : (xs : List Message) (number : MsgNo) → IsNew (without_message xs number) number
new-without xs number =
    All-weaker (λ o. not (same_number o.number number) ≡ true) (λ o. o.number ≢ number)
    (λ o passes same. absurd (cc (subst (λ (n : MsgNo). same_number n number ≡ true) (sym same) (same-refl number), passes)))
    (filter (λ o. not (same_number o.number number)) xs) (filter_passes (λ o. not (same_number o.number number)) xs)

pub front-law : (xs : List Message) (now : ℕ) (o : Option Message) → o ≡ front xs now → IsFront xs now o
front-law xs now o is = subst (IsFront xs now) (sym is) (front-is (is_ready now) (λ (m : Message). m.arrival) (λ (m : Message). m.number) xs)

-- a place that is no item's is past the end
pub past-end : (n at : ℕ) → (at < n → false ≡ true) → n ≤ at
past-end n at none = ⊎_elim (λ less. absurd (cc (none less))) (λ le. le) (at-or-above at n)

pub found-front : (lent : Option (Bor Message)) (o : Option Message) → option_copied lent ≡ o → is_some lent ≡ true → is_some o ≡ true
found-front None o is some = absurd (cc some)
found-front (Some m) o is some = subst (λ p. is_some p ≡ true) is refl

-- what comes out first, where there is a front
pub popped-front : {E : Type 0} (e : E) (o : Option Message) (xs rest : List Message) (now : ℕ) → IsQueue xs → xs ≡ option_to_list o ++ rest
    → is_some (front xs now) ≡ true → IfOk (ok_or o e) (λ m. front xs now ≡ Some m)
popped-front e None xs rest now queue is there = tt
popped-front e (Some x) xs rest now queue is there =
    subst (λ ys. front ys now ≡ Some x) (sym is)
    (front-head x rest now (subst IsQueue is queue) (subst (λ ys. is_some (front ys now) ≡ true) is there))

pub popped-rest : {E : Type 0} (e : E) (o : Option Message) (xs rest : List Message) → IsQueue xs → xs ≡ option_to_list o ++ rest
    → IfOk (ok_or o e) (λ m. rest ≡ without_message xs m.number)
popped-rest e None xs rest queue is = tt
popped-rest e (Some x) xs rest queue is =
    subst (λ ys. rest ≡ without_message ys x.number) (sym is) (sym (without-head x rest (subst IsQueue is queue)))

pub popped-queue : (o : Option Message) (xs rest : List Message) → IsQueue xs → xs ≡ option_to_list o ++ rest → IsQueue rest
popped-queue None xs rest queue is = subst IsQueue is queue
popped-queue (Some x) xs rest queue is = queue-rest x rest (subst IsQueue is queue)
