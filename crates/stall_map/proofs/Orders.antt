-- The order of numbers as it is kept: what waits in it, and what an insertion, an emptied slot or a dropped one makes of that.
use Rattle.std.proofs.Common.{◌≡◌, ◌≢◌, ℕ, zero, suc, ◌-◌, ◌<◌, ◌≤◌, Bool, true, false, not, Option, None, Some, List, [], ◌∷◌, ◌++◌, length, get_or, set, take, drop, is_some, refl, sym, ap, subst, ◌∙◌, inl, inr, ⊎_elim, take-append-drop, arith}
use Rattle.std.proofs.lemmas.List.{set_split}
use Rattle.std.proofs.lemmas.List.Elements.{All-cons, All-drop, All-filter, All-head, All-nil, All-set, All-tail, All-take, All-weaker, filter-append, filter_map-append}
use Rattle.std.proofs.lemmas.List.Kept.{AllPairs-cons, AllPairs-filter}
use Rattle.std.specs.List.{All, cons_option, filter, find, insert}
use Rattle.std.specs.Option.{IfSome}
use Rattle.ruby_value.specs.declared.message.MsgNo.{MsgNo}
use Rattle.ruby_value.specs.Prelude.{IsBefore, inserted, number_before, same_number}
use Rattle.ruby_value.proofs.Fronts.{number-comes}
use Rattle.ruby_value.proofs.Ordered.{AllPairs-head, AllPairs-nil, AllPairs-tail}
use Rattle.stall_map.specs.declared.slots.Slot.{Slot}
use Rattle.stall_map.specs.declared.stalled.Stalled.{Stalled}
use Rattle.stall_map.specs.Prelude.{Ascends, HasNone, IsFollowedBy, IsNamed, IsNew, IsOrder, IsSlotAt, IsSplit, SameWaiting, comes_before, is_above, waiting_of, with_stalled}
use Rattle.stall_map.proofs.Edits.{All-insert-at, AllPairs-insert-at, AllPairs-set}
use Rattle.stall_map.proofs.Numbers.{All-back, All-front, at-or-above, before-else, before-far, before-is, Climbs, differ-is, not-back, not-itself, not-same, not-same-back, same-is, same-itself, same-or-before}
use Rattle.stall_map.proofs.Placed.{between, filter-all, filter-none}

pub order-tail : (s : Slot) (slots : List Slot) → IsOrder (s ∷ slots) → IsOrder slots
order-tail s slots order = record { rises = AllPairs-tail IsFollowedBy s slots order.rises; named = All-tail IsNamed s slots order.named }

module _ (P : Stalled → Type 0) where
  -- what holds of what each slot holds holds of what waits, and the other way round
  pub All-held : (slots : List Slot) → All (λ (s : Slot). IfSome s.held P) slots → All P (waiting_of slots)
  All-held [] all = All-nil P
  All-held (s ∷ slots) all = by s.held (all 0 s (omega arith)) (All-held slots (All-tail (λ (s : Slot). IfSome s.held P) s slots all))
    where
      by : (o : Option Stalled) → IfSome o P → All P (waiting_of slots) → All P (cons_option o (waiting_of slots))
      by None here rest = rest
      by (Some h) here rest = All-cons P h (waiting_of slots) here rest

  pub held-All : (slots : List Slot) → All P (waiting_of slots) → All (λ (s : Slot). IfSome s.held P) slots
  held-All [] all = All-nil (λ (s : Slot). IfSome s.held P)
  held-All (s ∷ slots) all =
      All-cons (λ (s : Slot). IfSome s.held P) s slots (here s.held all) (held-All slots (rest s.held all))
    where
      here : (o : Option Stalled) → All P (cons_option o (waiting_of slots)) → IfSome o P
      here None all = tt
      here (Some h) all = All-head P h (waiting_of slots) all

      rest : (o : Option Stalled) → All P (cons_option o (waiting_of slots)) → All P (waiting_of slots)
      rest None all = all
      rest (Some h) all = All-tail P h (waiting_of slots) all

pub ascends : (slots : List Slot) → IsOrder slots → Ascends (waiting_of slots)
ascends [] order = AllPairs-nil (λ (a b : Stalled). IsBefore a.message.number b.message.number)
ascends (s ∷ slots) order = by s.held refl (ascends slots (order-tail s slots order))
  where
    later : (h : Stalled) (b : Slot) → s.held ≡ Some h → h.message.number ≡ s.number → IsFollowedBy s b → (o : Option Stalled) → IfSome o (λ e. e.message.number ≡ b.number) → IfSome o (λ e. IsBefore h.message.number e.message.number)
    later h b held is follows None named = tt
    later h b held is follows (Some e) named =
        ⊎_elim
        (λ before. subst (λ (n : MsgNo). IsBefore n e.message.number) (sym is) (subst (IsBefore s.number) (sym named) before))
        (λ empty. let none : ◌≡◌ {A = Option Stalled} (Some h) None = sym held ∙ empty.1 in absurd (cc none))
        follows

    by : (o : Option Stalled) → s.held ≡ o → Ascends (waiting_of slots) → Ascends (cons_option o (waiting_of slots))
    by None is rest = rest
    by (Some h) is rest =
        let named : h.message.number ≡ s.number = subst (λ o. IfSome o (λ (e : Stalled). e.message.number ≡ s.number)) is (order.named 0 s (omega arith)) in
        AllPairs-cons (λ (a b : Stalled). IsBefore a.message.number b.message.number) h (waiting_of slots)
        (All-held (λ e. IsBefore h.message.number e.message.number) slots
        (λ k d lt. later h (get_or slots k d) is named (AllPairs-head IsFollowedBy s slots order.rises k d lt) (get_or slots k d).held (All-tail IsNamed s slots order.named k d lt)))
        rest

pub climbs : (slots : List Slot) → IsOrder slots → Climbs (λ (s : Slot). s.number) slots
climbs slots order i j d lt within =
    ⊎_elim
    (λ before. not-back (get_or slots i d).number (get_or slots j d).number before)
    (λ same. subst (λ (n : MsgNo). number_before n (get_or slots i d).number ≡ false) same.0 (not-itself (get_or slots i d).number))
    (order.rises i j d lt within)

-- a slot for a message of a new number, at the number's place
module _ (slots : List Slot) (number : MsgNo) (at : ℕ) (order : IsOrder slots) (split : IsSplit (λ (s : Slot). s.number) number slots at) (new : IsNew (waiting_of slots) number) where
  abbrev New : Slot → Type 0
  New s = IfSome s.held (λ h. h.message.number ≢ number)

  news : All New slots
  news = held-All (λ h. h.message.number ≢ number) slots new

  below : All (λ (s : Slot). number_before number s.number ≡ false) (take at slots)
  below = All-front (λ (s : Slot). number_before number s.number ≡ false) slots at split.within split.below

  above : All (λ (s : Slot). number_before number s.number ≡ true) (drop at slots)
  above = All-back (λ (s : Slot). number_before number s.number ≡ true) slots at split.above

  follows : (a slot : Slot) → slot.number ≡ number → number_before number a.number ≡ false → (o : Option Stalled) → a.held ≡ o → IfSome o (λ h. h.message.number ≢ number) → IfSome o (λ h. h.message.number ≡ a.number) → IsFollowedBy a slot
  follows a slot is up None empty new named =
      ⊎_elim
      (λ same. inr (same ∙ sym is, empty))
      (λ before. inl (subst (IsBefore a.number) (sym is) before))
      (same-or-before a.number number up)
  follows a slot is up (Some h) held new named = inl (subst (IsBefore a.number) (sym is) (before-else a.number number (λ same. new (named ∙ same)) up))

  pub order-with : (slot : Slot) (s : Stalled) → slot.number ≡ number → slot.held ≡ Some s → s.message.number ≡ number → IsOrder (insert slots at slot)
  order-with slot s is held named = record {
    rises =
        AllPairs-insert-at IsFollowedBy slots at slot order.rises
        (λ k d lt.
        let a : Slot = get_or (take at slots) k d in
        follows a slot is (below k d lt) a.held refl (All-take New at slots news k d lt) (All-take IsNamed at slots order.named k d lt))
        (λ k d lt.
        let b : Slot = get_or (drop at slots) k d in
        inl (subst (λ (n : MsgNo). IsBefore n b.number) (sym is) (number-comes number b.number (above k d lt))));
    named = All-insert-at IsNamed slots at slot order.named (subst (λ o. IfSome o (λ (h : Stalled). h.message.number ≡ slot.number)) (sym held) (named ∙ sym is));
  }

  front-before : (s : Stalled) → s.message.number ≡ number → (a : Slot) → number_before number a.number ≡ false → (o : Option Stalled) → IfSome o (λ h. h.message.number ≢ number) → IfSome o (λ h. h.message.number ≡ a.number)
      → IfSome o (λ h. IsBefore h.message.number s.message.number)
  front-before s is a up None new named = tt
  front-before s is a up (Some h) new named =
      subst (IsBefore h.message.number) (sym is) (before-else h.message.number number new (subst (λ (n : MsgNo). number_before number n ≡ false) (sym named) up))

  back-after : (s : Stalled) → s.message.number ≡ number → (b : Slot) → number_before number b.number ≡ true → (o : Option Stalled) → IfSome o (λ h. h.message.number ≡ b.number)
      → IfSome o (λ h. IsBefore s.message.number h.message.number)
  back-after s is b after None named = tt
  back-after s is b after (Some h) named =
      subst (λ (n : MsgNo). IsBefore n h.message.number) (sym is) (subst (IsBefore number) (sym named) (number-comes number b.number after))

  pub fronts : (s : Stalled) → s.message.number ≡ number → All (λ (h : Stalled). IsBefore h.message.number s.message.number) (waiting_of (take at slots))
  fronts s is =
      All-held (λ (h : Stalled). IsBefore h.message.number s.message.number) (take at slots)
      (λ k d lt.
      let a : Slot = get_or (take at slots) k d in
      front-before s is a (below k d lt) a.held (All-take New at slots news k d lt) (All-take IsNamed at slots order.named k d lt))

  pub backs : (s : Stalled) → s.message.number ≡ number → All (λ (h : Stalled). IsBefore s.message.number h.message.number) (waiting_of (drop at slots))
  backs s is =
      All-held (λ (h : Stalled). IsBefore s.message.number h.message.number) (drop at slots)
      (λ k d lt.
      let b : Slot = get_or (drop at slots) k d in
      back-after s is b (above k d lt) b.held (All-drop IsNamed at slots order.named k d lt))

  pub parts : waiting_of slots ≡ waiting_of (take at slots) ++ waiting_of (drop at slots)
  parts = ap waiting_of (sym (take-append-drop at slots)) ∙ filter_map-append (λ (s : Slot). s.held) (take at slots) (drop at slots)

  pub waiting-between : (slot : Slot) (s : Stalled) → slot.held ≡ Some s → waiting_of (insert slots at slot) ≡ waiting_of (take at slots) ++ s ∷ waiting_of (drop at slots)
  waiting-between slot s held =
      filter_map-append (λ (s : Slot). s.held) (take at slots) (slot ∷ drop at slots)
      ∙ ap (λ o. waiting_of (take at slots) ++ cons_option o (waiting_of (drop at slots))) held

  pub waiting-with : (slot : Slot) (s : Stalled) → slot.held ≡ Some s → s.message.number ≡ number → waiting_of (insert slots at slot) ≡ with_stalled (waiting_of slots) s.line s.message
  waiting-with slot s held is =
      let front = waiting_of (take at slots) in
      let back = waiting_of (drop at slots) in
      waiting-between slot s held
      ∙ (between comes_before s front back
      (All-weaker (λ h. IsBefore h.message.number s.message.number) (λ h. comes_before h s ≡ true) (λ h. before-is h.message.number s.message.number) front (fronts s is))
      (All-weaker (λ h. IsBefore h.message.number s.message.number) (λ h. comes_before s h ≡ false) (λ h. not-back h.message.number s.message.number) front (fronts s is))
      (All-weaker (λ h. IsBefore s.message.number h.message.number) (λ h. comes_before h s ≡ false) (λ h. not-back s.message.number h.message.number) back (backs s is))
      (All-weaker (λ h. IsBefore s.message.number h.message.number) (λ h. comes_before s h ≡ true) (λ h. before-is s.message.number h.message.number) back (backs s is))
      ∙ ap (λ ws. with_stalled ws s.line s.message) (sym parts))

-- a new number among ascending ones, at its place
pub number-placed : (number : MsgNo) (numbers : List MsgNo) (at : ℕ) → IsSplit (λ (n : MsgNo). n) number numbers at → All (λ (n : MsgNo). n ≢ number) numbers → insert numbers at number ≡ inserted number_before numbers number
number-placed number numbers at split new =
    between number_before number (take at numbers) (drop at numbers)
    (All-weaker (λ n. IsBefore n number) (λ n. number_before n number ≡ true) (λ n. before-is n number) (take at numbers) below)
    (All-weaker (λ n. IsBefore n number) (λ n. number_before number n ≡ false) (λ n. not-back n number) (take at numbers) below)
    (All-weaker (λ n. number_before number n ≡ true) (λ n. number_before n number ≡ false) (λ n is. not-back number n (number-comes number n is)) (drop at numbers) above)
    above
    ∙ ap (λ ns. inserted number_before ns number) (take-append-drop at numbers)
  where
    above : All (λ n. number_before number n ≡ true) (drop at numbers)
    above = All-back (λ (n : MsgNo). number_before number n ≡ true) numbers at split.above

    below : All (λ n. IsBefore n number) (take at numbers)
    below k d lt =
        before-else (get_or (take at numbers) k d) number (All-take (λ (n : MsgNo). n ≢ number) at numbers new k d lt)
        (All-front (λ (n : MsgNo). number_before number n ≡ false) numbers at split.within split.below k d lt)

-- what is above a number
pub above-split : (number : MsgNo) (slots : List Slot) (at : ℕ) → IsOrder slots → IsSplit (λ (s : Slot). s.number) number slots at → filter (is_above (Some number)) (waiting_of slots) ≡ waiting_of (drop at slots)
above-split number slots at order split =
    ap (filter (is_above (Some number))) (ap waiting_of (sym (take-append-drop at slots)) ∙ filter_map-append (λ (s : Slot). s.held) (take at slots) (drop at slots))
    ∙ (filter-append (is_above (Some number)) (waiting_of (take at slots)) (waiting_of (drop at slots))
    ∙ rw (
      filter-none (is_above (Some number)) (waiting_of (take at slots)) (All-held (λ h. is_above (Some number) h ≡ false) (take at slots) below),
      filter-all (is_above (Some number)) (waiting_of (drop at slots)) (All-held (λ h. is_above (Some number) h ≡ true) (drop at slots) above),
    ) refl)
  where
    same : (t : Bool) (s : Slot) → number_before number s.number ≡ t → (o : Option Stalled) → IfSome o (λ h. h.message.number ≡ s.number) → IfSome o (λ h. number_before number h.message.number ≡ t)
    same t s is None named = tt
    same t s is (Some h) named = subst (λ (n : MsgNo). number_before number n ≡ t) (sym named) is

    below : All (λ (s : Slot). IfSome s.held (λ h. is_above (Some number) h ≡ false)) (take at slots)
    below k d lt =
        let s : Slot = get_or (take at slots) k d in
        same false s (All-front (λ (s : Slot). number_before number s.number ≡ false) slots at split.within split.below k d lt) s.held (All-take IsNamed at slots order.named k d lt)

    above : All (λ (s : Slot). IfSome s.held (λ h. is_above (Some number) h ≡ true)) (drop at slots)
    above k d lt =
        let s : Slot = get_or (drop at slots) k d in
        same true s (All-back (λ (s : Slot). number_before number s.number ≡ true) slots at split.above k d lt) s.held (All-drop IsNamed at slots order.named k d lt)

pub no-more : (slots : List Slot) → length (waiting_of slots) ≤ length slots
no-more [] = omega arith
no-more (s ∷ slots) = by s.held (no-more slots)
  where
    by : (o : Option Stalled) → length (waiting_of slots) ≤ length slots → length (cons_option o (waiting_of slots)) ≤ suc (length slots)
    by None le = omega arith
    by (Some h) le = omega arith

-- the slot of a number, if there is one
module _ (slots : List Slot) (number : MsgNo) (order : IsOrder slots) where
  abbrev Other : Stalled → Type 0
  Other h = same_number h.message.number number ≡ false

  before-other : (a : Slot) → IsBefore a.number number → (o : Option Stalled) → IfSome o (λ h. h.message.number ≡ a.number) → IfSome o Other
  before-other a before None named = tt
  before-other a before (Some h) named = subst (λ (n : MsgNo). same_number n number ≡ false) (sym named) (not-same a.number number before)

  after-other : (b : Slot) → number_before number b.number ≡ true → (o : Option Stalled) → IfSome o (λ h. h.message.number ≡ b.number) → IfSome o Other
  after-other b after None named = tt
  after-other b after (Some h) named = subst (λ (n : MsgNo). same_number n number ≡ false) (sym named) (not-same-back b.number number (number-comes number b.number after))

  empty-other : (o : Option Stalled) → o ≡ None → IfSome o Other
  empty-other None is = tt
  empty-other (Some h) is = absurd (cc is)

  -- the last slot up to the number is of that number
  pub slot-at : (count : ℕ) → IsSplit (λ (s : Slot). s.number) number slots count → 0 < count → ((d : Slot) → (get_or slots (count - 1) d).number ≡ number) → IsSlotAt slots number (count - 1)
  slot-at count split positive here = record {
    within = omega (arith, split.within);
    here = here;
    before =
        All-held Other (take (count - 1) slots)
        (All-front (λ (s : Slot). IfSome s.held Other) slots (count - 1) (omega (arith, split.within))
        (λ k d lt.
        let a : Slot = get_or slots k d in
        ⊎_elim
        (λ before. before-other a (subst (IsBefore a.number) (here d) before) a.held (order.named k d (omega (arith, split.within))))
        (λ same. empty-other a.held same.1)
        (order.rises k (count - 1) d lt (omega (arith, split.within)))));
    after =
        All-held Other (drop (suc (count - 1)) slots)
        (All-back (λ (s : Slot). IfSome s.held Other) slots (suc (count - 1))
        (λ k d le lt.
        let b : Slot = get_or slots k d in
        after-other b (split.above k d (omega arith) lt) b.held (order.named k d lt)));
  }

  -- or there is none
  pub slot-none : (count : ℕ) → IsSplit (λ (s : Slot). s.number) number slots count → (0 < count → (d : Slot) → (get_or slots (count - 1) d).number ≢ number) → HasNone number (waiting_of slots)
  slot-none count split differs =
      All-held Other slots
      (λ k d lt.
      let b : Slot = get_or slots k d in
      ⊎_elim
      (λ less. before-other b (before k d less) b.held (order.named k d lt))
      (λ le. after-other b (split.above k d le lt) b.held (order.named k d lt))
      (at-or-above k count))
    where
      last : (d : Slot) → 0 < count → IsBefore (get_or slots (count - 1) d).number number
      last d positive = before-else (get_or slots (count - 1) d).number number (differs positive d) (split.below (count - 1) d (omega arith))

      same : (k : ℕ) → k < count → count - 1 ≤ k → count - 1 ≡ k
      same k lt ge = omega arith

      before : (k : ℕ) (d : Slot) → k < count → IsBefore (get_or slots k d).number number
      before k d less =
          ⊎_elim
          (λ earlier. before-far (get_or slots k d).number (get_or slots (count - 1) d).number number (climbs slots order k (count - 1) d earlier (omega (arith, split.within))) (last d (omega arith)))
          (λ ge. subst (λ i. IsBefore (get_or slots i d).number number) (same k less ge) (last d (omega arith)))
          (at-or-above k (count - 1))

cons-append : {X : Type 0} (o : Option X) (xs ys : List X) → cons_option o (xs ++ ys) ≡ cons_option o xs ++ ys
cons-append None xs ys = refl
cons-append (Some x) xs ys = refl

-- what waits, by the slot at a place
pub waiting-split : (slots : List Slot) (at : ℕ) (s : Slot) → at < length slots → get_or slots at s ≡ s
    → waiting_of slots ≡ waiting_of (take at slots) ++ cons_option s.held (waiting_of (drop (suc at) slots))
waiting-split [] at s within is = absurd (omega arith)
waiting-split (x ∷ slots) zero s within is = ap (λ (o : Slot). cons_option o.held (waiting_of slots)) is
waiting-split (x ∷ slots) (suc at) s within is =
    ap (cons_option x.held) (waiting-split slots at s (omega arith) is) ∙ cons-append x.held (waiting_of (take at slots)) (cons_option s.held (waiting_of (drop (suc at) slots)))

find-past : {X : Type 0} (test : X → Bool) (xs ys : List X) → All (λ x. test x ≡ false) xs → find test (xs ++ ys) ≡ find test ys
find-past test [] ys none = refl
find-past test (x ∷ xs) ys none = rw (none 0 x (omega arith)) (find-past test xs ys (All-tail (λ x. test x ≡ false) x xs none))

pub find-none : {X : Type 0} (test : X → Bool) (xs : List X) → All (λ x. test x ≡ false) xs → find test xs ≡ None
find-none test [] none = refl
find-none test (x ∷ xs) none = rw (none 0 x (omega arith)) (find-none test xs (All-tail (λ x. test x ≡ false) x xs none))

pub new-from-none : (number : MsgNo) (ws : List Stalled) → find (λ (s : Stalled). same_number s.message.number number) ws ≡ None → IsNew ws number
new-from-none number [] none = All-nil (λ (s : Stalled). s.message.number ≢ number)
new-from-none number (w ∷ ws) none = by (same_number w.message.number number) refl (new-from-none number ws)
  where
    by : (b : Bool) → same_number w.message.number number ≡ b → (find (λ (s : Stalled). same_number s.message.number number) ws ≡ None → IsNew ws number) → IsNew (w ∷ ws) number
    by true is rest = let some : ◌≡◌ {A = Option Stalled} (Some w) None = rw is at none in absurd (cc some)
    by false is rest =
        let left : find (λ (s : Stalled). same_number s.message.number number) ws ≡ None = rw is at none in
        All-cons (λ (s : Stalled). s.message.number ≢ number) w ws (differ-is w.message.number number is) (rest left)

pub none-from-new : (number : MsgNo) (ws : List Stalled) → IsNew ws number → find (λ (s : Stalled). same_number s.message.number number) ws ≡ None
none-from-new number ws new =
    find-none (λ (s : Stalled). same_number s.message.number number) ws
    (All-weaker (λ (s : Stalled). s.message.number ≢ number) (λ s. same_number s.message.number number ≡ false) (λ s differs. by s.message.number (same_number s.message.number number) refl differs) ws new)
  where
    by : (n : MsgNo) (b : Bool) → same_number n number ≡ b → n ≢ number → b ≡ false
    by n true is differs = absurd (differs (same-is n number is))
    by n false is differs = refl

abbrev pub is_other : MsgNo → Stalled → Bool
is_other number s = not (same_number s.message.number number)

others-all : (number : MsgNo) (ws : List Stalled) → HasNone number ws → filter (is_other number) ws ≡ ws
others-all number ws none = filter-all (is_other number) ws (All-weaker (λ s. same_number s.message.number number ≡ false) (λ s. is_other number s ≡ true) (λ s is. ap not is) ws none)

pub others-none : (number : MsgNo) (ws : List Stalled) → HasNone number ws → ws ≡ filter (is_other number) ws
others-none number ws none = sym (others-all number ws none)

-- the slot of the number holds its message
module _ (slots : List Slot) (number : MsgNo) (at : ℕ) (s : Slot) (order : IsOrder slots) (slot : IsSlotAt slots number at) (is : get_or slots at s ≡ s) where
  abbrev test : Stalled → Bool
  test h = same_number h.message.number number

  named-here : IsNamed s
  named-here = subst IsNamed is (order.named at s slot.within)

  number-here : s.number ≡ number
  number-here = ap (λ (o : Slot). o.number) (sym is) ∙ slot.here s

  pub found : s.held ≡ find test (waiting_of slots)
  found =
      by s.held named-here
      ∙ (sym (find-past test (waiting_of (take at slots)) (cons_option s.held (waiting_of (drop (suc at) slots))) slot.before)
      ∙ ap (find test) (sym (waiting-split slots at s slot.within is)))
    where
      by : (o : Option Stalled) → IfSome o (λ h. h.message.number ≡ s.number) → o ≡ find test (cons_option o (waiting_of (drop (suc at) slots)))
      by None named = sym (find-none test (waiting_of (drop (suc at) slots)) slot.after)
      by (Some h) named =
          let passes : test h ≡ true = subst (λ (n : MsgNo). same_number n number ≡ true) (sym (named ∙ number-here)) (same-itself number) in
          rw passes refl

  -- and where it is emptied the others stay
  pub emptied : (e : Slot) → e.held ≡ None → waiting_of (set slots at e) ≡ filter (is_other number) (waiting_of slots)
  emptied e none =
      let front = waiting_of (take at slots) in
      let back = waiting_of (drop (suc at) slots) in
      ap waiting_of (set_split slots at e slot.within)
      ∙ (filter_map-append (λ (s : Slot). s.held) (take at slots) (e ∷ drop (suc at) slots)
      ∙ (ap (λ o. front ++ cons_option o back) none
      ∙ (by s.held named-here
      ∙ (sym (filter-append (is_other number) front (cons_option s.held back))
      ∙ ap (filter (is_other number)) (sym (waiting-split slots at s slot.within is))))))
    where
      by : (o : Option Stalled) → IfSome o (λ h. h.message.number ≡ s.number)
          → waiting_of (take at slots) ++ waiting_of (drop (suc at) slots) ≡ filter (is_other number) (waiting_of (take at slots)) ++ filter (is_other number) (cons_option o (waiting_of (drop (suc at) slots)))
      by None named = rw (others-all number (waiting_of (take at slots)) slot.before, others-all number (waiting_of (drop (suc at) slots)) slot.after) refl
      by (Some h) named =
          let fails : is_other number h ≡ false = ap not (subst (λ (n : MsgNo). same_number n number ≡ true) (sym (named ∙ number-here)) (same-itself number)) in
          rw (fails, others-all number (waiting_of (take at slots)) slot.before, others-all number (waiting_of (drop (suc at) slots)) slot.after) refl

  pub order-emptied : (e : Slot) → e.held ≡ None → e.number ≡ s.number → IsOrder (set slots at e)
  order-emptied e none same = record {
    rises =
        AllPairs-set IsFollowedBy slots at s e slot.within is
        (λ a follows. ⊎_elim (λ before. inl (subst (IsBefore a.number) (sym same) before)) (λ tied. inr (tied.0 ∙ sym same, tied.1)) follows)
        (λ b follows. ⊎_elim (λ before. inl (subst (λ (n : MsgNo). IsBefore n b.number) (sym same) before)) (λ tied. inr (same ∙ tied.0, none)) follows)
        order.rises;
    named = All-set IsNamed slots at e (subst (λ o. IfSome o (λ (h : Stalled). h.message.number ≡ e.number)) (sym none) tt) order.named;
  }

-- empty slots go
pub waiting-full : (slots : List Slot) → waiting_of (filter (λ (s : Slot). is_some s.held) slots) ≡ waiting_of slots
waiting-full [] = refl
waiting-full (s ∷ slots) = by s.held refl (waiting-full slots)
  where
    by : (o : Option Stalled) → s.held ≡ o → waiting_of (filter (λ (s : Slot). is_some s.held) slots) ≡ waiting_of slots
        → waiting_of (filter (λ (s : Slot). is_some s.held) (s ∷ slots)) ≡ cons_option o (waiting_of slots)
    by None is rest = rw is rest
    by (Some h) is rest = rw is (ap (λ ws. h ∷ ws) rest)

pub same-full : (old slots : List Slot) → SameWaiting old slots → SameWaiting old (filter (λ (s : Slot). is_some s.held) slots)
same-full old slots same = record {
  same = waiting-full slots ∙ same.same;
  order = record { rises = AllPairs-filter IsFollowedBy (λ (s : Slot). is_some s.held) slots same.order.rises; named = All-filter (λ (s : Slot). is_some s.held) IsNamed slots same.order.named };
}

pub same-rest : (old : List Slot) (s : Slot) (slots : List Slot) → s.held ≡ None → SameWaiting old (s ∷ slots) → SameWaiting old slots
same-rest old s slots none same = record {
  same = sym (ap (λ o. cons_option o (waiting_of slots)) none) ∙ same.same;
  order = order-tail s slots same.order;
}
