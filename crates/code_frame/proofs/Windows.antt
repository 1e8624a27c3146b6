-- The parts of a frame: how they change with the list in which they lie.
use Rattle.std.proofs.Common.{◌≡◌, ◌==◌, false, ℕ, ℤ, zero, suc, ◌+◌, ◌-◌, ◌<◌, ◌≤◌, Some, List, [], ◌∷◌, ◌++◌, length, length-append, length-drop, map, drop, take, reverse, slice_get, slice_set, unwrap_or, refl, sym, ap, subst, ◌∙◌, arith, append_assoc, w64, inl, inr}
use Rattle.std.proofs.lemmas.Bool.{cases_lt}
use Rattle.std.proofs.lemmas.List.{drop_all, drop_at, drop-set-add, drop-set-lt, length-reverse, length-take-le, reverse-append, reverse-reverse, take_at, take-append-drop, take-append-le, take-set-le}
use Rattle.std.proofs.Math.Seq.{take-set-lt}
use Rattle.std.specs.Int.{cast_signed}
use Rattle.ruby_value.specs.declared.kind.Kind.{Kind}
use Rattle.ruby_value.specs.declared.value.Value.{Value}
use Rattle.ruby_value.specs.declared.value.Value.TheVariants as value
use Rattle.ruby_value.specs.Prelude.{default_value}
use Rattle.code_frame.specs.declared.mark.Mark.{Mark}
use Rattle.code_frame.specs.declared.slot.Slot.{Slot}
use Rattle.code_frame.specs.Prelude.{IsAddress, IsBig, IsBool, IsInt, IsMark, IsMoved, IsTopReference, IsPut, IsReference, IsWord, Over, Rest, SameElsewhere, SameRest, Window, begun, big, pushed, reference_of, stored, value_at, value_in, values_from, window, word_of}
use Rattle.code_frame.proofs.Values.{address_word, big_itself, bool_word, int_word, is_word, reference_word, values_get, values_length, values_push, values_same, values_set}

pub same_window : (a b : Window) → a.stack ≡ b.stack → a.locals ≡ b.locals → a.under ≡ b.under → a ≡ b
same_window a b es el eu =
    let S : List Value → Window = λ s. record { stack = s; locals = a.locals; under = a.under } in
    let L : List Value → Window = λ l. record { stack = b.stack; locals = l; under = a.under } in
    let U : List Value → Window = λ u. record { stack = b.stack; locals = b.locals; under = u } in
    ap S es ∙ ap L el ∙ ap U eu

drop_push : {A : Type 0} (n : ℕ) (xs : List A) (v : A) → n ≤ length xs → drop n (xs ++ v ∷ []) ≡ drop n xs ++ v ∷ []
drop_push zero xs v h = refl
drop_push (suc n) [] v h = absurd (omega (arith, h))
drop_push (suc n) (x ∷ xs) v h = drop_push n xs v (omega (arith, h))

pub push_window : (xs : List Value) (v : Value) (base floor : ℕ) → base ≤ floor → floor ≤ length xs → window (xs ++ v ∷ []) base floor ≡ pushed v (window xs base floor)
push_window xs v base floor low high =
    same_window (window (xs ++ v ∷ []) base floor) (pushed v (window xs base floor))
    (ap reverse (drop_push floor xs v high) ∙ reverse-append (drop floor xs) (v ∷ []))
    (ap (drop base) (take-append-le floor xs (v ∷ []) high))
    (take-append-le base xs (v ∷ []) (omega (arith, low, high)))

above : (P : Value → Type 0) (Q : List Value → Type 0) (xs : List Value) (floor : ℕ) → Over P Q (reverse (drop floor xs)) → floor < length xs
above P Q xs floor over = elim (cases_lt floor (length xs)) [ inl h ↦ h | inr h ↦ absurd (subst (λ l. Over P Q (reverse l)) (drop_all floor xs h) over) ]

-- Slots, the topmost of which is pushed or popped.

module _ (ws more : List Slot) (s : Slot) (kept : List Value) (is : more ≡ ws ++ s ∷ []) (base floor : ℕ) (low : base ≤ floor) where
  abbrev pub top : Value
  top = value_in s (value_at kept (length ws))

  pub long : length more ≡ length ws + 1
  long = ap length is ∙ simp length-append (omega arith)

  values_more : values_from 0 more kept ≡ values_from 0 ws kept ++ top ∷ []
  values_more = ap (λ l. values_from 0 l kept) is ∙ values_push 0 (length ws) ws s kept (omega arith)

  pub grown : floor ≤ length ws → window (values_from 0 more kept) base floor ≡ pushed top (window (values_from 0 ws kept) base floor)
  grown high =
      ap (λ l. window l base floor) values_more
      ∙ push_window (values_from 0 ws kept) top base floor low (omega (arith, high, values_length 0 ws kept))

  -- a word is pushed
  pub pushed_word : floor ≤ length ws → (old : Window) → window (values_from 0 ws kept) base floor ≡ old → IsWord s.sort → window (values_from 0 more kept) base floor ≡ pushed (word_of s) old
  pushed_word high old view word =
      grown high ∙ ap (λ w. pushed top w) view ∙ ap (λ v. pushed v old) (is_word s.sort s.word (value_at kept (length ws)) (value.Bool false) word)

  -- it is popped
  module _ (old : Window) (view : window (values_from 0 more kept) base floor ≡ old) (P : Value → Type 0) (Q : List Value → Type 0) (over : Over P Q old.stack) where
    pub some_above : floor ≤ length ws
    some_above =
        let there : Over P Q (reverse (drop floor (values_from 0 more kept))) = subst (λ w. Over P Q w.stack) (sym view) over in
        omega (arith, above P Q (values_from 0 more kept) floor there, values_length 0 more kept, long)

    pub popped : old ≡ pushed top (window (values_from 0 ws kept) base floor)
    popped = sym view ∙ grown some_above

    pub stack_is : old.stack ≡ top ∷ reverse (drop floor (values_from 0 ws kept))
    stack_is = ap (λ w. w.stack) popped

    pub rest_is : SameRest old (window (values_from 0 ws kept) base floor)
    rest_is = record { locals = sym (ap (λ w. w.locals) popped); under = sym (ap (λ w. w.under) popped) }

    pub on_top : P top
    on_top = let there : Over P Q (top ∷ reverse (drop floor (values_from 0 ws kept))) = subst (Over P Q) stack_is over in there.0

    pub popped_kept : (at : ℕ) (v : Value) (left : List Value) → at ≡ length ws → v ≡ value_in s (value_at kept at) → SameElsewhere kept at left
        → (old.stack ≡ v ∷ reverse (drop floor (values_from 0 ws left))) × SameRest old (window (values_from 0 ws left) base floor)
    popped_kept at v left here taken same =
        let the_same : values_from 0 ws kept ≡ values_from 0 ws left = sym (values_same 0 ws kept left (λ k from within. same k (λ q. omega (arith, q, here, within)))) in
        let first : top ≡ v = ap (λ k. value_in s (value_at kept k)) (sym here) ∙ sym taken in (
          stack_is ∙ ap (λ x. x ∷ reverse (drop floor (values_from 0 ws kept))) first ∙ ap (λ l. v ∷ reverse (drop floor l)) the_same,
          subst (λ l. SameRest old (window l base floor)) the_same rest_is,
        )

module _ (ws more : List Slot) (s : Slot) (kept : List Value) (is : more ≡ ws ++ s ∷ []) (base floor : ℕ) (low : base ≤ floor) (old : Window) (view : window (values_from 0 more kept) base floor ≡ old) where
  pub popped_int : Over IsInt Rest old.stack → (n : ℤ) → n ≡ cast_signed w64 s.word → old.stack ≡ value.Int n ∷ reverse (drop floor (values_from 0 ws kept))
  popped_int over n same =
      stack_is ws more s kept is base floor low old view IsInt Rest over
      ∙ ap (λ v. v ∷ reverse (drop floor (values_from 0 ws kept))) (int_word s.sort s.word (value_at kept (length ws)) (on_top ws more s kept is base floor low old view IsInt Rest over) ∙ ap value.Int (sym same))

  pub popped_bool : Over IsBool Rest old.stack → old.stack ≡ value.Bool (s.word == 1) ∷ reverse (drop floor (values_from 0 ws kept))
  popped_bool over =
      stack_is ws more s kept is base floor low old view IsBool Rest over
      ∙ ap (λ v. v ∷ reverse (drop floor (values_from 0 ws kept))) (bool_word s.sort s.word (value_at kept (length ws)) (on_top ws more s kept is base floor low old view IsBool Rest over))

  pub popped_address : Over IsAddress Rest old.stack → old.stack ≡ value.Addr s.word ∷ reverse (drop floor (values_from 0 ws kept))
  popped_address over =
      stack_is ws more s kept is base floor low old view IsAddress Rest over
      ∙ ap (λ v. v ∷ reverse (drop floor (values_from 0 ws kept))) (address_word s.sort s.word (value_at kept (length ws)) (on_top ws more s kept is base floor low old view IsAddress Rest over))

  pub popped_reference : Over IsReference Rest old.stack → IsTopReference old.stack (reference_of s.sort s.word) (reverse (drop floor (values_from 0 ws kept)))
  popped_reference over =
      subst (λ l. IsTopReference l (reference_of s.sort s.word) (reverse (drop floor (values_from 0 ws kept)))) (sym (stack_is ws more s kept is base floor low old view IsReference Rest over))
      (reference_word s.sort s.word (value_at kept (length ws)) (reverse (drop floor (values_from 0 ws kept))) (on_top ws more s kept is base floor low old view IsReference Rest over))

-- A value that is kept apart is pushed.
pub pushed_apart : (ws more : List Slot) (s : Slot) (before after : List Value) (v : Value) (at base floor : ℕ) (old : Window) → more ≡ ws ++ s ∷ [] → base ≤ floor → floor ≤ length ws
    → window (values_from 0 ws before) base floor ≡ old → at ≡ length ws → IsPut before at v after → ((x : Value) → value_in s x ≡ big x) → IsBig v
    → window (values_from 0 more after) base floor ≡ pushed v old
pushed_apart ws more s before after v at base floor old is low high view here put apart big_one =
    let the_same : values_from 0 ws after ≡ values_from 0 ws before = values_same 0 ws before after (λ k from within. put.elsewhere k (λ q. omega (arith, q, here, within))) in
    let first : value_in s (value_at after (length ws)) ≡ v = ap (λ k. value_in s (value_at after k)) (sym here) ∙ ap (λ x. value_in s x) put.there ∙ apart v ∙ big_itself v big_one in
    grown ws more s after is base floor low high ∙ ap (λ x. pushed x (window (values_from 0 ws after) base floor)) first
    ∙ ap (λ l. pushed v (window l base floor)) the_same ∙ ap (λ w. pushed v w) view

-- Locals.

drop_get : {A : Type 0} (b n : ℕ) (xs : List A) → slice_get (drop b xs) n ≡ slice_get xs (b + n)
drop_get zero n xs = let e : n ≡ 0 + n = omega arith in ap (slice_get xs) e
drop_get (suc b) n [] = let e : suc (b + n) ≡ suc b + n = omega arith in ap (slice_get []) e
drop_get (suc b) n (x ∷ xs) = let e : suc (b + n) ≡ suc b + n = omega arith in drop_get b n xs ∙ ap (slice_get (x ∷ xs)) e

take_get : {A : Type 0} (f i : ℕ) (xs : List A) → i < f → slice_get (take f xs) i ≡ slice_get xs i
take_get zero i xs h = absurd (omega (arith, h))
take_get (suc f) i [] h = refl
take_get (suc f) zero (x ∷ xs) h = refl
take_get (suc f) (suc i) (x ∷ xs) h = take_get f i xs (omega (arith, h))

-- a local lies below the floor
pub local_below : (xs : List Value) (base floor n : ℕ) (old : Window) → window xs base floor ≡ old → n < length old.locals → floor ≤ length xs → base + n < floor
local_below xs base floor n old view within high =
    let there : n < length (drop base (take floor xs)) = subst (λ w. n < length w.locals) (sym view) within in
    omega (arith, there, length-drop base (take floor xs), length-take-le floor xs high)

pub local_is : (ws : List Slot) (s : Slot) (kept : List Value) (base floor n at : ℕ) (old : Window) → window (values_from 0 ws kept) base floor ≡ old → floor ≤ length ws → n < length old.locals → at ≡ base + n
    → Some s ≡ slice_get ws at → value_at old.locals n ≡ value_in s (value_at kept at)
local_is ws s kept base floor n at old view high within here found =
    let below : base + n < floor = local_below (values_from 0 ws kept) base floor n old view within (omega (arith, high, values_length 0 ws kept)) in
    let get : slice_get (drop base (take floor (values_from 0 ws kept))) n ≡ Some (value_in s (value_at kept at)) =
    drop_get base n (take floor (values_from 0 ws kept)) ∙ take_get floor (base + n) (values_from 0 ws kept) below
    ∙ ap (slice_get (values_from 0 ws kept)) (sym here) ∙ values_get 0 at at ws s kept (omega arith) found in
    ap (λ w. value_at w.locals n) (sym view) ∙ ap (λ o. unwrap_or o (value.Bool false)) get

set_window : (xs : List Value) (base floor n : ℕ) (v : Value) → base + n < floor → window (slice_set xs (base + n) v) base floor ≡ record (window xs base floor) { locals = slice_set (drop base (take floor xs)) n v }
set_window xs base floor n v below =
    same_window (window (slice_set xs (base + n) v) base floor) (record (window xs base floor) { locals = slice_set (drop base (take floor xs)) n v })
    (ap reverse (drop-set-lt floor xs (base + n) v below))
    (ap (drop base) (take-set-lt floor xs (base + n) v below) ∙ drop-set-add base (take floor xs) n v)
    (take-set-le base xs (base + n) v (omega arith))

-- a local was written from the top
pub stored_is : (ws more : List Slot) (s : Slot) (kept after : List Value) (base floor n at from : ℕ) (old : Window) → more ≡ ws ++ s ∷ [] → base ≤ floor
    → window (values_from 0 more kept) base floor ≡ old → (P : Value → Type 0) (Q : List Value → Type 0) → Over P Q old.stack → n < length old.locals → at ≡ base + n → from ≡ length ws → IsMoved s kept from at after
    → window (values_from 0 (slice_set ws at s) after) base floor ≡ stored n old
stored_is ws more s kept after base floor n at from old is low view P Q over within here end moved =
    let high : floor ≤ length ws = some_above ws more s kept is base floor low old view P Q over in
    let pop : old ≡ pushed (top ws more s kept is base floor low) (window (values_from 0 ws kept) base floor) = popped ws more s kept is base floor low old view P Q over in
    let inside : n < length (drop base (take floor (values_from 0 ws kept))) = subst (λ w. n < length w.locals) pop within in
    let below : base + n < floor = local_below (values_from 0 ws kept) base floor n (window (values_from 0 ws kept) base floor) refl inside (omega (arith, high, values_length 0 ws kept)) in
    let moved_value : value_in s (value_at after at) ≡ top ws more s kept is base floor low = moved.there ∙ ap (λ k. value_in s (value_at kept k)) end in
    let values : values_from 0 (slice_set ws at s) after ≡ slice_set (values_from 0 ws kept) at (top ws more s kept is base floor low) =
    values_set 0 at at ws s kept after (top ws more s kept is base floor low) (omega arith) (omega (arith, below, high, here)) moved_value
    (λ j other low high. moved.elsewhere j other (λ q. omega (arith, q, end, high))) in
    ap (λ l. window l base floor) values ∙ ap (λ k. window (slice_set (values_from 0 ws kept) k (top ws more s kept is base floor low)) base floor) here
    ∙ set_window (values_from 0 ws kept) base floor n (top ws more s kept is base floor low) below
    ∙ ap (stored n) (sym pop)

-- Bodies that begin and end.

-- the list of a frame, by its parts
pub parts_are : (xs : List Value) (base floor : ℕ) → base ≤ floor → xs ≡ (take base xs ++ drop base (take floor xs)) ++ reverse (reverse (drop floor xs))
parts_are xs base floor low =
    let first : take base (take floor xs) ≡ take base xs = take_less base floor xs low in
    sym (take-append-drop floor xs)
    ∙ ap (λ l. l ++ drop floor xs) (sym (take-append-drop base (take floor xs)) ∙ ap (λ l. l ++ drop base (take floor xs)) first)
    ∙ ap (λ l. (take base xs ++ drop base (take floor xs)) ++ l) (sym (reverse-reverse (drop floor xs)))
  where
    take_less : {A : Type 0} (b f : ℕ) (xs : List A) → b ≤ f → take b (take f xs) ≡ take b xs
    take_less zero f xs h = refl
    take_less (suc b) zero xs h = absurd (omega (arith, h))
    take_less (suc b) (suc f) [] h = refl
    take_less {A} (suc b) (suc f) (x ∷ xs) h = ap (λ (l : List A). x ∷ l) (take_less b f xs (omega (arith, h)))

reverse_split : (n : ℕ) (xs : List Value) → reverse xs ≡ reverse (drop n xs) ++ reverse (take n xs)
reverse_split n xs = ap reverse (sym (take-append-drop n xs)) ∙ reverse-append (take n xs) (drop n xs)

-- at a body's end
pub left_is : (under : List Value) (m : Mark) (w : Window) (rest : List Value) → IsMark m w → under ≡ (w.under ++ w.locals) ++ reverse rest → window under m.base m.floor ≡ record w { stack = rest }
left_is under m w rest mark is =
    let floor : length (w.under ++ w.locals) ≡ m.floor = simp length-append (sym mark.floor) in
    let below : take m.floor under ≡ w.under ++ w.locals = ap (take m.floor) is ∙ take_at (w.under ++ w.locals) (reverse rest) m.floor floor in
    let again : under ≡ w.under ++ (w.locals ++ reverse rest) = is ∙ append_assoc w.under w.locals (reverse rest) in
    same_window (window under m.base m.floor) (record w { stack = rest })
    (ap (λ l. reverse (drop m.floor l)) is ∙ ap reverse (drop_at (w.under ++ w.locals) (reverse rest) m.floor floor) ∙ reverse-reverse rest)
    (ap (drop m.base) below ∙ drop_at w.under w.locals m.base (sym mark.base))
    (ap (take m.base) again ∙ take_at w.under (w.locals ++ reverse rest) m.base (sym mark.base))

pub mark_is : (xs : List Value) (base floor : ℕ) (m : Mark) (old : Window) → base ≤ floor → floor ≤ length xs → window xs base floor ≡ old → m.base ≡ base → m.floor ≡ floor → IsMark m old
mark_is xs base floor m old low high view b f =
    let under : length (take base xs) ≡ base = length-take-le base xs (omega (arith, low, high)) in
    let locals : length (drop base (take floor xs)) ≡ floor - base = length-drop base (take floor xs) ∙ ap (λ k. k - base) (length-take-le floor xs high) in
    subst (IsMark m) view (record { base = b ∙ sym under; floor = omega (arith, f, under, locals, low) })

-- at a body's beginning, over the defaults of its other locals
pub begun_is : (xs : List Value) (base floor count : ℕ) (kinds : List Kind) (old mid : Window) (from to : ℕ) → base ≤ floor → floor ≤ length xs → window xs base floor ≡ mid
    → mid.stack ≡ reverse (map default_value kinds) ++ old.stack → SameRest old mid → count ≤ length old.stack → to ≡ length xs → from ≡ length xs - length kinds - count
    → (count + length kinds ≤ length xs) × (from ≤ to) × (window xs from to ≡ begun count kinds old)
begun_is xs base floor count kinds old mid from to low high view stack same enough is_to is_from =
    let all : xs ≡ (mid.under ++ mid.locals) ++ reverse mid.stack = subst (λ w. xs ≡ (w.under ++ w.locals) ++ reverse w.stack) view (parts_are xs base floor low) in
    let turned : reverse mid.stack ≡ (reverse (drop count old.stack) ++ reverse (take count old.stack)) ++ map default_value kinds =
    ap reverse stack ∙ reverse-append (reverse (map default_value kinds)) old.stack
    ∙ ap (λ l. reverse old.stack ++ l) (reverse-reverse (map default_value kinds))
    ∙ ap (λ l. l ++ map default_value kinds) (reverse_split count old.stack) in
    let split : xs ≡ (old.under ++ old.locals ++ reverse (drop count old.stack)) ++ (reverse (take count old.stack) ++ map default_value kinds) =
    all ∙ ap (λ l. (l ++ mid.locals) ++ reverse mid.stack) same.under ∙ ap (λ l. (old.under ++ l) ++ reverse mid.stack) same.locals ∙ ap (λ l. (old.under ++ old.locals) ++ l) turned
    ∙ ap (λ l. (old.under ++ old.locals) ++ l) (append_assoc (reverse (drop count old.stack)) (reverse (take count old.stack)) (map default_value kinds))
    ∙ sym (append_assoc (old.under ++ old.locals) (reverse (drop count old.stack)) (reverse (take count old.stack) ++ map default_value kinds)) in
    let long : length (reverse (take count old.stack) ++ map default_value kinds) ≡ count + length kinds =
    length-append (reverse (take count old.stack)) (map default_value kinds) ∙ omega (arith, length-reverse (take count old.stack), length-take-le count old.stack enough, length_map kinds) in
    let longer : length xs ≡ length (old.under ++ old.locals ++ reverse (drop count old.stack)) + (count + length kinds) =
    ap length split ∙ length-append (old.under ++ old.locals ++ reverse (drop count old.stack)) (reverse (take count old.stack) ++ map default_value kinds) ∙ omega (arith, long) in
    let starts : length (old.under ++ old.locals ++ reverse (drop count old.stack)) ≡ from = omega (arith, longer, is_from) in
    let whole : take to xs ≡ xs = ap (λ k. take k xs) is_to ∙ take_all_of xs in (
      omega (arith, longer),
      omega (arith, is_to, is_from),
      same_window (window xs from to) (begun count kinds old)
          (ap reverse (drop_all to xs (omega (arith, is_to))))
          (ap (drop from) (whole ∙ split) ∙ drop_at (old.under ++ old.locals ++ reverse (drop count old.stack)) (reverse (take count old.stack) ++ map default_value kinds) from starts)
          (ap (take from) split ∙ take_at (old.under ++ old.locals ++ reverse (drop count old.stack)) (reverse (take count old.stack) ++ map default_value kinds) from starts),
    )
  where
    length_map : (ks : List Kind) → length (map default_value ks) ≡ length ks
    length_map [] = refl
    length_map (k ∷ ks) = ap suc (length_map ks)

    take_all_of : {A : Type 0} (xs : List A) → take (length xs) xs ≡ xs
    take_all_of [] = refl
    take_all_of {A} (x ∷ xs) = ap (λ (l : List A). x ∷ l) (take_all_of xs)

-- one more default on top
pub more_defaults : (some more : List Kind) (k : Kind) (below stack new : List Value) → more ≡ some ++ k ∷ [] → stack ≡ reverse (map default_value some) ++ below → new ≡ default_value k ∷ stack
    → new ≡ reverse (map default_value more) ++ below
more_defaults some more k below stack new is was on =
    on ∙ ap (λ (l : List Value). default_value k ∷ l) was ∙ ap (λ l. l ++ below) (sym (ap (λ (ks : List Kind). reverse (map default_value ks)) is ∙ ap reverse (map_push some k) ∙ reverse-append (map default_value some) (default_value k ∷ [])))
  where
    map_push : (ks : List Kind) (k : Kind) → map default_value (ks ++ k ∷ []) ≡ map default_value ks ++ default_value k ∷ []
    map_push [] k = refl
    map_push (x ∷ ks) k = ap (λ (l : List Value). default_value x ∷ l) (map_push ks k)

-- a local lies below what is popped
pub local_low : (ws more : List Slot) (s : Slot) (kept : List Value) (is : more ≡ ws ++ s ∷ []) (base floor : ℕ) (low : base ≤ floor) (old : Window) (view : window (values_from 0 more kept) base floor ≡ old)
    → (P : Value → Type 0) (Q : List Value → Type 0) → Over P Q old.stack → (n : ℕ) → n < length old.locals → (base + n < floor) × (floor ≤ length ws)
local_low ws more s kept is base floor low old view P Q over n within =
    let high : floor ≤ length ws = some_above ws more s kept is base floor low old view P Q over in
    (local_below (values_from 0 more kept) base floor n old view within (omega (arith, high, values_length 0 more kept, long ws more s kept is base floor low)), high)

-- one more value off the top
pub next_off : (stack : List Value) (i : ℕ) (v : Value) (rest : List Value) → drop i stack ≡ v ∷ rest → (take (i + 1) stack ≡ take i stack ++ v ∷ []) × (drop (i + 1) stack ≡ rest)
next_off [] zero v rest is = absurd (cc is)
next_off [] (suc i) v rest is = absurd (cc is)
next_off (x ∷ stack) zero v rest is =
    let first : x ≡ v = cc is in
    let more : stack ≡ rest = cc is in
    (ap (λ (y : Value). y ∷ []) first, more)
next_off (x ∷ stack) (suc i) v rest is =
    let next = next_off stack i v rest is in
    let e : suc (i + 1) ≡ suc i + 1 = omega arith in
    (ap (λ k. take k (x ∷ stack)) (sym e) ∙ ap (λ (l : List Value). x ∷ l) next.0, ap (λ k. drop k (x ∷ stack)) (sym e) ∙ next.1)

pub same_rests : (a b c : Window) → SameRest a b → SameRest b c → SameRest a c
same_rests a b c first second = record { locals = second.locals ∙ first.locals; under = second.under ∙ first.under }
