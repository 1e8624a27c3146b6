-- What is found by going along calls is what they reach.
use Rattle.std.proofs.Common.{◌≡◌, ◌+◌, ◌<◌, ◌≤◌, ◌==◌, ◌||◌, ◌++◌, ℕ, Bool, true, false, not, cond, zero, suc, Option, None, Some, List, [], ◌∷◌, length, map, get_or, nat_lt, ltb-true, ltb-false, take, add-one, arith, refl, sym, ap, ◌∙◌, subst}
use Rattle.std.proofs.lemmas.Bool.{eqb-true, eq-eqb}
use Rattle.std.proofs.lemmas.Option.{get_or_from_slice_get, slice_get_past, slice_get_within}
use Rattle.std.proofs.Math.Seq.{get_or-append_seam}
use Rattle.std.proofs.Math.ListN.{set}
use Rattle.std.proofs.lemmas.List.{take_more, get_or_append_left, length-set, length-append}
use Rattle.std.specs.List.{slice_get}
use Rattle.slicc_plan.specs.declared.part.Body.{Body}
use Rattle.slicc_plan.specs.Prelude.{calls_at, calls_or_none, is_reached, reaches_within}
use Rattle.slicc_flow.specs.declared.reach.Found.{Found}
use Rattle.slicc_flow.specs.Marks.{found_in}
use Rattle.slicc_flow.specs.Prelude.{calls_of_found, expanded, is_unseen, next_calls, none_found, with_call, with_calls}
use Rattle.slicc_flow.proofs.Reaching.{any_in, any_more, either, has, has_first, has_index, has_last, has_later, has_left, has_more, none_within, or_left, within_le, within_then}

-- how many aren't found yet
abbrev pub left : List Bool → ℕ
left [] = 0
left (true ∷ bs) = left bs
left (false ∷ bs) = suc (left bs)

left_set : (bs : List Bool) (c : ℕ) → is_unseen bs c ≡ true → suc (left (set bs c true)) ≡ left bs
left_set [] c h = absurd (cc)
left_set (true ∷ bs) zero h = absurd (cc)
left_set (false ∷ bs) zero h = refl
left_set (true ∷ bs) (suc c) h = left_set bs c h
left_set (false ∷ bs) (suc c) h = ap suc (left_set bs c h)

unseen_within : (bs : List Bool) (c : ℕ) → is_unseen bs c ≡ true → c < length bs
unseen_within [] c h = absurd (cc)
unseen_within (b ∷ bs) zero h = omega arith
unseen_within (b ∷ bs) (suc c) h = let i = unseen_within bs c h in omega arith

seen_set : (bs : List Bool) (c : ℕ) → c < length bs → get_or (set bs c true) c false ≡ true
seen_set [] c h = absurd (omega arith)
seen_set (b ∷ bs) zero h = refl
seen_set (b ∷ bs) (suc c) h = seen_set bs c (omega arith)

seen_other : (bs : List Bool) (c k : ℕ) → get_or (set bs c true) k false ≡ true → (k == c) ≡ false → get_or bs k false ≡ true
seen_other [] c k h other = h
seen_other (b ∷ bs) zero zero h other = absurd (cc)
seen_other (b ∷ bs) zero (suc k) h other = h
seen_other (b ∷ bs) (suc c) zero h other = h
seen_other (b ∷ bs) (suc c) (suc k) h other = seen_other bs c k h (go (k == c) refl)
  where
    go : (v : Bool) → (k == c) ≡ v → (k == c) ≡ false
    go false e = e
    go true e = let same : (suc k == suc c) ≡ true = eq-eqb (suc k) (suc c) (ap suc (eqb-true k c e)) in absurd (cc)

seen_kept : (bs : List Bool) (c k : ℕ) → get_or bs k false ≡ true → get_or (set bs c true) k false ≡ true
seen_kept [] c k h = h
seen_kept (b ∷ bs) zero zero h = refl
seen_kept (b ∷ bs) zero (suc k) h = h
seen_kept (b ∷ bs) (suc c) zero h = h
seen_kept (b ∷ bs) (suc c) (suc k) h = seen_kept bs c k h

-- a function that is there is found or not
seen_already : (bs : List Bool) (c : ℕ) → c < length bs → is_unseen bs c ≡ false → get_or bs c false ≡ true
seen_already [] c h k = absurd (omega arith)
seen_already (true ∷ bs) zero h k = refl
seen_already (false ∷ bs) zero h k = absurd (cc)
seen_already (b ∷ bs) (suc c) h k = seen_already bs c (omega arith) k

pub record Sound (functions : List Body) (calls : List ℕ) (f : Found) : Type 0 where
  pub sized : length f.seen ≡ length functions
  pub counted : length f.queue + left f.seen ≡ length functions
  pub queued : (k : ℕ) → get_or f.seen k false ≡ true → has k f.queue ≡ true
  pub reached : (i : ℕ) → i < length f.queue → reaches_within (suc i) functions (get_or f.queue i 0) calls ≡ true

pub record Kept (f g : Found) : Type 0 where
  pub seen : (k : ℕ) → get_or f.seen k false ≡ true → get_or g.seen k false ≡ true
  pub queue : (i : ℕ) → i < length f.queue → get_or g.queue i 0 ≡ get_or f.queue i 0
  pub longer : length f.queue ≤ length g.queue

pub record After (functions : List Body) (calls : List ℕ) (f : Found) (cs : List ℕ) (g : Found) : Type 0 where
  pub sound : Sound functions calls g
  pub kept : Kept f g
  pub marked : (c : ℕ) → has c cs ≡ true → c < length functions → get_or g.seen c false ≡ true

kept_self : (f : Found) → Kept f f
kept_self f = record { seen = λ k h. h; queue = λ i h. refl; longer = omega arith }

one_sound : (functions : List Body) (calls : List ℕ) (f : Found) (c : ℕ) → Sound functions calls f → is_unseen f.seen c ≡ true → reaches_within (suc (length f.queue)) functions c calls ≡ true → Sound functions calls (record { seen = set f.seen c true; queue = f.queue ++ c ∷ [] })
one_sound functions calls f c s new way =
    record {
      sized = length-set f.seen c true ∙ s.sized;
      counted = (let more = length-append f.queue (c ∷ []) in let fewer = left_set f.seen c new in let before = s.counted in omega arith);
      queued = λ k h. queued_go k (k == c) refl h;
      reached = λ i below. reached_go i (nat_lt i (length f.queue)) refl below;
    }
  where
    queued_go : (k : ℕ) (v : Bool) → (k == c) ≡ v → get_or (set f.seen c true) k false ≡ true → has k (f.queue ++ c ∷ []) ≡ true
    queued_go k true e h = subst (λ x. has x (f.queue ++ c ∷ []) ≡ true) (sym (eqb-true k c e)) (has_last c f.queue)
    queued_go k false e h = has_left k f.queue (c ∷ []) (s.queued k (seen_other f.seen c k h e))

    reached_go : (i : ℕ) (v : Bool) → nat_lt i (length f.queue) ≡ v → i < length (f.queue ++ c ∷ []) → reaches_within (suc i) functions (get_or (f.queue ++ c ∷ []) i 0) calls ≡ true
    reached_go i true e below =
        let inside : i < length f.queue = ltb-true i (length f.queue) e in
        subst (λ x. reaches_within (suc i) functions x calls ≡ true) (sym (get_or_append_left f.queue (c ∷ []) 0 i inside)) (s.reached i inside)
    reached_go i false e below =
        let outside : length f.queue ≤ i = ltb-false i (length f.queue) e in
        let more = length-append f.queue (c ∷ []) in
        let last : i ≡ length f.queue = omega arith in
        let x : get_or (f.queue ++ c ∷ []) i 0 ≡ c = ap (λ n. get_or (f.queue ++ c ∷ []) n 0) last ∙ get_or-append_seam f.queue c [] 0 in
        subst (λ x. reaches_within (suc i) functions x calls ≡ true) (sym x) (subst (λ n. reaches_within (suc n) functions c calls ≡ true) (sym last) way)

one_kept : (f : Found) (c : ℕ) → Kept f (record { seen = set f.seen c true; queue = f.queue ++ c ∷ [] })
one_kept f c =
    record {
      seen = λ k h. seen_kept f.seen c k h;
      queue = λ i below. get_or_append_left f.queue (c ∷ []) 0 i below;
      longer = (let more = length-append f.queue (c ∷ []) in omega arith);
    }

record One (functions : List Body) (calls : List ℕ) (f : Found) (c : ℕ) (g : Found) : Type 0 where
  sound : Sound functions calls g
  kept : Kept f g
  marked : c < length functions → get_or g.seen c false ≡ true

one_go : (functions : List Body) (calls : List ℕ) (f : Found) (c : ℕ) (v : Bool) → is_unseen f.seen c ≡ v → Sound functions calls f → reaches_within (suc (length f.queue)) functions c calls ≡ true → One functions calls f c (cond v (record { seen = set f.seen c true; queue = f.queue ++ c ∷ [] }) f)
one_go functions calls f c true e s way =
    record { sound = one_sound functions calls f c s e way; kept = one_kept f c; marked = λ below. seen_set f.seen c (unseen_within f.seen c e) }
one_go functions calls f c false e s way =
    record { sound = s; kept = kept_self f; marked = λ below. seen_already f.seen c (let same = s.sized in omega arith) e }

one : (functions : List Body) (calls : List ℕ) (f : Found) (c : ℕ) → Sound functions calls f → reaches_within (suc (length f.queue)) functions c calls ≡ true → One functions calls f c (with_call f c)
one functions calls f c s way = one_go functions calls f c (is_unseen f.seen c) refl s way

kept_both : (f g h : Found) → Kept f g → Kept g h → Kept f h
kept_both f g h a b =
    record {
      seen = λ k i. b.seen k (a.seen k i);
      queue = λ i below. b.queue i (let more = a.longer in omega arith) ∙ a.queue i below;
      longer = (let p = a.longer in let q = b.longer in omega arith);
    }

pub after_calls : (functions : List Body) (calls : List ℕ) (f : Found) (cs : List ℕ) → Sound functions calls f → ((c : ℕ) → has c cs ≡ true → reaches_within (suc (length f.queue)) functions c calls ≡ true) → After functions calls f cs (with_calls f cs)
after_calls functions calls f [] s ways = record { sound = s; kept = kept_self f; marked = λ c among below. absurd (cc) }
after_calls functions calls f (c ∷ cs) s ways =
    let first = one functions calls f c s (ways c (has_first c cs)) in
    let others = after_calls functions calls (with_call f c) cs first.sound
    (λ d among. within_le (suc (length f.queue)) (suc (length (with_call f c).queue)) functions d calls (let more = first.kept.longer in omega arith) (ways d (has_more d c cs among))) in
    record {
      sound = others.sound;
      kept = kept_both f (with_call f c) (with_calls (with_call f c) cs) first.kept others.kept;
      marked = λ d among below. marked_go d (c == d) refl first others among below;
    }
  where
    marked_go : (d : ℕ) (v : Bool) → (c == d) ≡ v → One functions calls f c (with_call f c) → After functions calls (with_call f c) cs (with_calls (with_call f c) cs) → has d (c ∷ cs) ≡ true → d < length functions → get_or (with_calls (with_call f c) cs).seen d false ≡ true
    marked_go d true e first others among below =
        let same : c ≡ d = eqb-true c d e in
        others.kept.seen d (subst (λ x. get_or (with_call f c).seen x false ≡ true) same (first.marked (omega arith)))
    marked_go d false e first others among below = others.marked d (has_later d c cs e among) below

-- one more call
with_last : (f : Found) (xs : List ℕ) (c : ℕ) → with_calls f (xs ++ c ∷ []) ≡ with_call (with_calls f xs) c
with_last f [] c = refl
with_last f (x ∷ xs) c = with_last (with_call f x) xs c

pub call_step : (f before after : Found) (cs : List ℕ) (i : ℕ) → i < length cs → before ≡ with_calls f (take i cs) → after ≡ with_call before (get_or cs i 0) → after ≡ with_calls f (take (i + 1) cs)
call_step f before after cs i below is next =
    next ∙ ap (λ g. with_call g (get_or cs i 0)) is ∙ sym (with_last f (take i cs) (get_or cs i 0)) ∙ ap (with_calls f) (sym (take_more cs i 0 below))

-- All calls of the functions at the first places lead to functions that are found.
pub record Closed (functions : List Body) (calls : List ℕ) (n : ℕ) (f : Found) : Type 0 where
  pub sound : Sound functions calls f
  pub roots : (c : ℕ) → has c calls ≡ true → c < length functions → get_or f.seen c false ≡ true
  pub closed : (j : ℕ) → j < n → j < length f.queue → (c : ℕ) → has c (calls_at functions (get_or f.queue j 0)) ≡ true → c < length functions → get_or f.seen c false ≡ true

past_closed : (functions : List Body) (calls : List ℕ) (n : ℕ) (f : Found) → length f.queue ≤ n → Closed functions calls n f → Closed functions calls (suc n) f
past_closed functions calls n f past k =
    record { sound = k.sound; roots = k.roots; closed = λ j small below. k.closed j (omega arith) below }

next_closed : (functions : List Body) (calls : List ℕ) (n x : ℕ) (f : Found) → n < length f.queue → get_or f.queue n 0 ≡ x → Closed functions calls n f → Closed functions calls (suc n) (with_calls f (calls_at functions x))
next_closed functions calls n x f inside is k =
    let way : reaches_within (suc n) functions x calls ≡ true = subst (λ y. reaches_within (suc n) functions y calls ≡ true) is (k.sound.reached n inside) in
    let after = after_calls functions calls f (calls_at functions x) k.sound
    (λ c among. within_le (suc (suc n)) (suc (length f.queue)) functions c calls (omega arith) (within_then (suc n) functions x c calls way among)) in
    record {
      sound = after.sound;
      roots = λ c among below. after.kept.seen c (k.roots c among below);
      closed = λ j small below c among there. closed_go j (nat_lt j n) refl small c after among there;
    }
  where
    closed_go : (j : ℕ) (v : Bool) → nat_lt j n ≡ v → j < suc n → (c : ℕ) → After functions calls f (calls_at functions x) (with_calls f (calls_at functions x)) → has c (calls_at functions (get_or (with_calls f (calls_at functions x)).queue j 0)) ≡ true → c < length functions → get_or (with_calls f (calls_at functions x)).seen c false ≡ true
    closed_go j true e small c after among there =
        let before : j < n = ltb-true j n e in
        let within : j < length f.queue = omega arith in
        let old : has c (calls_at functions (get_or f.queue j 0)) ≡ true = subst (λ y. has c (calls_at functions y) ≡ true) (after.kept.queue j within) among in
        after.kept.seen c (k.closed j before within c old there)
    closed_go j false e small c after among there =
        let least : n ≤ j = ltb-false j n e in
        let same : j ≡ n = omega arith in
        let read : get_or (with_calls f (calls_at functions x)).queue j 0 ≡ x = ap (λ i. get_or (with_calls f (calls_at functions x)).queue i 0) same ∙ after.kept.queue n inside ∙ is in
        after.marked c (subst (λ y. has c (calls_at functions y) ≡ true) read among) there

none_past : (xs : List ℕ) (n : ℕ) → slice_get xs n ≡ None → length xs ≤ n
none_past [] n e = omega arith
none_past (x ∷ xs) zero e = absurd (cc)
none_past (x ∷ xs) (suc n) e = let later = none_past xs n e in omega arith

step_go : (functions : List Body) (calls : List ℕ) (n : ℕ) (f : Found) (o : Option ℕ) → slice_get f.queue n ≡ o → Closed functions calls n f → Closed functions calls (suc n) (with_calls f (calls_of_found functions o))
step_go functions calls n f None e k = past_closed functions calls n f (none_past f.queue n e) k
step_go functions calls n f (Some x) e k = next_closed functions calls n x f (slice_get_within f.queue n x e) (get_or_from_slice_get f.queue n x 0 e) k

closed_all : (functions : List Body) (calls : List ℕ) (n : ℕ) (f : Found) → Closed functions calls 0 f → Closed functions calls n (expanded n functions f)
closed_all functions calls zero f k = k
closed_all functions calls (suc n) f k = step_go functions calls n (expanded n functions f) (slice_get (expanded n functions f).queue n) refl (closed_all functions calls n f k)

left_none : (bs : List Body) → left (map (λ (b : Body). false) bs) ≡ length bs
left_none [] = refl
left_none (b ∷ bs) = ap suc (left_none bs)

none_seen : (bs : List Body) (k : ℕ) → get_or (map (λ (b : Body). false) bs) k false ≡ false
none_seen [] k = refl
none_seen (b ∷ bs) zero = refl
none_seen (b ∷ bs) (suc k) = none_seen bs k

length_none : (bs : List Body) → length (map (λ (b : Body). false) bs) ≡ length bs
length_none [] = refl
length_none (b ∷ bs) = ap suc (length_none bs)

sound_none : (functions : List Body) (calls : List ℕ) → Sound functions calls (none_found functions)
sound_none functions calls =
    record {
      sized = length_none functions;
      counted = (let e = left_none functions in omega arith);
      queued = λ k h. let no = none_seen functions k in absurd (cc);
      reached = λ i below. absurd (omega arith);
    }

at_once : (functions : List Body) (calls : List ℕ) (c : ℕ) → has c calls ≡ true → reaches_within 1 functions c calls ≡ true
at_once functions calls c h = any_more (λ d. d == c) (λ d. (d == c) || reaches_within 0 functions c (calls_at functions d)) calls (λ d i. or_left (d == c) _ i) h

closed_first : (functions : List Body) (calls : List ℕ) → Closed functions calls 0 (with_calls (none_found functions) calls)
closed_first functions calls =
    let after = after_calls functions calls (none_found functions) calls (sound_none functions calls) (λ c among. at_once functions calls c among) in
    record { sound = after.sound; roots = after.marked; closed = λ j small below c among there. absurd (omega arith) }

pub closed_found : (functions : List Body) (calls : List ℕ) → Closed functions calls (length functions) (found_in functions calls)
closed_found functions calls = closed_all functions calls (length functions) (with_calls (none_found functions) calls) (closed_first functions calls)

further : (functions : List Body) (calls : List ℕ) (f : Found) (depth k c : ℕ) → Closed functions calls (length functions) f → (v : Bool) → nat_lt c (length functions) ≡ v → (c < length functions → get_or f.seen c false ≡ true) → (((d : ℕ) → has d (calls_at functions c) ≡ true → d < length functions → get_or f.seen d false ≡ true) → get_or f.seen k false ≡ true) → reaches_within depth functions k (calls_at functions c) ≡ true → get_or f.seen k false ≡ true
further functions calls f depth k c all true e marked later way =
    let (i, below, is) = has_index c f.queue (all.sound.queued c (marked (ltb-true c (length functions) e))) in
    let total = all.sound.counted in
    later (λ d among there. all.closed i (omega (arith, below)) below d (subst (λ x. has d (calls_at functions x) ≡ true) (sym is) among) there)
further functions calls f depth k c all false e marked later way =
    let past : slice_get functions c ≡ None = slice_get_past functions c (ltb-false c (length functions) e) in
    let nothing : calls_at functions c ≡ [] = ap calls_or_none past in
    let dead : reaches_within depth functions k (calls_at functions c) ≡ false = ap (reaches_within depth functions k) nothing ∙ none_within depth functions k in
    absurd (cc)

-- what is reached is found
complete : (functions : List Body) (calls : List ℕ) (f : Found) (depth k : ℕ) (cs : List ℕ) → Closed functions calls (length functions) f → ((c : ℕ) → has c cs ≡ true → c < length functions → get_or f.seen c false ≡ true) → k < length functions → reaches_within depth functions k cs ≡ true → get_or f.seen k false ≡ true
complete functions calls f zero k cs all marked below h = absurd (cc)
complete functions calls f (suc depth) k cs all marked below h =
    any_in (λ c. (c == k) || reaches_within depth functions k (calls_at functions c)) (get_or f.seen k false ≡ true) cs
    (λ c among passes.
    either (c == k) (reaches_within depth functions k (calls_at functions c)) (get_or f.seen k false)
    (λ e. let same : c ≡ k = eqb-true c k e in subst (λ x. get_or f.seen x false ≡ true) same (marked c among (omega arith)))
    (λ way. further functions calls f depth k c all (nat_lt c (length functions)) refl (marked c among)
    (λ later. complete functions calls f depth k (calls_at functions c) all later below way) way) passes) h

right_go : (v w : Bool) → (v ≡ true → w ≡ true) → (w ≡ true → v ≡ true) → v ≡ w
right_go true w f g = sym (f refl)
right_go false true f g = g refl
right_go false false f g = refl

pub found_right : (functions : List Body) (calls : List ℕ) (f : Found) → f ≡ found_in functions calls → (k : ℕ) → k < length functions → get_or f.seen k false ≡ is_reached functions k calls
found_right functions calls f is k below =
    let all : Closed functions calls (length functions) f = subst (Closed functions calls (length functions)) (sym is) (closed_found functions calls) in
    right_go (get_or f.seen k false) (is_reached functions k calls)
    (λ h. let (i, inside, at) = has_index k f.queue (all.sound.queued k h) in
    let total = all.sound.counted in
    within_le (suc i) (length functions) functions k calls (omega (arith, inside)) (subst (λ x. reaches_within (suc i) functions x calls ≡ true) at (all.sound.reached i inside)))
    (complete functions calls f (length functions) k calls all all.roots below)

pub found_size : (functions : List Body) (calls : List ℕ) (f : Found) → f ≡ found_in functions calls → length f.seen ≡ length functions
found_size functions calls f is = ap (λ g. length g.seen) is ∙ (closed_found functions calls).sound.sized
