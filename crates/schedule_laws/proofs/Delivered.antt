-- Places after copies have come to them: one place is changed before or after, the holders go, and two lists of copies come in either
-- order.
use Rattle.std.proofs.Common.{◌≡◌, ◌≢◌, ◌≤◌, ◌+◌, ℕ, zero, suc, Option, None, Some, List, [], ◌∷◌, length, map, refl, sym, ◌∙◌, ap, slice_get, slice_set, arith}
use Rattle.std.specs.List.{flat_map}
use Rattle.std.specs.Option.{option_map}
use Rattle.std.proofs.lemmas.Option.{same_Some, slice_get-map, slice_get_past}
use Rattle.ruby_value.specs.declared.message.Delivery.{Delivery}
use Rattle.ruby_value.specs.declared.message.MsgNo.{MsgNo}
use Rattle.ruby_value.specs.Prelude.{same_number}
use Rattle.protocol_runs.specs.Prelude.{Place, Rules, held_by_nobody, messages_for, with_arrival, with_arrivals, with_controller, with_deliveries}
use Rattle.protocol_runs.proofs.HeldGrow.{deliveries-at, grown}
use Rattle.protocol_runs.proofs.HeldNew.{brought}
use Rattle.protocol_runs.proofs.HeldSteps.{set-here}
use Rattle.protocol_runs.proofs.Places.{deliveries-length, set-at}
use Rattle.protocol_runs.proofs.Tallies.{counted, tally, tally-append}
use Rattle.schedule_laws.specs.Prelude.{DifferInNumbers, ArrivalsSwap}

-- lists by their elements
pub same-lists : {X : Type 0} (xs ys : List X) → ((i : ℕ) → slice_get xs i ≡ slice_get ys i) → xs ≡ ys
same-lists [] [] same = refl
same-lists [] (y ∷ ys) same = absurd (cc (same 0))
same-lists (x ∷ xs) [] same = absurd (cc (same 0))
same-lists (x ∷ xs) (y ∷ ys) same =
    let rest = same-lists xs ys (λ i. same (suc i)) in
    ap (λ z. z ∷ xs) (same_Some x y (same 0)) ∙ ap (λ zs. y ∷ zs) rest

past : {X : Type 0} (xs : List X) (c : ℕ) → slice_get xs c ≡ None → length xs ≤ c
past [] c none = omega arith
past (x ∷ xs) zero none = absurd (cc none)
past (x ∷ xs) (suc c) none = let rest = past xs c none in omega (arith, rest)

pub set-other : {X : Type 0} (xs : List X) (c i : ℕ) (x y : X) → slice_get xs c ≡ Some x → c ≢ i → slice_get (slice_set xs c y) i ≡ slice_get xs i
set-other xs c i x y there apart = set-at (λ (o : Option _). o ≡ slice_get xs i) xs c i x y there (λ same. absurd (apart same)) (λ other. refl)

pub set-there : {X : Type 0} (xs : List X) (c : ℕ) (x : X) → slice_get xs c ≡ Some x → slice_set xs c x ≡ xs
set-there [] c x there = refl
set-there (y ∷ ys) zero x there = ap (λ z. z ∷ ys) (sym (same_Some y x there))
set-there (y ∷ ys) (suc c) x there = ap (λ zs. y ∷ zs) (set-there ys c x there)

module _ {C M D : Type 0} (r : Rules C M D) where
  -- a place to which what is for it has come
  abbrev pub come-at : List (Delivery M) → ℕ → Place C → Place C
  come-at ds c p = grown r p (messages_for c ds)

  pub delivered-at : (places : List (Place C)) (ds : List (Delivery M)) (c : ℕ) → slice_get (with_deliveries r places ds) c ≡ option_map (come-at ds c) (slice_get places c)
  delivered-at places ds c = by (slice_get places c) refl
    where
      by : (o : Option (Place C)) → slice_get places c ≡ o → slice_get (with_deliveries r places ds) c ≡ option_map (come-at ds c) o
      by None none = let beyond = past places c none in slice_get_past (with_deliveries r places ds) c (omega (arith, beyond, deliveries-length r places ds))
      by (Some p) there = deliveries-at r c places ds p there

  -- and where such a place comes from
  pub came-from : (places : List (Place C)) (ds : List (Delivery M)) (c : ℕ) (q : Place C) → slice_get (with_deliveries r places ds) c ≡ Some q
      → (p : Place C) × (slice_get places c ≡ Some p) × (come-at ds c p ≡ q)
  came-from places ds c q there = by (slice_get places c) refl (sym (delivered-at places ds c) ∙ there)
    where
      by : (o : Option (Place C)) → slice_get places c ≡ o → option_map (come-at ds c) o ≡ Some q → (p : Place C) × (slice_get places c ≡ Some p) × (come-at ds c p ≡ q)
      by None at is = absurd (cc is)
      by (Some p) at is = (p, at, same_Some (come-at ds c p) q is)

  -- a place is changed before copies come, or after
  pub set-through : (places : List (Place C)) (c : ℕ) (x a : Place C) (ds : List (Delivery M)) → slice_get places c ≡ Some x
      → slice_set (with_deliveries r places ds) c (come-at ds c a) ≡ with_deliveries r (slice_set places c a) ds
  set-through places c x a ds there =
      let last : List (Place C) = with_deliveries r (slice_set places c a) ds in
      let here = deliveries-at r c places ds x there in
      same-lists (slice_set (with_deliveries r places ds) c (come-at ds c a)) last
      (λ i.
      set-at (λ (o : Option (Place C)). o ≡ slice_get last i) (with_deliveries r places ds) c i (come-at ds c x) (come-at ds c a) here
      (λ same. sym (deliveries-at r c (slice_set places c a) ds a (set-here places c x a there)) ∙ ap (λ (j : ℕ). slice_get last j) same)
      (λ apart.
      delivered-at places ds i ∙ ap (option_map (come-at ds i)) (sym (set-other places c i x a there apart)) ∙ sym (delivered-at (slice_set places c a) ds i)))

  -- the holders go before, or after
  pub freed-through : (places : List (Place C)) (ds : List (Delivery M)) → map held_by_nobody (with_deliveries r places ds) ≡ with_deliveries r (map held_by_nobody places) ds
  freed-through places ds =
      same-lists (map held_by_nobody (with_deliveries r places ds)) (with_deliveries r (map held_by_nobody places) ds)
      (λ i.
      slice_get-map held_by_nobody (with_deliveries r places ds) i ∙ ap (option_map held_by_nobody) (delivered-at places ds i)
      ∙ pass i (slice_get places i)
      ∙ sym (ap (option_map (come-at ds i)) (slice_get-map held_by_nobody places i)) ∙ sym (delivered-at (map held_by_nobody places) ds i))
    where
      pass : (i : ℕ) (o : Option (Place C)) → option_map held_by_nobody (option_map (come-at ds i) o) ≡ option_map (come-at ds i) (option_map held_by_nobody o)
      pass i None = refl
      pass i (Some p) = refl

  module _ (swap : ArrivalsSwap r) where
    -- one message passes others
    one-past : (x : C) (m : M) (ns : List M) → ((number : MsgNo) → tally (same_number number) (r.numbers m) + brought r (same_number number) ns ≤ 1)
        → with_arrivals r (with_arrival r x m) ns ≡ with_arrival r (with_arrivals r x ns) m
    one-past x m [] few = refl
    one-past x m (n ∷ ns) few =
        let both : (number : MsgNo) → brought r (same_number number) (n ∷ ns) ≡ tally (same_number number) (r.numbers n) + brought r (same_number number) ns =
        λ number. tally-append (same_number number) (r.numbers n) (flat_map r.numbers ns) in
        let apart : DifferInNumbers r m n =
        λ number. omega (arith, few number, both number, counted (same_number number) (r.numbers m), counted (same_number number) (r.numbers n)) in
        ap (λ (y : C). with_arrivals r y ns) (swap x m n apart)
        ∙ one-past (with_arrival r x n) m ns (λ number. omega (arith, few number, both number))

    -- two lists of messages come in either order
    pub blocks : (x : C) (ms ns : List M) → ((number : MsgNo) → brought r (same_number number) ms + brought r (same_number number) ns ≤ 1)
        → with_arrivals r (with_arrivals r x ms) ns ≡ with_arrivals r (with_arrivals r x ns) ms
    blocks x [] ns few = refl
    blocks x (m ∷ ms) ns few =
        let both : (number : MsgNo) → brought r (same_number number) (m ∷ ms) ≡ tally (same_number number) (r.numbers m) + brought r (same_number number) ms =
        λ number. tally-append (same_number number) (r.numbers m) (flat_map r.numbers ms) in
        blocks (with_arrival r x m) ms ns (λ number. omega (arith, few number, both number))
        ∙ ap (λ (y : C). with_arrivals r y ms) (one-past x m ns (λ number. omega (arith, few number, both number)))

    -- and so do the copies of two controllers
    pub either-order : (places : List (Place C)) (ds cs : List (Delivery M))
        → ((e : ℕ) (p : Place C) → slice_get places e ≡ Some p
        → (number : MsgNo) → brought r (same_number number) (messages_for e ds) + brought r (same_number number) (messages_for e cs) ≤ 1)
        → with_deliveries r (with_deliveries r places ds) cs ≡ with_deliveries r (with_deliveries r places cs) ds
    either-order places ds cs few =
        same-lists (with_deliveries r (with_deliveries r places ds) cs) (with_deliveries r (with_deliveries r places cs) ds)
        (λ e.
        delivered-at (with_deliveries r places ds) cs e ∙ ap (option_map (come-at cs e)) (delivered-at places ds e)
        ∙ at e (slice_get places e) refl
        ∙ sym (ap (option_map (come-at ds e)) (delivered-at places cs e)) ∙ sym (delivered-at (with_deliveries r places cs) ds e))
      where
        at : (e : ℕ) (o : Option (Place C)) → slice_get places e ≡ o
            → option_map (come-at cs e) (option_map (come-at ds e) o) ≡ option_map (come-at ds e) (option_map (come-at cs e) o)
        at e None there = refl
        at e (Some p) there = ap (λ (y : C). Some (with_controller p y)) (blocks p.controller (messages_for e ds) (messages_for e cs) (few e p there))
