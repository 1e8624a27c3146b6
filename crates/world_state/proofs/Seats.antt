-- What a place is after requests were put into the sequencers of seats: what the seat of its controller has, if there is one.
use Rattle.std.proofs.Common.{◌≡◌, ◌≢◌, ◌<◌, ◌&&◌, ◌==◌, ℕ, zero, suc, Bool, true, false, cond, List, [], ◌∷◌, Option, None, Some, All, length, refl, sym, ◌∙◌, ap, slice_get, arith}
use Rattle.std.proofs.lemmas.Bool.{and_parts, eqb-true, eq-eqb, ne_eqb}
use Rattle.std.proofs.lemmas.List.Elements.{All-head, All-tail}
use Rattle.std.proofs.lemmas.Option.{same_Some, slice_get_within}
use Rattle.std.specs.List.{AllPairs}
use Rattle.std.specs.Option.{option_map}
use Rattle.ruby_value.proofs.Ordered.{AllPairs-head, AllPairs-tail}
use Rattle.ruby_value.specs.Prelude.{Requests}
use Rattle.protocol_runs.specs.World as runs
use Rattle.protocol_runs.proofs.Places.{set-at}
use Rattle.ctl_face.specs.Prelude.{Ctl}
use Rattle.sequencer.specs.Prelude.{Seat}
use Rattle.world_state.specs.declared.seat.SeatAt.{SeatAt}
use Rattle.world_state.specs.Seated.{AreApart}
use Rattle.world_state.specs.Prelude.{seated, seated_one, with_requests, with_requests_at}

abbrev Place : Type 0
Place = runs.Place Ctl

-- it is a seat with the sequencer of this controller
abbrev pub is_own : ℕ → SeatAt → Bool
is_own c a = a.has_sequencer && a.controller == c

abbrev pub given : List SeatAt → List Seat → ℕ → Option (Option Requests)
given [] qs c = None
given (a ∷ ss) [] c = None
given (a ∷ ss) (q ∷ qs) c = cond (is_own c a) (Some q.requests) (given ss qs c)

abbrev pub applied : Option (Option Requests) → Place → Place
applied None p = p
applied (Some o) p = with_requests o p

-- lists that are the same place by place
pub same-places : {X : Type 0} (xs ys : List X) → ((c : ℕ) → slice_get xs c ≡ slice_get ys c) → xs ≡ ys
same-places [] [] same = refl
same-places [] (y ∷ ys) same = absurd (cc (same 0))
same-places (x ∷ xs) [] same = absurd (cc (same 0))
same-places (x ∷ xs) (y ∷ ys) same =
    ap (λ (z : _). z ∷ xs) (same_Some x y (same 0)) ∙ ap (λ (zs : List _). y ∷ zs) (same-places xs ys (λ c. same (suc c)))

get-some : {X : Type 0} (xs : List X) (c : ℕ) → c < length xs → (x : X) × (slice_get xs c ≡ Some x)
get-some [] c within = absurd (omega arith)
get-some (x ∷ xs) zero within = (x, refl)
get-some (x ∷ xs) (suc c) within = get-some xs c (omega arith)

unchanged : (o : Option Place) → option_map (applied None) o ≡ o
unchanged None = refl
unchanged (Some p) = refl

set-none : (places : List Place) (d c : ℕ) (o : Option Requests) (p : Option Place) → slice_get places d ≡ p → d ≢ c
    → slice_get (with_requests_at d o places p) c ≡ slice_get places c
set-none places d c o None there apart = refl
set-none places d c o (Some p) there apart =
    set-at (λ (x : Option Place). x ≡ slice_get places c) places d c p (with_requests o p) there (λ same. absurd (apart same)) (λ differ. refl)

set-own : (places : List Place) (d c : ℕ) (o : Option Requests) (p : Option Place) → slice_get places d ≡ p → d ≡ c
    → slice_get (with_requests_at d o places p) c ≡ option_map (with_requests o) (slice_get places c)
set-own places d c o None there same = ap (λ (i : ℕ). slice_get places i) (sym same) ∙ there ∙ sym (ap (option_map (with_requests o)) (ap (λ (i : ℕ). slice_get places i) (sym same) ∙ there))
set-own places d c o (Some p) there same =
    set-at (λ (x : Option Place). x ≡ option_map (with_requests o) (slice_get places c)) places d c p (with_requests o p) there
    (λ is. sym (ap (option_map (with_requests o)) (ap (λ (i : ℕ). slice_get places i) (sym same) ∙ there)))
    (λ differ. absurd (differ same))

-- one seat
pub one-at : (a : SeatAt) (places : List Place) (o : Option Requests) (c : ℕ) → slice_get (seated_one a places o) c ≡ option_map (applied (cond (is_own c a) (Some o) None)) (slice_get places c)
one-at a places o c = by a.has_sequencer (a.controller == c) refl
  where
    by : (has here : Bool) → (a.controller == c) ≡ here
        → slice_get (cond has (with_requests_at a.controller o places (slice_get places a.controller)) places) c
        ≡ option_map (applied (cond (has && a.controller == c) (Some o) None)) (slice_get places c)
    by false here is = sym (unchanged (slice_get places c))
    by true true is =
        set-own places a.controller c o (slice_get places a.controller) refl (eqb-true a.controller c is)
        ∙ sym (ap (λ (b : Bool). option_map (applied (cond b (Some o) None)) (slice_get places c)) is)
    by true false is =
        set-none places a.controller c o (slice_get places a.controller) refl (λ same. cc (eq-eqb a.controller c same, is))
        ∙ sym (unchanged (slice_get places c))
        ∙ sym (ap (λ (b : Bool). option_map (applied (cond b (Some o) None)) (slice_get places c)) is)

-- a seat changes no other controller
pub one-apart : (a : SeatAt) (places : List Place) (o : Option Requests) (c : ℕ) → a.controller ≢ c → slice_get (seated_one a places o) c ≡ slice_get places c
one-apart a places o c apart = by a.has_sequencer
  where
    by : (has : Bool) → slice_get (cond has (with_requests_at a.controller o places (slice_get places a.controller)) places) c ≡ slice_get places c
    by false = refl
    by true = set-none places a.controller c o (slice_get places a.controller) refl apart

-- a controller of a seat isn't one of seats apart from it
none-given : (a : SeatAt) (c : ℕ) (ss : List SeatAt) (qs : List Seat) → a.controller ≡ c → All (AreApart a) ss → given ss qs c ≡ None
none-given a c [] qs is apart = refl
none-given a c (b ∷ ss) [] is apart = refl
none-given a c (b ∷ ss) (q ∷ qs) is apart = by b.has_sequencer (none-given a c ss qs is (All-tail (AreApart a) b ss apart))
  where
    other : (b.controller == c) ≡ false
    other = ne_eqb b.controller c (λ same. (All-head (AreApart a) b ss apart) (is ∙ sym same))

    by : (has : Bool) → given ss qs c ≡ None → cond (has && b.controller == c) (Some q.requests) (given ss qs c) ≡ None
    by false rest = rest
    by true rest = ap (λ (t : Bool). cond t (Some q.requests) (given ss qs c)) other ∙ rest

-- the places after all seats
pub seated-at : (ss : List SeatAt) (qs : List Seat) (places : List Place) (c : ℕ) → AllPairs AreApart ss
    → slice_get (seated ss places qs) c ≡ option_map (applied (given ss qs c)) (slice_get places c)
seated-at [] qs places c apart = sym (unchanged (slice_get places c))
seated-at (a ∷ ss) [] places c apart = sym (unchanged (slice_get places c))
seated-at (a ∷ ss) (q ∷ qs) places c apart =
    seated-at ss qs (seated_one a places q.requests) c (AllPairs-tail AreApart a ss apart)
    ∙ ap (option_map (applied (given ss qs c))) (one-at a places q.requests c)
    ∙ by (is_own c a) refl
  where
    by : (own : Bool) → is_own c a ≡ own
        → option_map (applied (given ss qs c)) (option_map (applied (cond own (Some q.requests) None)) (slice_get places c))
        ≡ option_map (applied (cond own (Some q.requests) (given ss qs c))) (slice_get places c)
    by false is = ap (option_map (applied (given ss qs c))) (unchanged (slice_get places c))
    by true is =
        ap (λ (g : Option (Option Requests)). option_map (applied g) (option_map (with_requests q.requests) (slice_get places c)))
        (none-given a c ss qs (let both = and_parts a.has_sequencer (a.controller == c) is in eqb-true a.controller c both.1) (AllPairs-head AreApart a ss apart))
        ∙ unchanged (option_map (with_requests q.requests) (slice_get places c))

-- a seat apart from others isn't at the controller of one of them
apart-at : (b : SeatAt) (xs : List SeatAt) (i : ℕ) (x : SeatAt) → slice_get xs i ≡ Some x → All (AreApart b) xs → b.controller ≢ x.controller
apart-at b [] i x is all = absurd (cc is)
apart-at b (y ∷ xs) zero x is all =
    let same : y ≡ x = same_Some y x is in λ eq. (All-head (AreApart b) y xs all) (eq ∙ sym (ap (λ (z : SeatAt). z.controller) same))
apart-at b (y ∷ xs) (suc i) x is all = apart-at b xs i x is (All-tail (AreApart b) y xs all)

-- what the seat of a controller gives
pub given-by : (ss : List SeatAt) (qs : List Seat) (k : ℕ) (a : SeatAt) (q : Seat) (c : ℕ) → AllPairs AreApart ss → slice_get ss k ≡ Some a → slice_get qs k ≡ Some q
    → is_own c a ≡ true → given ss qs c ≡ Some q.requests
given-by [] qs k a q c apart there at own = absurd (cc there)
given-by (b ∷ ss) [] k a q c apart there at own = absurd (cc at)
given-by (b ∷ ss) (r ∷ qs) zero a q c apart there at own =
    let is_a : b ≡ a = same_Some b a there in
    let is_q : r ≡ q = same_Some r q at in
    ap (λ (x : SeatAt). cond (is_own c x) (Some r.requests) (given ss qs c)) is_a
    ∙ ap (λ (t : Bool). cond t (Some r.requests) (given ss qs c)) own
    ∙ ap (λ (x : Seat). Some x.requests) is_q
given-by (b ∷ ss) (r ∷ qs) (suc k) a q c apart there at own =
    by b.has_sequencer (given-by ss qs k a q c (AllPairs-tail AreApart b ss apart) there at own)
  where
    other : (b.controller == c) ≡ false
    other =
        let parts = and_parts a.has_sequencer (a.controller == c) own in
        ne_eqb b.controller c
        (λ same. apart-at b ss k a there (AllPairs-head AreApart b ss apart) (same ∙ sym (eqb-true a.controller c parts.1)))

    by : (has : Bool) → given ss qs c ≡ Some q.requests → cond (has && b.controller == c) (Some r.requests) (given ss qs c) ≡ Some q.requests
    by false rest = rest
    by true rest = ap (λ (t : Bool). cond t (Some r.requests) (given ss qs c)) other ∙ rest

-- sequencers that were moved out before others are put back
pub after-taking : (ss : List SeatAt) (qs : List Seat) (places : List Place) (k : ℕ) (a : SeatAt) → AllPairs AreApart ss → length qs ≡ length ss → slice_get ss k ≡ Some a
    → seated ss (seated_one a places None) qs ≡ seated ss places qs
after-taking ss qs places k a apart count there =
    same-places (seated ss (seated_one a places None) qs) (seated ss places qs)
    (λ c.
    seated-at ss qs (seated_one a places None) c apart
    ∙ ap (option_map (applied (given ss qs c))) (one-at a places None c)
    ∙ by c (is_own c a) refl (slice_get places c)
    ∙ sym (seated-at ss qs places c apart))
  where
    seat-there : (q : Seat) × (slice_get qs k ≡ Some q)
    seat-there = get-some qs k (let within = slice_get_within ss k a there in omega (arith, within, count))

    by : (c : ℕ) (own : Bool) → is_own c a ≡ own → (o : Option Place)
        → option_map (applied (given ss qs c)) (option_map (applied (cond own (Some None) None)) o) ≡ option_map (applied (given ss qs c)) o
    by c own is None = refl
    by c false is (Some p) = refl
    by c true is (Some p) =
        let gives = given-by ss qs k a seat-there.0 c apart there seat-there.1 is in
        ap (λ (g : Option (Option Requests)). option_map (applied g) (option_map (applied (Some None)) (Some p))) gives
        ∙ sym (ap (λ (g : Option (Option Requests)). option_map (applied g) (Some p)) gives)
