-- What a scan leaves and why it stops, over what it does as data: no syntax is looked at here. Where it ends, it leaves what acts
-- leave. Where it is exact, which is so where it stops by itself at each pair that it looks up in vain and else gives no `invalid`,
-- it stops as `invalid` exactly where it has looked up a pair for which no transition is written, and at that pair.
use Rattle.std.proofs.Common.{◌≡◌, ◌∙◌, ℕ, Bool, true, false, List, [], ◌∷◌, Result, Ok, Err, Contains, ⊎_elim, refl, sym, ap, subst, arith}
use Rattle.ruby_value.specs.declared.fault.Fault.{Fault}
use Rattle.ruby_value.specs.declared.fault.Fault.TheVariants.{Invalid}
use Rattle.ruby_value.proofs.Contained.{Contains-cons_cases, Contains-cons_here, Contains-cons_there}
use Rattle.run_journal.specs.declared.entry.StopAt.{StopAt}
use Rattle.protocol_runs.specs.Prelude.{invalid_at}
use Rattle.ctl_face.specs.Prelude.{LocalView}
use Rattle.acts.specs.declared.body_fault.BodyFault.{BodyFault}
use Rattle.acts.specs.declared.body_fault.BodyFault.TheVariants as own
use Rattle.acts.specs.Prelude.{Act, answer, Acting, ends as ends_body, stops as stops_body, acts as acts_in, fault_of, follow, run, Done, does, IsLeft}
use Rattle.acts.proofs.Instances.{never_as_invalid}
use Rattle.acts.proofs.Left.{left_by_act, left_here}
use Rattle.body_meaning.specs.declared.frame.Known.{Known}
use Rattle.body_meaning.specs.Prelude.{Pair, Trying, ends, stops, acts, looks_up, follow_pairs, follow_scan, pairs_of, run_scan, stop_at, then_try, with_known}
use Rattle.protocol_meaning.specs.Prelude.{tried_pair}

-- What is left.

module _ {A : Type 0} where
  ended : (v : LocalView) (x : A) (d : Done A) → ◌≡◌ {A = Result (Done A) StopAt} (Ok (record { value = x; view = v })) (Ok d) → IsLeft v d.view
  ended v x d is = let same : v ≡ d.view = cc is in subst (IsLeft v) same (left_here v)

  left_after : (k : Known) (a : Act) (v : LocalView) (more : answer a → Trying A) (r : Result (Done (answer a)) Fault) (d : Done A)
      → does a v ≡ r → ((x : answer a) (u : LocalView) → run_scan (more x) u ≡ Ok d → IsLeft u d.view)
      → follow_scan k r (λ x u. run_scan (more x) u) ≡ Ok d → IsLeft v d.view
  left_after k a v more (Ok e) d is rest follows = left_by_act a v d.view e is (rest e.value e.view follows)
  left_after k a v more (Err f) d is rest follows = absurd (cc follows)

  pub scan_leaves : (p : Trying A) (v : LocalView) (d : Done A) → run_scan p v ≡ Ok d → IsLeft v d.view
  unfolding run_scan
  scan_leaves (ends x) v d is = ended v x d is
  scan_leaves (stops at) v d is = absurd (cc is)
  scan_leaves (acts k a more) v d is = left_after k a v more (does a v) d refl (λ x u. scan_leaves (more x) u d) is
  scan_leaves (looks_up pair rest) v d is = scan_leaves rest v d is

-- No fault of an act, and none of a body's own, is `invalid`.

act_follows : (a : Act) (v : LocalView) (f : Fault) → does a v ≡ Err f → run (acts_in a (λ x. ends_body x)) v ≡ Err f
unfolding run
act_follows a v f is = ap (λ (r : Result (Done (answer a)) Fault). follow r (λ x w. run (ends_body x) w)) is

act_is_valid : (a : Act) (v : LocalView) (f : Fault) → does a v ≡ Err f → f ≡ Invalid → ⊥
act_is_valid a v f is invalid =
    never_as_invalid (acts_in a (λ x. ends_body x)) v (act_follows a v f is ∙ ap (λ (g : Fault). Err g) invalid)

own_is_valid : (f : BodyFault) → fault_of f ≡ Invalid → ⊥
own_is_valid own.Assert is = cc is
own_is_valid (own.Error text) is = cc is
own_is_valid own.Overflow is = cc is
own_is_valid own.Reference is = cc is

-- Exact ones, by whether a transition is written for a state and an event.

module _ (has_row : ℕ → ℕ → Bool) where
  -- after a pair that is written so it goes on as `exact` says, and after another it stops there
  abbrev pub GoesOn : {A : Type 0} → Bool → Pair → Trying A → Type 0 → Type 0
  GoesOn true pair rest exact = exact
  GoesOn false pair rest exact = rest ≡ stops (invalid_at (tried_pair pair))

  abbrev pub IsExact : {A : Type 0} → Trying A → Type 0
  IsExact (ends x) = Unit {0}
  IsExact (stops at) = at.fault ≡ Invalid → ⊥
  IsExact (acts k a more) = (x : answer a) → IsExact (more x)
  IsExact (looks_up pair rest) = (has_row pair.state pair.event ≡ pair.is_written) × GoesOn pair.is_written pair rest (IsExact rest)

  module _ {A B : Type 0} (next : A → Trying B) (each : (x : A) → IsExact (next x)) where
    on_then : (b : Bool) (pair : Pair) (rest : Trying A) (exact : Type 0) → GoesOn b pair rest exact → (exact → IsExact (then_try rest next))
        → GoesOn b pair (then_try rest next) (IsExact (then_try rest next))
    unfolding then_try
    on_then true pair rest exact on go = go on
    on_then false pair rest exact on go = ap (λ (r : Trying A). then_try r next) on

    pub then_is_exact : (p : Trying A) → IsExact p → IsExact (then_try p next)
    unfolding then_try
    then_is_exact (ends x) exact = each x
    then_is_exact (stops at) exact = exact
    then_is_exact (acts k a more) exact = λ x. then_is_exact (more x) (exact x)
    then_is_exact (looks_up pair rest) exact =
        (exact.0, on_then pair.is_written pair rest (IsExact rest) exact.1 (λ e. then_is_exact rest e))

  pub body_is_exact : {A : Type 0} (k : Known) (p : Acting A) → IsExact (with_known k p)
  unfolding with_known
  body_is_exact k (ends_body x) = tt
  body_is_exact k (stops_body f) = own_is_valid f
  body_is_exact k (acts_in a more) = λ x. body_is_exact k (more x)

  -- a pair that was looked up in vain, at which it has stopped
  pub record Cause (pairs : List Pair) (at : StopAt) : Type 0 where
    pub pair : Pair
    pub among : Contains pairs pair
    pub no_row : has_row pair.state pair.event ≡ false
    pub at_is : at ≡ invalid_at (tried_pair pair)

  caused_later : (q : Pair) (pairs : List Pair) (at : StopAt) → Cause pairs at → Cause (q ∷ pairs) at
  caused_later q pairs at c = record { pair = c.pair; among = Contains-cons_there q c.pair pairs c.among; no_row = c.no_row; at_is = c.at_is }

  none_among : (q : Pair) → Contains [] q → ⊥
  none_among q (k, within, is) = omega (arith, within)

  module _ {A : Type 0} where
    act_caused : (k : Known) (a : Act) (v : LocalView) (more : answer a → Trying A) (at : StopAt) (r : Result (Done (answer a)) Fault)
        → does a v ≡ r → at.fault ≡ Invalid → ((x : answer a) (u : LocalView) → run_scan (more x) u ≡ Err at → Cause (pairs_of (more x) u) at)
        → follow_scan k r (λ x u. run_scan (more x) u) ≡ Err at → Cause (follow_pairs r (λ x u. pairs_of (more x) u)) at
    act_caused k a v more at (Ok e) is invalid rest follows = rest e.value e.view follows
    act_caused k a v more at (Err f) is invalid rest follows =
        let same : stop_at k f ≡ at = cc follows in
        absurd (act_is_valid a v f is (ap (λ (s : StopAt). s.fault) same ∙ invalid))

    pair_caused : (b : Bool) (pair : Pair) (rest : Trying A) (v : LocalView) (at : StopAt) (exact : Type 0) → has_row pair.state pair.event ≡ b
        → GoesOn b pair rest exact → (exact → Cause (pairs_of rest v) at) → run_scan rest v ≡ Err at → Cause (pair ∷ pairs_of rest v) at
    unfolding run_scan
    pair_caused true pair rest v at exact row on go is = caused_later pair (pairs_of rest v) at (go on)
    pair_caused false pair rest v at exact row on go is =
        let here : run_scan rest v ≡ Err (invalid_at (tried_pair pair)) = ap (λ (r : Trying A). run_scan r v) on in
        let same : ◌≡◌ {A = Result (Done A) StopAt} (Err at) (Err (invalid_at (tried_pair pair))) = sym is ∙ here in
        record { pair = pair; among = Contains-cons_here pair (pairs_of rest v); no_row = row; at_is = cc same }

    pub caused : (p : Trying A) (v : LocalView) (at : StopAt) → IsExact p → at.fault ≡ Invalid → run_scan p v ≡ Err at → Cause (pairs_of p v) at
    unfolding run_scan pairs_of
    caused (ends x) v at exact invalid is = absurd (cc is)
    caused (stops stop) v at exact invalid is =
        let same : stop ≡ at = cc is in absurd (exact (ap (λ (s : StopAt). s.fault) same ∙ invalid))
    caused (acts k a more) v at exact invalid is =
        act_caused k a v more at (does a v) refl invalid (λ x u. caused (more x) u at (exact x) invalid) is
    caused (looks_up pair rest) v at exact invalid is =
        pair_caused pair.is_written pair rest v at (IsExact rest) exact.0 exact.1 (λ e. caused rest v at e invalid is) is

    act_comes : (k : Known) (a : Act) (more : answer a → Trying A) (q : Pair) (r : Result (Done (answer a)) Fault)
        → ((x : answer a) (u : LocalView) → Contains (pairs_of (more x) u) q → run_scan (more x) u ≡ Err (invalid_at (tried_pair q)))
        → Contains (follow_pairs r (λ x u. pairs_of (more x) u)) q → follow_scan k r (λ x u. run_scan (more x) u) ≡ Err (invalid_at (tried_pair q))
    act_comes k a more q (Ok e) rest among = rest e.value e.view among
    act_comes k a more q (Err f) rest among = absurd (none_among q among)

    pair_comes : (b : Bool) (pair : Pair) (rest : Trying A) (v : LocalView) (q : Pair) (exact : Type 0) → has_row pair.state pair.event ≡ b
        → GoesOn b pair rest exact → (exact → Contains (pairs_of rest v) q → run_scan rest v ≡ Err (invalid_at (tried_pair q)))
        → Contains (pair ∷ pairs_of rest v) q → has_row q.state q.event ≡ false → run_scan rest v ≡ Err (invalid_at (tried_pair q))
    unfolding run_scan pairs_of
    pair_comes true pair rest v q exact row on go among no_row =
        ⊎_elim
        (λ (same : pair ≡ q). let is : has_row q.state q.event ≡ true = subst (λ (p : Pair). has_row p.state p.event ≡ true) same row in absurd (cc (is, no_row)))
        (λ there. go on there)
        (Contains-cons_cases pair q (pairs_of rest v) among)
    pair_comes false pair rest v q exact row on go among no_row =
        let none : pairs_of rest v ≡ [] = ap (λ (r : Trying A). pairs_of r v) on in
        let here : run_scan rest v ≡ Err (invalid_at (tried_pair pair)) = ap (λ (r : Trying A). run_scan r v) on in
        ⊎_elim
        (λ (same : pair ≡ q). here ∙ ap (λ (p : Pair). Err (invalid_at (tried_pair p))) same)
        (λ there. absurd (none_among q (subst (λ (ps : List Pair). Contains ps q) none there)))
        (Contains-cons_cases pair q (pairs_of rest v) among)

    pub comes : (p : Trying A) (v : LocalView) (q : Pair) → IsExact p → Contains (pairs_of p v) q → has_row q.state q.event ≡ false
        → run_scan p v ≡ Err (invalid_at (tried_pair q))
    unfolding run_scan pairs_of
    comes (ends x) v q exact among no_row = absurd (none_among q among)
    comes (stops at) v q exact among no_row = absurd (none_among q among)
    comes (acts k a more) v q exact among no_row = act_comes k a more q (does a v) (λ x u has. comes (more x) u q (exact x) has no_row) among
    comes (looks_up pair rest) v q exact among no_row =
        pair_comes pair.is_written pair rest v q (IsExact rest) exact.0 exact.1 (λ e has. comes rest v q e has no_row) among no_row
