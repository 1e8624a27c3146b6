-- A scan of a machine of a protocol is exact, and so it is what a run needs of it.
use Rattle.std.proofs.Common.{◌≡◌, ◌<◌, ◌||◌, ◌∙◌, ℕ, Bool, true, false, cond, Option, None, Some, List, [], ◌∷◌, Result, Ok, Err, Contains, inl, inr, ⊎_elim, find, map, nat_le, slice_get, refl, sym, ap, subst, arith, leb-false}
use Rattle.std.specs.List.{list_any}
use Rattle.std.specs.Option.{option_and_then, option_map}
use Rattle.ruby_value.proofs.Contained.{Contains-cons_cases, Contains-cons_here, Contains-cons_there}
use Rattle.ruby_value.specs.declared.message.Delivery.{Delivery}
use Rattle.ruby_symbols.specs.declared.machine.MachineSymbols.{MachineSymbols}
use Rattle.ruby_symbols.specs.declared.machine.PortSymbol.{PortSymbol}
use Rattle.ruby_symbols.specs.declared.machine.TransitionSymbol.{TransitionSymbol}
use Rattle.ruby_symbols.specs.declared.symbols.Symbols.{Symbols}
use Rattle.run_journal.specs.declared.entry.FireNote.{FireNote}
use Rattle.run_journal.specs.declared.entry.StopAt.{StopAt}
use Rattle.protocol_runs.specs.Prelude.{invalid_at, Acts, Fired, Full, Idle, Outcome, Scan, Stop, Tried as RunTried, IsFired, IsMeaning, IsRefusedTry, IsScanOf, Rests}
use Rattle.slicc_ast.specs.declared.tree.item.Tree.{Tree}
use Rattle.slicc_ast.specs.declared.tree.machine.Machine.{Machine}
use Rattle.slicc_plan.specs.Prelude.{machines_of, symbols_of}
use Rattle.ctl_face.specs.declared.parcel.Parcel.{Parcel}
use Rattle.ctl_face.specs.Prelude.{Ctl, LocalView, scan_view}
use Rattle.acts.specs.Prelude.{Done, IsLeft}
use Rattle.body_meaning.specs.declared.frame.Flow.{Flow}
use Rattle.body_meaning.specs.declared.frame.Flow.TheVariants.{WentOn, Returned, Triggered}
use Rattle.body_meaning.specs.Prelude.{Reading, after_port, by_outcome, by_try, left_idle, port_done, port_tried, ports_tried, unless_fired, about, found_tried, is_for, known, read_state, row_tried, try, Pair, Trying, nothing_known, pairs_of, run_scan, with_known}
use Rattle.body_meaning.specs.declared.thing.Trigger.{Trigger}
use Rattle.body_meaning.specs.declared.frame.RoundEnd.TheVariants as round
use Rattle.body_meaning.specs.declared.frame.Tried.{Tried}
use Rattle.body_meaning.specs.declared.frame.Tried.TheVariants.{Fires, Waits}
use Rattle.protocol_meaning.specs.Prelude.{has_row_in, lookups_by, lookups_of, meaning_of, outcome_of, scan_by, scan_of, tried_pair, reading_with}
use Rattle.protocol_meaning.proofs.Tries.{Cause, IsExact, body_is_exact, caused, comes, scan_leaves, then_is_exact}

-- A transition is found exactly where one is written.

module _ {X : Type 0} (p : X → Bool) where
  not_here : (x : X) (xs : List X) (b : Bool) → (find p xs ≡ None → list_any p xs ≡ false) → cond b (Some x) (find p xs) ≡ None → (b || list_any p xs) ≡ false
  not_here x xs true rest is = absurd (cc is)
  not_here x xs false rest is = rest is

  pub none_found : (xs : List X) → find p xs ≡ None → list_any p xs ≡ false
  none_found [] is = refl
  none_found (x ∷ xs) is = not_here x xs (p x) (λ none. none_found xs none) is

  here_or : (x y : X) (xs : List X) (b : Bool) → (find p xs ≡ Some y → list_any p xs ≡ true) → cond b (Some x) (find p xs) ≡ Some y → (b || list_any p xs) ≡ true
  here_or x y xs true rest is = refl
  here_or x y xs false rest is = rest is

  pub one_found : (xs : List X) (y : X) → find p xs ≡ Some y → list_any p xs ≡ true
  one_found [] y is = absurd (cc is)
  one_found (x ∷ xs) y is = here_or x y xs (p x) (λ found. one_found xs y found) is

-- Scans are exact.

module _ (s : Reading) where
  abbrev has_row : ℕ → ℕ → Bool
  has_row = has_row_in (Some s.machine)

  found_is_exact : (t : Trigger) (state : ℕ) (o : Option TransitionSymbol) → find (is_for state t.event) s.machine.transitions ≡ o
      → IsExact has_row (found_tried s t state o)
  found_is_exact t state None is = (none_found (is_for state t.event) s.machine.transitions is, refl)
  found_is_exact t state (Some row) is =
      (one_found (is_for state t.event) s.machine.transitions row is, body_is_exact has_row (known t (Some state)) (row_tried s t state row))

  try_is_exact : (t : Trigger) → IsExact has_row (try s t)
  try_is_exact t =
      then_is_exact has_row (λ state. found_tried s t state (find (is_for state t.event) s.machine.transitions))
      (λ state. found_is_exact t state (find (is_for state t.event) s.machine.transitions) refl) (with_known (known t None) (read_state s (about t))) (body_is_exact has_row (known t None) (read_state s (about t)))

  after_is_exact : (flow : Flow) → IsExact has_row (after_port s flow)
  after_is_exact WentOn = tt
  after_is_exact (Returned thing) = tt
  after_is_exact (Triggered t) = try_is_exact t

  port_is_exact : (p : PortSymbol) → IsExact has_row (port_tried s p)
  port_is_exact p =
      then_is_exact has_row (after_port s) after_is_exact (with_known nothing_known (port_done s p)) (body_is_exact has_row nothing_known (port_done s p))

  next_is_exact : (next : Trying Tried) → IsExact has_row next → (t : Tried) → IsExact has_row (unless_fired next t)
  next_is_exact next exact (Fires note) = tt
  next_is_exact next exact Waits = exact

  pub ports_are_exact : (ps : List PortSymbol) → IsExact has_row (ports_tried s ps)
  ports_are_exact [] = tt
  ports_are_exact (p ∷ ps) =
      then_is_exact has_row (unless_fired (ports_tried s ps)) (next_is_exact (ports_tried s ps) (ports_are_exact ps)) (port_tried s p)
      (port_is_exact p)

-- Pairs, as runs have them.

pub told_pair : (pairs : List Pair) (q : Pair) → Contains pairs q → Contains (map tried_pair pairs) (tried_pair q)
told_pair [] q (k, within, is) = absurd (omega (arith, within))
told_pair (p ∷ ps) q has =
    ⊎_elim
    (λ (same : p ≡ q). subst (λ (t : RunTried). Contains (map tried_pair (p ∷ ps)) t) (ap tried_pair same) (Contains-cons_here (tried_pair p) (map tried_pair ps)))
    (λ there. Contains-cons_there (tried_pair p) (tried_pair q) (map tried_pair ps) (told_pair ps q there)) (Contains-cons_cases p q ps has)

pub pair_told : (pairs : List Pair) (t : RunTried) → Contains (map tried_pair pairs) t → (q : Pair) × Contains pairs q × (tried_pair q ≡ t)
pair_told [] t (k, within, is) = absurd (omega (arith, within))
pair_told (p ∷ ps) t has =
    ⊎_elim (λ (same : tried_pair p ≡ t). (p, Contains-cons_here p ps, same))
    (λ there. let found = pair_told ps t there in (found.0, Contains-cons_there p found.0 ps found.1, found.2))
    (Contains-cons_cases (tried_pair p) t (map tried_pair ps) has)

-- What a scan answers.

abbrev Told : Option Reading → LocalView → ℕ → Scan Ctl Parcel
Told o v limit = record {
  outcome = outcome_of (scan_by o limit v.ctl.fired v);
  tried = map tried_pair (lookups_by o limit v.ctl.fired v);
}

nothing_tried : (has_row : ℕ → ℕ → Bool) (o : Outcome Ctl Parcel) (t : RunTried) → IsRefusedTry has_row (record { outcome = o; tried = [] }) t → ⊥
nothing_tried has_row o t refused = omega (arith, refused.tried.1)

full_is_scan : (v : LocalView) (limit : ℕ) (has_row : ℕ → ℕ → Bool) → IsScanOf v limit has_row (record { outcome = Full; tried = [] })
full_is_scan v limit has_row = record {
  fires = λ note acts copies after is. absurd (cc is);
  idles = λ after is. absurd (cc is);
  caused = λ at is invalid. absurd (cc is);
  comes = λ t refused. absurd (nothing_tried has_row Full t refused);
}

-- what is known of an outcome that is no stop
record Answers (v : LocalView) (limit : ℕ) (o : Outcome Ctl Parcel) : Type 0 where
  fired : (note : FireNote) (acts : Acts) (copies : List (Delivery Parcel)) (after : Ctl) → o ≡ Fired note acts copies after → IsFired v limit acts copies after
  rests : (after : Ctl) → o ≡ Idle after → Rests v after
  goes : (at : StopAt) → o ≡ Stop at → ⊥

idle_rests : (v w : LocalView) (b : Bool) → w.acts.again ≡ b → Rests v (left_idle v w).ctl
idle_rests v w true is = rw is (inr refl)
idle_rests v w false is = rw is (inl refl)

try_answers : (v : LocalView) (limit : ℕ) (t : Tried) (w : LocalView) → v.ctl.fired < limit → IsLeft v w → Answers v limit (outcome_of (by_try v t w))
try_answers v limit (Fires note) w few left = record {
  fired = λ told acts copies after is. record { few = few; local = w; left = left; acts_are = cc is; copies_are = cc is; after_is = cc is };
  rests = λ after is. absurd (cc is);
  goes = λ at is. cc is;
}
try_answers v limit Waits w few left = record {
  fired = λ note acts copies after is. absurd (cc is);
  rests = λ after is. let same : (left_idle v w).ctl ≡ after = cc is in subst (Rests v) same (idle_rests v w w.acts.again refl);
  goes = λ at is. cc is;
}

waiting_is_scan : (v : LocalView) (limit : ℕ) (has_row : ℕ → ℕ → Bool) → IsScanOf v limit has_row (record { outcome = outcome_of (by_try v Waits v); tried = [] })
waiting_is_scan v limit has_row = record {
  fires = λ note acts copies after is. absurd (cc is);
  idles = λ after is. let same : (left_idle v v).ctl ≡ after = cc is in subst (Rests v) same (idle_rests v v v.acts.again refl);
  caused = λ at is invalid. absurd (cc is);
  comes = λ t refused. absurd (nothing_tried has_row (outcome_of (by_try v Waits v)) t refused);
}

abbrev body_of : Reading → Trying Tried
body_of s = ports_tried s s.machine.in_ports

module _ (s : Reading) (v : LocalView) (limit : ℕ) (few : v.ctl.fired < limit) where
  abbrev body : Trying Tried
  body = body_of s

  abbrev pairs : List Pair
  pairs = pairs_of body v

  abbrev AsScan : Result (Done Tried) StopAt → Type 0
  AsScan r = IsScanOf v limit (has_row s) (record { outcome = outcome_of (by_outcome v r); tried = map tried_pair pairs })

  -- it stops at each pair that it has tried in vain
  refused_stops : (r : Result (Done Tried) StopAt) (t : RunTried) → run_scan body v ≡ r → Contains (map tried_pair pairs) t → has_row s t.state t.event ≡ false
      → r ≡ Err (invalid_at t)
  refused_stops r t ran among no_row =
      let told = pair_told pairs t among in
      let none : has_row s told.0.state told.0.event ≡ false = subst (λ (u : RunTried). has_row s u.state u.event ≡ false) (sym told.2) no_row in
      sym ran ∙ comes (has_row s) body v told.0 (ports_are_exact s s.machine.in_ports) told.1 none
      ∙ ap (λ (u : RunTried). Err (invalid_at u)) told.2

  ended_is_scan : (d : Done Tried) → run_scan body v ≡ Ok d → AsScan (Ok d)
  ended_is_scan d ran =
      let answers = try_answers v limit d.value d.view few (scan_leaves body v d ran) in
      record {
        fires = answers.fired;
        idles = answers.rests;
        caused = λ at is invalid. absurd (answers.goes at is);
        comes = λ t refused. absurd (cc (refused_stops (Ok d) t ran refused.tried refused.no_row));
      }

  caused_by : (at : StopAt) → Cause (has_row s) pairs at → (o : Outcome Ctl Parcel)
      → (t : RunTried) × (at ≡ invalid_at t) × IsRefusedTry (has_row s) (record { outcome = o; tried = map tried_pair pairs }) t
  caused_by at c o = (tried_pair c.pair, c.at_is, record { tried = told_pair pairs c.pair c.among; no_row = c.no_row })

  stopped_is_scan : (at : StopAt) → run_scan body v ≡ Err at → AsScan (Err at)
  stopped_is_scan at ran = record {
    fires = λ note acts copies after is. absurd (cc is);
    idles = λ after is. absurd (cc is);
    caused = λ other is invalid.
        let same : at ≡ other = cc is in
        caused_by other
        (caused (has_row s) body v other (ports_are_exact s s.machine.in_ports) invalid (ran ∙ ap (λ (x : StopAt). Err x) same)) (Stop at);
    comes = λ t refused.
        let same : at ≡ invalid_at t = cc (refused_stops (Err at) t ran refused.tried refused.no_row) in ap (λ (x : StopAt). Stop x) same;
  }

  ran_is_scan : (r : Result (Done Tried) StopAt) → run_scan body v ≡ r → AsScan r
  ran_is_scan (Ok d) ran = ended_is_scan d ran
  ran_is_scan (Err at) ran = stopped_is_scan at ran

full_or_ran : (s : Reading) (v : LocalView) (limit : ℕ) (b : Bool) → nat_le limit v.ctl.fired ≡ b
    → IsScanOf v limit (has_row s) (record {
      outcome = outcome_of (cond b (record { end = round.Full; view = v }) (by_outcome v (run_scan (body_of s) v)));
      tried = map tried_pair (cond b [] (pairs_of (body_of s) v));
    })
full_or_ran s v limit true is = full_is_scan v limit (has_row s)
full_or_ran s v limit false is = ran_is_scan s v limit (leb-false limit v.ctl.fired is) _ refl

told_is_scan : (symbols : Symbols) (machine : ℕ) (m : Option MachineSymbols) (tree : Option Machine) (v : LocalView) (limit : ℕ)
    → IsScanOf v limit (has_row_in m) (Told (option_and_then (λ found. option_map (reading_with symbols machine found) tree) m) v limit)
told_is_scan symbols machine None tree v limit = waiting_is_scan v limit (has_row_in None)
told_is_scan symbols machine (Some m) None v limit = waiting_is_scan v limit (has_row_in (Some m))
told_is_scan symbols machine (Some m) (Some tree) v limit = full_or_ran (reading_with symbols machine m tree) v limit (nat_le limit v.ctl.fired) refl

pub is_meaning : (trees : List Tree) → IsMeaning (meaning_of trees)
unfolding scan_of lookups_of
is_meaning trees machine setup actor now limit ctl =
    told_is_scan (symbols_of trees) machine (slice_get (symbols_of trees).machines machine) (slice_get (machines_of trees) machine)
    (scan_view setup actor now ctl) limit
