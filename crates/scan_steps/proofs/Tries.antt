-- The steps by which a function that does part of a scan is proved to do it: one part after another, a body with what is known while it
-- is done, a pair that is looked up, and ends.
use Rattle.std.proofs.Common.{◌≡◌, Result, Ok, Err, refl, sym, ap, ◌∙◌}
use Rattle.ruby_value.specs.declared.fault.Fault.{Fault}
use Rattle.run_journal.specs.declared.entry.StopAt.{StopAt}
use Rattle.ctl_face.specs.declared.trouble.Trouble.{Trouble}
use Rattle.ctl_face.specs.declared.trouble.Trouble.TheVariants as trouble
use Rattle.ctl_face.specs.Prelude.{LocalView}
use Rattle.acts.specs.Prelude.{Acting, ends as ends_body, stops as stops_body, acts as acts_in, follow, run, DoesAs, Done, does}
use Rattle.body_meaning.specs.declared.frame.Known.{Known}
use Rattle.body_meaning.specs.Prelude.{Pair, Trying, ends, stops, acts, looks_up, follow_scan, run_scan, stop_at, then_try, with_known}
use Rattle.scan_steps.specs.declared.halt.Halt.{Halt}
use Rattle.scan_steps.specs.declared.halt.Halt.TheVariants as halt
use Rattle.scan_steps.specs.Prelude.{TriesAs, told}

-- what comes after a part that was done
abbrev pub after_part : {A B : Type 0} → Result (Done A) StopAt → (A → LocalView → Result (Done B) StopAt) → Result (Done B) StopAt
after_part (Ok d) next = next d.value d.view
after_part (Err at) next = Err at

module _ {A B C : Type 0} where
  part_twice : (k : Known) (r : Result (Done A) Fault) (f : A → LocalView → Result (Done B) StopAt) (g : B → LocalView → Result (Done C) StopAt) (h : A → LocalView → Result (Done C) StopAt)
      → ((x : A) (w : LocalView) → h x w ≡ after_part (f x w) g) → follow_scan k r h ≡ after_part (follow_scan k r f) g
  part_twice k (Ok d) f g h same = same d.value d.view
  part_twice k (Err e) f g h same = refl

pub scan-then : {A B : Type 0} (p : Trying A) (next : A → Trying B) (v : LocalView) → run_scan (then_try p next) v ≡ after_part (run_scan p v) (λ x w. run_scan (next x) w)
unfolding run_scan then_try
scan-then (ends x) next v = refl
scan-then (stops at) next v = refl
scan-then (acts k a more) next v =
    part_twice k (does a v) (λ x w. run_scan (more x) w) (λ x w. run_scan (next x) w) (λ x w. run_scan (then_try (more x) next) w) (λ x w. scan-then (more x) next w)
scan-then (looks_up pair rest) next v = scan-then rest next v

-- a body's outcome, where this is known of the transition
abbrev pub with_stop : {A : Type 0} → Known → Result (Done A) Fault → Result (Done A) StopAt
with_stop k (Ok d) = Ok d
with_stop k (Err fault) = Err (stop_at k fault)

module _ {A B : Type 0} where
  stop_after : (k : Known) (r : Result (Done A) Fault) (f : A → LocalView → Result (Done B) Fault) (h : A → LocalView → Result (Done B) StopAt)
      → ((x : A) (w : LocalView) → h x w ≡ with_stop k (f x w)) → follow_scan k r h ≡ with_stop k (follow r f)
  stop_after k (Ok d) f h same = same d.value d.view
  stop_after k (Err e) f h same = refl

pub scan-body : {A : Type 0} (k : Known) (p : Acting A) (v : LocalView) → run_scan (with_known k p) v ≡ with_stop k (run p v)
unfolding run_scan with_known run
scan-body k (ends_body x) v = refl
scan-body k (stops_body f) v = refl
scan-body k (acts_in a more) v =
    stop_after k (does a v) (λ x w. run (more x) w) (λ x w. run_scan (with_known k (more x)) w) (λ x w. scan-body k (more x) w)

module _ {A B R S : Type 0} (means : R → A) (next_means : S → B) (p : Trying A) (next : A → Trying B) where
  pub then_tries : (r : R) (result : Result S Halt) (u v w : LocalView) → TriesAs means p (Ok r) u v → TriesAs next_means (next (means r)) result v w
      → TriesAs next_means (then_try p next) result u w
  unfolding TriesAs
  then_tries r (Ok s) u v w first rest = scan-then p next u ∙ ap (λ o. after_part o (λ x t. run_scan (next x) t)) first ∙ rest
  then_tries r (Err (halt.Stop at)) u v w first rest = scan-then p next u ∙ ap (λ o. after_part o (λ x t. run_scan (next x) t)) first ∙ rest
  then_tries r (Err halt.NoMemory) u v w first rest = tt

  pub then_halts : (e : Halt) (u v w : LocalView) → TriesAs means p (Err e) u v → TriesAs next_means (then_try p next) (Err e) u w
  unfolding TriesAs
  then_halts (halt.Stop at) u v w first = scan-then p next u ∙ ap (λ o. after_part o (λ x t. run_scan (next x) t)) first
  then_halts halt.NoMemory u v w first = tt

module _ {A R : Type 0} (means : R → A) where
  pub tries_ends : (x : A) (r : R) (v : LocalView) → means r ≡ x → TriesAs means (ends x) (Ok r) v v
  unfolding TriesAs run_scan
  tries_ends x r v is = ap (λ (y : A). Ok (record { value = y; view = v })) (sym is)

  pub tries_stops : (at stop : StopAt) (v w : LocalView) → at ≡ stop → TriesAs means (stops stop) (Err (halt.Stop at)) v w
  unfolding TriesAs run_scan
  tries_stops at stop v w is = ap (λ (x : StopAt). Err x) (sym is)

  pub tries_without_memory : (p : Trying A) (v w : LocalView) → TriesAs means p (Err halt.NoMemory) v w
  unfolding TriesAs
  tries_without_memory p v w = tt

  pub looked_up_tries : (pair : Pair) (p : Trying A) (result : Result R Halt) (v w : LocalView) → TriesAs means p result v w → TriesAs means (looks_up pair p) result v w
  unfolding TriesAs run_scan
  looked_up_tries pair p (Ok r) v w rest = rest
  looked_up_tries pair p (Err (halt.Stop at)) v w rest = rest
  looked_up_tries pair p (Err halt.NoMemory) v w rest = tt

  told_tries : (k : Known) (p : Acting A) (r : Result R Trouble) (v w : LocalView) → DoesAs means p r v w → TriesAs means (with_known k p) (told k r) v w
  unfolding TriesAs DoesAs
  told_tries k p (Ok r) v w done = scan-body k p v ∙ ap (with_stop k) done
  told_tries k p (Err (trouble.Fault f)) v w done = scan-body k p v ∙ ap (with_stop k) done
  told_tries k p (Err trouble.NoMemory) v w done = tt

  -- where a function answers what was told
  pub told_tries_as : (k : Known) (p : Acting A) (r : Result R Trouble) (result : Result R Halt) (v w : LocalView) → result ≡ told k r → DoesAs means p r v w
      → TriesAs means (with_known k p) result v w
  told_tries_as k p r result v w is done = rw is (told_tries k p r v w done)
