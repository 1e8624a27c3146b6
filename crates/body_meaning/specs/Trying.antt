-- What a scan does, as data: it ends with an answer, stops with a fault and what is known of its transition then, does an act, or
-- looks a pair of a state and an event up among the written transitions. An act carries what is known while it is done, so that a
-- fault of it is told with that. Only `run_scan` looks at a controller.
use Rattle.std.specs.Prelude.{ℕ, Bool, None, List, [], ◌∷◌, Result, Ok, Err}
use Rattle.ruby_value.specs.declared.fault.Fault.{Fault}
use Rattle.run_journal.specs.declared.entry.StopAt.{StopAt}
use Rattle.ctl_face.specs.Prelude.{LocalView}
use Rattle.acts.specs.Prelude.{Act, answer, Acting, ends as ends_body, stops as stops_body, acts as acts_in, fault_of, Done, does}
use Rattle.body_meaning.specs.declared.frame.Known.{Known}

abbrev pub nothing_known : Known
nothing_known = record { address = None; state = None; event = None }

abbrev pub stop_at : Known → Fault → StopAt
stop_at k fault = record { address = k.address; state = k.state; event = k.event; fault = fault }

-- a pair that was looked up, for a line's byte address, and whether there is a written transition for it
pub record Pair : Type 0 where
  pub address : ℕ
  pub state : ℕ
  pub event : ℕ
  pub is_written : Bool

pub data Trying (A : Type 0) : Type 0 where
  ends : A → Trying A
  stops : StopAt → Trying A
  acts : Known → (a : Act) → (answer a → Trying A) → Trying A
  looks_up : Pair → Trying A → Trying A

-- one after the other
unfoldable pub then_try : {A B : Type 0} → Trying A → (A → Trying B) → Trying B
then_try (ends x) next = next x
then_try (stops stop) next = stops stop
then_try (acts k a more) next = acts k a (λ x. then_try (more x) next)
then_try (looks_up pair rest) next = looks_up pair (then_try rest next)

-- a body, with what is known while it is done
unfoldable pub with_known : {A : Type 0} → Known → Acting A → Trying A
with_known k (ends_body x) = ends x
with_known k (stops_body f) = stops (stop_at k (fault_of f))
with_known k (acts_in a more) = acts k a (λ x. with_known k (more x))

abbrev pub follow_scan : {A B : Type 0} → Known → Result (Done A) Fault → (A → LocalView → Result (Done B) StopAt) → Result (Done B) StopAt
follow_scan k (Ok d) next = next d.value d.view
follow_scan k (Err fault) next = Err (stop_at k fault)

-- done in a local: the answer and the local after it, or the stop
unfoldable pub run_scan : {A : Type 0} → Trying A → LocalView → Result (Done A) StopAt
run_scan (ends x) v = Ok (record { value = x; view = v })
run_scan (stops stop) v = Err stop
run_scan (acts k a more) v = follow_scan k (does a v) (λ x w. run_scan (more x) w)
run_scan (looks_up pair rest) v = run_scan rest v

abbrev pub follow_pairs : {A : Type 0} → Result (Done A) Fault → (A → LocalView → List Pair) → List Pair
follow_pairs (Ok d) next = next d.value d.view
follow_pairs (Err fault) next = []

-- the pairs that it looks up in a local, in this order
unfoldable pub pairs_of : {A : Type 0} → Trying A → LocalView → List Pair
pairs_of (ends x) v = []
pairs_of (stops stop) v = []
pairs_of (acts k a more) v = follow_pairs (does a v) (λ x w. pairs_of (more x) w)
pairs_of (looks_up pair rest) v = pair ∷ pairs_of rest v
