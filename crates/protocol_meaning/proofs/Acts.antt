-- Each act keeps what it is done in within the bounds, and answers what is, where what it is given is; and so each body does.
use Rattle.std.proofs.Common.{ℕ, Option, None, Some, Result, Ok, Err, IfSome, refl, unwrap_or, arith}
use Rattle.std.proofs.lemmas.Bool.{cond_both}
use Rattle.std.specs.FinMap as map
use Rattle.ruby_value.specs.declared.fault.Fault.{Fault}
use Rattle.ruby_value.specs.declared.fault.Fault.TheVariants.{Reference}
use Rattle.ctl_face.specs.Prelude.{allocate, probe, after_callback, block_after_write, called_back, read_back, write_back, deallocate, enqueue, get, LocalView, reference_to, pop, required_front, recycle, set, stall, set_state, state, touch}
use Rattle.ctl_face.proofs.Cases.{Good, good_ok, good_err}
use Rattle.ctl_face.proofs.Maps.{insert_keeps}
use Rattle.ruby_value.specs.declared.asked.BackFault.{BackFault}
use Rattle.ruby_value.specs.declared.fault.Fault.TheVariants as fault
use Rattle.ruby_value.specs.Callback as callback
use Rattle.ruby_value.specs.Prelude.{Requests}
use Rattle.acts.specs.Prelude.{Act, Now, Me, Get, Set, Lookup, Avail, Probe, Allocate, Deallocate, Touch, Free, Ready, Front, Pop, Stall, Wake, WakeAll, Recycle, Send, Slots, ReadBack, WriteBack, State, SetState, Again, answer, Acting, ends, stops, acts, follow, run, Done, changes, does, does_served, reads, serves}
use Rattle.protocol_meaning.specs.Prelude.{IsMember}
use Rattle.protocol_meaning.proofs.Bodies.{AnswersWithin, AsksWithin, EndsWithin, Stays}
use Rattle.protocol_meaning.proofs.Bounds.{Bounds, ViewWithin}
use Rattle.protocol_meaning.proofs.Mail.{again_keeps, front_reads, pop_keeps, recycle_keeps, send_keeps, stall_keeps, wake_all_keeps, wake_keeps}
use Rattle.protocol_meaning.proofs.Tables.{allocate_keeps, deallocate_keeps, get_reads, set_keeps, touch_keeps}

module _ (b : Bounds) (v : LocalView) (is : ViewWithin b v) where
  -- the built-in map of states
  set_state_keeps : (line new : ℕ) → IsMember b.extent b.states new → ViewWithin b (set_state v line new)
  set_state_keeps line new here = record {
    holds = record {
      tables = is.holds.tables;
      states_set = insert_keeps (λ _ n. IsMember b.extent b.states n) v.ctl.states line new is.holds.states_set here;
      inbox = is.holds.inbox;
    };
    kept = is.kept;
    posted = is.posted;
    me = is.me;
    initial = is.initial;
    default_state = is.default_state;
  }

  first_member : IsMember b.extent b.states 0
  first_member = omega arith

  or_first : (o : Option ℕ) → IfSome o (IsMember b.extent b.states) → IsMember b.extent b.states (unwrap_or o 0)
  or_first None here = first_member
  or_first (Some n) here = here

  or_other : (o : Option ℕ) (n : ℕ) → IfSome o (IsMember b.extent b.states) → IsMember b.extent b.states n → IsMember b.extent b.states (unwrap_or o n)
  or_other None n here other = other
  or_other (Some k) n here other = here

  state_reads : (line : ℕ) → IsMember b.extent b.states (state v line)
  state_reads line = or_other (map.get v.ctl.states line) (unwrap_or v.machine.default_state 0) (is.holds.states_set line) (or_first v.machine.default_state is.default_state)

  -- requests of a sequencer
  after_keeps : (r : Result Requests BackFault) → Good (ViewWithin b) (after_callback v r)
  after_keeps (Ok r) = good_ok (ViewWithin b) _ (record {
    holds = record { tables = is.holds.tables; states_set = is.holds.states_set; inbox = is.holds.inbox };
    kept = is.kept;
    posted = is.posted;
    me = is.me;
    initial = is.initial;
    default_state = is.default_state;
  })
  after_keeps (Err f) = good_err (ViewWithin b) fault.Callback

  called_keeps : (call : Requests → Result Requests BackFault) (o : Option Requests) → Good (ViewWithin b) (called_back v call o)
  called_keeps call None = good_err (ViewWithin b) fault.Callback
  called_keeps call (Some r) = after_keeps (call r)

  -- what an act does and answers
  changed : {A : Type 0} (R : A → Type 0) (x : A) (r : Result LocalView Fault) → Good (ViewWithin b) r → R x → EndsWithin b R (changes x r)
  changed R x (Ok w) keeps here = (keeps.good w refl, here)
  changed R x (Err f) keeps here = tt

  read : {A : Type 0} (R : A → Type 0) (r : Result A Fault) → Good R r → EndsWithin b R (reads v r)
  read R (Ok x) reads_so = (is, reads_so.good x refl)
  read R (Err f) reads_so = tt

  any : {A : Type 0} (r : Result A Fault) → EndsWithin b (λ _. Unit {0}) (reads v r)
  any (Ok x) = (is, tt)
  any (Err f) = tt

abbrev Did : (b : Bounds) (a : Act) → Result (Done (answer a)) Fault → Type 0
Did b a r = EndsWithin b (AnswersWithin b a) r

act_keeps : (b : Bounds) (a : Act) (v : LocalView) → ViewWithin b v → AsksWithin b a → Did b a (does_served a v)
act_keeps b Now v is asks = (is, tt)
act_keeps b Me v is asks = (is, is.me)
act_keeps b (Get r field) v is asks = read b v is (AnswersWithin b (Get r field)) (get v r field) (get_reads b v is r field)
act_keeps b (Set r field value) v is asks = changed b v is (λ _. Unit {0}) tt (set v r field value) (set_keeps b v is r field value asks.0 asks.1) tt
act_keeps b (Lookup table line) v is asks = (is, tt)
act_keeps b (Avail table line) v is asks = (is, tt)
act_keeps b (Probe table line) v is asks = any b v is (probe v table line)
act_keeps b (Allocate table line) v is asks = changed b v is (λ _. Unit {0}) (reference_to table line) (allocate v table line) (allocate_keeps b v is table line) tt
act_keeps b (Deallocate table line) v is asks = changed b v is (λ _. Unit {0}) tt (deallocate v table line) (deallocate_keeps b v is table line) tt
act_keeps b (Touch table line) v is asks = changed b v is (λ _. Unit {0}) tt (touch v table line) (touch_keeps b v is table line) tt
act_keeps b (Free table) v is asks = (is, tt)
act_keeps b (Ready buffer) v is asks = (is, tt)
act_keeps b (Front buffer) v is asks = read b v is (AnswersWithin b (Front buffer)) (required_front v buffer) (front_reads b v is buffer)
act_keeps b (Pop buffer) v is asks = changed b v is (λ _. Unit {0}) tt (pop v buffer) (pop_keeps b v is buffer) tt
act_keeps b (Stall buffer line) v is asks = changed b v is (λ _. Unit {0}) tt (stall v buffer line) (stall_keeps b v is buffer line) tt
act_keeps b (Wake line) v is asks = (wake_keeps b v is line, tt)
act_keeps b WakeAll v is asks = (wake_all_keeps b v is, tt)
act_keeps b (Recycle buffer latency) v is asks = changed b v is (λ _. Unit {0}) tt (recycle v buffer latency) (recycle_keeps b v is buffer latency) tt
act_keeps b (Send buffer latency fields) v is asks = changed b v is (λ _. Unit {0}) tt (enqueue v buffer latency fields) (send_keeps b v is buffer latency fields asks) tt
act_keeps b (Slots buffer) v is asks = (is, tt)
act_keeps b (ReadBack line block) v is asks = changed b v is (λ _. Unit {0}) tt (read_back v line block) (called_keeps b v is (λ r. callback.read_back r line block) v.ctl.sequencer) tt
act_keeps b (WriteBack line block) v is asks = changed b v is (λ _. Unit {0}) (block_after_write v line block) (write_back v line block) (called_keeps b v is (λ r. callback.write_back r line block) v.ctl.sequencer) tt
act_keeps b (State line) v is asks = (is, state_reads b v is line)
act_keeps b (SetState line new) v is asks = (set_state_keeps b v is line new asks, tt)
act_keeps b Again v is asks = (again_keeps b v is, tt)

pub does_keeps : (b : Bounds) (a : Act) (v : LocalView) → ViewWithin b v → AsksWithin b a → Did b a (does a v)
unfolding does
does_keeps b a v is asks = cond_both (serves v.machine a) (does_served a v) (Err Reference) (Did b a) (λ _. act_keeps b a v is asks) (λ _. tt)

module _ (b : Bounds) {A B : Type 0} (P : A → Type 0) (R : B → Type 0) where
  followed : (r : Result (Done A) Fault) (next : A → LocalView → Result (Done B) Fault) → EndsWithin b P r
      → ((x : A) (w : LocalView) → ViewWithin b w → P x → EndsWithin b R (next x w)) → EndsWithin b R (follow r next)
  followed (Ok d) next (is, here) rest = rest d.value d.view is here
  followed (Err f) next here rest = tt

-- a body that stays within the bounds
pub run_keeps : (b : Bounds) {A : Type 0} (R : A → Type 0) (p : Acting A) (v : LocalView) → Stays b R p → ViewWithin b v → EndsWithin b R (run p v)
unfolding run
run_keeps b R (ends x) v stays is = (is, stays)
run_keeps b R (stops f) v stays is = tt
run_keeps b R (acts a more) v stays is =
    followed b (AnswersWithin b a) R (does a v) (λ x w. run (more x) w) (does_keeps b a v is stays.0)
    (λ x w within here. run_keeps b R (more x) w (stays.1 x here) within)
