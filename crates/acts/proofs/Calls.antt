-- Each act is done by the call of its name, where the machine serves it.
use Rattle.std.proofs.Common.{◌≡◌, ℕ, ℤ, Bool, true, false, is_some, unwrap_or, List, Option, None, Some, Result, Ok, Err, refl, sym, ap}
use Rattle.std.specs.Borrow.{Bor}
use Rattle.std.specs.Option.{ok_or}
use Rattle.ruby_value.specs.declared.fault.Fault.TheVariants as fault
use Rattle.ruby_value.specs.declared.fault.Fault.TheVariants.{Reference}
use Rattle.ctl_face.specs.declared.message_at.MessageAt.{MessageAt}
use Rattle.ctl_face.specs.declared.trouble.Trouble.TheVariants as trouble
use Rattle.ruby_value.specs.declared.message.Message.{Message}
use Rattle.ruby_value.specs.declared.value.Block.{Block}
use Rattle.ruby_value.specs.declared.value.Ref.{Ref}
use Rattle.ruby_value.specs.declared.value.Value.{Value}
use Rattle.ctl_face.specs.declared.trouble.Trouble.{Trouble}
use Rattle.ctl_face.specs.Prelude.{again, allocate, avail, probe, block_after_write, read_back, write_back, deallocate, Does, DoesWith, Reads, answered, enqueue, free, field_behind, front_now, get, message_at, LocalView, lookup, reference_to, pop, ready, required_front, recycle, set, slots, stall, set_state, state, touch, wake, wake_all}
use Rattle.acts.specs.Prelude.{Now, Me, Get, Set, Lookup, Avail, Probe, Allocate, Deallocate, Touch, Free, Ready, Front, Pop, Stall, Wake, WakeAll, Recycle, Send, Slots, ReadBack, WriteBack, State, SetState, Again, act, DoesAs, itself, lent, message_there, no_message, serves}
use Rattle.acts.proofs.Served.{answered_reads, changes_does, faults_does, means_does, not_served_does, reads_does}

there_is : (o p : Option Message) → true ≡ is_some o → p ≡ o → ok_or o fault.Front ≡ Ok (unwrap_or p no_message)
there_is (Some m) p there is = ap (λ (q : Option Message). Ok (unwrap_or q no_message)) (sym is)
there_is None p there is = cc

not_there : (o : Option Message) → false ≡ is_some o → ok_or o fault.Front ≡ Err fault.Front
not_there (Some m) none = cc
not_there None none = refl

module _ (v : LocalView) where
  pub now_does : (x : ℕ) → x ≡ v.now → DoesAs itself (act Now) (Ok x) v v
  now_does x is = reads_does Now v refl (Ok v.now) (Ok x) refl (ap (λ (y : ℕ). Ok y) (sym is))

  pub me_does : (x : ℕ) → x ≡ v.actor.me → DoesAs itself (act Me) (Ok x) v v
  me_does x is = reads_does Me v refl (Ok v.actor.me) (Ok x) refl (ap (λ (y : ℕ). Ok y) (sym is))

  pub get_does : (r : Ref) (field : ℕ) (result : Result Value Trouble) → serves v.machine (Get r field) ≡ true → Reads (get v r field) result → DoesAs itself (act (Get r field)) result v v
  get_does r field result s does = reads_does (Get r field) v s (get v r field) result refl does

  pub field_does : (r : Ref) (field : ℕ) (x : Bor Value) → serves v.machine (Get r field) ≡ true → Some x.now ≡ field_behind v r field → DoesAs lent (act (Get r field)) (Ok x) v v
  field_does r field x s is = means_does (Get r field) v s lent x (get v r field) refl (ap (λ (o : Option Value). ok_or o Reference) (sym is))

  pub no_field_does : (r : Ref) (field : ℕ) → serves v.machine (Get r field) ≡ true → None ≡ field_behind v r field → DoesAs lent (act (Get r field)) (Err (trouble.Fault Reference)) v v
  no_field_does r field s is = faults_does (Get r field) v s lent Reference (get v r field) refl (ap (λ (o : Option Value). ok_or o Reference) (sym is))

  pub set_does : (r : Ref) (field : ℕ) (value : Value) (result : Result (Unit {0}) Trouble) (w : LocalView) → serves v.machine (Set r field value) ≡ true → Does (set v r field value) result v w → DoesAs itself (act (Set r field value)) result v w
  set_does r field value result w s does = changes_does (Set r field value) v s (set v r field value) tt result w refl does

  pub lookup_does : (table : ℕ) (line : ℕ) (x : Option Ref) → serves v.machine (Lookup table line) ≡ true → x ≡ lookup v table line → DoesAs itself (act (Lookup table line)) (Ok x) v v
  lookup_does table line x s is = reads_does (Lookup table line) v s (Ok (lookup v table line)) (Ok x) refl (ap (λ (y : Option Ref). Ok y) (sym is))

  pub avail_does : (table : ℕ) (line : ℕ) (x : Bool) → serves v.machine (Avail table line) ≡ true → x ≡ avail v table line → DoesAs itself (act (Avail table line)) (Ok x) v v
  avail_does table line x s is = reads_does (Avail table line) v s (Ok (avail v table line)) (Ok x) refl (ap (λ (y : Bool). Ok y) (sym is))

  pub probe_does : (table : ℕ) (line : ℕ) (result : Result ℕ Trouble) → serves v.machine (Probe table line) ≡ true → result ≡ answered (probe v table line) → DoesAs itself (act (Probe table line)) result v v
  probe_does table line result s is = reads_does (Probe table line) v s (probe v table line) result refl (answered_reads (probe v table line) result is)

  pub allocate_does : (table : ℕ) (line : ℕ) (result : Result Ref Trouble) (w : LocalView) → serves v.machine (Allocate table line) ≡ true → DoesWith (allocate v table line) (reference_to table line) result v w → DoesAs itself (act (Allocate table line)) result v w
  allocate_does table line result w s does = changes_does (Allocate table line) v s (allocate v table line) (reference_to table line) result w refl does

  pub deallocate_does : (table : ℕ) (line : ℕ) (result : Result (Unit {0}) Trouble) (w : LocalView) → serves v.machine (Deallocate table line) ≡ true → Does (deallocate v table line) result v w → DoesAs itself (act (Deallocate table line)) result v w
  deallocate_does table line result w s does = changes_does (Deallocate table line) v s (deallocate v table line) tt result w refl does

  pub touch_does : (table : ℕ) (line : ℕ) (result : Result (Unit {0}) Trouble) (w : LocalView) → serves v.machine (Touch table line) ≡ true → Does (touch v table line) result v w → DoesAs itself (act (Touch table line)) result v w
  touch_does table line result w s does = changes_does (Touch table line) v s (touch v table line) tt result w refl does

  pub free_does : (table : ℕ) (x : ℕ) → serves v.machine (Free table) ≡ true → x ≡ free v table → DoesAs itself (act (Free table)) (Ok x) v v
  free_does table x s is = reads_does (Free table) v s (Ok (free v table)) (Ok x) refl (ap (λ (y : ℕ). Ok y) (sym is))

  pub ready_does : (buffer : ℕ) (x : Bool) → serves v.machine (Ready buffer) ≡ true → x ≡ ready v buffer → DoesAs itself (act (Ready buffer)) (Ok x) v v
  ready_does buffer x s is = reads_does (Ready buffer) v s (Ok (ready v buffer)) (Ok x) refl (ap (λ (y : Bool). Ok y) (sym is))

  pub front_does : (buffer : ℕ) (result : Result Message Trouble) → serves v.machine (Front buffer) ≡ true → Reads (required_front v buffer) result → DoesAs itself (act (Front buffer)) result v v
  front_does buffer result s does = reads_does (Front buffer) v s (required_front v buffer) result refl does

  pub front_at_does : (buffer : ℕ) (at : MessageAt) → serves v.machine (Front buffer) ≡ true → true ≡ ready v buffer → message_at v at ≡ front_now v buffer → DoesAs (message_there v) (act (Front buffer)) (Ok at) v v
  front_at_does buffer at s there is = means_does (Front buffer) v s (message_there v) at (required_front v buffer) refl (there_is (front_now v buffer) (message_at v at) there is)

  pub no_front_does : (buffer : ℕ) → serves v.machine (Front buffer) ≡ true → false ≡ ready v buffer → DoesAs (message_there v) (act (Front buffer)) (Err (trouble.Fault fault.Front)) v v
  no_front_does buffer s none = faults_does (Front buffer) v s (message_there v) fault.Front (required_front v buffer) refl (not_there (front_now v buffer) none)

  pub pop_does : (buffer : ℕ) (result : Result (Unit {0}) Trouble) (w : LocalView) → serves v.machine (Pop buffer) ≡ true → Does (pop v buffer) result v w → DoesAs itself (act (Pop buffer)) result v w
  pop_does buffer result w s does = changes_does (Pop buffer) v s (pop v buffer) tt result w refl does

  pub stall_does : (buffer : ℕ) (line : ℕ) (result : Result (Unit {0}) Trouble) (w : LocalView) → serves v.machine (Stall buffer line) ≡ true → Does (stall v buffer line) result v w → DoesAs itself (act (Stall buffer line)) result v w
  stall_does buffer line result w s does = changes_does (Stall buffer line) v s (stall v buffer line) tt result w refl does

  pub wake_does : (line : ℕ) (result : Result (Unit {0}) Trouble) (w : LocalView) → serves v.machine (Wake line) ≡ true → Does (Ok (wake v line)) result v w → DoesAs itself (act (Wake line)) result v w
  wake_does line result w s does = changes_does (Wake line) v s (Ok (wake v line)) tt result w refl does

  pub wake_all_does : (result : Result (Unit {0}) Trouble) (w : LocalView) → Does (Ok (wake_all v)) result v w → DoesAs itself (act WakeAll) result v w
  wake_all_does result w does = changes_does WakeAll v refl (Ok (wake_all v)) tt result w refl does

  pub recycle_does : (buffer : ℕ) (latency : ℤ) (result : Result (Unit {0}) Trouble) (w : LocalView) → serves v.machine (Recycle buffer latency) ≡ true → Does (recycle v buffer latency) result v w → DoesAs itself (act (Recycle buffer latency)) result v w
  recycle_does buffer latency result w s does = changes_does (Recycle buffer latency) v s (recycle v buffer latency) tt result w refl does

  pub send_does : (buffer : ℕ) (latency : ℤ) (fields : List Value) (result : Result (Unit {0}) Trouble) (w : LocalView) → serves v.machine (Send buffer latency fields) ≡ true → Does (enqueue v buffer latency fields) result v w → DoesAs itself (act (Send buffer latency fields)) result v w
  send_does buffer latency fields result w s does = changes_does (Send buffer latency fields) v s (enqueue v buffer latency fields) tt result w refl does

  pub slots_does : (buffer : ℕ) (x : Option ℕ) → serves v.machine (Slots buffer) ≡ true → x ≡ slots v buffer → DoesAs itself (act (Slots buffer)) (Ok x) v v
  slots_does buffer x s is = reads_does (Slots buffer) v s (Ok (slots v buffer)) (Ok x) refl (ap (λ (y : Option ℕ). Ok y) (sym is))

  pub read_back_does : (line : ℕ) (block : Block) (result : Result (Unit {0}) Trouble) (w : LocalView) → serves v.machine (ReadBack line block) ≡ true → Does (read_back v line block) result v w → DoesAs itself (act (ReadBack line block)) result v w
  read_back_does line block result w s does = changes_does (ReadBack line block) v s (read_back v line block) tt result w refl does

  pub write_back_does : (line : ℕ) (block : Block) (result : Result Block Trouble) (w : LocalView) → serves v.machine (WriteBack line block) ≡ true → DoesWith (write_back v line block) (block_after_write v line block) result v w → DoesAs itself (act (WriteBack line block)) result v w
  write_back_does line block result w s does = changes_does (WriteBack line block) v s (write_back v line block) (block_after_write v line block) result w refl does

  pub state_does : (line : ℕ) (x : ℕ) → serves v.machine (State line) ≡ true → x ≡ state v line → DoesAs itself (act (State line)) (Ok x) v v
  state_does line x s is = reads_does (State line) v s (Ok (state v line)) (Ok x) refl (ap (λ (y : ℕ). Ok y) (sym is))

  pub set_state_does : (line : ℕ) (new : ℕ) (result : Result (Unit {0}) Trouble) (w : LocalView) → serves v.machine (SetState line new) ≡ true → Does (Ok (set_state v line new)) result v w → DoesAs itself (act (SetState line new)) result v w
  set_state_does line new result w s does = changes_does (SetState line new) v s (Ok (set_state v line new)) tt result w refl does

  pub again_does : (result : Result (Unit {0}) Trouble) (w : LocalView) → Does (Ok (again v)) result v w → DoesAs itself (act Again) result v w
  again_does result w does = changes_does Again v refl (Ok (again v)) tt result w refl does

pub ruleset calls_of_acts = (not_served_does, now_does, me_does, get_does, field_does, no_field_does, set_does, lookup_does, avail_does, probe_does, allocate_does, deallocate_does, touch_does, free_does, ready_does, front_does, front_at_does, no_front_does, pop_does, stall_does, wake_does, wake_all_does, recycle_does, send_does, slots_does, read_back_does, write_back_does, state_does, set_state_does, again_does)
