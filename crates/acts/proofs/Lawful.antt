-- A lawful local stays lawful with each act that its machine serves.
use Rattle.std.proofs.Common.{◌≡◌, ℕ, true, Option, None, Some, Result, Ok, Err, IsSomeAnd, IsTrue, refl, slice_get}
use Rattle.std.proofs.lemmas.Bool.{and_parts, ltb-true}
use Rattle.ruby_value.specs.declared.fault.Fault.{Fault}
use Rattle.ruby_value.specs.declared.kind.Kind.{Kind}
use Rattle.ruby_value.specs.declared.value.Value.{Value}
use Rattle.ruby_value.specs.Prelude.{has_kind, has_kinds, IsLine, line_limit}
use Rattle.ctl_face.specs.Prelude.{allocate, with_line, probe, block_after_write, read_back, write_back, deallocate, without_line_in, enqueue, fields_in, IsLawful, get, LocalView, reference_to, buffer_place, field_kinds, initial_fields, message_kinds, table_size, pop, required_front, recycle, looks_up, receives, sends, set, table_with_field, stall, touch, used_line}
use Rattle.ctl_face.proofs.ActsKept.{changed_acts, enqueue_acts, pop_acts, read_acts, recycle_acts, stall_acts, wake_acts, write_acts}
use Rattle.ctl_face.proofs.Callbacks.{read_back_keeps, set_state_keeps, write_back_keeps}
use Rattle.ctl_face.proofs.LawfulAfter.{lawful_after, own_below}
use Rattle.ctl_face.proofs.MailKept.{again_keeps, pop_keeps, recycle_keeps, stall_keeps, wake_all_keeps, wake_keeps}
use Rattle.ctl_face.proofs.Sendings.{enqueue_keeps}
use Rattle.ctl_face.proofs.TableCalls.{allocate_keeps, deallocate_keeps, set_keeps, touch_keeps}
use Rattle.acts.specs.Prelude.{Act, Now, Me, Get, Set, Lookup, Avail, Probe, Allocate, Deallocate, Touch, Free, Ready, Front, Pop, Stall, Wake, WakeAll, Recycle, Send, Slots, ReadBack, WriteBack, State, SetState, Again, HoldsAfter, changes, does_served, reads, is_line, serves, takes, takes_field}

pub line_is : (line : ℕ) → is_line line ≡ true → IsLine line
line_is line is = ltb-true line line_limit is

pub takes_is : (o : Option Kind) (value : Value) → takes o value ≡ true → IsSomeAnd o (λ k. IsTrue (has_kind k value))
takes_is None value is = absurd (cc is)
takes_is (Some kind) value is = is

module _ {A : Type 0} (I : LocalView → Type 0) where
  pub holds_changes : (x : A) (want : Result LocalView Fault) → ((w : LocalView) → want ≡ Ok w → I w) → HoldsAfter I (changes x want)
  holds_changes x (Ok w) holds = holds w refl
  holds_changes x (Err f) holds = tt

  pub holds_reads : (v : LocalView) (want : Result A Fault) → I v → HoldsAfter I (reads v want)
  holds_reads v (Ok x) holds = holds
  holds_reads v (Err f) holds = tt

pub lawful_act : (a : Act) (v : LocalView) → serves v.machine a ≡ true → IsLawful v → HoldsAfter IsLawful (does_served a v)
lawful_act Now v is l = l
lawful_act Me v is l = l
lawful_act (Get r field) v is l = holds_reads IsLawful v (get v r field) l
lawful_act (Set r field value) v is l =
    let parts = and_parts (is_line r.line) (takes_field v.machine r.table field value) is in
    let takes_it = takes_is (slice_get (field_kinds v.machine r.table) field) value parts.1 in
    holds_changes IsLawful tt (set v r field value)
    (lawful_after (set v r field value) (set_keeps v r field value takes_it (line_is r.line parts.0) l.scan)
    (changed_acts v l.acts r.table (λ t. table_with_field t r.line field value (fields_in t r.line))))
lawful_act (Lookup table line) v is l = l
lawful_act (Avail table line) v is l = l
lawful_act (Probe table line) v is l = holds_reads IsLawful v (probe v table line) l
lawful_act (Allocate table line) v is l =
    let parts = and_parts (is_line line) (looks_up (table_size v.machine table)) is in
    holds_changes IsLawful (reference_to table line) (allocate v table line)
    (lawful_after (allocate v table line) (allocate_keeps v table line (line_is line parts.0) l.scan) (changed_acts v l.acts table (with_line (initial_fields v.machine table) line)))
lawful_act (Deallocate table line) v is l =
    holds_changes IsLawful tt (deallocate v table line)
    (lawful_after (deallocate v table line) (deallocate_keeps v table line l.scan) (changed_acts v l.acts table (without_line_in line)))
lawful_act (Touch table line) v is l =
    holds_changes IsLawful tt (touch v table line)
    (lawful_after (touch v table line) (touch_keeps v table line l.scan) (changed_acts v l.acts table (used_line line)))
lawful_act (Free table) v is l = l
lawful_act (Ready buffer) v is l = l
lawful_act (Front buffer) v is l = holds_reads IsLawful v (required_front v buffer) l
lawful_act (Pop buffer) v is l =
    holds_changes IsLawful tt (pop v buffer)
    (lawful_after (pop v buffer) (pop_keeps v buffer l.scan) (pop_acts v l.acts l.scan.fits.mail.inbox_ascends buffer))
lawful_act (Stall buffer line) v is l =
    let parts = and_parts (is_line line) (receives (buffer_place v.machine buffer)) is in
    holds_changes IsLawful tt (stall v buffer line)
    (lawful_after (stall v buffer line) (stall_keeps v buffer line (line_is line parts.0) l.scan) (stall_acts v l.acts buffer line))
lawful_act (Wake line) v is l = record { scan = wake_keeps v line l.scan; acts = wake_acts v l.acts _ }
lawful_act WakeAll v is l = record { scan = wake_all_keeps v l.scan; acts = wake_acts v l.acts _ }
lawful_act (Recycle buffer latency) v is l =
    holds_changes IsLawful tt (recycle v buffer latency)
    (lawful_after (recycle v buffer latency) (recycle_keeps v buffer latency l.scan) (recycle_acts v l.acts buffer latency))
lawful_act (Send buffer latency fields) v is l =
    let parts = and_parts (sends (buffer_place v.machine buffer)) (has_kinds (message_kinds v.machine buffer) fields) is in
    holds_changes IsLawful tt (enqueue v buffer latency fields)
    (lawful_after (enqueue v buffer latency fields) (enqueue_keeps v buffer latency fields parts.1 l.scan)
    (enqueue_acts v buffer latency fields parts.1 (own_below v l.scan) l.acts))
lawful_act (Slots buffer) v is l = l
lawful_act (ReadBack line block) v is l =
    holds_changes IsLawful tt (read_back v line block)
    (lawful_after (read_back v line block) (read_back_keeps v line block l.scan) (read_acts v l.acts line block))
lawful_act (WriteBack line block) v is l =
    holds_changes IsLawful (block_after_write v line block) (write_back v line block)
    (lawful_after (write_back v line block) (write_back_keeps v line block l.scan) (write_acts v l.acts line block))
lawful_act (State line) v is l = l
lawful_act (SetState line new) v is l =
    let parts = and_parts (is_line line) _ is in
    record { scan = set_state_keeps v line new parts.1 (line_is line parts.0) l.scan; acts = l.acts }
lawful_act Again v is l = record { scan = again_keeps v l.scan; acts = l.acts }
