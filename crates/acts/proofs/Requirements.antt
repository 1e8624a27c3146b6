-- An act is served exactly where the call of a local may be made.
use Rattle.std.proofs.Common.{◌≡◌, ℕ, Bool, true, false, Option, None, Some, IsTrue, IsSomeAnd, slice_get, refl}
use Rattle.std.proofs.lemmas.Bool.{and_parts, lt-ltb, ltb-true}
use Rattle.std.specs.Prelude.{◌&&◌, ◌↔◌}
use Rattle.ruby_value.specs.declared.kind.Kind.{Kind}
use Rattle.ruby_value.specs.declared.value.Value.{Value}
use Rattle.ruby_value.specs.Prelude.{has_kind, IsLine, line_limit}
use Rattle.ctl_face.specs.Prelude.{LocalView, field_kinds}
use Rattle.acts.specs.Prelude.{Act, Now, Me, Get, Set, Lookup, Avail, Probe, Allocate, Deallocate, Touch, Free, Ready, Front, Pop, Stall, Wake, WakeAll, Recycle, Send, Slots, ReadBack, WriteBack, State, SetState, Again, Required, is_line, serves, takes}

same : {A : Type 0} → A ↔ A
same = (λ x. x, λ x. x)

always : IsTrue true ↔ Unit {0}
always = (λ _. tt, λ _. refl)

of_line : (line : ℕ) → IsTrue (is_line line) ↔ IsLine line
of_line line = (λ is. ltb-true line line_limit is, λ is. lt-ltb line line_limit is)

both : (a b : Bool) → a ≡ true → b ≡ true → (a && b) ≡ true
both true b first second = second
both false b first second = absurd (cc first)

-- a test of a line and another one, which a call requires the other way round
with_line : {P : Type 0} (line : ℕ) (b : Bool) → IsTrue b ↔ P → IsTrue (is_line line && b) ↔ (P × IsLine line)
with_line line b is = (
  λ test. let parts = and_parts (is_line line) b test in (is.0 parts.1, (of_line line).0 parts.0),
  λ holds. both (is_line line) b ((of_line line).1 holds.1) (is.1 holds.0),
)

of_kind : (o : Option Kind) (value : Value) → IsTrue (takes o value) ↔ IsSomeAnd o (λ k. IsTrue (has_kind k value))
of_kind None value = (λ is. absurd (cc is), λ no. absurd no)
of_kind (Some k) value = same

pub as_required : (v : LocalView) (a : Act) → IsTrue (serves v.machine a) ↔ Required v a
as_required v Now = always
as_required v Me = always
as_required v (Get r field) = with_line r.line _ same
as_required v (Set r field value) = with_line r.line _ (of_kind (slice_get (field_kinds v.machine r.table) field) value)
as_required v (Lookup table line) = with_line line _ same
as_required v (Avail table line) = with_line line _ same
as_required v (Probe table line) = with_line line _ same
as_required v (Allocate table line) = with_line line _ same
as_required v (Deallocate table line) = with_line line _ same
as_required v (Touch table line) = with_line line _ same
as_required v (Free table) = same
as_required v (Ready buffer) = same
as_required v (Front buffer) = same
as_required v (Pop buffer) = same
as_required v (Stall buffer line) = with_line line _ same
as_required v (Wake line) = of_line line
as_required v WakeAll = always
as_required v (Recycle buffer latency) = same
as_required v (Send buffer latency fields) = (λ test. and_parts _ _ test, λ holds. both _ _ holds.0 holds.1)
as_required v (Slots buffer) = same
as_required v (ReadBack line block) = of_line line
as_required v (WriteBack line block) = of_line line
as_required v (State line) = with_line line _ same
as_required v (SetState line state) = with_line line _ same
as_required v Again = always
