-- What keeps a local within bounds: acts that are given what is within them, but none that sets a field of the table of the machine's
-- values; their answers are within the bounds then. And bodies of such acts.
use Rattle.std.specs.Prelude.{◌≡◌, Result, Ok, Err}
use Rattle.ruby_value.specs.declared.fault.Fault.{Fault}
use Rattle.acts.specs.Prelude.{Act, answer, Me, Get, Set, Front, Send, State, SetState, Acting, ends, stops, acts, Done}
use Rattle.protocol_meaning.specs.Prelude.{AreWithin, IsController, IsMember, IsWithin}
use Rattle.protocol_meaning.proofs.Bounds.{Bounds, IsKept, ViewWithin}

module _ (b : Bounds) where
  -- what an act is given is within the bounds
  abbrev pub AsksWithin : Act → Type 0
  AsksWithin (Set r field value) = ¬ (r.table ≡ b.table) × IsWithin b.extent value
  AsksWithin (Send buffer latency fields) = AreWithin b.extent fields
  AsksWithin (SetState line state) = IsMember b.extent b.states state
  AsksWithin _ = Unit {0}

  -- and so is what it answers
  abbrev pub AnswersWithin : (a : Act) → answer a → Type 0
  AnswersWithin Me me = IsController b.extent me
  AnswersWithin (Get r field) value = IsWithin b.extent value × IsKept b r field value
  AnswersWithin (Front buffer) m = AreWithin b.extent m.fields
  AnswersWithin (State line) state = IsMember b.extent b.states state
  AnswersWithin _ x = Unit {0}

  -- a body whose acts are given what is within the bounds, where what they answer is, and whose own answer has this property
  abbrev pub Stays : {A : Type 0} → (A → Type 0) → Acting A → Type 0
  Stays R (ends x) = R x
  Stays R (stops f) = Unit {0}
  Stays R (acts a more) = AsksWithin a × ((x : answer a) → AnswersWithin a x → Stays R (more x))

  -- the local that a body leaves is within the bounds, and its answer has this property
  abbrev pub EndsWithin : {A : Type 0} → (A → Type 0) → Result (Done A) Fault → Type 0
  EndsWithin R (Ok d) = ViewWithin b d.view × R d.value
  EndsWithin R (Err f) = Unit {0}
