-- What parts that serve a protocol give of each of its machines.
use Rattle.std.proofs.Common.{◌≡◌, ◌∙◌, ℕ, Option, None, Some, List, slice_get, refl, sym, ap, subst}
use Rattle.slicc_ast.specs.declared.tree.item.Tree.{Tree}
use Rattle.slicc_ast.specs.declared.tree.machine.Machine.{Machine}
use Rattle.ruby_symbols.specs.declared.machine.MachineSymbols.{MachineSymbols}
use Rattle.ruby_symbols.specs.declared.symbols.Symbols.{Symbols}
use Rattle.slicc_plan.specs.Buffers.{listed}
use Rattle.slicc_plan.specs.CountsOfSymbols.{member_count}
use Rattle.slicc_plan.specs.Numbering.{rows_by}
use Rattle.slicc_plan.specs.Prelude.{HasSymbols, symbols_of}
use Rattle.slicc_plan.proofs.Numbering.{rows_by_symbols, symbols_are}
use Rattle.machine_table.specs.Prelude.{answer, rows_of_found, state_count, states_of_found}
use Rattle.action_code.specs.declared.program.MachineDecl.{MachineDecl}
use Rattle.body_meaning.specs.Prelude.{Reading}
use Rattle.protocol_meaning.specs.Prelude.{reading_of}
use Rattle.protocol_meaning.proofs.Needs.{needs_of_tries}
use Rattle.slot_laws.proofs.SendsOfFlows.{sends_of_tries}
use Rattle.action_gen.specs.declared.parts.Head.{Head}
use Rattle.action_gen.specs.declared.parts.Parts.{Parts}
use Rattle.action_gen.specs.Prelude.{Serves, SoundAt, SoundHead, head_at, heads_of}
use Rattle.compiled_protocol.specs.Prelude.{MachineCode}
use Rattle.compiled_protocol.proofs.Carried.{IsRunBy}
use Rattle.compiled_protocol.proofs.Found.{first_of}
use Rattle.compiled_protocol.proofs.Headed.{IsHeadOf, headed, reading_has}
use Rattle.compiled_protocol.proofs.StateCounts.{states_are}

module _ (parts : Parts) (trees : List Tree) (serves : Serves parts trees) (number : ℕ) (m : MachineDecl) (h : Head)
    (declared : slice_get parts.program.machines number ≡ Some m) (head : slice_get parts.heads number ≡ Some h) where
  abbrev pub of_head : MachineCode
  of_head = record { parts = parts; number = number; states = m.states; head = h }

  sound : SoundHead parts number m h
  sound =
      subst (λ (o : Option Head). SoundAt parts number (Some m) o) head
      (subst (λ (o : Option MachineDecl). SoundAt parts number o (slice_get parts.heads number)) declared (serves.sound number))

  its_head : slice_get (heads_of parts.program trees) number ≡ Some h
  its_head = ap (λ (hs : List Head). slice_get hs number) (sym serves.heads) ∙ head

  module _ (s : Reading) (is : reading_of trees number ≡ Some s) where
    has : HasSymbols trees number s.tree s.machine
    has = (reading_has trees number s is).0

    counted : state_count parts.tables number ≡ member_count (slice_get s.symbols.enumerations s.machine.states)
    counted =
        sym (serves.state_counts number)
        ∙ ap states_of_found has.machine
        ∙ states_are trees serves.accepted number number s.tree has.machine
        ∙ ap (λ (x : MachineSymbols). member_count (slice_get (symbols_of trees).enumerations x.states)) (sym (symbols_are trees number s.tree s.machine has))
        ∙ ap (λ (x : Symbols). member_count (slice_get x.enumerations s.machine.states)) (sym (reading_has trees number s is).1)

    rows_listed : (state event : ℕ) → rows_by s.machine state event ≡ listed (answer parts.tables number state event)
    rows_listed state event =
        sym (rows_by_symbols trees number s.tree s.machine has state event)
        ∙ sym (ap (λ (o : Option Machine). rows_of_found o state event) has.machine)
        ∙ serves.tables number state event

    head_start : (start : ℕ) × (h ≡ head_at start s)
    head_start =
        let found = subst (λ (o : Option Reading). IsHeadOf o (slice_get (heads_of parts.program trees) number)) is (headed parts.program trees number) in
        let both : Some h ≡ Some (head_at found.0 s) = sym its_head ∙ found.1 in
        (found.0, cc both)

    pub is_run_by : IsRunBy trees s of_head
    is_run_by = record {
      carries = serves.carries.machines number s h is its_head;
      start = head_start.0;
      head = head_start.1;
      count = counted;
      rows = λ state event. first_of state event s.machine.transitions 0 (answer parts.tables number state event) (rows_listed state event);
      needs = λ place t at table. serves.needs_are number place table ∙ needs_of_tries trees number place table s t serves.accepted is at;
      sends = λ place t at buffer. serves.sends_are number place buffer ∙ sends_of_tries trees number place buffer s t is at;
      triggers = serves.triggers number s is;
      entry = sound.entry;
      tbe = sound.tbe;
      reads = sound.reads;
      asks = sound.asks;
      fires = sound.rows;
      numbered = sound.numbered;
    }

  -- a machine that has a head is read
  pub its_reading : (s : Reading) × (reading_of trees number ≡ Some s)
  its_reading = by (reading_of trees number) refl
    where
      by : (o : Option Reading) → reading_of trees number ≡ o → (s : Reading) × (reading_of trees number ≡ Some s)
      by None none =
          let found = subst (λ (o : Option Reading). IsHeadOf o (slice_get (heads_of parts.program trees) number)) none (headed parts.program trees number) in
          absurd (cc (sym its_head ∙ found))
      by (Some s) is = (s, is)
