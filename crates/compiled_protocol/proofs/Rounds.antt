-- A round by compiled code is the scan of each protocol that its parts serve.
use Rattle.std.proofs.Common.{◌≡◌, ◌∙◌, ℕ, Option, None, Some, List, Result, Ok, All, nat_le, slice_get, refl, sym, ap, subst}
use Rattle.std.specs.Prelude.{if◌then◌else◌}
use Rattle.ruby_base.specs.declared.memory.NoMemory.{NoMemory}
use Rattle.slicc_ast.specs.declared.tree.item.Tree.{Tree}
use Rattle.ctl_face.specs.Prelude.{LocalView}
use Rattle.action_code.specs.declared.program.MachineDecl.{MachineDecl}
use Rattle.body_meaning.specs.declared.frame.RoundEnd.{RoundEnd}
use Rattle.body_meaning.specs.declared.frame.RoundEnd.TheVariants.{Full, Idle}
use Rattle.body_meaning.specs.Prelude.{IsRoundOf, Reading, Scanned, by_outcome}
use Rattle.protocol_meaning.specs.Prelude.{reading_of, scan_by, scan_of}
use Rattle.action_gen.specs.declared.parts.Head.{Head}
use Rattle.action_gen.specs.declared.parts.Parts.{Parts}
use Rattle.action_gen.specs.Prelude.{InMachine, Serves, SoundAt, heads_of}
use Rattle.scan_steps.specs.Prelude.{scanned}
use Rattle.compiled_protocol.specs.Machine.{declared_with}
use Rattle.compiled_protocol.specs.Prelude.{MachineCode, MayRunPort, machine_at, ports_run}
use Rattle.compiled_protocol.proofs.Headed.{IsHeadOf, headed}
use Rattle.compiled_protocol.proofs.MayRun.{all_may}
use Rattle.compiled_protocol.proofs.Served.{is_run_by, its_reading, of_head}
use Rattle.compiled_protocol.proofs.TriedSame.{all_same}

module _ (parts : Parts) (trees : List Tree) (serves : Serves parts trees) (number : ℕ) where
  -- Where there is no such machine.

  not_read : (o : Option Reading) → reading_of trees number ≡ o → slice_get parts.heads number ≡ None → reading_of trees number ≡ None
  not_read None is none = is
  not_read (Some s) is none =
      let found = subst (λ (o : Option Reading). IsHeadOf o (slice_get (heads_of parts.program trees) number)) is (headed parts.program trees number) in
      let here : slice_get (heads_of parts.program trees) number ≡ None = ap (λ (hs : List Head). slice_get hs number) (sym serves.heads) ∙ none in
      absurd (cc (sym here ∙ found.1))

  no_head : (om : Option MachineDecl) (oh : Option Head) → slice_get parts.program.machines number ≡ om → slice_get parts.heads number ≡ oh
      → declared_with parts number om oh ≡ None → slice_get parts.heads number ≡ None
  no_head om None is_declared is_head none = is_head
  no_head None (Some h) is_declared is_head none =
      let sound =
      subst (λ (o : Option Head). SoundAt parts number None o) is_head
      (subst (λ (o : Option MachineDecl). SoundAt parts number o (slice_get parts.heads number)) is_declared (serves.sound number)) in
      absurd sound
  no_head (Some m) (Some h) is_declared is_head none = absurd (cc none)

  pub round_without : machine_at parts number ≡ None → (limit fired : ℕ) (v : LocalView) → IsRoundOf (scan_of trees number limit fired v) (Ok Idle) v v
  unfolding scan_of
  round_without none limit fired v =
      let unread = not_read (reading_of trees number) refl (no_head (slice_get parts.program.machines number) (slice_get parts.heads number) refl refl none) in
      rw unread (refl, refl)

  -- Where there is one.

  module _ (m : MachineDecl) (h : Head) (is_declared : slice_get parts.program.machines number ≡ Some m) (is_head : slice_get parts.heads number ≡ Some h)
      (v : LocalView) (here : InMachine parts.program number v) where
    abbrev c : MachineCode
    c = of_head parts trees serves number m h is_declared is_head

    one_may : All (MayRunPort c v.machine) c.head.ports
    one_may =
        let read = its_reading parts trees serves number m h is_declared is_head in
        all_may trees read.0 c (is_run_by parts trees serves number m h is_declared is_head read.0 read.1) v.machine here.declared

    one_scan : (limit fired : ℕ) → scanned (ports_run c c.head.ports) limit fired v ≡ scan_of trees number limit fired v
    unfolding scan_of
    one_scan limit fired =
        let read = its_reading parts trees serves number m h is_declared is_head in
        let same = all_same trees read.0 c (is_run_by parts trees serves number m h is_declared is_head read.0 read.1) v here in
        ap (λ r. if nat_le limit fired then (record { end = Full; view = v }) else by_outcome v r) same
        ∙ ap (λ o. scan_by o limit fired v) (sym read.1)

  module _ (c : MachineCode) (at : Some c ≡ machine_at parts number) (v : LocalView) (here : InMachine parts.program number v) where
    may_by : (om : Option MachineDecl) (oh : Option Head) → slice_get parts.program.machines number ≡ om → slice_get parts.heads number ≡ oh
        → Some c ≡ declared_with parts number om oh → All (MayRunPort c v.machine) c.head.ports
    may_by None None is_declared is_head is = absurd (cc is)
    may_by None (Some h) is_declared is_head is = absurd (cc is)
    may_by (Some m) None is_declared is_head is = absurd (cc is)
    may_by (Some m) (Some h) is_declared is_head is =
        let same : c ≡ of_head parts trees serves number m h is_declared is_head = cc is in
        subst (λ (x : MachineCode). All (MayRunPort x v.machine) x.head.ports) (sym same) (one_may m h is_declared is_head v here)

    pub may_scan : All (MayRunPort c v.machine) c.head.ports
    may_scan = may_by (slice_get parts.program.machines number) (slice_get parts.heads number) refl refl at

    scan_by_code : (limit fired : ℕ) (om : Option MachineDecl) (oh : Option Head) → slice_get parts.program.machines number ≡ om → slice_get parts.heads number ≡ oh
        → Some c ≡ declared_with parts number om oh → scanned (ports_run c c.head.ports) limit fired v ≡ scan_of trees number limit fired v
    scan_by_code limit fired None None is_declared is_head is = absurd (cc is)
    scan_by_code limit fired None (Some h) is_declared is_head is = absurd (cc is)
    scan_by_code limit fired (Some m) None is_declared is_head is = absurd (cc is)
    scan_by_code limit fired (Some m) (Some h) is_declared is_head is =
        let same : c ≡ of_head parts trees serves number m h is_declared is_head = cc is in
        subst (λ (x : MachineCode). scanned (ports_run x x.head.ports) limit fired v ≡ scan_of trees number limit fired v) (sym same) (one_scan m h is_declared is_head v here limit fired)

    pub round_with : (limit fired : ℕ) (end : Result RoundEnd NoMemory) (w : LocalView) → IsRoundOf (scanned (ports_run c c.head.ports) limit fired v) end w v
        → IsRoundOf (scan_of trees number limit fired v) end w v
    round_with limit fired end w did =
        subst (λ (x : Scanned). IsRoundOf x end w v)
        (scan_by_code limit fired (slice_get parts.program.machines number) (slice_get parts.heads number) refl refl at) did
