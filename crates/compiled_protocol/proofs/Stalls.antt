-- A written transition is stalled where there is no room for it or it says so. Else it goes on.
use Rattle.std.proofs.Common.{◌≡◌, ◌∙◌, ℕ, Bool, true, false, Result, Ok, Err, Some, sym}
use Rattle.acts.specs.Prelude.{DoesAs, itself}
use Rattle.ctl_face.specs.declared.trouble.Trouble.{Trouble}
use Rattle.ctl_face.specs.Prelude.{LocalView}
use Rattle.slicc_plan.specs.declared.row.Row.{Row}
use Rattle.body_meaning.specs.declared.frame.Known.{Known}
use Rattle.body_meaning.specs.declared.frame.Tried.{Tried}
use Rattle.body_meaning.specs.declared.thing.Trigger.{Trigger}
use Rattle.body_meaning.specs.Prelude.{Trying, is_stall_among, known, waiting, with_known}
use Rattle.scan_steps.specs.declared.halt.Halt.{Halt}
use Rattle.scan_steps.specs.Prelude.{TriesAs, told}
use Rattle.scan_steps.proofs.Tries.{then_halts, then_tries, told_tries_as}
use Rattle.compiled_protocol.specs.Prelude.{MachineCode, room_lacks, row_goes_on, row_tried, unless_waiting}

waits : (k : Known) (b : Bool) (next : Trying Tried) (result : Result Tried Halt) (v w : LocalView) → b ≡ true → TriesAs itself (with_known k waiting) result v w
    → TriesAs itself (unless_waiting k b next) result v w
waits k b next result v w is did = rw is did

goes : (k : Known) (b : Bool) (next : Trying Tried) (result : Result Tried Halt) (v w : LocalView) → b ≡ false → TriesAs itself next result v w
    → TriesAs itself (unless_waiting k b next) result v w
goes k b next result v w is did = rw is did

module _ (c : MachineCode) (t : Trigger) (state : ℕ) (row : Row) (k : Known) (is_known : k ≡ known t (Some state)) (u v : LocalView) (answer : Result Bool Trouble)
    (does : DoesAs itself (room_lacks c row) answer u v) where
  abbrev after : Bool → Trying Tried
  after short = unless_waiting (known t (Some state)) short (unless_waiting (known t (Some state)) (is_stall_among row.actions c.head.stall) (row_goes_on c t state row))

  abbrev Tests : Result Bool Halt → Type 0
  Tests short = TriesAs itself (with_known (known t (Some state)) (room_lacks c row)) short u v

  tested : (short : Result Bool Halt) → short ≡ told k answer → Tests short
  tested short is = told_tries_as itself (known t (Some state)) (room_lacks c row) answer short u v (rw is_known at is) does

  pub row_halts : (e : Halt) (w : LocalView) → Err e ≡ told k answer → TriesAs itself (row_tried c t state row) (Err e) u w
  row_halts e w is = then_halts itself itself (with_known (known t (Some state)) (room_lacks c row)) after e u v w (tested (Err e) is)

  module _ (short : Bool) (is : Ok short ≡ told k answer) (w : LocalView) (result : Result Tried Halt) where
    told_waits : (did : Result Tried Trouble) → result ≡ told k did → DoesAs itself waiting did v w → TriesAs itself (with_known (known t (Some state)) waiting) result v w
    told_waits did same done = told_tries_as itself (known t (Some state)) waiting did result v w (rw is_known at same) done

    then : TriesAs itself (after short) result v w → TriesAs itself (row_tried c t state row) result u w
    then next = then_tries itself itself (with_known (known t (Some state)) (room_lacks c row)) after short result u v w (tested (Ok short) is) next

    pub short_waits : short ≡ true → (did : Result Tried Trouble) → result ≡ told k did → DoesAs itself waiting did v w → TriesAs itself (row_tried c t state row) result u w
    short_waits all did same done = then (waits (known t (Some state)) short _ result v w all (told_waits did same done))

    module _ (no : short ≡ false) (stalls : Bool) (asked : stalls ≡ is_stall_among row.actions c.head.stall) where
      pub stalled_waits : stalls ≡ true → (did : Result Tried Trouble) → result ≡ told k did → DoesAs itself waiting did v w
          → TriesAs itself (row_tried c t state row) result u w
      stalled_waits all did same done =
          then
          (goes (known t (Some state)) short _ result v w no
          (waits (known t (Some state)) (is_stall_among row.actions c.head.stall) _ result v w (sym asked ∙ all) (told_waits did same done)))

      pub row_goes : stalls ≡ false → TriesAs itself (row_goes_on c t state row) result v w → TriesAs itself (row_tried c t state row) result u w
      row_goes not done =
          then
          (goes (known t (Some state)) short _ result v w no
          (goes (known t (Some state)) (is_stall_among row.actions c.head.stall) _ result v w (sym asked ∙ not) done))
