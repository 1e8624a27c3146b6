-- A written transition is stalled where there is no room for its actions or these say so. Else it is found which state it enters, and
-- then it fires.
use Rattle.std.proofs.Common.{◌≡◌, ◌∙◌, ℕ, Bool, true, false, Result, Ok, Err, sym}
use Rattle.ruby_symbols.specs.declared.machine.TransitionSymbol.{TransitionSymbol}
use Rattle.ctl_face.specs.declared.trouble.Trouble.{Trouble}
use Rattle.ctl_face.specs.Prelude.{LocalView}
use Rattle.acts.specs.Prelude.{Acting, ◌>>=◌, either, DoesAs, itself}
use Rattle.acts.proofs.Walk.{false_does, then_does, then_stops, true_does}
use Rattle.body_meaning.specs.Prelude.{Reading, fired, is_stall_among, lacks_room, next_state, row_tried, waiting}
use Rattle.body_meaning.specs.declared.thing.Trigger.{Trigger}
use Rattle.body_meaning.specs.declared.frame.Tried.{Tried}

module _ (s : Reading) (t : Trigger) (state : ℕ) (row : TransitionSymbol) (u v w : LocalView) where
  abbrev shortness : Acting Bool
  shortness = lacks_room s row.actions

  abbrev entered : Acting ℕ
  entered = next_state s t.address state row.next

  abbrev fires : Acting Tried
  fires = entered >>= (λ next. fired s t state next row)

  abbrev unless_stalled : Acting Tried
  unless_stalled = either (is_stall_among row.actions s.machine.stall) waiting fires

  abbrev after : Bool → Acting Tried
  after short = either short waiting unless_stalled

  pub row_stops : (e : Trouble) → DoesAs itself shortness (Err e) u v → DoesAs itself (row_tried s t state row) (Err e) u w
  row_stops e found = then_stops itself itself shortness after e u v w found

  module _ (short : Bool) (found : DoesAs itself shortness (Ok short) u v) (result : Result Tried Trouble) where
    pub short_waits : short ≡ true → DoesAs itself waiting result v w → DoesAs itself (row_tried s t state row) result u w
    short_waits is waits = then_does itself itself shortness after short result u v w found (true_does itself short waiting unless_stalled result v w is waits)

    pub stalled_waits : (stalls : Bool) → stalls ≡ is_stall_among row.actions s.machine.stall → short ≡ false → stalls ≡ true → DoesAs itself waiting result v w
        → DoesAs itself (row_tried s t state row) result u w
    stalled_waits stalls told not_short is waits =
        then_does itself itself shortness after short result u v w found
        (false_does itself short waiting unless_stalled result v w not_short
        (true_does itself (is_stall_among row.actions s.machine.stall) waiting fires result v w (sym told ∙ is) waits))

    module _ (stalls : Bool) (told : stalls ≡ is_stall_among row.actions s.machine.stall) (not_short : short ≡ false) (not_stalled : stalls ≡ false) where
      pub row_goes_on : DoesAs itself fires result v w → DoesAs itself (row_tried s t state row) result u w
      row_goes_on did =
          then_does itself itself shortness after short result u v w found
          (false_does itself short waiting unless_stalled result v w not_short
          (false_does itself (is_stall_among row.actions s.machine.stall) waiting fires result v w (sym told ∙ not_stalled) did))
