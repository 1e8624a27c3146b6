-- What a scan of a controller does. Where it has fired as many transitions in this cycle as it may, it is full. Else the bodies of its
-- in ports are done in the order of the text, each to its end or to its `trigger`, and the first that fires a transition ends the
-- scan; one that stalls doesn't. A fault stops it. A scan that fires no transition leaves the controller as it was, but that it wakes
-- in the next cycle where a transition was stalled; one that stops leaves it as it was.
use Rattle.std.specs.Prelude.{ℕ, Option, None, Some, List, [], ◌∷◌, Result, Ok, Err, nat_le, slice_get, if◌then◌else◌}
use Rattle.slicc_ast.specs.declared.tree.machine.Decl.{Decl}
use Rattle.slicc_ast.specs.declared.tree.machine.Decl.TheVariants.{InPort}
use Rattle.slicc_ast.specs.declared.tree.statement.Block.{Block}
use Rattle.ruby_symbols.specs.declared.machine.PortSymbol.{PortSymbol}
use Rattle.run_journal.specs.declared.entry.StopAt.{StopAt}
use Rattle.ctl_face.specs.Prelude.{again, LocalView}
use Rattle.acts.specs.declared.body_fault.BodyFault.TheVariants as own
use Rattle.acts.specs.Prelude.{Acting, ends as ends_body, ◌>>=◌, found, Done}
use Rattle.body_meaning.specs.declared.frame.Flow.{Flow}
use Rattle.body_meaning.specs.declared.frame.Flow.TheVariants.{Triggered}
use Rattle.body_meaning.specs.Reading.{Reading}
use Rattle.body_meaning.specs.Bodies.{calls_of}
use Rattle.body_meaning.specs.Frames.{Ended}
use Rattle.body_meaning.specs.Statements.{all_done}
use Rattle.body_meaning.specs.declared.frame.RoundEnd.{RoundEnd}
use Rattle.body_meaning.specs.declared.frame.RoundEnd.TheVariants.{Fired, Idle, Full, Stop}
use Rattle.body_meaning.specs.declared.frame.Tried.{Tried}
use Rattle.body_meaning.specs.declared.frame.Tried.TheVariants.{Waits, Fires}
use Rattle.body_meaning.specs.Transition.{try}
use Rattle.body_meaning.specs.Trying.{Pair, Trying, ends, nothing_known, pairs_of, run_scan, then_try, with_known}

abbrev pub port_block : Option Decl → Option Block
port_block (Some (InPort p)) = Some p.body
port_block _ = None

-- the body of a port, with nothing of its own as it begins
abbrev pub port_done : Reading → PortSymbol → Acting Flow
port_done s p =
    found own.Reference (port_block (slice_get s.tree.declarations p.declaration))
    >>= (λ (b : Block). all_done s (calls_of s) b.statements (record { names = []; about = None }) >>= (λ (e : Ended). ends_body e.flow))

abbrev pub after_port : Reading → Flow → Trying Tried
after_port s (Triggered t) = try s t
after_port s _ = ends Waits

-- A port that triggers nothing passes, as one whose transition is stalled.
abbrev pub port_tried : Reading → PortSymbol → Trying Tried
port_tried s p = then_try (with_known nothing_known (port_done s p)) (after_port s)

abbrev pub unless_fired : Trying Tried → Tried → Trying Tried
unless_fired next (Fires note) = ends (Fires note)
unless_fired next Waits = next

abbrev pub ports_tried : Reading → List PortSymbol → Trying Tried
ports_tried s [] = ends Waits
ports_tried s (p ∷ ps) = then_try (port_tried s p) (unless_fired (ports_tried s ps))

-- how a scan ends, and the local that it leaves
pub record Scanned : Type 0 where
  pub end : RoundEnd
  pub view : LocalView

-- as it was, but for the mark of a stall
abbrev pub left_idle : LocalView → LocalView → LocalView
left_idle before after = if after.acts.again then again before else before

abbrev pub by_try : LocalView → Tried → LocalView → Scanned
by_try v (Fires note) w = record { end = Fired note; view = w }
by_try v Waits w = record { end = Idle; view = left_idle v w }

abbrev pub by_outcome : LocalView → Result (Done Tried) StopAt → Scanned
by_outcome v (Err at) = record { end = Stop at; view = v }
by_outcome v (Ok d) = by_try v d.value d.view

-- of a controller that has fired this many transitions in this cycle and may fire so many
abbrev pub scan : Reading → (limit fired_before : ℕ) → LocalView → Scanned
scan s limit fired_before v =
    if nat_le limit fired_before then (record { end = Full; view = v })
    else by_outcome v (run_scan (ports_tried s s.machine.in_ports) v)

-- the pairs of a state and an event that it looks up among the written transitions, in this order
abbrev pub pairs_tried : Reading → (limit fired_before : ℕ) → LocalView → List Pair
pairs_tried s limit fired_before v =
    if nat_le limit fired_before then [] else pairs_of (ports_tried s s.machine.in_ports) v
