use Rattle.std.proofs.Common.{◌≡◌, ◌∙◌, true, false, codes, pos, Ok, Err, refl, sym, ap}
use Rattle.std.specs.Str.{bytes_eq}
use Rattle.ruby_value.specs.declared.value.Value.TheVariants as value
use Rattle.ruby_value.specs.declared.fault.Fault.TheVariants.{Reference}
use Rattle.acts.specs.declared.body_fault.BodyFault.TheVariants as own
use Rattle.acts.specs.Prelude.{either, ends, stops, itself}
use Rattle.acts.proofs.Walk.{does_ends_as, does_stops, false_does, true_does}
use Rattle.body_meaning.specs.declared.thing.Thing.TheVariants as thing
use Rattle.body_meaning.specs.Prelude.{own_number}
use Rattle.body_walk.proofs.built.named_everywhere.Goals as goal

pub returns-then-eq-2 : goal.returns-then-eq-2
returns-then-eq-2 g c =
    let name = c.args.name.now in
    let v = g.T.Local.view c.args.local.now in
    let ten = thing.Value (value.Int (pos 10)) in
    let other : bytes_eq name (codes "machineID") ≡ false = sym (c.eq.ensures ∙ ap (λ xs. bytes_eq name xs) c.as_slice.ensures) ∙ c.if-eq.false in
    let is : bytes_eq name (codes "recycle_latency") ≡ true = sym (c.eq-2.ensures ∙ ap (λ xs. bytes_eq name xs) c.as_slice-2.ensures) ∙ c.if-eq-2.true in
    false_does itself (bytes_eq name (codes "machineID")) own_number (either (bytes_eq name (codes "recycle_latency")) (ends ten) (stops own.Reference)) (Ok ten) v v other
    (true_does itself (bytes_eq name (codes "recycle_latency")) (ends ten) (stops own.Reference) (Ok ten) v v is (does_ends_as itself ten ten v refl))

pub returns : goal.returns
returns g c =
    let name = c.args.name.now in
    let v = g.T.Local.view c.args.local.now in
    let ten = thing.Value (value.Int (pos 10)) in
    let other : bytes_eq name (codes "machineID") ≡ false = sym (c.eq.ensures ∙ ap (λ xs. bytes_eq name xs) c.as_slice.ensures) ∙ c.if-eq.false in
    let more : bytes_eq name (codes "recycle_latency") ≡ false = sym (c.eq-2.ensures ∙ ap (λ xs. bytes_eq name xs) c.as_slice-2.ensures) ∙ c.if-eq-2.false in
    rw c.from.ensures
    (false_does itself (bytes_eq name (codes "machineID")) own_number (either (bytes_eq name (codes "recycle_latency")) (ends ten) (stops own.Reference)) (Err _) v v other
    (false_does itself (bytes_eq name (codes "recycle_latency")) (ends ten) (stops own.Reference) (Err _) v v more (does_stops itself own.Reference Reference v v refl)))
