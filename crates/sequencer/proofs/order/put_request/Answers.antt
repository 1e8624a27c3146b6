use Rattle.std.proofs.Common.{List, sym, subst, ap, ◌∙◌}
use Rattle.ruby_value.specs.declared.asked.Asked.{Asked}
use Rattle.sequencer.specs.Prelude.{AreRequests, outstanding_of, IsPlaceOf}
use Rattle.sequencer.proofs.Lines.{requests-with, outstanding-insert}
use Rattle.sequencer.proofs.order.put_request.Goals as goal

pub returns-clause-kept : goal.returns-clause-kept
returns-clause-kept c =
    let xs = c.args.requests.now.items in
    let place : IsPlaceOf xs c.args.a.line c.place_of-at.result = subst (λ ys. IsPlaceOf ys c.args.a.line c.place_of-at.result) c.deref.ensures.value c.place_of-at.ensures in
    subst AreRequests (sym {A = List Asked} c.in-Ok.ensures.items)
    (requests-with xs c.args.a c.place_of-at.result c.requires.kept c.requires.request place c.requires.none)

pub returns-clause-after : goal.returns-clause-after
returns-clause-after c =
    let xs = c.args.requests.now.items in
    let place : IsPlaceOf xs c.args.a.line c.place_of-at.result = subst (λ ys. IsPlaceOf ys c.args.a.line c.place_of-at.result) c.deref.ensures.value c.place_of-at.ensures in
    ap outstanding_of c.in-Ok.ensures.items ∙ outstanding-insert xs c.args.a c.place_of-at.result place
