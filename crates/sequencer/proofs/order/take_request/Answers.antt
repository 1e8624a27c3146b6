use Rattle.std.proofs.Common.{◌<◌, arith, length, subst, ap, ◌∙◌}
use Rattle.sequencer.specs.Prelude.{outstanding_of, IsPlaceOf}
use Rattle.sequencer.proofs.Lines.{at-place, outstanding-remove, request-taken}
use Rattle.sequencer.proofs.order.take_request.Goals as goal

pub remove-requires : goal.remove-requires
remove-requires c =
    let xs = c.args.requests.now.items in
    let place : IsPlaceOf xs c.args.line c.place_of-at.result = subst (λ ys. IsPlaceOf ys c.args.line c.place_of-at.result) c.deref.ensures.value c.place_of-at.ensures in
    let lt : c.place_of-at.result < length xs = (at-place xs c.args.line c.place_of-at.result c.requires.kept.ascend place c.requires.there).0 in
    omega (arith, lt, c.deref.ensures.len, ap length c.deref.ensures.value)

pub returns-clause-value : goal.returns-clause-value
returns-clause-value c =
    let xs = c.args.requests.now.items in
    let place : IsPlaceOf xs c.args.line c.place_of-at.result = subst (λ ys. IsPlaceOf ys c.args.line c.place_of-at.result) c.deref.ensures.value c.place_of-at.ensures in
    let here = at-place xs c.args.line c.place_of-at.result c.requires.kept.ascend place c.requires.there in
    request-taken xs c.args.line c.place_of-at.result c.remove.result place here.0 here.1 c.remove.ensures.value

pub returns-clause-after : goal.returns-clause-after
returns-clause-after c =
    let xs = c.args.requests.now.items in
    let place : IsPlaceOf xs c.args.line c.place_of-at.result = subst (λ ys. IsPlaceOf ys c.args.line c.place_of-at.result) c.deref.ensures.value c.place_of-at.ensures in
    let here = at-place xs c.args.line c.place_of-at.result c.requires.kept.ascend place c.requires.there in
    ap outstanding_of c.remove.ensures.items ∙ outstanding-remove xs c.args.line c.place_of-at.result c.requires.kept.ascend place here.0 here.1
