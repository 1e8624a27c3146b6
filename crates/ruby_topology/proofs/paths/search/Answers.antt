use Rattle.std.proofs.Common.{◌≡◌, ◌∙◌, None, Some, count_by, fold, length, set, sym, ap, subst, arith}
use Rattle.std.proofs.lemmas.List.{with_items_is}
use Rattle.ruby_topology.specs.declared.paths.Mark.TheVariants.{Settled}
use Rattle.ruby_topology.specs.Prelude.{IsNearest, is_settled, relaxed, sum_at}
use Rattle.ruby_topology.proofs.Searches.{IsSound, searched, settle_keeps, settled_few}
use Rattle.ruby_topology.proofs.paths.search.Goals as goal

pub settle-requires-clause-room : goal.settle-requires-clause-room
settle-requires-clause-room c =
    let m = c.loop-u.marks.items in
    let near : IsNearest m (length m) (Some (c.in-Some.u, c.in-Some.sum)) =
    subst (λ ms. IsNearest ms (length ms) (Some (c.in-Some.u, c.in-Some.sum))) c.deref.ensures.value
    (subst (IsNearest c.deref.result.now (length c.deref.result.now)) c.in-Some.is c.nearest.ensures) in
    let sum = c.loop-u.invariant.bound c.in-Some.u c.in-Some.sum (ap sum_at near.1) in
    let few = settled_few c.args.links.now c.args.total c.args.from m c.loop-u.invariant in
    let most = c.requires.few in
    omega (arith, sum, few, most)

pub loop-u-preserved : goal.loop-u-preserved
loop-u-preserved c =
    let m = c.loop-u.marks.items in
    let u = c.in-Some.u in
    let x = c.in-Some.sum in
    let links = c.args.links.now in
    let near : IsNearest m (length m) (Some (u, x)) =
    subst (λ ms. IsNearest ms (length ms) (Some (u, x))) c.deref.ensures.value
    (subst (IsNearest c.deref.result.now (length c.deref.result.now)) c.in-Some.is c.nearest.ensures) in
    let is : c.settle.new.marks ≡ fold (relaxed u x) (set m u (Settled x)) links =
    c.settle.ensures ∙ ap (λ ms. fold (relaxed u x) (set ms u (Settled x)) links) c.deref_mut.ensures.value in
    let after = settle_keeps links c.args.total c.args.from u x m c.requires.between c.requires.steps c.loop-u.invariant near in
    let sound : IsSound links c.args.total c.args.from c.settle.new.marks = subst (IsSound links c.args.total c.args.from) (sym is) after.sound in
    let all = sound.all in
    let was = c.loop-u.invariant.all in
    let long = c.deref_mut.ensures.len in
    let same = ap length c.deref_mut.ensures.value in
    subst (IsSound links c.args.total c.args.from) (sym (with_items_is c.loop-u.marks c.settle.new.marks (omega (arith, all, was, long, same)))) sound

pub loop-u-smaller : goal.loop-u-smaller
loop-u-smaller c =
    let m = c.loop-u.marks.items in
    let u = c.in-Some.u in
    let x = c.in-Some.sum in
    let links = c.args.links.now in
    let near : IsNearest m (length m) (Some (u, x)) =
    subst (λ ms. IsNearest ms (length ms) (Some (u, x))) c.deref.ensures.value
    (subst (IsNearest c.deref.result.now (length c.deref.result.now)) c.in-Some.is c.nearest.ensures) in
    let is : c.settle.new.marks ≡ fold (relaxed u x) (set m u (Settled x)) links =
    c.settle.ensures ∙ ap (λ ms. fold (relaxed u x) (set ms u (Settled x)) links) c.deref_mut.ensures.value in
    let after = settle_keeps links c.args.total c.args.from u x m c.requires.between c.requires.steps c.loop-u.invariant near in
    let sound : IsSound links c.args.total c.args.from c.settle.new.marks = subst (IsSound links c.args.total c.args.from) (sym is) after.sound in
    let all = sound.all in
    let was = c.loop-u.invariant.all in
    let long = c.deref_mut.ensures.len in
    let same = ap length c.deref_mut.ensures.value in
    let kept = with_items_is c.loop-u.marks c.settle.new.marks (omega (arith, all, was, long, same)) in
    let count = ap (count_by is_settled) kept ∙ ap (count_by is_settled) is ∙ after.count in
    let few = settled_few links c.args.total c.args.from c.settle.new.marks sound in
    let same_count = ap (count_by is_settled) kept in
    omega (arith, count, few, same_count)

pub returns : goal.returns
returns c =
    let m = c.loop-u.marks.items in
    let none : IsNearest m (length m) None =
    subst (λ ms. IsNearest ms (length ms) None) c.deref.ensures.value
    (subst (IsNearest c.deref.result.now (length c.deref.result.now)) c.in_default.is c.nearest.ensures) in
    searched c.args.links.now c.args.total c.args.from m c.loop-u.invariant none
