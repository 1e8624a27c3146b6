use Rattle.std.proofs.Common.{◌∙◌, ap, length, refl, arith}
use Rattle.run_journal.specs.Listed.{start_of}
use Rattle.run_journal.proofs.ListedLists.{length-between, k-ends, from-to, to-within, list-there}
use Rattle.run_journal.proofs.lists.Lists.at.Goals as goal

pub start_of-requires : goal.start_of-requires
start_of-requires g c =
    k-ends c.self.inside.ends.kept c.self.inside.items.kept c.args.self.now.lists c.args.place (start_of 0 c.self.inside.ends.kept c.args.place) _ c.self.invariant
    (ap (λ l. l.lists) c.self.view_is) c.requires refl refl

pub at-requires : goal.at-requires
at-requires g c =
    k-ends c.self.inside.ends.kept c.self.inside.items.kept c.args.self.now.lists c.args.place (start_of 0 c.self.inside.ends.kept c.args.place) _ c.self.invariant
    (ap (λ l. l.lists) c.self.view_is) c.requires refl refl

pub part-requires-clause-from : goal.part-requires-clause-from
part-requires-clause-from g c =
    from-to c.self.inside.ends.kept c.self.inside.items.kept c.args.self.now.lists c.args.place c.start_of.result c.at.result.now c.self.invariant
    (ap (λ l. l.lists) c.self.view_is) c.requires c.start_of.ensures (c.at.ensures.value 0)

pub part-requires-clause-to : goal.part-requires-clause-to
part-requires-clause-to g c =
    to-within c.self.inside.ends.kept c.self.inside.items.kept c.args.self.now.lists c.args.place c.start_of.result c.at.result.now c.self.invariant
    (ap (λ l. l.lists) c.self.view_is) c.requires c.start_of.ensures (c.at.ensures.value 0)

pub returns-clause-value : goal.returns-clause-value
returns-clause-value g c =
    c.part.ensures
    ∙ list-there c.self.inside.ends.kept c.self.inside.items.kept c.args.self.now.lists c.args.place c.start_of.result c.at.result.now c.self.invariant
    (ap (λ l. l.lists) c.self.view_is) c.requires c.start_of.ensures (c.at.ensures.value 0)

pub returns-clause-few : goal.returns-clause-few
returns-clause-few g c =
    let count = length-between 0 c.self.inside.ends.kept c.self.inside.items.kept in
    let same = ap (λ l. length l.lists) c.self.view_is in
    omega (arith, count, same, c.at.ensures.few)
