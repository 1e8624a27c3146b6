use Rattle.std.proofs.Common.{◌∙◌, ap, ◌++◌, ◌∷◌, []}
use Rattle.run_journal.proofs.ListedLists.{pushed-ends, pushed-lists}
use Rattle.run_journal.proofs.lists.Lists.push.Goals as goal

pub invariant_of-self : goal.invariant_of-self
invariant_of-self g c =
    pushed-ends c.self.inside.ends.kept c.push.new.self.kept c.self.inside.items.kept c.args.list.now c.append.new.self.kept c.len.result c.self.invariant
    c.append.ensures.after c.len.ensures c.push.ensures.after

pub returns-clause-after : goal.returns-clause-after
returns-clause-after g c =
    pushed-lists c.self.inside.ends.kept c.push.new.self.kept c.self.inside.items.kept c.args.list.now c.append.new.self.kept c.len.result c.self.invariant
    c.append.ensures.after c.len.ensures c.push.ensures.after
    ∙ ap (λ l. l.lists ++ c.args.list.now ∷ []) c.self.view_is
