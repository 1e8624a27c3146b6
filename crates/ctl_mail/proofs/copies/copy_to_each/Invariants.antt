use Rattle.std.proofs.Common.{◌≡◌, ◌+◌, ◌*◌, List, All, length}
use Rattle.ruby_value.specs.declared.value.Value.{Value}
use Rattle.ctl_mail.specs.Prelude.{mail_of, AreNext, MaySend, actor_of, members_from, HasSpace, AreOf, changed_mail, told_by}
use Rattle.ctl_mail.proofs.Sending.{Progress}
use Rattle.ctl_mail.proofs.copies.copy_to_each.Given as goal

-- the copies to those before this number are made
abbrev pub invariant-loop-clone : goal.invariant-loop-clone
invariant-loop-clone l = record {
  count : length l.clones.items + 1 ≡ length (members_from l.from l.members);
  clones : All (λ (f : List Value). f ≡ l.fn.fields) l.clones.items;
  are : AreOf l.store (told_by l.changes);
  may : MaySend l.me l.initial.changes.cycle (length (members_from l.from l.members)) (changed_mail (mail_of l.store) (told_by l.changes));
  space : HasSpace l.changes (4 * length (members_from l.from l.members)) (length (members_from l.from l.members));
  words : AreNext (actor_of l.me l.seed l.routes) l.changes.counts.drawn l.words;
  cycle : l.changes.cycle ≡ l.initial.changes.cycle;
  progress : Progress (actor_of l.me l.seed l.routes) l.network l.latency l.fn.fields l.initial.changes.cycle (mail_of l.store) (told_by l.initial.changes) (told_by l.changes) l.members (members_from l.from l.members);
}

abbrev pub decreases-loop-clone : goal.decreases-loop-clone
decreases-loop-clone l = length l.clones.items
