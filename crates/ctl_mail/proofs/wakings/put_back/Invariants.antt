use Rattle.std.proofs.Common.{vec_len}
use Rattle.ctl_mail.proofs.Backs.{IsPutBack}
use Rattle.ctl_mail.proofs.wakings.put_back.Given as goal

abbrev pub invariant-loop-m : goal.invariant-loop-m
invariant-loop-m l = IsPutBack l.initial.buffers.items l.buffers.items l.initial.woken.items l.woken.items

abbrev pub decreases-loop-m : goal.decreases-loop-m
decreases-loop-m l = vec_len l.woken
