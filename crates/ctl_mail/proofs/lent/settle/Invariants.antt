use Rattle.std.proofs.Common.{◌≡◌, vec_len, vec_capacity}
use Rattle.ctl_face.specs.Prelude.{settled}
use Rattle.ctl_mail.proofs.Lends.{mapped_to}
use Rattle.ctl_mail.proofs.lent.settle.Given as goal

-- the counts before this one are settled
abbrev pub invariant-loop-i : goal.invariant-loop-i
invariant-loop-i l = record {
  settled : l.lent.items ≡ mapped_to (settled l.credits l.now) l.i l.initial.lent.items;
  count : vec_len l.lent ≡ vec_len l.initial.lent;
  room : vec_capacity l.lent ≡ vec_capacity l.initial.lent;
}
