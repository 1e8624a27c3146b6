use Rattle.std.proofs.Common.{◌≡◌, vec_len, vec_capacity}
use Rattle.ctl_face.specs.Prelude.{one_more}
use Rattle.ctl_mail.proofs.Lends.{mapped_to}
use Rattle.ctl_mail.proofs.lent.raise.Given as goal

-- the counts before this one are raised
abbrev pub invariant-loop-i : goal.invariant-loop-i
invariant-loop-i l = record {
  raised : l.lent.items ≡ mapped_to (one_more l.receiver l.buffer) l.i l.initial.lent.items;
  count : vec_len l.lent ≡ vec_len l.initial.lent;
  room : vec_capacity l.lent ≡ vec_capacity l.initial.lent;
}
