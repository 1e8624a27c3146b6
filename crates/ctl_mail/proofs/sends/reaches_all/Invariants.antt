use Rattle.std.proofs.Common.{◌≡◌, ◌≤◌, ◌-◌, ◌^◌, length}
use Rattle.std.specs.List.{list_all}
use Rattle.ctl_mail.specs.Prelude.{is_routed, members_from}
use Rattle.ctl_mail.proofs.sends.reaches_all.Given as goal

-- those that are left decide
abbrev pub invariant-loop-receiver : goal.invariant-loop-receiver
invariant-loop-receiver l = record {
  within : l.from ≤ 2 ^ 32 - 1;
  left : list_all (is_routed l.routes l.network) l.members ≡ list_all (is_routed l.routes l.network) (members_from l.from l.members);
}

abbrev pub decreases-loop-receiver : goal.decreases-loop-receiver
decreases-loop-receiver l = length (members_from l.from l.members)
