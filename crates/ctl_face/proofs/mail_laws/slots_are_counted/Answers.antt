use Rattle.ctl_face.proofs.Credits.{credit_counted, credits_in_any_order, lent_counted, settled_leaves_free}
use Rattle.ctl_face.proofs.mail_laws.slots_are_counted.Goals as goal

pub returns : goal.returns
returns c = record { lent = lent_counted; credit = credit_counted; order = credits_in_any_order; settled = settled_leaves_free }
