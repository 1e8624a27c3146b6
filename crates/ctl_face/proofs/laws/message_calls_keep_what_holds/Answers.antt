use Rattle.ctl_face.proofs.ActsKept.{enqueue_acts, pop_acts, read_acts, recycle_acts, stall_acts, wake_acts, write_acts}
use Rattle.ctl_face.proofs.Callbacks.{read_back_keeps, write_back_keeps}
use Rattle.ctl_face.proofs.LawfulAfter.{lawful_after, own_below}
use Rattle.ctl_face.proofs.MailKept.{pop_keeps, stall_keeps, wake_keeps, wake_all_keeps, recycle_keeps, again_keeps}
use Rattle.ctl_face.proofs.Sendings.{enqueue_keeps}
use Rattle.ctl_face.proofs.laws.message_calls_keep_what_holds.Goals as goal

pub returns : goal.returns
returns c = record {
  pop = λ buffer v after lawful. lawful_after _ (pop_keeps v buffer lawful.scan) (pop_acts v lawful.acts lawful.scan.fits.mail.inbox_ascends buffer) after;
  stall = λ buffer line is v after lawful. lawful_after _ (stall_keeps v buffer line is lawful.scan) (stall_acts v lawful.acts buffer line) after;
  wake = λ line v lawful. record { scan = wake_keeps v line lawful.scan; acts = wake_acts v lawful.acts _ };
  wake_all = λ v lawful. record { scan = wake_all_keeps v lawful.scan; acts = wake_acts v lawful.acts _ };
  recycle = λ buffer latency v after lawful. lawful_after _ (recycle_keeps v buffer latency lawful.scan) (recycle_acts v lawful.acts buffer latency) after;
  enqueue = λ buffer latency fields v after here lawful.
      lawful_after _ (enqueue_keeps v buffer latency fields here lawful.scan) (enqueue_acts v buffer latency fields here (own_below v lawful.scan) lawful.acts) after;
  read_back = λ line block v after lawful. lawful_after _ (read_back_keeps v line block lawful.scan) (read_acts v lawful.acts line block) after;
  write_back = λ line block v after lawful. lawful_after _ (write_back_keeps v line block lawful.scan) (write_acts v lawful.acts line block) after;
  again = λ v lawful. record { scan = again_keeps v lawful.scan; acts = lawful.acts };
}
