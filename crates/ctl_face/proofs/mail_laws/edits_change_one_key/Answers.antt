use Rattle.ctl_face.proofs.OneKey.{changed_message-contains, marks_from-has, set_state-at, with_mark-has, with_message-contains, without_message-contains}
use Rattle.ctl_face.proofs.mail_laws.edits_change_one_key.Goals as goal

pub returns : goal.returns
returns c = record {
  mark = with_mark-has;
  marks_from = marks_from-has;
  put = with_message-contains;
  taken = without_message-contains;
  changed = changed_message-contains;
  state = set_state-at;
}
