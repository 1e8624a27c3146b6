use Rattle.ctl_face.proofs.Betweens.{answer_keeps, arrival_keeps, begun_keeps, credit_keeps, driver_keeps, driver_mail, fired_keeps, halted_keeps, later_fits, request_keeps, wake_up_keeps}
use Rattle.ctl_face.proofs.laws.acts_between_scans_keep_what_holds.Goals as goal

pub returns : goal.returns
returns c = record {
  arrival = arrival_keeps;
  credit = λ c machine me now ctl. credit_keeps machine me now ctl c;
  wake_up = λ cycle machine me now ctl. wake_up_keeps machine me now ctl cycle;
  later = later_fits;
  cycle = begun_keeps;
  fired = fired_keeps;
  stop = halted_keeps;
  request = λ asked is machine me now ctl. request_keeps machine me now ctl asked is;
  answer = answer_keeps;
  driver = driver_keeps;
  driver_mail = driver_mail;
}
