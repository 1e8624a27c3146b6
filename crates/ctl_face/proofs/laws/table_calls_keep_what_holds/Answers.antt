use Rattle.ctl_face.proofs.ActsKept.{changed_acts}
use Rattle.ctl_face.proofs.Callbacks.{set_state_keeps}
use Rattle.ctl_face.proofs.LawfulAfter.{lawful_after}
use Rattle.ctl_face.proofs.TableCalls.{set_keeps, allocate_keeps, deallocate_keeps, touch_keeps}
use Rattle.ctl_face.proofs.laws.table_calls_keep_what_holds.Goals as goal

pub returns : goal.returns
returns c = record {
  set = λ r field value is v after takes lawful. lawful_after _ (set_keeps v r field value takes is lawful.scan) (changed_acts v lawful.acts r.table _) after;
  allocate = λ table line is v after lawful. lawful_after _ (allocate_keeps v table line is lawful.scan) (changed_acts v lawful.acts table _) after;
  deallocate = λ table line v after lawful. lawful_after _ (deallocate_keeps v table line lawful.scan) (changed_acts v lawful.acts table _) after;
  touch = λ table line v after lawful. lawful_after _ (touch_keeps v table line lawful.scan) (changed_acts v lawful.acts table _) after;
  set_state = λ v line state has is lawful. record { scan = set_state_keeps v line state has is lawful.scan; acts = lawful.acts };
}
