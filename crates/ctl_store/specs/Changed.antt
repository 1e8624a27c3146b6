-- What the changes of a scan make of the controller that it began with. The view of a draft and the store that its changes were
-- applied to are both this. Changes that finish requests fit a controller where each of these requests is outstanding at
-- its turn, as in the controller that they are changes of.
use Rattle.std.specs.Prelude.{◌≡◌, Option, None, Some, List, []}
use Rattle.std.specs.Option.{option_map}
use Rattle.ruby_value.specs.declared.asked.Answer.{Answer}
use Rattle.ruby_value.specs.Prelude.{with_all, Requests}
use Rattle.ctl_face.specs.Prelude.{Acts, Ctl}
use Rattle.ctl_mail.specs.Prelude.{CopiesFit, changed_mail, told_by}
use Rattle.ctl_tables.specs.Prelude.{after_changes, log_of, state_log_of}
use Rattle.sequencer.specs.Prelude.{FitCallbacks, after_callbacks}
use Rattle.ctl_store.specs.declared.changes.Changes.{Changes}

abbrev pub after_calls : List Answer → Option Requests → Option Requests
after_calls calls o = option_map (after_callbacks calls) o

abbrev pub FitCalls : List Answer → Option Requests → Type 0
FitCalls calls None = calls ≡ []
FitCalls calls (Some r) = FitCallbacks calls r

abbrev pub changed_ctl : Changes → Ctl → Ctl
changed_ctl changes ctl = record ctl {
  tables = after_changes (log_of changes.tables) ctl.tables;
  states = with_all ctl.states (state_log_of changes.tables);
  mail = changed_mail ctl.mail (told_by changes.mail);
  sequencer = after_calls changes.calls ctl.sequencer;
}

-- what the acts of the scan have done to messages
abbrev pub acts_of : Changes → Acts
acts_of changes = (told_by changes.mail).acts

-- The changes can be made in a controller: each message that comes in has a new number, no count overflows, and each request that
-- is finished is outstanding. So it is in the controller that they are changes of.
pub record FitChanges (changes : Changes) (ctl : Ctl) : Type 0 where
  pub copies : CopiesFit ctl.mail (told_by changes.mail)
  pub calls : FitCalls changes.calls ctl.sequencer
