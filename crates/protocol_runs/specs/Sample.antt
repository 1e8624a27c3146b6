-- The smallest protocol whose controllers send each other messages, which shows that the premises of the laws can be met: its
-- scan is made of acts. There are two controllers of one machine. A controller that has a request takes it and sends a message to
-- controller 1, and one to which such a message has come takes that. It is no protocol of use.
use Rattle.std.specs.Prelude.{◌≡◌, ℕ, Bool, true, false, None, Some, List, [], ◌∷◌, map, pos, replicate, Result, Ok, Err, nat_le, if◌then◌else◌}
use Rattle.ruby_value.specs.declared.fault.Fault.{Fault}
use Rattle.ruby_value.specs.declared.kind.Kind.TheVariants as kind
use Rattle.ruby_value.specs.declared.setup.BufferPlace.TheVariants as place
use Rattle.ruby_value.specs.declared.setup.BufferSetup.{BufferSetup}
use Rattle.ruby_value.specs.declared.setup.MachineSetup.{MachineSetup}
use Rattle.ruby_value.specs.declared.setup.TableSize.TheVariants as size
use Rattle.ruby_value.specs.declared.value.Value.TheVariants as value
use Rattle.run_journal.specs.declared.entry.Entry.{Entry}
use Rattle.run_journal.specs.declared.event.Event.{Event}
use Rattle.run_journal.specs.declared.event.Event.TheVariants.{Take, Fire, Done as GivenBack, Turn}
use Rattle.run_journal.specs.declared.verdict.Verdict.TheVariants as verdict
use Rattle.protocol_runs.specs.Account.{consumed_numbers}
use Rattle.protocol_runs.specs.RunRules.{Fired, Full, Idle, Outcome, Rules, Stop}
use Rattle.protocol_runs.specs.Run.{IsRun}
use Rattle.protocol_runs.specs.World.{World}
use Rattle.ctl_face.specs.Prelude.{Ctl, network_count, LocalView}
use Rattle.ctl_face.specs.declared.parcel.Parcel.{Parcel}
use Rattle.ctl_face.specs.declared.routes.Routes.{Routes}
use Rattle.acts.specs.Prelude.{Pop, Ready, Send, Acting, ends, ◌>>=◌, ◌>>◌, act, either, run, Done}
use Rattle.sequencer.specs.Prelude.{plain_drive}
use Rattle.protocol_runs.specs.Meaning.{Meaning, acts_told}
use Rattle.protocol_runs.specs.Requests.{request_kinds}
use Rattle.protocol_runs.specs.Rules.{rules}
use Rattle.protocol_runs.specs.Setting.{Setting}

-- the requests, what goes to the network, and what comes from there
abbrev pub sample_buffers : List BufferSetup
sample_buffers =
    record { place = place.Local; ordered = false; kinds = request_kinds }
    ∷ record { place = place.To 0 (Some 0); ordered = false; kinds = kind.Dest ∷ [] }
    ∷ record { place = place.From 0; ordered = false; kinds = kind.Dest ∷ [] }
    ∷ []

abbrev pub sample_machine : MachineSetup
sample_machine = record {
  tables = record { size = size.Parameters; structure = 0; kinds = []; initial = [] } ∷ [];
  buffers = sample_buffers;
  default_state = None;
  has_sequencer = false;
}

abbrev pub sample_routes : Routes
sample_routes = record {
  paths = (0 ∷ 1 ∷ []) ∷ (1 ∷ 0 ∷ []) ∷ [];
  jitter = 0;
  ordered = replicate network_count false;
  receiving = replicate 2 (Some 2 ∷ replicate 15 None);
  slots = [];
}

-- a scan as a body, which answers whether it fires
unfoldable pub taking : Acting Bool
taking =
    act (Ready 0)
    >>= (λ asked. either asked
    (act (Pop 0) >> act (Send 1 (pos 1) (value.Dest (1 ∷ []) ∷ [])) >> ends true)
    (act (Ready 2) >>= (λ came. either came (act (Pop 2) >> ends true) (ends false))))

-- by what the body came to
abbrev pub outcome_of : LocalView → Result (Done Bool) Fault → Outcome Ctl Parcel
outcome_of v (Ok d) =
    if d.value
    then Fired (record { address = 0; state = 0; event = 0; next = 0 }) (acts_told d.view.acts) d.view.acts.posted d.view.ctl
    else Idle v.ctl
outcome_of v (Err fault) = Stop (record { address = None; state = None; event = None; fault = fault })

abbrev pub sample : Meaning
sample = record {
  scan = λ machine v limit. record {
    outcome = if nat_le limit v.ctl.fired then Full else outcome_of v (run taking v);
    tried = [];
  };
  has_row = λ machine state event. true;
}

-- two controllers, and the plain driver with one request at controller 0
abbrev pub sample_setting : Setting ℕ
sample_setting = record {
  machines = sample_machine ∷ [];
  ranges = (0, 2) ∷ [];
  routes = sample_routes;
  seed = 0;
  cycles = 10;
  limit = 1;
  seats = record { controller = 0; has_sequencer = false; queue = 0 } ∷ [];
  driver = 1;
}

abbrev pub sample_rules : Rules Ctl Parcel ℕ
sample_rules = rules sample plain_drive sample_setting

-- the request comes to controller 0 in cycle 1, whose message comes to controller 1 in cycle 3
abbrev pub sample_history : List Event
sample_history =
    Turn 0
    ∷ Take 0 0 ∷ Fire 0 0 ∷ GivenBack 0 0 ∷ Turn 0
    ∷ Take 0 0 ∷ GivenBack 0 0 ∷ Turn 0
    ∷ Take 0 1 ∷ Fire 0 1 ∷ GivenBack 0 1 ∷ Turn 0
    ∷ Take 0 1 ∷ GivenBack 0 1 ∷ Turn 0
    ∷ []

pub record IsSampleRun (w : World Ctl ℕ) (journal : List Entry) : Type 0 where
  pub is_run : IsRun sample_rules sample_history w journal
  pub consumed : consumed_numbers journal ≡ map (λ (sender : ℕ). record { sender = sender; count = 0 }) (2 ∷ 0 ∷ [])
  pub ends : w.verdict ≡ Some (verdict.Quiet 4)
