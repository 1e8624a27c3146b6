-- The definitions that other files name, from one place.
pub use Rattle.action_gen.specs.Heads.{count_of, first_or_none, head_at, heads_from, heads_of, is_checked, is_sent_on, readings_of, root_count, total_of}
pub use Rattle.action_gen.specs.Carries.{Carries, CarriesMachine, DoesAsk, DoesFire, DoesPort, DoesRead, InMachine, IsBody, Same, about_values, answer_end, entered, port_end}
pub use Rattle.action_gen.specs.Serves.{IsTypedFlow, Serves, Sound, SoundAt, SoundHead, TriggersTyped}
