-- The definitions that other files name, from one place.
pub use Rattle.schedule_laws.specs.Acts.{DifferInNumbers, ArrivalsSwap, act, act_by, act_entry, acted, acted_by, entry_by}
pub use Rattle.schedule_laws.specs.Answers.{AnswerAlike, IsEveryAnswer, IsOne}
pub use Rattle.schedule_laws.specs.Exchange.{ActsAreEvents, ActsExchange, IsExchanged, act_events, after_copies, place_after}
