-- The definitions that other files name, from one place.
pub use Rattle.statement_rules.specs.Bindings.{IsGrown, at}
pub use Rattle.statement_rules.specs.Elses.{else_if_judged}
