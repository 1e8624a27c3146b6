-- The definitions that other files name, from one place.
pub use Rattle.statement_walk.specs.Parts.{done_in, made_and_sent, others_of, others_of_if, otherwise_of, sent_on, viewed}
pub use Rattle.statement_walk.specs.Few.{HasFew}
pub use Rattle.statement_walk.specs.Spending.{count_of, else_if_names, one_less, passes, pick, spend, spent}
