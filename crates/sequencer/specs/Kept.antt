-- What always holds of the lists in which a sequencer keeps its requests and answers, with the places that they have in memory:
-- there is room for so many more requests, and for an answer to each request.
use Rattle.std.specs.Prelude.{ℕ, ◌+◌, ◌≤◌, ◌<◌, List, length}
use Rattle.std.specs.List.{All, AllPairs}
use Rattle.ruby_value.specs.declared.asked.Answer.{Answer}
use Rattle.ruby_value.specs.declared.asked.Asked.{Asked}
use Rattle.ruby_value.specs.Prelude.{IsRequest}

abbrev pub ComesBefore : Asked → Asked → Type 0
ComesBefore a b = a.line < b.line

abbrev pub NoLater : Answer → Answer → Type 0
NoLater a b = a.asked.line ≤ b.asked.line

abbrev pub IsAnswer : Answer → Type 0
IsAnswer a = IsRequest a.asked

pub record AreRequests (items : List Asked) : Type 0 where
  pub ascend : AllPairs ComesBefore items
  pub each : All IsRequest items

pub record AreAnswers (items : List Answer) : Type 0 where
  pub ascend : AllPairs NoLater items
  pub each : All IsAnswer items

pub record IsKept (requests : List Asked) (places : ℕ) (answers : List Answer) (answer_places more : ℕ) : Type 0 where
  pub requests_fit : AreRequests requests
  pub answers_fit : AreAnswers answers
  pub room : length requests + more ≤ places
  pub answer_room : length requests + more + length answers ≤ answer_places
