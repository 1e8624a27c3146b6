-- The requests of a sequencer: those that are outstanding, by line, and the finished answers that nobody has taken yet. That
-- one line has at most one outstanding request is this project's own.
use Rattle.std.specs.Prelude.{◌≡◌, ◌+◌, ◌≤◌, ℕ, Option, None, Some, IfSome, List, [], ◌∷◌, ◌++◌, nat_le, nat_lt, refl}
use Rattle.std.specs.Coded.{Coded, code_by, coded×, coded_ℕ, coded_list}
use Rattle.std.specs.FinMap as map
use Rattle.std.specs.List.{All, AllPairs, filter}
use Rattle.std.specs.Ordering.{nat_cmp}
use Rattle.ruby_value.specs.declared.asked.Answer.{Answer}
use Rattle.ruby_value.specs.declared.asked.Asked.{Asked}
use Rattle.ruby_value.specs.contracts.asked.Answer as answer
use Rattle.ruby_value.specs.contracts.asked.Asked as asked
use Rattle.ruby_value.specs.Lines.{IsLine}

-- at most one outstanding request for a line; the finished answers by ascending line, and those of one line in the order in
-- which they were finished
pub record Requests : Type 0 where
  pub outstanding : map.FinMap nat_cmp Asked
  pub finished : List Answer

-- it is stored as the pair of its two parts
abbrev pub requests_code : Coded Requests
requests_code =
    code_by (map.FinMap nat_cmp Asked × List Answer) (coded× (map.code coded_ℕ asked.the_row.coded) (coded_list answer.the_row.coded)) (λ r. (r.outstanding, r.finished)) (λ p. record { outstanding = p.0; finished = p.1 }) (λ _. refl)

-- bytes of one line are asked for, at least one
pub record IsRequest (a : Asked) : Type 0 where
  pub line : IsLine a.line
  pub some_bytes : 1 ≤ a.size
  pub within : a.offset + a.size ≤ 64

abbrev pub no_requests : Requests
no_requests = record { outstanding = map.empty; finished = [] }

-- the outstanding request of a line
abbrev pub request_for : Requests → ℕ → Option Asked
request_for r line = map.get r.outstanding line

-- what always holds of a sequencer's requests: each is under its line, it and each answer asks for bytes of one line, and the
-- lines of the answers ascend
pub record FitsRequests (r : Requests) : Type 0 where
  pub outstanding : (line : ℕ) → IfSome (request_for r line) (λ (a : Asked). (a.line ≡ line) × IsRequest a)
  pub finished : All (λ (a : Answer). IsRequest a.asked) r.finished
  pub finished_ascend : AllPairs (λ (a b : Answer). a.asked.line ≤ b.asked.line) r.finished

-- a request of a line that has none outstanding goes under its line
abbrev pub with_request : Requests → Asked → Requests
with_request r asked = record r { outstanding = map.insert r.outstanding asked.line asked }

-- the answers with one more, after those of its line
abbrev pub with_answer : List Answer → Answer → List Answer
with_answer answers a =
    filter (λ (o : Answer). nat_le o.asked.line a.asked.line) answers
    ++ a ∷ filter (λ (o : Answer). nat_lt a.asked.line o.asked.line) answers

-- the request of a line has its answer
abbrev pub requests_with_answer : Requests → ℕ → Answer → Requests
requests_with_answer r line a = record { outstanding = map.remove r.outstanding line; finished = with_answer r.finished a }

-- the answer that is taken first, which is one of the least line, and of that line's the one that was finished first
abbrev pub first_of : {X : Type 0} → List X → Option X
first_of [] = None
first_of (a ∷ rest) = Some a

abbrev pub rest_of : {X : Type 0} → List X → List X
rest_of [] = []
rest_of (a ∷ rest) = rest

abbrev pub without_first_answer : Requests → Requests
without_first_answer r = record r { finished = rest_of r.finished }
