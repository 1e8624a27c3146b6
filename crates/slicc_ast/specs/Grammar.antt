-- A grammar as a table: for each form its alternatives, each of which is a row of parts. The forms are a type of the
-- table's own. What a form begins with, what it could go on with where it may end, and whether it may be empty stand
-- beside the alternatives; specs/Predictive.antt says when these agree with them.
use Rattle.std.specs.Prelude.{ℕ, suc, Bool, true, false, ◌&&◌, cond, List, [], ◌++◌}

-- parts one after another; each has behind it the parts that follow
pub data Row (F : Type 0) : Type 0 where
  -- nothing more
  done : Row F
  -- a token of one of these kinds
  token : List ℕ → Row F → Row F
  -- a form, by one of its alternatives
  form : F → Row F → Row F
  -- the first parts, or nothing
  maybe : Row F → Row F → Row F
  -- the first parts, any number of times
  many : Row F → Row F → Row F
  -- a token of one of these kinds, which opens a nesting, and the first parts, behind which the nesting ends
  nested : List ℕ → Row F → Row F → Row F

-- rows one after another, behind a row that is being read; `up` is a row before which a nesting ends
pub data Rows (F : Type 0) : Type 0 where
  end : Rows F
  next : Row F → Rows F → Rows F
  up : Row F → Rows F → Rows F

pub record Grammar (F : Type 0) : Type 0 where
  pub alternatives : F → List (Row F)
  -- the kinds of the tokens that a form can begin with
  pub first : F → List ℕ
  -- the kinds of the tokens with which a form could go on at a place where it may end
  pub further : F → List ℕ
  pub may_be_empty : F → Bool
  -- the kinds of the tokens that open a nesting wherever they stand, also where the grammar doesn't allow them
  pub openers : List ℕ

-- how many nestings end in the rows
abbrev pub nestings_of : {F : Type 0} → Rows F → ℕ
nestings_of end = 0
nestings_of (next row rows) = nestings_of rows
nestings_of (up row rows) = suc (nestings_of rows)

-- a row can be of no token
abbrev pub is_nullable : {F : Type 0} → Grammar F → Row F → Bool
is_nullable g done = true
is_nullable g (token kinds row) = false
is_nullable g (form n row) = g.may_be_empty n && is_nullable g row
is_nullable g (maybe part row) = is_nullable g row
is_nullable g (many part row) = is_nullable g row
is_nullable g (nested kinds part row) = false

-- the kinds that a row can begin with
abbrev pub first_of : {F : Type 0} → Grammar F → Row F → List ℕ
first_of g done = []
first_of g (token kinds row) = kinds
first_of g (form n row) = g.first n ++ cond (g.may_be_empty n) (first_of g row) []
first_of g (maybe part row) = first_of g part ++ first_of g row
first_of g (many part row) = first_of g part ++ first_of g row
first_of g (nested kinds part row) = kinds

-- the kinds with which a row could go on at a place where it may end
abbrev pub further_of : {F : Type 0} → Grammar F → Row F → List ℕ
further_of g done = []
further_of g (token kinds row) = further_of g row
further_of g (form n row) = cond (is_nullable g row) (g.further n) [] ++ further_of g row
further_of g (maybe part row) = cond (is_nullable g row) (first_of g part ++ further_of g part) [] ++ further_of g row
further_of g (many part row) = cond (is_nullable g row) (first_of g part ++ further_of g part) [] ++ further_of g row
further_of g (nested kinds part row) = cond (is_nullable g row) (further_of g part) [] ++ further_of g row
