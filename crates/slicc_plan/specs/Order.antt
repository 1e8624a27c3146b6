-- Which of all broken rules is told: the first. The rules of declarations come first, then those of bodies, then those of
-- machines. Of the former two sorts the one with the earliest place counts, in the order of reading and then of the text, and
-- at one place the one of the least number. Of the last sort the machines are gone through in order, each rule by rule. Where all
-- this is the same, the one with the earliest second place counts. The order and the numbers are this project's own. Which rules
-- are broken, and where, stands in other files.
use Rattle.std.specs.Prelude.{◌≡◌, ◌||◌, ◌&&◌, ◌==◌, ℕ, Bool, true, false, nat_lt, cond, Contains, All, MatchOption, Option, None, Some, List, [], ◌∷◌}
use Rattle.slicc_ast.specs.declared.tree.span.Span.{Span}
use Rattle.slicc_plan.specs.declared.broken.Broken.{Broken}
use Rattle.slicc_plan.specs.declared.broken.Subject.{Subject}
use Rattle.slicc_plan.specs.declared.broken.Subject.TheVariants.{Declarations, Bodies, Machines}
use Rattle.slicc_plan.specs.declared.broken.Rule.{Rule}
use Rattle.slicc_plan.specs.declared.broken.Rule.TheVariants.{TwiceDeclared, UnknownType, LimitPassed, NoFieldType, BadValue, NotBuiltIn, NotThere, NotAllowedHere, WrongType, WrongCount, NotWritable, NoReturn, CallCircle, BodyTooLarge, TwoTransitions, StateFunctions, Networks, NoMachine, NoStates, Changes, NextStateFunction}

-- the number in a rule's code
abbrev pub number_of : Rule → ℕ
number_of TwiceDeclared = 1
number_of UnknownType = 2
number_of LimitPassed = 3
number_of NoFieldType = 4
number_of BadValue = 5
number_of NotBuiltIn = 6
number_of NotThere = 7
number_of NotAllowedHere = 8
number_of WrongType = 9
number_of WrongCount = 10
number_of NotWritable = 11
number_of NoReturn = 12
number_of CallCircle = 13
number_of BodyTooLarge = 14
number_of TwoTransitions = 15
number_of StateFunctions = 16
number_of Networks = 17
number_of NoMachine = 18
number_of NoStates = 19
number_of Changes = 20
number_of NextStateFunction = 21

-- what a rule is about
abbrev pub subject_of : Rule → Subject
subject_of TwiceDeclared = Declarations
subject_of UnknownType = Declarations
subject_of LimitPassed = Declarations
subject_of NoFieldType = Declarations
subject_of BadValue = Declarations
subject_of NotBuiltIn = Declarations
subject_of NotThere = Bodies
subject_of NotAllowedHere = Bodies
subject_of WrongType = Bodies
subject_of WrongCount = Bodies
subject_of NotWritable = Bodies
subject_of NoReturn = Bodies
subject_of CallCircle = Machines
subject_of BodyTooLarge = Machines
subject_of TwoTransitions = Machines
subject_of StateFunctions = Machines
subject_of Networks = Machines
subject_of NoMachine = Machines
subject_of NoStates = Machines
subject_of Changes = Machines
subject_of NextStateFunction = Machines

-- the second place in the order, where there is one
abbrev pub second_rank : Option Span → List ℕ
second_rank None = 0 ∷ 0 ∷ 0 ∷ []
second_rank (Some place) = 1 ∷ place.file ∷ place.start ∷ []

-- what the order looks at, the weightiest first: eight numbers, so that any two can be compared
abbrev pub rank_in : Subject → Broken → List ℕ
rank_in Declarations b = 1 ∷ b.place.file ∷ b.place.start ∷ number_of b.rule ∷ 0 ∷ second_rank b.other
rank_in Bodies b = 2 ∷ b.place.file ∷ b.place.start ∷ number_of b.rule ∷ 0 ∷ second_rank b.other
rank_in Machines b = 3 ∷ b.machine ∷ number_of b.rule ∷ b.place.file ∷ b.place.start ∷ second_rank b.other

abbrev pub rank_of : Broken → List ℕ
rank_of b = rank_in (subject_of b.rule) b

-- the first number in which the lists differ is less in this one
abbrev pub is_less : List ℕ → List ℕ → Bool
is_less [] [] = false
is_less [] (n ∷ ns) = true
is_less (m ∷ ms) [] = false
is_less (m ∷ ms) (n ∷ ns) = nat_lt m n || (m == n) && is_less ms ns

abbrev pub comes_before : Broken → Broken → Bool
comes_before b c = is_less (rank_of b) (rank_of c)

-- of these broken rules it is the first
pub record IsFirstBroken (broken : List Broken) (b : Broken) : Type 0 where
  pub is_among : Contains broken b
  pub is_first : All (λ (c : Broken). comes_before c b ≡ false) broken

-- of these broken rules it is the first, or there is none
abbrev pub IsFirstOf : List Broken → Option Broken → Type 0
IsFirstOf broken first = MatchOption first (broken ≡ []) (IsFirstBroken broken)

-- the one of two that comes first, where there may be one already
abbrev pub earlier_of : Option Broken → Broken → Broken
earlier_of None b = b
earlier_of (Some f) b = cond (comes_before b f) b f

-- the one that comes first of these, where there may be one already
abbrev pub first_after : Option Broken → List Broken → Option Broken
first_after first [] = first
first_after first (b ∷ bs) = first_after (Some (earlier_of first b)) bs

-- the first of these, where there are any
abbrev pub first_of : List Broken → Option Broken
first_of broken = first_after None broken

-- of two that may be there the one that comes first; where neither comes before the other it is this one
abbrev pub earlier_of_both : Option Broken → Option Broken → Option Broken
earlier_of_both first None = first
earlier_of_both first (Some b) = Some (earlier_of first b)
