-- In which order the bodies of a machine's functions come: a function after those that it calls, in rounds, of which each has those that
-- call only functions of earlier rounds. What a function calls is read off its code, in which the functions have the numbers of the
-- machine. Functions of an accepted protocol don't call each other in a circle, so that each comes once.
use Rattle.std.specs.Prelude.{ℕ, zero, suc, ◌+◌, ◌==◌, ◌&&◌, Bool, not, Option, None, Some, List, [], ◌∷◌, ◌++◌, cond, filter, flat_map, length, nat_lt}
use Rattle.std.specs.List.{list_all, list_any}
use Rattle.ruby_symbols.specs.declared.machine.FunctionSymbol.{FunctionSymbol}
use Rattle.action_code.specs.declared.instr.Instr.{Instr}
use Rattle.action_code.specs.declared.instr.Instr.TheVariants as instr
use Rattle.body_meaning.specs.Prelude.{Reading}
use Rattle.body_code.specs.declared.numbers.BodyNumbers.{BodyNumbers}
use Rattle.body_code.specs.Bodies.{function_code}
use Rattle.body_code.specs.Calls.{function_at}

-- so many numbers from this one on
abbrev pub numbers_from : ℕ → ℕ → List ℕ
numbers_from first zero = []
numbers_from first (suc more) = first ∷ numbers_from (first + 1) more

abbrev pub function_numbers : Reading → List ℕ
function_numbers s = numbers_from 0 (length s.machine.functions)

-- each function's body has its number
abbrev pub plain_numbers : Reading → BodyNumbers
plain_numbers s =
    record { order = function_numbers s; first = 0; permissions = length s.machine.functions }

abbrev pub call_in : (functions : ℕ) → Instr → List ℕ
call_in functions (instr.Call k) = cond (nat_lt k functions) (k ∷ []) []
call_in functions _ = []

abbrev pub callees_of : Reading → Option FunctionSymbol → List ℕ
callees_of s None = []
callees_of s (Some f) =
    flat_map (call_in (length s.machine.functions)) (function_code s (plain_numbers s) f).instructions

abbrev pub is_in : List ℕ → ℕ → Bool
is_in ns k = list_any (λ m. m == k) ns

-- it isn't there, and all that it calls is
abbrev pub is_next : Reading → List ℕ → ℕ → Bool
is_next s before k = not (is_in before k) && list_all (is_in before) (callees_of s (function_at s k))

abbrev pub with_round : Reading → List ℕ → List ℕ
with_round s before = before ++ filter (is_next s before) (function_numbers s)

abbrev pub with_rounds : Reading → ℕ → List ℕ → List ℕ
with_rounds s zero before = before
with_rounds s (suc more) before = with_rounds s more (with_round s before)

-- a circle aside, as many rounds as functions are enough
abbrev pub order_of : Reading → List ℕ
order_of s = with_rounds s (length s.machine.functions) []
