-- What holds of built-in calls by what they are on: which may answer lines, which take `new`, and which do other work.
use Rattle.std.proofs.Common.{◌≡◌, ◌||◌, Bool, true, false, not, refl}
use Rattle.slicc_plan.specs.BuiltInCalls.{Receiver, cache, directory, tbe_table, nothing, Answer, no_value, answered, line, Call, calls}
use Rattle.slicc_plan.specs.CallTypes.{answer_of}
use Rattle.slicc_plan.proofs.There.{There}
use Rattle.rules_symbols.specs.CallRows.{given_without, is_other_work}
use Rattle.rules_symbols.proofs.Lists.{every, every_there}
use Rattle.rules_symbols.proofs.TypedParts.{answer_valued}
use Rattle.action_code.specs.declared.operations.Answer.TheVariants as given
use Rattle.code_laws.specs.Holding.{is_used}
use Rattle.code_laws.specs.Setting.{IsSet, Setting}
use Rattle.code_laws.proofs.CallTables.{wants_new}

abbrev pub on_table : Receiver → Bool
on_table cache = true
on_table directory = true
on_table tbe_table = true
on_table _ = false

abbrev pub is_alone : Receiver → Bool
is_alone nothing = true
is_alone _ = false

abbrev pub is_line : Answer → Bool
is_line line = true
is_line _ = false

all_lines : every (λ (c : Call). on_table c.receiver || not (is_line c.answer)) calls ≡ true
all_lines = refl

all_new : every (λ (c : Call). on_table c.receiver || not (wants_new c)) calls ≡ true
all_new = refl

all_other : every (λ (c : Call). is_alone c.receiver || not (is_other_work c)) calls ≡ true
all_other = refl

all_valued : every (λ (c : Call). answer_valued c.answer) calls ≡ true
all_valued = refl

or_not : (a b : Bool) → (a || not b) ≡ true → a ≡ false → b ≡ false
or_not false false e f = refl
or_not false true e f = absurd (cc e)
or_not true b e f = absurd (cc f)

pub takes_no_new : (c : Call) → There calls c → on_table c.receiver ≡ false → wants_new c ≡ false
takes_no_new c there off = or_not (on_table c.receiver) (wants_new c) (every_there (λ (c : Call). on_table c.receiver || not (wants_new c)) calls c all_new there) off

pub no_other_work : (c : Call) → There calls c → is_alone c.receiver ≡ false → is_other_work c ≡ false
no_other_work c there off = or_not (is_alone c.receiver) (is_other_work c) (every_there (λ (c : Call). is_alone c.receiver || not (is_other_work c)) calls c all_other there) off

pub answers_no_line : (c : Call) → There calls c → on_table c.receiver ≡ false → is_line c.answer ≡ false
answers_no_line c there off = or_not (on_table c.receiver) (is_line c.answer) (every_there (λ (c : Call). on_table c.receiver || not (is_line c.answer)) calls c all_lines there) off

-- Answers: of a call on no table, whose answer may be used or that changes nothing of a body's.

module _ (z : Setting) (is : IsSet z) where
  -- it answers something that may be used, or nothing, and changes no receiver and no block
  abbrev pub IsAnswerable : Call → Answer → Type 0
  IsAnswerable c no_value = given_without c.receiver c.change ≡ given.Nothing
  IsAnswerable c _ = Unit {0}

  -- what may be used is such
  pub used_answer : (c : Call) (a : Answer) → is_used (answer_of z.m c.receiver a) ≡ true → IsAnswerable c a
  used_answer c no_value used = absurd (cc used)
  used_answer c (answered b) used = tt
  used_answer c line used = tt

  pub valued : (c : Call) → There calls c → answer_valued c.answer ≡ true
  valued c there = every_there (λ (c : Call). answer_valued c.answer) calls c all_valued there
