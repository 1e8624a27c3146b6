-- That an instruction breaks no rule, as the six facts that say so.
use Rattle.std.proofs.Common.{◌≡◌, ℕ, ◌+◌, ◌<◌, ◌≤◌, Bool, true, false, not, ◌&&◌, ◌||◌, Option, None, Some, List, length, nat_le, nat_lt, refl, arith}
use Rattle.std.proofs.lemmas.Bool.Decides.{nat_tests}
use Rattle.action_code.specs.declared.instr.Code.{Code}
use Rattle.action_code.specs.declared.instr.Instr.{Instr}
use Rattle.action_code.specs.declared.program.Program.{Program}
use Rattle.action_code.specs.declared.shape.Shape.{Shape}
use Rattle.action_code.specs.declared.sign.Sign.{Sign}
use Rattle.action_code.specs.EachPlace.{KeepsRules}
use Rattle.action_code.specs.Rules.{has_operands, jumps_forward, least_broken, rule_at, stays_within}
use Rattle.action_code.specs.Shapes.{operands_fit}
use Rattle.action_code.specs.Sign.{sign}
use Rattle.action_code.specs.Tables.{machine_of}
use Rattle.action_code.specs.Ways.{Way, arrived, continues, shape_of, target}
use Rattle.action_code.proofs.Clashes.{agree_from, agree_to}
use Rattle.action_code.proofs.Numbered.{first_of, second_of}

record AllKept (a b c d e f : Bool) : Type 0 where
  one : a ≡ true
  two : b ≡ true
  three : c ≡ true
  four : d ≡ true
  five : e ≡ true
  six : f ≡ true

kept_from : (a b c d e f : Bool) → least_broken a b c d e f ≡ None → AllKept a b c d e f
kept_from false b c d e f h = absurd (cc)
kept_from true false c d e f h = absurd (cc)
kept_from true true false d e f h = absurd (cc)
kept_from true true true false e f h = absurd (cc)
kept_from true true true true false f h = absurd (cc)
kept_from true true true true true false h = absurd (cc)
kept_from true true true true true true h = record { one = refl; two = refl; three = refl; four = refl; five = refl; six = refl }

kept_to : (a b c d e f : Bool) → AllKept a b c d e f → least_broken a b c d e f ≡ None
kept_to false b c d e f h = absurd (let x : false ≡ true = h.one in cc)
kept_to true false c d e f h = absurd (let x : false ≡ true = h.two in cc)
kept_to true true false d e f h = absurd (let x : false ≡ true = h.three in cc)
kept_to true true true false e f h = absurd (let x : false ≡ true = h.four in cc)
kept_to true true true true false f h = absurd (let x : false ≡ true = h.five in cc)
kept_to true true true true true false h = absurd (let x : false ≡ true = h.six in cc)
kept_to true true true true true true h = refl

le_from : (n m : ℕ) → nat_le n m ≡ true → n ≤ m
le_from n m h = grind (arith, nat_tests)

le_to : (n m : ℕ) → n ≤ m → nat_le n m ≡ true
le_to n m h = grind (arith, nat_tests)

lt_from : (n m : ℕ) → nat_lt n m ≡ true → n < m
lt_from n m h = grind (arith, nat_tests)

lt_to : (n m : ℕ) → n < m → nat_lt n m ≡ true
lt_to n m h = grind (arith, nat_tests)

both : (a b : Bool) → a ≡ true → b ≡ true → (a && b) ≡ true
both true b h k = k
both false b h k = absurd (cc)

not_from : (b : Bool) → not b ≡ true → b ≡ false
not_from true h = absurd (cc)
not_from false h = refl

not_to : (b : Bool) → b ≡ false → not b ≡ true
not_to true h = absurd (cc)
not_to false h = refl

implies_from : (a b : Bool) → (not a || b) ≡ true → a ≡ true → b ≡ true
implies_from true b h k = h
implies_from false b h k = absurd (cc)

implies_to : (a b : Bool) → (a ≡ true → b ≡ true) → (not a || b) ≡ true
implies_to true b h = h refl
implies_to false b h = refl

jump_from : (count at : ℕ) (o : Option ℕ) → jumps_forward count at o ≡ true → (to : ℕ) → o ≡ Some to → (at < to) × (to < count)
jump_from count at None h to is = absurd (cc)
jump_from count at (Some t) h to is =
    let same : t ≡ to = cc in
    let after : at < t = lt_from at t (first_of (nat_lt at t) (nat_lt t count) h) in
    let within : t < count = lt_from t count (second_of (nat_lt at t) (nat_lt t count) h) in
    (omega (arith, same, after), omega (arith, same, within))

jump_to : (count at : ℕ) (o : Option ℕ) → ((to : ℕ) → o ≡ Some to → (at < to) × (to < count)) → jumps_forward count at o ≡ true
jump_to count at None h = refl
jump_to count at (Some t) h =
    let facts = h t refl in
    both (nat_lt at t) (nat_lt t count) (lt_to at t facts.0) (lt_to t count facts.1)

pub keeps_from : (p : Program) (body : ℕ) (c : Code) (at : ℕ) (ways : List Way) (i : Instr) → rule_at p body c at ways i ≡ None
    → KeepsRules p c at ways (shape_of (arrived at ways)) (sign p body c (shape_of (arrived at ways)) i) i
keeps_from p body c at ways i h =
    let s : Shape = shape_of (arrived at ways) in
    let sg : Sign = sign p body c s i in
    let kept = kept_from (has_operands sg s) (operands_fit (machine_of p c) sg.on sg.takes s.stack)
    (jumps_forward (length c.instructions) at (target i)) (not (arrived at ways).clash) sg.known (stays_within (length c.instructions) at i) h in
    record {
      operands_are_there = le_from (length sg.takes) (length s.stack) kept.one;
      operands_have_their_kinds = kept.two;
      jumps_forward = jump_from (length c.instructions) at (target i) kept.three;
      ways_agree = agree_from at ways (not_from (arrived at ways).clash kept.four);
      names_what_is_served = kept.five;
      stays_within = λ goes. lt_from (at + 1) (length c.instructions)
          (implies_from (continues i) (nat_lt (at + 1) (length c.instructions)) kept.six goes);
    }

pub keeps_to : (p : Program) (body : ℕ) (c : Code) (at : ℕ) (ways : List Way) (i : Instr)
    → KeepsRules p c at ways (shape_of (arrived at ways)) (sign p body c (shape_of (arrived at ways)) i) i
    → rule_at p body c at ways i ≡ None
keeps_to p body c at ways i k =
    let s : Shape = shape_of (arrived at ways) in
    let sg : Sign = sign p body c s i in
    kept_to (has_operands sg s) (operands_fit (machine_of p c) sg.on sg.takes s.stack)
    (jumps_forward (length c.instructions) at (target i)) (not (arrived at ways).clash) sg.known (stays_within (length c.instructions) at i)
    (record {
      one = le_to (length sg.takes) (length s.stack) k.operands_are_there;
      two = k.operands_have_their_kinds;
      three = jump_to (length c.instructions) at (target i) k.jumps_forward;
      four = not_to (arrived at ways).clash (agree_to at ways k.ways_agree);
      five = k.names_what_is_served;
      six = implies_to (continues i) (nat_lt (at + 1) (length c.instructions)) (λ goes. lt_to (at + 1) (length c.instructions) (k.stays_within goes));
    })
