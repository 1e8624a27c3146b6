-- What holds of each built-in call: of its arguments and of their count, read off the table.
use Rattle.std.proofs.Common.{◌≡◌, ◌∙◌, ◌++◌, ◌+◌, ◌≤◌, ◌==◌, ◌&&◌, ◌||◌, ℕ, zero, suc, Bool, true, false, Some, List, [], ◌∷◌, flat_map, length, nat_le, take, refl, ap, arith}
use Rattle.std.specs.List.{list_all, list_any}
use Rattle.std.specs.Str.{bytes_eq}
use Rattle.std.proofs.lemmas.Bool.{and_parts, leb-true}
use Rattle.std.proofs.lemmas.List.{length-append}
use Rattle.action_code.specs.declared.operand.Operand.{Operand}
use Rattle.action_code.specs.Prelude.{operands_of}
use Rattle.slicc_plan.specs.BuiltInCalls.{Receiver, in_port, cache, directory, tbe_table, net_dest, data_block, sequencer, entry, nothing, Argument, value_of, new_line, address_or_line, cache_line, tbe_line, own_cache_line, own_tbe_line, event, state_of, Call, calls}
use Rattle.slicc_plan.specs.CallTypes.{call_on, is_call_on, receiver_number, wanted_by}
use Rattle.slicc_ast.specs.declared.tree.machine.Machine.{Machine}
use Rattle.slicc_plan.proofs.There.{There, found_passes, there_found}
use Rattle.rules_symbols.specs.CallRows.{argument_operand, arguments_by, is_other_work, operation_of, receiver_operand}
use Rattle.rules_symbols.proofs.Lists.{every, every_there}
use Rattle.rules_symbols.proofs.Types.{text_same}

-- a value is wanted
abbrev pub is_simple : Argument → Bool
is_simple (value_of b) = true
is_simple address_or_line = true
is_simple _ = false

-- `new` is wanted
abbrev pub is_new : Argument → Bool
is_new new_line = true
is_new _ = false

-- values alone are wanted, and with the receiver at most four
abbrev pub is_plain : Call → Bool
is_plain c = list_all is_simple (c.always ++ c.perhaps) && nat_le (length (receiver_operand c.receiver) + (length c.always + length c.perhaps)) 4

abbrev pub wants_new : Call → Bool
wants_new c = list_any is_new c.always

all_served : every (λ (c : Call). is_other_work c || (wants_new c || is_plain c)) calls ≡ true
all_served = refl

pub plain_is : (c : Call) → There calls c → is_other_work c ≡ false → wants_new c ≡ false → is_plain c ≡ true
plain_is c there served old = by (is_other_work c) (wants_new c) (is_plain c) (every_there (λ (c : Call). is_other_work c || (wants_new c || is_plain c)) calls c all_served there) served old
  where
    by : (a b d : Bool) → (a || (b || d)) ≡ true → a ≡ false → b ≡ false → d ≡ true
    by false false d all x y = all
    by true b d all x y = absurd (cc x)
    by false true d all x y = absurd (cc y)

-- Counts.

operands_count : (xs : List Operand) → length xs ≤ 4 → length (operands_of (arguments_by xs)) ≡ length xs
operands_count [] few = refl
operands_count (a ∷ []) few = refl
operands_count (a ∷ b ∷ []) few = refl
operands_count (a ∷ b ∷ c ∷ []) few = refl
operands_count (a ∷ b ∷ c ∷ d ∷ []) few = refl
operands_count (a ∷ b ∷ c ∷ d ∷ e ∷ others) few = absurd (omega (arith, few))

simple_count : (xs : List Argument) → list_all is_simple xs ≡ true → length (flat_map argument_operand xs) ≡ length xs
simple_count [] all = refl
simple_count (value_of b ∷ xs) all = ap suc (simple_count xs all)
simple_count (address_or_line ∷ xs) all = ap suc (simple_count xs all)
simple_count (new_line ∷ xs) all = absurd (cc all)
simple_count (cache_line ∷ xs) all = absurd (cc all)
simple_count (tbe_line ∷ xs) all = absurd (cc all)
simple_count (own_cache_line ∷ xs) all = absurd (cc all)
simple_count (own_tbe_line ∷ xs) all = absurd (cc all)
simple_count (event ∷ xs) all = absurd (cc all)
simple_count (state_of m ∷ xs) all = absurd (cc all)

pub wanted_count : (m : Machine) (on : Receiver) (xs : List Argument) → list_all is_simple xs ≡ true → length (wanted_by m on xs) ≡ length xs
wanted_count m on [] all = refl
wanted_count m on (value_of b ∷ xs) all = ap suc (wanted_count m on xs all)
wanted_count m on (address_or_line ∷ xs) all = ap suc (wanted_count m on xs all)
wanted_count m on (new_line ∷ xs) all = absurd (cc all)
wanted_count m on (cache_line ∷ xs) all = absurd (cc all)
wanted_count m on (tbe_line ∷ xs) all = absurd (cc all)
wanted_count m on (own_cache_line ∷ xs) all = absurd (cc all)
wanted_count m on (own_tbe_line ∷ xs) all = absurd (cc all)
wanted_count m on (event ∷ xs) all = absurd (cc all)
wanted_count m on (state_of n ∷ xs) all = absurd (cc all)

pub simple_parts : (xs ys : List Argument) → list_all is_simple (xs ++ ys) ≡ true → (list_all is_simple xs ≡ true) × (list_all is_simple ys ≡ true)
simple_parts [] ys all = (refl, all)
simple_parts (x ∷ xs) ys all = by (is_simple x) all (λ rest. simple_parts xs ys rest)
  where
    by : (b : Bool) → (b && list_all is_simple (xs ++ ys)) ≡ true → (list_all is_simple (xs ++ ys) ≡ true → (list_all is_simple xs ≡ true) × (list_all is_simple ys ≡ true))
        → ((b && list_all is_simple xs) ≡ true) × (list_all is_simple ys ≡ true)
    by true rest each = each rest
    by false rest each = absurd (cc rest)

simple_both : (xs ys : List Argument) → list_all is_simple xs ≡ true → list_all is_simple ys ≡ true → list_all is_simple (xs ++ ys) ≡ true
simple_both [] ys one two = two
simple_both (x ∷ xs) ys one two = by (is_simple x) one (λ rest. simple_both xs ys rest two)
  where
    by : (b : Bool) → (b && list_all is_simple xs) ≡ true → (list_all is_simple xs ≡ true → list_all is_simple (xs ++ ys) ≡ true) → (b && list_all is_simple (xs ++ ys)) ≡ true
    by true rest each = each rest
    by false rest each = absurd (cc rest)

simple_front : (n : ℕ) (xs : List Argument) → list_all is_simple xs ≡ true → list_all is_simple (take n xs) ≡ true
simple_front zero xs all = refl
simple_front (suc n) [] all = refl
simple_front (suc n) (x ∷ xs) all = by (is_simple x) all (λ rest. simple_front n xs rest)
  where
    by : (b : Bool) → (b && list_all is_simple xs) ≡ true → (list_all is_simple xs ≡ true → list_all is_simple (take n xs) ≡ true) → (b && list_all is_simple (take n xs)) ≡ true
    by true rest each = each rest
    by false rest each = absurd (cc rest)

front_count : (n : ℕ) (xs : List Argument) → n ≤ length xs → length (take n xs) ≡ n
front_count zero xs few = refl
front_count (suc n) [] few = absurd (omega (arith, few))
front_count (suc n) (x ∷ xs) few = ap suc (front_count n xs (omega (arith, few)))

-- as many operands as arguments, with the receiver where it is a value
pub operation_count : (c : Call) (more : ℕ) → is_plain c ≡ true → more ≤ length c.perhaps
    → length (operands_of (operation_of c more).arguments) ≡ length (receiver_operand c.receiver) + (length c.always + more)
operation_count c more plain few =
    let parts = and_parts (list_all is_simple (c.always ++ c.perhaps)) (nat_le (length (receiver_operand c.receiver) + (length c.always + length c.perhaps)) 4) plain in
    let simple = simple_parts c.always c.perhaps parts.0 in
    let most = leb-true (length (receiver_operand c.receiver) + (length c.always + length c.perhaps)) 4 parts.1 in
    let args : List Argument = c.always ++ take more c.perhaps in
    let inner : length (flat_map argument_operand (c.always ++ take more c.perhaps)) ≡ length c.always + more =
    simple_count (c.always ++ take more c.perhaps) (simple_both c.always (take more c.perhaps) simple.0 (simple_front more c.perhaps simple.1))
    ∙ length-append c.always (take more c.perhaps) ∙ ap (λ n. length c.always + n) (front_count more c.perhaps few) in
    let all : length (receiver_operand c.receiver ++ flat_map argument_operand (c.always ++ take more c.perhaps)) ≡ length (receiver_operand c.receiver) + (length c.always + more) =
    length-append (receiver_operand c.receiver) (flat_map argument_operand (c.always ++ take more c.perhaps)) ∙ ap (λ n. length (receiver_operand c.receiver) + n) inner in
    operands_count (receiver_operand c.receiver ++ flat_map argument_operand (c.always ++ take more c.perhaps)) (omega (arith, all, most, few)) ∙ all

-- Calls by what they are on and their names.

receiver_same : (a b : Receiver) → (receiver_number a == receiver_number b) ≡ true → a ≡ b
receiver_same in_port in_port is = refl
receiver_same cache cache is = refl
receiver_same directory directory is = refl
receiver_same tbe_table tbe_table is = refl
receiver_same net_dest net_dest is = refl
receiver_same data_block data_block is = refl
receiver_same sequencer sequencer is = refl
receiver_same entry entry is = refl
receiver_same nothing nothing is = refl
receiver_same a b is = absurd (cc is)

pub record CallFound (on : Receiver) (text : List ℕ) (c : Call) : Type 0 where
  pub there : There calls c
  pub receiver : c.receiver ≡ on
  pub name : c.name ≡ text

pub call_found : (on : Receiver) (text : List ℕ) (c : Call) → call_on on text ≡ Some c → CallFound on text c
call_found on text c e =
    let passes = and_parts (receiver_number c.receiver == receiver_number on) (bytes_eq c.name text) (found_passes (is_call_on on text) calls c e) in
    record { there = there_found (is_call_on on text) calls c e; receiver = receiver_same c.receiver on passes.0; name = text_same c.name text passes.1 }
