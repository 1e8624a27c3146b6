use Rattle.std.proofs.Common.{◌≡◌, ◌<◌, ◌+◌, ◌-◌, ◌*◌, ℕ, suc, List, length, drop, get_or, ap, sym, ◌∙◌, arith}
use Rattle.std.proofs.Math.Seq.{drop-cons}
use Rattle.ruby_options.specs.Prelude.{value_of}
use Rattle.ruby_options.proofs.Digits.{value_from, grows}
use Rattle.ruby_options.proofs.numbers.value_up_to.Goals as goal

pub returns-then-from-next-clause-none : goal.returns-then-from-next-clause-none
returns-then-from-next-clause-none c =
    let word = c.args.digits.now in
    let i = c.loop-c.c-index in
    let v = c.loop-c.value in
    let inside : i < length word = omega arith in
    let cut = drop-cons word i 0 inside in
    let next : value_from (v * 10 + (get_or word i 0 - 48)) (drop (suc i) word) ≡ value_of word =
    sym (ap (λ (l : List ℕ). value_from v l) cut) ∙ c.loop-c.invariant.0 in
    omega (arith, next, grows (v * 10 + (get_or word i 0 - 48)) (drop (suc i) word))
