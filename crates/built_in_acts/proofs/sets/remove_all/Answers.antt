use Rattle.std.proofs.Common.{◌≡◌, ◌∙◌, ◌∷◌, ◌<◌, [], List, ℕ, ap, fold, length, refl, subst, sym, arith}
use Rattle.ruby_value.specs.Prelude.{without_member}
use Rattle.built_in_acts.proofs.Going.{Rise, TakenOut, fold_none, fold_step, none_left, rise_from, taken_out}
use Rattle.built_in_acts.proofs.sets.remove_all.Goals as goal

pub loop-m-init : goal.loop-m-init
loop-m-init c = record { done = refl; rise = rise_from c.args.others c.count-count.ensures.increasing }

pub loop-m-smaller : goal.loop-m-smaller
loop-m-smaller c =
    let taken : TakenOut c.loop-m.others c.in-Some.m = taken_out c.loop-m.others c.in-Some.m c.loop-m.invariant.rise (sym c.in-Some.ensures) in
    let left : c.remove-in-Some.new.self ≡ without_member c.loop-m.others c.in-Some.m = c.remove-in-Some.ensures in
    let fewer : length c.remove-in-Some.new.self < length c.loop-m.others = omega (arith, ap length left, ap length taken.parts) in
    fewer

pub loop-m-preserved : goal.loop-m-preserved
loop-m-preserved c =
    let taken : TakenOut c.loop-m.others c.in-Some.m = taken_out c.loop-m.others c.in-Some.m c.loop-m.invariant.rise (sym c.in-Some.ensures) in
    let left : c.remove-in-Some.new.self ≡ without_member c.loop-m.others c.in-Some.m = c.remove-in-Some.ensures in
    let put : c.remove.new.self ≡ without_member c.loop-m.members c.in-Some.m = c.remove.ensures in
    record {
      done =
          ap (λ (xs : List ℕ). fold without_member c.remove.new.self xs) left
          ∙ ap (λ (xs : List ℕ). fold without_member xs (without_member c.loop-m.others c.in-Some.m)) put
          ∙ fold_step without_member c.loop-m.members c.loop-m.others (without_member c.loop-m.others c.in-Some.m) c.in-Some.m taken.parts
          ∙ c.loop-m.invariant.done;
      rise = subst Rise (sym left) taken.rise;
    }

pub returns : goal.returns
returns c =
    fold_none without_member c.loop-m.members c.loop-m.others (none_left c.loop-m.others (sym c.least_from.ensures ∙ c.in_default.is)) ∙ c.loop-m.invariant.done
