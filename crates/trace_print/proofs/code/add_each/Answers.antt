use Rattle.std.proofs.Common.{◌≡◌, ◌+◌, ℕ, List, [], ◌++◌, ◌∷◌, decimal, map, refl, sym, ap, ◌∙◌, arith}
use Rattle.trace_print.specs.Prelude.{controllers_in, spaced}
use Rattle.trace_print.proofs.Adding.{same_line, word_cut, word_on}
use Rattle.trace_print.proofs.Members.{IsNext, all_left, left_from, next_left, none_left, past_all, rise_of}
use Rattle.trace_print.proofs.code.add_each.Goals as goal

pub loop-from-init : goal.loop-from-init
loop-from-init g c = record {
  goes_on = λ rest whole last put.
      same_line g.S.Sink.writes c.args.sink.now last whole (c.args.line.now.items ++ (spaced (map decimal (left_from 0 c.args.members.now)) ++ rest)) (c.args.line.now.items ++ (spaced (map decimal (controllers_in c.args.members.now)) ++ rest))
      (ap (λ (ms : List ℕ). c.args.line.now.items ++ (spaced (map decimal ms) ++ rest)) (all_left c.args.members.now)) put;
  within = omega arith;
}

pub returns-in_default : goal.returns-in_default
returns-in_default g c =
    let l = c.loop-from in
    let none : left_from l.from c.args.members.now ≡ [] = none_left c.args.members.now l.from (sym c.least_from.ensures ∙ c.in_default.is) in
    record {
      goes_on = λ rest whole last put. l.invariant.goes_on rest whole last
          (same_line g.S.Sink.writes l.sink last whole (l.line.items ++ rest) (l.line.items ++ (spaced (map decimal (left_from l.from c.args.members.now)) ++ rest))
          (ap (λ (ms : List ℕ). l.line.items ++ (spaced (map decimal ms) ++ rest)) (sym none)) put);
      cut_off = tt;
    }

pub returns : goal.returns
returns g c =
    let l = c.loop-from in
    let none : left_from l.from c.args.members.now ≡ [] = past_all c.args.members.now l.from (omega (arith, c.loop-from-test.false)) in
    record {
      goes_on = λ rest whole last put. l.invariant.goes_on rest whole last
          (same_line g.S.Sink.writes l.sink last whole (l.line.items ++ rest) (l.line.items ++ (spaced (map decimal (left_from l.from c.args.members.now)) ++ rest))
          (ap (λ (ms : List ℕ). l.line.items ++ (spaced (map decimal ms) ++ rest)) (sym none)) put);
      cut_off = tt;
    }

pub returns-then-not-add_spaced : goal.returns-then-not-add_spaced
returns-then-not-add_spaced g c =
    let l = c.loop-from in
    let members = c.args.members.now in
    let m = c.in-Some.m in
    let next : IsNext l.from m members = next_left members l.from m (rise_of members c.count-count.ensures.increasing) (sym c.in-Some.ensures) (omega arith) in
    let left = left_from (m + 1) members in
    record {
      goes_on = tt;
      cut_off = λ rest. l.invariant.goes_on rest _ _
          (same_line g.S.Sink.writes l.sink c.add_spaced.new.sink _ (l.line.items ++ (spaced (map decimal (m ∷ left)) ++ rest)) (l.line.items ++ (spaced (map decimal (left_from l.from members)) ++ rest))
          (ap (λ (ms : List ℕ). l.line.items ++ (spaced (map decimal ms) ++ rest)) (sym next.left))
          (word_cut g.S.Sink.writes decimal (m ∷ left) 0 m l.sink c.add_spaced.new.sink l.line.items c.add_spaced.new.line.items _ rest refl refl c.if-not-add_spaced.ensures));
    }

pub loop-from-smaller : goal.loop-from-smaller
loop-from-smaller g c =
    let l = c.loop-from in
    let next : IsNext l.from c.in-Some.m c.args.members.now = next_left c.args.members.now l.from c.in-Some.m (rise_of c.args.members.now c.count-count.ensures.increasing) (sym c.in-Some.ensures) (omega arith) in
    omega (arith, next.after, c.loop-from-test.true)

pub loop-from-preserved : goal.loop-from-preserved
loop-from-preserved g c =
    let l = c.loop-from in
    let members = c.args.members.now in
    let m = c.in-Some.m in
    let next : IsNext l.from m members = next_left members l.from m (rise_of members c.count-count.ensures.increasing) (sym c.in-Some.ensures) (omega arith) in
    let left = left_from (m + 1) members in
    record {
      goes_on = λ rest whole last put. l.invariant.goes_on rest whole last
          (same_line g.S.Sink.writes l.sink last whole (l.line.items ++ (spaced (map decimal (m ∷ left)) ++ rest)) (l.line.items ++ (spaced (map decimal (left_from l.from members)) ++ rest))
          (ap (λ (ms : List ℕ). l.line.items ++ (spaced (map decimal ms) ++ rest)) (sym next.left))
          (word_on g.S.Sink.writes decimal (m ∷ left) 0 m l.sink c.add_spaced.new.sink last l.line.items c.add_spaced.new.line.items _ rest whole refl refl c.if-not-add_spaced.ensures put));
      within = omega arith;
    }
