use Rattle.std.proofs.Common.{◌≡◌, ◌+◌, ◌∙◌, ℕ, [], All, arith, map, rules, subst, sym, vec_len}
use Rattle.ctl_tables.specs.Prelude.{table_of, HasRoom}
use Rattle.ctl_tables.proofs.Replaying.{nothing_made, oldest_first}
use Rattle.ctl_tables.proofs.tables.change_all.Goals as goal

pub loop-change-preserved : goal.loop-change-preserved
loop-change-preserved c =
    let cases = c.in-Some.ensures.cases in
    let more : vec_len c.loop-change.newest_first ≡ vec_len c.pop.new.self + 1 = omega arith in
    let P : ℕ → Type 0 = λ k. All (HasRoom k) c.loop-change.tables in (
      oldest_first c.loop-change.newest_first.items c.pop.new.self.items c.in-Some.change (map table_of c.loop-change.tables) (map table_of c.change_one.new.tables) c.change_one.ensures.after c.in-Some.ensures.items ∙ c.loop-change.invariant.0,
      c.change_one.ensures.room (vec_len c.pop.new.self) (subst P more c.loop-change.invariant.1),
    )

pub returns : goal.returns
returns c =
    let gone : c.loop-change.newest_first.items ≡ [] = search rules in
    sym (nothing_made c.loop-change.newest_first.items (map table_of c.loop-change.tables) gone) ∙ c.loop-change.invariant.0
