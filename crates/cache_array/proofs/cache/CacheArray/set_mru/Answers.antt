use Rattle.std.proofs.Common.{◌≡◌, List, IsTrue, false, is_some, refl, sym}
use Rattle.ruby_value.specs.Prelude.{Line, fields_of, made_recent}
use Rattle.ruby_value.proofs.CacheEdits.{IsRead, of_set, cache_recent}
use Rattle.cache_array.proofs.Sets.{cache_with, is_read, here_of, holds_with, holds_same, put, put_same}
use Rattle.cache_array.proofs.cache.CacheArray.set_mru.Goals as goal
use Rattle.cache_array.proofs.cache.CacheArray.set_mru.Goals.{After-index_mut}

-- the set is the line's
read : (c : After-index_mut) → IsRead (cache_with c.self.inside.ways c.self.inside.sets.items) c.args.line c.place-at.result c.index_mut.result.now.kept
read c = is_read c.self.inside.ways c.self.inside.sets.items c.index_mut.result.now c.self.view_is c.place-at.ensures.place c.place-at.ensures.within c.index_mut.ensures.value

pub invariant_of-self : goal.invariant_of-self
invariant_of-self c =
    holds_same c.self.inside.ways c.self.inside.sets.items c.place-at.result c.index_mut.result.now c.make_recent.new.self (here_of c.self.inside.ways c.self.inside.sets.items c.self.view_is c.place-at.ensures.within) c.index_mut.ensures.value c.self.inside.mask c.self.invariant c.make_recent.ensures.places c.if-not-make_recent.ensures.not_there

pub returns-then-not-make_recent-clause-there : goal.returns-then-not-make_recent-clause-there
returns-then-not-make_recent-clause-there c =
    let r = read (goal.at.returns-then-not-make_recent-clause-there c).After-index_mut in
    let none = of_set _ _ _ _ r (λ (s : List Line). false ≡ is_some (fields_of s c.args.line)) c.if-not-make_recent.ensures.found in
    rw (← c.self.view_is, ← none) (λ wrong. wrong, λ wrong. wrong)

pub returns-then-not-make_recent-clause-refused : goal.returns-then-not-make_recent-clause-refused
returns-then-not-make_recent-clause-refused c =
    rw (← c.self.view_is) (put_same c.self.inside.ways c.self.inside.sets.items c.place-at.result c.index_mut.result.now c.make_recent.new.self (here_of c.self.inside.ways c.self.inside.sets.items c.self.view_is c.place-at.ensures.within) c.index_mut.ensures.value c.if-not-make_recent.ensures.not_there)

-- the set in its new order is a lawful one
pub invariant_of-self-2 : goal.invariant_of-self-2
invariant_of-self-2 c =
    let r = read (goal.at.invariant_of-self-2 c).After-index_mut in
    holds_with c.self.inside.ways c.self.inside.mask c.self.inside.sets.items c.place-at.result c.index_mut.result.now c.make_recent.new.self c.self.invariant (here_of c.self.inside.ways c.self.inside.sets.items c.self.view_is c.place-at.ensures.within) c.index_mut.ensures.value c.make_recent.ensures.places
    (cache_recent _ _ _ _ r c.self.invariant.is_cache c.make_recent.new.self.kept c.make_recent.ensures.after)

pub returns-clause-ok : goal.returns-clause-ok
returns-clause-ok c =
    let r = read (goal.at.returns-clause-ok c).After-index_mut in
    rw (← c.self.view_is) (put c.self.inside.ways c.self.inside.sets.items c.place-at.result c.index_mut.result.now c.make_recent.new.self r (λ s. made_recent s c.args.line) c.make_recent.ensures.after)

pub returns-clause-there : goal.returns-clause-there
returns-clause-there c =
    let r = read (goal.at.returns-clause-there c).After-index_mut in
    rw (← c.self.view_is) (λ _. of_set _ _ _ _ r (λ s. IsTrue (is_some (fields_of s c.args.line))) (sym c.if-not-make_recent.ensures.found), λ _. refl)
