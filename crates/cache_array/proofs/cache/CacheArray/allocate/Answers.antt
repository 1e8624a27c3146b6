use Rattle.std.proofs.Common.{◌≡◌, ◌<◌, ◌++◌, ◌∷◌, [], List, length, false, true, is_some, nat_lt, sym, arith}
use Rattle.std.proofs.lemmas.Bool.{lt-ltb}
use Rattle.ruby_value.specs.Prelude.{Line, fields_of, set_of}
use Rattle.ruby_value.proofs.CacheEdits.{IsRead, of_set, cache_push}
use Rattle.cache_array.proofs.Sets.{cache_with, is_read, here_of, holds_with, put}
use Rattle.cache_array.proofs.cache.CacheArray.allocate.Goals as goal
use Rattle.cache_array.proofs.cache.CacheArray.allocate.Goals.{After-index_mut}

-- the set is the line's
read : (c : After-index_mut) → IsRead (cache_with c.self.inside.ways c.self.inside.sets.items) c.args.line c.place-at.result c.index_mut.result.now.kept
read c = is_read c.self.inside.ways c.self.inside.sets.items c.index_mut.result.now c.self.view_is c.place-at.ensures.place c.place-at.ensures.within c.index_mut.ensures.value

-- the line wasn't there
absent : (c : After-index_mut) → is_some (fields_of (set_of (cache_with c.self.inside.ways c.self.inside.sets.items) c.args.line) c.args.line) ≡ false
absent c =
    let r = is_read c.self.inside.ways c.self.inside.sets.items c.index.result.now c.self.view_is c.place-at.ensures.place c.place-at.ensures.within c.index.ensures in
    sym (of_set _ _ _ _ r (λ (s : List Line). false ≡ is_some (fields_of s c.args.line)) c.if-holds.ensures)

-- and a way was free
free : (c : After-index_mut) → length (set_of (cache_with c.self.inside.ways c.self.inside.sets.items) c.args.line) < c.self.inside.ways
free c =
    let r = is_read c.self.inside.ways c.self.inside.sets.items c.index-2.result.now c.self.view_is c.place-at.ensures.place c.place-at.ensures.within c.index-2.ensures in
    let few : length c.index-2.result.now.kept < c.self.inside.ways = omega arith in
    of_set _ _ _ _ r (λ (s : List Line). length s < c.self.inside.ways) few

pub invariant_of-self : goal.invariant_of-self
invariant_of-self c =
    let here = (goal.at.invariant_of-self c).After-index_mut in
    holds_with c.self.inside.ways c.self.inside.mask c.self.inside.sets.items c.place-at.result c.index_mut.result.now c.push.new.self c.self.invariant (here_of c.self.inside.ways c.self.inside.sets.items c.self.view_is c.place-at.ensures.within) c.index_mut.ensures.value c.push.ensures.places
    (cache_push _ _ _ _ (read here) c.self.invariant.is_cache c.push.new.self.kept c.args.f (absent here) (free here) c.push.ensures.after)

pub returns-clause-ok : goal.returns-clause-ok
returns-clause-ok c =
    let r = read (goal.at.returns-clause-ok c).After-index_mut in
    rw (← c.self.view_is) (put c.self.inside.ways c.self.inside.sets.items c.place-at.result c.index_mut.result.now c.push.new.self r (λ s. s ++ (c.args.line, c.args.f) ∷ []) c.push.ensures.after)

pub returns-clause-already_there : goal.returns-clause-already_there
returns-clause-already_there c =
    let none = absent (goal.at.returns-clause-already_there c).After-index_mut in
    rw (← c.self.view_is, none) (λ wrong. absurd (cc wrong), λ wrong. absurd (cc wrong))

pub returns-clause-set_full : goal.returns-clause-set_full
returns-clause-set_full c =
    let here = (goal.at.returns-clause-set_full c).After-index_mut in
    let some : nat_lt (length (set_of (cache_with c.self.inside.ways c.self.inside.sets.items) c.args.line)) c.self.inside.ways ≡ true = lt-ltb _ _ (free here) in
    rw (← c.self.view_is, absent here, some) (λ wrong. absurd (cc wrong), λ wrong. absurd (cc wrong))
