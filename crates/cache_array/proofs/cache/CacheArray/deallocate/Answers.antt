use Rattle.std.proofs.Common.{◌≡◌, List, None, Some, sym}
use Rattle.ruby_value.specs.Prelude.{Line, fields_of, without_line}
use Rattle.ruby_value.proofs.CacheEdits.{IsRead, of_set, cache_without}
use Rattle.cache_array.proofs.Sets.{cache_with, is_read, here_of, holds_with, holds_same, put, put_same}
use Rattle.cache_array.proofs.cache.CacheArray.deallocate.Goals as goal
use Rattle.cache_array.proofs.cache.CacheArray.deallocate.Goals.{After-index_mut}

-- the set is the line's
read : (c : After-index_mut) → IsRead (cache_with c.self.inside.ways c.self.inside.sets.items) c.args.line c.place-at.result c.index_mut.result.now.kept
read c = is_read c.self.inside.ways c.self.inside.sets.items c.index_mut.result.now c.self.view_is c.place-at.ensures.place c.place-at.ensures.within c.index_mut.ensures.value

pub invariant_of-self : goal.invariant_of-self
invariant_of-self c =
    holds_same c.self.inside.ways c.self.inside.sets.items c.place-at.result c.index_mut.result.now c.remove.new.self (here_of c.self.inside.ways c.self.inside.sets.items c.self.view_is c.place-at.ensures.within) c.index_mut.ensures.value c.self.inside.mask c.self.invariant c.remove.ensures.places c.in_default.ensures.not_there

pub returns-in_default-clause-not_there : goal.returns-in_default-clause-not_there
returns-in_default-clause-not_there c =
    let r = read (goal.at.returns-in_default-clause-not_there c).After-index_mut in
    rw (← c.self.view_is) (of_set _ _ _ _ r (λ (s : List Line). fields_of s c.args.line ≡ None) (sym c.in_default.ensures.fields))

pub returns-in_default-clause-refused : goal.returns-in_default-clause-refused
returns-in_default-clause-refused c =
    rw (← c.self.view_is) (put_same c.self.inside.ways c.self.inside.sets.items c.place-at.result c.index_mut.result.now c.remove.new.self (here_of c.self.inside.ways c.self.inside.sets.items c.self.view_is c.place-at.ensures.within) c.index_mut.ensures.value c.in_default.ensures.not_there)

-- the set without the line is a lawful one
pub invariant_of-self-2 : goal.invariant_of-self-2
invariant_of-self-2 c =
    let r = read (goal.at.invariant_of-self-2 c).After-index_mut in
    holds_with c.self.inside.ways c.self.inside.mask c.self.inside.sets.items c.place-at.result c.index_mut.result.now c.remove.new.self c.self.invariant (here_of c.self.inside.ways c.self.inside.sets.items c.self.view_is c.place-at.ensures.within) c.index_mut.ensures.value c.remove.ensures.places
    (cache_without _ _ _ _ r c.self.invariant.is_cache c.remove.new.self.kept c.remove.ensures.after)

pub returns-clause-fields : goal.returns-clause-fields
returns-clause-fields c =
    let r = read (goal.at.returns-clause-fields c).After-index_mut in
    rw (← c.self.view_is) (of_set _ _ _ _ r (λ (s : List Line). fields_of s c.args.line ≡ Some c.in-Some.f) (sym c.in-Some.ensures.fields))

pub returns-clause-ok : goal.returns-clause-ok
returns-clause-ok c =
    let r = read (goal.at.returns-clause-ok c).After-index_mut in
    rw (← c.self.view_is) (put c.self.inside.ways c.self.inside.sets.items c.place-at.result c.index_mut.result.now c.remove.new.self r (λ s. without_line s c.args.line) c.remove.ensures.after)
