use Rattle.std.proofs.Common.{◌↔◌, List, IsOk, IsSome, slice_set}
use Rattle.ruby_value.specs.Prelude.{Line, fields_of}
use Rattle.ruby_value.proofs.CacheEdits.{IsRead, of_set}
use Rattle.cache_array.proofs.Sets.{cache_with, is_read, here_of, holds_field, put_field, put_refused}
use Rattle.cache_array.proofs.cache.CacheArray.set_field.Goals as goal
use Rattle.cache_array.proofs.cache.CacheArray.set_field.Goals.{After-index_mut}

-- the set is the line's
read : (c : After-index_mut) → IsRead (cache_with c.self.inside.ways c.self.inside.sets.items) c.args.line c.place-at.result c.index_mut.result.now.kept
read c = is_read c.self.inside.ways c.self.inside.sets.items c.index_mut.result.now c.self.view_is c.place-at.ensures.place c.place-at.ensures.within c.index_mut.ensures.value

pub invariant_of-self : goal.invariant_of-self
invariant_of-self c =
    let r = read (goal.at.invariant_of-self c).After-index_mut in
    (holds_field c.self.inside.ways c.self.inside.sets.items c.place-at.result c.index_mut.result.now c.set_field.new.self (here_of c.self.inside.ways c.self.inside.sets.items c.self.view_is c.place-at.ensures.within) c.index_mut.ensures.value r (λ fs. slice_set fs c.args.field c.args.v) c.set_field.result c.set_field.ensures.ok c.set_field.ensures.there c.set_field.ensures.refused c.self.inside.mask c.self.invariant c.set_field.ensures.places)

pub returns-clause-ok : goal.returns-clause-ok
returns-clause-ok c =
    let r = read (goal.at.returns-clause-ok c).After-index_mut in
    rw (← c.self.view_is) (put_field c.self.inside.ways c.self.inside.sets.items c.place-at.result c.index_mut.result.now c.set_field.new.self (here_of c.self.inside.ways c.self.inside.sets.items c.self.view_is c.place-at.ensures.within) c.index_mut.ensures.value r (λ fs. slice_set fs c.args.field c.args.v) c.set_field.result c.set_field.ensures.ok c.set_field.ensures.there c.set_field.ensures.refused)

pub returns-clause-refused : goal.returns-clause-refused
returns-clause-refused c =
    let r = read (goal.at.returns-clause-refused c).After-index_mut in
    rw (← c.self.view_is) (put_refused c.self.inside.ways c.self.inside.sets.items c.place-at.result c.index_mut.result.now c.set_field.new.self (here_of c.self.inside.ways c.self.inside.sets.items c.self.view_is c.place-at.ensures.within) c.index_mut.ensures.value r (λ fs. slice_set fs c.args.field c.args.v) c.set_field.result c.set_field.ensures.ok c.set_field.ensures.there c.set_field.ensures.refused)

pub returns-clause-there : goal.returns-clause-there
returns-clause-there c =
    let r = read (goal.at.returns-clause-there c).After-index_mut in
    rw (← c.self.view_is) (of_set _ _ _ _ r (λ (s : List Line). IsOk c.set_field.result ↔ IsSome (fields_of s c.args.line)) c.set_field.ensures.there)
