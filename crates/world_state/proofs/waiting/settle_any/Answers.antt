use Rattle.std.proofs.Common.{◌≡◌, ◌∙◌, List, [], ap, length, refl, slice_get, subst, sym, arith}
use Rattle.std.proofs.lemmas.List.{nil_from_length}
use Rattle.std.proofs.lemmas.Bool.Decides.{nat_tests}
use Rattle.std.proofs.lemmas.Option.{slice_get_read}
use Rattle.ctl_face.specs.declared.parcel.Parcel.{Parcel}
use Rattle.world_state.specs.Prelude.{Comes, parcels_in, waiting_at}
use Rattle.world_state.proofs.Settled.{none-comes}
use Rattle.world_state.proofs.waiting.settle_any.Goals as goal

pub returns-then-is_empty-clause-none : goal.returns-then-is_empty-clause-none
returns-then-is_empty-clause-none c =
    let lists = c.args.waiting.now.items in
    let list = c.index-list.result.now in
    let none : length list.items ≡ 0 = grind (arith, nat_tests) in
    ap parcels_in (slice_get_read lists (length lists) c.args.c list refl c.requires.list c.index-list.ensures)
    ∙ nil_from_length list.items none

pub returns-then-is_empty-clause-ok : goal.returns-then-is_empty-clause-ok
returns-then-is_empty-clause-ok c =
    let o = slice_get c.args.places.now.items c.args.c in
    subst (λ (ps : List Parcel). Comes ps o o) (sym (returns-then-is_empty-clause-none c)) (none-comes o)
