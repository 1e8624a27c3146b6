-- No name is read twice.
use Rattle.std.proofs.Common.{◌≡◌, ◌++◌, ◌||◌, ℕ, Bool, true, false, List, [], ◌∷◌, map, refl, sym, ◌∙◌}
use Rattle.std.proofs.lemmas.List.Folds.{list_any-append}
use Rattle.std.proofs.lemmas.Map.Keys.{IsDistinct-cons}
use Rattle.std.specs.List.{AllByRecursion, IsDistinct, list_any}
use Rattle.std.specs.Str.{bytes_eq}
use Rattle.slicc_ast.specs.declared.tree.item.Tree.{Tree}
use Rattle.slicc_files.specs.declared.gathered.Gathered.{Gathered}
use Rattle.slicc_files.specs.declared.gathered.Source.{Source}
use Rattle.slicc_files.specs.declared.state.Wanted.{Wanted}
use Rattle.slicc_files.specs.Prelude.{IsGathered, IsGatheredFrom, is_seen, source_of, finished, passed_by, one_too_many, went_on, refused, absent, too_large, too_long, failed, no_memory, no_memory_for, Read, AreOfOneNameEach}

-- none of these names was seen
abbrev AreUnseen : List Source → List Read → Type 0
AreUnseen seen [] = Unit {0}
AreUnseen seen (r ∷ rs) = (is_seen r.name seen ≡ false) × AreUnseen seen rs

none : IsDistinct bytes_eq []
unfolding IsDistinct
none = tt

neither : (a b : Bool) → (a || b) ≡ false → (a ≡ false) × (b ≡ false)
neither true b is = absurd (cc is)
neither false b is = (refl, is)

before : (seen : List Source) (s : Source) (rs : List Read) → AreUnseen (seen ++ s ∷ []) rs → AreUnseen seen rs × AllByRecursion (λ y. bytes_eq s.name y ≡ false) (map (λ (r : Read). r.name) rs)
before seen s [] all = (tt, tt)
before seen s (r ∷ rs) all =
    let both : (is_seen r.name seen || list_any (λ (x : Source). bytes_eq x.name r.name) (s ∷ [])) ≡ false =
    sym (list_any-append (λ (x : Source). bytes_eq x.name r.name) seen (s ∷ [])) ∙ all.0 in
    let each = neither (is_seen r.name seen) (list_any (λ (x : Source). bytes_eq x.name r.name) (s ∷ [])) both in
    let apart = neither (bytes_eq s.name r.name) false each.1 in
    let later = before seen s rs all.1 in
    ((each.0, later.0), (apart.0, later.1))

one : (name : List ℕ) → IsDistinct bytes_eq (name ∷ [])
one name = IsDistinct-cons bytes_eq name [] tt none

unseen : {folder : List ℕ} {seen : List Source} {trees : List Tree} {left : List Wanted} {reads : List Read} {g : Gathered}
    → IsGathered folder seen trees left reads g → AreUnseen seen reads × AreOfOneNameEach reads
unseen finished = (tt, none)
unseen (passed_by is leads) = unseen leads
unseen (one_too_many is many at) = (tt, none)
unseen (went_on {seen = seen} {w = w} {bytes = bytes} {reads = reads} next short read leads) =
    let later = unseen leads in
    let here = before seen (source_of w bytes) reads later.0 in
    ((next.0, here.0), IsDistinct-cons bytes_eq w.name (map (λ (r : Read). r.name) reads) here.1 later.1)
unseen (refused {w = w} next short read) = ((next.0, tt), one w.name)
unseen (absent {w = w} next) = ((next.0, tt), one w.name)
unseen (too_large {w = w} next) = ((next.0, tt), one w.name)
unseen (too_long {w = w} next long) = ((next.0, tt), one w.name)
unseen (failed {w = w} next) = ((next.0, tt), one w.name)
unseen no_memory = (tt, none)
unseen (no_memory_for {w = w} next) = ((next.0, tt), one w.name)

pub one_name_each : (name : List ℕ) (reads : List Read) (g : Gathered) → IsGatheredFrom name reads g → AreOfOneNameEach reads
one_name_each name reads g is = (unseen is).1
