use Rattle.std.proofs.Common.{List, [], subst, refl, arith, rules, IsSomeAnd, codes}
use Rattle.std.specs.List.{slice_get}
use Rattle.slicc_files.specs.declared.gathered.Source.{Source}
use Rattle.slicc_files.specs.Prelude.{IsRefusalOf, in_order}
use Rattle.slicc_files.proofs.Stepping.{passes_by, too_many}
use Rattle.slicc_files.proofs.gathering.enter.Goals as goal

pub returns-then-is_seen-clause-reads : goal.returns-then-is_seen-clause-reads
returns-then-is_seen-clause-reads g c =
    ([], refl, passes_by c.args.folder.now c.args.state.now c.args.next (search rules))

pub returns-then-len-ge-MOST_FILES-clause-reads : goal.returns-then-len-ge-MOST_FILES-clause-reads
returns-then-len-ge-MOST_FILES-clause-reads g c =
    let P : List Source → Type 0 = λ sources. IsSomeAnd (slice_get sources c.args.next.file) (λ source. IsRefusalOf source c.args.next.offset (codes "R3") c.one_too_many.result) in (
      [],
      refl,
      too_many c.args.folder.now c.args.state.now c.args.next (in_order c.args.state.now) (slice_get c.args.state.now.sources c.args.next.file) c.one_too_many.result
          (search rules) (omega arith) refl (subst P c.as_slice-then-len-ge-MOST_FILES.ensures c.one_too_many.ensures),
    )
