use Rattle.std.proofs.Common.{◌≤◌, [], refl, subst, sym, All, length}
use Rattle.std.proofs.lemmas.List.Elements.{All-nil}
use Rattle.slicc_files.specs.Prelude.{IsAllowed, no_memory, file_limit}
use Rattle.slicc_files.specs.declared.gathered.Source.{Source}
use Rattle.slicc_files.proofs.Ways.{all_allowed, all_short}
use Rattle.slicc_files.proofs.gathering.gather.Goals as goal

pub returns-in-Err-clause-reads : goal.returns-in-Err-clause-reads
returns-in-Err-clause-reads g c = ([], refl, no_memory)

pub returns-in-Ok-clause-allowed : goal.returns-in-Ok-clause-allowed
returns-in-Ok-clause-allowed g c = all_allowed c.follow.ensures.2 (subst (All IsAllowed) (sym c.in-Ok.ensures.trees) (All-nil IsAllowed))

pub returns-in-Ok-clause-short : goal.returns-in-Ok-clause-short
returns-in-Ok-clause-short g c =
    let P : Source → Type 0 = λ s. length s.bytes ≤ file_limit in
    all_short c.follow.ensures.2 (subst (All P) (sym c.in-Ok.ensures.sources) (All-nil P))
