use Rattle.std.proofs.Common.{ℕ, List, Ok, length, subst}
use Rattle.slicc_files.specs.Prelude.{IsReadText}
use Rattle.slicc_files.proofs.gathering.take_in.Goals as goal

pub returns-in-Ok-add : goal.returns-in-Ok-add
returns-in-Ok-add c =
    let P : ℕ → Type 0 = λ n. IsReadText n c.as_slice.result.now (Ok c.in-Ok.tree) in
    let Q : List ℕ → Type 0 = λ bytes. IsReadText (length c.args.state.now.sources) bytes (Ok c.in-Ok.tree) in
    record { tree = c.in-Ok.tree; read = subst Q c.as_slice.ensures (subst P c.len-file.ensures c.in-Ok.ensures); sources = c.in-Ok-add.ensures.sources; trees = c.in-Ok-add.ensures.trees; left = c.in-Ok-add.ensures.left }
