use Rattle.std.proofs.Common.{◌≡◌, IfSome, ◌∙◌, subst, arith}
use Rattle.std.specs.IoError.{error_kind}
use Rattle.std.specs.declared.io.ErrorKind.TheVariants.{OutOfMemory}
use Rattle.ruby_outside.specs.Prelude.{IsReadOf}
use Rattle.ruby_outside.proofs.Whole.{read_right}
use Rattle.ruby_outside.proofs.system.read_whole.Goals as goal

pub returns-clause-told : goal.returns-clause-told
returns-clause-told g c =
    let P : _ → Type 0 = λ file. IfSome (g.F.Read.remaining file) (λ xs. IsReadOf xs c.args.limit c.got_of.result) in
    let right : P c.take.result.inner = read_right (λ fault. error_kind fault ≡ OutOfMemory) _ _ c.args.limit _ c.read_to_end-ended.result _ _ c.read_to_end-ended.ensures.bytes c.got_of.ensures.whole c.got_of.ensures.memory c.got_of.ensures.failed (c.take.ensures.limit ∙ c.saturating_add.ensures) c.new-bytes.ensures.items c.ranges.limit.fits (omega arith) in
    subst P c.take.ensures.inner right
