use Rattle.acts.proofs.Framed.{frame}
use Rattle.acts.proofs.body_laws.what_comes_later_changes_nothing.Goals as goal

pub returns : goal.returns
returns g c = λ p v more. frame more p v
