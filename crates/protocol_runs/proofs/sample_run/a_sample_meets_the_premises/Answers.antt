use Rattle.std.proofs.Common.{ℕ, Option, None, Some, refl}
use Rattle.protocol_runs.specs.Prelude.{Ran, run as run_of, start, step, sample_history, sample_rules, taking}
use Rattle.ctl_face.specs.Prelude.{Ctl}
use Rattle.acts.specs.Prelude.{act, either, run, ◌>>=◌, ◌>>◌, does}
use Rattle.protocol_runs.proofs.Sample.{sample-means}
use Rattle.protocol_runs.proofs.sample_run.a_sample_meets_the_premises.Goals as goal

abbrev ran : Option (Ran Ctl ℕ) → Ran Ctl ℕ
ran None = start sample_rules
ran (Some r) = r

pub returns-clause-meaning : goal.returns-clause-meaning
returns-clause-meaning c = sample-means

pub returns-clause-run : goal.returns-clause-run
unfolding step act either run ◌>>=◌ ◌>>◌ does taking
returns-clause-run c =
    let r = ran (run_of sample_rules sample_history) in
    (r.world, r.journal, record { is_run = refl; consumed = refl; ends = refl })
