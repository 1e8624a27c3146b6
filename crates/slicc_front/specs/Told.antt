-- How a refused protocol is answered, as the functions of this crate say it.
use Rattle.std.specs.Prelude.{◌≡◌, ◌⊎◌, List}
use Rattle.slicc_files.specs.declared.gathered.Source.{Source}
use Rattle.slicc_plan.specs.declared.refusal.Refusal.{Refusal}
use Rattle.slicc_plan.specs.declared.refusal.Refusal.TheVariants as why
use Rattle.slicc_front.specs.declared.answer.Front.{Front}
use Rattle.slicc_front.specs.declared.answer.Front.TheVariants.{Refused, NoMemory}
use Rattle.slicc_front.specs.Fronts.{refusal_at}

-- with the places of the rule in these files, unless memory ran out
abbrev pub IsToldSo : List Source → Refusal → Front → Type 0
IsToldSo sources (why.Rule number place other) f =
    (f ≡ NoMemory) ⊎ (f ≡ Refused (refusal_at sources number place other))
IsToldSo sources why.NoMemory f = f ≡ NoMemory
