-- What taking makes of one answer and the rest of them.
use Rattle.std.specs.Prelude.{◌≡◌, Option, None, Some, List, [], ◌∷◌, refl}
use Rattle.ruby_value.specs.declared.fault.Finding.{Finding}
use Rattle.random_tester.specs.State.{State}
use Rattle.random_tester.specs.Turn.{Finished, Took, and_before, judged, took, took_first}

pub took-none : (t : State) → took t [] ≡ record { tester = t; taken = []; finding = None }
unfolding took
took-none t = refl

on : (f : Finished) (t : State) (o : Option Finding) (rest : State → Took) → o ≡ None → took_first f t o rest ≡ and_before f (rest t)
on f t None rest is = refl
on f t (Some x) rest is = absurd (cc is)

pub took-on : (t : State) (f : Finished) (rest : List Finished) → (judged t f).finding ≡ None
    → took t (f ∷ rest) ≡ and_before f (took (judged t f).tester rest)
unfolding took
took-on t f rest is = on f (judged t f).tester (judged t f).finding (λ after. took after rest) is

abbrev pub stopped : Finished → State → Option Finding → Took
stopped f t o = record { tester = t; taken = record { seat = f.seat; answer = f.answer } ∷ []; finding = o }

stop : (f : Finished) (t : State) (o : Option Finding) (x : Finding) (rest : State → Took) → o ≡ Some x → took_first f t o rest ≡ stopped f t o
stop f t None x rest is = absurd (cc is)
stop f t (Some y) x rest is = refl

pub took-stop : (t : State) (f : Finished) (rest : List Finished) (x : Finding) → (judged t f).finding ≡ Some x
    → took t (f ∷ rest) ≡ stopped f (judged t f).tester (judged t f).finding
unfolding took
took-stop t f rest x is = stop f (judged t f).tester (judged t f).finding x (λ after. took after rest) is
