-- What files were read as comes to one thing.
use Rattle.std.proofs.Common.{◌≡◌, ◌∙◌, ℕ, Option, None, Some, List, refl, sym, ap}
use Rattle.std.specs.Option.{option_map}
use Rattle.std.specs.List.{slice_get}
use Rattle.slicc_ast.specs.declared.tree.item.Tree.{Tree}
use Rattle.slicc_ast.specs.declared.tree.span.Span.{Span}
use Rattle.slicc_files.specs.declared.gathered.Gathered.{Gathered}
use Rattle.slicc_files.specs.declared.gathered.Gathered.TheVariants as gathered
use Rattle.slicc_files.specs.declared.gathered.Source.{Source}
use Rattle.slicc_plan.specs.declared.broken.Broken.{Broken}
use Rattle.slicc_plan.specs.Prelude.{IsToldOf, number_of, second_rank}
use Rattle.slicc_plan.proofs.OneAnswer.{none_told, one_told, rule_at}
use Rattle.slicc_front.specs.declared.answer.Front.{Front}
use Rattle.slicc_front.specs.declared.answer.Front.TheVariants.{Plan, Refused}
use Rattle.slicc_front.specs.Prelude.{IsFrontFor, IsFrontOf, place_in, place_of, refusal_at, keeps_all, breaks_one}

-- spans that begin at one byte have one place
one_place : (sources : List Source) (p q : Span) → p.file ≡ q.file → p.start ≡ q.start → place_of sources p ≡ place_of sources q
one_place sources p q file start =
    ap (λ (n : ℕ). place_in (slice_get sources n) p.start) file ∙ ap (λ (n : ℕ). place_in (slice_get sources q.file) n) start

one_second : (sources : List Source) (o p : Option Span) → second_rank o ≡ second_rank p → option_map (place_of sources) o ≡ option_map (place_of sources) p
one_second sources None None same = refl
one_second sources None (Some q) same = absurd (cc same)
one_second sources (Some p) None same = absurd (cc same)
one_second sources (Some p) (Some q) same = ap Some (one_place sources p q (cc same) (cc same))

one_refusal : (sources : List Source) (b c : Broken) → rule_at b ≡ rule_at c
    → refusal_at sources (number_of b.rule) b.place b.other ≡ refusal_at sources (number_of c.rule) c.place c.other
one_refusal sources b c same =
    let number : number_of b.rule ≡ number_of c.rule = cc same in
    let place : place_of sources b.place ≡ place_of sources c.place = one_place sources b.place c.place (cc same) (cc same) in
    let other : option_map (place_of sources) b.other ≡ option_map (place_of sources) c.other = one_second sources b.other c.other (cc same) in
    cc (number, place, other)

one_for : (sources : List Source) (trees : List Tree) (f h : Front) → IsFrontFor sources trees f → IsFrontFor sources trees h → f ≡ h
one_for sources trees f h (keeps_all accepted) (keeps_all also) = refl
one_for sources trees f h (keeps_all accepted) (breaks_one {b = c} told) = absurd (none_told trees c accepted told)
one_for sources trees f h (breaks_one {b = b} told) (keeps_all accepted) = absurd (none_told trees b accepted told)
one_for sources trees f h (breaks_one {b = b} told) (breaks_one {b = c} also) =
    ap Refused (one_refusal sources b c (one_told trees b c told also))

pub one_front : (g : Gathered) (f h : Front) → IsFrontOf g f → IsFrontOf g h → f ≡ h
one_front (gathered.Files sources trees) f h is also = one_for sources trees f h is also
one_front (gathered.Refused refusal) f h is also = is ∙ sym also
one_front (gathered.Absent name) f h is also = is ∙ sym also
one_front (gathered.TooLarge name) f h is also = is ∙ sym also
one_front (gathered.ReadFault name) f h is also = is ∙ sym also
one_front gathered.NoMemory f h is also = absurd is
