-- All answers for a protocol have one common part.
use Rattle.std.proofs.Common.{◌≡◌, ◌≢◌, Result, List, [], ◌∷◌, refl, arith}
use Rattle.slicc_ast.specs.declared.tree.item.Tree.{Tree}
use Rattle.slicc_plan.specs.declared.broken.Broken.{Broken}
use Rattle.slicc_plan.specs.declared.broken.Subject.{Subject}
use Rattle.slicc_plan.specs.declared.broken.Subject.TheVariants.{Declarations, Bodies, Machines}
use Rattle.slicc_plan.specs.declared.refusal.Refusal.{Refusal}
use Rattle.slicc_plan.specs.AllRules.{nothing, keeps_all, breaks_one, no_memory}
use Rattle.slicc_plan.specs.Prelude.{Common, rule, IsAccepted, IsPlanOf, IsToldOf, of_declarations, of_bodies, of_machines, common_part, IsFirstBroken, number_of, rank_in, second_rank, subject_of}
use Rattle.slicc_plan.proofs.Firsts.{first_rank}

abbrev pub rule_at : Broken → Common
rule_at b = rule (number_of b.rule) b.place.file b.place.start (second_rank b.other)

-- where the order looks at the same, the same is told
rule_of_rank : (s t : Subject) (b c : Broken) → rank_in s b ≡ rank_in t c → rule_at b ≡ rule_at c
rule_of_rank Declarations Declarations b c e = cc
rule_of_rank Declarations Bodies b c e = cc
rule_of_rank Declarations Machines b c e = cc
rule_of_rank Bodies Declarations b c e = cc
rule_of_rank Bodies Bodies b c e = cc
rule_of_rank Bodies Machines b c e = cc
rule_of_rank Machines Declarations b c e = cc
rule_of_rank Machines Bodies b c e = cc
rule_of_rank Machines Machines b c e = cc

first_rule : (all : List Broken) (b c : Broken) → IsFirstBroken all b → IsFirstBroken all c → rule_at b ≡ rule_at c
first_rule all b c first other =
    rule_of_rank (subject_of b.rule) (subject_of c.rule) b c (first_rank all b c first other)

-- an empty list has no first
no_first : (all : List Broken) (b : Broken) → all ≡ [] → IsFirstBroken all b → ⊥
no_first [] b e first = let (k, below, same) = first.is_among in omega (arith, below)
no_first (a ∷ all) b e first = cc

pub one_told : (trees : List Tree) (b c : Broken) → IsToldOf trees b → IsToldOf trees c → rule_at b ≡ rule_at c
one_told trees b c (of_declarations first) (of_declarations other) = first_rule _ b c first other
one_told trees b c (of_declarations first) (of_bodies e other) = absurd (no_first _ b e first)
one_told trees b c (of_declarations first) (of_machines e f other) = absurd (no_first _ b e first)
one_told trees b c (of_bodies e first) (of_declarations other) = absurd (no_first _ c e other)
one_told trees b c (of_bodies e first) (of_bodies f other) = first_rule _ b c first other
one_told trees b c (of_bodies e first) (of_machines f g other) = absurd (no_first _ b g first)
one_told trees b c (of_machines e f first) (of_declarations other) = absurd (no_first _ c e other)
one_told trees b c (of_machines e f first) (of_bodies g other) = absurd (no_first _ c f other)
one_told trees b c (of_machines e f first) (of_machines g h other) = first_rule _ b c first other

pub none_told : (trees : List Tree) (b : Broken) → IsAccepted trees → IsToldOf trees b → ⊥
none_told trees b accepted (of_declarations first) = no_first _ b accepted.of_declarations first
none_told trees b accepted (of_bodies e first) = no_first _ b accepted.of_bodies first
none_told trees b accepted (of_machines e f first) = no_first _ b accepted.of_machines first

pub one_answer : (trees : List Tree) (a b : Result (List Tree) Refusal) → IsPlanOf trees a → IsPlanOf trees b → common_part a ≢ nothing → common_part b ≢ nothing → common_part a ≡ common_part b
one_answer trees a b (keeps_all h) (keeps_all k) p q = refl
one_answer trees a b (keeps_all h) (breaks_one {b = c} k) p q = absurd (none_told trees c h k)
one_answer trees a b (keeps_all h) no_memory p q = absurd (q refl)
one_answer trees a b (breaks_one {b = c} h) (keeps_all k) p q = absurd (none_told trees c k h)
one_answer trees a b (breaks_one {b = c} h) (breaks_one {b = d} k) p q = one_told trees c d h k
one_answer trees a b (breaks_one {b = c} h) no_memory p q = absurd (q refl)
one_answer trees a b no_memory k p q = absurd (p refl)
