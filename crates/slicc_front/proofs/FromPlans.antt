-- What files come to, from the answer for their trees.
use Rattle.std.proofs.Common.{◌≡◌, ◌⊎◌, inl, inr, Result, Ok, Err, List, refl, sym, subst}
use Rattle.slicc_ast.specs.declared.tree.item.Tree.{Tree}
use Rattle.slicc_files.specs.declared.gathered.Gathered.TheVariants as gathered
use Rattle.slicc_files.specs.declared.gathered.Source.{Source}
use Rattle.slicc_plan.specs.Prelude.{IsPlanOf}
use Rattle.slicc_plan.specs.AllRules.IsPlanOf.{keeps_all as keeps_rules, breaks_one as breaks_rule, no_memory}
use Rattle.slicc_plan.specs.declared.refusal.Refusal.{Refusal}
use Rattle.slicc_plan.specs.declared.refusal.Refusal.TheVariants as why
use Rattle.slicc_front.specs.declared.answer.Front.{Front}
use Rattle.slicc_front.specs.declared.answer.Front.TheVariants.{Plan, Refused, NoMemory}
use Rattle.slicc_front.specs.Prelude.{IsFrontFor, IsFrontIfRoom, refusal_at, keeps_all, breaks_one, IsToldSo}

abbrev IsLike : List Source → List Tree → Result (List Tree) Refusal → Type 0
IsLike sources trees (Ok plan) = IsFrontFor sources trees (Plan plan)
IsLike sources trees (Err (why.Rule number place other)) =
    IsFrontFor sources trees (Refused (refusal_at sources number place other))
IsLike sources trees (Err why.NoMemory) = Unit {0}

like : (sources : List Source) (trees : List Tree) (a : Result (List Tree) Refusal) → IsPlanOf trees a → IsLike sources trees a
like sources trees a (keeps_rules accepted) = keeps_all accepted
like sources trees a (breaks_rule told) = breaks_one told
like sources trees a no_memory = tt

pub of_plan : (sources : List Source) (trees plan : List Tree) → IsPlanOf trees (Ok plan) → IsFrontIfRoom (gathered.Files sources trees) (Plan plan)
of_plan sources trees plan is = inr (like sources trees (Ok plan) is)

pub of_refusal : (sources : List Source) (trees : List Tree) (r : Refusal) (f : Front) → IsPlanOf trees (Err r) → IsToldSo sources r f → IsFrontIfRoom (gathered.Files sources trees) f
of_refusal sources trees (why.Rule number place other) f is (inl none) = inl none
of_refusal sources trees (why.Rule number place other) f is (inr told) =
    inr (subst (λ (x : Front). IsFrontFor sources trees x) (sym told) (like sources trees (Err (why.Rule number place other)) is))
of_refusal sources trees why.NoMemory f is none = inl none
