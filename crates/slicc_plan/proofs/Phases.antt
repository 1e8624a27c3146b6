-- The answers of the phases make up that for the protocol.
use Rattle.std.proofs.Common.{◌≡◌, Ok, Err, Some, None, List, []}
use Rattle.slicc_ast.specs.declared.tree.item.Tree.{Tree}
use Rattle.slicc_plan.specs.declared.broken.Broken.{Broken}
use Rattle.slicc_plan.specs.declared.refusal.Refusal.{Refusal}
use Rattle.slicc_plan.specs.AllRules.{keeps_all, breaks_one, no_memory}
use Rattle.slicc_plan.specs.Prelude.{IsPlanOf, of_declarations, of_bodies, of_machines, broken_bodies, IsAnswered, broken_declarations, broken_machines}
use Rattle.slicc_plan.specs.BrokenDeclarations.{keeps_all as phase_keeps, breaks_one as phase_breaks, no_memory as phase_stops}

kept : (broken : List Broken) → IsAnswered broken None → broken ≡ []
kept broken (phase_keeps e) = e

pub by_declarations : (trees : List Tree) (r : Refusal) → IsAnswered (broken_declarations trees) (Some r) → IsPlanOf trees (Err r)
by_declarations trees r (phase_breaks first) = breaks_one (of_declarations first)
by_declarations trees r phase_stops = no_memory

pub by_bodies : (trees : List Tree) (r : Refusal) → IsAnswered (broken_declarations trees) None → IsAnswered (broken_bodies trees) (Some r) → IsPlanOf trees (Err r)
by_bodies trees r none (phase_breaks first) =
    breaks_one (of_bodies (kept (broken_declarations trees) none) first)
by_bodies trees r none phase_stops = no_memory

pub by_machines : (trees : List Tree) (r : Refusal) → IsAnswered (broken_declarations trees) None → IsAnswered (broken_bodies trees) None → IsAnswered (broken_machines trees) (Some r) → IsPlanOf trees (Err r)
by_machines trees r none none_too (phase_breaks first) =
    breaks_one (of_machines (kept (broken_declarations trees) none) (kept (broken_bodies trees) none_too) first)
by_machines trees r none none_too phase_stops = no_memory

pub by_none : (trees : List Tree) → IsAnswered (broken_declarations trees) None → IsAnswered (broken_bodies trees) None → IsAnswered (broken_machines trees) None → IsPlanOf trees (Ok trees)
by_none trees none none_too none_else =
    keeps_all (record { of_declarations = kept (broken_declarations trees) none; of_bodies = kept (broken_bodies trees) none_too; of_machines = kept (broken_machines trees) none_else })
