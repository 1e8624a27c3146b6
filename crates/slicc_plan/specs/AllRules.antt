-- All rules of a protocol at once, and what may be answered for a protocol: its plan where it keeps them, else the first rule
-- that it breaks. The rules are judged in three phases, and one that is broken in an earlier phase is told: those of
-- declarations, those of bodies, those of machines. A plan is seen as the trees of the protocol's files in the order of reading.
use Rattle.std.specs.Prelude.{ℕ, ◌≡◌, ◌++◌, Result, Ok, Err, All, List, [], map}
use Rattle.slicc_ast.specs.Prelude.{Outline, shape_of, tree}
use Rattle.slicc_ast.specs.declared.tree.item.Tree.{Tree}
use Rattle.slicc_plan.specs.declared.broken.Broken.{Broken}
use Rattle.slicc_plan.specs.declared.broken.Subject.{Subject}
use Rattle.slicc_plan.specs.declared.refusal.Refusal.{Refusal}
use Rattle.slicc_plan.specs.declared.refusal.Refusal.TheVariants.{Rule, NoMemory}
use Rattle.slicc_plan.specs.BrokenBodies.{broken_bodies}
use Rattle.slicc_plan.specs.BrokenDeclarations.{broken_declarations, refusal_of}
use Rattle.slicc_plan.specs.BrokenMachines.{broken_machines}
use Rattle.slicc_plan.specs.Order.{second_rank, IsFirstBroken, subject_of}

-- the protocol keeps all rules
pub record IsAccepted (trees : List Tree) : Type 0 where
  pub of_declarations : broken_declarations trees ≡ []
  pub of_bodies : broken_bodies trees ≡ []
  pub of_machines : broken_machines trees ≡ []

-- of the rules that the protocol breaks this one is told
pub data IsToldOf (trees : List Tree) (b : Broken) : Type 0 where
  of_declarations : IsFirstBroken (broken_declarations trees) b → IsToldOf trees b
  of_bodies : broken_declarations trees ≡ [] → IsFirstBroken (broken_bodies trees) b → IsToldOf trees b
  of_machines :
      broken_declarations trees ≡ [] → broken_bodies trees ≡ [] → IsFirstBroken (broken_machines trees) b → IsToldOf trees b

-- What may be answered for these trees.
pub data IsPlanOf (trees : List Tree) : Result (List Tree) Refusal → Type 0 where
  keeps_all : IsAccepted trees → IsPlanOf trees (Ok trees)
  breaks_one : {b : Broken} → IsToldOf trees b → IsPlanOf trees (Err (refusal_of b))
  -- memory may run out at any time
  no_memory : IsPlanOf trees (Err NoMemory)

-- What all answers but that of no memory have in common: the plan, or the number of the rule with its place and its second one, if
-- any, each by its file and its first byte. Where several that break one rule begin at that byte, as an expression and the name at
-- its front, any may be told.
pub data Common : Type 0 where
  plan : List Tree → Common
  rule : ℕ → ℕ → ℕ → List ℕ → Common
  nothing : Common

abbrev pub common_part : Result (List Tree) Refusal → Common
common_part (Ok trees) = plan trees
common_part (Err (Rule number place other)) = rule number place.file place.start (second_rank other)
common_part (Err NoMemory) = nothing

-- these broken rules are all about this
abbrev pub AreAbout : Subject → List Broken → Type 0
AreAbout subject broken = All (λ (b : Broken). subject_of b.rule ≡ subject) broken

-- all that a protocol breaks, in no order
abbrev pub broken_rules : List Tree → List Broken
broken_rules trees = broken_declarations trees ++ broken_bodies trees ++ broken_machines trees

-- what plans of one protocol have in common: its trees, spans left aside
abbrev pub shapes_of : List Tree → List Outline
shapes_of trees = map (λ (t : Tree). shape_of (tree t)) trees
