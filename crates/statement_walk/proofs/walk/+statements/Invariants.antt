use Rattle.std.proofs.Common.{drop}
use Rattle.slicc_ast.specs.declared.tree.statement.If.{out-If}
use Rattle.body_meaning.specs.Prelude.{calls_within, reading, all_done}
use Rattle.statement_walk.specs.Prelude.{others_of, otherwise_of}
use Rattle.statement_walk.proofs.Steps.{Leads}
use Rattle.statement_walk.proofs.walk.+statements.Given as goal

abbrev pub invariant-all_done-loop-first : goal.invariant-all_done-loop-first
invariant-all_done-loop-first g l =
    let s = reading l.s in
    let calls = calls_within s l.depth in
    Leads (all_done s calls (drop l.first-index l.statements) l.frame) (g.T.Local.view l.local)
    (all_done s calls l.statements l.initial.frame) (g.T.Local.view l.initial.local)

abbrev pub invariant-others_done-loop-other : goal.invariant-others_done-loop-other
invariant-others_done-loop-other g l =
    let s = reading l.s in
    let calls = calls_within s l.depth in
    let otherwise = otherwise_of s calls (out-If l.i).otherwise in
    Leads (others_of s calls otherwise (drop l.other-index (out-If l.i).others) l.frame) (g.T.Local.view l.local)
    (others_of s calls otherwise (out-If l.i).others l.initial.frame) (g.T.Local.view l.initial.local)
