-- Names for parts of what statements do, each of which a function of this crate does. They say nothing of their own: what each is
-- stands in the definition of the whole statement, with these parts written out.
use Rattle.std.specs.Prelude.{ℕ, ◌+◌, Option, None, Some, List, [], ◌∷◌, codes, length}
use Rattle.slicc_ast.specs.declared.tree.expression.Expr.{Expr}
use Rattle.slicc_ast.specs.declared.tree.statement.Block.{Block}
use Rattle.slicc_ast.specs.declared.tree.statement.ElseIf.{ElseIf}
use Rattle.slicc_ast.specs.declared.tree.statement.If.{If, out-If}
use Rattle.slicc_ast.specs.declared.tree.statement.Stmt.{Stmt}
use Rattle.ruby_value.specs.declared.value.Value.{Value}
use Rattle.acts.specs.Act as act
use Rattle.acts.specs.Prelude.{Acting, ◌>>=◌, ◌>>◌, act as done}
use Rattle.body_meaning.specs.declared.frame.Frame.{Frame}
use Rattle.body_meaning.specs.declared.frame.Scope.{Scope}
use Rattle.body_meaning.specs.declared.thing.Thing.{Thing}
use Rattle.body_meaning.specs.declared.thing.Thing.TheVariants as thing
use Rattle.body_meaning.specs.Prelude.{calls_within, Calls, Ended, bind, leave, outermost, Reading, reading, all_done, block_in, chosen, fields_made, latency, scoped, sent, went_on}

-- the block of `peek`, in which `in_msg` is a message with these fields
abbrev pub viewed : (Frame → Acting Ended) → ℕ → List Value → Frame → Acting Ended
viewed block structure fields frame =
    scoped block (length frame.names) (bind (codes "in_msg") (thing.Message structure fields) frame)

-- these statements, with calls that may be this many inside of one another
abbrev pub done_in : Scope → ℕ → List Stmt → Frame → Acting Ended
done_in s depth statements = all_done (reading s) (calls_within (reading s) depth) statements

module _ (s : Reading) (calls : Calls) where
  -- the sending of what was made in a block that began with n names
  abbrev pub sent_on : ℕ → Option Expr → ℕ → Frame → Acting Ended
  sent_on buffer written n frame =
      latency s calls (leave n frame) written
      >>= (λ l. done (act.Send buffer l (fields_made (outermost (n + 1) frame.names))) >> went_on (leave n frame))

  -- the block of an `enqueue`, in which `out_msg` is this, and the sending
  abbrev pub made_and_sent : (Frame → Acting Ended) → ℕ → Option Expr → Thing → Frame → Acting Ended
  made_and_sent block buffer written t frame =
      block (bind (codes "out_msg") t frame)
      >>= (λ (e : Ended). sent s calls buffer written (length frame.names) e.flow e.frame)

  -- `else`, where there is one
  abbrev pub otherwise_of : Option Block → Frame → Acting Ended
  otherwise_of None = went_on
  otherwise_of (Some b) = block_in (all_done s calls b.statements)

  -- `else if` and what follows it, as a list
  abbrev pub others_of : (Frame → Acting Ended) → List ElseIf → Frame → Acting Ended
  others_of otherwise [] = otherwise
  others_of otherwise (e ∷ es) = chosen s calls e.condition (block_in (all_done s calls e.then.statements)) (others_of otherwise es)

  -- what an `if` does where its condition doesn't hold
  abbrev pub others_of_if : If → Frame → Acting Ended
  others_of_if i = others_of (otherwise_of (out-If i).otherwise) (out-If i).others
