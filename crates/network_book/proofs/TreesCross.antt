-- Trees and what they are made of may go between threads, and be shared among them: whatever one of them owns is its own. A search finds it of each
-- type by those of its parts; of types that contain each other it is shown for one layer.
use denote.Enum.Declared as enum
use denote.Enum.Enum.{Enum}
use denote.Param.Send.{IsSend, IsSync, LiveAt, SendAt, SyncAt, enum_send_at, enum_sync_at, recorded_send_of, sendable}
use Rattle.std.proofs.Common.{None, Some}
use denote.Param.SendFields.{declared_send, declared_sync, variants_send, variants_sync}
use denote.RattleType.{RattleType}
use denote.Hole.FixSend.{Sends, Syncs, fix_send, fix_sync}
use Rattle.std.proofs.Crossing.{crosses, Vec-send, Vec-sync, Box-send, Box-sync}
use denote.Builtin.{u8}
use denote.Hole.{as_row}
use Rattle.std.specs.contracts.option.Option as Option
use Rattle.ruby_base.specs.contracts.seq.Seq as Seq
use Rattle.ruby_base.specs.contracts.boxed.Boxed as Boxed
use Rattle.slicc_ast.specs.contracts.tree.balanced.Part.TheKnot as balanced
use Rattle.slicc_ast.specs.declared.tree.balanced.Part.TheBlock as in_balanced
use Rattle.slicc_ast.specs.contracts.tree.expression.Expr.TheKnot as expression
use Rattle.slicc_ast.specs.declared.tree.expression.Expr.TheBlock as in_expression
use Rattle.slicc_ast.specs.contracts.tree.statement.Stmt.TheKnot as statement
use Rattle.slicc_ast.specs.declared.tree.statement.Stmt.TheBlock as in_statement
use Rattle.slicc_ast.specs.contracts.tree.span.Span as Span
use Rattle.slicc_ast.specs.contracts.tree.name.Name as Name
use Rattle.slicc_ast.specs.contracts.tree.name.TypeName as TypeName
use Rattle.slicc_ast.specs.contracts.tree.token.TokenKind as TokenKind
use Rattle.slicc_ast.specs.contracts.tree.balanced.Balanced as Balanced
use Rattle.slicc_ast.specs.contracts.tree.expression.Operator as Operator
use Rattle.slicc_ast.specs.contracts.tree.expression.Expr as Expr
use Rattle.slicc_ast.specs.contracts.tree.declaration.Pairs as Pairs
use Rattle.slicc_ast.specs.contracts.tree.declaration.Symbol as Symbol
use Rattle.slicc_ast.specs.contracts.tree.declaration.Enumeration as Enumeration
use Rattle.slicc_ast.specs.contracts.tree.declaration.State as State
use Rattle.slicc_ast.specs.contracts.tree.declaration.States as States
use Rattle.slicc_ast.specs.contracts.tree.declaration.Formal as Formal
use Rattle.slicc_ast.specs.contracts.tree.declaration.Formals as Formals
use Rattle.slicc_ast.specs.contracts.tree.declaration.Skipped as Skipped
use Rattle.slicc_ast.specs.contracts.tree.declaration.Member as Member
use Rattle.slicc_ast.specs.contracts.tree.declaration.Structure as Structure
use Rattle.slicc_ast.specs.contracts.tree.declaration.Function as Function
use Rattle.slicc_ast.specs.contracts.tree.statement.PrintWord as PrintWord
use Rattle.slicc_ast.specs.contracts.tree.statement.Block as Block
use Rattle.slicc_ast.specs.contracts.tree.machine.Literal as Literal
use Rattle.slicc_ast.specs.contracts.tree.machine.Parameter as Parameter
use Rattle.slicc_ast.specs.contracts.tree.machine.OutPort as OutPort
use Rattle.slicc_ast.specs.contracts.tree.machine.InPort as InPort
use Rattle.slicc_ast.specs.contracts.tree.machine.Action as Action
use Rattle.slicc_ast.specs.contracts.tree.machine.NextState as NextState
use Rattle.slicc_ast.specs.contracts.tree.machine.Names as Names
use Rattle.slicc_ast.specs.contracts.tree.machine.Transition as Transition
use Rattle.slicc_ast.specs.contracts.tree.machine.Object as Object
use Rattle.slicc_ast.specs.contracts.tree.machine.Decl as Decl
use Rattle.slicc_ast.specs.contracts.tree.machine.Machine as Machine
use Rattle.slicc_ast.specs.contracts.tree.item.Item as Item
use Rattle.slicc_ast.specs.contracts.tree.item.Tree as Tree

pub seq-send : (R : RattleType) → IsSend R → IsSend (Seq.the_row R)
seq-send R s = record {
  owned = λ d vs x. ((λ vss. (tt, ((Vec-send R s).owned x.0.items vss.0, tt))), tt);
  leaving = λ k d w. tt;
}

pub seq-sync : (R : RattleType) → IsSync R → IsSync (Seq.the_row R)
seq-sync R s = record { shared = λ d b o κ x. ((((Vec-sync R s).shared x.0.items b _ κ, tt), λ q. tt), tt) }

pub boxed-send : (R : RattleType) → IsSend R → IsSend (Boxed.the_row R)
boxed-send R s = record {
  owned = λ d vs x. ((λ vss. (tt, ((Box-send R s).owned x.0.inner vss.0, tt))), tt);
  leaving = λ k d w. tt;
}

pub boxed-sync : (R : RattleType) → IsSync R → IsSync (Boxed.the_row R)
boxed-sync R s = record { shared = λ d b o κ x. ((((Box-sync R s).shared x.0.inner b _ κ, tt), λ q. tt), tt) }

pub span-send : IsSend Span.the_row
span-send = search (sendable, crosses) depth 60

pub span-sync : IsSync Span.the_row
span-sync = search (sendable, crosses) depth 60

pub name-send : IsSend Name.the_row
name-send = search (sendable, crosses) depth 60

pub name-sync : IsSync Name.the_row
name-sync = search (sendable, crosses) depth 60

pub type-name-send : IsSend TypeName.the_row
type-name-send = search (sendable, crosses) depth 60

pub type-name-sync : IsSync TypeName.the_row
type-name-sync = search (sendable, crosses) depth 60

pub token-send : IsSend TokenKind.the_row
token-send = search (sendable, crosses) depth 60 fits 20000

pub token-sync : IsSync TokenKind.the_row
token-sync = search (sendable, crosses) depth 60 fits 20000

pub operator-send : IsSend Operator.the_row
operator-send = search (sendable, crosses) depth 60

pub operator-sync : IsSync Operator.the_row
operator-sync = search (sendable, crosses) depth 60

pub printword-send : IsSend PrintWord.the_row
printword-send = search (sendable, crosses) depth 60

pub printword-sync : IsSync PrintWord.the_row
printword-sync = search (sendable, crosses) depth 60

pub pairs-send : IsSend Pairs.the_row
pairs-send = search (sendable, crosses, span-send, name-send) depth 60 fits 5000

pub pairs-sync : IsSync Pairs.the_row
pairs-sync = search (sendable, crosses, span-sync, name-sync) depth 60 fits 5000

pub text-send : IsSend (Seq.the_row u8)
text-send = seq-send u8 (search sendable)

pub text-sync : IsSync (Seq.the_row u8)
text-sync = seq-sync u8 (search sendable)

option-sends : (R : RattleType) → IsSend R → (d : (Option.the_type R).D) → LiveAt SendAt (enum.shape (Option.the_type R)).variants ((Option.the_type R).to d)
option-sends R s None = tt
option-sends R s (Some x) = ((s.owned x, λ k. s.leaving k x), tt)

pub option-send : (R : RattleType) → IsSend R → IsSend (Option.the_row R)
option-send R s =
    let T = Option.the_type R in
    recorded_send_of (Enum (enum.shape T)) T.D T.to T.to_one (λ d. enum_send_at (enum.shape T) (T.to d) (option-sends R s d))

option-syncs : (R : RattleType) → IsSync R → (d : (Option.the_type R).D) → LiveAt SyncAt (enum.shape (Option.the_type R)).variants ((Option.the_type R).to d)
option-syncs R s None = tt
option-syncs R s (Some x) = (s.shared x, tt)

pub option-sync : (R : RattleType) → IsSync R → IsSync (Option.the_row R)
option-sync R s = let T = Option.the_type R in record { shared = λ d. enum_sync_at (enum.shape T) (T.to d) (option-syncs R s d) }

text_field-send : IsSend (as_row (Seq.the_field u8))
text_field-send = text-send

text_field-sync : IsSync (as_row (Seq.the_field u8))
text_field-sync = text-sync

option_text-send : IsSend (Option.the_row (Seq.the_row u8))
option_text-send = search (sendable, crosses, text-send) depth 30 fits 5000

option_text-sync : IsSync (Option.the_row (Seq.the_row u8))
option_text-sync = search (sendable, crosses, text-sync) depth 30 fits 5000

balanced-send-step : (i : in_balanced.the_members) → Sends balanced.ring i
balanced-send-step in_balanced.member-Balanced = record {
  send = λ h all.
      let seq_Part = seq-send (h in_balanced.member-Part) (all in_balanced.member-Part) in
      declared_send (balanced.type-Balanced (h in_balanced.member-Part))
      (search (sendable, crosses, seq_Part, token-send, span-send) depth 40 fits 5000);
}
balanced-send-step in_balanced.member-Part = record {
  send = λ h all.
      let of_Balanced : IsSend (h in_balanced.member-Balanced) = all in_balanced.member-Balanced in
      variants_send (balanced.type-Part (h in_balanced.member-Balanced) (h in_balanced.member-Balanced) (h in_balanced.member-Balanced))
      (search (sendable, crosses, of_Balanced, token-send, span-send) depth 40 fits 5000);
}

balanced-sync-step : (i : in_balanced.the_members) → Syncs balanced.ring i
balanced-sync-step in_balanced.member-Balanced = record {
  sync = λ h all.
      let seq_Part = seq-sync (h in_balanced.member-Part) (all in_balanced.member-Part) in
      declared_sync (balanced.type-Balanced (h in_balanced.member-Part))
      (search (sendable, crosses, seq_Part, token-sync, span-sync) depth 40 fits 5000);
}
balanced-sync-step in_balanced.member-Part = record {
  sync = λ h all.
      let of_Balanced : IsSync (h in_balanced.member-Balanced) = all in_balanced.member-Balanced in
      variants_sync (balanced.type-Part (h in_balanced.member-Balanced) (h in_balanced.member-Balanced) (h in_balanced.member-Balanced))
      (search (sendable, crosses, of_Balanced, token-sync, span-sync) depth 40 fits 5000);
}

pub balanced-send : IsSend Balanced.the_row
balanced-send = let Balanced_ = fix_send balanced.ring balanced-send-step in_balanced.member-Balanced in let Part_ = fix_send balanced.ring balanced-send-step in_balanced.member-Part in search (sendable, crosses) depth 60 fits 20000

pub balanced-sync : IsSync Balanced.the_row
balanced-sync = let Balanced_ = fix_sync balanced.ring balanced-sync-step in_balanced.member-Balanced in let Part_ = fix_sync balanced.ring balanced-sync-step in_balanced.member-Part in search (sendable, crosses) depth 60 fits 20000

expression-send-step : (i : in_expression.the_members) → Sends expression.ring i
expression-send-step in_expression.member-Expr = record {
  send = λ h all.
      let boxed_Expr = boxed-send (h in_expression.member-Expr) (all in_expression.member-Expr) in
      let seq_Operand = seq-send (h in_expression.member-Operand) (all in_expression.member-Operand) in
      let seq_Suffix = seq-send (h in_expression.member-Suffix) (all in_expression.member-Suffix) in
      let of_Args : IsSend (h in_expression.member-Args) = all in_expression.member-Args in
      variants_send (expression.type-Expr (h in_expression.member-Expr) (h in_expression.member-Operand) (h in_expression.member-Expr) (h in_expression.member-Expr) (h in_expression.member-Expr) (h in_expression.member-Suffix) (h in_expression.member-Args) (h in_expression.member-Expr) (h in_expression.member-Expr) (h in_expression.member-Expr) (h in_expression.member-Expr)) (
        search (sendable, crosses, boxed_Expr, seq_Operand, seq_Suffix, of_Args, span-send, name-send, type-name-send, operator-send, text-send, option_text-send) depth 40 fits 5000,
        (
          search (sendable, crosses, boxed_Expr, seq_Operand, seq_Suffix, of_Args, span-send, name-send, type-name-send, operator-send, text-send, option_text-send) depth 40 fits 5000,
          (
            search (sendable, crosses, boxed_Expr, seq_Operand, seq_Suffix, of_Args, span-send, name-send, type-name-send, operator-send, text-send, option_text-send) depth 40 fits 5000,
            (
              search (sendable, crosses, boxed_Expr, seq_Operand, seq_Suffix, of_Args, span-send, name-send, type-name-send, operator-send, text-send, option_text-send) depth 40 fits 5000,
              (
                search (sendable, crosses, boxed_Expr, seq_Operand, seq_Suffix, of_Args, span-send, name-send, type-name-send, operator-send, text-send, option_text-send) depth 40 fits 5000,
                (
                  search (sendable, crosses, boxed_Expr, seq_Operand, seq_Suffix, of_Args, span-send, name-send, type-name-send, operator-send, text-send, option_text-send) depth 40 fits 5000,
                  (
                    search (sendable, crosses, boxed_Expr, seq_Operand, seq_Suffix, of_Args, span-send, name-send, type-name-send, operator-send, text-send, option_text-send) depth 40 fits 5000,
                    (
                      search (sendable, crosses, boxed_Expr, seq_Operand, seq_Suffix, of_Args, span-send, name-send, type-name-send, operator-send, text-send, option_text-send) depth 40 fits 5000,
                      (
                        search (sendable, crosses, boxed_Expr, seq_Operand, seq_Suffix, of_Args, span-send, name-send, type-name-send, operator-send, text-send, option_text-send) depth 40 fits 5000,
                        (
                          search (sendable, crosses, boxed_Expr, seq_Operand, seq_Suffix, of_Args, span-send, name-send, type-name-send, operator-send, text-send, option_text-send) depth 40 fits 5000,
                          (
                            search (sendable, crosses, boxed_Expr, seq_Operand, seq_Suffix, of_Args, span-send, name-send, type-name-send, operator-send, text-send, option_text-send) depth 40 fits 5000,
                            (
                              search (sendable, crosses, boxed_Expr, seq_Operand, seq_Suffix, of_Args, span-send, name-send, type-name-send, operator-send, text-send, option_text-send) depth 40 fits 5000,
                              (
                                search (sendable, crosses, boxed_Expr, seq_Operand, seq_Suffix, of_Args, span-send, name-send, type-name-send, operator-send, text-send, option_text-send) depth 40 fits 5000,
                                (
                                  search (sendable, crosses, boxed_Expr, seq_Operand, seq_Suffix, of_Args, span-send, name-send, type-name-send, operator-send, text-send, option_text-send) depth 40 fits 5000,
                                  (
                                    search (sendable, crosses, boxed_Expr, seq_Operand, seq_Suffix, of_Args, span-send, name-send, type-name-send, operator-send, text-send, option_text-send) depth 40 fits 5000,
                                    (
                                      search (sendable, crosses, boxed_Expr, seq_Operand, seq_Suffix, of_Args, span-send, name-send, type-name-send, operator-send, text-send, option_text-send) depth 40 fits 5000,
                                      tt,
                                    ),
                                  ),
                                ),
                              ),
                            ),
                          ),
                        ),
                      ),
                    ),
                  ),
                ),
              ),
            ),
          ),
        ),
      );
}
expression-send-step in_expression.member-Operand = record {
  send = λ h all.
      let of_Expr : IsSend (h in_expression.member-Expr) = all in_expression.member-Expr in
      declared_send (expression.type-Operand (h in_expression.member-Expr))
      (search (sendable, crosses, of_Expr, span-send, name-send, type-name-send, operator-send, text-send, option_text-send) depth 40 fits 5000);
}
expression-send-step in_expression.member-Suffix = record {
  send = λ h all.
      let of_Args : IsSend (h in_expression.member-Args) = all in_expression.member-Args in
      let of_Expr : IsSend (h in_expression.member-Expr) = all in_expression.member-Expr in
      variants_send (expression.type-Suffix (h in_expression.member-Args) (h in_expression.member-Expr))
      (search (sendable, crosses, of_Args, of_Expr, span-send, name-send, type-name-send, operator-send, text-send, option_text-send) depth 40 fits 5000);
}
expression-send-step in_expression.member-Args = record {
  send = λ h all.
      let seq_Expr = seq-send (h in_expression.member-Expr) (all in_expression.member-Expr) in
      declared_send (expression.type-Args (h in_expression.member-Expr))
      (search (sendable, crosses, seq_Expr, span-send, name-send, type-name-send, operator-send, text-send, option_text-send) depth 40 fits 5000);
}

expression-sync-step : (i : in_expression.the_members) → Syncs expression.ring i
expression-sync-step in_expression.member-Expr = record {
  sync = λ h all.
      let boxed_Expr = boxed-sync (h in_expression.member-Expr) (all in_expression.member-Expr) in
      let seq_Operand = seq-sync (h in_expression.member-Operand) (all in_expression.member-Operand) in
      let seq_Suffix = seq-sync (h in_expression.member-Suffix) (all in_expression.member-Suffix) in
      let of_Args : IsSync (h in_expression.member-Args) = all in_expression.member-Args in
      variants_sync (expression.type-Expr (h in_expression.member-Expr) (h in_expression.member-Operand) (h in_expression.member-Expr) (h in_expression.member-Expr) (h in_expression.member-Expr) (h in_expression.member-Suffix) (h in_expression.member-Args) (h in_expression.member-Expr) (h in_expression.member-Expr) (h in_expression.member-Expr) (h in_expression.member-Expr)) (
        search (sendable, crosses, boxed_Expr, seq_Operand, seq_Suffix, of_Args, span-sync, name-sync, type-name-sync, operator-sync, text-sync, option_text-sync) depth 40 fits 5000,
        (
          search (sendable, crosses, boxed_Expr, seq_Operand, seq_Suffix, of_Args, span-sync, name-sync, type-name-sync, operator-sync, text-sync, option_text-sync) depth 40 fits 5000,
          (
            search (sendable, crosses, boxed_Expr, seq_Operand, seq_Suffix, of_Args, span-sync, name-sync, type-name-sync, operator-sync, text-sync, option_text-sync) depth 40 fits 5000,
            (
              search (sendable, crosses, boxed_Expr, seq_Operand, seq_Suffix, of_Args, span-sync, name-sync, type-name-sync, operator-sync, text-sync, option_text-sync) depth 40 fits 5000,
              (
                search (sendable, crosses, boxed_Expr, seq_Operand, seq_Suffix, of_Args, span-sync, name-sync, type-name-sync, operator-sync, text-sync, option_text-sync) depth 40 fits 5000,
                (
                  search (sendable, crosses, boxed_Expr, seq_Operand, seq_Suffix, of_Args, span-sync, name-sync, type-name-sync, operator-sync, text-sync, option_text-sync) depth 40 fits 5000,
                  (
                    search (sendable, crosses, boxed_Expr, seq_Operand, seq_Suffix, of_Args, span-sync, name-sync, type-name-sync, operator-sync, text-sync, option_text-sync) depth 40 fits 5000,
                    (
                      search (sendable, crosses, boxed_Expr, seq_Operand, seq_Suffix, of_Args, span-sync, name-sync, type-name-sync, operator-sync, text-sync, option_text-sync) depth 40 fits 5000,
                      (
                        search (sendable, crosses, boxed_Expr, seq_Operand, seq_Suffix, of_Args, span-sync, name-sync, type-name-sync, operator-sync, text-sync, option_text-sync) depth 40 fits 5000,
                        (
                          search (sendable, crosses, boxed_Expr, seq_Operand, seq_Suffix, of_Args, span-sync, name-sync, type-name-sync, operator-sync, text-sync, option_text-sync) depth 40 fits 5000,
                          (
                            search (sendable, crosses, boxed_Expr, seq_Operand, seq_Suffix, of_Args, span-sync, name-sync, type-name-sync, operator-sync, text-sync, option_text-sync) depth 40 fits 5000,
                            (
                              search (sendable, crosses, boxed_Expr, seq_Operand, seq_Suffix, of_Args, span-sync, name-sync, type-name-sync, operator-sync, text-sync, option_text-sync) depth 40 fits 5000,
                              (
                                search (sendable, crosses, boxed_Expr, seq_Operand, seq_Suffix, of_Args, span-sync, name-sync, type-name-sync, operator-sync, text-sync, option_text-sync) depth 40 fits 5000,
                                (
                                  search (sendable, crosses, boxed_Expr, seq_Operand, seq_Suffix, of_Args, span-sync, name-sync, type-name-sync, operator-sync, text-sync, option_text-sync) depth 40 fits 5000,
                                  (
                                    search (sendable, crosses, boxed_Expr, seq_Operand, seq_Suffix, of_Args, span-sync, name-sync, type-name-sync, operator-sync, text-sync, option_text-sync) depth 40 fits 5000,
                                    (
                                      search (sendable, crosses, boxed_Expr, seq_Operand, seq_Suffix, of_Args, span-sync, name-sync, type-name-sync, operator-sync, text-sync, option_text-sync) depth 40 fits 5000,
                                      tt,
                                    ),
                                  ),
                                ),
                              ),
                            ),
                          ),
                        ),
                      ),
                    ),
                  ),
                ),
              ),
            ),
          ),
        ),
      );
}
expression-sync-step in_expression.member-Operand = record {
  sync = λ h all.
      let of_Expr : IsSync (h in_expression.member-Expr) = all in_expression.member-Expr in
      declared_sync (expression.type-Operand (h in_expression.member-Expr))
      (search (sendable, crosses, of_Expr, span-sync, name-sync, type-name-sync, operator-sync, text-sync, option_text-sync) depth 40 fits 5000);
}
expression-sync-step in_expression.member-Suffix = record {
  sync = λ h all.
      let of_Args : IsSync (h in_expression.member-Args) = all in_expression.member-Args in
      let of_Expr : IsSync (h in_expression.member-Expr) = all in_expression.member-Expr in
      variants_sync (expression.type-Suffix (h in_expression.member-Args) (h in_expression.member-Expr))
      (search (sendable, crosses, of_Args, of_Expr, span-sync, name-sync, type-name-sync, operator-sync, text-sync, option_text-sync) depth 40 fits 5000);
}
expression-sync-step in_expression.member-Args = record {
  sync = λ h all.
      let seq_Expr = seq-sync (h in_expression.member-Expr) (all in_expression.member-Expr) in
      declared_sync (expression.type-Args (h in_expression.member-Expr))
      (search (sendable, crosses, seq_Expr, span-sync, name-sync, type-name-sync, operator-sync, text-sync, option_text-sync) depth 40 fits 5000);
}

pub expr-send : IsSend Expr.the_row
expr-send = let Expr_ = fix_send expression.ring expression-send-step in_expression.member-Expr in let Operand_ = fix_send expression.ring expression-send-step in_expression.member-Operand in let Suffix_ = fix_send expression.ring expression-send-step in_expression.member-Suffix in let Args_ = fix_send expression.ring expression-send-step in_expression.member-Args in search (sendable, crosses) depth 60 fits 20000

pub expr-sync : IsSync Expr.the_row
expr-sync = let Expr_ = fix_sync expression.ring expression-sync-step in_expression.member-Expr in let Operand_ = fix_sync expression.ring expression-sync-step in_expression.member-Operand in let Suffix_ = fix_sync expression.ring expression-sync-step in_expression.member-Suffix in let Args_ = fix_sync expression.ring expression-sync-step in_expression.member-Args in search (sendable, crosses) depth 60 fits 20000

option_expr-send : IsSend (Option.the_row Expr.the_row)
option_expr-send = search (sendable, crosses, expr-send) depth 30 fits 5000

option_expr-sync : IsSync (Option.the_row Expr.the_row)
option_expr-sync = search (sendable, crosses, expr-sync) depth 30 fits 5000

statement-send-step : (i : in_statement.the_members) → Sends statement.ring i
statement-send-step in_statement.member-Block = record {
  send = λ h all.
      let seq_Stmt = seq-send (h in_statement.member-Stmt) (all in_statement.member-Stmt) in
      declared_send (statement.type-Block (h in_statement.member-Stmt))
      (search (sendable, crosses, seq_Stmt, span-send, name-send, type-name-send, pairs-send, expr-send, balanced-send, printword-send, text-send, text_field-send, option_expr-send) depth 40 fits 5000);
}
statement-send-step in_statement.member-Stmt = record {
  send = λ h all.
      let of_If : IsSend (h in_statement.member-If) = all in_statement.member-If in
      let of_Block : IsSend (h in_statement.member-Block) = all in_statement.member-Block in
      variants_send (statement.type-Stmt (h in_statement.member-If) (h in_statement.member-Block) (h in_statement.member-Block)) (
        search (sendable, crosses, of_If, of_Block, span-send, name-send, type-name-send, pairs-send, expr-send, balanced-send, printword-send, text-send, text_field-send, option_expr-send) depth 40 fits 5000,
        (
          search (sendable, crosses, of_If, of_Block, span-send, name-send, type-name-send, pairs-send, expr-send, balanced-send, printword-send, text-send, text_field-send, option_expr-send) depth 40 fits 5000,
          (
            search (sendable, crosses, of_If, of_Block, span-send, name-send, type-name-send, pairs-send, expr-send, balanced-send, printword-send, text-send, text_field-send, option_expr-send) depth 40 fits 5000,
            (
              search (sendable, crosses, of_If, of_Block, span-send, name-send, type-name-send, pairs-send, expr-send, balanced-send, printword-send, text-send, text_field-send, option_expr-send) depth 40 fits 5000,
              (
                search (sendable, crosses, of_If, of_Block, span-send, name-send, type-name-send, pairs-send, expr-send, balanced-send, printword-send, text-send, text_field-send, option_expr-send) depth 40 fits 5000,
                (
                  search (sendable, crosses, of_If, of_Block, span-send, name-send, type-name-send, pairs-send, expr-send, balanced-send, printword-send, text-send, text_field-send, option_expr-send) depth 40 fits 5000,
                  (
                    search (sendable, crosses, of_If, of_Block, span-send, name-send, type-name-send, pairs-send, expr-send, balanced-send, printword-send, text-send, text_field-send, option_expr-send) depth 40 fits 5000,
                    (
                      search (sendable, crosses, of_If, of_Block, span-send, name-send, type-name-send, pairs-send, expr-send, balanced-send, printword-send, text-send, text_field-send, option_expr-send) depth 40 fits 5000,
                      (
                        search (sendable, crosses, of_If, of_Block, span-send, name-send, type-name-send, pairs-send, expr-send, balanced-send, printword-send, text-send, text_field-send, option_expr-send) depth 40 fits 5000,
                        (
                          search (sendable, crosses, of_If, of_Block, span-send, name-send, type-name-send, pairs-send, expr-send, balanced-send, printword-send, text-send, text_field-send, option_expr-send) depth 40 fits 5000,
                          (
                            search (sendable, crosses, of_If, of_Block, span-send, name-send, type-name-send, pairs-send, expr-send, balanced-send, printword-send, text-send, text_field-send, option_expr-send) depth 40 fits 5000,
                            (
                              search (sendable, crosses, of_If, of_Block, span-send, name-send, type-name-send, pairs-send, expr-send, balanced-send, printword-send, text-send, text_field-send, option_expr-send) depth 40 fits 5000,
                              tt,
                            ),
                          ),
                        ),
                      ),
                    ),
                  ),
                ),
              ),
            ),
          ),
        ),
      );
}
statement-send-step in_statement.member-If = record {
  send = λ h all.
      let of_Block : IsSend (h in_statement.member-Block) = all in_statement.member-Block in
      let seq_ElseIf = seq-send (h in_statement.member-ElseIf) (all in_statement.member-ElseIf) in
      let option_Block = option-send (h in_statement.member-Block) (all in_statement.member-Block) in
      declared_send (statement.type-If (h in_statement.member-Block) (h in_statement.member-ElseIf) (h in_statement.member-Block))
      (search (sendable, crosses, of_Block, seq_ElseIf, option_Block, span-send, name-send, type-name-send, pairs-send, expr-send, balanced-send, printword-send, text-send, text_field-send, option_expr-send) depth 40 fits 5000);
}
statement-send-step in_statement.member-ElseIf = record {
  send = λ h all.
      let of_Block : IsSend (h in_statement.member-Block) = all in_statement.member-Block in
      declared_send (statement.type-ElseIf (h in_statement.member-Block))
      (search (sendable, crosses, of_Block, span-send, name-send, type-name-send, pairs-send, expr-send, balanced-send, printword-send, text-send, text_field-send, option_expr-send) depth 40 fits 5000);
}

statement-sync-step : (i : in_statement.the_members) → Syncs statement.ring i
statement-sync-step in_statement.member-Block = record {
  sync = λ h all.
      let seq_Stmt = seq-sync (h in_statement.member-Stmt) (all in_statement.member-Stmt) in
      declared_sync (statement.type-Block (h in_statement.member-Stmt))
      (search (sendable, crosses, seq_Stmt, span-sync, name-sync, type-name-sync, pairs-sync, expr-sync, balanced-sync, printword-sync, text-sync, text_field-sync, option_expr-sync) depth 40 fits 5000);
}
statement-sync-step in_statement.member-Stmt = record {
  sync = λ h all.
      let of_If : IsSync (h in_statement.member-If) = all in_statement.member-If in
      let of_Block : IsSync (h in_statement.member-Block) = all in_statement.member-Block in
      variants_sync (statement.type-Stmt (h in_statement.member-If) (h in_statement.member-Block) (h in_statement.member-Block)) (
        search (sendable, crosses, of_If, of_Block, span-sync, name-sync, type-name-sync, pairs-sync, expr-sync, balanced-sync, printword-sync, text-sync, text_field-sync, option_expr-sync) depth 40 fits 5000,
        (
          search (sendable, crosses, of_If, of_Block, span-sync, name-sync, type-name-sync, pairs-sync, expr-sync, balanced-sync, printword-sync, text-sync, text_field-sync, option_expr-sync) depth 40 fits 5000,
          (
            search (sendable, crosses, of_If, of_Block, span-sync, name-sync, type-name-sync, pairs-sync, expr-sync, balanced-sync, printword-sync, text-sync, text_field-sync, option_expr-sync) depth 40 fits 5000,
            (
              search (sendable, crosses, of_If, of_Block, span-sync, name-sync, type-name-sync, pairs-sync, expr-sync, balanced-sync, printword-sync, text-sync, text_field-sync, option_expr-sync) depth 40 fits 5000,
              (
                search (sendable, crosses, of_If, of_Block, span-sync, name-sync, type-name-sync, pairs-sync, expr-sync, balanced-sync, printword-sync, text-sync, text_field-sync, option_expr-sync) depth 40 fits 5000,
                (
                  search (sendable, crosses, of_If, of_Block, span-sync, name-sync, type-name-sync, pairs-sync, expr-sync, balanced-sync, printword-sync, text-sync, text_field-sync, option_expr-sync) depth 40 fits 5000,
                  (
                    search (sendable, crosses, of_If, of_Block, span-sync, name-sync, type-name-sync, pairs-sync, expr-sync, balanced-sync, printword-sync, text-sync, text_field-sync, option_expr-sync) depth 40 fits 5000,
                    (
                      search (sendable, crosses, of_If, of_Block, span-sync, name-sync, type-name-sync, pairs-sync, expr-sync, balanced-sync, printword-sync, text-sync, text_field-sync, option_expr-sync) depth 40 fits 5000,
                      (
                        search (sendable, crosses, of_If, of_Block, span-sync, name-sync, type-name-sync, pairs-sync, expr-sync, balanced-sync, printword-sync, text-sync, text_field-sync, option_expr-sync) depth 40 fits 5000,
                        (
                          search (sendable, crosses, of_If, of_Block, span-sync, name-sync, type-name-sync, pairs-sync, expr-sync, balanced-sync, printword-sync, text-sync, text_field-sync, option_expr-sync) depth 40 fits 5000,
                          (
                            search (sendable, crosses, of_If, of_Block, span-sync, name-sync, type-name-sync, pairs-sync, expr-sync, balanced-sync, printword-sync, text-sync, text_field-sync, option_expr-sync) depth 40 fits 5000,
                            (
                              search (sendable, crosses, of_If, of_Block, span-sync, name-sync, type-name-sync, pairs-sync, expr-sync, balanced-sync, printword-sync, text-sync, text_field-sync, option_expr-sync) depth 40 fits 5000,
                              tt,
                            ),
                          ),
                        ),
                      ),
                    ),
                  ),
                ),
              ),
            ),
          ),
        ),
      );
}
statement-sync-step in_statement.member-If = record {
  sync = λ h all.
      let of_Block : IsSync (h in_statement.member-Block) = all in_statement.member-Block in
      let seq_ElseIf = seq-sync (h in_statement.member-ElseIf) (all in_statement.member-ElseIf) in
      let option_Block = option-sync (h in_statement.member-Block) (all in_statement.member-Block) in
      declared_sync (statement.type-If (h in_statement.member-Block) (h in_statement.member-ElseIf) (h in_statement.member-Block))
      (search (sendable, crosses, of_Block, seq_ElseIf, option_Block, span-sync, name-sync, type-name-sync, pairs-sync, expr-sync, balanced-sync, printword-sync, text-sync, text_field-sync, option_expr-sync) depth 40 fits 5000);
}
statement-sync-step in_statement.member-ElseIf = record {
  sync = λ h all.
      let of_Block : IsSync (h in_statement.member-Block) = all in_statement.member-Block in
      declared_sync (statement.type-ElseIf (h in_statement.member-Block))
      (search (sendable, crosses, of_Block, span-sync, name-sync, type-name-sync, pairs-sync, expr-sync, balanced-sync, printword-sync, text-sync, text_field-sync, option_expr-sync) depth 40 fits 5000);
}

pub block-send : IsSend Block.the_row
block-send = let Block_ = fix_send statement.ring statement-send-step in_statement.member-Block in let Stmt_ = fix_send statement.ring statement-send-step in_statement.member-Stmt in let If_ = fix_send statement.ring statement-send-step in_statement.member-If in let ElseIf_ = fix_send statement.ring statement-send-step in_statement.member-ElseIf in search (sendable, crosses) depth 60 fits 20000

pub block-sync : IsSync Block.the_row
block-sync = let Block_ = fix_sync statement.ring statement-sync-step in_statement.member-Block in let Stmt_ = fix_sync statement.ring statement-sync-step in_statement.member-Stmt in let If_ = fix_sync statement.ring statement-sync-step in_statement.member-If in let ElseIf_ = fix_sync statement.ring statement-sync-step in_statement.member-ElseIf in search (sendable, crosses) depth 60 fits 20000

pub symbol-send : IsSend Symbol.the_row
symbol-send = declared_send Symbol.the_type (
  search (sendable, crosses, name-send) depth 30 fits 3000,
  (
    search (sendable, crosses, pairs-send) depth 30 fits 3000,
    tt,
  ),
)

pub symbol-sync : IsSync Symbol.the_row
symbol-sync = declared_sync Symbol.the_type (
  search (sendable, crosses, name-sync) depth 30 fits 3000,
  (
    search (sendable, crosses, pairs-sync) depth 30 fits 3000,
    tt,
  ),
)

pub enumeration-send : IsSend Enumeration.the_row
enumeration-send = declared_send Enumeration.the_type (
  search (sendable, crosses, name-send) depth 30 fits 3000,
  (
    search (sendable, crosses, pairs-send) depth 30 fits 3000,
    (
      let of = seq-send Symbol.the_row symbol-send in search (sendable, crosses, of) depth 30 fits 3000,
      (
        search (sendable, crosses, span-send) depth 30 fits 3000,
        tt,
      ),
    ),
  ),
)

pub enumeration-sync : IsSync Enumeration.the_row
enumeration-sync = declared_sync Enumeration.the_type (
  search (sendable, crosses, name-sync) depth 30 fits 3000,
  (
    search (sendable, crosses, pairs-sync) depth 30 fits 3000,
    (
      let of = seq-sync Symbol.the_row symbol-sync in search (sendable, crosses, of) depth 30 fits 3000,
      (
        search (sendable, crosses, span-sync) depth 30 fits 3000,
        tt,
      ),
    ),
  ),
)

pub state-send : IsSend State.the_row
state-send = declared_send State.the_type (
  search (sendable, crosses, name-send) depth 30 fits 3000,
  (
    search (sendable, crosses, name-send) depth 30 fits 3000,
    (
      search (sendable, crosses, name-send) depth 30 fits 3000,
      (
        search (sendable, crosses, pairs-send) depth 30 fits 3000,
        tt,
      ),
    ),
  ),
)

pub state-sync : IsSync State.the_row
state-sync = declared_sync State.the_type (
  search (sendable, crosses, name-sync) depth 30 fits 3000,
  (
    search (sendable, crosses, name-sync) depth 30 fits 3000,
    (
      search (sendable, crosses, name-sync) depth 30 fits 3000,
      (
        search (sendable, crosses, pairs-sync) depth 30 fits 3000,
        tt,
      ),
    ),
  ),
)

pub states-send : IsSend States.the_row
states-send = declared_send States.the_type (
  search (sendable, crosses, name-send) depth 30 fits 3000,
  (
    search (sendable, crosses, pairs-send) depth 30 fits 3000,
    (
      let of = seq-send State.the_row state-send in search (sendable, crosses, of) depth 30 fits 3000,
      (
        search (sendable, crosses, span-send) depth 30 fits 3000,
        tt,
      ),
    ),
  ),
)

pub states-sync : IsSync States.the_row
states-sync = declared_sync States.the_type (
  search (sendable, crosses, name-sync) depth 30 fits 3000,
  (
    search (sendable, crosses, pairs-sync) depth 30 fits 3000,
    (
      let of = seq-sync State.the_row state-sync in search (sendable, crosses, of) depth 30 fits 3000,
      (
        search (sendable, crosses, span-sync) depth 30 fits 3000,
        tt,
      ),
    ),
  ),
)

pub formal-send : IsSend Formal.the_row
formal-send = declared_send Formal.the_type (
  search (sendable, crosses, type-name-send) depth 30 fits 3000,
  (
    search sendable,
    (
      let of = option-send Name.the_row name-send in search (sendable, crosses, of) depth 30 fits 3000,
      (
        search (sendable, crosses, span-send) depth 30 fits 3000,
        tt,
      ),
    ),
  ),
)

pub formal-sync : IsSync Formal.the_row
formal-sync = declared_sync Formal.the_type (
  search (sendable, crosses, type-name-sync) depth 30 fits 3000,
  (
    search sendable,
    (
      let of = option-sync Name.the_row name-sync in search (sendable, crosses, of) depth 30 fits 3000,
      (
        search (sendable, crosses, span-sync) depth 30 fits 3000,
        tt,
      ),
    ),
  ),
)

pub formals-send : IsSend Formals.the_row
formals-send = declared_send Formals.the_type (
  let of = seq-send Formal.the_row formal-send in search (sendable, crosses, of) depth 30 fits 3000,
  (
    search (sendable, crosses, span-send) depth 30 fits 3000,
    tt,
  ),
)

pub formals-sync : IsSync Formals.the_row
formals-sync = declared_sync Formals.the_type (
  let of = seq-sync Formal.the_row formal-sync in search (sendable, crosses, of) depth 30 fits 3000,
  (
    search (sendable, crosses, span-sync) depth 30 fits 3000,
    tt,
  ),
)

pub skipped-send : IsSend Skipped.the_row
skipped-send = declared_send Skipped.the_type (
  search (sendable, crosses, type-name-send) depth 30 fits 3000,
  (
    search (sendable, crosses, name-send) depth 30 fits 3000,
    (
      search (sendable, crosses, balanced-send) depth 30 fits 3000,
      (
        search (sendable, crosses, pairs-send) depth 30 fits 3000,
        (
          search (sendable, crosses, balanced-send) depth 30 fits 3000,
          (
            search (sendable, crosses, span-send) depth 30 fits 3000,
            tt,
          ),
        ),
      ),
    ),
  ),
)

pub skipped-sync : IsSync Skipped.the_row
skipped-sync = declared_sync Skipped.the_type (
  search (sendable, crosses, type-name-sync) depth 30 fits 3000,
  (
    search (sendable, crosses, name-sync) depth 30 fits 3000,
    (
      search (sendable, crosses, balanced-sync) depth 30 fits 3000,
      (
        search (sendable, crosses, pairs-sync) depth 30 fits 3000,
        (
          search (sendable, crosses, balanced-sync) depth 30 fits 3000,
          (
            search (sendable, crosses, span-sync) depth 30 fits 3000,
            tt,
          ),
        ),
      ),
    ),
  ),
)

pub member-send : IsSend Member.the_row
member-send = variants_send Member.enum (
  (
    search (sendable, crosses, type-name-send) depth 30 fits 3000,
    (
      search (sendable, crosses, name-send) depth 30 fits 3000,
      (
        search (sendable, crosses, pairs-send) depth 30 fits 3000,
        (
          search (sendable, crosses, span-send) depth 30 fits 3000,
          tt,
        ),
      ),
    ),
  ),
  (
    (
      search (sendable, crosses, type-name-send) depth 30 fits 3000,
      (
        search (sendable, crosses, name-send) depth 30 fits 3000,
        (
          search (sendable, crosses, formals-send) depth 30 fits 3000,
          (
            search (sendable, crosses, pairs-send) depth 30 fits 3000,
            (
              search (sendable, crosses, span-send) depth 30 fits 3000,
              tt,
            ),
          ),
        ),
      ),
    ),
    (
      (
        search (sendable, crosses, skipped-send) depth 30 fits 3000,
        tt,
      ),
      tt,
    ),
  ),
)

pub member-sync : IsSync Member.the_row
member-sync = variants_sync Member.enum (
  (
    search (sendable, crosses, type-name-sync) depth 30 fits 3000,
    (
      search (sendable, crosses, name-sync) depth 30 fits 3000,
      (
        search (sendable, crosses, pairs-sync) depth 30 fits 3000,
        (
          search (sendable, crosses, span-sync) depth 30 fits 3000,
          tt,
        ),
      ),
    ),
  ),
  (
    (
      search (sendable, crosses, type-name-sync) depth 30 fits 3000,
      (
        search (sendable, crosses, name-sync) depth 30 fits 3000,
        (
          search (sendable, crosses, formals-sync) depth 30 fits 3000,
          (
            search (sendable, crosses, pairs-sync) depth 30 fits 3000,
            (
              search (sendable, crosses, span-sync) depth 30 fits 3000,
              tt,
            ),
          ),
        ),
      ),
    ),
    (
      (
        search (sendable, crosses, skipped-sync) depth 30 fits 3000,
        tt,
      ),
      tt,
    ),
  ),
)

pub structure-send : IsSend Structure.the_row
structure-send = declared_send Structure.the_type (
  search (sendable, crosses, name-send) depth 30 fits 3000,
  (
    search (sendable, crosses, pairs-send) depth 30 fits 3000,
    (
      let of = seq-send Member.the_row member-send in search (sendable, crosses, of) depth 30 fits 3000,
      (
        search (sendable, crosses, span-send) depth 30 fits 3000,
        tt,
      ),
    ),
  ),
)

pub structure-sync : IsSync Structure.the_row
structure-sync = declared_sync Structure.the_type (
  search (sendable, crosses, name-sync) depth 30 fits 3000,
  (
    search (sendable, crosses, pairs-sync) depth 30 fits 3000,
    (
      let of = seq-sync Member.the_row member-sync in search (sendable, crosses, of) depth 30 fits 3000,
      (
        search (sendable, crosses, span-sync) depth 30 fits 3000,
        tt,
      ),
    ),
  ),
)

pub function-send : IsSend Function.the_row
function-send = variants_send Function.enum (
  (
    search (sendable, crosses, type-name-send) depth 30 fits 3000,
    (
      search (sendable, crosses, name-send) depth 30 fits 3000,
      (
        search (sendable, crosses, formals-send) depth 30 fits 3000,
        (
          search (sendable, crosses, pairs-send) depth 30 fits 3000,
          (
            let of = option-send Block.the_row block-send in search (sendable, crosses, of) depth 30 fits 3000,
            (
              search (sendable, crosses, span-send) depth 30 fits 3000,
              tt,
            ),
          ),
        ),
      ),
    ),
  ),
  (
    (
      search (sendable, crosses, skipped-send) depth 30 fits 3000,
      tt,
    ),
    tt,
  ),
)

pub function-sync : IsSync Function.the_row
function-sync = variants_sync Function.enum (
  (
    search (sendable, crosses, type-name-sync) depth 30 fits 3000,
    (
      search (sendable, crosses, name-sync) depth 30 fits 3000,
      (
        search (sendable, crosses, formals-sync) depth 30 fits 3000,
        (
          search (sendable, crosses, pairs-sync) depth 30 fits 3000,
          (
            let of = option-sync Block.the_row block-sync in search (sendable, crosses, of) depth 30 fits 3000,
            (
              search (sendable, crosses, span-sync) depth 30 fits 3000,
              tt,
            ),
          ),
        ),
      ),
    ),
  ),
  (
    (
      search (sendable, crosses, skipped-sync) depth 30 fits 3000,
      tt,
    ),
    tt,
  ),
)

pub literal-send : IsSend Literal.the_row
literal-send = variants_send Literal.enum (
  (
    search sendable,
    (
      search (sendable, crosses, span-send) depth 30 fits 3000,
      tt,
    ),
  ),
  (
    (
      search sendable,
      (
        search (sendable, crosses, span-send) depth 30 fits 3000,
        tt,
      ),
    ),
    (
      (
        search (sendable, crosses, text-send) depth 30 fits 3000,
        (
          search (sendable, crosses, span-send) depth 30 fits 3000,
          tt,
        ),
      ),
      (
        (
          search (sendable, crosses, span-send) depth 30 fits 3000,
          tt,
        ),
        (
          (
            search (sendable, crosses, span-send) depth 30 fits 3000,
            tt,
          ),
          tt,
        ),
      ),
    ),
  ),
)

pub literal-sync : IsSync Literal.the_row
literal-sync = variants_sync Literal.enum (
  (
    search sendable,
    (
      search (sendable, crosses, span-sync) depth 30 fits 3000,
      tt,
    ),
  ),
  (
    (
      search sendable,
      (
        search (sendable, crosses, span-sync) depth 30 fits 3000,
        tt,
      ),
    ),
    (
      (
        search (sendable, crosses, text-sync) depth 30 fits 3000,
        (
          search (sendable, crosses, span-sync) depth 30 fits 3000,
          tt,
        ),
      ),
      (
        (
          search (sendable, crosses, span-sync) depth 30 fits 3000,
          tt,
        ),
        (
          (
            search (sendable, crosses, span-sync) depth 30 fits 3000,
            tt,
          ),
          tt,
        ),
      ),
    ),
  ),
)

pub parameter-send : IsSend Parameter.the_row
parameter-send = declared_send Parameter.the_type (
  search (sendable, crosses, type-name-send) depth 30 fits 3000,
  (
    search sendable,
    (
      search (sendable, crosses, name-send) depth 30 fits 3000,
      (
        let of = option-send Literal.the_row literal-send in search (sendable, crosses, of) depth 30 fits 3000,
        (
          search (sendable, crosses, pairs-send) depth 30 fits 3000,
          (
            search (sendable, crosses, span-send) depth 30 fits 3000,
            tt,
          ),
        ),
      ),
    ),
  ),
)

pub parameter-sync : IsSync Parameter.the_row
parameter-sync = declared_sync Parameter.the_type (
  search (sendable, crosses, type-name-sync) depth 30 fits 3000,
  (
    search sendable,
    (
      search (sendable, crosses, name-sync) depth 30 fits 3000,
      (
        let of = option-sync Literal.the_row literal-sync in search (sendable, crosses, of) depth 30 fits 3000,
        (
          search (sendable, crosses, pairs-sync) depth 30 fits 3000,
          (
            search (sendable, crosses, span-sync) depth 30 fits 3000,
            tt,
          ),
        ),
      ),
    ),
  ),
)

pub outport-send : IsSend OutPort.the_row
outport-send = declared_send OutPort.the_type (
  search (sendable, crosses, name-send) depth 30 fits 3000,
  (
    search (sendable, crosses, type-name-send) depth 30 fits 3000,
    (
      search (sendable, crosses, name-send) depth 30 fits 3000,
      (
        search (sendable, crosses, pairs-send) depth 30 fits 3000,
        (
          search (sendable, crosses, span-send) depth 30 fits 3000,
          tt,
        ),
      ),
    ),
  ),
)

pub outport-sync : IsSync OutPort.the_row
outport-sync = declared_sync OutPort.the_type (
  search (sendable, crosses, name-sync) depth 30 fits 3000,
  (
    search (sendable, crosses, type-name-sync) depth 30 fits 3000,
    (
      search (sendable, crosses, name-sync) depth 30 fits 3000,
      (
        search (sendable, crosses, pairs-sync) depth 30 fits 3000,
        (
          search (sendable, crosses, span-sync) depth 30 fits 3000,
          tt,
        ),
      ),
    ),
  ),
)

pub inport-send : IsSend InPort.the_row
inport-send = declared_send InPort.the_type (
  search (sendable, crosses, name-send) depth 30 fits 3000,
  (
    search (sendable, crosses, type-name-send) depth 30 fits 3000,
    (
      search (sendable, crosses, name-send) depth 30 fits 3000,
      (
        search (sendable, crosses, pairs-send) depth 30 fits 3000,
        (
          search (sendable, crosses, block-send) depth 30 fits 3000,
          (
            search (sendable, crosses, span-send) depth 30 fits 3000,
            tt,
          ),
        ),
      ),
    ),
  ),
)

pub inport-sync : IsSync InPort.the_row
inport-sync = declared_sync InPort.the_type (
  search (sendable, crosses, name-sync) depth 30 fits 3000,
  (
    search (sendable, crosses, type-name-sync) depth 30 fits 3000,
    (
      search (sendable, crosses, name-sync) depth 30 fits 3000,
      (
        search (sendable, crosses, pairs-sync) depth 30 fits 3000,
        (
          search (sendable, crosses, block-sync) depth 30 fits 3000,
          (
            search (sendable, crosses, span-sync) depth 30 fits 3000,
            tt,
          ),
        ),
      ),
    ),
  ),
)

pub action-send : IsSend Action.the_row
action-send = declared_send Action.the_type (
  search (sendable, crosses, name-send) depth 30 fits 3000,
  (
    search (sendable, crosses, pairs-send) depth 30 fits 3000,
    (
      search (sendable, crosses, block-send) depth 30 fits 3000,
      (
        search (sendable, crosses, span-send) depth 30 fits 3000,
        tt,
      ),
    ),
  ),
)

pub action-sync : IsSync Action.the_row
action-sync = declared_sync Action.the_type (
  search (sendable, crosses, name-sync) depth 30 fits 3000,
  (
    search (sendable, crosses, pairs-sync) depth 30 fits 3000,
    (
      search (sendable, crosses, block-sync) depth 30 fits 3000,
      (
        search (sendable, crosses, span-sync) depth 30 fits 3000,
        tt,
      ),
    ),
  ),
)

pub nextstate-send : IsSend NextState.the_row
nextstate-send = variants_send NextState.enum (
  (
    search (sendable, crosses, name-send) depth 30 fits 3000,
    tt,
  ),
  (
    (
      search (sendable, crosses, span-send) depth 30 fits 3000,
      tt,
    ),
    tt,
  ),
)

pub nextstate-sync : IsSync NextState.the_row
nextstate-sync = variants_sync NextState.enum (
  (
    search (sendable, crosses, name-sync) depth 30 fits 3000,
    tt,
  ),
  (
    (
      search (sendable, crosses, span-sync) depth 30 fits 3000,
      tt,
    ),
    tt,
  ),
)

pub names-send : IsSend Names.the_row
names-send = variants_send Names.enum (
  (
    search (sendable, crosses, name-send) depth 30 fits 3000,
    tt,
  ),
  (
    (
      let of = seq-send Name.the_row name-send in search (sendable, crosses, of) depth 30 fits 3000,
      (
        search (sendable, crosses, span-send) depth 30 fits 3000,
        tt,
      ),
    ),
    tt,
  ),
)

pub names-sync : IsSync Names.the_row
names-sync = variants_sync Names.enum (
  (
    search (sendable, crosses, name-sync) depth 30 fits 3000,
    tt,
  ),
  (
    (
      let of = seq-sync Name.the_row name-sync in search (sendable, crosses, of) depth 30 fits 3000,
      (
        search (sendable, crosses, span-sync) depth 30 fits 3000,
        tt,
      ),
    ),
    tt,
  ),
)

pub transition-send : IsSend Transition.the_row
transition-send = declared_send Transition.the_type (
  search (sendable, crosses, names-send) depth 30 fits 3000,
  (
    search (sendable, crosses, names-send) depth 30 fits 3000,
    (
      let of = option-send NextState.the_row nextstate-send in search (sendable, crosses, of) depth 30 fits 3000,
      (
        search (sendable, crosses, pairs-send) depth 30 fits 3000,
        (
          let of = seq-send Name.the_row name-send in search (sendable, crosses, of) depth 30 fits 3000,
          (
            search (sendable, crosses, span-send) depth 30 fits 3000,
            tt,
          ),
        ),
      ),
    ),
  ),
)

pub transition-sync : IsSync Transition.the_row
transition-sync = declared_sync Transition.the_type (
  search (sendable, crosses, names-sync) depth 30 fits 3000,
  (
    search (sendable, crosses, names-sync) depth 30 fits 3000,
    (
      let of = option-sync NextState.the_row nextstate-sync in search (sendable, crosses, of) depth 30 fits 3000,
      (
        search (sendable, crosses, pairs-sync) depth 30 fits 3000,
        (
          let of = seq-sync Name.the_row name-sync in search (sendable, crosses, of) depth 30 fits 3000,
          (
            search (sendable, crosses, span-sync) depth 30 fits 3000,
            tt,
          ),
        ),
      ),
    ),
  ),
)

pub object-send : IsSend Object.the_row
object-send = declared_send Object.the_type (
  search (sendable, crosses, type-name-send) depth 30 fits 3000,
  (
    search sendable,
    (
      search (sendable, crosses, name-send) depth 30 fits 3000,
      (
        search (sendable, crosses, pairs-send) depth 30 fits 3000,
        (
          search (sendable, crosses, span-send) depth 30 fits 3000,
          tt,
        ),
      ),
    ),
  ),
)

pub object-sync : IsSync Object.the_row
object-sync = declared_sync Object.the_type (
  search (sendable, crosses, type-name-sync) depth 30 fits 3000,
  (
    search sendable,
    (
      search (sendable, crosses, name-sync) depth 30 fits 3000,
      (
        search (sendable, crosses, pairs-sync) depth 30 fits 3000,
        (
          search (sendable, crosses, span-sync) depth 30 fits 3000,
          tt,
        ),
      ),
    ),
  ),
)

pub decl-send : IsSend Decl.the_row
decl-send = variants_send Decl.enum (
  (
    search (sendable, crosses, states-send) depth 30 fits 3000,
    tt,
  ),
  (
    (
      search (sendable, crosses, enumeration-send) depth 30 fits 3000,
      tt,
    ),
    (
      (
        search (sendable, crosses, structure-send) depth 30 fits 3000,
        tt,
      ),
      (
        (
          search (sendable, crosses, outport-send) depth 30 fits 3000,
          tt,
        ),
        (
          (
            search (sendable, crosses, inport-send) depth 30 fits 3000,
            tt,
          ),
          (
            (
              search (sendable, crosses, action-send) depth 30 fits 3000,
              tt,
            ),
            (
              (
                search (sendable, crosses, transition-send) depth 30 fits 3000,
                tt,
              ),
              (
                (
                  search (sendable, crosses, function-send) depth 30 fits 3000,
                  tt,
                ),
                (
                  (
                    search (sendable, crosses, object-send) depth 30 fits 3000,
                    tt,
                  ),
                  tt,
                ),
              ),
            ),
          ),
        ),
      ),
    ),
  ),
)

pub decl-sync : IsSync Decl.the_row
decl-sync = variants_sync Decl.enum (
  (
    search (sendable, crosses, states-sync) depth 30 fits 3000,
    tt,
  ),
  (
    (
      search (sendable, crosses, enumeration-sync) depth 30 fits 3000,
      tt,
    ),
    (
      (
        search (sendable, crosses, structure-sync) depth 30 fits 3000,
        tt,
      ),
      (
        (
          search (sendable, crosses, outport-sync) depth 30 fits 3000,
          tt,
        ),
        (
          (
            search (sendable, crosses, inport-sync) depth 30 fits 3000,
            tt,
          ),
          (
            (
              search (sendable, crosses, action-sync) depth 30 fits 3000,
              tt,
            ),
            (
              (
                search (sendable, crosses, transition-sync) depth 30 fits 3000,
                tt,
              ),
              (
                (
                  search (sendable, crosses, function-sync) depth 30 fits 3000,
                  tt,
                ),
                (
                  (
                    search (sendable, crosses, object-sync) depth 30 fits 3000,
                    tt,
                  ),
                  tt,
                ),
              ),
            ),
          ),
        ),
      ),
    ),
  ),
)

pub machine-send : IsSend Machine.the_row
machine-send = declared_send Machine.the_type (
  search sendable,
  (
    search (sendable, crosses, name-send) depth 30 fits 3000,
    (
      search (sendable, crosses, text-send) depth 30 fits 3000,
      (
        search (sendable, crosses, pairs-send) depth 30 fits 3000,
        (
          let of = seq-send Parameter.the_row parameter-send in search (sendable, crosses, of) depth 30 fits 3000,
          (
            let of = seq-send Decl.the_row decl-send in search (sendable, crosses, of) depth 30 fits 3000,
            (
              search (sendable, crosses, span-send) depth 30 fits 3000,
              tt,
            ),
          ),
        ),
      ),
    ),
  ),
)

pub machine-sync : IsSync Machine.the_row
machine-sync = declared_sync Machine.the_type (
  search sendable,
  (
    search (sendable, crosses, name-sync) depth 30 fits 3000,
    (
      search (sendable, crosses, text-sync) depth 30 fits 3000,
      (
        search (sendable, crosses, pairs-sync) depth 30 fits 3000,
        (
          let of = seq-sync Parameter.the_row parameter-sync in search (sendable, crosses, of) depth 30 fits 3000,
          (
            let of = seq-sync Decl.the_row decl-sync in search (sendable, crosses, of) depth 30 fits 3000,
            (
              search (sendable, crosses, span-sync) depth 30 fits 3000,
              tt,
            ),
          ),
        ),
      ),
    ),
  ),
)

pub item-send : IsSend Item.the_row
item-send = variants_send Item.enum (
  (
    search (sendable, crosses, text-send) depth 30 fits 3000,
    (
      search (sendable, crosses, span-send) depth 30 fits 3000,
      tt,
    ),
  ),
  (
    (
      search (sendable, crosses, enumeration-send) depth 30 fits 3000,
      tt,
    ),
    (
      (
        search (sendable, crosses, structure-send) depth 30 fits 3000,
        tt,
      ),
      (
        (
          search (sendable, crosses, machine-send) depth 30 fits 3000,
          tt,
        ),
        tt,
      ),
    ),
  ),
)

pub item-sync : IsSync Item.the_row
item-sync = variants_sync Item.enum (
  (
    search (sendable, crosses, text-sync) depth 30 fits 3000,
    (
      search (sendable, crosses, span-sync) depth 30 fits 3000,
      tt,
    ),
  ),
  (
    (
      search (sendable, crosses, enumeration-sync) depth 30 fits 3000,
      tt,
    ),
    (
      (
        search (sendable, crosses, structure-sync) depth 30 fits 3000,
        tt,
      ),
      (
        (
          search (sendable, crosses, machine-sync) depth 30 fits 3000,
          tt,
        ),
        tt,
      ),
    ),
  ),
)

pub tree-send : IsSend Tree.the_row
tree-send = declared_send Tree.the_type (
  let of = option-send (Seq.the_row u8) text-send in search (sendable, crosses, of) depth 30 fits 3000,
  (
    let of = seq-send Item.the_row item-send in search (sendable, crosses, of) depth 30 fits 3000,
    (
      search (sendable, crosses, span-send) depth 30 fits 3000,
      tt,
    ),
  ),
)

pub tree-sync : IsSync Tree.the_row
tree-sync = declared_sync Tree.the_type (
  let of = option-sync (Seq.the_row u8) text-sync in search (sendable, crosses, of) depth 30 fits 3000,
  (
    let of = seq-sync Item.the_row item-sync in search (sendable, crosses, of) depth 30 fits 3000,
    (
      search (sendable, crosses, span-sync) depth 30 fits 3000,
      tt,
    ),
  ),
)
