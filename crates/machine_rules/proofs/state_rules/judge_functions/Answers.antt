use Rattle.std.proofs.Common.{◌++◌, codes, ap, ◌∙◌}
use Rattle.std.specs.Option.{option_copied}
use Rattle.slicc_plan.specs.declared.built_in.BuiltInType.TheVariants.{Void}
use Rattle.slicc_plan.specs.Prelude.{function_named, first_after, alone, own_state, taken_to_permit, taken_to_read, taken_to_write, unlike}
use Rattle.slicc_plan.specs.StateFunctions.{built_in_type}
use Rattle.declaration_rules.proofs.Steps.{one_list_before}
use Rattle.machine_rules.proofs.state_rules.judge_functions.Goals as goal

pub returns : goal.returns
returns c =
    let m = c.args.m.machine.now in
    let trees = c.args.m.scopes.now.trees.now in
    let n = c.args.m.number in
    let reader = function_named m (codes "getState") in
    let writer = function_named m (codes "setState") in
    let permitter = function_named m (codes "setAccessPermission") in
    let read = unlike trees n m own_state (taken_to_read m) reader in
    let written = unlike trees n m (built_in_type Void) (taken_to_write m) writer in
    let permitted = unlike trees n m (built_in_type Void) (taken_to_permit m) permitter in
    let o1 = c.alone-lone_reader.result in
    let o2 = c.alone-lone_writer.result in
    let o3 = c.unlike_reader-wrong_reader.result in
    let o4 = c.unlike_writer-wrong_writer.result in
    let o5 = c.unlike_permitter.result in
    let h1 = c.alone-lone_reader.ensures ∙ ap (λ f. first_after c.args.first (alone n f (option_copied c.function_named-writer.result))) c.function_named-reader.ensures ∙ ap (λ f. first_after c.args.first (alone n reader f)) c.function_named-writer.ensures in
    let h2 = c.alone-lone_writer.ensures ∙ ap (λ f. first_after o1 (alone n f (option_copied c.function_named-reader.result))) c.function_named-writer.ensures ∙ ap (λ f. first_after o1 (alone n writer f)) c.function_named-reader.ensures in
    let h3 = c.unlike_reader-wrong_reader.ensures ∙ ap (λ f. first_after o2 (unlike trees n m own_state (taken_to_read m) f)) c.function_named-reader.ensures in
    let h4 = c.unlike_writer-wrong_writer.ensures ∙ ap (λ f. first_after o3 (unlike trees n m (built_in_type Void) (taken_to_write m) f)) c.function_named-writer.ensures in
    let h5 = c.unlike_permitter.ensures ∙ ap (λ f. first_after o4 (unlike trees n m (built_in_type Void) (taken_to_permit m) f)) c.function_named-permitter.ensures in
    let a = alone n reader writer in
    let b = alone n writer reader in
    let first = c.args.first in
    one_list_before first o4 o5 (a ++ b ++ read ++ written) permitted
    (one_list_before first o3 o4 (a ++ b ++ read) written
    (one_list_before first o2 o3 (a ++ b) read (one_list_before first o1 o2 a b h1 h2) h3) h4) h5
