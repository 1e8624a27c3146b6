-- What functions of states should take, as the code lists it.
use Rattle.std.proofs.Common.{◌≡◌, ◌++◌, Option, None, Some, List, [], ◌∷◌, refl, sym, ap, ◌∙◌, append_assoc}
use Rattle.std.specs.Option.{option_map}
use Rattle.slicc_ast.specs.declared.tree.machine.Machine.{Machine}
use Rattle.slicc_plan.specs.declared.built_in.BuiltInType.TheVariants.{Address}
use Rattle.slicc_plan.specs.Buffers.{listed}
use Rattle.slicc_plan.specs.Prelude.{entry_structure, tbe_structure, line_where, own_state, taken_to_permit, taken_to_read, taken_to_write}
use Rattle.slicc_plan.specs.StateFunctions.{built_in_type}
use Rattle.machine_rules.specs.declared.wanted.Wanted.{Wanted}
use Rattle.machine_rules.specs.declared.wanted.Wanted.TheVariants.{BuiltIn, OwnState}
use Rattle.machine_rules.specs.Prelude.{wanted_of, wanted_present}

present_first : (o : Option Wanted) (ws : List (Option Wanted)) → wanted_present (o ∷ ws) ≡ listed (option_map wanted_of o) ++ wanted_present ws
present_first None ws = refl
present_first (Some w) ws = refl

present_two : (t e : Option Wanted) (m : Machine) (ws : List (Option Wanted)) → listed (option_map wanted_of t) ≡ line_where (tbe_structure m) → listed (option_map wanted_of e) ≡ line_where (entry_structure m) → wanted_present (t ∷ e ∷ ws) ≡ (line_where (tbe_structure m) ++ line_where (entry_structure m)) ++ wanted_present ws
present_two t e m ws h k =
    present_first t (e ∷ ws) ∙ ap (λ ls. listed (option_map wanted_of t) ++ ls) (present_first e ws)
    ∙ ap (λ ls. ls ++ (listed (option_map wanted_of e) ++ wanted_present ws)) h
    ∙ ap (λ ls. line_where (tbe_structure m) ++ (ls ++ wanted_present ws)) k
    ∙ sym (append_assoc (line_where (tbe_structure m)) (line_where (entry_structure m)) (wanted_present ws))

pub read_taken : (t e : Option Wanted) (m : Machine) → listed (option_map wanted_of t) ≡ line_where (tbe_structure m) → listed (option_map wanted_of e) ≡ line_where (entry_structure m) → wanted_present (t ∷ e ∷ Some (BuiltIn Address) ∷ []) ≡ taken_to_read m
read_taken t e m h k = present_two t e m (Some (BuiltIn Address) ∷ []) h k

pub written_taken : (t e : Option Wanted) (m : Machine) → listed (option_map wanted_of t) ≡ line_where (tbe_structure m) → listed (option_map wanted_of e) ≡ line_where (entry_structure m) → wanted_present (t ∷ e ∷ Some (BuiltIn Address) ∷ Some OwnState ∷ []) ≡ taken_to_write m
written_taken t e m h k =
    present_two t e m (Some (BuiltIn Address) ∷ Some OwnState ∷ []) h k
    ∙ sym (append_assoc (line_where (tbe_structure m) ++ line_where (entry_structure m)) (built_in_type Address ∷ []) (own_state ∷ []))

pub permitted_taken : (e : Option Wanted) (m : Machine) → listed (option_map wanted_of e) ≡ line_where (entry_structure m) → wanted_present (e ∷ Some (BuiltIn Address) ∷ Some OwnState ∷ []) ≡ taken_to_permit m
permitted_taken e m k =
    present_first e (Some (BuiltIn Address) ∷ Some OwnState ∷ []) ∙ ap (λ ls. ls ++ (built_in_type Address ∷ own_state ∷ [])) k
