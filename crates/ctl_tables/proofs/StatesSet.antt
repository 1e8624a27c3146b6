-- The state of a line after states were set: the one that was set last for it, or else the one before.
use Rattle.std.proofs.Common.{◌≡◌, ℕ, cond, eqb, List, [], ◌∷◌, Option, None, Some, refl, sym, ap, ◌∙◌}
use Rattle.std.proofs.lemmas.Bool.{cond_both}
use Rattle.std.specs.Cmp.{nat_cmp_total, unsigned_tied}
use Rattle.std.specs.FinMap.{FinMap, get, get-insert}
use Rattle.std.specs.Map.{lookup}
use Rattle.std.specs.Option.{unwrap_or}
use Rattle.std.specs.Ordering.{nat_cmp}
use Rattle.ruby_value.specs.Prelude.{with_all}

abbrev pub or_before : Option ℕ → Option ℕ → Option ℕ
or_before None before = before
or_before (Some state) before = Some state

pub got_from : (held : FinMap nat_cmp ℕ) (set : List (ℕ × ℕ)) (line : ℕ) → get (with_all held set) line ≡ or_before (lookup (eqb line) set) (get held line)
got_from held [] line = refl
got_from held (e ∷ rest) line =
    get-insert nat_cmp_total (with_all held rest) e.0 e.1 line
    ∙ ap (λ b. cond b (Some e.1) (get (with_all held rest) line)) (unsigned_tied line e.0)
    ∙ ap (cond (eqb line e.0) (Some e.1)) (got_from held rest line)
    ∙ cond_both (eqb line e.0) (Some e.1) (lookup (eqb line) rest) (λ o. cond (eqb line e.0) (Some e.1) (or_before (lookup (eqb line) rest) (get held line)) ≡ or_before o (get held line)) (λ is. rw is refl) (λ is. rw is refl)

pub state_told : (held : FinMap nat_cmp ℕ) (set : List (ℕ × ℕ)) (line state default : ℕ) → Some state ≡ lookup (eqb line) set → state ≡ unwrap_or (get (with_all held set) line) default
state_told held set line state default is = ap (λ o. unwrap_or (or_before o (get held line)) default) is ∙ ap (λ o. unwrap_or o default) (sym (got_from held set line))

pub state_untold : (held : FinMap nat_cmp ℕ) (set : List (ℕ × ℕ)) (line : ℕ) → None ≡ lookup (eqb line) set → get (with_all held set) line ≡ get held line
state_untold held set line is = got_from held set line ∙ ap (λ o. or_before o (get held line)) (sym is)
