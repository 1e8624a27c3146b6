-- What a body has of its own as its code is written: names, and locals. Each declaration has a local of its own; beside these there is one
-- for each kind that code sets aside for a moment, and there are some for each type of messages around an `enqueue` whose fields are kept.
-- After a block its names are gone, and its locals are there still.
use Rattle.std.specs.Prelude.{ℕ, ◌==◌, Option, None, Some, List, [], ◌∷◌, ◌++◌, find, length, map, slice_get}
use Rattle.ruby_value.specs.declared.kind.Kind.{Kind}
use Rattle.ruby_value.specs.Prelude.{equal_kinds}
use Rattle.ruby_symbols.specs.declared.types.FieldSymbol.{FieldSymbol}
use Rattle.ruby_symbols.specs.declared.types.StructureSymbol.{StructureSymbol}
use Rattle.ruby_symbols.specs.declared.symbols.Symbols.{Symbols}
use Rattle.action_code.specs.Prelude.{bare}
use Rattle.body_code.specs.declared.left.Home.{Home}
use Rattle.body_code.specs.declared.left.Home.TheVariants as home
use Rattle.body_code.specs.declared.left.NameAt.{NameAt}
use Rattle.body_code.specs.declared.own.Locals.{Locals}
use Rattle.body_code.specs.declared.own.MessageKept.{MessageKept}
use Rattle.body_code.specs.declared.own.Own.{Own}
use Rattle.body_code.specs.declared.own.Scratch.{Scratch}

-- a local's number, and the locals with it
pub record Slot : Type 0 where
  pub slot : ℕ
  pub locals : Locals

abbrev pub with_kinds : List Kind → Locals → Locals
with_kinds kinds l = record l { kinds = l.kinds ++ kinds }

abbrev pub scratch_or : Kind → Locals → Option Scratch → Slot
scratch_or k l (Some s) = record { slot = s.slot; locals = l }
scratch_or k l None =
    record {
      slot = length l.kinds;
      locals = record {
        kinds = l.kinds ++ k ∷ [];
        scratch = l.scratch ++ record { kind = k; slot = length l.kinds } ∷ [];
        kept = l.kept;
      };
    }

-- the one that a value of this kind is set aside in
abbrev pub scratch_for : Kind → Locals → Slot
scratch_for k l = scratch_or k l (find (λ (s : Scratch). equal_kinds s.kind k) l.scratch)

-- the kinds of the fields of a structure
abbrev pub field_kinds : Option StructureSymbol → List Kind
field_kinds None = []
field_kinds (Some t) = map (λ (f : FieldSymbol). bare f.kind) t.fields

abbrev pub kept_or : Symbols → ℕ → Locals → Option MessageKept → Slot
kept_or symbols structure l (Some m) = record { slot = m.first; locals = l }
kept_or symbols structure l None =
    record {
      slot = length l.kinds;
      locals = record {
        kinds = l.kinds ++ field_kinds (slice_get symbols.structures structure);
        scratch = l.scratch;
        kept = l.kept ++ record { structure = structure; first = length l.kinds } ∷ [];
      };
    }

-- the first of those in which the fields of a message with this structure are kept
abbrev pub kept_for : Symbols → ℕ → Locals → Slot
kept_for symbols structure l =
    kept_or symbols structure l (find (λ (m : MessageKept). m.structure == structure) l.kept)

abbrev pub with_name : List ℕ → Home → List NameAt → List NameAt
with_name text h names = record { name = text; home = h } ∷ names

-- with a local of its own under this name
abbrev pub declared : List ℕ → Kind → Own → Own
declared text k own =
    record {
      names = with_name text (home.Local (length own.locals.kinds) k) own.names;
      locals = with_kinds (k ∷ []) own.locals;
    }
