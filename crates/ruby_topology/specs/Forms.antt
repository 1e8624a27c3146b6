-- The forms of a topology's lines, by their first words and how many words there are. A line of none of these forms breaks the
-- first rule. These forms are this project's own.
use Rattle.std.specs.Prelude.{ℕ, ◌==◌, ◌&&◌, cond, Option, None, Some, List, length, codes}
use Rattle.std.specs.Str.{bytes_eq}
use Rattle.ruby_topology.specs.declared.forms.Form.{Form}
use Rattle.ruby_topology.specs.declared.forms.Form.TheVariants.{Machine, PointToPoint, Crossbar, Mesh, Links, Link, Jitter, Ordered, Cache, Tbes, Size, Set}
use Rattle.ruby_topology.specs.Text.{word_at}

-- of a line that begins with `network`, by its second word
abbrev pub network_form : List ℕ → ℕ → Option Form
network_form kind count =
    cond (bytes_eq kind (codes "pt2pt") && (count == 3)) (Some PointToPoint)
    (cond (bytes_eq kind (codes "crossbar") && (count == 3)) (Some Crossbar)
    (cond (bytes_eq kind (codes "mesh") && (count == 5)) (Some Mesh)
    (cond (bytes_eq kind (codes "links") && (count == 2)) (Some Links) None)))

-- of another line, by its first word
abbrev pub line_form : List ℕ → ℕ → Option Form
line_form first count =
    cond (bytes_eq first (codes "machine") && (count == 3)) (Some Machine)
    (cond (bytes_eq first (codes "link") && (count == 4)) (Some Link)
    (cond (bytes_eq first (codes "jitter") && (count == 2)) (Some Jitter)
    (cond (bytes_eq first (codes "ordered") && (count == 2)) (Some Ordered)
    (cond (bytes_eq first (codes "cache") && (count == 5)) (Some Cache)
    (cond (bytes_eq first (codes "tbes") && (count == 4)) (Some Tbes)
    (cond (bytes_eq first (codes "size") && (count == 4)) (Some Size)
    (cond (bytes_eq first (codes "set") && (count == 4)) (Some Set) None)))))))

abbrev pub form_of : List (List ℕ) → Option Form
form_of words =
    cond (bytes_eq (word_at words 0) (codes "network")) (network_form (word_at words 1) (length words))
    (line_form (word_at words 0) (length words))
