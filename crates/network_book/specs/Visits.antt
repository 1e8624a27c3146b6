-- What a worker's turn under the lock does to its pass. The turn finds what others have done since the pass saw the run last, and adds
-- events of its own. So what the pass has seen grows by both, and its own entries by what was added; all else of it stays.
use Rattle.std.specs.Prelude.{◌≡◌, ◌++◌, ℕ, false, List, []}
use Rattle.turn_lock.specs.Prelude.{Standing, owned}

module _ {P : Type 0} where
  abbrev pub after_visit : Standing P → (found added : List ℕ) → Standing P
  after_visit pass found added = record pass {
    seen = (pass.seen ++ found) ++ added;
    mine = pass.mine ++ added;
    inside = false;
    entered = [];
  }

  pub record HasVisited (old new : Standing P) (added : List ℕ) : Type 0 where
    pub found : List ℕ
    pub of_others : owned old.number found ≡ []
    pub is : new ≡ after_visit old found added
