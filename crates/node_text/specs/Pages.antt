-- What a writer leaves on a page: t is put in the page's room from its place on, the place stands behind it, and the room is the same borrow, as long as it was.
use Rattle.std.specs.Prelude.{ℕ, ◌+◌, ◌≡◌, ◌≤◌, List, length}
use Rattle.node_text.specs.Put.{Put}
use Rattle.node_text.specs.declared.Page.{Page}

pub record Puts (p : Page) (t : List ℕ) (q : Page) : Type 0 where
  pub put : Put p.room.now p.at t q.room.now q.at
  pub keeps : length q.room.now ≡ length p.room.now
  pub same : q.room.ghost_name ≡ p.room.ghost_name

-- t has room on the page
abbrev pub Fits : Page → List ℕ → Type 0
Fits p t = p.at + length t ≤ length p.room.now
