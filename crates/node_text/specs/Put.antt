-- What a writer leaves: t stands in the buffer from `at` on, the other bytes are as before, and r is the place after it.
use Rattle.std.specs.Prelude.{ℕ, ◌+◌, ◌≡◌, List, length}
use Rattle.std.proofs.lemmas.List.Edits.{sets}

pub record Put (buf : List ℕ) (at : ℕ) (t buf' : List ℕ) (r : ℕ) : Type 0 where
  pub held : buf' ≡ sets buf at t
  pub next : r ≡ at + length t
