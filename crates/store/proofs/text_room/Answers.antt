-- `store::text_room` meets its contract: the length of so many zeros, by its law and not by counting them.
use Rattle.std.proofs.Common.{ℕ, ◌≡◌, length, replicate, sym}
use Rattle.std.proofs.lemmas.List.{length-replicate}
use Rattle.store.proofs.text_room.Goals as goal

long : (n z : ℕ) → n ≡ length (replicate n z)
long n z = sym (length-replicate n z)

pub returns : goal.returns
returns c = long 1048578 0
