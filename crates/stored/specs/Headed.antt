-- What the first six bytes say where none of 1 to 6 is given, for the contracts of what reads further; proofs/Opens.antt has it of bytes that open.
use Rattle.std.specs.Prelude.{ℕ, ◌+◌, ◌*◌, ◌≤◌, ◌<◌, ◌≡◌, List, length}
use Rattle.stored.specs.Bytes.{byte, pair}
use Rattle.stored.specs.Refusals.{locations, count}

pub record Headed (b : List ℕ) : Type 0 where
  pub all_bytes : length b ≡ 6 + 8 * count b
  pub said_bytes : pair b 0 ≡ 4 + 8 * count b
  pub version : byte b 2 ≡ 1
  pub few_locations : locations b ≤ 64
  pub some_nodes : 0 < count b
  pub few_nodes : count b ≤ 4096
