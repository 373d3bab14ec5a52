-- 01, "The stored routine": the bytes of a tree with m declared locations, by 01's table of kinds.
use Rattle.std.specs.Prelude.{ℕ, ◌+◌, ◌-◌, ◌*◌, ◌/◌, ◌%◌, ◌≤◌, cond, List, ◌∷◌, ◌++◌, ℤ}
use Rattle.l1.specs.Syntax.{Op, plus, geq, Loc, Expr, int, bool, ◌‹◌#◌›◌, if◌then'◌else◌, ◌:=◌, !◌, skip, ◌⨾◌, while◌do'◌done}
use Rattle.l1.specs.Range.{InRange}
use Rattle.l1.specs.Measures.{size, places}
use Rattle.l1.specs.Refused.{Node, Numbered}
use Rattle.stored.specs.Bytes.{two_bytes, unsigned}

-- "byte 0 kind, byte 1 a small argument, bytes 2-3, 4-5 and 6-7 the numbers of the first, second and third child"; what is not used is 0
abbrev pub node_bytes : ℕ → ℕ → ℕ → ℕ → ℕ → List ℕ
node_bytes kind arg first second third = kind ∷ arg ∷ two_bytes first ++ two_bytes second ++ two_bytes third

abbrev pub op_kind : Op → ℕ
op_kind plus = 2
op_kind geq = 3

-- the number of the root of e, where the nodes of e are numbered from f on
abbrev pub root_from : ℕ → Expr → ℕ
root_from f e = f + size e - 1

-- the bytes of the nodes of e in post-order, numbered from f on
unfoldable pub bytes_from : ℕ → Expr → List ℕ
bytes_from f (int n) = node_bytes 0 0 0 (unsigned n / 65536) (unsigned n % 65536)
bytes_from f (bool b) = node_bytes 1 (cond b 1 0) 0 0 0
bytes_from f (e₁ ‹ o # i › e₂) =
    bytes_from f e₁
    ++ bytes_from (f + size e₁) e₂
    ++ node_bytes (op_kind o) 0 (root_from f e₁) (root_from (f + size e₁) e₂) 0
bytes_from f (if e₁ then' e₂ else e₃) =
    bytes_from f e₁
    ++ bytes_from (f + size e₁) e₂
    ++ bytes_from (f + size e₁ + size e₂) e₃
    ++ node_bytes 4 0 (root_from f e₁) (root_from (f + size e₁) e₂) (root_from (f + size e₁ + size e₂) e₃)
bytes_from f (l := e) = bytes_from f e ++ node_bytes 5 l (root_from f e) 0 0
bytes_from f (! l) = node_bytes 6 l 0 0 0
bytes_from f skip = node_bytes 7 0 0 0 0
bytes_from f (e₁ ⨾ e₂) =
    bytes_from f e₁
    ++ bytes_from (f + size e₁) e₂
    ++ node_bytes 8 0 (root_from f e₁) (root_from (f + size e₁) e₂) 0
bytes_from f (while e₁ do' e₂ done) =
    bytes_from f e₁
    ++ bytes_from (f + size e₁) e₂
    ++ node_bytes 9 0 (root_from f e₁) (root_from (f + size e₁) e₂) 0

-- "Bytes 0-1: the number of bytes after them. Byte 2: version, 1. Byte 3: m. Bytes 4-5: n, the number of nodes. Then n nodes of 8 bytes."
unfoldable pub stored : ℕ → Expr → List ℕ
stored m e = two_bytes (4 + 8 * size e) ++ 1 ∷ m ∷ two_bytes (size e) ++ bytes_from 0 e

-- the trees that a routine can hold: within the limits of 01 and of request 2 of 02, integers of 32 bits, locations of one byte, and each
-- operator numbered by its own node
pub record Storable (m : ℕ) (e : Expr) : Type 0 where
  pub few_locations : m ≤ 64
  pub few_nodes : size e ≤ 4096
  pub few_places : places e ≤ 256
  pub integers : (i : ℕ) (n : ℤ) → Node e i (int n) → InRange n
  pub read_locations : (i : ℕ) (l : Loc) → Node e i (! l) → l ≤ 255
  pub written_locations : (i : ℕ) (l : Loc) (d : Expr) → Node e i (l := d) → l ≤ 255
  pub numbered : Numbered e
