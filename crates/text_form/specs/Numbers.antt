-- 02, request 1: "51 integer out of range and 52 location over 255, each with the offset of the first such number's first byte, a minus included".
use Rattle.std.specs.Prelude.{ℕ, ◌+◌, ◌≤◌, ◌<◌, ◌++◌, ℤ, length}
use Rattle.l1.specs.Syntax.{Op, Loc, Expr, int, ◌‹◌#◌›◌, if◌then'◌else◌, ◌:=◌, !◌, ◌⨾◌, while◌do'◌done}
use Rattle.l1.specs.Range.{InRange}
use Rattle.l1.specs.Text.{bytes, sign, location, text}

-- `Part e i d`: d is a part of e, and in the text of e its own text begins behind i bytes
pub data Part : Expr → ℕ → Expr → Type 0 where
  whole : {e : Expr} → Part e 0 e
  op_left : {e₁ e₂ d : Expr} {o : Op} {k i : ℕ} → Part e₁ i d → Part (e₁ ‹ o # k › e₂) (length (bytes "(") + i) d
  op_right : {e₁ e₂ d : Expr} {o : Op} {k i : ℕ} → Part e₂ i d → Part (e₁ ‹ o # k › e₂) (length (bytes "(" ++ text e₁ ++ sign o) + i) d
  if_test : {e₁ e₂ e₃ d : Expr} {i : ℕ} → Part e₁ i d → Part (if e₁ then' e₂ else e₃) (length (bytes "(if ") + i) d
  if_then : {e₁ e₂ e₃ d : Expr} {i : ℕ} → Part e₂ i d → Part (if e₁ then' e₂ else e₃) (length (bytes "(if " ++ text e₁ ++ bytes " then ") + i) d
  if_else : {e₁ e₂ e₃ d : Expr} {i : ℕ} → Part e₃ i d
      → Part (if e₁ then' e₂ else e₃) (length (bytes "(if " ++ text e₁ ++ bytes " then " ++ text e₂ ++ bytes " else ") + i) d
  assigned : {l : Loc} {e d : Expr} {i : ℕ} → Part e i d → Part (l := e) (length (bytes "(" ++ location l ++ bytes " := ") + i) d
  seq_first : {e₁ e₂ d : Expr} {i : ℕ} → Part e₁ i d → Part (e₁ ⨾ e₂) (length (bytes "(") + i) d
  seq_second : {e₁ e₂ d : Expr} {i : ℕ} → Part e₂ i d → Part (e₁ ⨾ e₂) (length (bytes "(" ++ text e₁ ++ bytes " ; ") + i) d
  while_test : {e₁ e₂ d : Expr} {i : ℕ} → Part e₁ i d → Part (while e₁ do' e₂ done) (length (bytes "(while ") + i) d
  while_body : {e₁ e₂ d : Expr} {i : ℕ} → Part e₂ i d → Part (while e₁ do' e₂ done) (length (bytes "(while " ++ text e₁ ++ bytes " do ") + i) d

-- an integer of e that is out of range: its first byte is the minus, where it has one
pub data LargeInteger (e : Expr) : ℕ → Type 0 where
  large_integer : {n : ℤ} {i : ℕ} → Part e i (int n) → ¬ InRange n → LargeInteger e i

-- a location of e over 255: its number stands behind "!l" or "(l"
pub data LargeLocation (e : Expr) : ℕ → Type 0 where
  large_read : {l : Loc} {i : ℕ} → Part e i (! l) → 255 < l → LargeLocation e (i + length (bytes "!l"))
  large_written : {l : Loc} {d : Expr} {i : ℕ} → Part e i (l := d) → 255 < l → LargeLocation e (i + length (bytes "(l"))

-- "the first such number"
pub record Foremost (P : ℕ → Type 0) (i : ℕ) : Type 0 where
  pub is : P i
  pub none_before : (j : ℕ) → P j → i ≤ j
