-- Trees whose numbers a routine can hold, and texts of no tree that it can hold: for contracts.
use Rattle.std.specs.Prelude.{ℕ, ◌≤◌, ◌≡◌, List, pos, negsuc}
use Rattle.l1.specs.Syntax.{Expr, int, bool, ◌‹◌#◌›◌, if◌then'◌else◌, ◌:=◌, !◌, skip, ◌⨾◌, while◌do'◌done}
use Rattle.l1.specs.Measures.{size, places}
use Rattle.l1.specs.Text.{text}
use Rattle.text_form.specs.Numbers.{LargeInteger}

-- integers of 32 bits (`negsuc n` is −(n + 1)) and locations of one byte
abbrev pub Small : Expr → Type 0
Small (int (pos n)) = n ≤ 2147483647
Small (int (negsuc n)) = n ≤ 2147483647
Small (bool b) = Unit
Small (e₁ ‹ o # i › e₂) = Small e₁ × Small e₂
Small (if e₁ then' e₂ else e₃) = Small e₁ × Small e₂ × Small e₃
Small (l := e) = (l ≤ 255) × Small e
Small (! l) = l ≤ 255
Small skip = Unit
Small (e₁ ⨾ e₂) = Small e₁ × Small e₂
Small (while e₁ do' e₂ done) = Small e₁ × Small e₂

-- no tree within the limits has the text t
pub record Unreadable (t : List ℕ) : Type 0 where
  pub none_fits : (e : Expr) → t ≡ text e → Small e → size e ≤ 4096 → ¬ (places e ≤ 256)

pub record NoLargeInteger (t : List ℕ) : Type 0 where
  pub none_large : (e : Expr) → t ≡ text e → (i : ℕ) → ¬ LargeInteger e i
