-- The places of the rules of 2.3 that only say where the work is done, as contexts: what stands around the part at work.
use Rattle.std.specs.Prelude.{ℕ, ◌+◌, ◌*◌, List, [], ◌∷◌, ℤ}
use Rattle.l1.specs.Syntax.{Op, Loc, Expr, int, ◌‹◌#◌›◌, if◌then'◌else◌, ◌:=◌, ◌⨾◌}
use Rattle.l1.specs.Measures.{size}

pub data Context : Type 0 where
  in_op1 : ℕ → Op → Expr → Context
  in_op2 : ℕ → Op → ℤ → Context
  in_if3 : Expr → Expr → Context
  in_assign2 : Loc → Context
  in_seq2 : Expr → Context

abbrev pub fill : Context → Expr → Expr
fill (in_op1 i o e₂) e = e ‹ o # i › e₂
fill (in_op2 i o n) e = int n ‹ o # i › e
fill (in_if3 e₂ e₃) e = if e then' e₂ else e₃
fill (in_assign2 l) e = l := e
fill (in_seq2 e₂) e = e ⨾ e₂

-- the innermost context first
abbrev pub plug : List Context → Expr → Expr
plug [] e = e
plug (f ∷ k) e = plug k (fill f e)

-- what is left to the search for the next place of work: it falls with each move
abbrev pub left_to_search : Context → ℕ
left_to_search (in_op1 i o e₂) = 1 + 2 * size e₂
left_to_search (in_op2 i o n) = 0
left_to_search (in_if3 e₂ e₃) = 0
left_to_search (in_assign2 l) = 0
left_to_search (in_seq2 e₂) = 0

abbrev pub all_left : List Context → ℕ
all_left [] = 0
all_left (f ∷ k) = left_to_search f + all_left k
