-- 01's read set and write set: the locations under a dereference and the locations assigned, over the whole routine, untaken branches
-- included; and such a set as a word, "bit i for location i".
use Rattle.std.specs.Prelude.{ℕ, ◌/◌, ◌%◌, ◌^◌}
use mathlib.Core.List.{List, [], ◌∷◌, ◌++◌, Memᴰ}
use Rattle.std.specs.Int.Bits.{bit_or}
use Rattle.l1.specs.Syntax.{Loc, Expr, int, bool, ◌‹◌#◌›◌, if◌then'◌else◌, ◌:=◌, !◌, skip, ◌⨾◌, while◌do'◌done}

pub data Use : Type 0 where
  reading writing : Use

-- what a dereference of l reads and writes, and what an assignment to l does
abbrev pub uses_of_deref : Use → Loc → List Loc
uses_of_deref reading l = l ∷ []
uses_of_deref writing l = []

abbrev pub uses_of_assign : Use → Loc → List Loc
uses_of_assign reading l = []
uses_of_assign writing l = l ∷ []

abbrev pub uses : Use → Expr → List Loc
uses u (int n) = []
uses u (bool b) = []
uses u (e₁ ‹ o # i › e₂) = uses u e₁ ++ uses u e₂
uses u (if e₁ then' e₂ else e₃) = uses u e₁ ++ uses u e₂ ++ uses u e₃
uses u (l := e) = uses u e ++ uses_of_assign u l
uses u (! l) = uses_of_deref u l
uses u skip = []
uses u (e₁ ⨾ e₂) = uses u e₁ ++ uses u e₂
uses u (while e₁ do' e₂ done) = uses u e₁ ++ uses u e₂

-- the read set and the write set
abbrev pub reads : Expr → List Loc
reads e = uses reading e

abbrev pub writes : Expr → List Loc
writes e = uses writing e

infix 20 ◌∈◌
abbrev pub ◌∈◌ : Loc → List Loc → Type 0
l ∈ ls = Memᴰ l ls

-- the word that has the bits of these locations and no other
unfoldable pub word : List Loc → ℕ
word [] = 0
word (l ∷ ls) = bit_or (2 ^ l) (word ls)

-- bit l of a word
abbrev pub bit : ℕ → Loc → ℕ
bit w l = w / 2 ^ l % 2
