-- Section 2.3, "stores s are finite partial functions from locations to integers". The lent store of 01 is a list of entries: location l holds
-- entry l, and the domain is the locations below the number of entries.
use Rattle.std.specs.Prelude.{◌<◌, List, ℤ, pos, length, get_or, set}
use Rattle.l1.specs.Syntax.{Loc}

abbrev pub Store : Type 0
Store = List ℤ

-- l ∈ dom(s)
infix 20 ◌∈dom◌
abbrev pub ◌∈dom◌ : Loc → Store → Type 0
l ∈dom s = l < length s

-- s(l), for l in the domain
abbrev pub lookup : Store → Loc → ℤ
lookup s l = get_or s l (pos 0)

-- s + {l ↦ n}, for l in the domain
abbrev pub update : Store → Loc → ℤ → Store
update s l n = set s l n
