-- 01's number, and what it also returns, for each case of a refusal.
use Rattle.std.specs.Prelude.{ℕ, Option, None, Some}
use Rattle.stored.specs.Stages as S
use Rattle.stored.specs.Stages.{no, no_with}
use Rattle.routine.specs.declared.Refusal.{Refusal}
use Rattle.routine.specs.declared.Refusal.TheVariants.{Short, Count, Version, Locations, Nodes, Length, Layout, Forest, Places}
use Rattle.routine.specs.declared.Refusal.TheVariants.{Undeclared, First, Second, Branches, Store, Buffer, Input}

abbrev pub refusal_of : Refusal → S.Refusal
refusal_of Short = no 1
refusal_of Count = no 2
refusal_of Version = no 3
refusal_of Locations = no 4
refusal_of Nodes = no 5
refusal_of Length = no 6
refusal_of (Layout i) = no_with 7 i
refusal_of Forest = no 8
refusal_of Places = no 9
refusal_of (Undeclared i) = no_with 20 i
refusal_of (First i) = no_with 21 i
refusal_of (Second i) = no_with 22 i
refusal_of (Branches i) = no_with 23 i
refusal_of Store = no 30
refusal_of (Buffer n) = no_with 32 n
refusal_of Input = no 40

-- what a refusal also returns, 0 where it returns nothing
abbrev pub returned : S.Refusal → ℕ
returned (no c) = 0
returned (no_with c i) = i

-- what a refusal also returns
abbrev pub also_of : S.Refusal → Option ℕ
also_of (no c) = None
also_of (no_with c i) = Some i
