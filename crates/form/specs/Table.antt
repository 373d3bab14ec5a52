-- A table of the innermost levels, the innermost last, and a turn of the pass.
use Rattle.std.specs.Prelude.{ℕ, suc, ◌+◌, ◌≤◌, ◌<◌, ◌≡◌, Option, Some, None, Result, Ok, Err, List, ◌∷◌, length, get_or, drop}
use Rattle.form.specs.Levels.{levels, place_behind, levels_behind}
use Rattle.form.specs.Places.{Off, Fine, Stands, offset}
use Rattle.form.specs.declared.Level.{Level}
use Rattle.form.specs.declared.Level.TheVariants.{Root}
use Rattle.form.specs.declared.Point.{Point}

-- its first h entries are the h innermost of the levels ls, and Root beyond them
pub record Kept (ls tab : List Level) (h : ℕ) : Type 0 where
  pub enough : 2 ≤ length tab
  pub room : h ≤ length tab
  pub kept : (k j : ℕ) → suc (k + j) ≡ h → get_or ls k Root ≡ get_or tab j Root

-- q are the bytes before the innermost bracket that is open behind the bytes p, or none
pub record Outer (p q : List ℕ) : Type 0 where
  pub here : get_or (levels_behind p) 0 Root ≡ place_behind q
  pub beyond : drop 1 (levels_behind p) ≡ levels_behind q

-- a level l is put on the table
abbrev pub Pushes : List Level → ℕ → Level → List Level → ℕ → Type 0
Pushes tab h l tab' r = (ls : List Level) → Kept ls tab h → Kept (l ∷ ls) tab' r

-- the innermost of the levels ls, l, is taken from it
abbrev pub Pops : List Level → Level → List Level → ℕ → Type 0
Pops ls l tab h = (l ≡ get_or ls 0 Root) × Kept (drop 1 ls) tab h

-- what a turn of the pass at i leads to, the first h entries of the table being kept then
abbrev pub Turns : List ℕ → ℕ → List Level → ℕ → Result (Option Point) ℕ → Type 0
Turns t i tab h (Err k) = Off t k
Turns t i tab h (Ok None) = Fine t
Turns t i tab h (Ok (Some p)) = Stands t p × Kept (levels t (offset p)) tab h × (i < offset p)
