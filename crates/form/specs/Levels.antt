-- The forms that are open before a byte of the text, by their levels: where each stands in the form around it. No stack holds them: the bytes before
-- an open bracket tell the level of its form.
use Rattle.std.specs.Prelude.{ℕ, zero, suc, ◌-◌, ◌≡◌, Bool, true, false, cond, List, [], ◌∷◌, ◌++◌, length, ltb, eqb, get_or, drop}
use Rattle.l1.specs.Text.{bytes}
use Rattle.text_form.specs.Automaton.{Stop, space, close, end, code, Sym, lit, wanted, joint, word}
use Rattle.form.specs.declared.Level.{Level}
use Rattle.form.specs.declared.Level.TheVariants.{Root, Left, Close, Test, Then, Turn, Body}

-- the levels: Root the whole text, Left a left side, Close what a closing bracket follows, Test and Then the test and the first branch of an if, Turn the test
-- of a while, Body its body

-- what stands behind an expression at this level, and behind that
abbrev pub stop : Level → Stop
stop Root = end
stop Left = space
stop Close = close
stop Test = space
stop Then = space
stop Turn = space
stop Body = space

abbrev pub after : Level → List Sym
after Root = []
after Left = joint ∷ []
after Close = []
after Test = word (bytes "then ") (wanted space ∷ word (bytes "else ") (wanted close ∷ []))
after Then = word (bytes "else ") (wanted close ∷ [])
after Turn = word (bytes "do ") (wanted space ∷ word (bytes "done)") [])
after Body = word (bytes "done)") []

-- what is to come where an expression at this level is complete, and where it is still to come
abbrev pub has : Level → List Sym → List Sym
has l st = lit (code (stop l)) ∷ (after l ++ st)

abbrev pub wants : Level → List Sym → List Sym
wants l st = wanted (stop l) ∷ (after l ++ st)

abbrev pub goal : Bool → Level → List Sym → List Sym
goal true l st = has l st
goal false l st = wants l st

unfoldable pub all : List Level → List Sym
all [] = []
all (l ∷ ls) = has l (all ls)

-- the k-th byte before i, 0 where there is none
abbrev pub back : List ℕ → ℕ → ℕ → ℕ
back t i k = cond (ltb i k) 0 (get_or t (i - k) 0)

-- the level of an expression, by the last byte before it and the third last: "(", or the third last of "if ", "while ", "then ", "do " and others
abbrev pub place_of : ℕ → ℕ → Level
place_of a c = cond (eqb a 40) Left (cond (eqb a 32) (cond (eqb c 105) Test (cond (eqb c 108) Turn (cond (eqb c 101) Then (cond (eqb c 100) Body Close)))) Root)

abbrev pub place_at : List ℕ → ℕ → Level
place_at t i = place_of (back t i 1) (back t i 3)

-- the levels of the forms that are open before byte i, the innermost first
abbrev pub turned : List ℕ → ℕ → ℕ → List Level → List Level
turned t i b ls = cond (eqb b 41) (drop 1 ls) (cond (eqb b 40) (place_at t i ∷ ls) ls)

unfoldable pub levels : List ℕ → ℕ → List Level
levels t zero = []
levels t (suc i) = turned t i (get_or t i 0) (levels t i)

-- where these bytes are all that is before
abbrev pub place_behind : List ℕ → Level
place_behind p = place_at p (length p)

abbrev pub levels_behind : List ℕ → List Level
levels_behind p = levels p (length p)

-- the whole text is the outermost level and no other
abbrev pub inner : Level → Bool
inner Root = false
inner l = true

pub data Stacked : Level → List Level → Type 0 where
  bottom : Stacked Root []
  up : {l m : Level} {ms : List Level} → inner l ≡ true → Stacked m ms → Stacked l (m ∷ ms)
