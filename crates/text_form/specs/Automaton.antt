-- The text form byte by byte: what is still to come is a list of symbols, and the next byte replaces the first of them by others or fits none.
-- Each number is told from what follows it by the byte after it, so a symbol that can end in a number takes that byte with it.
use Rattle.std.specs.Prelude.{ℕ, ◌+◌, Bool, true, false, List, [], ◌∷◌, ◌++◌, eqb, drop}
use Rattle.std.proofs.Math.Option.{Option, none, some}
use Rattle.l1.specs.Text.{bytes}
use Rattle.text_form.specs.Digits.{digit, nonzero}

-- what stands behind an expression: a space, a closing bracket, or the end of the text (no byte: 256)
pub data Stop : Type 0 where
  space close end : Stop

abbrev pub code : Stop → ℕ
code space = 32
code close = 41
code end = 256

pub data Sym : Type 0 where
  lit : ℕ → Sym  -- this byte
  wanted : Stop → Sym  -- an expression and its stop
  natural : Stop → Sym  -- a decimal number and its stop
  positive : Stop → Sym  -- the same, not 0
  more : Stop → Sym  -- more digits, or none, and the stop
  opened : Sym  -- what can follow a "(" that begins an expression
  joint : Sym  -- what can follow the space behind the left side of an operator or of a sequence

-- the bytes w and then st
abbrev pub word : List ℕ → List Sym → List Sym
word [] st = st
word (b ∷ w) st = lit b ∷ word w st

-- the first row with the byte b
pub record Row : Type 0 where
  pub first : ℕ
  pub rest : List Sym

abbrev pub pick : Bool → List Sym → Option (List Sym) → Option (List Sym)
pick true r o = some r
pick false r o = o

unfoldable pub choose : List Row → ℕ → Option (List Sym)
choose [] b = none
choose (w ∷ ws) b = pick (eqb b w.first) w.rest (choose ws b)

abbrev pub row : ℕ → List Sym → Row
row b r = record { first = b; rest = r }

abbrev pub leaves : Stop → List Row
leaves c =
    row 48 (lit (code c) ∷ [])
    ∷ row 45 (positive c ∷ [])
    ∷ row 116 (word (bytes "rue") (lit (code c) ∷ []))
    ∷ row 102 (word (bytes "alse") (lit (code c) ∷ []))
    ∷ row 115 (word (bytes "kip") (lit (code c) ∷ []))
    ∷ row 33 (word (bytes "l") (natural c ∷ []))
    ∷ row 40 (opened ∷ lit (code c) ∷ [])
    ∷ []

abbrev pub heads : List Row
heads =
    row 105 (word (bytes "f ") (wanted space ∷ word (bytes "then ") (wanted space ∷ word (bytes "else ") (wanted close ∷ []))))
    ∷ row 119 (word (bytes "hile ") (wanted space ∷ word (bytes "do ") (wanted space ∷ word (bytes "done)") [])))
    ∷ row 108 (natural space ∷ word (bytes ":= ") (wanted close ∷ []))
    ∷ []

abbrev pub joints : List Row
joints =
    row 43 (word (bytes " ") (wanted close ∷ []))
    ∷ row 62 (word (bytes "= ") (wanted close ∷ []))
    ∷ row 59 (word (bytes " ") (wanted close ∷ []))
    ∷ []

unfoldable pub starts : Stop → ℕ → Option (List Sym)
starts c b = pick (nonzero b) (more c ∷ []) (choose (leaves c) b)

-- an expression, its space and a joint; where b begins none, a head
abbrev pub within : Option (List Sym) → Option (List Sym) → Option (List Sym)
within (some r) o = some (r ++ joint ∷ [])
within none o = o

-- what is to come of the symbol after its first byte b
unfoldable pub begin : Sym → ℕ → Option (List Sym)
begin (lit a) b = pick (eqb b a) [] none
begin (wanted c) b = starts c b
begin (natural c) b = pick (nonzero b) (more c ∷ []) (pick (eqb b 48) (lit (code c) ∷ []) none)
begin (positive c) b = pick (nonzero b) (more c ∷ []) none
begin (more c) b = pick (digit b) (more c ∷ []) (pick (eqb b (code c)) [] none)
begin opened b = within (starts space b) (choose heads b)
begin joint b = choose joints b

abbrev pub before : List Sym → Option (List Sym) → Option (List Sym)
before st none = none
before st (some r) = some (r ++ st)

unfoldable pub next : List Sym → ℕ → Option (List Sym)
next [] b = none
next (s ∷ st) b = before st (begin s b)

-- what is to come after the bytes p, if they fit
abbrev pub on : Option (List Sym) → (List Sym → Option (List Sym)) → Option (List Sym)
on none f = none
on (some st) f = f st

unfoldable pub run : List Sym → List ℕ → Option (List Sym)
run st [] = some st
run st (b ∷ p) = on (next st b) (λ st'. run st' p)

-- how many bytes of p fit
abbrev pub tally : Option (List Sym) → (List Sym → ℕ) → ℕ
tally none f = 0
tally (some st) f = 1 + f st

unfoldable pub sticks : List Sym → List ℕ → ℕ
sticks st [] = 0
sticks st (b ∷ p) = tally (next st b) (λ st'. sticks st' p)

-- the text from byte i on, and its end
unfoldable pub rest : List ℕ → ℕ → List ℕ
rest t i = drop i (t ++ 256 ∷ [])

-- how many bytes of the text and its end fit
abbrev pub total : List ℕ → ℕ
total t = sticks (wanted end ∷ []) (rest t 0)
