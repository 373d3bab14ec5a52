-- What is to come at byte i of the text t, and what each part of the pass finds there.
use Rattle.std.specs.Prelude.{ℕ, ◌+◌, ◌≤◌, ◌<◌, ◌≡◌, Bool, true, false, Result, Ok, Err, List, ◌∷◌, length, get_or, drop}
use Rattle.text_form.specs.Automaton.{Stop, code, Sym, lit, more, opened, joint, sticks, rest, total}
use Rattle.form.specs.Levels.{inner, has, wants, goal, all, place_at, levels, Stacked}
use Rattle.form.specs.declared.Start.{Start}
use Rattle.form.specs.declared.Next.{Next}
use Rattle.form.specs.declared.Level.{Level}
use Rattle.form.specs.declared.Level.TheVariants.{Close}
use Rattle.form.specs.declared.Point.{Point}
use Rattle.form.specs.declared.Point.TheVariants.{Wants, Has}
use Rattle.form.specs.declared.Start.TheVariants.{Value, Opened}
use Rattle.form.specs.declared.Next.TheVariants.{Inside, Closed, Ended}

-- the bytes before i fit, the symbols st are to come, and the forms open there have the levels ls
pub record At (t : List ℕ) (i : ℕ) (st : List Sym) (ls : List Level) : Type 0 where
  pub inside : i ≤ length t
  pub fits : total t ≡ i + sticks st (rest t i)
  pub held : levels t i ≡ ls

-- no more than k bytes fit; all fit
pub record Off (t : List ℕ) (k : ℕ) : Type 0 where
  pub inside : k ≤ length t
  pub fits : total t ≡ k

abbrev pub Fine : List ℕ → Type 0
Fine t = total t ≡ length t + 1

-- an expression at level l stands at i, complete or still to come
pub record State (t : List ℕ) (i : ℕ) (l : Level) (complete : Bool) : Type 0 where
  pub at : At t i (goal complete l (all (levels t i))) (levels t i)
  pub stack : Stacked l (levels t i)
  pub place : complete ≡ false → place_at t i ≡ l

-- the same of a point of the pass
abbrev pub offset : Point → ℕ
offset (Wants i l) = i
offset (Has i l) = i

abbrev pub Stands : List ℕ → Point → Type 0
Stands t (Wants i l) = State t i l false
Stands t (Has i l) = State t i l true

-- the first r bytes of w stand at i
pub record Fits (t : List ℕ) (i : ℕ) (w : List ℕ) (r : ℕ) : Type 0 where
  pub same : (j : ℕ) → j < r → get_or t (i + j) 256 ≡ get_or w j 0
  pub short : r ≤ length w
  pub inside : i + r ≤ length t

-- x of what ends at k, or the byte that does not fit
abbrev pub ended_by : {T : Type 0} → (ℕ → T) → Result ℕ ℕ → Result T ℕ
ended_by x (Ok k) = Ok (x k)
ended_by x (Err k) = Err k

-- the byte at i, or i, where the text ends
abbrev pub Byte : List ℕ → ℕ → Result ℕ ℕ → Type 0
Byte t i (Ok b) = (b ≡ get_or t i 256) × (i < length t) × (b < 256)
Byte t i (Err k) = (k ≡ i) × (get_or t i 256 ≡ 256)

-- all of w stands at i, up to its end, or up to the first other byte
pub data Spelled (t : List ℕ) (i : ℕ) (w : List ℕ) : Result ℕ ℕ → Type 0 where
  spelt : Fits t i w (length w) → Spelled t i w (Ok (i + length w))
  broken : {r : ℕ} → Fits t i w r → r < length w → (get_or t (i + r) 256 ≡ get_or w r 0 → ⊥) → Spelled t i w (Err (i + r))

-- digits from i up to r
pub record Digits (t : List ℕ) (i r : ℕ) : Type 0 where
  pub forth : i ≤ r
  pub short : r ≤ length t
  pub past : (c : Stop) (st : List Sym) (ls : List Level) → At t i (more c ∷ st) ls → At t r (lit (code c) ∷ st) ls

-- a number from i up to r, or none
pub record Numbered (s : Stop → Sym) (t : List ℕ) (i r : ℕ) : Type 0 where
  pub forth : i < r
  pub short : r ≤ length t
  pub past : (c : Stop) (st : List Sym) (ls : List Level) → At t i (s c ∷ st) ls → At t r (lit (code c) ∷ st) ls

pub data Number (s : Stop → Sym) (t : List ℕ) (i : ℕ) : Result ℕ ℕ → Type 0 where
  number : {r : ℕ} → Numbered s t i r → Number s t i (Ok r)
  none : ((c : Stop) (st : List Sym) (ls : List Level) → At t i (s c ∷ st) ls → Off t i) → Number s t i (Err i)

-- an expression at level m is to come at k inside a form
pub record Entered (t : List ℕ) (k : ℕ) (m : Level) (st : List Sym) (ls : List Level) : Type 0 where
  pub at : At t k (wants m st) ls
  pub place : place_at t k ≡ m
  pub inside : inner m ≡ true

-- from i on: such an expression, told by x, or a byte that does not fit
pub data Enters {T : Type 0} (t : List ℕ) (i : ℕ) (st : List Sym) (ls : List Level) (x : ℕ → Level → T) : Result T ℕ → Type 0 where
  enters : (k : ℕ) (m : Level) → i ≤ k → Entered t k m st ls → Enters t i st ls x (Ok (x k m))
  stays : {k : ℕ} → Off t k → Enters t i st ls x (Err k)

-- behind "(", and behind a left side
abbrev pub Opens : List ℕ → ℕ → Result Start ℕ → Type 0
Opens t i r = (st : List Sym) (ls : List Level) → At t i (opened ∷ st) ls → Enters t i st ls Opened r

abbrev pub Joins : List ℕ → ℕ → Result ℕ ℕ → Type 0
Joins t i r = (st : List Sym) (ls : List Level) → At t i (lit 32 ∷ joint ∷ st) ls → Enters t (i + 1) st ls Inside (ended_by (λ k. Inside k Close) r)

-- what is found at i where an expression at level l is to come
pub data Starts (t : List ℕ) (i : ℕ) (l : Level) : Result Start ℕ → Type 0 where
  starts_wrong : {k : ℕ} → Off t k → Starts t i l (Err k)
  value : {k : ℕ} → i < k → At t k (has l (all (levels t i))) (levels t i) → Starts t i l (Ok (Value k))
  opens : {k : ℕ} {m : Level} → i < k → Entered t k m (has l (all (levels t i))) (l ∷ levels t i) → Starts t i l (Ok (Opened k m))

-- and where one is complete
pub data Follows (t : List ℕ) (i : ℕ) (l : Level) : Result Next ℕ → Type 0 where
  follows_wrong : {k : ℕ} → Off t k → Follows t i l (Err k)
  inside : {k : ℕ} {m : Level} → i < k → inner l ≡ true → Entered t k m (all (levels t i)) (levels t i) → Follows t i l (Ok (Inside k m))
  closed : {k : ℕ} → i < k → inner l ≡ true → At t k (all (levels t i)) (drop 1 (levels t i)) → Follows t i l (Ok (Closed k))
  ended : Fine t → Follows t i l (Ok Ended)

-- where an expression is to come, and where it is one without parts
abbrev pub Wanted : List ℕ → ℕ → Result Start ℕ → Type 0
Wanted t i r = (l : Level) → State t i l false → Starts t i l r

abbrev pub Leaf : List ℕ → ℕ → Result ℕ ℕ → Type 0
Leaf t i r = ¬ (get_or t i 256 ≡ 40) → Wanted t i (ended_by Value r)
