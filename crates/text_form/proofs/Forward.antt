-- The automaton takes the text of each tree where an expression is wanted, and whatever is still to come can be completed.
use Prim.Native.Nat.{ℕ, zero, suc}
use native.Mathlib.Omega.{arith}
use mathlib.Core.Path.{◌≡◌, refl, ◌∙◌, ap}
use mathlib.Core.Bool.{true, false}
use mathlib.Core.List.{List, [], ◌∷◌, ◌++◌, append_assoc}
use mathlib.Core.Option.{Option, none, some}
use borrow.Author.Tests.{eq-eqb}
use lib.IntN.{pos, negsuc}
use Rattle.l1.specs.Syntax.{plus, geq, Expr, int, bool, ◌‹◌#◌›◌, if◌then'◌else◌, ◌:=◌, !◌, skip, ◌⨾◌, while◌do'◌done}
use Rattle.l1.specs.Text.{bytes, digits, decimal, text}
use Rattle.text_form.specs.Digits.{nonzero}
use Rattle.text_form.specs.Automaton.{Stop, space, close, end, code, Sym, lit, wanted, natural, positive, more, opened, joint, choose, starts, begin, next, run}
use Rattle.text_form.proofs.Notation.{Digits, none, ◌then◌, zero_noted, noted}

pub never : {P : Type 0} {x : List Sym} → none ≡ some x → P
never e = absurd (let z : ◌≡◌ {A = ℕ} 0 1 = cc in omega arith)

-- digits
pub more_run : (c : Stop) (st : List Sym) (u : List ℕ) {ds : List ℕ} → Digits ds → run (more c ∷ st) (ds ++ u) ≡ run (more c ∷ st) u
unfolding run next begin
more_run c st u none = refl
more_run c st u (◌then◌ h hs) = rw h (more_run c st u hs)

module _ (st : List Sym) (u : List ℕ) where
  -- a byte
  pub literal : (a : ℕ) → run (lit a ∷ st) (a ∷ u) ≡ run st u
  unfolding run next begin
  literal a = rw (eq-eqb a a refl)

  -- numbers
  pub stop : (c : Stop) → run (more c ∷ st) (code c ∷ u) ≡ run st u
  unfolding run next begin
  stop space = refl
  stop close = refl
  stop end = refl

  module _ (c : Stop) where
    number_run : (s : Sym) → ((b : ℕ) → nonzero b ≡ true → begin s b ≡ some (more c ∷ [])) → (n : ℕ) → run (s ∷ st) (decimal (suc n) ++ code c ∷ u) ≡ run st u
    unfolding run next
    number_run s f n = let r = noted (suc n) (omega arith) in rw (r.is, f r.top r.leads) (more_run c st (code c ∷ u) r.digits ∙ stop c)

    natural_run : (n : ℕ) → run (natural c ∷ st) (decimal n ++ code c ∷ u) ≡ run st u
    unfolding run next begin
    natural_run zero = rw zero_noted (literal (code c))
    natural_run (suc n) = number_run (natural c) (λ b h. rw h) n

-- behind a "(" that is not followed by a head, an expression and a joint
sides_run : (t u : List ℕ) (st : List Sym) → run (wanted space ∷ []) (t ++ 32 ∷ []) ≡ some []
    → run (opened ∷ st) (t ++ 32 ∷ u) ≡ run (wanted space ∷ joint ∷ st) (t ++ 32 ∷ u)
unfolding run next begin starts choose
sides_run [] u st e = never e
sides_run (b ∷ t) u st e = go (starts space b) refl e
  where
    go : (o : Option (List Sym)) → starts space b ≡ o → run (wanted space ∷ []) (b ∷ t ++ 32 ∷ []) ≡ some []
        → run (opened ∷ st) (b ∷ t ++ 32 ∷ u) ≡ run (wanted space ∷ joint ∷ st) (b ∷ t ++ 32 ∷ u)
    go none q f = never (rw q at f)
    go (some r) q f = rw q (ap (λ (x : List Sym). run x (t ++ 32 ∷ u)) (append_assoc r (joint ∷ []) st))

-- t runs through where an expression and c are wanted
abbrev Runs : Stop → List ℕ → Type 0
Runs c t = (st : List Sym) (u : List ℕ) → run (wanted c ∷ st) (t ++ code c ∷ u) ≡ run st u

-- the brackets of appends, from the left to the right
two : (s : List Sym) (w x a y b u : List ℕ) → run s (w ++ x ++ a ++ y ++ b ++ u) ≡ run s (w ++ (x ++ (a ++ (y ++ (b ++ u)))))
two s w x a y b u = simp append_assoc

three : (s : List Sym) (w x a y b z d u : List ℕ) → run s (w ++ x ++ a ++ y ++ b ++ z ++ d ++ u) ≡ run s (w ++ (x ++ (a ++ (y ++ (b ++ (z ++ (d ++ u)))))))
three s w x a y b z d u = simp append_assoc

both_run : (x w y : List ℕ) → Runs space x → ((st : List Sym) (u : List ℕ) → run (joint ∷ st) (w ++ u) ≡ run (wanted close ∷ st) u) → Runs close y
    → (c : Stop) → Runs c (bytes "(" ++ x ++ 32 ∷ w ++ y ++ bytes ")")
unfolding run next begin starts choose
both_run x w y hx hw hy c st u =
    two (wanted c ∷ st) (bytes "(") x (32 ∷ w) y (bytes ")") (code c ∷ u)
    ∙ sides_run x _ _ (hx [] [])
    ∙ hx _ _
    ∙ hw _ _
    ∙ hy _ _
    ∙ literal st u (code c)

pub text_run : (e : Expr) (c : Stop) → Runs c (text e)
unfolding run next begin starts choose digits text
text_run (int (pos zero)) c st u = literal st u (code c)
text_run (int (pos (suc n))) c st u = number_run st u c (wanted c) (λ b h. rw h) n
text_run (int (negsuc n)) c st u = number_run st u c (positive c) (λ b h. rw h) n
text_run (bool true) c st u = literal st u (code c)
text_run (bool false) c st u = literal st u (code c)
text_run (e₁ ‹ plus # i › e₂) c st u = both_run (text e₁) (bytes "+ ") (text e₂) (text_run e₁ space) (λ st u. refl) (text_run e₂ close) c st u
text_run (e₁ ‹ geq # i › e₂) c st u = both_run (text e₁) (bytes ">= ") (text e₂) (text_run e₁ space) (λ st u. refl) (text_run e₂ close) c st u
text_run (if e₁ then' e₂ else e₃) c st u =
    three (wanted c ∷ st) (bytes "(if ") (text e₁) (bytes " then ") (text e₂) (bytes " else ") (text e₃) (bytes ")") (code c ∷ u)
    ∙ text_run e₁ space _ _
    ∙ text_run e₂ space _ _
    ∙ text_run e₃ close _ _
    ∙ literal st u (code c)
text_run (l := e) c st u =
    two (wanted c ∷ st) (bytes "(l") (decimal l) (bytes " := ") (text e) (bytes ")") (code c ∷ u)
    ∙ natural_run _ _ space l
    ∙ text_run e close _ _
    ∙ literal st u (code c)
text_run (! l) c st u = natural_run st u c l
text_run skip c st u = literal st u (code c)
text_run (e₁ ⨾ e₂) c st u = both_run (text e₁) (bytes "; ") (text e₂) (text_run e₁ space) (λ st u. refl) (text_run e₂ close) c st u
text_run (while e₁ do' e₂ done) c st u =
    two (wanted c ∷ st) (bytes "(while ") (text e₁) (bytes " do ") (text e₂) (bytes " done)") (code c ∷ u)
    ∙ text_run e₁ space _ _
    ∙ text_run e₂ space _ _
    ∙ literal st u (code c)

-- each symbol has something that it stands for
completes : (s : Sym) → (p : List ℕ) × ((st : List Sym) (u : List ℕ) → run (s ∷ st) (p ++ u) ≡ run st u)
unfolding run next begin starts choose
completes (lit a) = (a ∷ [], λ st u. literal st u a)
completes (wanted c) = (bytes "skip" ++ code c ∷ [], λ st u. literal st u (code c))
completes (natural c) = (bytes "0" ++ code c ∷ [], λ st u. literal st u (code c))
completes (positive c) = (bytes "1" ++ code c ∷ [], λ st u. stop st u c)
completes (more c) = (code c ∷ [], λ st u. stop st u c)
completes opened = (bytes "skip ; skip)", λ st u. refl)
completes joint = (bytes "; skip)", λ st u. refl)

-- and so has a list of symbols
pub completed : (st : List Sym) → (p : List ℕ) × (run st p ≡ some [])
unfolding run
completed [] = ([], refl)
completed (s ∷ st) = let a = completes s in let b = completed st in (a.0 ++ b.0, a.1 st b.0 ∙ b.1)
