-- The automaton against the form, both ways: the bytes that it takes are those that begin a text of the form, and what the number of bytes that fit says of a text.
use Prim.Native.Nat.{ℕ, zero, suc, ◌+◌, ◌≤◌, ◌<◌}
use native.Mathlib.Omega.{arith}
use native.Mathlib.Decide.{dec_lt}
use mathlib.Core.Path.{◌≡◌, refl, sym, ◌∙◌}
use mathlib.Core.Bool.{Bool, true, false, ◌&&◌}
use mathlib.Core.List.Memᴰ
use mathlib.Core.List.{List, [], ◌∷◌, ◌++◌, append_assoc, append-nil, append_cancel_right}
use mathlib.Core.Option.{Option, none, some}
use borrow.Author.Tests.{ltb-true}
use lib.Dec.{ltb}
use lib.IntN.{pos, negsuc}
use lib.ListN.{length, get_or, take, length-append, length-take, get_or-eq_default}
use lib.Seq.{take-append-le, take_all, get_or-take}
use Rattle.l1.specs.Syntax.{plus, geq, Expr, int, bool, ◌‹◌#◌›◌, if◌then'◌else◌, ◌:=◌, !◌, skip, ◌⨾◌, while◌do'◌done}
use Rattle.l1.specs.Text.{bytes, decimal, text}
use Rattle.text_form.specs.Form.{OfForm, Begins, Leaves, wrong_byte, too_soon}
use Rattle.text_form.specs.Automaton.{Sym, wanted, end, next, on, run, tally, sticks, rest, total}
use Rattle.l1.proofs.Membership.{All, all_of_none, all_of_one, all_of_both}
use Rattle.l1.proofs.Decimal.{decimal_digits}
use Rattle.text_form.proofs.Notation.{and_both}
use Rattle.text_form.proofs.Forward.{never, text_run, completed}
use Rattle.text_form.proofs.Backward.{shown}

-- a text to come
abbrev pub start : List Sym
start = wanted end ∷ []

abbrev pub Bytes : List ℕ → Type 0
Bytes t = (i : ℕ) → get_or t i 0 < 256

-- ---- runs

run_append : (st : List Sym) (p q : List ℕ) → run st (p ++ q) ≡ on (run st p) (λ s. run s q)
unfolding run
run_append st [] q = refl
run_append st (b ∷ p) q = go (next st b) (λ s. run_append s p q)
  where
    go : (o : Option (List Sym)) → ((s : List Sym) → run s (p ++ q) ≡ on (run s p) (λ x. run x q))
        → on o (λ s. run s (p ++ q)) ≡ on (on o (λ s. run s p)) (λ x. run x q)
    go none k = refl
    go (some s) k = k s

run_nothing : (t : List ℕ) → run [] t ≡ some [] → t ≡ []
unfolding run next
run_nothing [] e = refl
run_nothing (b ∷ t) e = never e

-- the first j bytes fit exactly where j is not over the number of bytes that fit
fit : (st : List Sym) (u : List ℕ) (j : ℕ) → j ≤ sticks st u → (s : List Sym) × (run st (take j u) ≡ some s)
unfolding run sticks
fit st u zero h = (st, refl)
fit st [] (suc j) h = absurd (omega arith)
fit st (b ∷ u) (suc j) h = go (next st b) h (λ s. fit s u j)
  where
    go : (o : Option (List Sym)) → suc j ≤ tally o (λ s. sticks s u) → ((s : List Sym) → j ≤ sticks s u → (x : List Sym) × (run s (take j u) ≡ some x))
        → (x : List Sym) × (on o (λ s. run s (take j u)) ≡ some x)
    go none h k = absurd (omega arith)
    go (some s) h k = k s (omega arith)

only : (st : List Sym) (u : List ℕ) (j : ℕ) (s : List Sym) → j ≤ length u → run st (take j u) ≡ some s → j ≤ sticks st u
unfolding run sticks
only st u zero s l e = omega arith
only st [] (suc j) s l e = absurd (omega arith)
only st (b ∷ u) (suc j) s l e = go (next st b) e (λ x. only x u j s (omega arith))
  where
    go : (o : Option (List Sym)) → on o (λ x. run x (take j u)) ≡ some s → ((x : List Sym) → run x (take j u) ≡ some s → j ≤ sticks x u)
        → suc j ≤ tally o (λ x. sticks x u)
    go none f k = never f
    go (some x) f k = let h = k x f in omega arith

-- ---- bytes: 256 is none, so it stands in no text of a tree

abbrev Small : List ℕ → Type 0
Small t = All (λ b. b < 256) t

abbrev below : List ℕ → Bool
below [] = true
below (b ∷ w) = ltb b 256 && below w

word : (w : List ℕ) → below w ≡ true → Small w
word [] e = all_of_none
word (b ∷ w) e = let p = and_both (ltb b 256) (below w) e in all_of_both (all_of_one {x = b} (ltb-true b 256 p.0)) (word w p.1)

number : (n : ℕ) → Small (decimal n)
number n = record { each = λ b m. let d = (decimal_digits n).each b m in omega arith }

infixl 65 ◌⊕◌
◌⊕◌ : {u v : List ℕ} → Small u → Small v → Small (u ++ v)
a ⊕ b = all_of_both a b

small : (e : Expr) → Small (text e)
unfolding text
small (int (pos n)) = number n
small (int (negsuc n)) = word (bytes "-") refl ⊕ number (suc n)
small (bool true) = word (bytes "true") refl
small (bool false) = word (bytes "false") refl
small (e₁ ‹ plus # i › e₂) = word (bytes "(") refl ⊕ small e₁ ⊕ word (bytes " + ") refl ⊕ small e₂ ⊕ word (bytes ")") refl
small (e₁ ‹ geq # i › e₂) = word (bytes "(") refl ⊕ small e₁ ⊕ word (bytes " >= ") refl ⊕ small e₂ ⊕ word (bytes ")") refl
small (if e₁ then' e₂ else e₃) =
    word (bytes "(if ") refl ⊕ small e₁ ⊕ word (bytes " then ") refl ⊕ small e₂ ⊕ word (bytes " else ") refl ⊕ small e₃ ⊕ word (bytes ")") refl
small (l := e) = word (bytes "(l") refl ⊕ number l ⊕ word (bytes " := ") refl ⊕ small e ⊕ word (bytes ")") refl
small (! l) = word (bytes "!l") refl ⊕ number l
small skip = word (bytes "skip") refl
small (e₁ ⨾ e₂) = word (bytes "(") refl ⊕ small e₁ ⊕ word (bytes " ; ") refl ⊕ small e₂ ⊕ word (bytes ")") refl
small (while e₁ do' e₂ done) = word (bytes "(while ") refl ⊕ small e₁ ⊕ word (bytes " do ") refl ⊕ small e₂ ⊕ word (bytes " done)") refl

-- bytes that stand in front of x and 256 stand in front of x
cut : (p u x v : List ℕ) → Bytes p → p ++ u ≡ x ++ 256 ∷ v → (q : List ℕ) × (x ≡ p ++ q) × (u ≡ q ++ 256 ∷ v)
cut [] u x v hb e = (x, refl, e)
cut (b ∷ p) u [] v hb e = let h = hb 0 in let z : b ≡ 256 = cc in absurd (omega arith)
cut (b ∷ p) u (a ∷ x) v hb e =
    let r = cut p u x v (λ i. hb (suc i)) (cc) in
    let k = r.1 in
    (r.0, cc, r.2)

-- ---- the form

-- whatever fits is completed to the text of a tree and its end
record Whole (p : List ℕ) : Type 0 where
  expr : Expr
  rest : List ℕ
  is : p ++ rest ≡ text expr ++ 256 ∷ []

whole : (p : List ℕ) (st : List Sym) → run start p ≡ some st → Whole p
whole p st h =
    let c = completed st in
    let x = shown end [] (p ++ c.0) (run_append start p c.0 ∙ rw h c.1) in
    record { expr = x.expr; rest = c.0; is = x.left.whole ∙ rw (run_nothing x.left.back x.left.goes, append-nil) }

-- the bytes that fit are those that begin a text of the form
pub run_begins : (p : List ℕ) (st : List Sym) → Bytes p → run start p ≡ some st → Begins p
run_begins p st hb h =
    let x = whole p st h in
    let r = cut p x.rest (text x.expr) [] hb x.is in
    record { rest = r.0; whole = record { expr = x.expr; shown = sym r.1 } }

-- a text of the form and its end fit, and leave nothing to come
pub form_run : (t : List ℕ) → OfForm t → run start (t ++ 256 ∷ []) ≡ some []
unfolding run
form_run t f = rw f.shown (text_run f.expr end [] [])

pub begins_run : (p : List ℕ) → Begins p → (st : List Sym) × (run start p ≡ some st)
begins_run p g = go (run start p) refl (sym (run_append start p (g.rest ++ 256 ∷ [])) ∙ rw append_assoc at (form_run (p ++ g.rest) g.whole))
  where
    go : (o : Option (List Sym)) → run start p ≡ o → on o (λ s. run s (g.rest ++ 256 ∷ [])) ≡ some [] → (st : List Sym) × (run start p ≡ some st)
    go none q e = never e
    go (some s) q e = (s, q)

-- where a text and its end fit, it is of the form, and the same without `Bytes` where nothing is to come
pub ran_form : (t : List ℕ) (st : List Sym) → Bytes t → run start (t ++ 256 ∷ []) ≡ some st → OfForm t
ran_form t st hb h =
    let x = whole (t ++ 256 ∷ []) st h in
    let r = cut t (256 ∷ x.rest) (text x.expr) [] hb (sym (append_assoc t (256 ∷ []) x.rest) ∙ x.is) in
    go x.expr x.rest r.0 r.1 r.2
  where
    go : (e : Expr) (u q : List ℕ) → text e ≡ t ++ q → 256 ∷ u ≡ q ++ 256 ∷ [] → OfForm t
    go e u [] h k = record { expr = e; shown = sym (h ∙ append-nil t) }
    go e u (b ∷ q) h k =
        let z : 256 ≡ b = cc in
        absurd (let s : 256 < 256 = (rw (h, ← z) at (small e)).each 256 (Memᴰ.append_right t (Memᴰ.head refl)) in omega arith)

pub run_form : (t : List ℕ) → run start (t ++ 256 ∷ []) ≡ some [] → OfForm t
run_form t h =
    let x = shown end [] (t ++ 256 ∷ []) h in
    record {
      expr = x.expr;
      shown = append_cancel_right t (text x.expr) (256 ∷ []) (x.left.whole ∙ rw (run_nothing x.left.back x.left.goes, append-nil));
    }

-- ---- what the number of bytes that fit says

bytes_take : (t : List ℕ) (j : ℕ) → Bytes t → Bytes (take j t)
bytes_take t j h i =
    elim (dec_lt i j) [
      | yes l ↦ rw (get_or-take j t i 0 l) (h i)
      | no l ↦ rw (get_or-eq_default (take j t) 0 {n = i} (rw length-take (omega arith))) (omega arith)
    ]

-- no more than the text: it leaves the form there
pub off : (t : List ℕ) (k : ℕ) → ((i : ℕ) → get_or t i 0 < 256) → total t ≡ k → k ≤ length t → Leaves t k
unfolding rest
off t k hb e h =
    let r = fit start (t ++ 256 ∷ []) k (omega arith) in
    let n : length (t ++ 256 ∷ []) ≡ length t + 1 = rw length-append (omega arith) in
    let g = run_begins (take k t) r.0 (bytes_take t k hb) (rw (take-append-le k t (256 ∷ []) h) at r.1) in
    elim (dec_lt k (length t)) [
      | yes l ↦ wrong_byte l g
          (λ b.
          let x = begins_run (take (suc k) t) b in
          let z = only start (t ++ 256 ∷ []) (suc k) x.0 (omega arith) (rw (take-append-le (suc k) t (256 ∷ []) l) x.1) in
          omega arith)
      | no l ↦
          let q : k ≡ length t = omega arith in
          rw q
          (too_soon (rw (take_all k t (omega arith)) at g)
          (λ f.
          let z = only start (t ++ 256 ∷ []) (suc k) [] (omega arith) (rw (take_all (suc k) (t ++ 256 ∷ []) (omega arith)) (form_run t f)) in
          omega arith))
    ]

-- all of it and its end: it is of the form
pub fine : (t : List ℕ) → ((i : ℕ) → get_or t i 0 < 256) → total t ≡ length t + 1 → OfForm t
unfolding rest
fine t hb e =
    let r = fit start (t ++ 256 ∷ []) (length t + 1) (omega arith) in
    let l : length (t ++ 256 ∷ []) ≤ length t + 1 = rw length-append (omega arith) in
    ran_form t r.0 hb (rw (take_all (length t + 1) (t ++ 256 ∷ []) l) at r.1)
