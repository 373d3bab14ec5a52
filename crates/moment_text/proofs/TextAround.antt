-- The text of a moment is what opens its places, the text of the work, and what closes them.
use Prim.Native.Nat.{ℕ, zero, suc, ◌+◌, ◌≤◌, ◌<◌}
use native.Mathlib.Decide.{dec_lt}
use native.Mathlib.Omega.{arith}
use mathlib.Core.Path.{◌≡◌, refl, sym, ap, ◌∙◌}
use mathlib.Core.List.{List, [], ◌∷◌, ◌++◌, append_assoc, append-nil}
use lib.ListN.{length, get_or, length-append}
use Rattle.l1.specs.Syntax.{Expr}
use Rattle.l1.specs.Text.{text}
use Rattle.machine.specs.Contexts.{Context, in_op1, in_op2, in_if3, in_assign2, in_seq2, fill, plug}
use Rattle.machine.specs.State.{context_of, expr_of, blank, stack}
use Rattle.machine.specs.declared.state.Frame.{Frame}
use Rattle.machine.specs.declared.state.Pending.{Pending}
use Rattle.machine.specs.declared.state.Place.{Place}
use Rattle.machine.specs.declared.state.Place.TheVariants.{Blank, PlusLeft, GeqLeft, PlusRight, GeqRight, Test, Again, Store, First}
use Rattle.machine.specs.declared.state.Work.{Work}
use Rattle.moment_text.specs.Around.{opening, closing, opens, closes, opening_of, opens_of}
use Rattle.moment_text.specs.Stand.{moment_text}

text_fill : (f : Context) (e : Expr) → text (fill f e) ≡ opening f ++ text e ++ closing f
unfolding text
text_fill (in_op1 i o e₂) e = simp append_assoc
text_fill (in_op2 i o n) e = simp append_assoc
text_fill (in_if3 e₂ e₃) e = simp append_assoc
text_fill (in_assign2 l) e = simp append_assoc
text_fill (in_seq2 e₂) e = simp append_assoc

regroup : (a o t c d : List ℕ) → a ++ (o ++ t ++ c) ++ d ≡ (a ++ o) ++ t ++ (c ++ d)
regroup a o t c d = simp append_assoc

pub text_plug : (k : List Context) (e : Expr) → text (plug k e) ≡ opens k ++ text e ++ closes k
text_plug [] e = sym (append-nil (text e))
text_plug (f ∷ k) e =
    text_plug k (fill f e) ∙ ap (λ (t : List ℕ). opens k ++ t ++ closes k) (text_fill f e)
    ∙ regroup (opens k) (opening f) (text e) (closing f) (closes k)

pub length_plug : (k : List Context) (e : Expr) → length (text (plug k e)) ≡ length (opens k) + length (text e) + length (closes k)
length_plug k e =
    ap length (text_plug k e) ∙ length-append (opens k ++ text e) (closes k)
    ∙ ap (λ (n : ℕ). n + length (closes k)) (length-append (opens k) (text e))

module _ (b : List ℕ) where
  pub opening_of_lem : (f : Place) → opening (context_of b f) ≡ opening_of f
  opening_of_lem Blank = refl
  opening_of_lem (PlusLeft i) = refl
  opening_of_lem (GeqLeft i) = refl
  opening_of_lem (PlusRight i n) = refl
  opening_of_lem (GeqRight i n) = refl
  opening_of_lem (Test i) = refl
  opening_of_lem (Again i) = refl
  opening_of_lem (Store l) = refl
  opening_of_lem (First j) = refl

  pub opens_of_lem : (fs : List Frame) (h : ℕ) → opens (stack b fs h) ≡ opens_of fs h
  opens_of_lem fs zero = refl
  opens_of_lem fs (suc h) = rw (opens_of_lem fs h, opening_of_lem (get_or fs h blank).place)

-- what opens the places below j begins what opens those below h
pub opens_grow : (fs : List Frame) (j h : ℕ) → j < h → length (opens_of fs j) + length (opening_of (get_or fs j blank).place) ≤ length (opens_of fs h)
opens_grow fs j zero l = absurd (omega arith)
opens_grow fs j (suc h) l =
    let more = length-append (opens_of fs h) (opening_of (get_or fs h blank).place) in
    elim (dec_lt j h) [
      | yes p ↦ omega (arith, opens_grow fs j h p, more)
      | no p ↦ let e : j ≡ h = omega arith in rw e (omega (arith, more))
    ]

-- the length of what opens and closes the places below j
abbrev pub around : List ℕ → List Frame → ℕ → ℕ
around b fs j = length (opens_of fs j) + length (closes (stack b fs j))

pub around_more : (b : List ℕ) (fs : List Frame) (j : ℕ) → let f = (get_or fs j blank).place in around b fs (suc j) ≡ around b fs j + (length (opening_of f) + length (closing (context_of b f)))
around_more b fs j =
    let f = (get_or fs j blank).place in
    omega (arith, length-append (opens_of fs j) (opening_of f), length-append (closing (context_of b f)) (closes (stack b fs j)))

pub length_around : (b : List ℕ) (p : Pending) (x : Work) → length (moment_text b p x) ≡ length (text (expr_of b x)) + around b p.frames p.height
length_around b p x = omega (arith, length_plug (stack b p.frames p.height) (expr_of b x), ap length (opens_of_lem b p.frames p.height))

-- the moment's text in the pieces that are written
pub moment_pieces : (b : List ℕ) (p : Pending) (x : Work) → moment_text b p x ≡ opens_of p.frames p.height ++ text (expr_of b x) ++ closes (stack b p.frames p.height)
moment_pieces b p x =
    let fs = p.frames in let h = p.height in
    text_plug (stack b fs h) (expr_of b x) ∙ ap (λ (t : List ℕ). t ++ text (expr_of b x) ++ closes (stack b fs h)) (opens_of_lem b fs h)
