-- A text leaves the form at one place at most, and only where it is not of the form.
use Prim.Native.Nat.{ℕ, suc, ◌≤◌}
use native.Mathlib.Omega.{arith}
use native.Mathlib.Decide.{dec_lt}
use mathlib.Core.Path.{◌≡◌, refl}
use mathlib.Core.List.{List, [], ◌++◌, append_assoc, append-nil}
use lib.ListN.{length, take, drop, take-append-drop}
use lib.Seq.{take-take, take-length}
use Rattle.text_form.specs.Form.{OfForm, Begins, Leaves, wrong_byte, too_soon}

pub form_begins : {t : List ℕ} → OfForm t → Begins t
form_begins f = record { rest = []; whole = rw append-nil f }

begins_front : (p q : List ℕ) → Begins (p ++ q) → Begins p
begins_front p q g = record { rest = q ++ g.rest; whole = rw append_assoc at g.whole }

begins_take : (t : List ℕ) (i j : ℕ) → i ≤ j → Begins (take j t) → Begins (take i t)
begins_take t i j h g =
    let e : take i (take j t) ++ drop i (take j t) ≡ take j t = take-append-drop i (take j t) in
    rw take-take at (begins_front (take i (take j t)) (drop i (take j t)) (rw e g))

begins_all : (t : List ℕ) (i : ℕ) → i ≤ length t → Begins t → Begins (take i t)
begins_all t i h g = begins_take t i (length t) h (rw take-length g)

pub one_place : {t : List ℕ} {i j : ℕ} → Leaves t i → Leaves t j → i ≡ j
one_place {t} {i} {j} (wrong_byte l g n) (wrong_byte l' g' n') =
    elim (dec_lt i j) [
      | yes h ↦ absurd (n (begins_take t (suc i) j h g'))
      | no h ↦ elim (dec_lt j i) [ yes k ↦ absurd (n' (begins_take t (suc j) i k g)) | no k ↦ omega arith ]
    ]
one_place {t} {i} (wrong_byte l g n) (too_soon g' n') = absurd (n (begins_all t (suc i) l g'))
one_place {t} {j = j} (too_soon g n) (wrong_byte l' g' n') = absurd (n' (begins_all t (suc j) l' g))
one_place (too_soon g n) (too_soon g' n') = refl

pub not_form : {t : List ℕ} {i : ℕ} → Leaves t i → ¬ OfForm t
not_form {t} {i} (wrong_byte l g n) f = n (begins_all t (suc i) l (form_begins f))
not_form (too_soon g n) f = n f
