-- A tree with no integer out of range and no location over 255 has numbers that a routine can hold.
use Prim.Native.Nat.{ℕ, ◌≤◌, ◌<◌}
use native.Mathlib.Decide.{dec_lt}
use native.Mathlib.Omega.{arith}
use lib.IntN.{ℤ, pos, negsuc}
use lib.Signed.{mag}
use Rattle.l1.specs.Syntax.{Expr, int, bool, ◌‹◌#◌›◌, if◌then'◌else◌, ◌:=◌, !◌, skip, ◌⨾◌, while◌do'◌done}
use Rattle.l1.proofs.Range.{in_range_mag}
use Rattle.text_form.specs.Numbers.{Part, whole, op_left, op_right, if_test, if_then, if_else, assigned, seq_first, seq_second, while_test, while_body, LargeInteger, large_integer, LargeLocation, large_read, large_written}
use Rattle.text_form.specs.Small.{Small}

data In (e d : Expr) : Type 0 where
  at : {i : ℕ} → Part e i d → In e d

-- the numbers of all parts
record Fit (e : Expr) : Type 0 where
  integers : (n : ℤ) → In e (int n) → mag n < 2147483648
  reads : (l : ℕ) → In e (! l) → l ≤ 255
  writes : (l : ℕ) (d : Expr) → In e (l := d) → l ≤ 255

below : {e e' : Expr} → Fit e → ((i : ℕ) (d : Expr) → Part e' i d → In e d) → Fit e'
below {e} {e'} t f =
    record { integers = λ n p. t.integers n (up p); reads = λ l p. t.reads l (up p); writes = λ l d p. t.writes l d (up p) }
  where
    up : {d : Expr} → In e' d → In e d
    up {d} (at {i} p) = f i d p

small : (e : Expr) → Fit e → Small e
small (int (pos n)) t = omega (arith, t.integers (pos n) (at whole))
small (int (negsuc n)) t = omega (arith, t.integers (negsuc n) (at whole))
small (bool b) t = tt
small (e₁ ‹ o # i › e₂) t = (small e₁ (below t (λ i d p. at (op_left p))), small e₂ (below t (λ i d p. at (op_right p))))
small (if e₁ then' e₂ else e₃) t =
    (small e₁ (below t (λ i d p. at (if_test p))), small e₂ (below t (λ i d p. at (if_then p))), small e₃ (below t (λ i d p. at (if_else p))))
small (l := e) t = (t.writes l e (at whole), small e (below t (λ i d p. at (assigned p))))
small (! l) t = t.reads l (at whole)
small skip t = tt
small (e₁ ⨾ e₂) t = (small e₁ (below t (λ i d p. at (seq_first p))), small e₂ (below t (λ i d p. at (seq_second p))))
small (while e₁ do' e₂ done) t = (small e₁ (below t (λ i d p. at (while_test p))), small e₂ (below t (λ i d p. at (while_body p))))

pub no_large_small : (e : Expr) → ((i : ℕ) → ¬ LargeInteger e i) → ((i : ℕ) → ¬ LargeLocation e i) → Small e
no_large_small e f g = small e (record { integers = integers; reads = reads; writes = writes })
  where
    integers : (n : ℤ) → In e (int n) → mag n < 2147483648
    integers n (at {i} p) =
        elim (dec_lt (mag n) 2147483648) [ yes h ↦ h | no h ↦ absurd (f i (large_integer p (λ r. omega (arith, in_range_mag r)))) ]

    reads : (l : ℕ) → In e (! l) → l ≤ 255
    reads l (at p) = elim (dec_lt 255 l) [ yes h ↦ absurd (g _ (large_read p h)) | no h ↦ omega arith ]

    writes : (l : ℕ) (d : Expr) → In e (l := d) → l ≤ 255
    writes l d (at p) = elim (dec_lt 255 l) [ yes h ↦ absurd (g _ (large_written p h)) | no h ↦ omega arith ]
