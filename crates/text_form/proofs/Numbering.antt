-- Each operator numbered by its own node: `renumber`. The trees that a routine can hold are those with small numbers, within the limits, that it leaves as
-- they are.
use Prim.Native.Nat.{ℕ, ◌+◌, ◌≤◌}
use native.Mathlib.Omega.{arith}
use native.Mathlib.Nat.{add-zero}
use mathlib.Core.Path.{◌≡◌, refl}
use mathlib.Core.Logic.{⊎_elim}
use mathlib.Core.List.{List, [], ◌∷◌, ◌++◌}
use lib.IntN.{ℤ, pos, negsuc}
use lib.ListN.{length, length-append}
use Rattle.l1.specs.Syntax.{Expr, int, bool, ◌‹◌#◌›◌, if◌then'◌else◌, ◌:=◌, !◌, skip, ◌⨾◌, while◌do'◌done}
use Rattle.l1.specs.Range.{InRange}
use Rattle.l1.specs.Measures.{size, places}
use Rattle.l1.specs.Refused.{nodes, Nth, nth_zero, nth_suc}
use Rattle.l1.proofs.Nodes.{nth_right, nth_append, nodes_length}
use Rattle.l1.proofs.Range.{in_range_mag, mag_in_range}
use Rattle.stored.specs.Stored.{Storable}
use Rattle.stored.proofs.Fits.{Fits, storable_fits, fits_left, fits_first, fits_second, fits_rest}
use Rattle.text_form.specs.Small.{Small}

-- the nodes are numbered in post-order from f on
abbrev pub renumber : ℕ → Expr → Expr
renumber f (int n) = int n
renumber f (bool b) = bool b
renumber f (e₁ ‹ o # i › e₂) = renumber f e₁ ‹ o # f + size e₁ + size e₂ › renumber (f + size e₁) e₂
renumber f (if e₁ then' e₂ else e₃) = if renumber f e₁ then' renumber (f + size e₁) e₂ else renumber (f + size e₁ + size e₂) e₃
renumber f (l := e) = l := renumber f e
renumber f (! l) = ! l
renumber f skip = skip
renumber f (e₁ ⨾ e₂) = renumber f e₁ ⨾ renumber (f + size e₁) e₂
renumber f (while e₁ do' e₂ done) = while renumber f e₁ do' renumber (f + size e₁) e₂ done

pub small_in_range : (n : ℤ) → Small (int n) → InRange n
small_in_range (pos n) h = mag_in_range (pos n) (omega arith)
small_in_range (negsuc n) h = mag_in_range (negsuc n) (omega arith)

pub in_range_small : (n : ℤ) → InRange n → Small (int n)
in_range_small (pos n) h = omega (arith, in_range_mag h)
in_range_small (negsuc n) h = omega (arith, in_range_mag h)

-- ---- of the nodes, and of the tree

pub record Held (f : ℕ) (e : Expr) : Type 0 where
  pub small : Small e
  pub own : renumber f e ≡ e

held : (e : Expr) (f : ℕ) → Fits f (nodes e) → Held f e
held (int n) f t = record { small = in_range_small n (t.integers 0 n nth_zero); own = refl }
held (bool b) f t = record { small = tt; own = refl }
held (e₁ ‹ o # i › e₂) f t =
    let h₁ = held e₁ f (fits_first e₁ e₂ _ t) in let h₂ = held e₂ (f + size e₁) (fits_second e₁ e₂ _ t) in
    let k = t.numbered (length (nodes e₁ ++ nodes e₂) + 0) i o e₁ e₂ (nth_right (nodes e₁ ++ nodes e₂) nth_zero) in
    let l : length (nodes e₁ ++ nodes e₂) ≡ size e₁ + size e₂ = simp (length-append, nodes_length) in
    let q : f + size e₁ + size e₂ ≡ i = omega arith in
    record { small = (h₁.small, h₂.small); own = rw (h₁.own, h₂.own, q) }
held (if e₁ then' e₂ else e₃) f t =
    let c = fits_left (nodes e₁ ++ nodes e₂ ++ nodes e₃) _ t in
    let h₁ = held e₁ f (fits_first e₁ e₂ _ c) in let h₂ = held e₂ (f + size e₁) (fits_second e₁ e₂ _ c) in
    let h₃ = held e₃ (f + size e₁ + size e₂) (fits_rest e₁ e₂ _ c) in
    record { small = (h₁.small, h₂.small, h₃.small); own = rw (h₁.own, h₂.own, h₃.own) }
held (l := e) f t =
    let h = held e f (fits_left (nodes e) _ t) in
    record { small = (t.written_locations _ l e (nth_right (nodes e) nth_zero), h.small); own = rw h.own }
held (! l) f t = record { small = t.read_locations 0 l nth_zero; own = refl }
held skip f t = record { small = tt; own = refl }
held (e₁ ⨾ e₂) f t =
    let h₁ = held e₁ f (fits_first e₁ e₂ _ t) in let h₂ = held e₂ (f + size e₁) (fits_second e₁ e₂ _ t) in
    record { small = (h₁.small, h₂.small); own = rw (h₁.own, h₂.own) }
held (while e₁ do' e₂ done) f t =
    let h₁ = held e₁ f (fits_first e₁ e₂ _ t) in let h₂ = held e₂ (f + size e₁) (fits_second e₁ e₂ _ t) in
    record { small = (h₁.small, h₂.small); own = rw (h₁.own, h₂.own) }

pub storable_held : {m : ℕ} {e : Expr} → Storable m e → Held 0 e
storable_held {e = e} s = held e 0 (storable_fits s)

-- ---- and back

-- what is asked of node i
abbrev Ok : ℕ → Expr → Type 0
Ok i (int n) = InRange n
Ok i (bool b) = Unit
Ok i (e₁ ‹ o # j › e₂) = j ≡ i
Ok i (if e₁ then' e₂ else e₃) = Unit
Ok i (l := e) = l ≤ 255
Ok i (! l) = l ≤ 255
Ok i skip = Unit
Ok i (e₁ ⨾ e₂) = Unit
Ok i (while e₁ do' e₂ done) = Unit

record AllOk (f : ℕ) (ds : List Expr) : Type 0 where
  each : (i : ℕ) (d : Expr) → Nth ds i d → Ok (f + i) d

one_ok : (f : ℕ) (d : Expr) → Ok f d → AllOk f (d ∷ [])
one_ok f d h = record { each = λ i c n. go n }
  where
    go : {i : ℕ} {c : Expr} → Nth (d ∷ []) i c → Ok (f + i) c
    go nth_zero = rw add-zero h
    go (nth_suc n) = elim n [ ]

both_ok : (ds cs : List Expr) {f g : ℕ} → f + length ds ≡ g → AllOk f ds → AllOk g cs → AllOk f (ds ++ cs)
both_ok ds cs {f} {g} q a b = record {
  each = λ i d n. ⊎_elim (a.each i d) (λ (k, e, m). let p : f + i ≡ g + k = omega arith in rw p (b.each k d m)) (nth_append ds cs n);
}

two_ok : (e₁ e₂ e : Expr) (f : ℕ) → AllOk f (nodes e₁) → AllOk (f + size e₁) (nodes e₂) → Ok (f + size e₁ + size e₂) e → AllOk f (nodes e₁ ++ nodes e₂ ++ e ∷ [])
two_ok e₁ e₂ e f a₁ a₂ h =
    let l₁ = nodes_length e₁ in let l₂ = nodes_length e₂ in
    both_ok (nodes e₁ ++ nodes e₂) (e ∷ []) (simp length-append (omega arith)) (both_ok (nodes e₁) (nodes e₂) (omega arith) a₁ a₂)
    (one_ok (f + size e₁ + size e₂) e h)

all_ok : (e : Expr) (f : ℕ) → Small e → renumber f e ≡ e → AllOk f (nodes e)
all_ok (int n) f s q = one_ok f (int n) (small_in_range n s)
all_ok (bool b) f s q = one_ok f (bool b) tt
all_ok (e₁ ‹ o # i › e₂) f s q =
    let h : f + size e₁ + size e₂ ≡ i = cc in
    two_ok e₁ e₂ (e₁ ‹ o # i › e₂) f (all_ok e₁ f s.0 (cc)) (all_ok e₂ (f + size e₁) s.1 (cc)) (omega arith)
all_ok (if e₁ then' e₂ else e₃) f s q =
    let l₁ = nodes_length e₁ in let l₂ = nodes_length e₂ in let l₃ = nodes_length e₃ in
    both_ok (nodes e₁ ++ nodes e₂ ++ nodes e₃) _ (simp length-append (omega arith))
    (both_ok (nodes e₁ ++ nodes e₂) (nodes e₃) (simp length-append (omega arith))
    (both_ok (nodes e₁) (nodes e₂) (omega arith) (all_ok e₁ f s.0 (cc)) (all_ok e₂ (f + size e₁) s.1 (cc)))
    (all_ok e₃ (f + size e₁ + size e₂) s.2 (cc)))
    (one_ok (f + size e₁ + size e₂ + size e₃) (if e₁ then' e₂ else e₃) tt)
all_ok (l := e) f s q =
    let n = nodes_length e in
    both_ok (nodes e) _ (omega arith) (all_ok e f s.1 (cc)) (one_ok (f + size e) (l := e) s.0)
all_ok (! l) f s q = one_ok f (! l) s
all_ok skip f s q = one_ok f skip tt
all_ok (e₁ ⨾ e₂) f s q = two_ok e₁ e₂ (e₁ ⨾ e₂) f (all_ok e₁ f s.0 (cc)) (all_ok e₂ (f + size e₁) s.1 (cc)) tt
all_ok (while e₁ do' e₂ done) f s q = two_ok e₁ e₂ (while e₁ do' e₂ done) f (all_ok e₁ f s.0 (cc)) (all_ok e₂ (f + size e₁) s.1 (cc)) tt

pub held_storable : {m : ℕ} (e : Expr) → m ≤ 64 → size e ≤ 4096 → places e ≤ 256 → Held 0 e → Storable m e
held_storable e l n p h =
    let a = all_ok e 0 h.small h.own in
    record {
      few_locations = l;
      few_nodes = n;
      few_places = p;
      integers = λ i x k. a.each i (int x) k;
      read_locations = λ i x k. a.each i (! x) k;
      written_locations = λ i x c k. a.each i (x := c) k;
      numbered = record { own_number = λ {i} k. let q = a.each i _ k in omega arith };
    }
