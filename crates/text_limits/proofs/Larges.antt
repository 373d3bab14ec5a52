-- The marks of a text stand exactly at the large numbers of its tree.
use Prim.Native.Nat.{ℕ, zero, suc, ◌+◌, ◌≤◌, ◌<◌}
use native.Mathlib.Omega.{arith}
use mathlib.Core.Path.{◌≡◌, refl, ap}
use mathlib.Core.Bool.{Bool, true, false, ◌&&◌}
use mathlib.Core.Logic.{◌⊎◌, inl, inr, ⊎_elim}
use mathlib.Core.List.{List, [], ◌∷◌, ◌++◌}
use borrow.Author.Tests.{lt-ltb, ltb-true}
use lib.Dec.{ltb}
use lib.IntN.{ℤ, pos, negsuc}
use lib.ListN.{length, length-append}
use lib.Signed.{mag}
use Rattle.l1.specs.Syntax.{Expr, int, bool, ◌‹◌#◌›◌, if◌then'◌else◌, ◌:=◌, !◌, skip, ◌⨾◌, while◌do'◌done}
use Rattle.l1.specs.Range.{InRange}
use Rattle.l1.specs.Text.{bytes, sign, truth, decimal, text}
use Rattle.l1.proofs.Range.{in_range_mag, out_of_range_mag, in_or_out}
use Rattle.text_form.specs.Numbers.{Part, whole, op_left, op_right, if_test, if_then, if_else, assigned, seq_first, seq_second, while_test, while_body, large_integer, LargeLocation, large_read, large_written}
use Rattle.text_form.proofs.Notation.{noted}
use Rattle.text_limits.specs.Limits.{Large}
use Rattle.text_limits.specs.Marks.{behind, bound, signed}
use Rattle.text_limits.specs.declared.Numbers.{Numbers}
use Rattle.text_limits.specs.declared.Numbers.TheVariants.{Locations, Integers}
use Rattle.text_limits.proofs.Flags.{blank, first, flags, length_flags}

pub data Marked : List Bool → ℕ → Type 0 where
  here : {x : Bool} {m : List Bool} → x ≡ true → Marked (x ∷ m) 0
  there : {x : Bool} {m : List Bool} {j : ℕ} → Marked m j → Marked (x ∷ m) (suc j)

pub clash : {A : Type 0} → false ≡ true → A
clash e = absurd (let z : ◌≡◌ {A = ℕ} 0 1 = cc in omega arith)

pub not_blank : (w : List ℕ) {j : ℕ} → Marked (blank w) j → ⊥
not_blank (b ∷ w) (here e) = clash e
not_blank (b ∷ w) (there h) = not_blank w h
not_blank [] {j = j} x' = elim x' [ ]

first_marked : {x : Bool} (ds : List ℕ) {j : ℕ} → Marked (first x ds) j → (x ≡ true) × (j ≡ 0)
first_marked (d ∷ ds) (here e) = (e, refl)
first_marked (d ∷ ds) (there h) = absurd (not_blank ds h)
first_marked [] {j = j} x'' = elim x'' [ ]

left : {m : List Bool} {j : ℕ} (n : List Bool) → Marked m j → Marked (m ++ n) j
left n (here e) = here e
left n (there h) = there (left n h)

right : (m : List Bool) {n : List Bool} (i j : ℕ) → i ≡ length m + j → Marked n j → Marked (m ++ n) i
right [] i j e h = let p : i ≡ j = omega arith in rw p h
right (x ∷ m) i j e h = let p : i ≡ suc (length m + j) = omega arith in rw p (there (right m (length m + j) j refl h))

-- a mark of n behind a bytes
pub record Past (a : ℕ) (n : List Bool) (i : ℕ) : Type 0 where
  pub from : ℕ
  pub is : i ≡ a + from
  pub mark : Marked n from

split : (m : List Bool) {n : List Bool} {i : ℕ} → Marked (m ++ n) i → Marked m i ⊎ Past (length m) n i
split [] {i = i} h = inr (record { from = i; is = omega arith; mark = h })
split (x ∷ m) (here e) = inl (here e)
split (x ∷ m) (there h) = ⊎_elim (λ y. inl (there y)) (λ y. inr (record { from = y.from; is = omega (arith, y.is); mark = y.mark })) (split m h)

-- marks and bytes, one to one
record Same (m : List Bool) (w : List ℕ) : Type 0 where
  long : length m ≡ length w

lit : (w : List ℕ) → Same (blank w) w
lit [] = record { long = refl }
lit (b ∷ w) = record { long = ap suc (lit w).long }

number : (x : Bool) (ds : List ℕ) → Same (first x ds) ds
number x [] = record { long = refl }
number x (d ∷ ds) = record { long = ap suc (lit ds).long }

infixl 20 ◌⊕◌
◌⊕◌ : {m n : List Bool} {w v : List ℕ} → Same m w → Same n v → Same (m ++ n) (w ++ v)
s ⊕ t = record { long = simp length-append (omega arith) }

out_of_range : (n : ℤ) → ¬ InRange n → 2147483648 ≤ mag n
out_of_range n f = ⊎_elim (λ h. absurd (f h)) (λ h. out_of_range_mag h) (in_or_out n)

module _ (kind : Numbers) where
  of : (e : Expr) → Same (flags kind e) (text e)
  of e = record { long = length_flags kind e }

  -- a mark of a part is one of the whole
  inside : {m n : List Bool} {w : List ℕ} (r : List Bool) (i k : ℕ) → Same m w → Marked n (i + k) → Marked (m ++ n ++ r) (length w + i + k)
  inside {m} {w = w} r i k s h = left r (right m (length w + i + k) (i + k) (omega (arith, s.long)) h)

  part_marked : {e d : Expr} {i : ℕ} → Part e i d → (k : ℕ) → Marked (flags kind d) k → Marked (flags kind e) (i + k)
  unfolding flags
  part_marked whole k h = let p : 0 + k ≡ k = omega arith in rw p h
  part_marked (op_left {e₂ = e₂} {o = o} {i = i} p) k h =
      left (blank (bytes ")")) (left (flags kind e₂) (inside (blank (sign o)) i k (lit (bytes "(")) (part_marked p k h)))
  part_marked (op_right {e₁ = e₁} {o = o} {i = i} p) k h = inside (blank (bytes ")")) i k (lit (bytes "(") ⊕ of e₁ ⊕ lit (sign o)) (part_marked p k h)
  part_marked (if_test {e₂ = e₂} {e₃ = e₃} {i = i} p) k h =
      left (blank (bytes ")")) (left (flags kind e₃) (left (blank (bytes " else ")) (left (flags kind e₂) (inside (blank (bytes " then ")) i k (lit (bytes "(if ")) (part_marked p k h)))))
  part_marked (if_then {e₁ = e₁} {e₃ = e₃} {i = i} p) k h =
      left (blank (bytes ")")) (left (flags kind e₃) (inside (blank (bytes " else ")) i k (lit (bytes "(if ") ⊕ of e₁ ⊕ lit (bytes " then ")) (part_marked p k h)))
  part_marked (if_else {e₁ = e₁} {e₂ = e₂} {i = i} p) k h =
      inside (blank (bytes ")")) i k (lit (bytes "(if ") ⊕ of e₁ ⊕ lit (bytes " then ") ⊕ of e₂ ⊕ lit (bytes " else ")) (part_marked p k h)
  part_marked (assigned {l} {i = i} p) k h = inside (blank (bytes ")")) i k (lit (bytes "(l") ⊕ number (behind kind 108 && ltb (bound kind) l) (decimal l) ⊕ lit (bytes " := ")) (part_marked p k h)
  part_marked (seq_first {e₂ = e₂} {i = i} p) k h = left (blank (bytes ")")) (left (flags kind e₂) (inside (blank (bytes " ; ")) i k (lit (bytes "(")) (part_marked p k h)))
  part_marked (seq_second {e₁ = e₁} {i = i} p) k h = inside (blank (bytes ")")) i k (lit (bytes "(") ⊕ of e₁ ⊕ lit (bytes " ; ")) (part_marked p k h)
  part_marked (while_test {e₂ = e₂} {i = i} p) k h =
      left (blank (bytes " done)")) (left (flags kind e₂) (inside (blank (bytes " do ")) i k (lit (bytes "(while ")) (part_marked p k h)))
  part_marked (while_body {e₁ = e₁} {i = i} p) k h = inside (blank (bytes " done)")) i k (lit (bytes "(while ") ⊕ of e₁ ⊕ lit (bytes " do ")) (part_marked p k h)

-- a number's first byte is marked where it is too large
some : (n : ℕ) {x : Bool} → 0 < n → x ≡ true → Marked (first x (decimal n)) 0
some n p e = rw (noted n p).is (here e)

pub large_marked : (kind : Numbers) (e : Expr) (j : ℕ) → Large kind e j → Marked (flags kind e) j
unfolding flags
large_marked Locations e j (large_read {l} p h) = part_marked Locations p 2 (there (there (some l (omega arith) (lt-ltb 255 l h))))
large_marked Locations e j (large_written {l} {d} p h) =
    part_marked Locations p 2 (left (blank (bytes ")")) (left (flags Locations d) (left (blank (bytes " := ")) (there (there (some l (omega arith) (lt-ltb 255 l h)))))))
large_marked Integers e j (large_integer {n = pos n} {i = i} p h) =
    let b = out_of_range (pos n) h in
    let q : i ≡ i + 0 = omega arith in
    rw q (part_marked Integers p 0 (some n (omega arith) (lt-ltb 2147483647 n (omega arith))))
large_marked Integers e j (large_integer {n = negsuc n} {i = i} p h) =
    let b = out_of_range (negsuc n) h in
    let q : i ≡ i + 0 = omega arith in
    rw q (part_marked Integers p 0 (here (lt-ltb 2147483648 (suc n) (omega arith))))

-- a part's large number is one of the whole
lift : (kind : Numbers) {e e' : Expr} (a : ℕ) → ((i : ℕ) (d : Expr) → Part e' i d → Part e (a + i) d) → (j : ℕ) → Large kind e' j → Large kind e (a + j)
lift Locations a f j (large_read {l} {i} p h) = let q : a + (i + 2) ≡ a + i + 2 = omega arith in rw q (large_read (f i (! l) p) h)
lift Locations a f j (large_written {l} {d} {i} p h) = let q : a + (i + 2) ≡ a + i + 2 = omega arith in rw q (large_written (f i (l := d) p) h)
lift Integers a f j (large_integer {n} p h) = large_integer (f j (int n) p) h

integer_large : (kind : Numbers) (n : ℕ) → behind kind 32 && ltb (bound kind) n ≡ true → Large kind (int (pos n)) 0
integer_large Locations n h = clash h
integer_large Integers n h = large_integer whole (λ r. omega (arith, in_range_mag r, ltb-true 2147483647 n h))

minus_large : (kind : Numbers) (n : ℕ) → signed kind && ltb 2147483648 (suc n) ≡ true → Large kind (int (negsuc n)) 0
minus_large Locations n h = clash h
minus_large Integers n h = large_integer whole (λ r. omega (arith, in_range_mag r, ltb-true 2147483648 (suc n) h))

location_large : (kind : Numbers) (e : Expr) (l : ℕ) → (255 < l → LargeLocation e 2) → behind kind 108 && ltb (bound kind) l ≡ true → Large kind e 2
location_large Locations e l f h = f (ltb-true 255 l h)
location_large Integers e l f h = clash h

module _ (kind : Numbers) where
  -- every mark of m is at a large number of e
  pub record Told (e : Expr) (m : List Bool) : Type 0 where
    pub told : (j : ℕ) → Marked m j → Large kind e j

  bare : {e : Expr} (b : List ℕ) → Told e (blank b)
  bare b = record { told = λ j h. absurd (not_blank b h) }

  numbered : {e : Expr} (w ds : List ℕ) {x : Bool} → (x ≡ true → Large kind e (length w)) → Told e (blank w ++ first x ds)
  numbered {e} w ds {x} f = record { told = λ j h. ⊎_elim (λ y. absurd (not_blank w y)) (at j) (split (blank w) h) }
    where
      at : (j : ℕ) → Past (length (blank w)) (first x ds) j → Large kind e j
      at j y = let z = first_marked ds y.mark in let q : j ≡ length w = omega (arith, (lit w).long, y.is, z.1) in rw q (f z.0)

  end : {e : Expr} {m : List Bool} → Told e m → (b : List ℕ) → Told e (m ++ blank b)
  end {m = m} before b = record { told = λ j h. ⊎_elim (before.told j) (λ y. absurd (not_blank b y.mark)) (split m h) }

  kid : {e e' : Expr} {m n : List Bool} {w : List ℕ} → Told e m → Same m w → ((i : ℕ) (d : Expr) → Part e' i d → Part e (length w + i) d) → Told e' n
      → (b : List ℕ) → Told e (m ++ n ++ blank b)
  kid {e} {m = m} {n} {w} before s f part b = end (record { told = λ j h. ⊎_elim (before.told j) (at j) (split m h) }) b
    where
      at : (j : ℕ) → Past (length m) n j → Large kind e j
      at j y =
          let q : j ≡ length w + y.from = omega (arith, s.long, y.is) in
          rw q (lift kind (length w) f y.from (part.told y.from y.mark))

  pub told : (e : Expr) → Told e (flags kind e)
  unfolding flags
  told (int (pos n)) = numbered [] (decimal n) (integer_large kind n)
  told (int (negsuc n)) = record { told = at }
    where
      at : (j : ℕ) → Marked (flags kind (int (negsuc n))) j → Large kind (int (negsuc n)) j
      at zero (here h) = minus_large kind n h
      at (suc j) (there h) = clash (first_marked (decimal (suc n)) h).0
  told (bool b) = bare (truth b)
  told (e₁ ‹ o # i › e₂) =
      kid (kid (bare (bytes "(")) (lit (bytes "(")) (λ i d p. op_left p) (told e₁) (sign o)) (lit (bytes "(") ⊕ of kind e₁ ⊕ lit (sign o)) (λ i d p. op_right p) (told e₂) (bytes ")")
  told (if e₁ then' e₂ else e₃) =
      let s = lit (bytes "(if ") ⊕ of kind e₁ ⊕ lit (bytes " then ") in
      let t = kid (kid (bare (bytes "(if ")) (lit (bytes "(if ")) (λ i d p. if_test p) (told e₁) (bytes " then ")) s (λ i d p. if_then p) (told e₂) (bytes " else ") in
      kid t (s ⊕ of kind e₂ ⊕ lit (bytes " else ")) (λ i d p. if_else p) (told e₃) (bytes ")")
  told (l := e) = kid (end (numbered (bytes "(l") (decimal l) (location_large kind (l := e) l (λ h. large_written whole h))) (bytes " := "))
      (lit (bytes "(l") ⊕ number (behind kind 108 && ltb (bound kind) l) (decimal l) ⊕ lit (bytes " := ")) (λ i d p. assigned p) (told e) (bytes ")")
  told (! l) = numbered (bytes "!l") (decimal l) (location_large kind (! l) l (λ h. large_read whole h))
  told skip = bare (bytes "skip")
  told (e₁ ⨾ e₂) =
      kid (kid (bare (bytes "(")) (lit (bytes "(")) (λ i d p. seq_first p) (told e₁) (bytes " ; ")) (lit (bytes "(") ⊕ of kind e₁ ⊕ lit (bytes " ; "))
      (λ i d p. seq_second p) (told e₂) (bytes ")")
  told (while e₁ do' e₂ done) =
      kid (kid (bare (bytes "(while ")) (lit (bytes "(while ")) (λ i d p. while_test p) (told e₁) (bytes " do ")) (lit (bytes "(while ") ⊕ of kind e₁ ⊕ lit (bytes " do "))
      (λ i d p. while_body p) (told e₂) (bytes " done)")
