-- One answer of reading: any two that the definitions allow are the same. A text that is taken is refused by nothing.
use Prim.Native.Nat.{ℕ, ◌+◌, ◌*◌, ◌≤◌}
use native.Mathlib.Omega.{arith}
use mathlib.Core.Path.{◌≡◌, refl, sym, ◌∙◌, ap}
use mathlib.Core.List.{List}
use lib.ListN.{length}
use Rattle.l1.specs.Syntax.{Expr}
use Rattle.l1.specs.Measures.{size}
use Rattle.l1.specs.Text.{text}
use Rattle.stored.specs.Stages.{Passes}
use Rattle.stored.specs.Stored.{stored, Storable}
use Rattle.stored.proofs.ReadBack.{stored_length}
use Rattle.stored.proofs.Stages.{when_silent, at_silent, when_single, at_single, AllSingle, first_unique, passes_none, passes_more, passes_nothing}
use Rattle.text_form.specs.Numbers.{Foremost}
use Rattle.text_form.specs.Reading.{TextHas, reading, Taken, Reads, read_refuses, read_takes}
use Rattle.text_form.proofs.OnePlace.{one_place, not_form}
use Rattle.text_form.proofs.Numbering.{storable_held}
use Rattle.text_form.proofs.OneTree.{one_tree, agree, no_large_integer, no_large_location}

-- the first of the numbers of P is the same for two trees with the text t
foremost_same : (P : Expr → ℕ → Type 0) → ((e e' : Expr) → text e ≡ text e' → (i : ℕ) → P e i → P e' i)
    → (t : List ℕ) (i j : ℕ) → TextHas t (λ e. Foremost (P e) i) → TextHas t (λ e. Foremost (P e) j) → i ≡ j
foremost_same P over t i j (e, q, x) (e', q', y) =
    omega (arith, x.none_before j (over e' e (sym q' ∙ q) j y.is), y.none_before i (over e e' (sym q ∙ q') i x.is))

reading_single : (m : ℕ) (t : List ℕ) (room : ℕ) → AllSingle (reading m t room)
reading_single m t room = (
  when_single,
  (
    at_single (λ i j x y. one_place x y),
    (
      at_single (foremost_same _ (λ e e' q. (agree q).integers) t),
      (
        at_single (foremost_same _ (λ e e' q. (agree q).locations) t),
        (
          when_single,
          (
            when_single,
            (at_single (λ i j (e, q, x) (e', q', y). let s = (agree {e = e} {e' = e'} (sym q ∙ q')).same_size in omega (arith, x.0, y.0)), tt),
          ),
        ),
      ),
    ),
  ),
)

pub storable_passes : {m : ℕ} {e : Expr} (t : List ℕ) (room : ℕ) → Storable m e → t ≡ text e → 6 + 8 * size e ≤ room → Passes (reading m t room)
storable_passes {m} {e} t room s q h =
    let l = s.few_locations in let n = s.few_nodes in let p = s.few_places in let small = (storable_held s).small in
    passes_more (when_silent (λ x. omega arith))
    (passes_more (at_silent (λ i x. not_form x (record { expr = e; shown = q })))
    (passes_more (at_silent (λ i (e', q', x). no_large_integer ((agree (sym q ∙ q')).small_too small) x.is))
    (passes_more (at_silent (λ i (e', q', x). no_large_location ((agree (sym q ∙ q')).small_too small) x.is))
    (passes_more (when_silent (λ (e', q', x). let a = (agree {e = e} {e' = e'} (sym q ∙ q')).same_size in omega arith))
    (passes_more (when_silent (λ (e', q', x). let a = (agree {e = e} {e' = e'} (sym q ∙ q')).same_places in omega arith))
    (passes_more (at_silent (λ i (e', q', x). let a = (agree {e = e} {e' = e'} (sym q ∙ q')).same_size in omega (arith, x.0, x.1)))
    passes_nothing))))))

taken_passes : {m : ℕ} {e : Expr} (t room : List ℕ) → Storable m e → t ≡ text e → length (stored m e) ≤ length room → Passes (reading m t (length room))
taken_passes {m} {e} t room s q h = storable_passes t (length room) s q (rw (stored_length m e) at h)

pub reads_unique : {m : ℕ} {t room room₁ room₂ : List ℕ} {a a' : Taken} → Reads m t room a room₁ → Reads m t room a' room₂ → (a ≡ a') × (room₁ ≡ room₂)
reads_unique {m} {t} {room} (read_refuses f) (read_refuses f') =
    (ap Taken.refuses (first_unique (reading m t (length room)) (reading_single m t (length room)) f f'), refl)
reads_unique {t = t} {room} (read_refuses f) (read_takes s q h) = absurd (passes_none (taken_passes t room s q h) f)
reads_unique {t = t} {room} (read_takes s q h) (read_refuses f) = absurd (passes_none (taken_passes t room s q h) f)
reads_unique {m} {t} {room} (read_takes s q h) (read_takes s' q' h') = let e = one_tree s s' (sym q ∙ q') in (rw e, rw e)
