-- Reading answers every text, every m and every lent room, by the definitions alone; with `reads_unique` there is exactly one answer.
use Prim.Native.Nat.{ℕ, zero, suc, ◌+◌, ◌*◌, ◌≤◌}
use native.Mathlib.Decide.{dec_le, dec_lt}
use native.Mathlib.Omega.{arith}
use mathlib.Core.Path.{◌≡◌, refl, sym, ◌∙◌, ap}
use mathlib.Core.Bool.{Bool, true, false}
use mathlib.Core.Logic.{◌⊎◌, inl, inr, ⊎_elim}
use mathlib.Core.List.{List, [], ◌∷◌, ◌++◌}
use mathlib.Core.Option.{Option, none, some}
use lib.ListN.{length, get_or, drop, length-append}
use Rattle.l1.specs.Syntax.{Expr}
use Rattle.l1.specs.Measures.{size}
use Rattle.l1.specs.Text.{text}
use Rattle.stored.specs.Stages.{Refusal, First}
use Rattle.stored.specs.Stored.{Storable}
use Rattle.stored.proofs.ReadBack.{stored_length}
use Rattle.text_form.specs.Form.{OfForm, Leaves}
use Rattle.text_form.specs.Small.{Unreadable, NoLargeInteger}
use Rattle.text_form.specs.Parser.{Parsed, parsed, parse}
use Rattle.text_form.specs.Automaton.{end, Sym, wanted, next, tally, sticks, rest, total}
use Rattle.text_form.specs.Reading.{of_text, Taken, Reads, read_takes}
use Rattle.text_form.proofs.Fitting.{Bytes, off, fine}
use Rattle.text_form.proofs.OneTree.{agree}
use Rattle.text_form.proofs.Parsing.{storable_of, unreadable}
use Rattle.std.specs.Prelude.{Some, None}
use Rattle.text_limits.specs.Limits.{Finds}
use Rattle.text_limits.specs.Marks.{large}
use Rattle.text_limits.specs.declared.Numbers.{Numbers}
use Rattle.text_limits.specs.declared.Numbers.TheVariants.{Locations, Integers}
use Rattle.text_limits.proofs.Passing.{Passed, start, on, found, nowhere}
use Rattle.reader.proofs.Judging as judge
use Rattle.reader.proofs.Taking.{differ, same, refused_4, refused_text, refused_room}

-- ---- of the form, or the place where it is left

sticks_most : (st : List Sym) (u : List ℕ) → sticks st u ≤ length u
unfolding sticks
sticks_most st [] = omega arith
sticks_most st (b ∷ u) = go (next st b) (λ s. sticks_most s u)
  where
    go : (o : Option (List Sym)) → ((s : List Sym) → sticks s u ≤ length u) → tally o (λ s. sticks s u) ≤ suc (length u)
    go none k = omega arith
    go (some s) k = omega (arith, k s)

verdict : (t : List ℕ) → Bytes t → OfForm t ⊎ ((i : ℕ) × Leaves t i)
unfolding rest
verdict t b =
    elim (dec_le (total t) (length t)) [
      | yes l ↦ inr (total t, off t (total t) b refl l)
      | no l ↦ inl (fine t b (omega (arith, sticks_most (wanted end ∷ []) (t ++ 256 ∷ []), length-append t (256 ∷ []))))
    ]

-- ---- the first large number, or none

abbrev Searched : List ℕ → Numbers → Type 0
Searched t l = ((i : ℕ) × Finds t l (Some i)) ⊎ Finds t l None

search_on : (t : List ℕ) (l : Numbers) (n i p : ℕ) → i + n ≡ length t → Passed t l i p → Searched t l
search_on t l zero i p e s = inr (nowhere t l i p s (omega arith))
search_on t l (suc n) i p e s =
    by (large l p (get_or t i 0) (drop (i + 1) t)) refl (λ q. search_on t l n (i + 1) (get_or t i 0) (omega arith) (on t l i p s (omega arith) q refl))
  where
    by : (x : Bool) → x ≡ large l p (get_or t i 0) (drop (i + 1) t)
        → (false ≡ large l p (get_or t i 0) (drop (i + 1) t) → Searched t l) → Searched t l
    by true q k = inl (i, found t l i p s (omega arith) q refl)
    by false q k = k q

searched : (t : List ℕ) (l : Numbers) → Searched t l
searched t l = search_on t l (length t) 0 32 (omega arith) (start t l)

-- ---- all of it

judged : (t : List ℕ) → Bytes t → Unreadable t → (r : Refusal) × First (of_text t) r
judged t b u = ⊎_elim of_form (λ (i, h). (_, judge.first_50 h)) (verdict t b)
  where
    of_form : OfForm t → (r : Refusal) × First (of_text t) r
    of_form f = ⊎_elim (λ (i, h). (_, judge.first_51 f (judge.found h f.expr f.shown))) small_integers (searched t Integers)
      where
        small_integers : Finds t Integers None → (r : Refusal) × First (of_text t) r
        small_integers h =
            let none_51 : NoLargeInteger t = judge.no_large h in
            ⊎_elim (λ (i, k). (_, judge.first_52 f none_51 (judge.found k f.expr f.shown)))
            (λ k.
            elim (dec_lt 4096 (size f.expr)) [
              | yes l ↦ (_, judge.first_5 f none_51 (judge.none_found k) l)
              | no l ↦ (_, judge.first_9 f none_51 (judge.none_found k) u (λ e q. omega (arith, (agree (sym f.shown ∙ q)).same_size)))
            ])
            (searched t Locations)

module _ (m : ℕ) (t room : List ℕ) where
  abbrev Answered : Type 0
  Answered = (a : Taken) × (room' : List ℕ) × Reads m t room a room'

  held : {e : Expr} → Storable m e → t ≡ text e → Answered
  held {e} s q =
      elim (dec_le (6 + 8 * size e) (length room)) [
        | yes l ↦ (_, _, read_takes s q (omega (arith, stored_length m e)))
        | no l ↦ (_, _, refused_room s q refl (omega arith))
      ]

  unread : Bytes t → m ≤ 64 → ¬ ((p : Parsed) × (parse 4096 2175 256 0 t ≡ some p) × (p.left ≡ [])) → Answered
  unread b l n = let (r, f) = judged t b (unreadable t 4096 (λ e q few. few) n) in (_, _, refused_text l f)

  by_parser : Bytes t → m ≤ 64 → (o : Option Parsed) → parse 4096 2175 256 0 t ≡ o → Answered
  by_parser b l none h = unread b l (λ (p, q, z). differ (sym h ∙ q))
  by_parser b l (some p) h = by_left p.left refl
    where
      by_left : (u : List ℕ) → p.left ≡ u → Answered
      by_left [] z =
          let q : parse 4096 2175 256 0 t ≡ some (parsed p.expr p.node []) = rw z at h in
          let (s, x, g) = storable_of m 4096 t p.expr p.node l q (omega arith) in
          held s x
      by_left (c ∷ u) z = unread b l (λ (x, q, y). cons (sym z ∙ ap (λ (s : Parsed). s.left) (same (sym h ∙ q)) ∙ y))
        where
          cons : ¬ (c ∷ u ≡ [])
          cons e = omega (arith, ap length e)

  pub every_reading : Bytes t → Answered
  every_reading b =
      elim (dec_le m 64) [
        | yes l ↦ by_parser b l (parse 4096 2175 256 0 t) refl
        | no l ↦ (_, _, refused_4 (omega arith))
      ]
