-- The table of levels: pushing, filling it anew by counting brackets backwards, and a turn of the pass.
use Prim.Native.Nat.{ℕ, zero, suc, ◌+◌, ◌-◌, ◌≤◌, ◌<◌}
use native.Mathlib.Omega.{arith}
use native.Mathlib.Decide.{dec_lt}
use mathlib.Core.Path.{◌≡◌, refl, sym, ◌∙◌, ap}
use mathlib.Core.Bool.{Bool, true, false}
use mathlib.Core.List.{List, [], ◌∷◌}
use borrow.Author.Tests.{ne_eqb, lt-ltb}
use lib.ListN.{length, get_or, drop, take, set, length-set}
use lib.Seq.{get_or-set_same, get_or-set_other, get_or-drop, drop-drop, drop-nil}
use Rattle.std.specs.Prelude.{Ok}
use Rattle.std.proofs.lemmas.List.{get_or-take, length-take-le}
use Rattle.form.specs.Levels.{inner, goal, all, back, place_at, turned, levels, place_behind, levels_behind, Stacked, bottom, up}
use Rattle.form.specs.Places.{At, State, Starts, value, opens, Follows, inside, closed}
use Rattle.form.specs.Table.{Kept, Outer, Pops}
use Rattle.form.specs.declared.Level.{Level}
use Rattle.form.specs.declared.Level.TheVariants.{Root}
use Rattle.form.specs.declared.Start.TheVariants.{Value, Opened}
use Rattle.form.specs.declared.Next.TheVariants.{Inside, Closed}

-- ---- a text of which no more than the bytes before p are seen

module _ (t : List ℕ) (p : ℕ) where
  back_take : (i k : ℕ) → i ≤ p → 0 < k → back (take p t) i k ≡ back t i k
  back_take i k h l = elim (dec_lt i k) [
    | yes y ↦ rw (lt-ltb i k y) refl
    | no y ↦ let q : i - k < p = omega arith in rw (get_or-take p t (i - k) 0 q) refl
  ]

  place_take : (i : ℕ) → i ≤ p → place_at (take p t) i ≡ place_at t i
  place_take i h = rw (back_take i 1 h (omega arith), back_take i 3 h (omega arith)) refl

  pub levels_take : (i : ℕ) → i ≤ p → levels (take p t) i ≡ levels t i
  unfolding levels
  levels_take zero h = refl
  levels_take (suc i) h = rw (get_or-take p t i 0 (omega arith), levels_take i (omega arith), place_take i (omega arith)) refl

  pub levels_seen : p ≤ length t → levels_behind (take p t) ≡ levels t p
  levels_seen h = rw length-take-le (levels_take p (omega arith))

  place_seen : p ≤ length t → place_behind (take p t) ≡ place_at t p
  place_seen h = rw length-take-le (place_take p (omega arith))

-- ---- counting backwards: one byte b before j

-- the levels behind t, of which k closed ones are still to be passed over at j
pub record Counted (t : List ℕ) (j k : ℕ) : Type 0 where
  pub far : j ≤ length t
  pub same : levels_behind t ≡ drop k (levels t j)

levels_step : (t : List ℕ) (j : ℕ) → 0 < j → levels t j ≡ turned t (j - 1) (get_or t (j - 1) 0) (levels t (j - 1))
unfolding levels
levels_step t zero p = absurd (omega arith)
levels_step t (suc j) p = let q : suc j - 1 ≡ j = omega arith in rw q

module _ {t : List ℕ} {j k : ℕ} (c : Counted t j k) (p : 0 < j) where
  step : {b : ℕ} → get_or t (j - 1) 0 ≡ b → levels_behind t ≡ drop k (turned t (j - 1) b (levels t (j - 1)))
  step e = rw (← e) (c.same ∙ ap (drop k) (levels_step t j p))

  pub counted_close : get_or t (j - 1) 0 ≡ 41 → Counted t (j - 1) (k + 1)
  counted_close e =
      let f = c.far in
      let s : 1 + k ≡ k + 1 = omega arith in
      record { far = omega arith; same = step e ∙ drop-drop k 1 (levels t (j - 1)) ∙ ap (λ (m : ℕ). drop m (levels t (j - 1))) s }

  pub counted_other : (get_or t (j - 1) 0 ≡ 41 → ⊥) → (get_or t (j - 1) 0 ≡ 40 → ⊥) → Counted t (j - 1) k
  counted_other m n = let f = c.far in record { far = omega arith; same = rw (ne_eqb (get_or t (j - 1) 0) 41 m, ne_eqb (get_or t (j - 1) 0) 40 n) at (step refl) }

  pub counted_found : get_or t (j - 1) 0 ≡ 40 → k ≡ 0 → Outer t (take (j - 1) t)
  counted_found e n =
      let f = c.far in
      let q : levels_behind t ≡ place_at t (j - 1) ∷ levels t (j - 1) = rw n at (step e) in
      record { here = rw (q, place_seen t (j - 1) (omega arith)); beyond = rw (q, levels_seen t (j - 1) (omega arith)) }

  pub counted_open : get_or t (j - 1) 0 ≡ 40 → (k ≡ 0 → ⊥) → Counted t (j - 1) (k - 1)
  counted_open e n = go k n (step e)
    where
      go : (k : ℕ) → (k ≡ 0 → ⊥) → levels_behind t ≡ drop k (place_at t (j - 1) ∷ levels t (j - 1)) → Counted t (j - 1) (k - 1)
      go zero n q = absurd (n refl)
      go (suc k) n q = let s : suc k - 1 ≡ k = omega arith in let f = c.far in record { far = omega arith; same = rw s q }

pub counted_none : {t : List ℕ} {j k : ℕ} → Counted t j k → j ≤ 0 → Outer t []
unfolding levels
counted_none {t} {j} {k} c h =
    let z : j ≡ 0 = omega arith in
    let q : levels_behind t ≡ [] = rw z at c.same ∙ drop-nil k in
    record { here = rw q; beyond = rw q }

-- ---- the table

pub kept_start : {tab : List Level} (ls : List Level) → 2 ≤ length tab → Kept ls tab 0
kept_start ls h = record { enough = h; room = omega arith; kept = λ k j e. absurd (omega arith) }

-- filled from entry j on, the bracket of that entry being behind p
pub record Filling (ls tab : List Level) (half j : ℕ) (p : List ℕ) : Type 0 where
  pub low : j ≤ half
  pub room : half ≤ length tab
  pub outward : (d : ℕ) → d + j ≡ half → drop d ls ≡ levels_behind p
  pub filled : (d x : ℕ) → suc (d + x) ≡ half → j ≤ x → get_or ls d Root ≡ get_or tab x Root

pub filling_on : {ls tab : List Level} {half n j : ℕ} {p q : List ℕ} (c : Level) → Filling ls tab half n p → n ≡ suc j → Outer p q → c ≡ place_behind q
    → Filling ls (set tab j c) half j q
filling_on {ls} {tab} {half} {n} {j} {p} {q} c f hn o hc =
    let l = f.low in
    record { low = omega arith; room = simp length-set f.room; outward = out; filled = fill }
  where
    out : (d : ℕ) → d + j ≡ half → drop d ls ≡ levels_behind q
    out zero e = let l = f.low in absurd (omega arith)
    out (suc d) e =
        let s : suc d ≡ d + 1 = omega arith in
        ap (λ (m : ℕ). drop m ls) s ∙ sym (drop-drop 1 d ls) ∙ ap (drop 1) (f.outward d (omega arith)) ∙ o.beyond

    fill : (d x : ℕ) → suc (d + x) ≡ half → j ≤ x → get_or ls d Root ≡ get_or (set tab j c) x Root
    fill d x e l = let r = f.room in elim (dec_lt j x) [
      | yes g ↦ rw (get_or-set_other tab j x c Root (omega arith)) (f.filled d x e (omega arith))
      | no g ↦
          let z : x ≡ j = omega arith in
          let s : d ≡ d + 0 = omega arith in
          rw (z, get_or-set_same tab j c Root (omega arith))
          (ap (λ (m : ℕ). get_or ls m Root) s ∙ sym (get_or-drop d ls 0 Root) ∙ ap (λ (m : List Level). get_or m 0 Root) (f.outward d (omega arith)) ∙ o.here ∙ sym hc)
    ]

pub filling_end : {ls tab : List Level} {half j : ℕ} {p : List ℕ} → Filling ls tab half j p → j ≤ 0 → 2 ≤ length tab → Kept ls tab half
filling_end f h e = record { enough = e; room = f.room; kept = λ k x q. f.filled k x q (omega arith) }

-- ---- a turn

pub begins : (t : List ℕ) → State t 0 Root false
unfolding all levels
begins t = record { at = record { inside = omega arith; fits = omega arith; held = refl }; stack = bottom; place = λ e. refl }

module _ {t : List ℕ} {k : ℕ} {l : Level} where
  state : {c : Bool} {ls : List Level} → At t k (goal c l (all ls)) ls → Stacked l ls → (c ≡ false → place_at t k ≡ l) → State t k l c
  state a s p = record { at = rw a.held a; stack = rw a.held s; place = p }

never : {A : Type 0} → true ≡ false → A
never z = absurd (let y : ◌≡◌ {A = ℕ} 0 1 = cc in omega arith)

module _ {t : List ℕ} {i : ℕ} {l : Level} {c : Bool} {tab : List Level} {h : ℕ} (s : State t i l c) where
  pub turn_value : {k : ℕ} → Starts t i l (Ok (Value k)) → Kept (levels t i) tab h → State t k l true × Kept (levels t k) tab h × (i < k)
  turn_value (value n a) p = (state a s.stack never, rw a.held p, n)

  pub turn_opened : {k : ℕ} {m : Level} → Starts t i l (Ok (Opened k m)) → Kept (l ∷ levels t i) tab h → State t k m false × Kept (levels t k) tab h × (i < k)
  unfolding all
  turn_opened (opens n e) p = (state e.at (up e.inside s.stack) (λ z. e.place), rw e.at.held p, n)

  pub turn_inside : {k : ℕ} {m : Level} → Follows t i l (Ok (Inside k m)) → Kept (levels t i) tab h → State t k m false × Kept (levels t k) tab h × (i < k)
  turn_inside (inside n z e) p = (state e.at (go s.stack z e.inside) (λ y. e.place), rw e.at.held p, n)
    where
      go : {l m : Level} {ls : List Level} → Stacked l ls → inner l ≡ true → inner m ≡ true → Stacked m ls
      go bottom z w = never (sym z)
      go (up y r) z w = up w r

  pub turn_closed : {k : ℕ} {x : Level} → Follows t i l (Ok (Closed k)) → Pops (levels t i) x tab h → State t k x true × Kept (levels t k) tab h × (i < k)
  unfolding all
  turn_closed {k} {x} (closed n z a) p = go s.stack z p a
    where
      go : {l : Level} {ls : List Level} → Stacked l ls → inner l ≡ true → Pops ls x tab h → At t k (all ls) (drop 1 ls) → State t k x true × Kept (levels t k) tab h × (i < k)
      go bottom z p a = never (sym z)
      go (up {ms = ms} g r) z p a = (rw p.0 (state a r never), rw a.held p.1, n)
