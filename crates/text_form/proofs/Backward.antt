-- What the automaton takes to the end, where an expression is wanted, begins with the text of a tree.
use Prim.Native.Nat.{ℕ, zero, suc, ◌-◌, ◌≤◌, ◌<◌}
use native.Mathlib.Omega.{arith}
use mathlib.Core.Path.{◌≡◌, refl, sym, ◌∙◌, ap}
use mathlib.Core.Bool.{Bool, true, false}
use mathlib.Core.List.{List, [], ◌∷◌, ◌++◌, append_assoc}
use mathlib.Core.Option.{Option, none, some}
use borrow.Author.Tests.{eqb-true}
use lib.Dec.{eqb}
use lib.IntN.{pos, negsuc}
use lib.ListN.{length, get_or, length-append}
use Rattle.l1.specs.Syntax.{plus, geq, Expr, int, bool, ◌‹◌#◌›◌, if◌then'◌else◌, ◌:=◌, !◌, skip, ◌⨾◌, while◌do'◌done}
use Rattle.l1.specs.Text.{bytes, digits, decimal, text}
use Rattle.text_form.specs.Digits.{digit, nonzero, digits_of, beyond, value_from}
use Rattle.text_form.specs.Automaton.{Stop, space, close, code, Sym, lit, wanted, natural, positive, more, opened, joint, word}
use Rattle.text_form.specs.Automaton.{Row, pick, choose, leaves, heads, joints, starts, within, begin, before, next, on, run}
use Rattle.text_form.proofs.Notation.{parted, from_digits, from_positive, zero_noted}
use Rattle.text_form.proofs.Forward.{never, more_run}

-- t is w and something that st takes to the end
pub record Left (w : List ℕ) (st : List Sym) (t : List ℕ) : Type 0 where
  pub back : List ℕ
  pub whole : t ≡ w ++ back
  pub goes : run st back ≡ some []
  pub short : length back ≤ length t

-- w, and then x
infixr 40 ◌⊙◌
◌⊙◌ : {w x : List ℕ} {s st : List Sym} {t : List ℕ} (p : Left w s t) → Left x st p.back → Left (w ++ x) st t
◌⊙◌ {w} {x} p q =
    record {
      back = q.back;
      whole = p.whole ∙ ap (λ (v : List ℕ). w ++ v) q.whole ∙ sym (append_assoc w x q.back);
      goes = q.goes;
      short = let a = p.short in let b = q.short in omega arith;
    }

-- x put in front
in_front : (x : List ℕ) {w t : List ℕ} {st : List Sym} → Left w st t → Left (x ++ w) st (x ++ t)
in_front x {w} p =
    record {
      back = p.back;
      whole = ap (λ (v : List ℕ). x ++ v) p.whole ∙ sym (append_assoc x w p.back);
      goes = p.goes;
      short = let a = p.short in rw length-append (omega arith);
    }

recast : {w x : List ℕ} {st : List Sym} {t : List ℕ} → Left w st t → w ≡ x → Left x st t
recast p e = rw e at p

-- the first byte
by_byte : (P : List ℕ → Type 0) (s : Sym) (st : List Sym)
    → ((b : ℕ) (u : List ℕ) (r : List Sym) → begin s b ≡ some r → run (r ++ st) u ≡ some [] → P (b ∷ u))
    → (t : List ℕ) → run (s ∷ st) t ≡ some [] → P t
unfolding run next
by_byte P s st f [] e = absurd (let z : ◌≡◌ {A = ℕ} 0 1 = cc in omega arith)
by_byte P s st f (b ∷ u) e = go (begin s b) refl e
  where
    go : (o : Option (List Sym)) → begin s b ≡ o → on (before st o) (λ x. run x u) ≡ some [] → P (b ∷ u)
    go none q h = never h
    go (some r) q h = f b u r q h

-- a choice that has an answer: by its first side, or by the other
pick_by : {P : Type 0} (Q : List Sym → Type 0) (t : Bool) (r : List Sym) (o : Option (List Sym)) (x : List Sym) → pick t r o ≡ some x → Q x
    → (t ≡ true → Q r → P) → (o ≡ some x → P) → P
pick_by Q true r o x e q f g = let h : r ≡ x = cc in f refl (rw h q)
pick_by Q false r o x e q f g = g e

within_by : {P : Type 0} (o h : Option (List Sym)) (x : List Sym) → within o h ≡ some x → ((r : List Sym) → o ≡ some r → r ++ joint ∷ [] ≡ x → P)
    → (h ≡ some x → P) → P
within_by none h x e f g = g e
within_by (some r) h x e f g = f r refl (cc)

-- P of each row
infixr 40 ◌&◌
data Each (P : ℕ → List Sym → Type 0) : List Row → Type 0 where
  no_more : Each P []
  ◌&◌ : {w : Row} {ws : List Row} → P w.first w.rest → Each P ws → Each P (w ∷ ws)

choose_by : (P : ℕ → List Sym → Type 0) {ws : List Row} → Each P ws → (b : ℕ) (x : List Sym) → choose ws b ≡ some x → P b x
unfolding choose
choose_by P no_more b x e = never e
choose_by P (◌&◌ {w} {ws} p ps) b x e =
    pick_by (λ y. y ≡ x) (eqb b w.first) w.rest (choose ws b) x e refl
    (λ h z. rw (eqb-true b w.first h, ← z) p)
    (λ q. choose_by P ps b x q)

-- words and numbers
behind : (w : List ℕ) (st : List Sym) (t : List ℕ) → run (word w st) t ≡ some [] → Left w st t
unfolding begin
behind [] st t e = record { back = t; whole = refl; goes = e; short = omega arith }
behind (a ∷ w) st t e =
    by_byte (Left (a ∷ w) st) (lit a) (word w st)
    (λ b u r q h.
    pick_by (λ x. run (x ++ word w st) u ≡ some []) (eqb b a) [] none r q h
    (λ z m. rw (eqb-true b a z) (in_front (a ∷ []) (behind w st u m)))
    never)
    t e

module _ (c : Stop) (st : List Sym) where
  stops : (t : List ℕ) → run (more c ∷ st) t ≡ some [] → digit (get_or t 0 256) ≡ false → Left (code c ∷ []) st t
  unfolding begin
  stops = by_byte (λ v. digit (get_or v 0 256) ≡ false → Left (code c ∷ []) st v) (more c) st
      (λ b u r q h n.
      pick_by (λ x. run (x ++ st) u ≡ some []) (eqb b (code c)) [] none r (rw n at q) h
      (λ z m. rw (eqb-true b (code c) z) (in_front (code c ∷ []) (behind [] st u m)))
      never)

  more_back : (t : List ℕ) → run (more c ∷ st) t ≡ some [] → Left (digits_of t ++ code c ∷ []) st t
  more_back t e =
      let p = parted t in
      let h = sym (ap (run (more c ∷ st)) p.whole ∙ more_run c st (beyond t) p.digits) ∙ e in
      rw (← p.whole) at (in_front (digits_of t) (stops (beyond t) h p.stops))

  number_back : (b : ℕ) (u : List ℕ) → nonzero b ≡ true → run (more c ∷ st) u ≡ some [] → (n : ℕ) × Left (decimal (suc n) ++ code c ∷ []) st (b ∷ u)
  number_back b u h e =
      let p = parted u in
      let n = value_from 0 (b ∷ digits_of u) in
      let z = from_positive b h p.digits in
      let s : suc (n - 1) ≡ n = omega arith in
      (n - 1, rw (s, from_digits b h p.digits) (in_front (b ∷ []) (more_back u e)))

  positive_back : (t : List ℕ) → run (positive c ∷ st) t ≡ some [] → (n : ℕ) × Left (decimal (suc n) ++ code c ∷ []) st t
  unfolding begin
  positive_back = by_byte (λ v. (n : ℕ) × Left (decimal (suc n) ++ code c ∷ []) st v) (positive c) st
      (λ b u r q h. pick_by (λ x. run (x ++ st) u ≡ some []) (nonzero b) (more c ∷ []) none r q h (number_back b u) never)

  natural_back : (t : List ℕ) → run (natural c ∷ st) t ≡ some [] → (n : ℕ) × Left (decimal n ++ code c ∷ []) st t
  unfolding begin
  natural_back = by_byte (λ v. (n : ℕ) × Left (decimal n ++ code c ∷ []) st v) (natural c) st
      (λ b u r q h.
      pick_by (λ x. run (x ++ st) u ≡ some []) (nonzero b) (more c ∷ []) _ r q h
      (λ z m. let p = number_back b u z m in (suc p.0, p.1))
      (λ q'. pick_by (λ x. run (x ++ st) u ≡ some []) (eqb b 48) (lit (code c) ∷ []) none r q' h
      (λ z m. (0, rw (eqb-true b 48 z, zero_noted) (in_front (48 ∷ []) (behind (code c ∷ []) st u m))))
      never))

-- an expression, its stop and the word w, and something that st takes to the end
pub record Shown (c : Stop) (w : List ℕ) (st : List Sym) (t : List ℕ) : Type 0 where
  pub expr : Expr
  pub left : Left (text expr ++ code c ∷ w) st t

abbrev Taken : ℕ → Type 0
Taken k = (c : Stop) (st : List Sym) (t : List ℕ) → length t < k → run (wanted c ∷ st) t ≡ some [] → Shown c [] st t

module _ {k : ℕ} (ih : Taken k) where
  part : (c : Stop) (w : List ℕ) (st : List Sym) (t : List ℕ) → length t < k → run (wanted c ∷ word w st) t ≡ some [] → Shown c w st t
  part c w st t l e =
      let x = ih c (word w st) t l e in
      record { expr = x.expr; left = recast (x.left ⊙ behind w st x.left.back x.left.goes) (append_assoc (text x.expr) (code c ∷ []) w) }

  module _ (c : Stop) (st : List Sym) where
    -- after the byte b of an expression, and after the byte b behind its "("
    abbrev First : ℕ → List Sym → Type 0
    First b r = (u : List ℕ) → length u < k → run (r ++ st) u ≡ some [] → Shown c [] st (b ∷ u)

    abbrev Second : ℕ → List Sym → Type 0
    Second b r = (u : List ℕ) → length u < k → run (r ++ lit (code c) ∷ st) u ≡ some [] → Shown c [] st (40 ∷ b ∷ u)

    leaf : (e : Expr) (b : ℕ) (w : List ℕ) → text e ≡ b ∷ w → (u : List ℕ) → length u < k → run (word w (lit (code c) ∷ st)) u ≡ some []
        → Shown c [] st (b ∷ u)
    leaf e b w q u l h =
        let p = behind w (lit (code c) ∷ st) u h in
        record { expr = e; left = rw q (in_front (b ∷ []) (p ⊙ behind (code c ∷ []) st p.back p.goes)) }

    minus_row : First 45 (positive c ∷ [])
    unfolding text
    minus_row u l h = let n = positive_back c st u h in record { expr = int (negsuc n.0); left = in_front (45 ∷ []) n.1 }

    read_row : First 33 (word (bytes "l") (natural c ∷ []))
    unfolding text
    read_row u l h =
        let p = behind (bytes "l") (natural c ∷ st) u h in
        let n = natural_back c st p.back p.goes in
        record { expr = ! n.0; left = in_front (33 ∷ []) (p ⊙ n.1) }

    if_row : Second 105 (word (bytes "f ") (wanted space ∷ word (bytes "then ") (wanted space ∷ word (bytes "else ") (wanted close ∷ []))))
    unfolding text
    if_row u l h =
        let p = behind (bytes "f ") _ u h in
        let x = part space (bytes "then ") _ p.back (omega arith) p.goes in
        let y = part space (bytes "else ") _ x.left.back (omega arith) x.left.goes in
        let z = part close (code c ∷ []) st y.left.back (omega arith) y.left.goes in
        record {
          expr = if x.expr then' y.expr else z.expr;
          left = recast (in_front (bytes "(i") (p ⊙ x.left ⊙ y.left ⊙ z.left)) (simp append_assoc);
        }

    while_row : Second 119 (word (bytes "hile ") (wanted space ∷ word (bytes "do ") (wanted space ∷ word (bytes "done)") [])))
    unfolding text
    while_row u l h =
        let p = behind (bytes "hile ") _ u h in
        let x = part space (bytes "do ") _ p.back (omega arith) p.goes in
        let y = part space (bytes "done)" ++ code c ∷ []) st x.left.back (omega arith) x.left.goes in
        record { expr = while x.expr do' y.expr done; left = recast (in_front (bytes "(w") (p ⊙ x.left ⊙ y.left)) (simp append_assoc) }

    assign_row : Second 108 (natural space ∷ word (bytes ":= ") (wanted close ∷ []))
    unfolding text
    assign_row u l h =
        let n = natural_back space _ u h in
        let p = behind (bytes ":= ") _ n.1.back n.1.goes in
        let x = part close (code c ∷ []) st p.back (omega arith) p.goes in
        record { expr = n.0 := x.expr; left = recast (in_front (bytes "(l") (n.1 ⊙ p ⊙ x.left)) (simp append_assoc) }

    -- after the left side e and its space
    module _ (e : Expr) where
      record Side (t : List ℕ) : Type 0 where
        expr : Expr
        rest : List ℕ
        is : text expr ≡ 40 ∷ (text e ++ 32 ∷ rest)
        left : Left (rest ++ code c ∷ []) st t

      abbrev Third : ℕ → List Sym → Type 0
      Third b r = (u : List ℕ) → length u < k → run (r ++ lit (code c) ∷ st) u ≡ some [] → Side (b ∷ u)

      side : (b : ℕ) (w : List ℕ) (f : Expr → Expr) → ((x : Expr) → text (f x) ≡ 40 ∷ (text e ++ 32 ∷ b ∷ (w ++ text x ++ 41 ∷ [])))
          → (u : List ℕ) → length u < k → run (word w (wanted close ∷ lit (code c) ∷ st)) u ≡ some [] → Side (b ∷ u)
      side b w f q u l h =
          let p = behind w (wanted close ∷ lit (code c) ∷ st) u h in
          let x = part close (code c ∷ []) st p.back (omega arith) p.goes in
          record {
            expr = f x.expr;
            rest = b ∷ (w ++ text x.expr ++ 41 ∷ []);
            is = q x.expr;
            left = recast (in_front (b ∷ []) (p ⊙ x.left)) (simp append_assoc);
          }

      sides : Each Third joints
      unfolding text
      sides =
          side 43 (bytes " ") (λ x. e ‹ plus # 0 › x) (λ x. simp append_assoc)
          & side 62 (bytes "= ") (λ x. e ‹ geq # 0 › x) (λ x. simp append_assoc)
          & side 59 (bytes " ") (λ x. e ⨾ x) (λ x. simp append_assoc)
          & no_more

    sides_row : (u : List ℕ) → length u < k → run (wanted space ∷ joint ∷ lit (code c) ∷ st) u ≡ some [] → Shown c [] st (40 ∷ u)
    unfolding begin
    sides_row u l h =
        let x = ih space (joint ∷ lit (code c) ∷ st) u l h in
        let y = by_byte (λ v. length v < k → Side x.expr v) joint (lit (code c) ∷ st)
        (λ b v r q m s. choose_by (Third x.expr) (sides x.expr) b r q v (omega arith) m)
        x.left.back x.left.goes (omega arith) in
        record { expr = y.expr; left = rw y.is (recast (in_front (40 ∷ []) (x.left ⊙ y.left)) (simp append_assoc)) }

    open_row : First 40 (opened ∷ lit (code c) ∷ [])
    unfolding begin run next
    open_row u l h =
        by_byte (λ v. length v < k → Shown c [] st (40 ∷ v)) opened (lit (code c) ∷ st)
        (λ b v x q m n.
        within_by (starts space b) (choose heads b) x q
        (λ r z w. sides_row (b ∷ v) n (rw z (rw append_assoc at (rw (← w) at m))))
        (λ z. choose_by Second (if_row & while_row & assign_row & no_more) b x z v (omega arith) m))
        u h l

    first_rows : Each First (leaves c)
    unfolding text digits
    first_rows =
        leaf (int (pos 0)) 48 [] refl
        & minus_row
        & leaf (bool true) 116 (bytes "rue") refl
        & leaf (bool false) 102 (bytes "alse") refl
        & leaf skip 115 (bytes "kip") refl
        & read_row
        & open_row
        & no_more

    first : (b : ℕ) (u : List ℕ) (r : List Sym) → begin (wanted c) b ≡ some r → length u < k → run (r ++ st) u ≡ some [] → Shown c [] st (b ∷ u)
    unfolding begin starts text
    first b u r q l h =
        pick_by (λ x. run (x ++ st) u ≡ some []) (nonzero b) (more c ∷ []) (choose (leaves c) b) r q h
        (λ z m. let n = number_back c st b u z m in record { expr = int (pos (suc n.0)); left = n.1 })
        (λ q'. choose_by First first_rows b r q' u l h)

-- by the length of the text
below : (k : ℕ) → Taken k
below zero c st t l e = absurd (omega arith)
below (suc k) c st t l e =
    by_byte (λ v. length v < suc k → Shown c [] st v) (wanted c) st (λ b u r q h m. first (below k) c st b u r q (omega arith) h) t e l

pub shown : (c : Stop) (st : List Sym) (t : List ℕ) → run (wanted c ∷ st) t ≡ some [] → Shown c [] st t
shown c st t e = below (suc (length t)) c st t (omega arith) e
