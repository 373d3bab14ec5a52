-- A text is that of one tree, but for the numbers of its operators: a reader that bounds no number finds every tree from its text.
-- So trees with the same text agree in their nodes, their places and their large numbers.
use Prim.Native.Nat.{ℕ, zero, suc, ◌+◌, ◌-◌, ◌≤◌, ◌<◌}
use native.Mathlib.Omega.{arith}
use mathlib.Core.Path.{◌≡◌, refl, sym, ◌∙◌, ap}
use mathlib.Core.Bool.{Bool, true, false, cond}
use mathlib.Core.List.{List, [], ◌∷◌, ◌++◌}
use mathlib.Core.Option.{Option, some, some-injective}
use lib.Dec.{eqb}
use lib.IntN.{ℤ, pos, negsuc}
use lib.ListN.{drop}
use Rattle.l1.specs.Syntax.{Op, Loc, Expr, int, bool, ◌‹◌#◌›◌, if◌then'◌else◌, ◌:=◌, !◌, skip, ◌⨾◌, while◌do'◌done}
use Rattle.l1.specs.Measures.{size, places}
use Rattle.l1.specs.Text.{bytes, sign, decimal, text}
use Rattle.l1.proofs.Depth.{depth, places_below_depth}
use Rattle.stored.specs.Stored.{Storable}
use Rattle.text_form.specs.Digits.{digit, digits_of, value_from}
use Rattle.text_form.specs.Parser.{on, front, number, Parsed, parsed, noded, leaf, form_of}
use Rattle.text_form.specs.Small.{Small}
use Rattle.text_form.specs.Numbers.{Part, whole, op_left, op_right, if_test, if_then, if_else, assigned, seq_first, seq_second, while_test}
use Rattle.text_form.specs.Numbers.{while_body}
use Rattle.text_form.specs.Numbers.{LargeInteger, large_integer, LargeLocation, large_read, large_written}
use Rattle.text_form.proofs.Numbering.{renumber, storable_held, small_in_range}
use Rattle.text_form.proofs.Found.{Clear, number_front, unlike, value_found, number_found, begins, group, node_found, truth_found, skip_found}
use Rattle.text_form.proofs.Found.{op_formed, seq_formed, while_formed, if_formed}

-- the number in front, whatever it is, and what is done with it
abbrev any : {B : Type 0} → List ℕ → (ℕ → List ℕ → Option B) → Option B
any u f = on (number (value_from 0 (digits_of u)) u) (λ n. f n.value n.left)

any_found : {B : Type 0} (n : ℕ) (u : List ℕ) (f : ℕ → List ℕ → Option B) → Clear u → any (decimal n ++ u) f ≡ f n u
any_found n u f c = rw (value_found n u c, number_found n n u (omega arith) c)

module _ (cap : ℕ) where
  unfoldable leaf_any : ℕ → List ℕ → Option Parsed
  leaf_any f u =
      cond (eqb (front u) 33) (any (drop 2 u) (λ n v. noded cap f (! n) v))
      (cond (eqb (front u) 45) (any (drop 1 u) (λ n v. noded cap f (int (negsuc (n - 1))) v))
      (cond (digit (front u)) (any u (λ n v. noded cap f (int (pos n)) v)) (leaf cap f u)))

  -- behind the number l of an assignment
  abbrev assign_any : (ℕ → List ℕ → Option Parsed) → ℕ → ℕ → List ℕ → Option Parsed
  assign_any sub f l v = on (sub f (drop 4 v)) (λ p. noded cap p.node (l := p.expr) (drop 1 p.left))

  unfoldable form_any : (ℕ → List ℕ → Option Parsed) → ℕ → List ℕ → Option Parsed
  form_any sub f u = cond (eqb (front u) 108) (any (drop 1 u) (assign_any sub f)) (form_of cap (λ _. sub) 0 f u)

  unfoldable parse_any : ℕ → ℕ → List ℕ → Option Parsed
  parse_any zero f u = leaf_any f u
  parse_any (suc k) f u = cond (eqb (front u) 40) (form_any (parse_any k) f (drop 1 u)) (leaf_any f u)

  -- a leaf is read at any level
  leaf_any_lem : (k f : ℕ) (u : List ℕ) → eqb (front u) 40 ≡ false → parse_any k f u ≡ leaf_any f u
  unfolding parse_any
  leaf_any_lem zero f u h = refl
  leaf_any_lem (suc k) f u h = rw h

  bracketed : (k f : ℕ) (u : List ℕ) → 0 < k → parse_any k f (40 ∷ u) ≡ form_any (parse_any (k - 1)) f u
  unfolding parse_any
  bracketed zero f u h = absurd (omega arith)
  bracketed (suc k) f u h = let q : suc k - 1 ≡ k = omega arith in rw q

  -- what begins with an expression is no assignment
  form_any_lem : (sub : ℕ → List ℕ → Option Parsed) (f : ℕ) (e : Expr) (s y t u : List ℕ) → form_any sub f (text e ++ s ++ y ++ t ++ u) ≡ form_of cap (λ _. sub) 0 f (text e ++ s ++ y ++ t ++ u)
  unfolding form_any
  form_any_lem sub f e s y t u = rw (group (text e) s y t u, (begins e (s ++ (y ++ (t ++ u)))).2)

  any_finds : (e : Expr) (k f : ℕ) (u : List ℕ) → depth e ≤ k + 1 → f + size e ≤ cap → Clear u
      → parse_any k f (text e ++ u) ≡ some (parsed (renumber f e) (f + size e) u)
  unfolding parse_any form_any leaf_any leaf text
  any_finds (int (pos n)) k f u d h c =
      leaf_any_lem k f (decimal n ++ u) (unlike n u 40 refl)
      ∙ rw (unlike n u 33 refl, unlike n u 45 refl, number_front n u, any_found n u (λ x v. noded cap f (int (pos x)) v) c) (node_found cap f _ _ u (omega arith) refl)
  any_finds (int (negsuc n)) k f u d h c =
      let q : suc n - 1 ≡ n = omega arith in
      leaf_any_lem k f (45 ∷ (decimal (suc n) ++ u)) refl
      ∙ rw (any_found (suc n) u (λ x v. noded cap f (int (negsuc (x - 1))) v) c, q) (node_found cap f _ _ u (omega arith) refl)
  any_finds (! l) k f u d h c =
      leaf_any_lem k f (bytes "!l" ++ (decimal l ++ u)) refl ∙ any_found l u (λ x v. noded cap f (! x) v) c ∙ node_found cap f _ _ u (omega arith) refl
  any_finds (bool true) k f u d h c = leaf_any_lem k f (text (bool true) ++ u) refl ∙ rw (truth_found true u) (node_found cap f _ _ u (omega arith) refl)
  any_finds (bool false) k f u d h c = leaf_any_lem k f (text (bool false) ++ u) refl ∙ rw (truth_found false u) (node_found cap f _ _ u (omega arith) refl)
  any_finds skip k f u d h c = leaf_any_lem k f (text skip ++ u) refl ∙ rw (skip_found u) (node_found cap f _ _ u (omega arith) refl)
  any_finds (e₁ ‹ o # i › e₂) k f u d h c =
      bracketed k f _ (omega (arith, places_below_depth e₁)) ∙ form_any_lem (parse_any (k - 1)) f e₁ (sign o) (text e₂) (bytes ")") u
      ∙ op_formed cap (λ _. parse_any (k - 1)) 0 e₁ e₂ (λ g v. any_finds e₁ (k - 1) g v (omega arith)) (λ g v. any_finds e₂ (k - 1) g v (omega arith)) o i f u h
  any_finds (if e₁ then' e₂ else e₃) k f u d h c =
      bracketed k f _ (omega (arith, places_below_depth e₁))
      ∙ if_formed cap (λ _. parse_any (k - 1)) 0 e₁ e₂ (λ g v. any_finds e₁ (k - 1) g v (omega arith)) e₃ (λ g v. any_finds e₂ (k - 1) g v (omega arith)) (λ g v. any_finds e₃ (k - 1) g v (omega arith)) f u h
  any_finds (l := e) k f u d h c =
      bracketed k f _ (omega (arith, places_below_depth e))
      ∙ rw (
        group (decimal l) (bytes " := ") (text e) (bytes ")") u,
        any_found l (bytes " := " ++ (text e ++ 41 ∷ u)) (assign_any (parse_any (k - 1)) f) refl,
        any_finds e (k - 1) f (41 ∷ u) (omega arith) (omega arith) refl,
      )
      (node_found cap (f + size e) _ _ u (omega arith) (omega arith))
  any_finds (e₁ ⨾ e₂) k f u d h c =
      bracketed k f _ (omega (arith, places_below_depth e₁)) ∙ form_any_lem (parse_any (k - 1)) f e₁ (bytes " ; ") (text e₂) (bytes ")") u
      ∙ seq_formed cap (λ _. parse_any (k - 1)) 0 e₁ e₂ (λ g v. any_finds e₁ (k - 1) g v (omega arith)) (λ g v. any_finds e₂ (k - 1) g v (omega arith)) f u h
  any_finds (while e₁ do' e₂ done) k f u d h c =
      bracketed k f _ (omega (arith, places_below_depth e₁))
      ∙ while_formed cap (λ _. parse_any (k - 1)) 0 e₁ e₂ (λ g v. any_finds e₁ (k - 1) g v (omega arith)) (λ g v. any_finds e₂ (k - 1) g v (omega arith)) f u h

pub one_shape : (e e' : Expr) → text e ≡ text e' → renumber 0 e ≡ renumber 0 e'
one_shape e e' q =
    let cap = size e + size e' in let k = depth e + depth e' in
    let p = any_finds cap e k 0 [] (omega arith) (omega arith) refl in
    let p' = any_finds cap e' k 0 [] (omega arith) (omega arith) refl in
    let r : parse_any cap k 0 (text e ++ []) ≡ parse_any cap k 0 (text e' ++ []) = rw q in
    ap (λ (x : Parsed). x.expr) (some-injective _ _ (sym p ∙ r ∙ p'))

-- the text determines the tree that is read
pub one_tree : {m : ℕ} {e e' : Expr} → Storable m e → Storable m e' → text e ≡ text e' → e ≡ e'
one_tree {e = e} {e'} s s' q = sym (storable_held s).own ∙ one_shape e e' q ∙ (storable_held s').own

-- ---- what trees with the same text share

-- but for the numbers of the operators
data Alike : Expr → Expr → Type 0 where
  ints : {n : ℤ} → Alike (int n) (int n)
  bools : {b : Bool} → Alike (bool b) (bool b)
  ops : {o : Op} {i j : ℕ} {a b c d : Expr} → Alike a c → Alike b d → Alike (a ‹ o # i › b) (c ‹ o # j › d)
  ifs : {a b c x y z : Expr} → Alike a x → Alike b y → Alike c z → Alike (if a then' b else c) (if x then' y else z)
  assigns : {l : Loc} {a b : Expr} → Alike a b → Alike (l := a) (l := b)
  derefs : {l : Loc} → Alike (! l) (! l)
  skips : Alike skip skip
  seqs : {a b c d : Expr} → Alike a c → Alike b d → Alike (a ⨾ b) (c ⨾ d)
  whiles : {a b c d : Expr} → Alike a c → Alike b d → Alike (while a do' b done) (while c do' d done)

-- both ways
renumbered : (e : Expr) (f : ℕ) → Alike e (renumber f e) × Alike (renumber f e) e
renumbered (int n) f = (ints, ints)
renumbered (bool b) f = (bools, bools)
renumbered (e₁ ‹ o # i › e₂) f = let (p, q) = renumbered e₁ f in let (r, s) = renumbered e₂ (f + size e₁) in (ops p r, ops q s)
renumbered (if e₁ then' e₂ else e₃) f =
    let (p, q) = renumbered e₁ f in let (r, s) = renumbered e₂ (f + size e₁) in let (t, u) = renumbered e₃ (f + size e₁ + size e₂) in (ifs p r t, ifs q s u)
renumbered (l := e) f = let (p, q) = renumbered e f in (assigns p, assigns q)
renumbered (! l) f = (derefs, derefs)
renumbered skip f = (skips, skips)
renumbered (e₁ ⨾ e₂) f = let (p, q) = renumbered e₁ f in let (r, s) = renumbered e₂ (f + size e₁) in (seqs p r, seqs q s)
renumbered (while e₁ do' e₂ done) f = let (p, q) = renumbered e₁ f in let (r, s) = renumbered e₂ (f + size e₁) in (whiles p r, whiles q s)

abbrev Same : Expr → Expr → Type 0
Same e e' = (text e ≡ text e') × (size e ≡ size e') × (places e ≡ places e') × (Small e → Small e')

told : {e e' : Expr} → Alike e e' → Same e e'
unfolding text
told ints = (refl, refl, refl, λ s. s)
told bools = (refl, refl, refl, λ s. s)
told (ops a b) = let (t, n, d, s) = told a in let (u, m, c, r) = told b in (rw (t, u), omega arith, omega arith, λ h. (s h.0, r h.1))
told (ifs a b c) =
    let (t, n, d, s) = told a in let (u, m, g, r) = told b in let (v, l, f, q) = told c in
    (rw (t, u, v), omega arith, omega arith, λ h. (s h.0, r h.1, q h.2))
told (assigns a) = let (t, n, d, s) = told a in (rw t, omega arith, omega arith, λ h. (h.0, s h.1))
told derefs = (refl, refl, refl, λ s. s)
told skips = (refl, refl, refl, λ s. s)
told (seqs a b) = let (t, n, d, s) = told a in let (u, m, c, r) = told b in (rw (t, u), omega arith, omega arith, λ h. (s h.0, r h.1))
told (whiles a b) = let (t, n, d, s) = told a in let (u, m, c, r) = told b in (rw (t, u), omega arith, omega arith, λ h. (s h.0, r h.1))

abbrev There : Expr → ℕ → Expr → Type 0
There e i d = (d' : Expr) × Part e i d' × Alike d d'

there : {e e' d : Expr} {i : ℕ} → Part e i d → Alike e e' → There e' i d
there whole a = (_, whole, a)
there (op_left p) (ops a b) = let (d, q, s) = there p a in (d, op_left q, s)
there (op_right p) (ops a b) = let (d, q, s) = there p b in (d, rw (told a).0 (op_right q), s)
there (if_test p) (ifs a b c) = let (d, q, s) = there p a in (d, if_test q, s)
there (if_then p) (ifs a b c) = let (d, q, s) = there p b in (d, rw (told a).0 (if_then q), s)
there (if_else p) (ifs a b c) = let (d, q, s) = there p c in (d, rw ((told a).0, (told b).0) (if_else q), s)
there (assigned p) (assigns a) = let (d, q, s) = there p a in (d, assigned q, s)
there (seq_first p) (seqs a b) = let (d, q, s) = there p a in (d, seq_first q, s)
there (seq_second p) (seqs a b) = let (d, q, s) = there p b in (d, rw (told a).0 (seq_second q), s)
there (while_test p) (whiles a b) = let (d, q, s) = there p a in (d, while_test q, s)
there (while_body p) (whiles a b) = let (d, q, s) = there p b in (d, rw (told a).0 (while_body q), s)

integer_too : {e e' : Expr} {i : ℕ} → Alike e e' → LargeInteger e i → LargeInteger e' i
integer_too {e' = e'} a (large_integer {n} {i} p h) = go (there p a)
  where
    go : There e' i (int n) → LargeInteger e' i
    go (d, q, ints) = large_integer q h

location_too : {e e' : Expr} {i : ℕ} → Alike e e' → LargeLocation e i → LargeLocation e' i
location_too {e' = e'} a (large_read {l} {i} p h) = go (there p a)
  where
    go : There e' i (! l) → LargeLocation e' (i + 2)
    go (d, q, derefs) = large_read q h
location_too {e' = e'} a (large_written {l} {d} {i} p h) = go (there p a)
  where
    go : There e' i (l := d) → LargeLocation e' (i + 2)
    go (c, q, assigns b) = large_written q h

pub record Agree (e e' : Expr) : Type 0 where
  pub same_size : size e ≡ size e'
  pub same_places : places e ≡ places e'
  pub small_too : Small e → Small e'
  pub integers : (i : ℕ) → LargeInteger e i → LargeInteger e' i
  pub locations : (i : ℕ) → LargeLocation e i → LargeLocation e' i

pub agree : {e e' : Expr} → text e ≡ text e' → Agree e e'
agree {e} {e'} q =
    let a = (renumbered e 0).0 in let b : Alike (renumber 0 e) e' = rw (one_shape e e' q) (renumbered e' 0).1 in
    let s = told a in let t = told b in
    record {
      same_size = omega arith;
      same_places = omega arith;
      small_too = λ h. t.3 (s.3 h);
      integers = λ i h. integer_too b (integer_too a h);
      locations = λ i h. location_too b (location_too a h);
    }

-- a tree with small numbers has no large number
part_small : {e d : Expr} {i : ℕ} → Part e i d → Small e → Small d
part_small whole s = s
part_small (op_left p) s = part_small p s.0
part_small (op_right p) s = part_small p s.1
part_small (if_test p) s = part_small p s.0
part_small (if_then p) s = part_small p s.1
part_small (if_else p) s = part_small p s.2
part_small (assigned p) s = part_small p s.1
part_small (seq_first p) s = part_small p s.0
part_small (seq_second p) s = part_small p s.1
part_small (while_test p) s = part_small p s.0
part_small (while_body p) s = part_small p s.1

pub no_large_integer : {e : Expr} {i : ℕ} → Small e → ¬ LargeInteger e i
no_large_integer s (large_integer {n} p h) = h (small_in_range n (part_small p s))

pub no_large_location : {e : Expr} {i : ℕ} → Small e → ¬ LargeLocation e i
no_large_location s (large_read p h) = omega (arith, part_small p s)
no_large_location s (large_written p h) = omega (arith, (part_small p s).0)
