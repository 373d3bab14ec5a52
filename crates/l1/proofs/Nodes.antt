-- Where the nodes of a tree stand in its list of nodes: the root, the children's, and those of any subtree, which stand in a row.
use Prim.Native.Nat.{ℕ, zero, suc, ◌+◌, ◌≤◌, ◌<◌}
use native.Mathlib.Nat.{zero-add, add-zero, suc-add, add_assoc}
use native.Mathlib.Omega.{arith}
use mathlib.Core.Path.{◌≡◌, refl, sym, ap, ◌∙◌}
use mathlib.Core.Logic.{◌⊎◌, inl, inr, ⊎_elim}
use mathlib.Core.List.{List, [], ◌∷◌, ◌++◌, append_assoc}
use lib.ListN.{length, length-append}
use Rattle.l1.specs.Syntax.{Expr, int, bool, ◌‹◌#◌›◌, if◌then'◌else◌, ◌:=◌, !◌, skip, ◌⨾◌, while◌do'◌done}
use Rattle.l1.specs.Measures.{size}
use Rattle.l1.specs.Refused.{nodes, Nth, nth_zero, nth_suc, Node}

-- elements of a list by their numbers
pub nth_unique : {ds : List Expr} {i : ℕ} {d d' : Expr} → Nth ds i d → Nth ds i d' → d ≡ d'
nth_unique nth_zero nth_zero = refl
nth_unique (nth_suc n) (nth_suc m) = nth_unique n m

pub nth_below : {ds : List Expr} {i : ℕ} {d : Expr} → Nth ds i d → i < length ds
nth_below nth_zero = omega arith
nth_below (nth_suc n) = let h = nth_below n in omega arith

pub nth_some : (ds : List Expr) (i : ℕ) → i < length ds → (d : Expr) × Nth ds i d
nth_some [] i h = absurd (omega arith)
nth_some (d ∷ ds) zero h = (d, nth_zero)
nth_some (d ∷ ds) (suc i) h = let w = nth_some ds i (omega arith) in (w.0, nth_suc w.1)

pub nth_left : {xs : List Expr} {i : ℕ} {d : Expr} (ys : List Expr) → Nth xs i d → Nth (xs ++ ys) i d
nth_left ys nth_zero = nth_zero
nth_left ys (nth_suc n) = nth_suc (nth_left ys n)

pub nth_right : (xs : List Expr) {ys : List Expr} {i : ℕ} {d : Expr} → Nth ys i d → Nth (xs ++ ys) (length xs + i) d
nth_right [] n = rw zero-add n
nth_right (x ∷ xs) n = rw suc-add (nth_suc (nth_right xs n))

pub nth_append : (xs ys : List Expr) {i : ℕ} {d : Expr} → Nth (xs ++ ys) i d → Nth xs i d ⊎ ((k : ℕ) × (length xs + k ≡ i) × Nth ys k d)
nth_append [] ys {i} n = inr (i, zero-add i, n)
nth_append (x ∷ xs) ys nth_zero = inl nth_zero
nth_append (x ∷ xs) ys (nth_suc n) = ⊎_elim (λ m. inl (nth_suc m)) (λ (k, q, m). inr (k, rw (suc-add, q), m)) (nth_append xs ys n)

pub nodes_length : (e : Expr) → length (nodes e) ≡ size e
nodes_length (int n) = refl
nodes_length (bool b) = refl
nodes_length (e₁ ‹ o # i › e₂) = simp (length-append, nodes_length e₁, nodes_length e₂) (omega arith)
nodes_length (if e₁ then' e₂ else e₃) = simp (length-append, nodes_length e₁, nodes_length e₂, nodes_length e₃) (omega arith)
nodes_length (l := e) = simp (length-append, nodes_length e) (omega arith)
nodes_length (! l) = refl
nodes_length skip = refl
nodes_length (e₁ ⨾ e₂) = simp (length-append, nodes_length e₁, nodes_length e₂) (omega arith)
nodes_length (while e₁ do' e₂ done) = simp (length-append, nodes_length e₁, nodes_length e₂) (omega arith)

pub node_below : (e : Expr) {i : ℕ} {d : Expr} → Node e i d → i < size e
node_below e n = rw (nodes_length e) at (nth_below n)

-- the trees right under the root, from the left
abbrev pub children : Expr → List Expr
children (int n) = []
children (bool b) = []
children (e₁ ‹ o # i › e₂) = e₁ ∷ e₂ ∷ []
children (if e₁ then' e₂ else e₃) = e₁ ∷ e₂ ∷ e₃ ∷ []
children (l := e) = e ∷ []
children (! l) = []
children skip = []
children (e₁ ⨾ e₂) = e₁ ∷ e₂ ∷ []
children (while e₁ do' e₂ done) = e₁ ∷ e₂ ∷ []

-- `Among cs f c`: c is one of the trees cs, and those before it have f nodes together
pub data Among : List Expr → ℕ → Expr → Type 0 where
  here : {c : Expr} {cs : List Expr} → Among (c ∷ cs) 0 c
  beyond : {b c : Expr} {cs : List Expr} {f : ℕ} → Among cs f c → Among (b ∷ cs) (size b + f) c

abbrev pub sizes : List Expr → ℕ
sizes [] = 0
sizes (c ∷ cs) = size c + sizes cs

among_size : {cs : List Expr} {f : ℕ} {c : Expr} → Among cs f c → f + size c ≤ sizes cs
among_size here = omega arith
among_size (beyond a) = let h = among_size a in omega arith

-- the nodes of the trees cs, and then ds
abbrev row : List Expr → List Expr → List Expr
row [] ds = ds
row (c ∷ cs) ds = nodes c ++ row cs ds

nodes_row : (e : Expr) → nodes e ≡ row (children e) (e ∷ [])
nodes_row (int n) = refl
nodes_row (bool b) = refl
nodes_row (e₁ ‹ o # i › e₂) = simp append_assoc
nodes_row (if e₁ then' e₂ else e₃) = simp append_assoc
nodes_row (l := e) = refl
nodes_row (! l) = refl
nodes_row skip = refl
nodes_row (e₁ ⨾ e₂) = simp append_assoc
nodes_row (while e₁ do' e₂ done) = simp append_assoc

row_length : (cs ds : List Expr) → length (row cs ds) ≡ sizes cs + length ds
row_length [] ds = sym (zero-add (length ds))
row_length (c ∷ cs) ds = simp (length-append, nodes_length, row_length cs ds) (omega arith)

-- an element of a row stands in one of its trees or in the rest
row_left : {cs : List Expr} {f k : ℕ} {c d : Expr} (ds : List Expr) → Among cs f c → Node c k d → Nth (row cs ds) (f + k) d
row_left ds here n = rw zero-add (nth_left _ n)
row_left ds (beyond {b} a) n = rw (add_assoc, ← nodes_length b) (nth_right (nodes b) (row_left ds a n))

row_right : (cs : List Expr) {ds : List Expr} {i : ℕ} {d : Expr} → Nth ds i d → Nth (row cs ds) (sizes cs + i) d
row_right [] n = rw zero-add n
row_right (c ∷ cs) n = rw (add_assoc, ← nodes_length c) (nth_right (nodes c) (row_right cs n))

row_cases : (cs : List Expr) {ds : List Expr} {j : ℕ} {d : Expr} (P : ℕ → Type 0)
    → ((f k : ℕ) (c : Expr) → Among cs f c → Node c k d → P (f + k))
    → ((k : ℕ) → Nth ds k d → P (sizes cs + k))
    → Nth (row cs ds) j d → P j
row_cases [] {j} P left right n = rw zero-add at (right j n)
row_cases (c ∷ cs) {ds} {j} {d} P left right n =
    let others : (k : ℕ) → Nth (row cs ds) k d → P (size c + k) =
    λ k. row_cases cs (λ i. P (size c + i)) (λ f i b a m. rw add_assoc at (left _ i b (beyond a) m)) (λ i m. rw add_assoc at (right i m)) in
    ⊎_elim (λ m. rw zero-add at (left 0 j c here m)) (λ (k, q, m). rw (← q, nodes_length c) (others k m)) (nth_append (nodes c) (row cs ds) n)

pub size_children : (e : Expr) → size e ≡ sizes (children e) + 1
size_children e = sym (nodes_length e) ∙ ap length (nodes_row e) ∙ row_length (children e) (e ∷ [])

-- the root is the last node
pub root_stands : (e : Expr) → Node e (sizes (children e)) e
root_stands e = rw (nodes_row e) (rw add-zero at (row_right (children e) (nth_zero {d = e} {ds = []})))

pub root_node : (e : Expr) (i : ℕ) → i + 1 ≡ size e → Node e i e
root_node e i q = let s = size_children e in let r : sizes (children e) ≡ i = omega arith in rw (← r) (root_stands e)

-- the nodes of a child, and its root, in the whole
pub child_node : (e : Expr) {f k : ℕ} {c d : Expr} → Among (children e) f c → Node c k d → Node e (f + k) d
child_node e a n = rw (nodes_row e) (row_left (e ∷ []) a n)

pub child_size : (e : Expr) {f : ℕ} {c : Expr} → Among (children e) f c → f + size c < size e
child_size e a = let h = among_size a in let s = size_children e in omega arith

pub child_root : (e : Expr) {f : ℕ} {c : Expr} → Among (children e) f c → Node e (f + sizes (children c)) c
child_root e {c} a = child_node e a (root_stands c)

-- node j of e is e itself, or it is node k of a child that has f nodes before it
pub data Standing (e : Expr) : ℕ → Expr → Type 0 where
  at_root : {j : ℕ} → j + 1 ≡ size e → Standing e j e
  in_child : {f k : ℕ} {c d : Expr} → Among (children e) f c → Node c k d → Standing e (f + k) d

pub size_positive : (e : Expr) → 0 < size e
size_positive e = omega (arith, size_children e)

pub node_standing : (e : Expr) {j : ℕ} {d : Expr} → Node e j d → Standing e j d
node_standing e {d} n = row_cases (children e) (λ i. Standing e i d) (λ f k c a m. in_child a m) (λ k m. in_root m) (rw nodes_row at n)
  where
    in_root : {k : ℕ} {c : Expr} → Nth (e ∷ []) k c → Standing e (sizes (children e) + k) c
    in_root nth_zero = let s = size_children e in at_root {j = sizes (children e) + 0} (omega arith)
    in_root (nth_suc m) = elim m [ ]

-- `Each P cs`: P of each of the trees cs
infixr 5 ◌and◌
pub data Each (P : Expr → Type 0) : List Expr → Type 0 where
  nil : Each P []
  ◌and◌ : {c : Expr} {cs : List Expr} → P c → Each P cs → Each P (c ∷ cs)

pub each_among : {P : Expr → Type 0} {cs : List Expr} {f : ℕ} {c : Expr} → Each P cs → Among cs f c → P c
each_among (p and h) here = p
each_among (p and h) (beyond a) = each_among h a
each_among {P = P} {f = f} {c = c} nil x3 = elim x3 [ ]

pub among_each : {P : Expr → Type 0} (cs : List Expr) → ((f : ℕ) (c : Expr) → Among cs f c → P c) → Each P cs
among_each [] h = nil
among_each (c ∷ cs) h = h 0 c here and among_each cs (λ f b a. h (size c + f) b (beyond a))

-- what passes from the children to the whole holds of every tree
pub by_children : (P : Expr → Type 0) → ((e : Expr) → Each P (children e) → P e) → (e : Expr) → P e
by_children P s (int n) = s (int n) nil
by_children P s (bool b) = s (bool b) nil
by_children P s (e₁ ‹ o # i › e₂) = s (e₁ ‹ o # i › e₂) (by_children P s e₁ and by_children P s e₂ and nil)
by_children P s (if e₁ then' e₂ else e₃) = s (if e₁ then' e₂ else e₃) (by_children P s e₁ and by_children P s e₂ and by_children P s e₃ and nil)
by_children P s (l := e) = s (l := e) (by_children P s e and nil)
by_children P s (! l) = s (! l) nil
by_children P s skip = s skip nil
by_children P s (e₁ ⨾ e₂) = s (e₁ ⨾ e₂) (by_children P s e₁ and by_children P s e₂ and nil)
by_children P s (while e₁ do' e₂ done) = s (while e₁ do' e₂ done) (by_children P s e₁ and by_children P s e₂ and nil)

-- the nodes of d stand in e in a row that ends at node j: f nodes of e are before them
abbrev pub Spans : Expr → ℕ → Expr → Type 0
Spans e j d = (f : ℕ) × (f + size d ≡ j + 1) × ((k : ℕ) (c : Expr) → Node d k c → Node e (f + k) c)

abbrev AllSpan : Expr → Type 0
AllSpan e = (j : ℕ) (d : Expr) → Node e j d → Spans e j d

standing_spans : (e : Expr) {j : ℕ} {d : Expr} → Each AllSpan (children e) → Standing e j d → Spans e j d
standing_spans e h (at_root q) = (0, omega arith, λ k c n. rw zero-add n)
standing_spans e h (in_child {f} {k} {d} a n) =
    let (g, q, w) = each_among h a k d n in
    (f + g, omega arith, λ i b m. rw add_assoc (child_node e a (w i b m)))

pub subtree_nodes : (e : Expr) {j : ℕ} {d : Expr} → Node e j d → Spans e j d
subtree_nodes e {j} {d} n = by_children AllSpan (λ x h i b m. standing_spans x h (node_standing x m)) e j d n
