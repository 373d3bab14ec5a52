-- Nodes, one behind the other, and the tree at the end.
use Prim.Native.Nat.{ℕ, suc, ◌+◌, ◌-◌, ◌*◌, ◌/◌, ◌<◌}
use native.Mathlib.Omega.{arith}
use mathlib.Core.Path.{◌≡◌, refl, ◌∙◌, ap}
use mathlib.Core.List.{List, [], ◌∷◌, ◌++◌, append_assoc}
use mathlib.Core.Logic.{inl, inr}
use mathlib.Core.Option.{Option}
use borrow.Author.Tests.{lt-ltb, le-ltb}
use lib.ListN.{length, set, length-append}
use lib.Seq.{sets, sets-eq, length-sets, drop-drop}
use borrow.Rule.Slice.PartMut.{put_mid}
use Rattle.std.specs.Prelude.{Some, None}
use Rattle.std.specs.Prelude as S
use Rattle.l1.specs.Syntax.{Expr, if◌then'◌else◌, ◌:=◌, while◌do'◌done}
use Rattle.l1.specs.Measures.{size}
use Rattle.stored.specs.Stored.{node_bytes, bytes_from}
use Rattle.stored.proofs.ReadBack.{nodes_bytes}
use Rattle.text_form.specs.Parser.{two_parts, Parsed, noded}
use Rattle.routine.specs.Forms.{kind_of}
use Rattle.routine.specs.declared.Form.{Form}
use Rattle.descent.specs.Found.{left, expr_of, TwoSides, Noding, Read, Reading, place_of, Rooted, Reads}
use Rattle.descent.specs.Forms.{cap_of}
use Rattle.descent.specs.declared.forms.Descent.{Descent}
use Rattle.descent.specs.declared.Place.{Place}
use Rattle.descent.specs.declared.text.Leaf.{Leaf}
use Rattle.descent.specs.declared.text.Leaf.TheVariants.{Integer, Boolean, Location, Skip}
use Rattle.descent.specs.declared.text.Text.{Text}

sets_append : (a l : List ℕ) (i : ℕ) (b : List ℕ) → sets (sets l i a) (i + length a) b ≡ sets l i (a ++ b)
sets_append [] l i b = let z : i + 0 ≡ i = omega arith in rw z refl
sets_append (x ∷ a) l i b = let z : i + suc (length a) ≡ suc i + length a = omega arith in rw z (sets_append a (set l i x) (suc i) b)

-- the eight bytes of one more
pub put_is : (d : Descent) {ys w : List ℕ} {d' : Descent} → d.count < length d.nodes.now / 8 → ys ≡ w → length w ≡ 8
    → d'.nodes.now ≡ put_mid (8 * d.count) (8 * d.count + 8 - 8 * d.count) d.nodes.now ys → d'.count ≡ d.count + 1 → d'.nodes.ghost_name ≡ d.nodes.ghost_name
    → d'.text ≡ d.text → Noding d w (Some d.count) d'
put_is d {ys} {w} {d'} l y n b k g u =
    let e : 8 * d.count + 8 - 8 * d.count ≡ length w = omega arith in
    let h : d'.nodes.now ≡ sets d.nodes.now (8 * d.count) w =
    b ∙ rw (y, e, drop-drop (length w) (8 * d.count) d.nodes.now, sets-eq w d.nodes.now (8 * d.count) (omega arith)) (simp append_assoc) in
    record { text = u; slice = g; kept = ap length h ∙ length-sets d.nodes.now (8 * d.count) w; found = record { room = l; held = h; next = k; root = refl } }

-- the bytes ws stand from node f to node n
pub record Written (nodes : List ℕ) (f : ℕ) (ws nodes' : List ℕ) (n : ℕ) : Type 0 where
  pub held : nodes' ≡ sets nodes (8 * f) ws
  pub long : 8 * f + length ws ≡ 8 * n

pub nothing_yet : (nodes : List ℕ) (f : ℕ) → Written nodes f [] nodes f
nothing_yet nodes f = record { held = refl; long = omega arith }

pub one_more : {t nodes nodes₁ nodes₂ ws : List ℕ} {f n : ℕ} {o : Option Parsed} {r : Place} → Written nodes f ws nodes₁ n → (R : Read t nodes₁ n o nodes₂ r)
    → Written nodes f (ws ++ bytes_from n R.expr) nodes₂ r.node
one_more {nodes = nodes} {ws = ws} {f = f} {n = n} w R =
    let l = w.long in let k = R.count in
    record {
      held = R.held ∙ rw (w.held, ← w.long) (sets_append ws nodes (8 * f) (bytes_from n R.expr));
      long = simp length-append (omega (arith, nodes_bytes R.expr n));
    }

-- and the root behind them
pub closes : {d n d' : Descent} {o : Option Parsed} {ws b : List ℕ} (r : S.Option ℕ) (e : Expr)
    → Written d.nodes.now d.count ws n.nodes.now n.count → bytes_from d.count e ≡ ws ++ b → n.count + 1 ≡ d.count + size e
    → n.nodes.ghost_name ≡ d.nodes.ghost_name → n.text.bytes.now ≡ d.text.bytes.now → o ≡ noded (cap_of d) n.count e (left n.text) → Noding n b r d' → Reads d o r d'
unfolding noded
closes {d} {n} {d'} {o} {ws} {b} None e w hb s g u h N =
    let k : length n.nodes.now ≡ length d.nodes.now = ap length w.held ∙ length-sets d.nodes.now (8 * d.count) ws in
    let a = rw k at N.found in
    record { text = ap (λ (t : Text). t.bytes.now) N.text ∙ u; slice = N.slice ∙ g; kept = N.kept ∙ k; found = h ∙ rw (le-ltb n.count (cap_of d) a) refl }
closes {d} {n} {d'} {o} {ws} {b} (Some x) e w hb s g u h N =
    let k : length n.nodes.now ≡ length d.nodes.now = ap length w.held ∙ length-sets d.nodes.now (8 * d.count) ws in
    let F = N.found in
    let y = rw k at F.room in
    let i = n.text.inside in
    let m = F.next in
    let c = F.root in
    record {
      text = ap (λ (t : Text). t.bytes.now) N.text ∙ u;
      slice = N.slice ∙ g;
      kept = N.kept ∙ k;
      found = record {
        read = record {
          expr = e;
          is = h ∙ rw (lt-ltb n.count (cap_of d) y, m, N.text, ← u) refl;
          inside = rw (N.text, ← u) i;
          held = F.held ∙ rw (w.held, hb, ← w.long) (sets_append ws d.nodes.now (8 * d.count) b);
          count = omega arith;
          room = omega arith;
        };
        root = omega arith;
      };
    }

-- what is read from one state is read from another with the same text, slice and node, where it is the same expression
pub same_start : {d n d' : Descent} {o o' : Option Parsed} (r : S.Option ℕ) → n.text.bytes.now ≡ d.text.bytes.now → n.nodes ≡ d.nodes → n.count ≡ d.count → o ≡ o'
    → Reads n o' r d' → Reads d o r d'
same_start None u m k h R = record { text = R.text ∙ u; slice = rw (← m) R.slice; kept = rw (← m) R.kept; found = h ∙ R.found }
same_start (Some x) u m k h R =
    let F = R.found in
    record { text = R.text ∙ u; slice = rw (← m) R.slice; kept = rw (← m) R.kept; found = record { read = rw (h, ← u, ← m, ← k) F.read; root = F.root } }

-- the numbers that a part leaves: its root is the last of its nodes
pub record Counts (f : ℕ) (e : Expr) (n a : ℕ) : Type 0 where
  pub count : n ≡ f + size e
  pub root : a + 1 ≡ n

pub counts : {d d' : Descent} {o : Option Parsed} {a : ℕ} (R : Rooted d o a d') → Counts d.count R.read.expr d'.count a
counts R = record { count = R.read.count; root = R.root }

at_root : {f n a : ℕ} {e : Expr} → Counts f e n a → a ≡ f + size e - 1
at_root x = let i = x.count in let j = x.root in omega arith

pub if_bytes : {f n m k a b c : ℕ} {e₁ e₂ e₃ : Expr} → Counts f e₁ n a → Counts n e₂ m b → Counts m e₃ k c
    → bytes_from f (if e₁ then' e₂ else e₃) ≡ ((bytes_from f e₁ ++ bytes_from n e₂) ++ bytes_from m e₃) ++ node_bytes 4 0 a b c
unfolding bytes_from
if_bytes x y z = rw (at_root x, at_root y, at_root z, y.count, x.count) (simp append_assoc)

pub assign_bytes : {f n a : ℕ} {e : Expr} (l : ℕ) → Counts f e n a → bytes_from f (l := e) ≡ bytes_from f e ++ node_bytes 5 l a 0 0
unfolding bytes_from
assign_bytes l x = rw (at_root x) refl

pub while_bytes : {f n m a b : ℕ} {e₁ e₂ : Expr} → Counts f e₁ n a → Counts n e₂ m b
    → bytes_from f (while e₁ do' e₂ done) ≡ (bytes_from f e₁ ++ bytes_from n e₂) ++ node_bytes 9 0 a b 0
unfolding bytes_from
while_bytes x y = rw (at_root x, at_root y, x.count) (simp append_assoc)

pub sides_bytes : {f n m a b : ℕ} {e₁ e₂ : Expr} (s : Form) → TwoSides s → Counts f e₁ n a → Counts n e₂ m b
    → bytes_from f (two_parts (kind_of s) m e₁ e₂) ≡ (bytes_from f e₁ ++ bytes_from n e₂) ++ node_bytes (kind_of s) 0 a b 0
unfolding bytes_from two_parts
sides_bytes s (inl h) x y = rw (h, at_root x, at_root y, x.count) (simp append_assoc)
sides_bytes s (inr (inl h)) x y = rw (h, at_root x, at_root y, x.count) (simp append_assoc)
sides_bytes s (inr (inr h)) x y = rw (h, at_root x, at_root y, x.count) (simp append_assoc)

pub two_size : {n : ℕ} (f : ℕ) (s : Form) (m : ℕ) (e₁ e₂ : Expr) → TwoSides s → n ≡ f + size e₁ + size e₂ → n + 1 ≡ f + size (two_parts (kind_of s) m e₁ e₂)
unfolding two_parts
two_size f s m e₁ e₂ (inl h) x = rw h (omega arith)
two_size f s m e₁ e₂ (inr (inl h)) x = rw h (omega arith)
two_size f s m e₁ e₂ (inr (inr h)) x = rw h (omega arith)

pub leaf_size : (l : Leaf) (f : ℕ) → f + 1 ≡ f + size (expr_of l)
leaf_size (Integer n) f = refl
leaf_size (Boolean b) f = refl
leaf_size (Location l) f = refl
leaf_size Skip f = refl

-- ---- from a place on

pub from_place : {d d' : Descent} {nodes' : List ℕ} {o : Option Parsed} {x : ℕ} → Reads d o (Some x) d' → nodes' ≡ d'.nodes.now
    → Reading d.text.bytes.now d.nodes.now d.count o nodes' (Some (place_of d'))
from_place R h = record { kept = ap length h ∙ R.kept; found = rw h R.found.read }
