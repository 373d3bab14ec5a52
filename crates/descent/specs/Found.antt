-- What the parts of the descent find, held against what Parser.antt computes of the bytes that are left of the text.
use Rattle.std.specs.Prelude.{ℕ, ◌+◌, ◌*◌, ◌/◌, ◌≤◌, ◌<◌, ◌≡◌, ◌⊎◌, List, length, drop, Option, Some, None, MatchOption}
use Rattle.std.proofs.Math.Option as M
use Rattle.std.proofs.lemmas.List.Edits.{sets}
use Rattle.l1.specs.Syntax.{Expr, int, bool, !◌, skip}
use Rattle.l1.specs.Measures.{size}
use Rattle.stored.specs.Stored.{bytes_from}
use Rattle.text_form.specs.Parser as p
use Rattle.routine.specs.declared.Form.{Form}
use Rattle.routine.specs.declared.Form.TheVariants.{Plus, Geq, Seq}
use Rattle.descent.specs.declared.Place.{Place}
use Rattle.descent.specs.declared.forms.Descent.{Descent}
use Rattle.descent.specs.declared.text.Leaf.{Leaf}
use Rattle.descent.specs.declared.text.Leaf.TheVariants.{Integer, Boolean, Location, Skip}
use Rattle.descent.specs.declared.text.Text.{Text}

-- the bytes that are left of a text
abbrev pub left : Text → List ℕ
left s = drop s.at s.bytes.now

-- o is what `make` makes of what was found, or none where nothing was
abbrev pub Found : {A B : Type 0} → M.Option A → Option B → (B → A) → Type 0
Found o None make = o ≡ M.none
Found o (Some x) make = o ≡ M.some (make x)

-- an expression without parts
abbrev pub expr_of : Leaf → Expr
expr_of (Integer n) = int n
expr_of (Boolean b) = bool b
expr_of (Location l) = ! l
expr_of Skip = skip

-- the forms that have two parts
abbrev pub TwoSides : Form → Type 0
TwoSides f = (f ≡ Plus) ⊎ ((f ≡ Geq) ⊎ (f ≡ Seq))

-- one node more with the bytes w, where the slice has room for it
pub record Noded (d : Descent) (w : List ℕ) (n : ℕ) (d' : Descent) : Type 0 where
  pub room : d.count < length d.nodes.now / 8
  pub held : d'.nodes.now ≡ sets d.nodes.now (8 * d.count) w
  pub next : d'.count ≡ d.count + 1
  pub root : n ≡ d.count

pub record Noding (d : Descent) (w : List ℕ) (r : Option ℕ) (d' : Descent) : Type 0 where
  pub text : d'.text ≡ d.text
  pub slice : d'.nodes.ghost_name ≡ d.nodes.ghost_name
  pub kept : length d'.nodes.now ≡ length d.nodes.now
  pub found : MatchOption r (length d.nodes.now / 8 ≤ d.count) (λ n. Noded d w n d')

-- the expression that o is, its nodes numbered from f on
pub record Read (t nodes : List ℕ) (f : ℕ) (o : M.Option p.Parsed) (nodes' : List ℕ) (r : Place) : Type 0 where
  pub expr : Expr
  pub is : o ≡ M.some (p.parsed expr r.node (drop r.at t))
  pub inside : r.at ≤ length t
  pub held : nodes' ≡ sets nodes (8 * f) (bytes_from f expr)
  pub count : r.node ≡ f + size expr
  pub room : r.node ≤ length nodes / 8

pub record Reading (t nodes : List ℕ) (f : ℕ) (o : M.Option p.Parsed) (nodes' : List ℕ) (r : Option Place) : Type 0 where
  pub kept : length nodes' ≡ length nodes
  pub found : MatchOption r (o ≡ M.none) (λ q. Read t nodes f o nodes' q)

-- the same in a descent, and the number of the root
abbrev pub place_of : Descent → Place
place_of d = record { at = d.text.at; node = d.count }

pub record Rooted (d : Descent) (o : M.Option p.Parsed) (n : ℕ) (d' : Descent) : Type 0 where
  pub read : Read d.text.bytes.now d.nodes.now d.count o d'.nodes.now (place_of d')
  pub root : n + 1 ≡ d'.count

pub record Reads (d : Descent) (o : M.Option p.Parsed) (r : Option ℕ) (d' : Descent) : Type 0 where
  pub text : d'.text.bytes.now ≡ d.text.bytes.now
  pub slice : d'.nodes.ghost_name ≡ d.nodes.ghost_name
  pub kept : length d'.nodes.now ≡ length d.nodes.now
  pub found : MatchOption r (o ≡ M.none) (λ n. Rooted d o n d')
