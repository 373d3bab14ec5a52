-- Each form with parts by itself, from behind its bracket on, as the code reads it. The laws hold them against form_of in text_form's Parser.
use Rattle.std.specs.Prelude.{ℕ, ◌+◌, ◌/◌, List, length}
use Rattle.std.proofs.Math.Option.{Option}
use Rattle.l1.specs.Syntax.{if◌then'◌else◌, ◌:=◌, while◌do'◌done}
use Rattle.l1.specs.Text.{bytes}
use Rattle.text_form.specs.Parser.{on, behind, number, sides_joint, two_parts, Parsed, noded, besides}
use Rattle.descent.specs.declared.forms.Descent.{Descent}

-- for how many nodes the slice has room
abbrev pub cap_of : Descent → ℕ
cap_of d = length d.nodes.now / 8

-- an expression behind the word w
unfoldable pub part_of : (ℕ → ℕ → List ℕ → Option Parsed) → List ℕ → ℕ → ℕ → List ℕ → Option Parsed
part_of sub w k f u = on (behind w u) (λ v. sub k f v)

-- the parts of a form, read by `sub` with so many places; k are those of a part inside the form
module _ (cap : ℕ) (sub : ℕ → ℕ → List ℕ → Option Parsed) (k : ℕ) where
  unfoldable pub if_of : ℕ → List ℕ → Option Parsed
  if_of f u =
      on (part_of sub (bytes "if ") k f u) (λ a.
      on (part_of sub (bytes " then ") (1 + k) a.node a.left) (λ b.
      on (part_of sub (bytes " else ") (1 + k) b.node b.left) (λ c.
      on (behind (bytes ")") c.left) (λ v.
      noded cap c.node (if a.expr then' b.expr else c.expr) v))))

  unfoldable pub while_of : ℕ → List ℕ → Option Parsed
  while_of f u =
      on (part_of sub (bytes "while ") k f u) (λ a.
      on (part_of sub (bytes " do ") k a.node a.left) (λ b.
      on (behind (bytes " done)") b.left) (λ v.
      noded cap b.node (while a.expr do' b.expr done) v)))

  unfoldable pub assign_of : ℕ → List ℕ → Option Parsed
  assign_of f u =
      on (behind (bytes "l") u) (λ v.
      on (number 255 v) (λ l.
      on (part_of sub (bytes " := ") k f l.left) (λ a.
      on (behind (bytes ")") a.left) (λ w.
      noded cap a.node (l.value := a.expr) w))))

  unfoldable pub sides_of : ℕ → List ℕ → Option Parsed
  sides_of f u =
      on (sub k f u) (λ a.
      on (sides_joint a.left) (λ j.
      on (sub (besides k j.kind) a.node j.left) (λ b.
      on (behind (bytes ")") b.left) (λ v.
      noded cap b.node (two_parts j.kind b.node a.expr b.expr) v))))
