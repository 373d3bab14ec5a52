-- The text of a node by its form and by the texts of its children, which stand before it; l, x, y and z are what the code reads of the node.
use Prim.Native.Nat.{ℕ, ◌<◌}
use mathlib.Core.Path.{◌≡◌, refl, ◌∙◌, ap}
use mathlib.Core.List.{List, ◌++◌, append_assoc}
use Rattle.l1.specs.Text.{bytes, location, text}
use Rattle.stored.specs.Layout.{arg, child1, child2, child3}
use Rattle.stored.specs.Reader.{tree_at}
use Rattle.stored.specs.Refusals.{count}
use Rattle.routine.specs.Forms.{make, Before}
use Rattle.routine.specs.Open.{IsOpen}
use Rattle.routine.specs.declared.Sizes.{Sizes}
use Rattle.routine.specs.declared.Form.{Form}
use Rattle.routine.specs.declared.Form.TheVariants.{If, Assign, While}
use Rattle.routine.proofs.Standing.{nodes_stand}
use Rattle.routine.proofs.Made as m
use Rattle.node_text.specs.Texts.{form_at, text_at, form_with, sign_text, branches}
use Rattle.node_text.specs.declared.Sign.{Sign}
use Rattle.node_text.specs.declared.Sign.TheVariants.{Plus, Geq, Seq}

regroup_two : (a x s y z : List ℕ) → a ++ x ++ s ++ y ++ z ≡ a ++ x ++ s ++ (y ++ z)
regroup_two a x s y z = simp append_assoc

regroup_if : (a x t y e w z : List ℕ) → a ++ x ++ t ++ y ++ e ++ w ++ z ≡ a ++ x ++ (t ++ y ++ e ++ w ++ z)
regroup_if a x t y e w z = simp append_assoc

module _ {b : List ℕ} {z : Sizes} (o : IsOpen b z) {i : ℕ} (h : i < count b) where
  pub form_text : {F : Form} → form_at b i ≡ F → text_at b i ≡ text (make F b i (tree_at b))
  form_text e = ap text (rw e at (m.made b (nodes_stand o.opens o.holds i h)))

  pub children : {F : Form} → form_at b i ≡ F → Before F b i
  children e = rw e at (m.before b (nodes_stand o.opens o.holds i h))

  pub two_children : (s : Sign) → form_at b i ≡ form_with s → (child1 b i < i) × (child2 b i < i)
  two_children Plus e = children e
  two_children Geq e = children e
  two_children Seq e = children e

  module _ {x : ℕ} (p : x ≡ child1 b i) where
    pub assign_text : {l : ℕ} → l ≡ arg b i → form_at b i ≡ Assign → text_at b i ≡ (bytes "(" ++ location l ++ bytes " := ") ++ (text_at b x ++ bytes ")")
    unfolding text
    assign_text a e = rw (a, p) (form_text e ∙ append_assoc (bytes "(" ++ location (arg b i) ++ bytes " := ") (text_at b (child1 b i)) (bytes ")"))

    module _ {y : ℕ} (q : y ≡ child2 b i) where
      pieces : {F : Form} (sign : List ℕ) → form_at b i ≡ F
          → text (make F b i (tree_at b)) ≡ bytes "(" ++ text_at b (child1 b i) ++ sign ++ text_at b (child2 b i) ++ bytes ")"
          → text_at b i ≡ bytes "(" ++ text_at b x ++ sign ++ (text_at b y ++ bytes ")")
      pieces sign e t = rw (p, q) (form_text e ∙ t ∙ regroup_two (bytes "(") (text_at b (child1 b i)) sign (text_at b (child2 b i)) (bytes ")"))

      -- two parts with a sign between them
      pub two_text : (s : Sign) → form_at b i ≡ form_with s → text_at b i ≡ bytes "(" ++ text_at b x ++ sign_text s ++ (text_at b y ++ bytes ")")
      unfolding text
      two_text Plus e = pieces (bytes " + ") e refl
      two_text Geq e = pieces (bytes " >= ") e refl
      two_text Seq e = pieces (bytes " ; ") e refl

      pub while_text : form_at b i ≡ While → text_at b i ≡ bytes "(while " ++ text_at b x ++ bytes " do " ++ text_at b y ++ bytes " done)"
      unfolding text
      while_text e = rw (p, q) (form_text e)

      pub if_text : {w : ℕ} → w ≡ child3 b i → form_at b i ≡ If → text_at b i ≡ bytes "(if " ++ text_at b x ++ branches b y w
      unfolding text
      if_text r e =
          rw (p, q, r)
          (form_text e
          ∙ regroup_if (bytes "(if ") (text_at b (child1 b i)) (bytes " then ") (text_at b (child2 b i)) (bytes " else ") (text_at b (child3 b i)) (bytes ")"))
