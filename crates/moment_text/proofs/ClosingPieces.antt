-- What closes the if that a loop became, in the pieces that are written.
use Prim.Native.Nat.{ℕ, ◌+◌}
use mathlib.Core.Path.{◌≡◌, ◌∙◌, ap}
use mathlib.Core.List.{List, ◌++◌, append_assoc}
use lib.ListN.{length, length-append}
use Rattle.l1.specs.Text.{bytes, text}
use Rattle.stored.specs.Layout.{child2}
use Rattle.machine.specs.State.{context_of}
use Rattle.machine.specs.declared.state.Place.TheVariants.{Again}
use Rattle.node_text.specs.Texts.{text_at}
use Rattle.moment_text.specs.Around.{closing}

regroup_again : (a o t s u z e k : List ℕ) → a ++ (o ++ t ++ s ++ u ++ z) ++ e ++ k ++ z ≡ a ++ o ++ t ++ (s ++ u ++ z) ++ (e ++ k ++ z)
regroup_again a o t s u z e k = simp append_assoc

-- x is the body that the code reads
pub again_pieces : (b : List ℕ) (i : ℕ) {x : ℕ} → x ≡ child2 b i
    → closing (context_of b (Again i)) ≡ bytes " then (" ++ text_at b x ++ (bytes " ; " ++ text_at b i ++ bytes ")") ++ bytes " else skip)"
unfolding text
again_pieces b i e =
    rw e
    (regroup_again (bytes " then ") (bytes "(") (text_at b (child2 b i)) (bytes " ; ") (text_at b i) (bytes ")") (bytes " else ") (bytes "skip"))

pub again_length : (b : List ℕ) (i : ℕ) {x : ℕ} → x ≡ child2 b i
    → length (closing (context_of b (Again i))) ≡ 7 + length (text_at b x) + (3 + length (text_at b i) + 1) + 11
again_length b i e = ap length (again_pieces b i e) ∙ simp length-append
