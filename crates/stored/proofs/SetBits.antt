-- The two words of the check's answer, bit by bit: bit l is 1 exactly where location l is in the set of the routine's tree, and else 0.
use Prim.Native.Nat.{ℕ}
use mathlib.Core.Path.{◌≡◌, refl}
use mathlib.Core.Logic.{◌↔◌}
use mathlib.Core.List.{List}
use Rattle.l1.specs.Syntax.{Loc, Expr, Ty}
use Rattle.l1.specs.Sets.{Use, reading, writing, uses, reads, writes, ◌∈◌, word, bit}
use Rattle.l1.proofs.SetWords.{bit_of_member, bit_of_other, member_of_bit}
use Rattle.stored.specs.Refusals.{Holds}
use Rattle.stored.specs.Answers.{tells, Checks, check_tells}
use Rattle.stored.proofs.Reader.{holds_unique}

-- the word of a use: R of reading, S of writing
abbrev pub word_of : Use → ℕ → ℕ → ℕ
word_of reading R S = R
word_of writing R S = S

both_words : (u : Use) (e : Expr) → word_of u (word (reads e)) (word (writes e)) ≡ word (uses u e)
both_words reading e = refl
both_words writing e = refl

pub record BitTells (w : ℕ) (l : Loc) (ls : List Loc) : Type 0 where
  pub is_1 : (bit w l ≡ 1) ↔ (l ∈ ls)
  pub else_0 : ¬ (l ∈ ls) → bit w l ≡ 0

pub bits_of_sets : {b : List ℕ} {T : Ty} {W R S : ℕ} {e : Expr} → Checks b (tells T W R S) → Holds b e
    → (u : Use) (l : Loc) → BitTells (word_of u R S) l (uses u e)
bits_of_sets {b} (check_tells {e} none h t) h' u l =
    rw (both_words u e, holds_unique b h' h) (record { is_1 = (member_of_bit, bit_of_member); else_0 = bit_of_other })
