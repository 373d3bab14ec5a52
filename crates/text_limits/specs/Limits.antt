-- What is said of a text of the form by the pass that looks for large numbers, and by the one that counts nodes. Of any other text they say nothing.
use Rattle.std.specs.Prelude.{ℕ, ◌≡◌, List, Option, Some, None}
use Rattle.l1.specs.Syntax.{Expr}
use Rattle.l1.specs.Measures.{size}
use Rattle.l1.specs.Text.{text}
use Rattle.text_form.specs.Numbers.{LargeInteger, LargeLocation, Foremost}
use Rattle.text_limits.specs.declared.Numbers.{Numbers}
use Rattle.text_limits.specs.declared.Numbers.TheVariants.{Locations, Integers}

-- 52 of the locations, 51 of the integers
abbrev pub Large : Numbers → Expr → ℕ → Type 0
Large Locations e = LargeLocation e
Large Integers e = LargeInteger e

pub data Finds (t : List ℕ) (n : Numbers) : Option ℕ → Type 0 where
  finds_first : {i : ℕ} → ((e : Expr) → t ≡ text e → Foremost (Large n e) i) → Finds t n (Some i)
  finds_none : ((e : Expr) → t ≡ text e → (j : ℕ) → ¬ Large n e j) → Finds t n None

pub record Counts (t : List ℕ) (n : ℕ) : Type 0 where
  pub nodes : (e : Expr) → t ≡ text e → n ≡ size e
