-- The contract of `open` leaves one answer: any two that it allows for the same bytes are the same.
use Prim.Native.Nat.{ℕ}
use mathlib.Core.Path.{◌≡◌, ap, sym, ◌∙◌}
use mathlib.Core.List.{List}
use Rattle.std.specs.Prelude.{Result, Ok, Err, IfOk}
use Rattle.stored.specs.Answers.{Opening}
use Rattle.stored.proofs.OneAnswer.{opening_unique}
use Rattle.routine.specs.Says.{refusal_of}
use Rattle.routine.specs.declared.Refusal.{Refusal}
use Rattle.routine.proofs.RefusalNames.{refusal_unique}
use Rattle.opener.specs.Says.{opened_of}

-- what opens is the routine that the bytes are
abbrev pub Itself : List ℕ → Result (List ℕ) Refusal → Type 0
Itself b r = IfOk r (λ row. row ≡ b)

opened_unique : (b : List ℕ) (r r' : Result (List ℕ) Refusal) → Itself b r → Itself b r' → opened_of r ≡ opened_of r' → r ≡ r'
opened_unique b (Err r) (Err r') i i' e = let q : refusal_of r ≡ refusal_of r' = cc in ap Err (refusal_unique q)
opened_unique b (Err r) (Ok x) i i' e = cc
opened_unique b (Ok x) (Err r) i i' e = cc
opened_unique b (Ok x) (Ok x') i i' e = ap Ok (i ∙ sym i')

pub one_opening : {b : List ℕ} {r r' : Result (List ℕ) Refusal} → Opening b (opened_of r) → Opening b (opened_of r')
    → Itself b r → Itself b r' → r ≡ r'
one_opening {b} {r} {r'} o o' i i' = opened_unique b r r' i i' (opening_unique b o o')
