-- The contract of `text` leaves one answer and one buffer: any two that it allows for the same bytes, store, steps and buffer are the same.
use Prim.Native.Nat.{ℕ}
use mathlib.Core.Path.{◌≡◌, ap}
use mathlib.Core.List.{List}
use Rattle.std.specs.Prelude.{Result, Ok, Err}
use Rattle.l1.specs.Store.{Store}
use Rattle.stored.specs.Answers.{Writes}
use Rattle.stored.proofs.OneAnswer.{writes_unique}
use Rattle.routine.specs.declared.Refusal.{Refusal}
use Rattle.routine.specs.Says.{refusal_of}
use Rattle.routine.proofs.RefusalNames.{refusal_unique}
use Rattle.text_after.specs.Says.{wrote_of}
use Rattle.text_after.specs.declared.Written.{Written}

wrote_unique : (r r' : Result Written Refusal) → wrote_of r ≡ wrote_of r' → r ≡ r'
wrote_unique (Err r) (Err r') e = let q : refusal_of r ≡ refusal_of r' = cc in ap Err (refusal_unique q)
wrote_unique (Err r) (Ok t) e = cc
wrote_unique (Ok t) (Err r) e = cc
wrote_unique (Ok t) (Ok t') e =
    let n : t.length ≡ t'.length = cc in
    let k : t.steps ≡ t'.steps = cc in
    λ i. Ok (record { length = n i; steps = k i })

pub one_text : {b : List ℕ} {s : Store} {k : ℕ} {buffer buffer₁ buffer₂ : List ℕ} {r r' : Result Written Refusal}
    → Writes b s k buffer (wrote_of r) buffer₁ → Writes b s k buffer (wrote_of r') buffer₂ → (r ≡ r') × (buffer₁ ≡ buffer₂)
one_text {b} {r = r} {r' = r'} x x' = let (q, w) = writes_unique b x x' in (wrote_unique r r' q, w)
