-- The contracts of the exported functions leave one answer: what is returned, the words lent, and the store or the buffer.
use Prim.Native.Nat.{ℕ}
use mathlib.Core.Path.{◌≡◌, sym, ap, ◌∙◌}
use mathlib.Core.List.{List}
use Rattle.l1.specs.Store.{Store}
use Rattle.stored.proofs.OneAnswer.{checks_unique, writes_unique}
use Rattle.runner.proofs.OneAnswer.{one_run}
use Rattle.exports.specs.declared.Answer.{Answer}
use Rattle.exports.specs.Says.{Handed, answer_of, out_of, Says, SaysCheck, SaysRun, SaysText}

-- where what is allowed is one, so is what is said
pub one_said : {A : Type 0} {allowed allowed' : A → Type 0} {told : A → Handed} {out o o' : List ℕ} {r r' : Answer}
    → (x : Says allowed told out r o) (y : Says allowed' told out r' o') → x.answer ≡ y.answer → (r ≡ r') × (o ≡ o')
one_said {A = A} {told = told} {out = out} x y q = (
  x.is_returned ∙ ap (λ (a : A). answer_of (told a)) q ∙ sym y.is_returned,
  x.is_left ∙ ap (λ (a : A). out_of (told a) out) q ∙ sym y.is_left,
)

pub one_exported_check : {b out o o' : List ℕ} {r r' : Answer} → SaysCheck b out r o → SaysCheck b out r' o' → (r ≡ r') × (o ≡ o')
one_exported_check {b} x y = one_said x y (checks_unique b x.is_allowed y.is_allowed)

pub one_exported_run : {b out o o' : List ℕ} {s s₁ s₂ : Store} {f : ℕ} {r r' : Answer}
    → SaysRun b s f out r o s₁ → SaysRun b s f out r' o' s₂ → ((r ≡ r') × (o ≡ o')) × (s₁ ≡ s₂)
one_exported_run x y =
    let (q, p) = one_run {r = x.answer} {r' = y.answer} x.is_allowed y.is_allowed in
    (one_said x y q, p)

pub one_exported_text : {b buf buf₁ buf₂ out o o' : List ℕ} {s : Store} {k : ℕ} {r r' : Answer}
    → SaysText b s k buf out r o buf₁ → SaysText b s k buf out r' o' buf₂ → ((r ≡ r') × (o ≡ o')) × (buf₁ ≡ buf₂)
one_exported_text {b} x y = let (q, p) = writes_unique b x.is_allowed y.is_allowed in (one_said x y q, p)
