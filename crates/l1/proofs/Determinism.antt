-- Two steps from one configuration are by one rule and lead to one expression and one store.
use mathlib.Core.Path.{◌≡◌, refl, sym, ap, ◌∙◌}
use Rattle.l1.specs.Syntax.{Expr, int, bool}
use Rattle.l1.specs.Store.{Store}
use Rattle.l1.specs.Steps.{Rule, ⟨◌∣◌⟩⟶⟨◌∣◌⟩◌, op+, op≥, op1, op2, deref, assign1, assign2, seq1, seq2, if1, if2, if3, while}
use Rattle.l1.proofs.Values.{value_makes_no_step}

pub determinism : {r r' : Rule} {e e₁ e₂ : Expr} {s s₁ s₂ : Store}
    → ⟨ e ∣ s ⟩⟶⟨ e₁ ∣ s₁ ⟩ r → ⟨ e ∣ s ⟩⟶⟨ e₂ ∣ s₂ ⟩ r' → (r ≡ r') × (e₁ ≡ e₂) × (s₁ ≡ s₂)
determinism (op+ q h) (op+ q' h') = (refl, ap int (q ∙ sym q'), refl)
determinism (op+ q h) (op1 d') = elim d' [ ]
determinism (op+ q h) (op2 v d') = elim d' [ ]
determinism (op≥ q) (op≥ q') = (refl, ap bool (q ∙ sym q'), refl)
determinism (op≥ q) (op1 d') = elim d' [ ]
determinism (op≥ q) (op2 v d') = elim d' [ ]
determinism (op1 d) (op+ q h) = elim d [ ]
determinism (op1 d) (op≥ q) = elim d [ ]
determinism (op1 d) (op1 d') = let (p, q, w) = determinism d d' in (p, rw q, w)
determinism (op1 d) (op2 v d') = absurd (value_makes_no_step v d)
determinism (op2 v d) (op+ q h) = elim d [ ]
determinism (op2 v d) (op≥ q) = elim d [ ]
determinism (op2 v d) (op1 d') = absurd (value_makes_no_step v d')
determinism (op2 v d) (op2 v' d') = let (p, q, w) = determinism d d' in (p, rw q, w)
determinism (deref h q) (deref h' q') = (refl, ap int (sym q ∙ q'), refl)
determinism (assign1 h) (assign1 h') = (refl, refl, refl)
determinism (assign1 h) (assign2 d') = elim d' [ ]
determinism (assign2 d) (assign1 h') = elim d [ ]
determinism (assign2 d) (assign2 d') = let (p, q, w) = determinism d d' in (p, rw q, w)
determinism seq1 seq1 = (refl, refl, refl)
determinism seq1 (seq2 d') = elim d' [ ]
determinism (seq2 d) seq1 = elim d [ ]
determinism (seq2 d) (seq2 d') = let (p, q, w) = determinism d d' in (p, rw q, w)
determinism if1 if1 = (refl, refl, refl)
determinism if1 (if3 d') = elim d' [ ]
determinism if2 if2 = (refl, refl, refl)
determinism if2 (if3 d') = elim d' [ ]
determinism (if3 d) if1 = elim d [ ]
determinism (if3 d) if2 = elim d [ ]
determinism (if3 d) (if3 d') = let (p, q, w) = determinism d d' in (p, rw q, w)
determinism while while = (refl, refl, refl)
