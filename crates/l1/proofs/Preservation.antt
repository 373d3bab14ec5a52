-- What a step keeps: the type, the number of locations, and each location outside the write set; and no step reads or writes a new location.
use mathlib.Core.Path.{◌≡◌, refl}
use mathlib.Core.List.Memᴰ
use mathlib.Core.List.{◌++◌}
use lib.IntN.{pos}
use lib.ListN.{length, length-set}
use lib.Seq.{get_or-set_other}
use Rattle.l1.specs.Syntax.{Loc, Expr, Ty}
use Rattle.l1.specs.Store.{Store, lookup}
use Rattle.l1.specs.Typing.{TypeEnv, ◌⊢◌∶◌, t_int, t_bool, t_op+, t_op≥, t_if, t_assign, t_deref, t_skip, t_seq, t_while}
use Rattle.l1.specs.Steps.{Rule, ⟨◌∣◌⟩⟶⟨◌∣◌⟩◌, op+, op≥, op1, op2, deref, assign1, assign2, seq1, seq2, if1, if2, if3, while}
use Rattle.l1.specs.Sets.{Use, uses_of_assign, uses, writes, ◌∈◌}
use Rattle.l1.proofs.Membership.{all_of_none, all_of_both, ◌⊆◌, ⊆_same, ⊆_left, ⊆_right, ⊆_parts}

pub step_keeps_type : {Γ : TypeEnv} {T : Ty} {r : Rule} {e e' : Expr} {s s' : Store} → ⟨ e ∣ s ⟩⟶⟨ e' ∣ s' ⟩ r → Γ ⊢ e ∶ T → Γ ⊢ e' ∶ T
step_keeps_type (op+ q h) (t_op+ a b) = t_int
step_keeps_type (op≥ q) (t_op≥ a b) = t_bool
step_keeps_type (op1 d) (t_op+ a b) = t_op+ (step_keeps_type d a) b
step_keeps_type (op1 d) (t_op≥ a b) = t_op≥ (step_keeps_type d a) b
step_keeps_type (op2 v d) (t_op+ a b) = t_op+ a (step_keeps_type d b)
step_keeps_type (op2 v d) (t_op≥ a b) = t_op≥ a (step_keeps_type d b)
step_keeps_type (deref h q) (t_deref l) = t_int
step_keeps_type (assign1 h) (t_assign l a) = t_skip
step_keeps_type (assign2 d) (t_assign l a) = t_assign l (step_keeps_type d a)
step_keeps_type seq1 (t_seq a b) = b
step_keeps_type (seq2 d) (t_seq a b) = t_seq (step_keeps_type d a) b
step_keeps_type if1 (t_if a b c) = b
step_keeps_type if2 (t_if a b c) = c
step_keeps_type (if3 d) (t_if a b c) = t_if (step_keeps_type d a) b c
step_keeps_type while (t_while a b) = t_if a (t_seq b (t_while a b)) t_skip

pub step_keeps_locations : {r : Rule} {e e' : Expr} {s s' : Store} → ⟨ e ∣ s ⟩⟶⟨ e' ∣ s' ⟩ r → length s' ≡ length s
step_keeps_locations (op+ q h) = refl
step_keeps_locations (op≥ q) = refl
step_keeps_locations (op1 d) = step_keeps_locations d
step_keeps_locations (op2 v d) = step_keeps_locations d
step_keeps_locations (deref h q) = refl
step_keeps_locations (assign1 h) = simp length-set
step_keeps_locations (assign2 d) = step_keeps_locations d
step_keeps_locations seq1 = refl
step_keeps_locations (seq2 d) = step_keeps_locations d
step_keeps_locations if1 = refl
step_keeps_locations if2 = refl
step_keeps_locations (if3 d) = step_keeps_locations d
step_keeps_locations while = refl

-- the read set and the write set do not grow
pub step_keeps_uses : (u : Use) {r : Rule} {e e' : Expr} {s s' : Store} → ⟨ e ∣ s ⟩⟶⟨ e' ∣ s' ⟩ r → uses u e' ⊆ uses u e
step_keeps_uses u (op+ q h) = all_of_none
step_keeps_uses u (op≥ q) = all_of_none
step_keeps_uses u (op1 {e₂ = e₂} d) = ⊆_parts (step_keeps_uses u d) (⊆_same (uses u e₂))
step_keeps_uses u (op2 {v = v} x d) = ⊆_parts (⊆_same (uses u v)) (step_keeps_uses u d)
step_keeps_uses u (deref h q) = all_of_none
step_keeps_uses u (assign1 h) = all_of_none
step_keeps_uses u (assign2 {l = l} d) = ⊆_parts (step_keeps_uses u d) (⊆_same (uses_of_assign u l))
step_keeps_uses u (seq1 {e₂}) = ⊆_same (uses u e₂)
step_keeps_uses u (seq2 {e₂ = e₂} d) = ⊆_parts (step_keeps_uses u d) (⊆_same (uses u e₂))
step_keeps_uses u (if1 {e₂} {e₃}) = ⊆_left (uses u e₃) (⊆_same (uses u e₂))
step_keeps_uses u (if2 {e₂} {e₃}) = ⊆_right (uses u e₂) (⊆_same (uses u e₃))
step_keeps_uses u (if3 {e₂ = e₂} {e₃ = e₃} d) = ⊆_parts (⊆_parts (step_keeps_uses u d) (⊆_same (uses u e₂))) (⊆_same (uses u e₃))
step_keeps_uses u (while {e₁} {e₂}) =
    let loop = ⊆_same (uses u e₁ ++ uses u e₂) in
    let test = ⊆_left (uses u e₂) (⊆_same (uses u e₁)) in
    let body = ⊆_right (uses u e₁) (⊆_same (uses u e₂)) in
    all_of_both (all_of_both test (all_of_both body loop)) all_of_none

pub step_keeps_others : {r : Rule} {e e' : Expr} {s s' : Store} {l : Loc} → ⟨ e ∣ s ⟩⟶⟨ e' ∣ s' ⟩ r → ¬ (l ∈ writes e) → lookup s' l ≡ lookup s l
step_keeps_others (op+ q h) n = refl
step_keeps_others (op≥ q) n = refl
step_keeps_others (op1 {e₂ = e₂} d) n = step_keeps_others d (λ m. n (Memᴰ.append_left (writes e₂) m))
step_keeps_others (op2 {v = v} x d) n = step_keeps_others d (λ m. n (Memᴰ.append_right (writes v) m))
step_keeps_others (deref h q) n = refl
step_keeps_others {l = l} (assign1 {l = k} {n = z} {s = s} h) n = get_or-set_other s k l z (pos 0) (λ q. n (Memᴰ.head q))
step_keeps_others (assign2 {l = k} d) n = step_keeps_others d (λ m. n (Memᴰ.append_left _ m))
step_keeps_others seq1 n = refl
step_keeps_others (seq2 {e₂ = e₂} d) n = step_keeps_others d (λ m. n (Memᴰ.append_left (writes e₂) m))
step_keeps_others if1 n = refl
step_keeps_others if2 n = refl
step_keeps_others (if3 {e₂ = e₂} {e₃ = e₃} d) n = step_keeps_others d (λ m. n (Memᴰ.append_left (writes e₃) (Memᴰ.append_left (writes e₂) m)))
step_keeps_others while n = refl
