-- 01's refusals on type, 20 to 23, said of the tree: which node's own rule fails, by which number, and which of them is given.
use Rattle.std.specs.Prelude.{ℕ, zero, suc, ◌<◌, ◌≡◌, List, [], ◌∷◌, ◌++◌}
use Rattle.l1.specs.Syntax.{Op, Loc, Expr, int, bool, ◌‹◌#◌›◌, if◌then'◌else◌, ◌:=◌, !◌, skip, ◌⨾◌, while◌do'◌done, Ty, ty_int, ty_bool, ty_unit}
use Rattle.l1.specs.Typing.{TypeEnv, ◌declares◌, ◌⊢◌∶◌}

-- "Nodes stand in post-order": node i is element i of this list, and the root is the last
abbrev pub nodes : Expr → List Expr
nodes (int n) = int n ∷ []
nodes (bool b) = bool b ∷ []
nodes (e₁ ‹ o # i › e₂) = nodes e₁ ++ nodes e₂ ++ (e₁ ‹ o # i › e₂) ∷ []
nodes (if e₁ then' e₂ else e₃) = nodes e₁ ++ nodes e₂ ++ nodes e₃ ++ (if e₁ then' e₂ else e₃) ∷ []
nodes (l := e) = nodes e ++ (l := e) ∷ []
nodes (! l) = (! l) ∷ []
nodes skip = skip ∷ []
nodes (e₁ ⨾ e₂) = nodes e₁ ++ nodes e₂ ++ (e₁ ⨾ e₂) ∷ []
nodes (while e₁ do' e₂ done) = nodes e₁ ++ nodes e₂ ++ (while e₁ do' e₂ done) ∷ []

-- `Nth ds i d`: element i of ds, from 0, is d
pub data Nth : List Expr → ℕ → Expr → Type 0 where
  nth_zero : {d : Expr} {ds : List Expr} → Nth (d ∷ ds) zero d
  nth_suc : {d c : Expr} {ds : List Expr} {i : ℕ} → Nth ds i d → Nth (c ∷ ds) (suc i) d

-- `Node e i d`: the subtree d stands at node i of e
abbrev pub Node : Expr → ℕ → Expr → Type 0
Node e i d = Nth (nodes e) i d

-- each operator carries the number of its own node
pub record Numbered (e : Expr) : Type 0 where
  pub own_number : {i j : ℕ} {o : Op} {e₁ e₂ : Expr} → Node e i (e₁ ‹ o # j › e₂) → j ≡ i

-- the rule of the form e itself fails, by the number c
pub data Fails (Γ : TypeEnv) : Expr → ℕ → Type 0 where
  -- 20: undeclared location
  undeclared_assign : {l : Loc} {e : Expr} → ¬ (Γ declares l) → Fails Γ (l := e) 20
  undeclared_deref : {l : Loc} → ¬ (Γ declares l) → Fails Γ (! l) 20
  -- 21: first child has a type its rule doesn't allow
  first_op : {o : Op} {i : ℕ} {e₁ e₂ : Expr} {T : Ty} → Γ ⊢ e₁ ∶ T → ¬ (T ≡ ty_int) → Fails Γ (e₁ ‹ o # i › e₂) 21
  first_if : {e₁ e₂ e₃ : Expr} {T : Ty} → Γ ⊢ e₁ ∶ T → ¬ (T ≡ ty_bool) → Fails Γ (if e₁ then' e₂ else e₃) 21
  first_assign : {l : Loc} {e : Expr} {T : Ty} → Γ ⊢ e ∶ T → ¬ (T ≡ ty_int) → Fails Γ (l := e) 21
  first_seq : {e₁ e₂ : Expr} {T : Ty} → Γ ⊢ e₁ ∶ T → ¬ (T ≡ ty_unit) → Fails Γ (e₁ ⨾ e₂) 21
  first_while : {e₁ e₂ : Expr} {T : Ty} → Γ ⊢ e₁ ∶ T → ¬ (T ≡ ty_bool) → Fails Γ (while e₁ do' e₂ done) 21
  -- 22: second child likewise (+, >=, while)
  second_op : {o : Op} {i : ℕ} {e₁ e₂ : Expr} {T : Ty} → Γ ⊢ e₂ ∶ T → ¬ (T ≡ ty_int) → Fails Γ (e₁ ‹ o # i › e₂) 22
  second_while : {e₁ e₂ : Expr} {T : Ty} → Γ ⊢ e₂ ∶ T → ¬ (T ≡ ty_unit) → Fails Γ (while e₁ do' e₂ done) 22
  -- 23: branches of an if differ
  branches_if : {e₁ e₂ e₃ : Expr} {T₂ T₃ : Ty} → Γ ⊢ e₂ ∶ T₂ → Γ ⊢ e₃ ∶ T₃ → ¬ (T₂ ≡ T₃) → Fails Γ (if e₁ then' e₂ else e₃) 23

-- e is refused by c at node i: "the lowest-numbered node whose own rule fails, and at that node the lowest number"
pub record Refused (Γ : TypeEnv) (e : Expr) (c i : ℕ) : Type 0 where
  pub failing : Expr
  pub stands : Node e i failing
  pub fails : Fails Γ failing c
  pub lowest_node : (j : ℕ) (d : Expr) (k : ℕ) → j < i → Node e j d → ¬ Fails Γ d k
  pub lowest_number : (k : ℕ) → k < c → ¬ Fails Γ failing k

pub data Verdict : Type 0 where
  typed : Ty → Verdict
  refused : ℕ → ℕ → Verdict

-- what the rules of 2.3 and 01's numbers say of a tree: its type, or the refusal's number and node
pub data Judged (Γ : TypeEnv) (e : Expr) : Verdict → Type 0 where
  has_type : {T : Ty} → Γ ⊢ e ∶ T → Judged Γ e (typed T)
  has_none : {c i : ℕ} → Refused Γ e c i → Judged Γ e (refused c i)
