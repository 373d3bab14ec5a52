-- What an act does to the places and the store, and what it comes to: a move of the search, a step of the rules, or a sum out of range.
use Rattle.std.specs.Prelude.{ℕ, ◌+◌, ◌*◌, ◌<◌, ◌≤◌, ◌≡◌, Option, None, Some, List, ℤ, length}
use Rattle.l1.specs.Syntax.{plus, Loc, Expr, int, ◌‹◌#◌›◌, !◌}
use Rattle.l1.specs.Store.{Store, ◌∈dom◌, lookup, update}
use Rattle.l1.specs.Steps.{Rule, by_plus, by_geq, by_deref, by_assign, by_seq, by_if_true, by_if_false, by_while, ⟨◌∣◌⟩⟶⟨◌∣◌⟩◌}
use Rattle.l1.specs.Run.{whiles}
use Rattle.l1.specs.Overflow.{◌overflows_at◌}
use Rattle.l1.specs.Measures.{size, places}
use Rattle.stored.specs.Reader.{tree_at}
use Rattle.machine.specs.Contexts.{fill, left_to_search}
use Rattle.machine.specs.State.{expr_of, Seen, search_of, takes_of, context_of, Held}
use Rattle.machine.specs.declared.state.Work.{Work}
use Rattle.machine.specs.declared.state.Work.TheVariants as w
use Rattle.machine.specs.declared.state.Place.{Place}
use Rattle.machine.specs.declared.state.Act.{Act}
use Rattle.machine.specs.declared.state.Act.TheVariants as a
use Rattle.machine.specs.declared.state.Rule.{Rule as Named}
use Rattle.machine.specs.declared.state.Rule.TheVariants as named
use Rattle.machine.specs.declared.state.Machine.{Machine}
use Rattle.machine.specs.declared.state.Next.{Next}
use Rattle.machine.specs.declared.state.Turn.{Turn}

-- ---- what an act does

-- after the act: a place more, or none
abbrev pub after : List ℕ → Act → Expr → Expr
after b (a.Push g) e = fill (context_of b g) e
after b a.Rest e = e
after b (a.Write l n) e = e
after b (a.Over i) e = e

abbrev pub HeldBy : List ℕ → Act → Type 0
HeldBy b (a.Push g) = Held b g
HeldBy b a.Rest = Unit
HeldBy b (a.Write l n) = Unit
HeldBy b (a.Over i) = ⊥

abbrev pub grows_of : Act → ℕ
grows_of (a.Push g) = 1
grows_of a.Rest = 0
grows_of (a.Write l n) = 0
grows_of (a.Over i) = 0

abbrev pub written : Store → Act → Store
written s (a.Push g) = s
written s a.Rest = s
written s (a.Write l n) = update s l n
written s (a.Over i) = s

abbrev pub Within : ℕ → Act → Type 0
Within k (a.Push g) = Unit
Within k a.Rest = Unit
Within k (a.Write l n) = l < k
Within k (a.Over i) = Unit

-- a place is pushed for a value, which stands in it, or for a node that has places itself, so never for a dereference (`room` of `Moment` says why)
abbrev pub PushedFor : List ℕ → Act → Work → Type 0
PushedFor b d y = grows_of d ≤ takes_of y + places (expr_of b y)

-- ---- the rules by their names in the code; none is a move of the search, which is no step

abbrev pub rule_of : Named → Rule
rule_of named.Plus = by_plus
rule_of named.Geq = by_geq
rule_of named.Deref = by_deref
rule_of named.Assign = by_assign
rule_of named.Seq = by_seq
rule_of named.IfTrue = by_if_true
rule_of named.IfFalse = by_if_false
rule_of named.While = by_while

abbrev pub made_by : Option Named → ℕ
made_by None = 0
made_by (Some ρ) = 1

abbrev pub turned_by : Option Named → ℕ
turned_by None = 0
turned_by (Some ρ) = whiles (rule_of ρ)

abbrev pub last_rule : Option Named → Option Named → Option Named
last_rule None before = before
last_rule (Some ρ) before = Some ρ

-- ---- what it comes to

-- an act at e and s, where c was left to search: the next work y, the act, and its rule
pub data Went (b : List ℕ) (c : ℕ) (e : Expr) (s : Store) : Work → Act → Option Named → Type 0 where
  searched : {y : Work} {g : Place}
      → fill (context_of b g) (expr_of b y) ≡ e → Seen b y → Held b g → PushedFor b (a.Push g) y → left_to_search (context_of b g) + search_of b y < c
      → Went b c e s y (a.Push g) None
  worked : {ρ : Named} {y : Work} {d : Act}
      → ⟨ e ∣ s ⟩⟶⟨ after b d (expr_of b y) ∣ written s d ⟩ rule_of ρ → Seen b y → HeldBy b d → PushedFor b d y → Within (length s) d
      → Went b c e s y d (Some ρ)
  over : {y : Work} {n : ℕ}
      → e overflows_at n
      → Went b c e s y (a.Over n) None

-- the machine m went to r
pub record Stepped (b : List ℕ) (c : ℕ) (e : Expr) (s : Store) (m : Machine) (r : Next) : Type 0 where
  pub rule : Option Named
  pub went : Went b c e s r.to.work r.act rule
  pub steps : r.to.steps ≡ m.steps + made_by rule
  pub loops : r.to.loops ≡ m.loops + turned_by rule
  pub last : r.to.rule ≡ last_rule rule m.rule

-- the node c is the work, or its value where it is a literal
pub record Loaded (b : List ℕ) (c : ℕ) (y : Work) : Type 0 where
  pub same : expr_of b y ≡ tree_at b c
  pub seen : Seen b y
  pub search : search_of b y ≤ 2 * size (tree_at b c)

pub record Gone (b : List ℕ) (c : ℕ) (d : Act) (ρ : Option Named) (r : Turn) : Type 0 where
  pub loaded : Loaded b c r.work
  pub act : r.act ≡ d
  pub rule : r.rule ≡ ρ

abbrev pub NoDeref : Expr → Type 0
NoDeref e = (l : Loc) → e ≡ ! l → ⊥

-- the search went to the operand c under the place g, or read it where it is a dereference
pub data Sought (b : List ℕ) (s : Store) (c : ℕ) (g : Place) (r : Turn) : Type 0 where
  went_down : NoDeref (tree_at b c) → Gone b c (a.Push g) None r → Sought b s c g r
  read_there : {l : ℕ} → tree_at b c ≡ ! l → l ∈dom s
      → r.work ≡ w.Int (lookup s l) → r.act ≡ a.Push g → r.rule ≡ Some named.Deref
      → Sought b s c g r

-- a sum went as the definition says, whatever the routine and the store
pub record Summed (i : ℕ) (l v : ℤ) (r : Turn) : Type 0 where
  pub went : (b : List ℕ) (c : ℕ) (s : Store) → Went b c (int l ‹ plus # i › int v) s r.work r.act r.rule
