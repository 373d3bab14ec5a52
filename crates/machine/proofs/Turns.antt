-- A turn of the machine: the places before and after an act, what an act tells, that less is left after it, and that the next act has a frame.
use Prim.Native.Nat.{ℕ, zero, suc, ◌+◌, ◌-◌, ◌*◌, ◌≤◌, ◌<◌}
use native.Mathlib.Nat.{add-zero}
use native.Mathlib.Omega.{arith}
use mathlib.Core.Path.{◌≡◌, refl, sym, ap, subst}
use mathlib.Core.List.{List, ◌∷◌}
use lib.ListN.{length, get_or, set, length-set}
use lib.Seq.{get_or-set_same, get_or-set_other}
use borrow.Author.Count.{below_more}
use Rattle.std.specs.Prelude.{Option}
use Rattle.l1.specs.Syntax.{Expr}
use Rattle.l1.specs.Store.{Store}
use Rattle.l1.specs.Steps.{Rule, ⟨◌∣◌⟩⟶⟨◌∣◌⟩◌}
use Rattle.l1.specs.Overflow.{◌overflows_at◌}
use Rattle.l1.specs.Run.{Run}
use Rattle.l1.specs.Measures.{size}
use Rattle.l1.proofs.Runs.{run_keeps_locations, run_then_step}
use Rattle.stored.specs.Reader.{tree_at}
use Rattle.stored.specs.Refusals.{count}
use Rattle.stored.proofs.Subtrees.{size_fits}
use Rattle.routine.specs.Open.{root_of, Runnable}
use Rattle.routine.proofs.Standing.{is_headed, root_places, nodes_stand}
use Rattle.machine.specs.Contexts.{Context, plug, left_to_search, all_left}
use Rattle.machine.specs.State.{expr_of, Seen, search_of, takes_of, context_of, Held, redex, HeldUnder, search_at, blank, stack}
use Rattle.machine.specs.Moment.{meaning, LastStep, last_step, Moment}
use Rattle.machine.specs.Acts.{after, HeldBy, PushedFor, grows_of, written, Within, rule_of, made_by, turned_by, last_rule, Went, searched, worked, over}
use Rattle.machine.specs.declared.state.Work.{Work}
use Rattle.machine.specs.declared.state.Work.TheVariants as w
use Rattle.machine.specs.declared.state.Place.{Place}
use Rattle.machine.specs.declared.state.Place.TheVariants as p
use Rattle.machine.specs.declared.state.Act.{Act}
use Rattle.machine.specs.declared.state.Act.TheVariants as a
use Rattle.machine.specs.declared.state.Rule.{Rule as Named}
use Rattle.machine.specs.declared.state.Frame.{Frame}
use Rattle.machine.specs.declared.state.Pending.{Pending}
use Rattle.machine.specs.declared.state.Machine.{Machine}
use Rattle.machine.proofs.Stacks.{plug_step, stack_fits}

-- an act that is no overflow
abbrev pub NoOverflow : Act → Type 0
NoOverflow d = (i : ℕ) → d ≡ a.Over i → ⊥

-- ---- the places

stack_length : (b : List ℕ) (fs : List Frame) (h : ℕ) → length (stack b fs h) ≡ h
stack_length b fs zero = refl
stack_length b fs (suc h) = ap suc (stack_length b fs h)

-- a frame above is not seen
stack_set : (b : List ℕ) (fs : List Frame) (f : Frame) (at h : ℕ) → h ≤ at → stack b (set fs at f) h ≡ stack b fs h
stack_set b fs f at zero l = refl
stack_set b fs f at (suc h) l = rw (get_or-set_other fs at h f blank (λ q. omega arith), stack_set b fs f at h (omega arith))

module _ (b : List ℕ) (fs : List Frame) (at : ℕ) where
  abbrev top : Place
  top = (get_or fs at blank).place

  -- what is at work, and the places below it
  pub split : (y : Work) (h : ℕ) → at + takes_of y ≡ h → plug (stack b fs h) (expr_of b y) ≡ plug (stack b fs at) (redex b y top)
  split (w.Node i) h e = let z : h ≡ at = omega arith in rw z
  split (w.Int n) h e = let z : h ≡ suc at = omega arith in rw z
  split (w.Bool t) h e = let z : h ≡ suc at = omega arith in rw z
  split w.Skip h e = let z : h ≡ suc at = omega arith in rw z

  pub search_split : (y : Work) (h : ℕ) → at + takes_of y ≡ h
      → all_left (stack b fs h) + search_of b y ≡ all_left (stack b fs at) + search_at b y top
  search_split (w.Node i) h e = let z : h ≡ at = omega arith in rw z
  search_split (w.Int n) h e = let z : h ≡ suc at = omega arith in rw z (omega arith)
  search_split (w.Bool t) h e = let z : h ≡ suc at = omega arith in rw z (omega arith)
  search_split w.Skip h e = let z : h ≡ suc at = omega arith in rw z (omega arith)

  pub stands : (y : Work) (h : ℕ) → at + takes_of y ≡ h → ((j : ℕ) → j < h → Held b (get_or fs j blank).place) → HeldUnder b y top
  stands (w.Node i) h e all = tt
  stands (w.Int n) h e all = all at (omega arith)
  stands (w.Bool t) h e all = all at (omega arith)
  stands w.Skip h e all = all at (omega arith)

  -- the places after an act: one more on top, or those below it
  abbrev pub placed : Act → Pending
  placed (a.Push g) = record { frames = set fs at (record { place = g }); height = at + 1 }
  placed a.Rest = record { frames = fs; height = at }
  placed (a.Write k v) = record { frames = fs; height = at }
  placed (a.Over i) = record { frames = fs; height = at }

  pub height_after : (d : Act) → (placed d).height ≡ at + grows_of d
  height_after (a.Push g) = refl
  height_after a.Rest = sym (add-zero at)
  height_after (a.Write k v) = sym (add-zero at)
  height_after (a.Over i) = sym (add-zero at)

  pub frames_after : (d : Act) → length (placed d).frames ≡ length fs
  frames_after (a.Push g) = length-set fs at _
  frames_after a.Rest = refl
  frames_after (a.Write k v) = refl
  frames_after (a.Over i) = refl

  module _ (room : at < length fs) where
    one_more : (g : Place) → stack b (set fs at (record { place = g })) (at + 1) ≡ context_of b g ∷ stack b fs at
    one_more g =
        let z : at + 1 ≡ suc at = omega arith in
        rw (z, get_or-set_same fs at (record { place = g }) blank room, stack_set b fs (record { place = g }) at at (omega arith))

    pub joined : (d : Act) (e : Expr) → plug (stack b (placed d).frames (placed d).height) e ≡ plug (stack b fs at) (after b d e)
    joined (a.Push g) e = rw (one_more g)
    joined a.Rest e = refl
    joined (a.Write k v) e = refl
    joined (a.Over i) e = refl

    search_joined : (g : Place) → all_left (stack b (set fs at (record { place = g })) (at + 1)) ≡ left_to_search (context_of b g) + all_left (stack b fs at)
    search_joined g = rw (one_more g)

    pub held_after : (d : Act) → HeldBy b d → ((j : ℕ) → j < at → Held b (get_or fs j blank).place)
        → (j : ℕ) → j < (placed d).height → Held b (get_or (placed d).frames j blank).place
    held_after (a.Push g) h all =
        below_more (λ (j : ℕ). Held b (get_or (set fs at (record { place = g })) j blank).place) at
        (λ j l. rw (get_or-set_other fs at j (record { place = g }) blank (λ q. omega arith)) (all j l))
        (rw (get_or-set_same fs at (record { place = g }) blank room) h)
    held_after a.Rest h all = all
    held_after (a.Write k v) h all = all
    held_after (a.Over i) h all = absurd h

-- ---- what an act tells

module _ {b : List ℕ} {c : ℕ} {e : Expr} {s : Store} where
  pub over_of : {y : Work} {d : Act} {ρ : Option Named} {i : ℕ} → Went b c e s y d ρ → d ≡ a.Over i → e overflows_at i
  over_of (searched q v h f l) o = cc
  over_of (worked x v h f i) o = absurd (subst (HeldBy b) o h)
  over_of {i = i} (over {n = n} x) o = let q : n ≡ i = cc in rw (← q) x

  pub step_of : {y : Work} {d : Act} {ρ : Option Named} → Went b c e s y d ρ → 0 < made_by ρ
      → (r : Rule) × (e' : Expr) × (s' : Store) × (⟨ e ∣ s ⟩⟶⟨ e' ∣ s' ⟩ r)
  step_of (searched q v h f l) o = absurd (omega arith)
  step_of (worked {ρ = ρ} x v h f i) o = (rule_of ρ, _, _, x)
  step_of (over x) o = absurd (omega arith)

  pub within_of : {y : Work} {d : Act} {ρ : Option Named} → Went b c e s y d ρ → Within (length s) d
  within_of (searched q v h f l) = tt
  within_of (worked x v h f i) = i
  within_of (over x) = tt

  pub one_at_most : {y : Work} {d : Act} {ρ : Option Named} → Went b c e s y d ρ → made_by ρ ≤ 1
  one_at_most (searched q v h f l) = omega arith
  one_at_most (worked x v h f i) = omega arith
  one_at_most (over x) = omega arith

  pub kept_of : {y : Work} {d : Act} {ρ : Option Named} → Went b c e s y d ρ → NoOverflow d → Seen b y × HeldBy b d × PushedFor b d y
  kept_of (searched q v h f l) o = (v, h, f)
  kept_of (worked x v h f i) o = (v, h, f)
  kept_of (over x) o = absurd (o _ refl)

  -- the run goes on, and its last step is the act's where the act is a step; a move of the search leaves the expression as it was
  pub moved : {e₀ : Expr} {s₀ : Store} {T K : ℕ} {ρ last : Option Named} {y : Work} {d : Act} (k : List Context)
      → Run T K e₀ s₀ (plug k e) s → LastStep e₀ s₀ T (plug k e) s last → Went b c e s y d ρ → NoOverflow d
      → Run (T + made_by ρ) (K + turned_by ρ) e₀ s₀ (plug k (after b d (expr_of b y))) (written s d)
      × LastStep e₀ s₀ (T + made_by ρ) (plug k (after b d (expr_of b y))) (written s d) (last_rule ρ last)
  moved {T = T} {K = K} k ds l (searched q v h f n) o = rw (add-zero T, add-zero K, q) (ds, l)
  moved {T = T} k ds l (worked {ρ = ρ} x v h f i) o =
      let d = plug_step k x in
      (run_then_step ds d, last_step {T' = T} (omega arith) ds d refl)
  moved k ds l (over x) o = absurd (o _ refl)

-- ---- what is left: the steps, and then the search

-- what a moment has left to search is below this
abbrev room_of_search : ℕ
room_of_search = 4194304

abbrev search_left : List ℕ → Pending → Machine → ℕ
search_left b p m = all_left (stack b p.frames p.height) + search_of b m.work

abbrev pub left : List ℕ → ℕ → Pending → Machine → ℕ
left b limit p m = (limit - m.steps) * room_of_search + search_left b p m

pub falls : (b : List ℕ) (fs : List Frame) (at : ℕ) → at < length fs
    → (T : ℕ) {c T' R limit : ℕ} {ρ : Option Named} {e : Expr} {s : Store} {y : Work} {d : Act}
    → R ≡ all_left (stack b fs at) + c
    → all_left (stack b (placed b fs at d).frames (placed b fs at d).height) + search_of b y < room_of_search
    → Went b c e s y d ρ → T' ≡ T + made_by ρ → T' ≤ limit → NoOverflow d
    → (limit - T') * room_of_search + (all_left (stack b (placed b fs at d).frames (placed b fs at d).height) + search_of b y)
    < (limit - T) * room_of_search + R
falls b fs at room T q n (searched {g = g} x v h f l) t u o = omega (arith, search_joined b fs at room g)
falls b fs at room T q n (worked x v h f i) t u o = omega arith
falls b fs at room T q n (over x) t u o = absurd (o _ refl)

module _ {b : List ℕ} (ok : Runnable b) where
  node_size : (i : ℕ) → i < count b → size (tree_at b i) ≤ 4096
  node_size i l = omega (arith, (is_headed ok.opens ok.holds).few_nodes, size_fits b (nodes_stand ok.opens ok.holds i l))

  place_search : (f : Place) → Held b f → left_to_search (context_of b f) ≤ 8193
  place_search p.Blank h = absurd h
  place_search (p.PlusLeft i) h = omega (arith, node_size _ h.1)
  place_search (p.GeqLeft i) h = omega (arith, node_size _ h.1)
  place_search (p.PlusRight i n) h = omega arith
  place_search (p.GeqRight i n) h = omega arith
  place_search (p.Test i) h = omega arith
  place_search (p.Again i) h = omega arith
  place_search (p.Store l) h = omega arith
  place_search (p.First j) h = omega arith

  stack_search : (fs : List Frame) (h : ℕ) → ((j : ℕ) → j < h → Held b (get_or fs j blank).place) → all_left (stack b fs h) ≤ 8193 * h
  stack_search fs zero all = omega arith
  stack_search fs (suc h) all =
      omega (arith, place_search (get_or fs h blank).place (all h (omega arith)), stack_search fs h (λ j l. all j (omega arith)))

  work_search : (y : Work) → Seen b y → search_of b y ≤ 8192
  work_search (w.Node i) v = omega (arith, node_size i v.0)
  work_search (w.Int n) v = omega arith
  work_search (w.Bool t) v = omega arith
  work_search w.Skip v = omega arith

-- ---- a moment

takes_one : (y : Work) → takes_of y ≤ 1
takes_one (w.Node i) = omega arith
takes_one (w.Int n) = omega arith
takes_one (w.Bool t) = omega arith
takes_one w.Skip = omega arith

grows_by_one : (d : Act) → grows_of d ≤ 1
grows_by_one (a.Push g) = omega arith
grows_by_one a.Rest = omega arith
grows_by_one (a.Write l n) = omega arith
grows_by_one (a.Over i) = omega arith

-- where the act was made in a frame, there is one for the next
pub room_after : {b : List ℕ} → Runnable b → (p : Pending) (m : Machine) (at : ℕ) (d : Act) {T K : ℕ} {s s' : Store}
    → p.height ≡ at + grows_of d → at < 256 → PushedFor b d m.work → Run T K (root_of b) s (meaning b p m) s'
    → p.height < 256 + takes_of m.work
room_after {b} ok p m at d q l f ds =
    let few = root_places ok.opens ok.holds in
    let all = stack_length b p.frames p.height in
    omega (arith, stack_fits (stack b p.frames p.height) (expr_of b m.work) ds, grows_by_one d)

module _ {b : List ℕ} {s₀ s : Store} {p : Pending} {m : Machine} (i : Moment b s₀ s p m) where
  pub height_fits : p.height ≤ 256
  height_fits = omega (arith, i.room, takes_one m.work)

  pub keeps_length : length s ≡ length s₀
  keeps_length = run_keeps_locations i.run

  pub search_fits : search_left b p m < room_of_search
  search_fits =
      let h = height_fits in
      omega (arith, stack_search i.runnable p.frames p.height i.held, work_search i.runnable m.work i.seen)
