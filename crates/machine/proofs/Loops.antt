-- The loop of the machine: what it keeps, what a turn asks, how it goes on and the ways out.
use Prim.Native.Nat.{ℕ, zero, suc, ◌+◌, ◌-◌, ◌≤◌, ◌<◌}
use native.Mathlib.Omega.{arith}
use mathlib.Core.Path.{◌≡◌, sym, ◌∙◌, subst}
use mathlib.Core.List.{List}
use lib.ListN.{length, get_or}
use Rattle.l1.specs.Syntax.{Expr, v_int, v_bool, v_skip, Ty}
use Rattle.l1.specs.Store.{Store}
use Rattle.l1.specs.Typing.{◌⊢◌∶◌}
use Rattle.l1.specs.Run.{Run, answer, Yields, ends_value, ends_overflow, ends_fuel}
use Rattle.l1.proofs.Runs.{run_keeps_type, whiles_among_steps}
use Rattle.l1.proofs.Outcomes.{run_then_end}
use Rattle.stored.specs.Refusals.{locations, env}
use Rattle.routine.specs.Open.{root_of}
use Rattle.machine.specs.Contexts.{plug}
use Rattle.machine.specs.State.{expr_of, Seen, takes_of, redex, HeldUnder, search_at, blank, stack, outcome_of, end_of}
use Rattle.machine.specs.Acts.{written, Within, Stepped}
use Rattle.machine.specs.Moment.{meaning, LastStep, Moment}
use Rattle.machine.specs.declared.state.Work.{Work}
use Rattle.machine.specs.declared.state.Work.TheVariants as w
use Rattle.machine.specs.declared.state.Act.TheVariants as a
use Rattle.machine.specs.declared.state.Place.{Place}
use Rattle.machine.specs.declared.state.Frame.{Frame}
use Rattle.machine.specs.declared.state.Pending.{Pending}
use Rattle.machine.specs.declared.state.Machine.{Machine}
use Rattle.machine.specs.declared.state.Next.{Next}
use Rattle.machine.specs.declared.state.Ending.{Ending}
use Rattle.machine.specs.declared.state.Ending.TheVariants as e
use Rattle.machine.proofs.Stacks.{plug_step, plug_overflow, plug_typed}
use Rattle.machine.proofs.Turns.{NoOverflow, split, placed, height_after, frames_after, search_split, stands, joined, held_after, over_of, step_of, within_of, one_at_most, kept_of, moved, left, falls, room_after, keeps_length, search_fits}

-- ---- what a loop asks, keeps and says

-- of the caller
abbrev Asked : List ℕ → ℕ → Store → Pending → Machine → Type 0
Asked b limit s p m = (limit < 4294967296) × (m.steps ≤ limit) × ((s₀ : Store) × Moment b s₀ s p m)

-- whatever store a run came from, if it stood at the entry's moment then it stands at this one, and the steps are within the limit
pub record Kept (b : List ℕ) (limit : ℕ) (s₀ : Store) (p₀ : Pending) (m₀ : Machine) (s : Store) (p : Pending) (m : Machine) : Type 0 where
  pub moment : (z : Store) → Moment b z s₀ p₀ m₀ → Moment b z s p m
  pub low : m.steps ≤ limit

-- of the end
abbrev Out : List ℕ → ℕ → Store → Pending → Machine → Store → Pending → Machine → Ending → Type 0
Out b limit s₀ p₀ m₀ s p m o =
    (z : Store) → Moment b z s₀ p₀ m₀ → Moment b z s p m × Yields limit (root_of b) z (answer (outcome_of o) m.steps m.loops (meaning b p m) s)

-- the place that the act of a moment may take, where `at` places stand below it
abbrev place_at : Pending → ℕ → Place
place_at p at = (get_or p.frames at blank).place

pub record ActAt (b : List ℕ) (s : Store) (p : Pending) (m : Machine) (at : ℕ) (r : Next) : Type 0 where
  pub parts : at + takes_of m.work ≡ p.height
  pub stepped : Stepped b (search_at b m.work (place_at p at)) (redex b m.work (place_at p at)) s m r

pub in_store : {b : List ℕ} {s : Store} {p : Pending} {m : Machine} {at : ℕ} {r : Next} → ActAt b s p m at r → Within (length s) r.act
in_store t = within_of t.stepped.went

-- ---- the places of a moment

-- a value with no place left is the end
value_ends : (b : List ℕ) (fs : List Frame) (f : ℕ) (s : Store) (y : Work) (h : ℕ) → h < takes_of y
    → Yields f (plug (stack b fs h) (expr_of b y)) s (answer (outcome_of (end_of y)) 0 0 (plug (stack b fs h) (expr_of b y)) s)
value_ends b fs f s (w.Node i) h l = absurd (omega arith)
value_ends b fs f s (w.Int n) zero l = ends_value v_int
value_ends b fs f s (w.Int n) (suc h) l = absurd (omega arith)
value_ends b fs f s (w.Bool t) zero l = ends_value v_bool
value_ends b fs f s (w.Bool t) (suc h) l = absurd (omega arith)
value_ends b fs f s w.Skip zero l = ends_value v_skip
value_ends b fs f s w.Skip (suc h) l = absurd (omega arith)

same : (b : List ℕ) (p : Pending) (m : Machine) (at : ℕ) → at + takes_of m.work ≡ p.height
    → meaning b p m ≡ plug (stack b p.frames at) (redex b m.work (place_at p at))
same b p m at q = split b p.frames at m.work p.height q

room_in : {b : List ℕ} {s₀ s : Store} {p : Pending} {m : Machine} → Moment b s₀ s p m → (at : ℕ) → at + takes_of m.work ≡ p.height → at < length p.frames
room_in i at q = omega (arith, i.room, i.frames)

-- ---- a turn

module _ {b : List ℕ} {limit : ℕ} {s₀ s : Store} {p₀ p : Pending} {m₀ m : Machine} (k : Kept b limit s₀ p₀ m₀ s p m) where
  module _ (a : Asked b limit s₀ p₀ m₀) where
    -- the moment of the run that the caller has
    here : Moment b a.2.0 s p m
    here = k.moment _ a.2.1

    -- the frame that the act reads and writes
    pub frame_below : (at : ℕ) → at + takes_of m.work ≡ p.height → at < 256
    frame_below at q = omega (arith, here.room)

    pub room : (at : ℕ) → at + takes_of m.work ≡ p.height → at < length p.frames
    room = room_in here

    pub same_store : length s ≡ length s₀
    same_store = keeps_length here ∙ sym (keeps_length a.2.1)

    -- what `step` asks
    pub may_step : (at : ℕ) → at + takes_of m.work ≡ p.height
        → (Seen b m.work × HeldUnder b m.work (place_at p at) × (locations b ≤ length s)
        × ((T : Ty) × (env b ⊢ redex b m.work (place_at p at) ∶ T))) × ((m.steps < 8589934592) × (m.loops < 8589934592))
    may_step at q =
        let i = here in
        let low = k.low in
        let few = a.0 in
        let t = subst (λ (x : Expr). env b ⊢ x ∶ i.runnable.type) (same b p m at q) (run_keeps_type i.run i.runnable.typed) in (
          (
            i.seen,
            stands b p.frames at m.work p.height q i.held,
            omega (arith, keeps_length i, i.covered),
            plug_typed (stack b p.frames at) (redex b m.work (place_at p at)) t,
          ),
          (omega arith, omega (arith, whiles_among_steps i.run)),
        )

  pub out_at_value : {o : Ending} → o ≡ end_of m.work → p.height < takes_of m.work → Out b limit s₀ p₀ m₀ s p m o
  out_at_value q h z i =
      let v = k.moment z i in
      (v, rw q (run_then_end v.run k.low (value_ends b p.frames (limit - m.steps) s m.work p.height h)))

  module _ {at : ℕ} {r : Next} (t : ActAt b s p m at r) where
    -- one step more would be too many, and there is one
    pub out_at_fuel : limit < r.to.steps → Out b limit s₀ p₀ m₀ s p m e.Fuel
    out_at_fuel l z i =
        let v = k.moment z i in
        let low = k.low in
        let g = t.stepped in
        let (x, e', s', d) = step_of g.went (omega (arith, g.steps)) in
        let none : limit - m.steps ≡ 0 = omega (arith, g.steps, one_at_most g.went) in
        (v, run_then_end v.run low (rw (none, same b p m at t.parts) (ends_fuel (plug_step (stack b p.frames at) d))))

    pub out_at_overflow : {n : ℕ} → r.act ≡ a.Over n → Out b limit s₀ p₀ m₀ s p m (e.Overflow n)
    out_at_overflow o z i =
        let v = k.moment z i in
        let x = plug_overflow (stack b p.frames at) (over_of t.stepped.went o) in
        (v, run_then_end v.run k.low (ends_overflow (rw (same b p m at t.parts) x)))

    -- the act is made good: it is no overflow and within the limit
    module _ (o : NoOverflow r.act) (l : r.to.steps ≤ limit) where
      abbrev p' : Pending
      p' = placed b p.frames at r.act

      next_moment : {z : Store} → Moment b z s p m → Moment b z (written s r.act) p' r.to
      next_moment {z} i =
          let g = t.stepped in
          let run = subst (λ (x : Expr). Run m.steps m.loops (root_of b) z x s) (same b p m at t.parts) i.run in
          let last = subst (λ (x : Expr). LastStep (root_of b) z m.steps x s m.rule) (same b p m at t.parts) i.last in
          let (run', last') = moved (stack b p.frames at) run last g.went o in
          let (seen', held', for) = kept_of g.went o in
          let room = room_in i at t.parts in
          let after = joined b p.frames at room r.act (expr_of b r.to.work) in
          let on : Run r.to.steps r.to.loops (root_of b) z (meaning b p' r.to) (written s r.act) = rw (after, g.steps, g.loops) run' in
          record {
            runnable = i.runnable;
            covered = i.covered;
            run = on;
            last = rw (after, g.steps, g.last) last';
            seen = seen';
            frames = frames_after b p.frames at r.act ∙ i.frames;
            room = room_after i.runnable p' r.to at r.act (height_after b p.frames at r.act) (omega (arith, i.room, t.parts)) for on;
            held = held_after b p.frames at room r.act held' (λ j l. i.held j (omega (arith, t.parts)));
          }

      pub goes_on : {s' : Store} {p'' : Pending} → s' ≡ written s r.act → p'' ≡ p' → Kept b limit s₀ p₀ m₀ s' p'' r.to
      goes_on q q' = rw (q, q') (record { moment = λ z i. next_moment (k.moment z i); low = l })

      pub less_left : {p'' : Pending} → p'' ≡ p' → Asked b limit s₀ p₀ m₀ → left b limit p'' r.to < left b limit p m
      less_left q a =
          let g = t.stepped in
          let i = here a in
          let fits = search_fits (next_moment i) in
          let before = search_split b p.frames at m.work p.height t.parts in
          rw q (falls b p.frames at (room_in i at t.parts) m.steps before fits g.went g.steps l o)
