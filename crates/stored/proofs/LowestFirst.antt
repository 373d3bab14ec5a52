-- 01: "The lowest number that applies is given". In each of 01's lists the stages have ascending numbers, so that what the first of them gives is
-- the lowest number that applies, and the other way round.
use Prim.Native.Nat.{ℕ, ◌≤◌, ◌<◌}
use native.Mathlib.Omega.{arith}
use mathlib.Core.Path.{ap}
use mathlib.Core.Logic.{◌↔◌, inl, inr}
use mathlib.Core.List.{List, [], ◌∷◌, ◌++◌}
use lib.ListN.{length}
use Rattle.l1.specs.Store.{Store}
use Rattle.l1.specs.Refused.{Refused}
use Rattle.l1.proofs.Verdict.{refused_number}
use Rattle.stored.specs.Stages.{Refusal, number, Stage, ◌when◌, given, ◌at◌, given_at, OneOf, given_one, FirstOf, First, Applies, Lowest}
use Rattle.stored.specs.Refusals.{env, RootHas, admission, checking, running, texting, tracing, routine, after_routine, lent_store, lent_room, lent_input}
use Rattle.stored.proofs.Stages.{when_single, at_single, AllSingle}
use Rattle.stored.proofs.Admission.{admission_single}
use Rattle.stored.proofs.OneAnswer.{one_length}

-- the numbers of a stage are at least lo and below hi
pub record Between (lo hi : ℕ) (A : Stage) : Type 0 where
  pub in_order : lo ≤ hi
  pub low : (r : Refusal) → A r → lo ≤ number r
  pub high : (r : Refusal) → A r → number r < hi

-- the numbers of the stages are at least lo, and those of each are below those of the stages after it
abbrev Ascending : ℕ → List Stage → Type 0
Ascending lo [] = Unit
Ascending lo (A ∷ stages) = (hi : ℕ) × Between lo hi A × Ascending hi stages

above : (stages : List Stage) (lo : ℕ) (r : Refusal) → Ascending lo stages → Applies stages r → lo ≤ number r
above (A ∷ stages) lo r (hi, range, asc) (inl a) = range.low r a
above (A ∷ stages) lo r (hi, range, asc) (inr x) = omega (arith, above stages hi r asc x, range.in_order)
above [] lo r _ x3 = elim x3 [ ]

module _ (r : Refusal) where
  applies : (stages : List Stage) → FirstOf stages r → Applies stages r
  applies (A ∷ stages) (inl a) = inl a
  applies (A ∷ stages) (inr (none, f)) = inr (applies stages f)
  applies [] x' = elim x' [ ]

  lower : (stages : List Stage) (lo : ℕ) → AllSingle stages → Ascending lo stages → FirstOf stages r
      → (q : Refusal) → number q < number r → ¬ Applies stages q
  lower (A ∷ stages) lo (one, ones) (hi, range, asc) (inl a) q l (inl a') = omega (arith, ap number (one.same q r a' a))
  lower (A ∷ stages) lo (one, ones) (hi, range, asc) (inl a) q l (inr x) = omega (arith, above stages hi q asc x, range.high r a)
  lower (A ∷ stages) lo (one, ones) (hi, range, asc) (inr (none, f)) q l (inl a) = none q a
  lower (A ∷ stages) lo (one, ones) (hi, range, asc) (inr (none, f)) q l (inr x) = lower stages hi ones asc f q l x
  lower [] lo _ _ x7 q l _ = elim x7 [ ]

  first : (stages : List Stage) (lo : ℕ) → Ascending lo stages → Applies stages r
      → ((q : Refusal) → number q < number r → ¬ Applies stages q) → FirstOf stages r
  first (A ∷ stages) lo (hi, range, asc) (inl a) no_lower = inl a
  first (A ∷ stages) lo (hi, range, asc) (inr x) no_lower =
      inr (
        λ q a. no_lower q (omega (arith, above stages hi r asc x, range.high q a)) (inl a),
        first stages hi asc x (λ q l y. no_lower q l (inr y)),
      )
  first [] lo _ x4 no_lower = elim x4 [ ]

first_iff_lowest : (stages : List Stage) (lo : ℕ) {r : Refusal} → AllSingle stages → Ascending lo stages → First stages r ↔ Lowest stages r
first_iff_lowest stages lo {r} one asc = (
  λ f. record { does = applies r stages f.of; no_lower = lower r stages lo one asc f.of },
  λ l. record { of = first r stages lo asc l.does l.no_lower },
)

-- ---- 01's lists

when_between : (c : ℕ) {lo hi : ℕ} {P : Type 0} → lo ≤ c → c < hi → Between lo hi (c when P)
when_between c {lo} {hi} {P} l h = record { in_order = omega arith; low = λ r. low; high = λ r. high }
  where
    low : {r : Refusal} → (c when P) r → lo ≤ number r
    low (given p) = l

    high : {r : Refusal} → (c when P) r → number r < hi
    high (given p) = h

at_between : (c : ℕ) {lo hi : ℕ} {P : ℕ → Type 0} → lo ≤ c → c < hi → Between lo hi (c at P)
at_between c {lo} {hi} {P} l h = record { in_order = omega arith; low = λ r. low; high = λ r. high }
  where
    low : {r : Refusal} → (c at P) r → lo ≤ number r
    low (given_at p) = l

    high : {r : Refusal} → (c at P) r → number r < hi
    high (given_at p) = h

module _ (b : List ℕ) where
  types_between : Between 10 24 (OneOf (λ c i. RootHas b (λ e. Refused (env b) e c i)))
  types_between = record { in_order = omega arith; low = λ r. low; high = λ r. high }
    where
      low : {r : Refusal} → OneOf (λ c i. RootHas b (λ e. Refused (env b) e c i)) r → 10 ≤ number r
      low (given_one (e, h, x)) = omega (arith, refused_number x)

      high : {r : Refusal} → OneOf (λ c i. RootHas b (λ e. Refused (env b) e c i)) r → number r < 24
      high (given_one (e, h, x)) = omega (arith, refused_number x)

  admission_ascends : (lent : List Stage) → Ascending 24 lent → Ascending 1 (admission b lent)
  admission_ascends lent asc = (
    2,
    when_between 1 (omega arith) (omega arith),
    (
      3,
      when_between 2 (omega arith) (omega arith),
      (
        4,
        when_between 3 (omega arith) (omega arith),
        (
          5,
          when_between 4 (omega arith) (omega arith),
          (
            6,
            when_between 5 (omega arith) (omega arith),
            (
              7,
              when_between 6 (omega arith) (omega arith),
              (
                8,
                at_between 7 (omega arith) (omega arith),
                (
                  9,
                  when_between 8 (omega arith) (omega arith),
                  (
                    10,
                    when_between 9 (omega arith) (omega arith),
                    (24, types_between, asc),
                  ),
                ),
              ),
            ),
          ),
        ),
      ),
    ),
  )

  admission_lowest : (lent : List Stage) → AllSingle lent → Ascending 24 lent → {r : Refusal} → First (admission b lent) r ↔ Lowest (admission b lent) r
  admission_lowest lent one asc = first_iff_lowest (admission b lent) 1 (admission_single b lent one) (admission_ascends lent asc)

  pub check_gives_lowest : {r : Refusal} → First (checking b) r ↔ Lowest (checking b) r
  check_gives_lowest = admission_lowest [] tt tt

  pub run_gives_lowest : (s : Store) {r : Refusal} → First (running b s) r ↔ Lowest (running b s) r
  run_gives_lowest s = admission_lowest (lent_store b (length s)) (when_single, tt) (31, when_between 30 (omega arith) (omega arith), tt)

  pub text_gives_lowest : (s : Store) (k room : ℕ) {r : Refusal} → First (texting b s k room) r ↔ Lowest (texting b s k room) r
  text_gives_lowest s k room =
      admission_lowest (lent_store b (length s) ++ lent_room b s k room)
      (when_single, (at_single (λ m n x y. one_length b x.0 y.0), tt))
      (31, when_between 30 (omega arith) (omega arith), (33, at_between 32 (omega arith) (omega arith), tt))

pub trace_gives_lowest : (input : List ℕ) {r : Refusal} → First (tracing input) r ↔ Lowest (tracing input) r
trace_gives_lowest input =
    admission_lowest (routine input) (lent_input (routine input) (length (after_routine input))) (when_single, tt)
    (41, when_between 40 (omega arith) (omega arith), tt)
