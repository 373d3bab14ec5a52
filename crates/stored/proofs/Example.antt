-- 01's worked example, `l0 := !l0 + 25` with one location: its 38 bytes, and what `trace` prints for it.
use Prim.Native.Nat.{ℕ, ◌≤◌, ◌<◌}
use native.Mathlib.Omega.{arith}
use mathlib.Core.Path.{◌≡◌, refl}
use mathlib.Core.List.{List, [], ◌∷◌, ◌++◌}
use lib.IntN.{ℤ, pos}
use lib.Signed.{le_z_yes}
use Rattle.l1.specs.Syntax.{Loc, Expr, int, plus, ◌‹◌#◌›◌, ◌:=◌, !◌, v_skip, ty_unit}
use Rattle.l1.specs.Typing.{◌declares◌, ◌⊢◌∶◌, t_assign, t_op+, t_deref, t_int}
use Rattle.l1.specs.Range.{InRange}
use Rattle.l1.specs.Steps.{op+, op1, deref, assign1, assign2}
use Rattle.l1.specs.Run.{stay, more, ends_value, goes_on}
use Rattle.l1.specs.Text.{bytes, digits, text}
use Rattle.l1.specs.Refused.{Node, nth_zero, nth_suc, Numbered}
use Rattle.l1.proofs.OwnNumbers.{carried_from, numbers_from, own_numbers}
use Rattle.stored.specs.Bytes.{signed}
use Rattle.stored.specs.Stored.{bytes_from, stored, Storable}
use Rattle.stored.specs.Stages.{Passes}
use Rattle.stored.specs.Refusals.{env, Holds, lent_input, tracing}
use Rattle.stored.specs.Answers.{Opens}
use Rattle.stored.specs.Trace.{newline, Prints, prints_run}
use Rattle.stored.proofs.ReadBack.{tree_reads, stored_opens}
use Rattle.stored.proofs.Stages.{when_silent, passes_nothing, passes_more}
use Rattle.stored.proofs.Admission.{admitted}

abbrev pub example : Expr
example = 0 := ((! 0) ‹ plus # 2 › int (pos 25))

abbrev pub example_bytes : List ℕ
example_bytes =
    0x00 ∷ 0x24 ∷ 0x01 ∷ 0x01 ∷ 0x00 ∷ 0x04 ∷ []
    ++ 0x06 ∷ 0x00 ∷ 0x00 ∷ 0x00 ∷ 0x00 ∷ 0x00 ∷ 0x00 ∷ 0x00 ∷ []
    ++ 0x00 ∷ 0x00 ∷ 0x00 ∷ 0x00 ∷ 0x00 ∷ 0x00 ∷ 0x00 ∷ 0x19 ∷ []
    ++ 0x02 ∷ 0x00 ∷ 0x00 ∷ 0x00 ∷ 0x00 ∷ 0x01 ∷ 0x00 ∷ 0x00 ∷ []
    ++ 0x05 ∷ 0x00 ∷ 0x00 ∷ 0x02 ∷ 0x00 ∷ 0x00 ∷ 0x00 ∷ 0x00 ∷ []

pub example_stored : stored 1 example ≡ example_bytes
unfolding stored bytes_from
example_stored = refl

-- ---- the example is accepted

in_range : InRange (pos 25)
in_range = record { not_low = le_z_yes tt; not_high = le_z_yes tt }

integers : (i : ℕ) (n : ℤ) → Node example i (int n) → InRange n
integers _ _ (nth_suc nth_zero) = in_range
integers _ _ (nth_suc (nth_suc (nth_suc (nth_suc x)))) = elim x [ ]

read_locations : (i : ℕ) (l : Loc) → Node example i (! l) → l ≤ 255
read_locations _ _ nth_zero = omega arith
read_locations _ _ (nth_suc (nth_suc (nth_suc (nth_suc x)))) = elim x [ ]

written_locations : (i : ℕ) (l : Loc) (d : Expr) → Node example i (l := d) → l ≤ 255
written_locations _ _ _ (nth_suc (nth_suc (nth_suc nth_zero))) = omega arith
written_locations _ _ _ (nth_suc (nth_suc (nth_suc (nth_suc x)))) = elim x [ ]

numbered : Numbered example
unfolding carried_from numbers_from
numbered = own_numbers example refl

storable : Storable 1 example
storable = record {
  few_locations = omega arith;
  few_nodes = omega arith;
  few_places = omega arith;
  integers = integers;
  read_locations = read_locations;
  written_locations = written_locations;
  numbered = numbered;
}

opens : Opens example_bytes
opens = rw example_stored at (stored_opens 1 example storable)

holds : Holds example_bytes example
holds = rw example_stored at (tree_reads 1 example storable)

typed : env example_bytes ⊢ example ∶ ty_unit
typed =
    let declared : env example_bytes declares 0 = record { below = omega arith } in
    t_assign declared (t_op+ (t_deref declared) t_int)

-- ---- what it prints

-- the routine, then fuel 10 and location 0 at 1875
abbrev pub example_input : List ℕ
example_input = example_bytes ++ 0x00 ∷ 0x00 ∷ 0x00 ∷ 0x0A ∷ 0x00 ∷ 0x00 ∷ 0x07 ∷ 0x53 ∷ []

not_refused : Passes (tracing example_input)
not_refused = admitted opens holds (lent_input example_bytes 8) typed (passes_more (when_silent (λ h. h refl)) passes_nothing)

abbrev pub example_lines : List (List ℕ)
example_lines =
    (bytes "0 start (l0 := (!l0 + 25)) | 1875" ++ newline)
    ∷ (bytes "1 deref (l0 := (1875 + 25)) | 1875" ++ newline)
    ∷ (bytes "2 plus (l0 := 1900) | 1875" ++ newline)
    ∷ (bytes "3 assign skip | 1900" ++ newline)
    ∷ (bytes "value skip steps 3 loops 0" ++ newline)
    ∷ []

pub example_prints : Prints example_input example_lines
unfolding text digits signed
example_prints =
    let there : 0 < 1 = omega arith in
    let sum : InRange (pos 1900) = record { not_low = le_z_yes tt; not_high = le_z_yes tt } in
    let reads = assign2 (op1 (deref there refl)) in
    let adds = assign2 (op+ refl sum) in
    let writes = assign1 there in
    prints_run not_refused holds (goes_on reads (goes_on adds (goes_on writes (ends_value v_skip)))) (more reads (more adds (more writes stay)))
