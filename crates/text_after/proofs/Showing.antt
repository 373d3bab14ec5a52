-- What is shown of a run on the routine's own locations is what the text answers of a run on the lent store.
use Prim.Native.Nat.{ℕ, ◌+◌, ◌≤◌, ◌<◌}
use native.Mathlib.Omega.{arith}
use mathlib.Core.Path.{◌≡◌, refl}
use mathlib.Core.List.{List, ◌++◌}
use lib.ListN.{length, take, drop, take-append-drop}
use lib.Seq.{sets-eq}
use Rattle.l1.specs.Syntax.{Expr}
use Rattle.l1.specs.Store.{Store}
use Rattle.l1.specs.Run.{Outcome, answer, Yields}
use Rattle.l1.specs.Text.{text}
use Rattle.l1.proofs.LongerStore.{yields_longer}
use Rattle.stored.specs.Stages.{Refusal, no_with, given_at, First}
use Rattle.stored.specs.Refusals.{locations, TextLength, running, lent_store, lent_room}
use Rattle.stored.specs.Answers.{Wrote, wrote, Writes, text_refuses, text_wrote}
use Rattle.stored.proofs.Stages.{at_silent, passes_nothing, passes_more, first_here, both_pass, first_former, first_latter}
use Rattle.stored.proofs.Admission.{lent_refused, admitted}
use Rattle.stored.proofs.OneAnswer.{one_length}
use Rattle.stored.proofs.RunAnswers.{store_passes}
use Rattle.routine.specs.Open.{root_of, Runnable}
use Rattle.node_text.specs.Put.{Put}
use Rattle.text_after.specs.Shows.{Shows, too_long, in_room}

-- what is shown of a text that was measured, and of one that was put at the start of the buffer
module _ {b : List ℕ} {s s' : Store} {k n T K : ℕ} {buffer : List ℕ} {o : Outcome} {e : Expr} (y : Yields k (root_of b) s (answer o T K e s')) where
  pub long_shown : n ≡ length (text e) → length buffer < n → Shows b s k buffer (Wrote.refuses (no_with 32 n)) buffer
  long_shown q l = rw q (too_long y (omega arith))

  pub put_shown : {buffer' : List ℕ} → Put buffer 0 (text e) buffer' n → length (text e) ≤ length buffer → Shows b s k buffer (wrote n T) buffer'
  put_shown w l =
      let z : 0 + length (text e) ≡ length (text e) = omega arith in
      rw (w.next, w.held, sets-eq (text e) buffer 0 (omega arith), z) (in_room y l)

its_length : {b : List ℕ} {s s' : Store} {k T K : ℕ} {o : Outcome} {e : Expr} → Runnable b → Yields k (root_of b) s (answer o T K e s')
    → TextLength b s k (length (text e))
its_length {b} {s' = s'} {T = T} {K = K} {o = o} {e = e} ok y = (root_of b, e, s', o, T, K, ok.holds, y, refl)

module _ {b : List ℕ} (ok : Runnable b) {s : Store} (c : locations b ≤ length s) {k : ℕ} {buffer : List ℕ} where
  module _ {o : Outcome} {T K : ℕ} {e : Expr} {s' : Store} (y : Yields k (root_of b) s (answer o T K e s')) where
    long_refused : length buffer < length (text e) → Writes b s k buffer (Wrote.refuses (no_with 32 (length (text e)))) buffer
    long_refused l =
        text_refuses
        (lent_refused ok.opens ok.holds (lent_store b (length s) ++ lent_room b s k (length buffer)) ok.typed
        (first_latter (lent_store b (length s)) (lent_room b s k (length buffer)) (store_passes b c) (first_here (given_at (its_length ok y, l)))))

    -- no other text of the run is longer: there is one
    fits_written : length (text e) ≤ length buffer → Writes b s k buffer (wrote (length (text e)) T) (text e ++ drop (length (text e)) buffer)
    fits_written l =
        text_wrote
        (admitted ok.opens ok.holds (lent_store b (length s) ++ lent_room b s k (length buffer)) ok.typed
        (both_pass (lent_store b (length s)) (lent_room b s k (length buffer)) (store_passes b c)
        (passes_more (at_silent (λ n (x, m). omega (arith, one_length b x (its_length ok y)))) passes_nothing)))
        ok.holds y

  pub shown_whole : {a : Wrote} {buffer' : List ℕ} → Shows b s k buffer a buffer' → Writes b s k buffer a buffer'
  shown_whole (too_long y l) = long_refused y l
  shown_whole (in_room y l) = fits_written y l

-- on a longer store the same is shown
shown_longer : {b : List ℕ} {s : Store} (x : Store) {k : ℕ} {buffer buffer' : List ℕ} {a : Wrote}
    → Shows b s k buffer a buffer' → Shows b (s ++ x) k buffer a buffer'
shown_longer x (too_long y l) = too_long (yields_longer x y) l
shown_longer x (in_room y l) = in_room (yields_longer x y) l

pub shown_written : {b : List ℕ} {s : Store} (m : ℕ) {k : ℕ} {buffer buffer' : List ℕ} {a : Wrote} → Runnable b → locations b ≤ length s
    → Shows b (take m s) k buffer a buffer' → Writes b s k buffer a buffer'
shown_written {s = s} m ok c w = shown_whole ok c (rw take-append-drop at (shown_longer (drop m s) w))

-- what the run refuses, the text refuses
pub run_refused : {b : List ℕ} {s : Store} (k : ℕ) {buffer : List ℕ} {r : Refusal} → First (running b s) r → Writes b s k buffer (Wrote.refuses r) buffer
run_refused {b} {s} k {buffer} f = text_refuses (first_former (running b s) (lent_room b s k (length buffer)) f)
