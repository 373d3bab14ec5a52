-- Reading gives back the routine whose text is written, and writing the text that is read. Taken are exactly the texts of the trees that a routine can hold.
use Prim.Native.Nat.{ℕ, ◌+◌, ◌*◌, ◌≤◌, ◌<◌}
use native.Mathlib.Omega.{arith}
use mathlib.Core.Path.{◌≡◌, ap}
use mathlib.Core.Logic.{◌↔◌}
use mathlib.Core.List.{List, ◌++◌}
use lib.ListN.{length, take, drop}
use lib.Seq.{take-append_seam}
use Rattle.l1.specs.Syntax.{Expr}
use Rattle.l1.specs.Measures.{size}
use Rattle.l1.specs.Text.{text}
use Rattle.stored.specs.Bytes.{byte}
use Rattle.stored.specs.Stages.{Passes}
use Rattle.stored.specs.Stored.{stored, Storable}
use Rattle.stored.specs.Refusals.{locations, opening}
use Rattle.stored.specs.Answers.{Opens}
use Rattle.stored.proofs.ReadBack.{stored_length, tree_reads, stored_opens}
use Rattle.stored.proofs.WrittenBack.{bytes_are_stored, tree_is_storable}
use Rattle.stored.proofs.Reader.{holds_unique}
use Rattle.stored.proofs.Stages.{at_silent, both_pass, former_passes, passes_more, passes_nothing}
use Rattle.text_form.specs.Reading.{taken, Reads, read_takes}
use Rattle.text_form.specs.Showing.{shown, Shows, show_writes, showing}

given : {m : ℕ} {t room : List ℕ} (b c : List ℕ) → b ≡ c → Reads m t room (taken (length c)) (c ++ drop (length c) room)
    → Reads m t room (taken (length b)) (b ++ drop (length b) room)
given b c q r = rw q r

pub written_then_read : {b buffer buffer' : List ℕ} {n : ℕ} → ((k : ℕ) → byte b k < 256) → Shows b buffer (shown n) buffer'
    → (room : List ℕ) → length b ≤ length room → Reads (locations b) (take n buffer') room (taken (length b)) (b ++ drop (length b) room)
written_then_read {b} {buffer} small (show_writes {e} p h) room l =
    let ok : Opens b = record { passes = former_passes (opening b) _ p } in
    let q = bytes_are_stored b small ok h in
    let t = take-append_seam (text e) (drop (length (text e)) buffer) in
    given b (stored (locations b) e) q (read_takes (tree_is_storable b small ok h) t (rw (← q) l))

-- no text of the tree is longer than the buffer
pub stored_shows : (m : ℕ) (e : Expr) (room : ℕ) → Storable m e → length (text e) ≤ room → Passes (showing (stored m e) room)
stored_shows m e room s l =
    both_pass (opening (stored m e)) _ (stored_opens m e s).passes
    (passes_more (at_silent (λ n ((e', h, x), y). let q = ap (λ d. length (text d)) (holds_unique (stored m e) (tree_reads m e s) h) in omega arith)) passes_nothing)

pub read_then_written : {m k : ℕ} {t room room' : List ℕ} → Reads m t room (taken k) room' → (buffer : List ℕ) → length t ≤ length buffer
    → Shows (take k room') buffer (shown (length t)) (t ++ drop (length t) buffer)
read_then_written {m} {room = room} (read_takes {e} s q h) buffer l =
    rw (q, take-append_seam (stored m e) (drop (length (stored m e)) room))
    (show_writes (stored_shows m e (length buffer) s (rw q at l)) (tree_reads m e s))

pub accepted_exactly : (m : ℕ) (t room : List ℕ)
    → ((n : ℕ) × (room' : List ℕ) × Reads m t room (taken n) room') ↔ ((e : Expr) × Storable m e × (t ≡ text e) × (6 + 8 * size e ≤ length room))
accepted_exactly m t room = (λ (n, r, x). held x, λ (e, s, q, l). (length (stored m e), _, read_takes s q (rw (stored_length m e) l)))
  where
    held : {n : ℕ} {room' : List ℕ} → Reads m t room (taken n) room' → (e : Expr) × Storable m e × (t ≡ text e) × (6 + 8 * size e ≤ length room)
    held (read_takes {e} s q l) = (e, s, q, rw (stored_length m e) at l)
