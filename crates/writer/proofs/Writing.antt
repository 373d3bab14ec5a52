-- The text of a routine that was opened: what was put at the buffer's start is what is shown, and 14 bytes for each node are room enough.
use Prim.Native.Nat.{ℕ, ◌+◌, ◌-◌, ◌*◌, ◌≤◌, ◌<◌}
use native.Mathlib.Omega.{arith}
use mathlib.Core.Path.{◌≡◌}
use mathlib.Core.List.{List}
use lib.ListN.{length}
use lib.Seq.{sets-eq}
use Rattle.l1.specs.Text.{text}
use Rattle.stored.specs.Bytes.{byte}
use Rattle.stored.specs.Refusals.{count}
use Rattle.text_form.specs.Showing.{shown, Shows}
use Rattle.stored.proofs.WrittenBack.{tree_is_storable}
use Rattle.text_form.proofs.AnyShown.{fits_shown}
use Rattle.text_form.proofs.Numbering.{storable_held}
use Rattle.text_form.proofs.LongestText.{bytes_by_nodes}
use Rattle.routine.specs.Open.{root_of, Opened}
use Rattle.routine.proofs.Standing.{root_size}
use Rattle.node_text.specs.Put.{Put}
use Rattle.node_text.specs.Texts.{text_at}

-- the text of the root, node n − 1, put at the buffer's start
pub put_shown : {b buffer buffer' : List ℕ} (i : ℕ) {n : ℕ} → Opened b → i + 1 ≡ count b → length (text (root_of b)) ≤ length buffer → Put buffer 0 (text_at b i) buffer' n
    → Shows b buffer (shown n) buffer'
put_shown {b} {buffer} i o e l w =
    let p : i ≡ count b - 1 = omega arith in
    let w = rw p at w in
    let q : 0 + length (text (root_of b)) ≡ length (text (root_of b)) = omega arith in
    rw (w.next, w.held, sets-eq (text (root_of b)) buffer 0 (omega arith), q) (fits_shown o.opens o.holds buffer l)

pub surely_fits : {b : List ℕ} → Opened b → ((k : ℕ) → byte b k < 256) → length (text (root_of b)) ≤ 14 * count b
surely_fits {b} o small =
    omega (arith, bytes_by_nodes (root_of b) (storable_held (tree_is_storable b small o.opens o.holds)).small, root_size o.opens o.holds)
