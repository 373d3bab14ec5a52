-- `text_after::text_typed` meets its contract: what is shown of the run on the copy is the text's answer.
use Rattle.text_after.proofs.Showing.{shown_written}
use Rattle.text_after.proofs.text_typed.Goals as goal

pub returns : goal.returns
returns c =
    let copied = c.copy_from_slice.ensures.after in
    let n = c.locations.ensures in
    let ok = c.row-row.ensures in
    shown_written c.from-m.result ok.runnable c.requires (rw (copied, ok.is) at c.show.ensures)
