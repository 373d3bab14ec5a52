-- What opens the places, the work, and what closes them.
use Rattle.std.proofs.Common.{arith, rules, ℕ, List, ◌++◌}
use Rattle.l1.specs.Text.{text}
use Rattle.machine.specs.State.{expr_of, stack}
use Rattle.machine.specs.declared.state.Pending.{Pending}
use Rattle.machine.specs.declared.state.Work.{Work}
use Rattle.node_text.proofs.PutLaws.{puts_more, page_first, page_rest}
use Rattle.moment_text.specs.Around.{closes, opens_of}
use Rattle.moment_text.proofs.TextAround.{moment_pieces}
use Rattle.moment_text.proofs.put_moment.Goals as goal

-- the text in the pieces that are written
module _ (b : List ℕ) (p : Pending) (x : Work) where
  abbrev opened : List ℕ
  opened = opens_of p.frames p.height

  abbrev work : List ℕ
  work = text (expr_of b x)

  abbrev closed : List ℕ
  closed = closes (stack b p.frames p.height)

pub put_opens-requires : goal.put_opens-requires
put_opens-requires c =
    let a = c.args in let b = a.row.now in let p = a.pending.now in
    let room = rw (moment_pieces b p a.work) at c.requires.2 in
    (c.requires.0.few, page_first a.page.now (opened b p a.work) (work b p a.work) (page_first a.page.now (opened b p a.work ++ work b p a.work) (closed b p a.work) room))

pub put_work-requires : goal.put_work-requires
put_work-requires c =
    let a = c.args in let b = a.row.now in let p = a.pending.now in
    let room = rw (moment_pieces b p a.work) at c.requires.2 in
    (c.requires.0.opened, search rules, omega (arith, page_rest (work b p a.work) c.put_opens.ensures (page_first a.page.now (opened b p a.work ++ work b p a.work) (closed b p a.work) room)))

pub put_closes-requires : goal.put_closes-requires
put_closes-requires c =
    let a = c.args in let b = a.row.now in let p = a.pending.now in
    let room = rw (moment_pieces b p a.work) at c.requires.2 in
    (c.requires.0, page_rest (closed b p a.work) (puts_more c.put_opens.ensures c.put_work.ensures) room)

pub returns : goal.returns
returns c =
    let a = c.args in
    rw (moment_pieces a.row.now a.pending.now a.work) (puts_more (puts_more c.put_opens.ensures c.put_work.ensures) c.put_closes.ensures)
