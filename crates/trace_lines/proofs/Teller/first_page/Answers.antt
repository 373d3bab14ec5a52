-- The line of the start, and the lines after it.
use Rattle.std.proofs.Common.{arith, [], ◌∷◌, refl}
use Rattle.stored.specs.Trace.{moment_line}
use Rattle.machine.specs.Moment.{meaning, Moment}
use Rattle.machine.proofs.FirstMoment.{first_moment}
use Rattle.trace_lines.specs.Lines.{name_of}
use Rattle.trace_lines.proofs.FirstLine.{first_line}
use Rattle.trace_lines.proofs.Telling.{put_one, behind}
use Rattle.trace_lines.proofs.Teller.first_page.Goals as goal

pub fill_page-requires-clause-by_index : goal.fill_page-requires-clause-by_index
fill_page-requires-clause-by_index c =
    let r = c.requires in
    let b = c.args.self.now.program.now in
    let p = record c.args.pending.now { height = 0 } in let m = c.start-first.result in
    let start = rw c.row.ensures.is at c.start-first.ensures in
    let first : Moment b c.args.s.now c.args.s.now p m = first_moment c.row.ensures.runnable r.0 (refl, r.2) start in
    (c.args.s.now, moment_line m.steps (name_of m.rule) (meaning b p m) c.args.s.now ∷ [], first_line first refl start)

pub returns : goal.returns
returns c =
    let r = c.requires in
    let b = c.args.self.now.program.now in
    let p = record c.args.pending.now { height = 0 } in let m = c.start-first.result in
    let start = rw c.row.ensures.is at c.start-first.ensures in
    let first : Moment b c.args.s.now c.args.s.now p m = first_moment c.row.ensures.runnable r.0 (refl, r.2) start in
    let line = moment_line m.steps (name_of m.rule) (meaning b p m) c.args.s.now in
    let (put, low) = c.put_line.ensures in
    let (tells, went) = c.fill_page.ensures in (
      behind (line ∷ []) (put_one line put) (tells c.args.s.now (line ∷ []) (first_line first refl start)),
      ((λ m e. let h = went.0 m e in (h.0, omega arith)), went.1),
    )
