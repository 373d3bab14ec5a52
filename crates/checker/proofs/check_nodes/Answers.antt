-- One node more: its fault and its type by the table, and what W and the two words get from it; and what all of them tell.
use Rattle.std.proofs.Common.{◌<◌, refl, ◌∙◌, arith}
use Rattle.stored.specs.Refusals.{count}
use Rattle.std.proofs.Math.ListN.{length-set, length-replicate}
use Rattle.l1.specs.Sets.{reading, writing, word}
use Rattle.l1.proofs.NodeSums.{work_of, uses_of}
use Rattle.routine.proofs.KindTags.{tag_is_kind}
use Rattle.checker.proofs.TypeTurn.{faulty, clear, passed, all_passed}
use Rattle.checker.proofs.Counting.{arg_small, work_turn, word_turn, work_all, word_all}
use Rattle.checker.specs.declared.Ty.TheVariants.{Int}
use Rattle.checker.proofs.check_nodes.Goals as goal

pub loop-i-init : goal.loop-i-init
unfolding work_of uses_of word
loop-i-init g c = record {
  room = simp length-replicate;
  past = λ j l. absurd (omega arith);
  few = omega arith;
  work = refl;
  kinds = refl;
  reads = refl;
  writes = refl;
}

pub returns-in-Some : goal.returns-in-Some
returns-in-Some g c =
    let v = c.loop-i.invariant in let o = c.nodes-n.ensures.opened in
    faulty o (rw v.room c.requires.2) v.past (omega arith) c.node-d.ensures.is c.locations-m.ensures.is _ c.in-Some.ensures

pub bit_of-requires : goal.bit_of-requires
bit_of-requires g c =
    let v = c.loop-i.invariant in let o = c.nodes-n.ensures.opened in
    arg_small o (omega arith) c.node-d.ensures.is
    (clear o (rw v.room c.requires.2) v.past (omega arith) c.node-d.ensures.is c.locations-m.ensures.is c.in_default.ensures)

pub loop-i-preserved : goal.loop-i-preserved
loop-i-preserved g c =
    let v = c.loop-i.invariant in
    let o = c.nodes-n.ensures.opened in
    let l : c.loop-i.i < count c.args.row.now = omega arith in
    let q = c.node-d.ensures.is in record {
      room = simp length-set v.room;
      past = passed o (rw v.room c.requires.2) v.past l q c.locations-m.ensures.is c.in_default.ensures _ (rw (c.entry.ensures Int) at c.type_of.ensures) (omega arith);
      few = omega (arith, c.work_of-working.ensures.1);
      work = work_turn o l q v.work c.work_of-working.ensures.0;
      kinds = simp length-set v.kinds;
      reads = word_turn o l q reading c.loop-i.named v.kinds v.reads (tag_is_kind _) c.bit_of.ensures;
      writes = word_turn o l q writing c.loop-i.named v.kinds v.writes (tag_is_kind _) c.bit_of.ensures;
    }

pub returns : goal.returns
returns g c =
    let v = c.loop-i.invariant in
    let o = c.nodes-n.ensures.opened in
    let (typed, type) = all_passed o (rw v.room c.requires.2) v.past c.nodes-n.ensures.is c.loop-i-test.false in (
      typed,
      record {
        its_type = type;
        its_working = v.work ∙ work_all o (omega arith);
        its_reads = v.reads ∙ word_all o (omega arith) reading;
        its_writes = v.writes ∙ word_all o (omega arith) writing;
      },
    )
