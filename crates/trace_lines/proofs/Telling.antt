-- Lines that are told after other lines: nothing more, or the next ones behind those that are there.
use Prim.Native.Nat.{ℕ}
use mathlib.Core.Path.{◌≡◌, refl, sym, ap, ◌∙◌}
use mathlib.Core.List.{List, [], ◌∷◌, ◌++◌, append_assoc, append-nil}
use lib.ListN.{length}
use Rattle.std.specs.Prelude.{Option, Some}
use Rattle.l1.specs.Store.{Store}
use Rattle.machine.specs.declared.state.Pending.{Pending}
use Rattle.machine.specs.declared.state.Machine.{Machine}
use Rattle.node_text.specs.Pages.{Puts}
use Rattle.node_text.specs.declared.Page.{Page}
use Rattle.node_text.proofs.PutLaws.{put_none, puts, puts_more}
use Rattle.trace_lines.specs.Lines.{AllLines, LinesAt, joined}
use Rattle.trace_lines.specs.Says.{Tells, tells_on, tells_all}

-- one line
pub put_one : {before after : Page} (l : List ℕ) → Puts before l after → Puts before (joined (l ∷ [])) after
put_one l w = rw (append-nil l) w

joined_append : (ls ms : List (List ℕ)) → joined (ls ++ ms) ≡ joined ls ++ joined ms
joined_append [] ms = refl
joined_append (l ∷ ls) ms = ap (λ (t : List ℕ). l ++ t) (joined_append ls ms) ∙ sym (append_assoc l (joined ls) (joined ms))

module _ {b : List ℕ} {z : Store} {f : ℕ} {ls : List (List ℕ)} where
  pub tells_none : {page : Page} {p : Pending} {m : Machine} {s : Store} → LinesAt b z ls p m s → Tells b z f ls page page p s (Some m)
  tells_none {page} {p} {m} {s} t =
      let same : LinesAt b z (ls ++ []) p m s = rw (append-nil ls) t in
      tells_on [] refl (puts (put_none page.room.now page.at) refl) same

  -- lines ms are there already
  pub behind : (ms : List (List ℕ)) {before middle after : Page} {p : Pending} {s : Store} {r : Option Machine} → Puts before (joined ms) middle
      → Tells b z f (ls ++ ms) middle after p s r → Tells b z f ls before after p s r
  behind ms {before} {after = after} {p} {s} w (tells_on ks {m = m} e v t) =
      let put : Puts before (joined (ms ++ ks)) after = rw (joined_append ms ks) (puts_more w v) in
      let to : LinesAt b z (ls ++ (ms ++ ks)) p m s = rw (← append_assoc ls ms ks) t in
      tells_on (ms ++ ks) e put to
  behind ms {before} {after = after} w (tells_all ks e v t) =
      let put : Puts before (joined (ms ++ ks)) after = rw (joined_append ms ks) (puts_more w v) in
      let all : AllLines b z f (ls ++ (ms ++ ks)) = rw (← append_assoc ls ms ks) t in
      tells_all (ms ++ ks) e put all

  pub tells_keeps : {before after : Page} {p : Pending} {s : Store} {r : Option Machine} → Tells b z f ls before after p s r
      → length after.room.now ≡ length before.room.now
  tells_keeps (tells_on ms e w t) = w.keeps
  tells_keeps (tells_all ms e w t) = w.keeps

  -- where the last line is not yet told, the lines so far are
  pub told_here : {before after : Page} {p : Pending} {m : Machine} {s : Store} → Tells b z f ls before after p s (Some m)
      → (ks : List (List ℕ)) × LinesAt b z ks p m s
  told_here {p = p} {m = m} {s = s} (tells_on ms {m = m₁} e w t) =
      let q : m₁ ≡ m = cc in
      let to : LinesAt b z (ls ++ ms) p m s = rw q at t in (ls ++ ms, to)
  told_here (tells_all ms e w t) = cc

  pub tells_more : {before middle after : Page} {p p₁ : Pending} {m : Machine} {s s₁ : Store} {r : Option Machine} → Tells b z f ls before middle p s (Some m)
      → ((ks : List (List ℕ)) → LinesAt b z ks p m s → Tells b z f ks middle after p₁ s₁ r)
      → Tells b z f ls before after p₁ s₁ r
  tells_more (tells_all ms e w t) next = cc
  tells_more {p = p} {m = m} {s = s} (tells_on ms {m = m₁} e w t) next =
      let q : m₁ ≡ m = cc in
      let to : LinesAt b z (ls ++ ms) p m s = rw q at t in behind ms w (next (ls ++ ms) to)
