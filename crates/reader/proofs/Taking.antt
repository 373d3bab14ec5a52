-- What reading answers, and what it leaves in the lent room.
use Prim.Native.Nat.{ℕ, ◌+◌, ◌-◌, ◌*◌, ◌/◌, ◌≤◌, ◌<◌}
use native.Mathlib.Omega.{arith}
use mathlib.Core.Path.{◌≡◌, refl, sym, ◌∙◌, ap}
use mathlib.Core.List.{List, [], ◌∷◌, ◌++◌, append_assoc}
use mathlib.Core.Option.{Option, none, some}
use lib.ListN.{length, take, drop, length-drop}
use lib.Seq.{sets-eq, length-sets, take_at, drop_at, drop-drop, drop-length}
use Rattle.l1.specs.Syntax.{Expr}
use Rattle.l1.specs.Measures.{size}
use Rattle.l1.specs.Text.{text}
use Rattle.stored.specs.Stages.{Refusal, no, no_with, given, given_at, Passes, First}
use Rattle.stored.specs.Bytes.{two_bytes}
use Rattle.stored.specs.Stored.{bytes_from, stored, Storable}
use Rattle.stored.proofs.Stages.{when_silent, first_here, first_later, first_former, first_latter, former_passes}
use Rattle.stored.proofs.ReadBack.{nodes_bytes, stored_length}
use Rattle.text_form.specs.Reading.{of_text, too_short, Taken, taken, Reads, read_refuses, read_takes}
use Rattle.text_form.specs.Small.{Unreadable}
use Rattle.text_form.specs.Parser.{Parsed, parse}
use borrow.Rule.Slice.PartMut.{put_mid}
use Rattle.descent.specs.Found.{Read}
use Rattle.descent.specs.declared.Place.{Place}
use Rattle.reader.specs.Enough.{Enough}
use Rattle.text_form.proofs.Parsing.{storable_of, unreadable, nodes_by_length}
use Rattle.text_form.proofs.OneReading.{storable_passes}

module _ {m : ℕ} {t room : List ℕ} where
  pub refused_4 : 64 < m → Reads m t room (Taken.refuses (no 4)) room
  refused_4 h = read_refuses (first_here (given h))

  pub refused_text : {r : Refusal} → m ≤ 64 → First (of_text t) r → Reads m t room (Taken.refuses r) room
  refused_text l f = read_refuses (first_later (when_silent (λ h. omega arith)) (first_former (of_text t) (too_short t (length room)) f))

-- three bytes for each node but one
pub enough_short : {t : List ℕ} {cap : ℕ} → length t ≤ 3 * cap → Enough t cap
enough_short l = record { holds = λ e q few. omega (arith, nodes_by_length e, ap length q) }

pub enough_long : {t : List ℕ} {cap : ℕ} → 4096 ≤ cap → Enough t cap
enough_long c = record { holds = λ e q few. omega arith }

-- a tree that a routine can hold passes all of them but 53
passes_text : {m : ℕ} {t : List ℕ} {e : Expr} → Storable m e → t ≡ text e → Passes (of_text t)
passes_text {t = t} {e = e} s q =
    let k = 6 + 8 * size e in
    former_passes (of_text t) (too_short t k) (record { all_silent = (storable_passes t k s q (omega arith)).all_silent.1 })

-- six bytes are written, and others behind them
six_and_more : (h w room : List ℕ) (k : ℕ) → length h ≡ 6 → put_mid 6 k (put_mid 0 6 room h) w ≡ (h ++ w) ++ drop (6 + k) room
six_and_more h w room k six =
    rw (take_at h (drop 6 room) 6 six, drop_at h (drop 6 room) 6 six, drop-drop k 6 room) (simp append_assoc)

-- a routine in two pieces
in_two : {m n : ℕ} (e : Expr) {h w : List ℕ} → n ≡ size e → h ≡ two_bytes (4 + 8 * n) ++ 1 ∷ m ∷ two_bytes n → w ≡ bytes_from 0 e → stored m e ≡ h ++ w
unfolding stored
in_two e k x y = rw (x, y, k) refl

module _ {m : ℕ} {t room : List ℕ} {e : Expr} (s : Storable m e) (q : t ≡ text e) where
  pub refused_room : {k : ℕ} → k ≡ 6 + 8 * size e → length room < k → Reads m t room (Taken.refuses (no_with 53 k)) room
  refused_room n l =
      read_refuses
      (first_later (when_silent (λ h. omega (arith, s.few_locations)))
      (first_latter (of_text t) (too_short t (length room)) (passes_text s q) (first_here (given_at (e, q, (n, l))))))

  -- the head, and the nodes behind it
  pub took : {h w : List ℕ} {n : ℕ} → n ≡ size e → 6 + 8 * n ≤ length room → h ≡ two_bytes (4 + 8 * n) ++ 1 ∷ m ∷ two_bytes n → w ≡ bytes_from 0 e
      → Reads m t room (taken (6 + 8 * n)) (put_mid 6 (6 + 8 * n - 6) (put_mid 0 6 room h) w)
  took {h} {w} {n} k l x y =
      let z = stored_length m e in
      let six : length h ≡ 6 = rw x refl in
      let more : 6 + 8 * n - 6 ≡ 8 * n = omega arith in
      let r : Reads m t room (taken (length (stored m e))) (stored m e ++ drop (length (stored m e)) room) = read_takes s q (omega arith) in
      rw (more, six_and_more h w room (8 * n) six, k) (rw (z, in_two e k x y) at r)

-- the nodes of the tree whose text is t
pub record Whole (m : ℕ) (t nodes : List ℕ) (n : ℕ) : Type 0 where
  pub expr : Expr
  pub storable : Storable m expr
  pub shown : t ≡ text expr
  pub count : n ≡ size expr
  pub inside : 8 * n ≤ length nodes
  pub held : take (8 * n) nodes ≡ bytes_from 0 expr

pub differ : {x : Parsed} → ¬ (◌≡◌ {A = Option Parsed} none (some x))
differ e = let z : ◌≡◌ {A = ℕ} 0 1 = cc in omega arith

pub same : {x y : Parsed} → some x ≡ some y → x ≡ y
same e = cc

module _ {t nodes nodes' : List ℕ} {p : Place} (r : Read t nodes 0 (parse (length nodes / 8) 2175 256 0 t) nodes' p) where
  -- what the descent has read to the end of the text
  pub whole : {m : ℕ} → m ≤ 64 → length nodes ≤ 32768 → p.at ≡ length t → Whole m t nodes' p.node
  whole {m} l few z =
      let ends : drop p.at t ≡ [] = rw z (drop-length t) in
      let (s, x, g) = storable_of m (length nodes / 8) t r.expr p.node l (rw ends at r.is) (omega arith) in
      let long = nodes_bytes r.expr 0 in
      let room = r.room in
      let kept : length nodes' ≡ length nodes = ap length r.held ∙ length-sets nodes 0 (bytes_from 0 r.expr) in
      record {
        expr = r.expr;
        storable = s;
        shown = x;
        count = g;
        inside = omega arith;
        held = rw (r.held, sets-eq (bytes_from 0 r.expr) nodes 0 (omega arith)) (take_at (bytes_from 0 r.expr) (drop (0 + length (bytes_from 0 r.expr)) nodes) (8 * p.node) (omega arith));
      }

  pub not_all_read : Enough t (length nodes / 8) → ¬ (p.at ≡ length t) → Unreadable t
  not_all_read enough n =
      unreadable t (length nodes / 8) enough.holds
      (λ (x, y, l).
      let k = ap (λ (s : Parsed). s.left) (same (sym r.is ∙ y)) in
      let none_left = ap length (k ∙ l) in
      let i = r.inside in
      omega (arith, n, length-drop p.at t))

pub nothing_read : {t : List ℕ} (nodes : List ℕ) → parse (length nodes / 8) 2175 256 0 t ≡ none → Enough t (length nodes / 8) → Unreadable t
nothing_read {t} nodes h enough = unreadable t (length nodes / 8) enough.holds (λ (x, q, l). differ (sym h ∙ q))
