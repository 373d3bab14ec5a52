-- Two writes in a row are one; a write keeps the length; where a text has room, its first part has, and then the rest.
use Prim.Native.Nat.{ℕ, suc, ◌+◌, ◌≤◌}
use native.Mathlib.Omega.{arith}
use native.Mathlib.Nat.{add-zero, add-suc, suc-add}
use mathlib.Core.Path.{◌≡◌, refl, sym, ◌∙◌, ap}
use mathlib.Core.List.{List, [], ◌∷◌, ◌++◌, append_assoc}
use lib.ListN.{length, set, length-append}
use lib.Seq.{sets, length-sets, sets-eq}
use borrow.Rule.Slice.PartMut.{put_mid}
use Rattle.std.proofs.lemmas.List.{drop-drop}
use Rattle.node_text.specs.Put.{Put}
use Rattle.node_text.specs.Pages.{Puts, Fits}
use Rattle.node_text.specs.declared.Page.{Page}

sets_append : (s t b : List ℕ) (at : ℕ) → sets b at (s ++ t) ≡ sets (sets b at s) (at + length s) t
sets_append [] t b at = rw (add-zero at)
sets_append (x ∷ s) t b at =
    sets_append s t (set b at x) (suc at) ∙ ap (λ (k : ℕ). sets (sets b at (x ∷ s)) k t) (suc-add at (length s) ∙ sym (add-suc at (length s)))

pub put_none : (b : List ℕ) (at : ℕ) → Put b at [] b at
put_none b at = record { held = refl; next = omega arith }

pub put_more : {b s c t d : List ℕ} {at p r : ℕ} → Put b at s c p → Put c p t d r → Put b at (s ++ t) d r
put_more {b} {s} {c} {t} {d} {at} {p} {r} v w =
    record { held = w.held ∙ rw (v.held, v.next) (sym (sets_append s t b at)); next = omega (arith, v.next, w.next, length-append s t) }

pub kept : {b t c : List ℕ} {at r : ℕ} → Put b at t c r → length c ≡ length b
kept {b} {t} {c} {at} w = ap length w.held ∙ length-sets b at t

pub room_first : (at : ℕ) (s t b : List ℕ) → at + length (s ++ t) ≤ length b → at + length s ≤ length b
room_first at s t b room = omega (arith, length-append s t)

pub room_rest : {b s c : List ℕ} {at p : ℕ} (t : List ℕ) → Put b at s c p → at + length (s ++ t) ≤ length b → p + length t ≤ length c
room_rest {b} {s} t w room = omega (arith, w.next, kept w, length-append s t)

-- behind a part that is short
pub room_left : {b t c : List ℕ} {at p : ℕ} (most left : ℕ) → Put b at t c p → length t ≤ most → at + (most + left) ≤ length b → p + left ≤ length c
room_left most left w few room = omega (arith, w.next, kept w)

-- ---- the same of a page

-- a text that is put into the page's own room
pub puts : {p q : Page} {t : List ℕ} → Put p.room.now p.at t q.room.now q.at → q.room.ghost_name ≡ p.room.ghost_name → Puts p t q
puts w e = record { put = w; keeps = kept w; same = e }

pub puts_more : {p q r : Page} {s t : List ℕ} → Puts p s q → Puts q t r → Puts p (s ++ t) r
puts_more v w = record { put = put_more v.put w.put; keeps = w.keeps ∙ v.keeps; same = w.same ∙ v.same }

-- a piece that is copied over a part of the room
pub put_copied : (t b : List ℕ) (at k : ℕ) → k ≡ length t → at + length t ≤ length b → Put b at t (put_mid at k b t) (at + length t)
put_copied t b at k e room = record { held = rw (sets-eq t b at room, e, drop-drop) (simp append_assoc); next = refl }

pub page_first : (p : Page) (s t : List ℕ) → Fits p (s ++ t) → Fits p s
page_first p s t room = omega (arith, length-append s t)

pub page_rest : {p q : Page} {s : List ℕ} (t : List ℕ) → Puts p s q → Fits p (s ++ t) → Fits q t
page_rest {s = s} t w room = omega (arith, w.put.next, w.keeps, length-append s t)
