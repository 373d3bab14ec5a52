-- The places that are closed so far, from the innermost: what is written of the closings, and what is left of them.
use Prim.Native.Nat.{ℕ, suc}
use mathlib.Core.Path.{◌≡◌, refl, sym, ap, ◌∙◌, subst}
use mathlib.Core.List.{List, [], ◌++◌, append_assoc, append-nil}
use lib.ListN.{get_or}
use Rattle.machine.specs.State.{context_of, blank, stack}
use Rattle.machine.specs.declared.state.Frame.{Frame}
use Rattle.node_text.specs.Pages.{Puts, Fits}
use Rattle.node_text.specs.declared.Page.{Page}
use Rattle.node_text.proofs.PutLaws.{put_none, puts_more, page_first, page_rest}
use Rattle.moment_text.specs.Around.{closing, closes}

pub puts_none : (p : Page) → Puts p [] p
puts_none p = record { put = put_none p.room.now p.at; keeps = refl; same = refl }

-- of the h places, those from j on are closed, from the page p on to q
pub record Closed (b : List ℕ) (fs : List Frame) (h : ℕ) (p q : Page) (j : ℕ) : Type 0 where
  pub written : List ℕ
  pub puts : Puts p written q
  pub left : closes (stack b fs h) ≡ written ++ closes (stack b fs j)

abbrev closing_at : List ℕ → List Frame → ℕ → List ℕ
closing_at b fs j = closing (context_of b (get_or fs j blank).place)

pub none_closed : (b : List ℕ) (fs : List Frame) (h : ℕ) (p : Page) → Closed b fs h p p h
none_closed b fs h p = record { written = []; puts = puts_none p; left = refl }

module _ {b : List ℕ} {fs : List Frame} {h : ℕ} {p q : Page} where
  left_at : {k : ℕ} (w : Closed b fs h p q k) (j : ℕ) → k ≡ suc j
      → closes (stack b fs h) ≡ w.written ++ closing_at b fs j ++ closes (stack b fs j)
  left_at w j e =
      w.left ∙ ap (λ (k : ℕ). w.written ++ closes (stack b fs k)) e ∙ sym (append_assoc w.written (closing_at b fs j) (closes (stack b fs j)))

  pub room_to_close : {k : ℕ} → Closed b fs h p q k → (j : ℕ) → k ≡ suc j → Fits p (closes (stack b fs h)) → Fits q (closing_at b fs j)
  room_to_close w j e room =
      page_rest (closing_at b fs j) w.puts
      (page_first p (w.written ++ closing_at b fs j) (closes (stack b fs j)) (rw (left_at w j e) at room))

  pub one_closed : {k : ℕ} {r : Page} → Closed b fs h p q k → (j : ℕ) → k ≡ suc j → Puts q (closing_at b fs j) r → Closed b fs h p r j
  one_closed w j e v = record { written = w.written ++ closing_at b fs j; puts = puts_more w.puts v; left = left_at w j e }

  pub all_closed : {j : ℕ} → Closed b fs h p q j → j ≡ 0 → Puts p (closes (stack b fs h)) q
  all_closed w e =
      let all = w.left ∙ ap (λ (j : ℕ). w.written ++ closes (stack b fs j)) e ∙ append-nil w.written in
      subst (λ (t : List ℕ). Puts p t q) (sym all) w.puts
