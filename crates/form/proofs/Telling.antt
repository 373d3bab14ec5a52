-- What each token says, from what the bytes are.
use Prim.Native.Nat.{ℕ, zero, suc, ◌+◌, ◌-◌, ◌≤◌, ◌<◌}
use native.Mathlib.Omega.{arith}
use mathlib.Core.Path.{◌≡◌, refl, sym, ◌∙◌, ap}
use mathlib.Core.Bool.{Bool, true, false}
use mathlib.Core.List.{List, [], ◌∷◌, ◌++◌, append_assoc}
use mathlib.Core.Option as opt
use mathlib.Core.Option.{Option, some}
use borrow.Author.Tests.{eqb-true, ne_eqb, le-ltb}
use lib.Dec.{eqb, ltb}
use lib.ListN.{length, get_or, drop, length-append, drop_of_length-le}
use Rattle.std.specs.Prelude.{Result, Ok, Err}
use Rattle.l1.specs.Text.{bytes}
use Rattle.text_form.specs.Automaton.{Stop, space, close, code, Sym, lit, wanted, natural, positive, opened, joint, word}
use Rattle.text_form.specs.Automaton.{pick, choose, heads, within, before, starts, begin, next, sticks, rest}
use Rattle.form.specs.Levels.{inner, stop, after, has, wants, all, back, place_of, levels}
use Rattle.form.specs.Places.{At, State, Fits, Spelled, spelt, broken, ended_by, Number, number, none, Enters, enters, stays}
use Rattle.form.specs.Places.{Opens, Joins, Starts, starts_wrong, value, opens, Follows, follows_wrong, inside, closed, ended, Wanted, Leaf}
use Rattle.form.specs.declared.Level.{Level}
use Rattle.form.specs.declared.Level.TheVariants.{Root, Left, Close, Test, Then, Turn, Body}
use Rattle.form.specs.declared.Start.{Start}
use Rattle.form.specs.declared.Next.{Next}
use Rattle.form.specs.declared.Start.TheVariants.{Opened}
use Rattle.form.specs.declared.Next.TheVariants.{Inside, Closed, Ended}
use Rattle.form.proofs.Bytes.{in_range, past, rest_cons, byte, stuck, swap, plain, shut, word_on, word_off}

-- the k-th byte before the end of a word
word_back : {t w : List ℕ} {i : ℕ} (j k : ℕ) → Fits t i w (length w) → j + k ≡ length w → 0 < k → back t (i + length w) k ≡ get_or w j 0
word_back {t} {w} {i} j k f e p =
    let n = f.inside in
    let l : ltb (i + length w) k ≡ false = le-ltb (i + length w) k (omega arith) in
    let q : i + length w - k ≡ i + j = omega arith in
    rw (l, q) (in_range t (i + j) (omega arith) ∙ f.same j (omega arith))

sooner : {t : List ℕ} {i j : ℕ} {st : List Sym} {ls : List Level} {T : Type 0} {x : ℕ → Level → T} {r : Result T ℕ} → j ≤ i → Enters t i st ls x r → Enters t j st ls x r
sooner h (enters k m l p) = enters k m (omega arith) p
sooner h (stays o) = stays o

-- a word behind which an expression at level m is to come
into : {t : List ℕ} {i : ℕ} {st : List Sym} {ls : List Level} {T : Type 0} {x : ℕ → Level → T} (w : List ℕ) (m : Level) (n : ℕ) {r : Result ℕ ℕ}
    → plain w ≡ true → shut w ls ≡ ls → n + 3 ≡ length w → place_of (get_or w (n + 2) 0) (get_or w n 0) ≡ m → inner m ≡ true
    → At t i (word w (wants m st)) ls → Spelled t i w r → Enters t (i + 1) st ls x (ended_by (λ k. x k m) r)
into {i = i} {st = st} w m n p s e g l a (spelt f) =
    enters (i + length w) m (omega arith) (record {
      at = rw s at (word_on w (wants m st) p f a);
      place = rw (word_back (n + 2) 1 f (omega arith) (omega arith), word_back n 3 f e (omega arith)) g;
      inside = l;
    })
into {st = st} w m n p s e g l a (broken f k d) = stays (word_off w (wants m st) p f k d a)

-- ---- behind "("

-- an expression, if no head is there
left_alike : (x : ℕ) (st : List Sym) → (x ≡ 105 → ⊥) → (x ≡ 119 → ⊥) → (x ≡ 108 → ⊥) → next (opened ∷ st) x ≡ next (wanted space ∷ joint ∷ st) x
unfolding next begin choose
left_alike x st a b c = go (starts space x)
  where
    go : (o : Option (List Sym)) → before st (within o (choose heads x)) ≡ before (joint ∷ st) o
    go opt.none = rw (ne_eqb x 105 a, ne_eqb x 119 b, ne_eqb x 108 c)
    go (some r) = ap (λ (z : List Sym). some z) (append_assoc r (joint ∷ []) st)

module _ {t : List ℕ} {i x : ℕ} (hx : x ≡ get_or t i 256) where
  pub open_if : {r : Result ℕ ℕ} → x ≡ 105 → Spelled t i (bytes "if ") r → Opens t i (ended_by (λ k. Opened k Test) r)
  unfolding next begin choose starts
  open_if e s st ls a = sooner (omega arith) (into (bytes "if ") Test 0 refl refl refl refl refl (swap a _ (sym hx ∙ e) refl) s)

  pub open_while : {r : Result ℕ ℕ} → x ≡ 119 → Spelled t i (bytes "while ") r → Opens t i (ended_by (λ k. Opened k Turn) r)
  unfolding next begin choose starts
  open_while e s st ls a = sooner (omega arith) (into (bytes "while ") Turn 3 refl refl refl refl refl (swap a _ (sym hx ∙ e) refl) s)

  -- the location's number
  pub open_assign : {k : ℕ} {r : Result ℕ ℕ} → x ≡ 108 → Number natural t (i + 1) (Ok k) → Spelled t k (bytes " := ") r
      → Opens t i (ended_by (λ k. Opened k Close) r)
  unfolding next begin choose starts
  open_assign {k} e (number n) s st ls a =
      let f = n.forth in
      let b = n.past space _ ls (byte a (natural space ∷ word (bytes ":= ") (wanted close ∷ st)) (sym hx ∙ e) (omega arith) refl) in
      sooner (omega arith) (into (bytes " := ") Close 1 refl refl refl refl refl b s)

  pub open_no_number : {k : ℕ} → x ≡ 108 → Number natural t (i + 1) (Err k) → Opens t i (Err k)
  unfolding next begin choose starts
  open_no_number e (none f) st ls a =
      stays (f space _ ls (byte a (natural space ∷ word (bytes ":= ") (wanted close ∷ st)) (sym hx ∙ e) (omega arith) refl))

  pub open_left : back t i 1 ≡ 40 → (x ≡ 105 → ⊥) → (x ≡ 119 → ⊥) → (x ≡ 108 → ⊥) → Opens t i (Ok (Opened i Left))
  open_left e a b c st ls p = enters i Left (omega arith) (record { at = swap p _ (sym hx) (left_alike x st a b c); place = rw e; inside = refl })

pub open_end : {t : List ℕ} {i k : ℕ} → k ≡ i → get_or t i 256 ≡ 256 → Opens t i (Err k)
unfolding next begin choose starts
open_end q e st ls a = rw q (stays (stuck a e refl))

-- ---- behind a left side: the byte behind the space tells the sign
joint_on : {t : List ℕ} {i b : ℕ} {st st' : List Sym} {ls : List Level} → b ≡ get_or t (i + 1) 256 → next (joint ∷ st) b ≡ next st' b → At t i (lit 32 ∷ joint ∷ st) ls
    → At t i (lit 32 ∷ st') ls
unfolding next begin sticks
joint_on {t} {i} {b} {st} {st'} {ls} hb q a = go (eqb (get_or t i 256) 32) refl
  where
    go : (x : Bool) → eqb (get_or t i 256) 32 ≡ x → At t i (lit 32 ∷ st') ls
    go true e =
        let z = eqb-true (get_or t i 256) 32 e in
        let h = a.inside in
        let p = swap (byte a (joint ∷ st) z (omega arith) refl) st' (sym hb) q in
        let s : sticks (lit 32 ∷ st') (rest t i) ≡ 1 + sticks st' (rest t (i + 1)) = rw (rest_cons t i h, z) in
        record { inside = h; fits = omega (arith, p.fits); held = a.held }
    go false e = swap a _ refl (rw e)

-- a word behind a byte is a word with it
longer : {t w : List ℕ} {i b r : ℕ} → Fits t i (b ∷ []) 1 → Fits t (i + 1) w r → Fits t i (b ∷ w) (suc r)
longer {t} {w} {i} {b} {r} f g = record { same = each; short = let s = g.short in omega arith; inside = let s = g.inside in omega arith }
  where
    each : (j : ℕ) → j < suc r → get_or t (i + j) 256 ≡ get_or (b ∷ w) j 0
    each zero l = f.same 0 (omega arith)
    each (suc j) l = let s : i + suc j ≡ i + 1 + j = omega arith in rw s (g.same j (omega arith))

joined : {t w : List ℕ} {i b : ℕ} {r : Result ℕ ℕ} → Fits t i (b ∷ []) 1 → Spelled t (i + 1) w r → Spelled t i (b ∷ w) r
joined {t} {w} {i} {b} f (spelt g) = let s : i + 1 + length w ≡ i + suc (length w) = omega arith in rw s (spelt (longer f g))
joined {t} {w} {i} {b} f (broken {r} g l n) =
    let s : i + 1 + r ≡ i + suc r = omega arith in
    rw s (broken {r = suc r} (longer f g) (omega arith) (λ e. n (rw s e)))

pub join_no_space : {t : List ℕ} {i k : ℕ} → Spelled t i (bytes " ") (Err k) → Joins t i (Err k)
join_no_space (broken f l d) st ls a = stays (word_off (bytes " ") (joint ∷ st) refl f l d a)

module _ {t : List ℕ} {i j : ℕ} where
  module _ (s : Spelled t i (bytes " ") (Ok j)) where
    pub join_end : {k : ℕ} → k ≡ j → get_or t j 256 ≡ 256 → Joins t i (Err k)
    unfolding next begin choose
    join_end q e st ls a = rw q (go s e)
      where
        go : {j : ℕ} → Spelled t i (bytes " ") (Ok j) → get_or t j 256 ≡ 256 → Enters t (i + 1) st ls Inside (Err j)
        go (spelt f) e = stays (stuck (word_on (bytes " ") (joint ∷ st) refl f a) e refl)

    module _ {x : ℕ} (hx : x ≡ get_or t j 256) where
      pub join_plus : {r : Result ℕ ℕ} → x ≡ 43 → Spelled t j (bytes "+ ") r → Joins t i r
      unfolding next begin choose
      join_plus e p st ls a = go s hx p
        where
          go : {j : ℕ} {r : Result ℕ ℕ} → Spelled t i (bytes " ") (Ok j) → x ≡ get_or t j 256 → Spelled t j (bytes "+ ") r
              → Enters t (i + 1) st ls Inside (ended_by (λ k. Inside k Close) r)
          go (spelt f) hx p = into (bytes " + ") Close 0 refl refl refl refl refl (joint_on {b = 43} (sym e ∙ hx) refl a) (joined f p)

      pub join_geq : {r : Result ℕ ℕ} → x ≡ 62 → Spelled t j (bytes ">= ") r → Joins t i r
      unfolding next begin choose
      join_geq e p st ls a = go s hx p
        where
          go : {j : ℕ} {r : Result ℕ ℕ} → Spelled t i (bytes " ") (Ok j) → x ≡ get_or t j 256 → Spelled t j (bytes ">= ") r
              → Enters t (i + 1) st ls Inside (ended_by (λ k. Inside k Close) r)
          go (spelt f) hx p = into (bytes " >= ") Close 1 refl refl refl refl refl (joint_on {b = 62} (sym e ∙ hx) refl a) (joined f p)

      pub join_seq : {r : Result ℕ ℕ} → (x ≡ 43 → ⊥) → (x ≡ 62 → ⊥) → Spelled t j (bytes "; ") r → Joins t i r
      unfolding next begin choose
      join_seq m n p st ls a = go s hx p
        where
          other : (y : Bool) → before st (pick y (word (bytes " ") (wanted close ∷ [])) opt.none) ≡ before (lit 32 ∷ wanted close ∷ st) (pick y [] opt.none)
          other true = refl
          other false = refl

          go : {j : ℕ} {r : Result ℕ ℕ} → Spelled t i (bytes " ") (Ok j) → x ≡ get_or t j 256 → Spelled t j (bytes "; ") r
              → Enters t (i + 1) st ls Inside (ended_by (λ k. Inside k Close) r)
          go (spelt f) hx p =
              into (bytes " ; ") Close 0 refl refl refl refl refl (joint_on {b = x} hx (rw (ne_eqb x 43 m, ne_eqb x 62 n) (other (eqb x 59))) a) (joined f p)

-- ---- an expression

pub want_end : {t : List ℕ} {i k : ℕ} → k ≡ i → get_or t i 256 ≡ 256 → Wanted t i (Err k)
unfolding next begin choose starts
want_end q e l s = rw q (starts_wrong (stuck s.at e refl))

module _ {t : List ℕ} {i x : ℕ} (hx : x ≡ get_or t i 256) where
  pub want_open : {r : Result Start ℕ} → x ≡ 40 → Opens t (i + 1) r → Wanted t i r
  unfolding next begin starts choose
  want_open e p l s = go (p _ _ (rw (s.place refl) at (byte s.at (opened ∷ has l (all (levels t i))) (sym hx ∙ e) (omega arith) refl)))
    where
      go : {r : Result Start ℕ} → Enters t (i + 1) (has l (all (levels t i))) (l ∷ levels t i) Opened r → Starts t i l r
      go (enters k m h n) = opens {k = k} (omega arith) n
      go (stays o) = starts_wrong o

  word_told : (b : ℕ) (w : List ℕ) {r : Result ℕ ℕ} → x ≡ b → ((c : Stop) (st : List Sym) → next (wanted c ∷ st) b ≡ next (word w (lit (code c) ∷ st)) b)
      → plain w ≡ true → ((ls : List Level) → shut w ls ≡ ls) → 0 < length w → Spelled t i w r → Leaf t i r
  word_told b w e q p h z (spelt f) o l s =
      value {k = i + length w} (omega arith) (rw (h (levels t i)) at (word_on w (has l (all (levels t i))) p f (swap s.at _ (sym hx ∙ e) (q (stop l) _))))
  word_told b w e q p h z (broken f k d) o l s = starts_wrong (word_off w (has l (all (levels t i))) p f k d (swap s.at _ (sym hx ∙ e) (q (stop l) _)))

  pub want_true : {r : Result ℕ ℕ} → x ≡ 116 → Spelled t i (bytes "true") r → Leaf t i r
  unfolding next begin starts choose
  want_true e = word_told 116 (bytes "true") e (λ c st. refl) refl (λ ls. refl) (omega arith)

  pub want_false : {r : Result ℕ ℕ} → x ≡ 102 → Spelled t i (bytes "false") r → Leaf t i r
  unfolding next begin starts choose
  want_false e = word_told 102 (bytes "false") e (λ c st. refl) refl (λ ls. refl) (omega arith)

  pub want_skip : {r : Result ℕ ℕ} → x ≡ 115 → Spelled t i (bytes "skip") r → Leaf t i r
  unfolding next begin starts choose
  want_skip e = word_told 115 (bytes "skip") e (λ c st. refl) refl (λ ls. refl) (omega arith)

  -- a number from j on
  number_told : {r : Result ℕ ℕ} {j : ℕ} {n : Stop → Sym} → i ≤ j
      → ((c : Stop) (st : List Sym) (ls : List Level) → At t i (wanted c ∷ st) ls → At t j (n c ∷ st) ls) → Number n t j r → Leaf t i r
  number_told h g (number {r = k} n) o l s = let f = n.forth in value {k = k} (omega arith) (n.past (stop l) _ _ (g (stop l) _ _ s.at))
  number_told h g (none f) o l s = starts_wrong (f (stop l) _ _ (g (stop l) _ _ s.at))

  pub want_minus : {r : Result ℕ ℕ} → x ≡ 45 → Number positive t (i + 1) r → Leaf t i r
  unfolding next begin starts choose
  want_minus e = number_told (omega arith) (λ c st ls a. byte a (positive c ∷ st) (sym hx ∙ e) (omega arith) refl)

  -- the location's number
  pub want_location : {j : ℕ} {r : Result ℕ ℕ} → x ≡ 33 → Spelled t i (bytes "!l") (Ok j) → Number natural t j r → Leaf t i r
  unfolding next begin starts choose
  want_location e (spelt f) =
      number_told (omega arith) (λ c st ls a. word_on (bytes "!l") (natural c ∷ st) refl f (swap a (word (bytes "!l") (natural c ∷ st)) (sym hx ∙ e) refl))

  pub want_no_location : {k : ℕ} → x ≡ 33 → Spelled t i (bytes "!l") (Err k) → Leaf t i (Err k)
  unfolding next begin starts choose
  want_no_location e (broken f k d) o l s =
      starts_wrong (word_off (bytes "!l") (natural (stop l) ∷ (after l ++ all (levels t i))) refl f k d (swap s.at (word (bytes "!l") (natural (stop l) ∷ (after l ++ all (levels t i)))) (sym hx ∙ e) refl))

  pub want_number : {r : Result ℕ ℕ} → (x ≡ 45 → ⊥) → (x ≡ 116 → ⊥) → (x ≡ 102 → ⊥) → (x ≡ 115 → ⊥) → (x ≡ 33 → ⊥) → Number natural t i r → Leaf t i r
  unfolding next begin starts choose
  want_number a b c d f n o =
      number_told (omega arith)
      (λ s st ls p. swap p _ (sym hx) (rw (ne_eqb x 45 a, ne_eqb x 116 b, ne_eqb x 102 c, ne_eqb x 115 d, ne_eqb x 33 f, ne_eqb x 40 (λ e. o (sym hx ∙ e)))))
      n o

-- ---- behind an expression

module _ {t : List ℕ} {i : ℕ} {l : Level} (s : State t i l true) where
  pub has_wrong : ((k : ℕ) → get_or t k 0 < 256) → l ≡ Root → i < length t → Follows t i l (Err i)
  unfolding next begin
  has_wrong small e h = let b = small i in follows_wrong (stuck (rw e at s.at) (sym (in_range t i h)) (rw (ne_eqb (get_or t i 0) 256 (λ z. omega arith))))

  pub has_ended : l ≡ Root → length t ≤ i → Follows t i l (Ok Ended)
  unfolding next begin sticks rest
  has_ended e h =
      let a = rw e at s.at in
      let n = a.inside in
      let z : i ≡ length t = omega arith in
      let y : sticks (lit 256 ∷ all (levels t i)) (rest t i) ≡ 1 = rw (rest_cons t i n, past t i h, drop_of_length-le (t ++ 256 ∷ []) {i = i + 1} (rw length-append (omega arith))) in
      ended (omega (arith, a.fits))

  on : {r : Result Next ℕ} → inner l ≡ true → Enters t (i + 1) (all (levels t i)) (levels t i) Inside r → Follows t i l r
  on p (enters k m h n) = inside {k = k} (omega arith) p n
  on p (stays o) = follows_wrong o

  pub has_left : (r : Result ℕ ℕ) → l ≡ Left → Joins t i r → Follows t i l (ended_by (λ k. Inside k Close) r)
  has_left r e p = on (rw e) (p _ _ (rw e at s.at))

  pub has_test : {r : Result ℕ ℕ} → l ≡ Test → Spelled t i (bytes " then ") r → Follows t i l (ended_by (λ k. Inside k Then) r)
  has_test e p = on (rw e) (into (bytes " then ") Then 3 refl refl refl refl refl (rw e at s.at) p)

  pub has_branch : {r : Result ℕ ℕ} → l ≡ Then → Spelled t i (bytes " else ") r → Follows t i l (ended_by (λ k. Inside k Close) r)
  has_branch e p = on (rw e) (into (bytes " else ") Close 3 refl refl refl refl refl (rw e at s.at) p)

  pub has_turn : {r : Result ℕ ℕ} → l ≡ Turn → Spelled t i (bytes " do ") r → Follows t i l (ended_by (λ k. Inside k Body) r)
  has_turn e p = on (rw e) (into (bytes " do ") Body 1 refl refl refl refl refl (rw e at s.at) p)

  shuts : (w : List ℕ) {r : Result ℕ ℕ} → plain w ≡ true → shut w (levels t i) ≡ drop 1 (levels t i) → 0 < length w → inner l ≡ true
      → At t i (word w (all (levels t i))) (levels t i) → Spelled t i w r → Follows t i l (ended_by Closed r)
  shuts w p h z n a (spelt f) = closed {k = i + length w} (omega arith) n (rw h at (word_on w (all (levels t i)) p f a))
  shuts w p h z n a (broken f k d) = follows_wrong (word_off w (all (levels t i)) p f k d a)

  pub has_close : {r : Result ℕ ℕ} → l ≡ Close → Spelled t i (bytes ")") r → Follows t i l (ended_by Closed r)
  has_close e = shuts (bytes ")") refl refl (omega arith) (rw e) (rw e at s.at)

  pub has_body : {r : Result ℕ ℕ} → l ≡ Body → Spelled t i (bytes " done)") r → Follows t i l (ended_by Closed r)
  has_body e = shuts (bytes " done)") refl refl (omega arith) (rw e) (rw e at s.at)
