-- A refusal of opening, on type or for what is lent; or the row. What was checked is the routine that was opened, by whatever view.
use Rattle.std.proofs.Common.{◌≡◌, rules, ℕ, List, Ok, Err, true}
use Rattle.std.proofs.lemmas.Result.{err_from_is_err_and}
use Rattle.stored.specs.Stages.{First}
use Rattle.stored.specs.Refusals.{admission, locations}
use Rattle.routine.specs.Says.{refusal_of}
use Rattle.routine.specs.Open.{Opened, sizes_of}
use Rattle.routine.specs.declared.Refusal.{Refusal}
use Rattle.routine.proofs.Opening.{opening_opens}
use Rattle.checker.specs.Admits.{Admits, LentSays, lent_of, suffices_of}
use Rattle.checker.specs.Says.{TypedSays}
use Rattle.checker.specs.declared.Told.{Told}
use Rattle.checker.specs.declared.admission.Lent.{Lent}
use Rattle.checker.proofs.Admitting.{faulty, lacks, admits}
use Rattle.checker.proofs.admission.admit.Goals as goal

faulty_of : {a : List ℕ} (b : List ℕ) (r : Refusal) → TypedSays a (Err r) → a ≡ b → TypedSays b (Err r)
faulty_of b r f e = rw e at f

typed_of : {a : List ℕ} (b : List ℕ) (t : Told) → TypedSays a (Ok t) → a ≡ b → TypedSays b (Ok t)
typed_of b t y e = rw e at y

lacks_by : {b : List ℕ} (o : Opened b) (lent : Lent) {t : Told} → TypedSays b (Ok t) → (m : ℕ) (r : Refusal) → LentSays lent m (Err r) → m ≡ locations b → First (admission b (lent_of b lent)) (refusal_of r)
lacks_by o lent y m r s e = lacks o lent y m r e s

admits_by : {b : List ℕ} (o : Opened b) (lent : Lent) (t : Told) → TypedSays b (Ok t) → (m : ℕ) → suffices_of lent m ≡ true → m ≡ locations b → Admits b lent (record { program = b; told = t })
admits_by o lent t y m s e = admits o lent y m e s

held_by : (b : List ℕ) (lent : Lent) (t : Told) (p : List ℕ) → p ≡ b → Admits b lent (record { program = b; told = t }) → Admits b lent (record { program = p; told = t })
held_by b lent t p e a = rw e a

pub returns-in_err-told : goal.returns-in_err-told
returns-in_err-told c =
    let b = c.args.b.now in
    let row = c.in_ok-row.ensures in
    let o : Opened b = opening_opens {z = sizes_of b} (rw row.itself at row.opening) in
    let p = err_from_is_err_and c.from_residual-in_err-told.result c.from_residual-in_err-told.ensures.1 in
    rw (p.1, p.2) (faulty o c.args.lent _ (search (rules, faulty_of)))

pub returns-in_err-suffices : goal.returns-in_err-suffices
returns-in_err-suffices c =
    let b = c.args.b.now in
    let row = c.in_ok-row.ensures in
    let o : Opened b = opening_opens {z = sizes_of b} (rw row.itself at row.opening) in
    let p = err_from_is_err_and c.from_residual-in_err-suffices.result c.from_residual-in_err-suffices.ensures.1 in
    let y : TypedSays b (Ok c.in_ok-told.told) = search (rules, typed_of) in
    rw (p.1, p.2) (lacks_by o c.args.lent y _ _ c.in_err-suffices.ensures (search rules))

pub returns : goal.returns
returns c =
    let b = c.args.b.now in
    let row = c.in_ok-row.ensures in
    let o : Opened b = opening_opens {z = sizes_of b} (rw row.itself at row.opening) in
    let y : TypedSays b (Ok c.in_ok-told.told) = search (rules, typed_of) in
    held_by _ _ _ _ (search rules) (admits_by o c.args.lent _ y _ c.in_ok-suffices.ensures (search rules))
