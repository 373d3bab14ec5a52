-- The contracts of the exported reading and writing leave one answer: what is returned, the word lent, and the room or the buffer.
use Prim.Native.Nat.{ℕ}
use mathlib.Core.Path.{◌≡◌}
use mathlib.Core.List.{List}
use Rattle.text_form.proofs.OneReading.{reads_unique}
use Rattle.text_form.proofs.OneShowing.{shows_unique}
use Rattle.exports.specs.declared.Answer.{Answer}
use Rattle.exports.proofs.OneAnswer.{one_said}
use Rattle.exported_reading.specs.Says.{SaysRead, SaysWrite}

pub one_exported_read : {m : ℕ} {t room room₁ room₂ out o o' : List ℕ} {r r' : Answer}
    → SaysRead m t room out r o room₁ → SaysRead m t room out r' o' room₂ → ((r ≡ r') × (o ≡ o')) × (room₁ ≡ room₂)
one_exported_read x y = let (q, p) = reads_unique x.is_allowed y.is_allowed in (one_said x y q, p)

pub one_exported_write : {b buf buf₁ buf₂ out o o' : List ℕ} {r r' : Answer}
    → SaysWrite b buf out r o buf₁ → SaysWrite b buf out r' o' buf₂ → ((r ≡ r') × (o ≡ o')) × (buf₁ ≡ buf₂)
one_exported_write {b} x y = let (q, p) = shows_unique b x.is_allowed y.is_allowed in (one_said x y q, p)
