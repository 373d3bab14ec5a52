-- The word is the text of its value, or of no number.
use Rattle.std.proofs.Common.{sym, ◌∙◌}
use Rattle.std.proofs.lemmas.Bool.Decides.{Decides-eqb}
use Rattle.std.proofs.lemmas.Slice.Eq.{slice_eq-Decides}
use Rattle.l1.proofs.Clash.{clash}
use Rattle.arguments.proofs.Words.{no_value, no_text}
use Rattle.arguments.proofs.natural_in.Goals as goal

pub returns-in_err-n : goal.returns-in_err-n
returns-in_err-n c = rw c.from_residual.ensures (no_value _ c.in_err-n.ensures)

pub returns-else-eq : goal.returns-else-eq
returns-else-eq c =
    λ n l. no_text _ c.in_ok-n.ensures.0 (λ e. clash (sym c.if-eq.false ∙ (slice_eq-Decides Decides-eqb _ _ _ c.eq.ensures).1 (e ∙ sym c.text_of.ensures))) n
