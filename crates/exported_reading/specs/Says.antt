-- The answers of the reader and the writer as C has them: what is returned, and the word that out then holds.
use Rattle.std.specs.Prelude.{ℕ, List, [], ◌∷◌}
use Rattle.text_form.specs.Reading as R
use Rattle.text_form.specs.Reading.{Reads}
use Rattle.text_form.specs.Showing as W
use Rattle.text_form.specs.Showing.{Shows}
use Rattle.exports.specs.declared.Answer.{Answer}
use Rattle.exports.specs.Says.{Handed, refuses, tells, Says}

-- the reader: the length of the routine
abbrev pub taken_handed : R.Taken → Handed
taken_handed (R.Taken.refuses r) = refuses r
taken_handed (R.Taken.taken n) = tells (n ∷ [])

abbrev pub SaysRead : ℕ → List ℕ → List ℕ → List ℕ → Answer → List ℕ → List ℕ → Type 0
SaysRead m t room out r out' room' = Says (λ a. Reads m t room a room') taken_handed out r out'

-- the writer: the length of the text
abbrev pub shown_handed : W.Shown → Handed
shown_handed (W.Shown.refuses r) = refuses r
shown_handed (W.Shown.shown n) = tells (n ∷ [])

abbrev pub SaysWrite : List ℕ → List ℕ → List ℕ → Answer → List ℕ → List ℕ → Type 0
SaysWrite b buf out r out' buf' = Says (λ a. Shows b buf a buf') shown_handed out r out'
