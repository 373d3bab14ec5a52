-- The answers of the check, the run and the text as C has them: what is returned, and the words that out then holds.
use Rattle.std.specs.Prelude.{ℕ, ◌≡◌, cond, List, [], ◌∷◌, Result, Ok, Err}
use Rattle.std.proofs.lemmas.List.Edits.{sets}
use Rattle.l1.specs.Store.{Store}
use Rattle.l1.specs.Judge.{type_no}
use Rattle.stored.specs.Bytes.{unsigned}
use Rattle.stored.specs.Stages.{Refusal, number}
use Rattle.stored.specs.Answers as S
use Rattle.stored.specs.Answers.{Checks, Runs, Writes}
use Rattle.routine.specs.Says.{returned, refusal_of}
use Rattle.machine.specs.declared.state.Ending.{Ending}
use Rattle.machine.specs.declared.state.Ending.TheVariants.{Int, Bool, Skip, Overflow, Fuel}
use Rattle.routine.specs.declared.Refusal as Code
use Rattle.runner.specs.declared.End.{End}
use Rattle.runner.specs.Says.{ran_of}
use Rattle.exports.specs.declared.Answer.{Answer}

-- a refusal, or words for out
pub data Handed : Type 0 where
  refuses : Refusal → Handed
  tells : List ℕ → Handed

-- what is returned: the refusal's number and what it also returns; 0 and 0 where nothing is refused
abbrev pub answer_of : Handed → Answer
answer_of (refuses r) = record { number = number r; also = returned r }
answer_of (tells w) = record { number = 0; also = 0 }

-- the words of out from its start; a refusal changes none
abbrev pub out_of : Handed → List ℕ → List ℕ
out_of (refuses r) out = out
out_of (tells w) out = sets out 0 w

-- one of the answers that are allowed, as it is told
pub record Says {A : Type 0} (allowed : A → Type 0) (told : A → Handed) (out : List ℕ) (r : Answer) (out' : List ℕ) : Type 0 where
  pub answer : A
  pub is_allowed : allowed answer
  pub is_returned : r ≡ answer_of (told answer)
  pub is_left : out' ≡ out_of (told answer) out

-- the check: the type (int 0, bool 1, unit 2), W, the read set, the write set
abbrev pub check_handed : S.Checked → Handed
check_handed (S.Checked.refuses r) = refuses r
check_handed (S.Checked.tells T w r v) = tells (type_no T ∷ w ∷ r ∷ v ∷ [])

abbrev pub SaysCheck : List ℕ → List ℕ → Answer → List ℕ → Type 0
SaysCheck b = Says (Checks b) check_handed

-- the run: the kind of its ending; the value (an integer by its two's complement of 32 bits), or the node of the overflow; T; K
abbrev pub ending_no : Ending → ℕ
ending_no (Int n) = 0
ending_no (Bool t) = 1
ending_no Skip = 2
ending_no (Overflow i) = 3
ending_no Fuel = 4

abbrev pub ending_word : Ending → ℕ
ending_word (Int n) = unsigned n
ending_word (Bool t) = cond t 1 0
ending_word Skip = 0
ending_word (Overflow i) = i
ending_word Fuel = 0

abbrev pub run_handed : Result End Code.Refusal → Handed
run_handed (Err r) = refuses (refusal_of r)
run_handed (Ok e) = tells (ending_no e.ending ∷ ending_word e.ending ∷ e.steps ∷ e.loops ∷ [])

abbrev pub SaysRun : List ℕ → Store → ℕ → List ℕ → Answer → List ℕ → Store → Type 0
SaysRun b s fuel out r out' s' = Says (λ a. Runs b s fuel (ran_of a) s') run_handed out r out'

-- the text: its length, T
abbrev pub text_handed : S.Wrote → Handed
text_handed (S.Wrote.refuses r) = refuses r
text_handed (S.Wrote.wrote n T) = tells (n ∷ T ∷ [])

abbrev pub SaysText : List ℕ → Store → ℕ → List ℕ → List ℕ → Answer → List ℕ → List ℕ → Type 0
SaysText b s k buf out r out' buf' = Says (λ a. Writes b s k buf a buf') text_handed out r out'
