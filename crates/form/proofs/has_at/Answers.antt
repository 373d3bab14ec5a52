-- Each level has the word that goes on with its form, or the byte that ends it.
use Rattle.std.proofs.Common.{arith, Ok, Err}
use Rattle.form.specs.Places.{Follows}
use Rattle.form.proofs.Telling as tell
use Rattle.form.proofs.Numbers.{exit}
use Rattle.form.proofs.has_at.Goals as goal

pub returns-in-Root : goal.returns-in-Root
returns-in-Root c = tell.has_wrong c.requires (λ k. omega (arith, c.type_inv.t k)) c.in-Root.is c.if-i-t.true

pub returns-in-Root-2 : goal.returns-in-Root-2
returns-in-Root-2 c = tell.has_ended c.requires c.in-Root.is c.if-i-t.false

pub returns-in_err-joint-in-Left : goal.returns-in_err-joint-in-Left
returns-in_err-joint-in-Left c = exit (Follows _ _ _) _ c.from_residual.ensures.1 (tell.has_left c.requires (Err _) c.in-Left.is c.in_err-joint-in-Left.ensures)

pub returns-in_ok-joint-in-Left : goal.returns-in_ok-joint-in-Left
returns-in_ok-joint-in-Left c = tell.has_left c.requires (Ok _) c.in-Left.is c.in_ok-joint-in-Left.ensures

pub returns-in_err-word-in-Close : goal.returns-in_err-word-in-Close
returns-in_err-word-in-Close c = exit (Follows _ _ _) _ c.from_residual-in_err-word-in-Close.ensures.1 (tell.has_close c.requires c.in-Close.is c.in_err-word-in-Close.ensures)

pub returns-in_ok-word-in-Close : goal.returns-in_ok-word-in-Close
returns-in_ok-word-in-Close c = tell.has_close c.requires c.in-Close.is c.in_ok-word-in-Close.ensures

pub returns-in_err-word-in-Test : goal.returns-in_err-word-in-Test
returns-in_err-word-in-Test c = exit (Follows _ _ _) _ c.from_residual-in_err-word-in-Test.ensures.1 (tell.has_test c.requires c.in-Test.is c.in_err-word-in-Test.ensures)

pub returns-in_ok-word-in-Test : goal.returns-in_ok-word-in-Test
returns-in_ok-word-in-Test c = tell.has_test c.requires c.in-Test.is c.in_ok-word-in-Test.ensures

pub returns-in_err-word-in-Then : goal.returns-in_err-word-in-Then
returns-in_err-word-in-Then c = exit (Follows _ _ _) _ c.from_residual-in_err-word-in-Then.ensures.1 (tell.has_branch c.requires c.in-Then.is c.in_err-word-in-Then.ensures)

pub returns-in_ok-word-in-Then : goal.returns-in_ok-word-in-Then
returns-in_ok-word-in-Then c = tell.has_branch c.requires c.in-Then.is c.in_ok-word-in-Then.ensures

pub returns-in_err-word-in-Turn : goal.returns-in_err-word-in-Turn
returns-in_err-word-in-Turn c = exit (Follows _ _ _) _ c.from_residual-in_err-word-in-Turn.ensures.1 (tell.has_turn c.requires c.in-Turn.is c.in_err-word-in-Turn.ensures)

pub returns-in_ok-word-in-Turn : goal.returns-in_ok-word-in-Turn
returns-in_ok-word-in-Turn c = tell.has_turn c.requires c.in-Turn.is c.in_ok-word-in-Turn.ensures

pub returns-in_err-word-in-Body : goal.returns-in_err-word-in-Body
returns-in_err-word-in-Body c = exit (Follows _ _ _) _ c.from_residual-in_err-word-in-Body.ensures.1 (tell.has_body c.requires c.in-Body.is c.in_err-word-in-Body.ensures)

pub returns-in_ok-word-in-Body : goal.returns-in_ok-word-in-Body
returns-in_ok-word-in-Body c = tell.has_body c.requires c.in-Body.is c.in_ok-word-in-Body.ensures
