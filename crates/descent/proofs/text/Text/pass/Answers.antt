use Rattle.std.proofs.Common.{sym}
use Rattle.descent.proofs.Words.{behind_one}
use Rattle.descent.proofs.text.Text.pass.Goals as goal

pub returns-clause-left : goal.returns-clause-left
returns-clause-left c = sym (behind_one c.args.self.now.bytes.now c.args.self.now.at)
