-- The leaf that is read, and its node.
use Rattle.std.proofs.Common.{rules, refl}
use Rattle.text_form.specs.Parser.{leaf}
use Rattle.descent.specs.Found.{expr_of}
use Rattle.descent.proofs.Trees.{nothing_yet, closes, leaf_size}
use Rattle.descent.proofs.forms.Descent.leaf.Goals as goal

pub returns : goal.returns
unfolding leaf
returns c =
    closes c.put_leaf.result (expr_of c.in_ok-leaf.leaf) (nothing_yet _ _) refl (leaf_size c.in_ok-leaf.leaf _) refl c.leaf.ensures.text (search rules) c.put_leaf.ensures
