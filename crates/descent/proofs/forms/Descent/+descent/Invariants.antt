-- The measure is three times the levels, two more for a form, whose parts are read with the same levels, and one more for a part.
use Rattle.std.proofs.Common.{◌+◌, ◌*◌}
use Rattle.descent.proofs.forms.Descent.+descent.Given as goal

abbrev pub decreases-assign_form : goal.decreases-assign_form
decreases-assign_form l = 3 * l.room.levels + 2

abbrev pub decreases-expression : goal.decreases-expression
decreases-expression l = 3 * l.room.levels

abbrev pub decreases-if_form : goal.decreases-if_form
decreases-if_form l = 3 * l.room.levels + 2

abbrev pub decreases-part : goal.decreases-part
decreases-part l = 3 * l.room.levels + 1

abbrev pub decreases-sides : goal.decreases-sides
decreases-sides l = 3 * l.room.levels + 2

abbrev pub decreases-while_form : goal.decreases-while_form
decreases-while_form l = 3 * l.room.levels + 2
