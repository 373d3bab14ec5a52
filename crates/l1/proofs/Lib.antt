-- The laws of L1, from the leaves up.
pub mod Clash  -- false is not true
pub mod Range  -- in range or out of range, and not both
pub mod Values  -- a value makes no step and no overflow
pub mod Determinism  -- one step at most
pub mod OneAct  -- one of value, overflow and step at most
pub mod Progress  -- of a typed row, exactly one
pub mod Membership  -- lists of locations as sets
pub mod Preservation  -- what a step keeps
pub mod Declared  -- a typed row uses declared locations alone
pub mod SetWords  -- the words of the read set and the write set
pub mod Decimal  -- the digits of a number: no leading zeros, `-` exactly before a negative one
pub mod Runs  -- steps in a row
pub mod Bound  -- T ≤ W + K × (W + 2)
pub mod Places  -- the forms around the place of the next step are never more than the row's places
pub mod Outcomes  -- exactly one answer of a run with fuel, and what it says
pub mod Next  -- the computed next act is the next act
pub mod RunOf  -- the computed run is the run
pub mod NeverStuck  -- demand 3, of every moment
pub mod Nodes  -- where the nodes of a tree stand
pub mod Depth  -- a tree has fewer places than it is deep, and how much deeper it can be
pub mod OwnNumbers  -- each operator carries the number of its own node
pub mod NodeSums  -- W and the two sets as sums over the nodes
pub mod TypeUnique  -- one type at most
pub mod Faults  -- the computed fault of one node
pub mod Verdict  -- a type, or one refusal at one node
pub mod Course  -- the course rows marked P are right
pub mod LongerStore  -- a longer store changes nothing of a run
