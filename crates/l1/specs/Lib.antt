-- L1 as the papers define it. In the order of reading:
pub mod Syntax  -- 2.3: the grammar, values, types
pub mod Store  -- 2.3: stores
pub mod Range  -- 01: the integers of 32 bits
pub mod Typing  -- 2.3: Γ ⊢ e : T
pub mod Steps  -- 2.3: ⟨e, s⟩ → ⟨e', s'⟩, the thirteen rules
pub mod Overflow  -- 01: the next act is a sum out of range
pub mod Run  -- 01: T, K, and what a run with fuel yields
pub mod Enclosing  -- 02: how many forms enclose the place of the next step
pub mod Measures  -- 01: nodes, W, loops, the limit on steps; 02: places
pub mod Sets  -- 01: read set and write set
pub mod Text  -- 01: the text of an expression
pub mod Refused  -- 01: refusals 20 to 23, of a tree
pub mod Judge  -- Refused, computed
pub mod Next  -- what is next, and the same computed
pub mod RunOf  -- Run, computed
pub mod Course  -- 01: the rows of the training course marked P
