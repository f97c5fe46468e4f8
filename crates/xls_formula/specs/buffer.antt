-- How the code keeps the texts of the operands, for the proof that they are those of the tree. What
-- the contracts of public calls say doesn't depend on it.
pub mod Put
pub mod Steps
