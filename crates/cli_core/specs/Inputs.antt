-- What is known of an input.
use Rattle.std.specs.Prelude.{ℕ, List, Option}

-- what there is to read, that it did not fail, and that it did
pub record InputOf : Type 1 where
  pub left : Option (List ℕ)
  pub fine : Type 0
  pub failed : Type 0
