-- What is appended to a row of octets, unless memory runs out.
use Rattle.std.specs.Prelude.{◌≡◌, ℕ, ◌≤◌, List, [], ◌∷◌, ◌++◌, length, take, zero, suc, Result, OnOk, OnErr}
use Rattle.std.specs.Global.{Vec}
use Rattle.std.specs.Vec.{vec_capacity}
use Rattle.std.specs.declared.alloc.AllocError.{AllocError}

-- A text stands after what stood there; where memory ran out, what stood there still stands in front. There is no less room.
pub record Appends (old new : Vec ℕ) (text : List ℕ) (result : Result (Unit {0}) AllocError) : Type 0 where
  pub ok : OnOk result (new.items ≡ old.items ++ text)
  pub front : OnErr result (take (length old.items) new.items ≡ old.items)
  pub capacity : vec_capacity old ≤ vec_capacity new

-- the comma before the item of this number, from 0
abbrev pub comma_before : ℕ → List ℕ
comma_before zero = []
comma_before (suc n) = 44 ∷ []
