-- What is known of a stream by what was read of it.
use Rattle.std.proofs.Common.{IfSome, subst, ℕ, List, ◌++◌, Option, Some, None, sym}
use Rattle.std.specs.Io.KnownBytes.{Consumes}

-- what holds of what was read and whatever follows it holds of the stream
pub on_stream : (known left : Option (List ℕ)) (read : List ℕ) (P : List ℕ → Type 0) → Consumes known left read → ((more : List ℕ) → P (read ++ more)) → IfSome known P
on_stream None left read P e f = tt
on_stream (Some s) None read P e f = absurd e
on_stream (Some s) (Some more) read P e f = subst P (sym e) (f more)
