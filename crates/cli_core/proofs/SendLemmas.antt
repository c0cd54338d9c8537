-- A text that is sent in pieces, one after the other.
use Rattle.std.proofs.Common.{◌≡◌, ℕ, ◌≤◌, List, ◌++◌, length, Option, Result, Ok, Err, sym, subst, ◌∙◌, arith, length-append}
use Rattle.std.proofs.lemmas.List.{take-append-le}
use Rattle.std.specs.Io.KnownBytes.{Appends}
use Rattle.std.proofs.KnownBytes.{Appends-trans}
use Rattle.dns_master.specs.declared.device.DeviceFailed.{DeviceFailed}
use Rattle.cli_core.specs.Device.{AppendsFront}
use Rattle.cli_core.specs.Replies.{IsSent}
use Rattle.cli_core.proofs.JobLemmas.{front_behind}

-- a prefix of the first piece is one of the whole
pub sent_front : (a b : Option (List ℕ)) (first second : List ℕ) → AppendsFront a b first → AppendsFront a b (first ++ second)
sent_front a b first second front =
    let short : front.0 ≤ length (first ++ second) = omega (arith, front.1, length-append first second) in
    (front.0, short, subst (Appends a b) (sym (take-append-le front.0 first second front.1)) front.2)

-- the second piece was sent after the first
pub sent_behind : (a b c : Option (List ℕ)) (first second : List ℕ) (result : Result (Unit {0}) DeviceFailed) (n m k : ℕ) → Appends a b first × (m ≡ n)
    → IsSent b c second result m k → IsSent a c (first ++ second) result n k
sent_behind a b c first second (Ok done) n m k whole sent = (Appends-trans a b c first second whole.0 sent.0, sent.1 ∙ whole.1)
sent_behind a b c first second (Err failed) n m k whole sent = (front_behind a b c first second whole.0 sent.0, omega (arith, whole.1, sent.1))
