-- How words end over streams, by what is known of the devices that count their failures.
use Rattle.std.proofs.Common.{◌≡◌, ℕ, List, Option, subst}
use Rattle.cli_store.specs.Around.{Around, Callers}
use Rattle.cli_store.specs.Stores.{StoresOf}
use Rattle.wire_tcp.specs.Connections.{Writing}
use Rattle.cli_store.specs.Program.{Reading, WordsEnd, IsRun}

abbrev reading : Option (List ℕ) → Option (List ℕ) → ℕ → ℕ → Reading
reading left rest before after = record { left = left; rest = rest; before = before; after = after }

abbrev writing : Option (List ℕ) → Option (List ℕ) → ℕ → ℕ → Writing
writing old new before after = record { old = old; new = new; before = before; after = after }

module _ {C H P : Type 0} (p : Callers H P) (s : StoresOf C) (words : List (List ℕ)) (status : ℕ) where
  -- devices that count from none on, over streams
  pub run_counted : (a : Around H) (conn : Option C) (reads writes fails : ℕ) {left left2 rest rest2 old old2 new new2 trace trace2 after after2 : Option (List ℕ)} {m n k : ℕ}
      → left ≡ left2 → rest ≡ rest2 → m ≡ 0 → old ≡ old2 → new ≡ new2 → n ≡ 0 → trace ≡ trace2 → after ≡ after2 → k ≡ 0
      → WordsEnd a p s (record { left = left; rest = rest; before = m; after = reads }) (record { old = old; new = new; before = n; after = writes })
      (record { old = trace; new = after; before = k; after = fails }) words conn status
      → IsRun a p s conn left2 rest2 old2 new2 trace2 after2 words status
  run_counted a conn reads writes fails {left} {left2} {rest} {rest2} {old} {old2} {new} {new2} {trace} {trace2} {after} {after2} {m} {n} {k} l r b o w z t u q ends =
      let i : reading left rest m reads ≡ reading left2 rest2 0 reads = λ j. reading (l j) (r j) (b j) reads in
      let out : writing old new n writes ≡ writing old2 new2 0 writes = λ j. writing (o j) (w j) (z j) writes in
      let err : writing trace after k fails ≡ writing trace2 after2 0 fails = λ j. writing (t j) (u j) (q j) fails in
      let first = subst (λ (x : Writing). WordsEnd a p s (reading left rest m reads) (writing old new n writes) x words conn status) err ends in
      let second = subst (λ (x : Writing). WordsEnd a p s (reading left rest m reads) x (writing trace2 after2 0 fails) words conn status) out first in
      (reads, writes, fails, subst (λ (x : Reading). WordsEnd a p s x (writing old2 new2 0 writes) (writing trace2 after2 0 fails) words conn status) i second)

  -- and readers that keep what they read
  pub run_kept : (a : Around H) (conn : Option C) (old new trace after : Option (List ℕ)) {left left2 rest rest2 : Option (List ℕ)} → left ≡ left2 → rest ≡ rest2
      → IsRun a p s conn left rest old new trace after words status → IsRun a p s conn left2 rest2 old new trace after words status
  run_kept a conn old new trace after {left} {left2} {rest} {rest2} l r run =
      subst (λ (x : Option (List ℕ)). IsRun a p s conn left2 x old new trace after words status) r
      (subst (λ (x : Option (List ℕ)). IsRun a p s conn x rest old new trace after words status) l run)
