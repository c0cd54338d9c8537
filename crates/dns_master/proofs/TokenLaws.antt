-- The tokens and the entries of a text tell the same of it.
use Rattle.std.proofs.Common.{◌≡◌, ℕ, List, Result, Ok, Err, refl, sym, ap}
use Rattle.dns_master.specs.declared.master_fault.MasterFault.{MasterFault}
use Rattle.dns_master.specs.declared.shape.ShapeFault.{ShapeFault}
use Rattle.dns_master.specs.Entries.{◌>>=◌, Entry, entries}
use Rattle.dns_master.specs.Faults.{on_line, on_lines}
use Rattle.dns_master.specs.Tokens.{TokenText, tokens_from, tokens_of}
use Rattle.dns_master.proofs.FilledLaws.{AreFilled, entries_filled}

lines_ok : {A : Type 0} (text : List ℕ) (r : Result A ShapeFault) (x : A) → on_lines text r ≡ Ok x → r ≡ Ok x
lines_ok text (Ok y) x e = cc
lines_ok text (Err f) x e = absurd cc

-- entries whose faults have their lines
pub entries_ok : (text : List ℕ) (es : List Entry) → on_lines text (entries text) ≡ Ok es → entries text ≡ Ok es
entries_ok text es e = lines_ok text (entries text) es e

abbrev told : List ℕ → Result (List Entry) ShapeFault → Result (List TokenText) MasterFault
told text read = on_lines text (read >>= λ es. Ok (tokens_from text 0 es))

-- the entries of tokens
pub record OfEntries (text : List ℕ) (ts : List TokenText) : Type 0 where
  pub of_entries : List Entry
  pub read : entries text ≡ Ok of_entries
  pub filled : AreFilled of_entries
  pub tokens : ts ≡ tokens_from text 0 of_entries

told_ok : (text : List ℕ) (read : Result (List Entry) ShapeFault) (ts : List TokenText) → told text read ≡ Ok ts → (es : List Entry) × (read ≡ Ok es) × (ts ≡ tokens_from text 0 es)
told_ok text (Ok es) ts e = (es, refl, let same : tokens_from text 0 es ≡ ts = cc in sym same)
told_ok text (Err f) ts e = absurd cc

pub tokens_entries : (text : List ℕ) (ts : List TokenText) → tokens_of text ≡ Ok ts → OfEntries text ts
tokens_entries text ts e =
    let t = told_ok text (entries text) ts e in
    record { of_entries = t.0; read = t.1; filled = entries_filled text t.0 t.1; tokens = t.2 }

told_fault : (text : List ℕ) (read : Result (List Entry) ShapeFault) (fault : MasterFault) → told text read ≡ Err fault → on_lines text read ≡ Err fault
told_fault text (Ok es) fault e = absurd cc
told_fault text (Err f) fault e = let same : on_line text f ≡ fault = cc in ap (λ (m : MasterFault). Err m) same

pub entries_fault : (text : List ℕ) (fault : MasterFault) → tokens_of text ≡ Err fault → on_lines text (entries text) ≡ Err fault
entries_fault text fault e = told_fault text (entries text) fault e
