-- The tokens of entries are gathered to these entries.
use Rattle.std.proofs.Common.{◌≡◌, ℕ, suc, ◌<◌, Bool, true, false, List, [], ◌∷◌, ◌++◌, length, map, Result, Ok, Err, refl, sym, ap, ◌∙◌, arith, eq-eqb, ne_eqb}
use Rattle.dns_master.specs.declared.master_fault.MasterFault.{MasterFault}
use Rattle.dns_master.specs.declared.master_fault.MasterFault.TheVariants as masters
use Rattle.dns_master.specs.Entries.{Found, Entry}
use Rattle.dns_master.specs.Faults as master
use Rattle.dns_master.specs.Faults.{on_lines}
use Rattle.dns_master.specs.Tokens.{TokenText, token_at, tokens_from, tokens_of}
use Rattle.dns_master.proofs.FilledLaws.{AreFilled}
use Rattle.dns_master.proofs.TokenLaws.{tokens_entries, entries_fault}
use Rattle.zone_core.specs.Updates.{UpdateOf}
use Rattle.update_lines.specs.declared.items_fault.ItemsFault.{ItemsFault}
use Rattle.update_lines.specs.ItemFaults.{◌>>=◌, Refuses, of_shape, of_shapes}
use Rattle.update_lines.specs.Reading.{EntryLine, entry_line, lists_in, lists_of}
use Rattle.update_lines.specs.Views.{goes_on, before, gathered}

-- the entries after one begin with another number
goes_not_on : (text : List ℕ) (k : ℕ) (es : List Entry) → AreFilled es → goes_on k (tokens_from text (suc k) es) ≡ false
goes_not_on text k [] h = refl
goes_not_on text k (e ∷ es) h = first_other e.items h.0
  where
    first_other : (fs : List Found) → 0 < length fs → goes_on k (map (token_at text (suc k)) fs ++ tokens_from text (suc (suc k)) es) ≡ false
    first_other [] some = absurd (omega arith)
    first_other (f ∷ fs) some = ne_eqb (suc k) k (λ e. omega arith)

one_entry : (text : List ℕ) (k : ℕ) (white : Bool) (f : Found) (fs : List Found) (es : List Entry) → AreFilled es
    → gathered (map (token_at text k) (f ∷ fs) ++ tokens_from text (suc k) es) ≡ entry_line text (record { white = white; items = f ∷ fs }) ∷ gathered (tokens_from text (suc k) es)
one_entry text k white f [] es h = ap (λ (b : Bool). before b (token_at text k f) (gathered (tokens_from text (suc k) es))) (goes_not_on text k es h)
one_entry text k white f (g ∷ fs) es h =
    ap (λ (b : Bool). before b (token_at text k f) (gathered (map (token_at text k) (g ∷ fs) ++ tokens_from text (suc k) es))) (eq-eqb k k refl)
    ∙ ap (before true (token_at text k f)) (one_entry text k white g fs es h)

pub gathered_entries : (text : List ℕ) (k : ℕ) (es : List Entry) → AreFilled es → gathered (tokens_from text k es) ≡ map (entry_line text) es
gathered_entries text k [] h = refl
gathered_entries text k (e ∷ es) h = of_items e.white e.items h.0 (gathered_entries text (suc k) es h.1)
  where
    of_items : (white : Bool) (fs : List Found) → 0 < length fs → gathered (tokens_from text (suc k) es) ≡ map (entry_line text) es
        → gathered (map (token_at text k) fs ++ tokens_from text (suc k) es) ≡ entry_line text (record { white = white; items = fs }) ∷ map (entry_line text) es
    of_items white [] some later = absurd (omega arith)
    of_items white (f ∷ fs) some later =
        one_entry text k white f fs es h.1 ∙ ap (λ (ls : List EntryLine). entry_line text (record { white = white; items = f ∷ fs }) ∷ ls) later

-- ---- what is told of the tokens is told of the entries

abbrev listed : List ℕ → Result (List Entry) MasterFault → Result UpdateOf ItemsFault
listed text read = of_shapes read >>= λ es. lists_in (map (entry_line text) es)

-- the lists of a text are those of its tokens
pub lists_of_tokens : (text : List ℕ) (ts : List TokenText) → tokens_of text ≡ Ok ts → lists_of text ≡ lists_in (gathered ts)
lists_of_tokens text ts e =
    let t = tokens_entries text ts e in
    ap (λ r. listed text (on_lines text r)) t.read ∙ ap lists_in (sym (gathered_entries text 0 t.of_entries t.filled) ∙ ap gathered (sym t.tokens))

lists_fault : (text : List ℕ) (fault : MasterFault) → tokens_of text ≡ Err fault → lists_of text ≡ Err (of_shape fault)
lists_fault text fault e = ap (listed text) (entries_fault text fault e)

-- a refusal of the tokens is one of the lists
pub lists_refused_by : (text : List ℕ) (fault : MasterFault) → master.Refuses fault (tokens_of text) → Refuses (of_shape fault) (lists_of text)
lists_refused_by text (masters.ParenOpen line) h = lists_fault text (masters.ParenOpen line) h
lists_refused_by text (masters.ParenClose line) h = lists_fault text (masters.ParenClose line) h
lists_refused_by text (masters.QuoteOpen line) h = lists_fault text (masters.QuoteOpen line) h
lists_refused_by text (masters.NoOwner line) h = lists_fault text (masters.NoOwner line) h
lists_refused_by text (masters.NoTtl line) h = lists_fault text (masters.NoTtl line) h
lists_refused_by text (masters.ClassNotIn line) h = lists_fault text (masters.ClassNotIn line) h
lists_refused_by text (masters.DirectiveNotKept line) h = lists_fault text (masters.DirectiveNotKept line) h
lists_refused_by text (masters.BadTtl line) h = lists_fault text (masters.BadTtl line) h
lists_refused_by text (masters.Data line fault) h = lists_fault text (masters.Data line fault) h
lists_refused_by text masters.TooLarge h = tt
lists_refused_by text (masters.EntryShort line) h = lists_fault text (masters.EntryShort line) h
lists_refused_by text masters.WriteFailed h = tt
lists_refused_by text masters.NoMemory h = tt
