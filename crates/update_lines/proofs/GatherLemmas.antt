-- Tokens that are gathered by their entry.
use Rattle.std.proofs.Common.{◌≡◌, ℕ, suc, ◌+◌, Bool, true, false, cond, eqb, List, [], ◌∷◌, ◌++◌, length, map, take, drop, Result, Ok, Err, refl, sym, ap, subst, ◌∙◌, arith, append_assoc, append-nil, eqb-true, eq-eqb, Option, Some, None, ◌<◌, ◌≤◌, get_or, length-drop}
use Rattle.std.proofs.lemmas.List.Sums.{prefix_len-le-length}
use Rattle.std.proofs.Math.Seq.{drop-cons, drop-drop}
use Rattle.std.specs.List.{prefix_len}
use Rattle.dns_data.specs.Items.{ItemText, item_of}
use Rattle.dns_master.specs.declared.token.Token.{Token}
use Rattle.dns_master.specs.Tokens.{token_of}
use Rattle.zone_core.specs.declared.update.Prerequisite.{Prerequisite}
use Rattle.zone_core.specs.declared.update.Operation.{Operation}
use Rattle.zone_core.specs.Updates.{UpdateOf}
use Rattle.update_lines.specs.declared.items_fault.ItemsFault.{ItemsFault}
use Rattle.update_lines.specs.declared.item.UpdateItem.{UpdateItem}
use Rattle.update_lines.specs.declared.items_fault.ItemsFault.TheVariants as faults
use Rattle.update_lines.specs.ItemFaults.{◌>>=◌, Refuses}
use Rattle.update_lines.specs.Reading.{EntryLine, update_item, no_items, one_item, behind, or_bad_line, lists_in}
use Rattle.update_lines.specs.Views.{entry_of, before, gathered}

-- how many tokens are of an entry
abbrev pub run : ℕ → List Token → ℕ
run entry ts = prefix_len (λ t. eqb t.entry entry) ts

abbrev lined : ℕ → List ItemText → EntryLine
lined line items = record { line = line; items = items }

one_more : (t u : Token) (ts : List Token) (es : List EntryLine) (items : List ItemText) → eqb u.entry t.entry ≡ true → gathered (map token_of (u ∷ ts)) ≡ lined u.line (item_of u.item ∷ items) ∷ es
    → before (eqb u.entry t.entry) (token_of t) (gathered (map token_of (u ∷ ts))) ≡ lined t.line (item_of t.item ∷ item_of u.item ∷ items) ∷ es
one_more t u ts es items same e =
    ap (λ (b : Bool). before b (token_of t) (gathered (map token_of (u ∷ ts)))) same ∙ ap (before true (token_of t)) e

none_more : (t u : Token) (es : List EntryLine) → eqb u.entry t.entry ≡ false → before (eqb u.entry t.entry) (token_of t) es ≡ lined t.line (item_of t.item ∷ []) ∷ es
none_more t u es other = ap (λ (b : Bool). before b (token_of t) es) other

-- the tokens of an entry are gathered, and then those after them
pub gathered_first : (t : Token) (ts : List Token) → gathered (map token_of (t ∷ ts)) ≡ lined t.line (item_of t.item ∷ entry_of (take (run t.entry ts) ts)) ∷ gathered (map token_of (drop (run t.entry ts) ts))
gathered_first t [] = refl
gathered_first t (u ∷ ts) = by_entry (eqb u.entry t.entry) refl (gathered_first u ts)
  where
    by_entry : (same : Bool) → eqb u.entry t.entry ≡ same
        → gathered (map token_of (u ∷ ts)) ≡ lined u.line (item_of u.item ∷ entry_of (take (run u.entry ts) ts)) ∷ gathered (map token_of (drop (run u.entry ts) ts))
        → gathered (map token_of (t ∷ u ∷ ts)) ≡ lined t.line (item_of t.item ∷ entry_of (take (run t.entry (u ∷ ts)) (u ∷ ts))) ∷ gathered (map token_of (drop (run t.entry (u ∷ ts)) (u ∷ ts)))
    by_entry true same later =
        let is : u.entry ≡ t.entry = eqb-true u.entry t.entry same in
        let n : run t.entry (u ∷ ts) ≡ 1 + run u.entry ts = ap (λ (b : Bool). cond b (1 + run t.entry ts) 0) same ∙ ap (λ (e : ℕ). 1 + run e ts) (sym is) in
        let m : 1 + run u.entry ts ≡ suc (run u.entry ts) = omega arith in
        rw (n, m) (one_more t u ts _ _ same later)
    by_entry false same later =
        let n : run t.entry (u ∷ ts) ≡ 0 = ap (λ (b : Bool). cond b (1 + run t.entry ts) 0) same in
        rw n (none_more t u (gathered (map token_of (u ∷ ts))) same)

-- the first token is of its own entry
whole_first : (t : Token) (ts : List Token) → gathered (map token_of (t ∷ ts)) ≡ lined t.line (entry_of (take (run t.entry (t ∷ ts)) (t ∷ ts))) ∷ gathered (map token_of (drop (run t.entry (t ∷ ts)) (t ∷ ts)))
whole_first t ts =
    let m : 1 + run t.entry ts ≡ suc (run t.entry ts) = omega arith in
    rw (eq-eqb t.entry t.entry refl, m) (gathered_first t ts)

-- ---- the items of entries, one entry after the other

-- what is read of the entries after those of lists
abbrev pub then_lists : UpdateOf → Result UpdateOf ItemsFault → Result UpdateOf ItemsFault
then_lists front read = read >>= λ back. Ok (behind front back)

behind_assoc : (a b d : UpdateOf) → behind a (behind b d) ≡ behind (behind a b) d
behind_assoc a b d =
    ap (λ (ps : List Prerequisite). record { prerequisites = ps; operations = a.operations ++ (b.operations ++ d.operations) }) (sym (append_assoc a.prerequisites b.prerequisites d.prerequisites))
    ∙ ap (λ (ops : List Operation). record { prerequisites = (a.prerequisites ++ b.prerequisites) ++ d.prerequisites; operations = ops }) (sym (append_assoc a.operations b.operations d.operations))

then_both : (a b : UpdateOf) (read : Result UpdateOf ItemsFault) → then_lists a (then_lists b read) ≡ then_lists (behind a b) read
then_both a b (Ok lists) = ap (λ (u : UpdateOf). Ok u) (behind_assoc a b lists)
then_both a b (Err fault) = refl

behind_none : (a : UpdateOf) → behind a no_items ≡ a
behind_none a =
    ap (λ (ps : List Prerequisite). record { prerequisites = ps; operations = a.operations ++ [] }) (append-nil a.prerequisites)
    ∙ ap (λ (ops : List Operation). record { prerequisites = a.prerequisites; operations = ops }) (append-nil a.operations)

-- an entry that is an item
entry_read : (e : EntryLine) (es : List EntryLine) (item : UpdateItem) → update_item e.items ≡ Some item → lists_in (e ∷ es) ≡ then_lists (one_item item) (lists_in es)
entry_read e es item is = ap (λ (o : Option UpdateItem). or_bad_line e.line o >>= λ x. lists_in es >>= λ others. Ok (behind (one_item x) others)) is

-- a step that is refused
pub refused_in : {A B : Type 0} (step : Result A ItemsFault → Result B ItemsFault) → ((f : ItemsFault) → step (Err f) ≡ Err f) → (fault : ItemsFault) (read : Result A ItemsFault) → Refuses fault read → Refuses fault (step read)
refused_in step keeps faults.NoMemory read h = tt
refused_in step keeps (faults.BadLine line) read h = ap step h ∙ keeps (faults.BadLine line)
refused_in step keeps (faults.Update f) read h = ap step h ∙ keeps (faults.Update f)

-- the tokens from one on
module _ (all : Result UpdateOf ItemsFault) (front : UpdateOf) (ts rest : List Token) (at n : ℕ) (d : Token) (h : at < length ts) (from : rest ≡ drop at ts) (len : n ≡ run (get_or ts at d).entry rest) (so_far : all ≡ then_lists front (lists_in (gathered (map token_of (drop at ts))))) where
  abbrev line : ℕ
  line = (get_or ts at d).line

  abbrev entry : List ItemText
  entry = entry_of (take n rest)

  abbrev later : List EntryLine
  later = gathered (map token_of (drop n rest))

  first_entry : gathered (map token_of (drop at ts)) ≡ lined (get_or ts at d).line (entry_of (take n rest)) ∷ gathered (map token_of (drop n rest))
  first_entry =
      let cut : drop at ts ≡ get_or ts at d ∷ drop (suc at) ts = drop-cons ts at d h in
      let whole = whole_first (get_or ts at d) (drop (suc at) ts) in
      rw (len, from, cut) whole

  pub entry_within : at + n ≤ length ts
  entry_within =
      omega (arith, len, prefix_len-le-length (λ (t : Token). eqb t.entry (get_or ts at d).entry) rest, ap length from, length-drop at ts)

  ok_of : (read : Option UpdateItem) (item : UpdateItem) → or_bad_line line read ≡ Ok item → read ≡ Some item
  ok_of None item e = absurd cc
  ok_of (Some x) item e = let same : x ≡ item = cc in ap (λ (y : UpdateItem). Some y) same

  pub lists_more : (item : UpdateItem) (next : UpdateOf) → or_bad_line (get_or ts at d).line (update_item (entry_of (take n rest))) ≡ Ok item → next ≡ behind front (one_item item) → all ≡ then_lists next (lists_in (gathered (map token_of (drop (at + n) ts))))
  lists_more item next is e =
      let behind_it : drop n rest ≡ drop (at + n) ts = ap (drop n) from ∙ drop-drop n at ts in
      so_far ∙ ap (λ (es : List EntryLine). then_lists front (lists_in es)) first_entry ∙ ap (then_lists front) (entry_read (lined line entry) later item (ok_of (update_item entry) item is))
      ∙ then_both front (one_item item) (lists_in later) ∙ ap (λ (u : UpdateOf). then_lists u (lists_in later)) (sym e)
      ∙ ap (λ (us : List Token). then_lists next (lists_in (gathered (map token_of us)))) behind_it

  pub lists_refused : (fault : ItemsFault) → Refuses fault (or_bad_line (get_or ts at d).line (update_item (entry_of (take n rest)))) → Refuses fault all
  lists_refused fault none =
      subst (Refuses fault) (sym (so_far ∙ ap (λ (es : List EntryLine). then_lists front (lists_in es)) first_entry))
      (refused_in (λ (read : Result UpdateItem ItemsFault). then_lists front (read >>= λ x. lists_in later >>= λ others. Ok (behind (one_item x) others))) (λ f. refl) fault (or_bad_line line (update_item entry)) none)
