-- What a test of records leaves of the listing of a set, and of what two sets differ in.
use Rattle.std.proofs.Common.{◌≡◌, List, [], ◌∷◌, length, map, Bool, false, cond, not, Option, Some, None, refl, sym, ap, ◌∙◌}
use Rattle.std.specs.List.{filter}
use Rattle.std.specs.Option.{option_map_or}
use Rattle.std.specs.FinMap.{get, entries, empty, get-empty, len-empty, len-entries}
use Rattle.dns_data.specs.declared.record.Record.{Record}
use Rattle.zone_core.specs.Sets.{Records, Key, key_cmp, listing, part, same_ttl, minus}
use Rattle.zone_core.specs.Zones.{AreKept}
use Rattle.zone_core.proofs.SetLemmas.{get-part}
use Rattle.zone_core.proofs.RowLemmas.{listing_of, InOrder-filter}
use Rattle.zone_core.proofs.ChangeLemmas.{sifted, same_ttl_self}
use Rattle.zone_core.proofs.ChangedLemmas.{listed, kept_in_part}

-- whether a test passes what is found
abbrev pub passes : (Record → Bool) → Option Record → Bool
passes f o = option_map_or f o false

abbrev pub found_by : (Record → Bool) → Records → Key → Bool
found_by f a k = passes f (get a k)

-- a filter of the listing lists a part
pub filtered : (a : Records) → AreKept a → (f : Record → Bool) → filter f (listing a) ≡ listing (part a (found_by f a))
filtered a kept f =
    let rows = listed a kept in
    sym (listing_of (filter f (listing a)) (InOrder-filter f (listing a) rows.order))
    ∙ ap (λ (s : Records). listing s) (sifted (λ x y. passes f x) (listing a) rows.order a ∙ ap (λ (s : Records). part s (found_by f s)) rows.set)

pub part_same : (a b : Records) (p : Key → Bool) (k : Key) → get a k ≡ get b k → get (part a p) k ≡ get (part b p) k
part_same a b p k e = get-part a p k ∙ ap (λ (o : Option Record). cond (p k) o None) e ∙ sym (get-part b p k)

pub minus_kept : (a b : Records) → AreKept a → AreKept (minus a b)
minus_kept a b kept = kept_in_part a (λ j. not (same_ttl (get a j) (get b j))) kept

pub minus_same : (a b c d : Records) (k : Key) → get a k ≡ get b k → get c k ≡ get d k → get (minus a c) k ≡ get (minus b d) k
minus_same a b c d k e g =
    get-part a (λ j. not (same_ttl (get a j) (get c j))) k ∙ (λ i. cond (not (same_ttl (e i) (g i))) (e i) None) ∙ sym (get-part b (λ j. not (same_ttl (get b j) (get d j))) k)

-- a set without records
abbrev pub bare : Records
bare = empty

pub minus_none : (a b : Records) (k : Key) → get a k ≡ get b k → get (minus a b) k ≡ get bare k
minus_none a b k e =
    get-part a (λ j. not (same_ttl (get a j) (get b j))) k ∙ ap (λ (o : Option Record). cond (not (same_ttl (get a k) o)) (get a k) None) (sym e)
    ∙ ap (λ t. cond (not t) (get a k) None) (same_ttl_self (get a k)) ∙ sym (get-empty key_cmp k)

pub bare_kept : AreKept bare
bare_kept k r e = let f : None ≡ Some r = sym (get-empty key_cmp k) ∙ e in absurd cc

pub nothing_listed : listing bare ≡ []
nothing_listed = none (entries bare) (sym (len-entries bare) ∙ len-empty key_cmp Record)
  where
    none : (es : List (Key × Record)) → length es ≡ 0 → map (λ (e : Key × Record). e.1) es ≡ []
    none [] e = refl
    none (x ∷ es) e = absurd cc
