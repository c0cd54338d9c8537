-- Names that are decided by prefixes of their keys.
use Rattle.std.proofs.Common.{◌≡◌, ℕ, zero, suc, ◌+◌, ◌<◌, ◌≤◌, List, [], ◌∷◌, ◌++◌, length, take, drop, replicate, reverse, get_or, true, inl, inr, refl, sym, ap, subst, ◌∙◌, arith}
use Rattle.std.specs.Int.{from_be_bytes, w64}
use Rattle.std.specs.declared.cmp.Ordering.{Ordering}
use Rattle.std.specs.declared.cmp.Ordering.TheVariants.{Less, Equal, Greater}
use Rattle.std.specs.Ordering.{nat_cmp, ordering_then}
use Rattle.std.specs.Cmp.{nat_cmp_is}
use Rattle.std.specs.Cmp.Lexicographic.{slice_cmp}
use Rattle.std.specs.List.{AllByRecursion, flat_map, list_all}
use Rattle.std.proofs.lemmas.Bool.{and_parts}
use Rattle.std.proofs.lemmas.List.{reverse-append, drop_all}
use Rattle.std.proofs.lemmas.Bool.Decides.{eqb_tells}
use Rattle.dns_names.specs.Labels.{IsFolded, IsLabel, IsName, is_within}
use Rattle.dns_names.specs.Keys.{key_octet, label_front, label_key, key_of}
use Rattle.dns_names.specs.Order.{canonical_cmp}
use Rattle.dns_names.proofs.KeyLaws.{tied, key_order, key_begins}
use Rattle.dns_names.proofs.NameLemmas.{is_within-Decides}
use Rattle.dns_names.proofs.OctetLemmas.{by_worth, eight}
use Rattle.dns_data.specs.declared.record.Record.{Record}
use Rattle.zone_core.specs.Sets.{record_order}
use Rattle.zone_core.specs.KeyPrefixes.{front, written, prefix_behind, prefix_order, ShareOctets}

-- ---- fronts

pub front_len : (n : ℕ) (octets : List ℕ) → length (front n octets) ≡ n
front_len zero octets = refl
front_len (suc n) [] = let e = front_len n [] in omega (arith, e)
front_len (suc n) (o ∷ octets) = let e = front_len n octets in omega (arith, e)

abbrev AreOctets : List ℕ → Type 0
AreOctets octets = AllByRecursion (λ o. o < 256) octets

front_octets : (n : ℕ) (octets : List ℕ) → AreOctets octets → (i : ℕ) → get_or (front n octets) i 0 < 256
front_octets zero octets all i = omega arith
front_octets (suc n) [] all zero = omega arith
front_octets (suc n) [] all (suc i) = front_octets n [] all i
front_octets (suc n) (o ∷ octets) all zero = all.0
front_octets (suc n) (o ∷ octets) all (suc i) = front_octets n octets all.1 i

abbrev fronts : ℕ → List ℕ → List ℕ → Ordering
fronts n s t = slice_cmp nat_cmp (front n s) (front n t)

-- what is missing is before all
low : (n y : ℕ) (t : List ℕ) (o : Ordering) → (ordering_then (fronts n [] t) o ≡ o) → (o ≡ Less) → ordering_then (nat_cmp 0 y) (ordering_then (fronts n [] t) o) ≡ o
low n zero t o e less = e
low n (suc y) t o e less = rw (sym (nat_cmp_is 0 (suc y) Less (omega arith)), less) refl

high : (n x : ℕ) (s : List ℕ) (o : Ordering) → (ordering_then (fronts n s []) o ≡ o) → (o ≡ Greater) → ordering_then (nat_cmp x 0) (ordering_then (fronts n s []) o) ≡ o
high n zero s o e greater = e
high n (suc x) s o e greater = rw (sym (nat_cmp_is (suc x) 0 Greater (omega arith)), greater) refl

assoc : (a b c : Ordering) → ordering_then (ordering_then a b) c ≡ ordering_then a (ordering_then b c)
assoc Less b c = refl
assoc Equal b c = refl
assoc Greater b c = refl

never_greater : (n : ℕ) (t : List ℕ) → ordering_then (fronts n [] t) Less ≡ Less
never_greater zero t = refl
never_greater (suc n) [] = never_greater n []
never_greater (suc n) (y ∷ t) = assoc (nat_cmp 0 y) (fronts n [] t) Less ∙ low n y t Less (never_greater n t) refl

never_less : (n : ℕ) (s : List ℕ) → ordering_then (fronts n s []) Greater ≡ Greater
never_less zero s = refl
never_less (suc n) [] = never_less n []
never_less (suc n) (x ∷ s) = assoc (nat_cmp x 0) (fronts n s []) Greater ∙ high n x s Greater (never_less n s) refl

both : (a b c : Ordering) → ordering_then b c ≡ c → ordering_then (ordering_then a b) (ordering_then a c) ≡ ordering_then a c
both Less b c e = refl
both Equal b c e = e
both Greater b c e = refl

-- fronts that differ are in the order of what they begin
fronts_first : (n : ℕ) (s t : List ℕ) → ordering_then (fronts n s t) (slice_cmp nat_cmp s t) ≡ slice_cmp nat_cmp s t
fronts_first zero s t = refl
fronts_first (suc n) [] [] = fronts_first n [] []
fronts_first (suc n) [] (y ∷ t) = assoc (nat_cmp 0 y) (fronts n [] t) Less ∙ low n y t Less (never_greater n t) refl
fronts_first (suc n) (x ∷ s) [] = assoc (nat_cmp x 0) (fronts n s []) Greater ∙ high n x s Greater (never_less n s) refl
fronts_first (suc n) (x ∷ s) (y ∷ t) = both (nat_cmp x y) (fronts n s t) (slice_cmp nat_cmp s t) (fronts_first n s t)

pub front_take : (n : ℕ) (octets : List ℕ) → n ≤ length octets → front n octets ≡ take n octets
front_take zero octets long = refl
front_take (suc n) [] long = absurd (omega arith)
front_take (suc n) (o ∷ octets) long = ap (λ (l : List ℕ). o ∷ l) (front_take n octets (omega arith))

front_none : (n : ℕ) → front n [] ≡ replicate n 0
front_none zero = refl
front_none (suc n) = ap (λ (l : List ℕ). 0 ∷ l) (front_none n)

pub front_short : (octets : List ℕ) (n : ℕ) → length octets ≤ n → front n octets ≡ octets ++ drop (length octets) (replicate n 0)
front_short [] n short = front_none n
front_short (o ∷ octets) zero short = absurd (omega arith)
front_short (o ∷ octets) (suc n) short = ap (λ (l : List ℕ). o ∷ l) (front_short octets n (omega arith))

front_split : (n m k : ℕ) (octets : List ℕ) → k ≡ n + m → front k octets ≡ front n octets ++ front m (drop n octets)
front_split zero m k octets e = ap (λ i. front i octets) (omega (arith, e))
front_split (suc n) m zero octets e = absurd (omega (arith, e))
front_split (suc n) m (suc k) [] e = ap (λ (l : List ℕ). 0 ∷ l) (front_split n m k [] (omega (arith, e)) ∙ ap (λ l. front n [] ++ front m l) (drop_all n [] (omega arith)))
front_split (suc n) m (suc k) (o ∷ octets) e = ap (λ (l : List ℕ). o ∷ l) (front_split n m k octets (omega (arith, e)))

cmp_split : (xs ys us vs : List ℕ) → length xs ≡ length ys → slice_cmp nat_cmp (xs ++ us) (ys ++ vs) ≡ ordering_then (slice_cmp nat_cmp xs ys) (slice_cmp nat_cmp us vs)
cmp_split [] [] us vs long = refl
cmp_split [] (y ∷ ys) us vs long = absurd cc
cmp_split (x ∷ xs) [] us vs long = absurd cc
cmp_split (x ∷ xs) (y ∷ ys) us vs long =
    ap (ordering_then (nat_cmp x y)) (cmp_split xs ys us vs (omega arith)) ∙ sym (assoc (nat_cmp x y) (slice_cmp nat_cmp xs ys) (slice_cmp nat_cmp us vs))

-- ---- numbers

written_is : (s t : List ℕ) → AreOctets s → AreOctets t → nat_cmp (written s) (written t) ≡ fronts 8 s t
unfolding written
written_is s t all also =
    (λ j. nat_cmp (eight (front 8 s) (front_len 8 s) j) (eight (front 8 t) (front_len 8 t) j))
    ∙ sym (by_worth (front 8 s) (front 8 t) (front_len 8 s ∙ sym (front_len 8 t)) (front_octets 8 s all) (front_octets 8 t also))

octets_drop : (n : ℕ) (xs : List ℕ) → AreOctets xs → AreOctets (drop n xs)
octets_drop zero xs all = all
octets_drop (suc n) [] all = tt
octets_drop (suc n) (x ∷ xs) all = octets_drop n xs all.1

written_first : (s t : List ℕ) → AreOctets s → AreOctets t
    → ordering_then (ordering_then (nat_cmp (written s) (written t)) (nat_cmp (written (drop 8 s)) (written (drop 8 t)))) (slice_cmp nat_cmp s t) ≡ slice_cmp nat_cmp s t
written_first s t all also =
    (λ j. ordering_then (ordering_then (written_is s t all also j) (written_is (drop 8 s) (drop 8 t) (octets_drop 8 s all) (octets_drop 8 t also) j)) (slice_cmp nat_cmp s t))
    ∙ ap (λ o. ordering_then o (slice_cmp nat_cmp s t))
    (sym (cmp_split (front 8 s) (front 8 t) (front 8 (drop 8 s)) (front 8 (drop 8 t)) (front_len 8 s ∙ sym (front_len 8 t)))
    ∙ sym (λ j. slice_cmp nat_cmp (front_split 8 8 16 s refl j) (front_split 8 8 16 t refl j)))
    ∙ fronts_first 16 s t

pub written_take : (octets head : List ℕ) → head ≡ take 8 octets → 8 ≤ length octets → from_be_bytes w64 head ≡ written octets
unfolding written
written_take octets head e long = ap (from_be_bytes w64) (e ∙ sym (front_take 8 octets long))

pub written_short : (octets kept : List ℕ) → kept ≡ octets → length octets < 8 → from_be_bytes w64 (kept ++ drop (length octets) (replicate 8 0)) ≡ written octets
unfolding written
written_short octets kept e short = ap (λ l. from_be_bytes w64 (l ++ drop (length octets) (replicate 8 0))) e ∙ ap (from_be_bytes w64) (sym (front_short octets 8 (omega arith)))

-- ---- keys

shared_alike : (begin s t : List ℕ) → slice_cmp nat_cmp (begin ++ s) (begin ++ t) ≡ slice_cmp nat_cmp s t
shared_alike [] s t = refl
shared_alike (o ∷ begin) s t = rw (tied o) (shared_alike begin s t)

drop_begin : (begin s : List ℕ) → drop (length begin) (begin ++ s) ≡ s
drop_begin [] s = refl
drop_begin (o ∷ begin) s = drop_begin begin s

octets_append : (xs ys : List ℕ) → AreOctets xs → AreOctets ys → AreOctets (xs ++ ys)
octets_append [] ys all also = also
octets_append (x ∷ xs) ys all also = (all.0, octets_append xs ys all.1 also)

octets_behind : (xs ys : List ℕ) → AreOctets (xs ++ ys) → AreOctets ys
octets_behind [] ys all = all
octets_behind (x ∷ xs) ys all = octets_behind xs ys all.1

octet_octets : (o : ℕ) → o < 256 → AreOctets (key_octet o)
octet_octets o below =
    elim (eqb_tells o 0) [
      | inl t ↦ rw t.0 (omega arith, (omega arith, tt))
      | inr f ↦ elim (eqb_tells o 1) [ inl t ↦ rw (f.0, t.0) (omega arith, (omega arith, tt)) | inr g ↦ rw (f.0, g.0) (below, tt) ]
    ]

front_all : (label : List ℕ) → AllByRecursion IsFolded label → AreOctets (label_front label)
front_all [] all = tt
front_all (o ∷ label) all = octets_append (key_octet o) (label_front label) (octet_octets o all.0.below) (front_all label all.1)

abbrev keys : List (List ℕ) → List ℕ
keys labels = flat_map label_key labels

keys_octets : (labels : List (List ℕ)) → AllByRecursion IsLabel labels → AreOctets (keys labels)
keys_octets [] all = tt
keys_octets (label ∷ labels) all =
    octets_append (label_key label) (keys labels) (octets_append (label_front label) (0 ∷ []) (front_all label all.0.octets) (omega arith, tt)) (keys_octets labels all.1)

labels_append : (xs ys : List (List ℕ)) → AllByRecursion IsLabel xs → AllByRecursion IsLabel ys → AllByRecursion IsLabel (xs ++ ys)
labels_append [] ys all also = also
labels_append (x ∷ xs) ys all also = (all.0, labels_append xs ys all.1 also)

labels_reverse : (labels : List (List ℕ)) → AllByRecursion IsLabel labels → AllByRecursion IsLabel (reverse labels)
labels_reverse [] all = tt
labels_reverse (label ∷ labels) all =
    subst (AllByRecursion IsLabel) (sym (reverse-append (label ∷ []) labels)) (labels_append (reverse labels) (label ∷ []) (labels_reverse labels all.1) (all.0, tt))

key_octets : (name : List (List ℕ)) → IsName name → AreOctets (key_of name)
key_octets name is = keys_octets (reverse name) (labels_reverse name is.labels)

-- ---- records

-- a record whose owner's key begins with these octets
pub record IsBehind (begin : List ℕ) (r : Record) : Type 0 where
  pub owner : IsName r.owner
  pub behind : List ℕ
  pub key : key_of r.owner ≡ begin ++ behind

abbrev pub prefixes : ℕ → Record → Record → Ordering
prefixes shared r s = prefix_order (prefix_behind shared r.owner) (prefix_behind shared s.owner)

names_first : (begin : List ℕ) (r s : Record) → IsBehind begin r → IsBehind begin s
    → ordering_then (prefixes (length begin) r s) (canonical_cmp r.owner s.owner) ≡ canonical_cmp r.owner s.owner
names_first begin r s this that =
    let octets : AreOctets this.behind = octets_behind begin this.behind (subst AreOctets this.key (key_octets r.owner this.owner)) in
    let also : AreOctets that.behind = octets_behind begin that.behind (subst AreOctets that.key (key_octets s.owner that.owner)) in
    let order : canonical_cmp r.owner s.owner ≡ slice_cmp nat_cmp this.behind that.behind =
    sym (key_order r.owner s.owner) ∙ (λ j. slice_cmp nat_cmp (this.key j) (that.key j)) ∙ shared_alike begin this.behind that.behind in
    let left : drop (length begin) (key_of r.owner) ≡ this.behind = ap (drop (length begin)) this.key ∙ drop_begin begin this.behind in
    let right : drop (length begin) (key_of s.owner) ≡ that.behind = ap (drop (length begin)) that.key ∙ drop_begin begin that.behind in
    (λ j. ordering_then (ordering_then (nat_cmp (written (left j)) (written (right j))) (nat_cmp (written (drop 8 (left j))) (written (drop 8 (right j))))) (order j))
    ∙ written_first this.behind that.behind octets also ∙ sym order

first_counts : (h c t d : Ordering) → ordering_then h c ≡ c → ordering_then h (ordering_then (ordering_then c t) d) ≡ ordering_then (ordering_then c t) d
first_counts Less c t d e = ap (λ o. ordering_then (ordering_then o t) d) e
first_counts Equal c t d e = refl
first_counts Greater c t d e = ap (λ o. ordering_then (ordering_then o t) d) e

-- prefixes that differ are in the order of the records
pub heads_first : (begin : List ℕ) (r s : Record) → IsBehind begin r → IsBehind begin s → ordering_then (prefixes (length begin) r s) (record_order r s) ≡ record_order r s
heads_first begin r s this that = first_counts (prefixes (length begin) r s) (canonical_cmp r.owner s.owner) _ _ (names_first begin r s this that)

-- ---- stems

pub none_shared : (rs : List Record) → ShareOctets 0 rs
none_shared rs = ([], refl, all rs)
  where
    all : (rs : List Record) → AllByRecursion (λ r. (behind : List ℕ) × (key_of r.owner ≡ [] ++ behind)) rs
    all [] = tt
    all (r ∷ rs) = ((key_of r.owner, refl), all rs)

-- where all are within a name
pub share_octets : (top : List (List ℕ)) (rs : List Record) (n : ℕ) → length (key_of top) ≡ n → list_all (λ r. is_within r.owner top) rs ≡ true → ShareOctets n rs
share_octets top rs n long within = (key_of top, long, all rs within)
  where
    all : (rs : List Record) → list_all (λ r. is_within r.owner top) rs ≡ true → AllByRecursion (λ r. (behind : List ℕ) × (key_of r.owner ≡ key_of top ++ behind)) rs
    all [] h = tt
    all (r ∷ rs) h =
        let both = and_parts (is_within r.owner top) (list_all (λ s. is_within s.owner top) rs) h in
        ((key_begins top r.owner).0 ((is_within-Decides r.owner top).0 both.0), all rs both.1)
