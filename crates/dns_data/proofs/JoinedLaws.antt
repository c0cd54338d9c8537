-- The laws of a digest that takes all items: what is read is spelled by the items, what they spell is read, and so is what is
-- printed.
use Rattle.std.proofs.Common.{◌≡◌, ℕ, ◌+◌, ◌<◌, ◌≤◌, Bool, true, false, cond, List, [], ◌∷◌, ◌++◌, length, map, get_or, drop, Result, Ok, Err, refl, sym, ap, subst, ◌∙◌, append_assoc, arith}
use Rattle.std.proofs.lemmas.List.{append-nil, at_drop_more, at_drop_all}
use Rattle.std.specs.List.{concat}
use Rattle.hex.specs.Hex.{encode_lower}
use Rattle.dns_data.specs.declared.data_fault.DataFault.{DataFault}
use Rattle.dns_data.specs.declared.data_fault.DataFault.TheVariants.{FieldMissing, QuotedItem}
use Rattle.dns_data.specs.declared.item.Item.{Item}
use Rattle.dns_data.specs.Faults.{Refuses, ◌>>=◌}
use Rattle.dns_data.specs.Items.{ItemText, item_of, plain}
use Rattle.dns_data.specs.Digests.{IsDigest, SpellsDigest, digest_of}
use Rattle.dns_data.specs.Grammar.{IsDigestItems}
use Rattle.dns_data.specs.Reading.{joined, digest_at}
use Rattle.dns_data.proofs.StepLaws.{bind_ok, guarded_ok, ok_is}
use Rattle.dns_data.proofs.DigestLaws.{digest_found, digest_only, digest_spells}
use Rattle.dns_data.proofs.EachLemmas.{refuses_on}

-- ---- items that are joined

-- the octets of all items, where these were joined and these items are left
abbrev pub joined_on : List ℕ → List Item → Result (List ℕ) DataFault
joined_on front rest = joined (map item_of rest) >>= λ more. Ok (front ++ more)

abbrev then_joined : List ℕ → List Item → Item → Bool → Result (List ℕ) DataFault
then_joined front rest item quoted = cond quoted (Err QuotedItem) (joined (map item_of rest) >>= λ others. Ok (item.raw.now ++ others)) >>= λ more. Ok (front ++ more)

regroup : (front raw : List ℕ) (r : Result (List ℕ) DataFault) → ((r >>= λ others. Ok (raw ++ others)) >>= λ more. Ok (front ++ more)) ≡ (r >>= λ more. Ok ((front ++ raw) ++ more))
regroup front raw (Ok others) = ap (λ (l : List ℕ). Ok l) (sym (append_assoc front raw others))
regroup front raw (Err f) = refl

module _ (front : List ℕ) (items : List Item) (i : ℕ) (item : Item) (total : Result (List ℕ) DataFault) (lt : i < length items) (so_far : joined_on front (drop i items) ≡ total) where
  next_joined : then_joined front (drop (i + 1) items) (get_or items i item) (get_or items i item).quoted ≡ total
  unfolding joined
  next_joined = sym (at_drop_more (joined_on front) items i item lt) ∙ so_far

  pub joins : (get_or items i item).quoted ≡ false → joined_on (front ++ (get_or items i item).raw.now) (drop (i + 1) items) ≡ total
  joins plain =
      sym (regroup front (get_or items i item).raw.now (joined (map item_of (drop (i + 1) items))))
      ∙ sym (ap (then_joined front (drop (i + 1) items) (get_or items i item)) plain) ∙ next_joined

  pub is_quoted : (get_or items i item).quoted ≡ true → total ≡ Err QuotedItem
  is_quoted quoted = sym next_joined ∙ ap (then_joined front (drop (i + 1) items) (get_or items i item)) quoted

joined_none : joined [] ≡ Ok []
unfolding joined
joined_none = refl

pub all_joined : (front : List ℕ) (items : List Item) (i : ℕ) (total : Result (List ℕ) DataFault) → length items ≤ i → joined_on front (drop i items) ≡ total → total ≡ Ok front
all_joined front items i total le so_far =
    sym so_far ∙ at_drop_all (joined_on front) items i le ∙ ap (λ (r : Result (List ℕ) DataFault). r >>= λ more. Ok (front ++ more)) joined_none ∙ ap (λ (l : List ℕ). Ok l) (append-nil front)

-- items that were joined, by their octets
pub record JoinedOf (items : List ItemText) (text : List ℕ) : Type 0 where
  pub parts : List (List ℕ)
  pub items_are : items ≡ map plain parts
  pub text_is : concat parts ≡ text

joined_found : (items : List ItemText) (text : List ℕ) → joined items ≡ Ok text → JoinedOf items text
unfolding joined
joined_found [] text e = record { parts = []; items_are = refl; text_is = ok_is [] text e }
joined_found (item ∷ items) text e =
    let g = guarded_ok item.quoted QuotedItem _ text e in
    let b = bind_ok (joined items) _ text g.1 in
    let more = joined_found items b.0 b.1 in
    record {
      parts = item.raw ∷ more.parts;
      items_are = ap (λ (q : Bool). record { raw = item.raw; quoted = q } ∷ items) g.0 ∙ ap (λ (l : List ItemText). plain item.raw ∷ l) more.items_are;
      text_is = ap (λ (l : List ℕ). item.raw ++ l) more.text_is ∙ ok_is (item.raw ++ b.0) text b.2;
    }

joined_only : (parts : List (List ℕ)) → joined (map plain parts) ≡ Ok (concat parts)
unfolding joined
joined_only [] = refl
joined_only (part ∷ parts) = rw (joined_only parts) refl

-- ---- digests

pub digest_missing : (items : List ItemText) → length items ≡ 0 → digest_at items ≡ Err FieldMissing
unfolding digest_at
digest_missing [] e = refl
digest_missing (item ∷ items) e = absurd (omega arith)

digest_is : (items : List ItemText) → 0 < length items → digest_at items ≡ (joined items >>= digest_of)
unfolding digest_at
digest_is [] some = absurd (omega arith)
digest_is (item ∷ items) some = refl

pub digest_refused : (items : List ItemText) (e : DataFault) → 0 < length items → Refuses e (joined items) → Refuses e (digest_at items)
digest_refused items e some h = refuses_on e (joined items) (digest_at items) h (λ f bad. digest_is items some ∙ ap (λ (r : Result (List ℕ) DataFault). r >>= digest_of) bad)

pub digest_of_joined : (items : List ItemText) (text : List ℕ) → 0 < length items → joined items ≡ Ok text → digest_of text ≡ digest_at items
digest_of_joined items text some e = sym (digest_is items some ∙ ap (λ (r : Result (List ℕ) DataFault). r >>= digest_of) e)

-- a digest that was read is spelled by its items
pub digest_at_found : (items : List ItemText) (digest : List ℕ) → digest_at items ≡ Ok digest → IsDigestItems digest items
unfolding digest_at
digest_at_found [] digest e = absurd cc
digest_at_found (item ∷ items) digest e =
    let b = bind_ok (joined (item ∷ items)) digest_of digest e in
    let j = joined_found (item ∷ items) b.0 b.1 in
    let spelled = subst (λ (text : List ℕ). IsDigest digest × SpellsDigest digest text) (sym j.text_is) (digest_found b.0 digest b.2) in
    (j.parts, j.items_are, spelled.0, spelled.1)

nothing_spells : (digest : List ℕ) → IsDigest digest → SpellsDigest digest [] → ⊥
nothing_spells [] is h = omega (arith, is.some)
nothing_spells (o ∷ digest) is h = let none : [] ≡ h.0 ∷ h.1 ∷ h.2 = h.3 in absurd cc

-- and what its items spell is read
pub digest_at_only : (items : List ItemText) (digest : List ℕ) → IsDigestItems digest items → digest_at items ≡ Ok digest
digest_at_only items digest ([], items_are, is, h) = absurd (nothing_spells digest is h)
digest_at_only items digest (part ∷ parts, items_are, is, h) =
    rw items_are (sym (digest_of_joined (map plain (part ∷ parts)) (concat (part ∷ parts)) (omega arith) (joined_only (part ∷ parts))) ∙ digest_only (concat (part ∷ parts)) digest is h)

-- and so is what is printed
pub digest_prints : (digest : List ℕ) → IsDigest digest → IsDigestItems digest (plain (encode_lower digest) ∷ [])
digest_prints digest is = (encode_lower digest ∷ [], refl, is, subst (SpellsDigest digest) (sym (append-nil (encode_lower digest))) (digest_spells digest is))
