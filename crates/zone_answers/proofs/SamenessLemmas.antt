-- Answers that are the same but for the serial of an SOA.
use Rattle.std.proofs.Common.{◌≡◌, ℕ, List, [], ◌∷◌, map, Bool, true, false, not, ◌==◌, cond, Some, refl, sym, ap, ◌∙◌}
use Rattle.std.specs.Bool.{Decides}
use Rattle.std.specs.List.{find}
use Rattle.std.specs.Cmp.Lexicographic.{pointwise}
use Rattle.std.proofs.lemmas.Bool.Decides.{Decides-eqb, Decides-and, Decides-like}
use Rattle.std.proofs.lemmas.Slice.Eq.{slice_eq-Decides}
use Rattle.dns_names.proofs.NameLemmas.{same_name-Decides}
use Rattle.dns_data.specs.declared.record.Record.{Record}
use Rattle.dns_data.specs.declared.rdata.Data.{Data}
use Rattle.dns_data.specs.declared.rdata.Data.TheVariants as variants
use Rattle.dns_data.specs.declared.soa.SoaFields.{SoaFields}
use Rattle.dns_data.proofs.SameLemmas.{data_decides}
use Rattle.zone_core.specs.declared.rcode.Rcode.{Rcode}
use Rattle.zone_core.specs.declared.rcode.Rcode.TheVariants as codes
use Rattle.zone_core.specs.Rcodes.{rcode_number, all_rcodes}
use Rattle.zone_answers.specs.Answers.{AnswerOf}
use Rattle.zone_answers.specs.AnswerChanges.{data_but_serial, but_serial, AreSame}
use Rattle.zone_answers.specs.ChangeTests.{same_fields, same_data, same_but_serial, same_whole, same_answers}

-- ---- data

abbrev fields_but_serial : SoaFields → SoaFields
fields_but_serial s = record s { serial = record { 0 = 0 } }

fields_decide : (s t : SoaFields) → Decides (same_fields s t) (fields_but_serial s ≡ fields_but_serial t)
fields_decide s t =
    Decides-like (same_fields s t)
    (λ p. λ i. record {
      mname = p.0.0.0.0.0 i;
      rname = p.0.0.0.0.1 i;
      serial = record { 0 = 0 };
      refresh = record { 0 = p.0.0.0.1 i };
      retry = record { 0 = p.0.0.1 i };
      expire = record { 0 = p.0.1 i };
      minimum = record { 0 = p.1 i };
    })
    (λ e. (((((ap (λ (x : SoaFields). x.mname) e, ap (λ (x : SoaFields). x.rname) e), ap (λ (x : SoaFields). x.refresh.0) e), ap (λ (x : SoaFields). x.retry.0) e), ap (λ (x : SoaFields). x.expire.0) e), ap (λ (x : SoaFields). x.minimum.0) e))
    (Decides-and _ _ (Decides-and _ _ (Decides-and _ _ (Decides-and _ _ (Decides-and _ _ (same_name-Decides s.mname t.mname) (same_name-Decides s.rname t.rname)) (Decides-eqb s.refresh.0 t.refresh.0)) (Decides-eqb s.retry.0 t.retry.0)) (Decides-eqb s.expire.0 t.expire.0)) (Decides-eqb s.minimum.0 t.minimum.0))

but_serial_decides : (a b : Data) → Decides (same_data a b) (data_but_serial a ≡ data_but_serial b)
but_serial_decides (variants.Soa s) (variants.Soa t) =
    Decides-like (same_fields s t) (λ e. ap variants.Soa e) (λ e. (let f : fields_but_serial s ≡ fields_but_serial t = cc in f)) (fields_decide s t)
but_serial_decides (variants.Soa s) b = (λ e. absurd cc, λ e. absurd cc)
but_serial_decides a (variants.Soa t) = (λ e. absurd (let f = (data_decides a (variants.Soa t)).0 e in cc), λ e. absurd cc)
but_serial_decides a b = data_decides a b

-- ---- records

pub record_decides : (a b : Record) → Decides (same_but_serial a b) (but_serial a ≡ but_serial b)
record_decides a b =
    Decides-like (same_but_serial a b) (λ p. λ i. record { owner = p.0.0 i; ttl = p.0.1 i; rdata = p.1 i })
    (λ e. ((ap (λ (x : Record). x.owner) e, ap (λ (x : Record). x.ttl) e), ap (λ (x : Record). x.rdata) e))
    (Decides-and _ _ (Decides-and _ _ (same_name-Decides a.owner b.owner) (Decides-eqb a.ttl b.ttl)) (but_serial_decides a.rdata b.rdata))

pub whole_decides : (a b : Record) → Decides (same_whole a b) (a ≡ b)
whole_decides a b =
    Decides-like (same_whole a b) (λ p. λ i. record { owner = p.0.0 i; ttl = p.0.1 i; rdata = p.1 i })
    (λ e. ((ap (λ (x : Record). x.owner) e, ap (λ (x : Record). x.ttl) e), ap (λ (x : Record). x.rdata) e))
    (Decides-and _ _ (Decides-and _ _ (same_name-Decides a.owner b.owner) (Decides-eqb a.ttl b.ttl)) (data_decides a.rdata b.rdata))

-- ---- rows

module _ {X Y : Type 0} (E : X → X → Bool) (f : X → Y) (each : (a b : X) → Decides (E a b) (f a ≡ f b)) where
  pub mapped_decides : (xs ys : List X) → Decides (pointwise E xs ys) (map f xs ≡ map f ys)
  mapped_decides [] [] = (λ e. refl, λ e. refl)
  mapped_decides [] (y ∷ ys) = (λ e. absurd cc, λ e. absurd cc)
  mapped_decides (x ∷ xs) [] = (λ e. absurd cc, λ e. absurd cc)
  mapped_decides (x ∷ xs) (y ∷ ys) =
      Decides-like (pointwise E (x ∷ xs) (y ∷ ys)) (λ p. λ i. p.0 i ∷ p.1 i)
      (λ e. (let first : f x ≡ f y = cc in first, let rest : map f xs ≡ map f ys = cc in rest))
      (Decides-and _ _ (each x y) (mapped_decides xs ys))

-- ---- answers

code_found : (a : Rcode) → find (λ c. rcode_number c == rcode_number a) all_rcodes ≡ Some a
code_found codes.NoError = refl
code_found a = refl

one_code : (a b : Rcode) → rcode_number a ≡ rcode_number b → a ≡ b
one_code a b e =
    let both : Some a ≡ Some b = sym (code_found a) ∙ ap (λ (n : ℕ). find (λ c. rcode_number c == n) all_rcodes) e ∙ code_found b in
    cc

bool_decides : (a b : Bool) → Decides (cond a b (not b)) (a ≡ b)
bool_decides true true = (λ e. refl, λ e. refl)
bool_decides true false = (λ e. absurd cc, λ e. absurd cc)
bool_decides false true = (λ e. absurd cc, λ e. absurd cc)
bool_decides false false = (λ e. refl, λ e. refl)

pub answers_decide : (a b : AnswerOf) → Decides (same_answers a b) (AreSame a b)
answers_decide a b =
    Decides-like (same_answers a b) (λ p. record { code = p.0.0.0.0; authoritative = p.0.0.0.1; answer = p.0.0.1; authority = p.0.1; additional = p.1 })
    (λ s. ((((s.code, s.authoritative), s.answer), s.authority), s.additional))
    (Decides-and _ _ (Decides-and _ _ (Decides-and _ _ (Decides-and _ _ (Decides-like _ (one_code a.code b.code) (ap rcode_number) (Decides-eqb (rcode_number a.code) (rcode_number b.code))) (bool_decides a.authoritative b.authoritative)) (slice_eq-Decides whole_decides a.answer b.answer _ refl)) (mapped_decides same_but_serial but_serial record_decides a.authority b.authority)) (slice_eq-Decides whole_decides a.additional b.additional _ refl))
