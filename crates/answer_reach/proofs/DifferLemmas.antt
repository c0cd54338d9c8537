-- Records and rows of records that differ.
use Rattle.std.proofs.Common.{◌≡◌, ◌≢◌, List, ◌∷◌, Bool, true, false, ◌||◌, None, refl, sym, ap, ◌∙◌}
use Rattle.std.specs.Bool.{OnTrue}
use Rattle.dns_data.specs.declared.record.Record.{Record}
use Rattle.dns_data.specs.declared.rdata.Data.{Data}
use Rattle.dns_data.specs.declared.rdata.Data.TheVariants as variants
use Rattle.zone_answers.specs.AnswerChanges.{data_but_serial, but_serial}
use Rattle.answer_reach.specs.Trials.{minimum_in}

-- ---- tests that tell of a fact where they are true

pub on_true : (b : Bool) (P : Type 0) → (b ≡ true → P) → OnTrue b P
on_true true P p = p refl
on_true false P p = tt

pub told : (b : Bool) (P : Type 0) → OnTrue b P → b ≡ true → P
told true P p e = p
told false P p e = absurd cc

pub either_told : (a b : Bool) (P : Type 0) → OnTrue a P → OnTrue b P → OnTrue (a || b) P
either_told true b P p q = p
either_told false b P p q = q

pub told_more : (b : Bool) (P Q : Type 0) → (P → Q) → OnTrue b P → OnTrue b Q
told_more true P Q f p = f p
told_more false P Q f p = tt

-- ---- rows

pub first_differs : {X : Type 0} (x y : X) (xs ys : List X) → x ≢ y → x ∷ xs ≢ y ∷ ys
first_differs x y xs ys differ e = differ (let same : x ≡ y = cc in same)

pub rest_differs : {X : Type 0} (x y : X) (xs ys : List X) → xs ≢ ys → x ∷ xs ≢ y ∷ ys
rest_differs x y xs ys differ e = differ (let same : xs ≡ ys = cc in same)

-- ---- records without the serial of an SOA

min_same : (d : Data) → minimum_in (data_but_serial d) ≡ minimum_in d
min_same (variants.Soa soa) = refl
min_same d = refl

no_soa : (d : Data) → minimum_in d ≡ None → data_but_serial d ≡ d
no_soa (variants.Soa soa) e = absurd cc
no_soa d e = refl

whole : (r : Record) → minimum_in r.rdata ≡ None → but_serial r ≡ r
whole r e = ap (λ (d : Data). record r { rdata = d }) (no_soa r.rdata e)

pub both_others : (a b : Record) → minimum_in a.rdata ≡ None → minimum_in b.rdata ≡ None → a ≢ b → but_serial a ≢ but_serial b
both_others a b e f differ same = differ (sym (whole a e) ∙ same ∙ whole b f)

pub minimum_other : (a b : Record) → minimum_in a.rdata ≢ minimum_in b.rdata → but_serial a ≢ but_serial b
minimum_other a b differ same = differ (sym (min_same a.rdata) ∙ ap (λ (r : Record). minimum_in r.rdata) same ∙ min_same b.rdata)
