use Rattle.std.proofs.Common.{◌≡◌, List, ℕ, ◌++◌, Option, Some, None, Bor, IfSome, sym, ap, ◌∙◌}
use Rattle.std.proofs.lemmas.Bool.Decides.{Decides-eqb}
use Rattle.std.proofs.lemmas.Slice.Eq.{strip_prefix_is, strip_suffix_is}
use Rattle.std.specs.Option.{MatchOption}
use Rattle.store_rows.specs.SoaTexts.{before_serial, behind_serial}
use Rattle.store_rows.proofs.last_soa.LastSoa.serial_in.Goals as goal

-- what holds of the value where there is one
if_some : (N : Type 0) (P Q : List ℕ → Type 0) (r : Option (Bor (List ℕ))) → MatchOption r N (λ x. P x.now) → ((l : List ℕ) → P l → Q l) → IfSome r (λ x. Q x.now)
if_some N P Q None is so = tt
if_some N P Q (Some x) is so = so x.now is

pub returns : goal.returns
returns c =
    let before = before_serial c.args.self.now.fields in
    let behind = behind_serial c.args.self.now.fields in
    let rest = c.in_ok-rest.rest.now in
    let first : c.as_bytes.result.now ≡ c.as_bytes-2.result.now ++ rest = strip_prefix_is Decides-eqb c.as_bytes.result.now c.as_bytes-2.result.now (Some c.in_ok-rest.rest) c.in_ok-rest.ensures.cases in
    let prefix : c.as_bytes-2.result.now ≡ before = c.as_bytes-2.ensures.value ∙ c.args.self.now.before_is in
    let suffix : c.as_bytes-3.result.now ≡ behind = c.as_bytes-3.ensures.value ∙ c.args.self.now.behind_is in
    let whole : c.args.text.now ≡ before ++ rest = sym c.as_bytes.ensures.value ∙ first ∙ ap (λ (l : List ℕ). l ++ rest) prefix in
    if_some _ _ _ c.strip_suffix.result (strip_suffix_is Decides-eqb rest c.as_bytes-3.result.now c.strip_suffix.result c.strip_suffix.ensures.cases)
    (λ digits cut. whole ∙ ap (λ (l : List ℕ). before ++ l) (cut ∙ ap (λ (l : List ℕ). digits ++ l) suffix))
