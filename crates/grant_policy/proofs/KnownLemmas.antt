-- What is known of a record type.
use Rattle.std.proofs.Common.{◌≡◌, ℕ, ◌<◌, Bool, true, false, cond, List, length, set, get_or, Option, None, sym, ap, ◌∙◌, ⊎_elim}
use Rattle.std.proofs.lemmas.Bool.{cases_Bool, false≢true}
use Rattle.std.proofs.lemmas.List.{get_or-set_same, get_or-set_other}
use Rattle.dns_data.specs.declared.record_type.RecordType.{RecordType}
use Rattle.dns_data.specs.Types.{place_of}
use Rattle.dns_data.proofs.KeptLaws.{one_place}
use Rattle.grant_policy.specs.Rules.{same_type}
use Rattle.grant_policy.proofs.WordLemmas.{same_type-Decides}

pub kept_known : (xs : List (Option Bool)) (t other : RecordType) (granted : Option Bool) → place_of t < length xs
    → get_or (set xs (place_of t) granted) (place_of other) None ≡ cond (same_type other t) granted (get_or xs (place_of other) None)
kept_known xs t other granted below =
    ⊎_elim
    (λ (yes' : same_type other t ≡ true).
    let same : place_of other ≡ place_of t = ap place_of ((same_type-Decides other t).0 yes') in
    ap (λ (i : ℕ). get_or (set xs (place_of t) granted) i None) same
    ∙ get_or-set_same xs (place_of t) granted None below
    ∙ sym (ap (λ (b : Bool). cond b granted (get_or xs (place_of other) None)) yes'))
    (λ (no' : same_type other t ≡ false).
    get_or-set_other xs (place_of t) (place_of other) granted None (λ e. absurd (false≢true (sym no' ∙ (same_type-Decides other t).1 (one_place other t e))))
    ∙ sym (ap (λ (b : Bool). cond b granted (get_or xs (place_of other) None)) no'))
    (cases_Bool (same_type other t))
