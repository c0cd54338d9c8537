-- What is known of the decisions in a region.
use Rattle.std.proofs.Common.{◌≡◌, ℕ, ◌⊎◌, Bool, true, false, cond, List, Option, Some, None, sym, ap, ◌∙◌, subst, ⊎_elim}
use Rattle.std.specs.Option.{IfSome}
use Rattle.std.specs.List.Sorted.{IsPermutation}
use Rattle.std.proofs.lemmas.Bool.{cases_Bool}
use Rattle.std.proofs.lemmas.List.Sorted.{sum_by-IsPermutation}
use Rattle.dns_names.specs.Keys.{key_of}
use Rattle.dns_data.specs.declared.record_type.RecordType.{RecordType}
use Rattle.grant_policy.specs.Rules.{same_type}
use Rattle.grant_policy.specs.Decisions.{is_granted}
use Rattle.grant_policy.specs.Boundaries.{boundaries, is_reached, region_of}
use Rattle.grant_policy.specs.Known.{known}
use Rattle.grant_policy.specs.Grants.{GrantsOf, AreKnown, includes}
use Rattle.grant_policy.proofs.WordLemmas.{same_type-Decides}
use Rattle.grant_policy.proofs.BoundaryLemmas.{decides_alike}
use Rattle.grant_policy.proofs.RegionLemmas.{together}

-- names of one region are granted alike
included_alike : (grants : GrantsOf) (bs : List (List ℕ)) (name other : List (List ℕ)) (t : RecordType) → IsPermutation (boundaries grants.caller grants.rules) bs
    → region_of bs (key_of name) ≡ region_of bs (key_of other) → includes grants name t ≡ includes grants other t
included_alike grants bs name other t moved same =
    let own = boundaries grants.caller grants.rules in
    let count : (key : List ℕ) → region_of bs key ≡ region_of own key = λ key. sum_by-IsPermutation (λ b. cond (is_reached key b) 1 0) own bs moved in
    ap is_granted (decides_alike grants.rules grants.caller name other t grants.action (together own (key_of name) (key_of other) (sym (count (key_of name)) ∙ same ∙ count (key_of other))))

module _ (grants : GrantsOf) (bs : List (List ℕ)) where
  pub none_known : (region : ℕ) (ks : List (Option Bool)) → IsPermutation (boundaries grants.caller grants.rules) bs → ((t : RecordType) → known ks t ≡ None) → AreKnown grants bs region ks
  none_known region ks moved none = record { moved = moved; right = λ name t here. subst (λ (k : Option Bool). IfSome k (λ g. g ≡ includes grants name t)) (sym (none t)) tt }

  -- in the same region, or in another
  pub gone : (region there : ℕ) (ks ls : List (Option Bool)) → AreKnown grants bs region ks → ((t : RecordType) → (known ls t ≡ None) ⊎ ((there ≡ region) × (known ls t ≡ known ks t))) → AreKnown grants bs there ls
  gone region there ks ls are now = record {
    moved = are.moved;
    right = λ name t here.
        ⊎_elim
        (λ (none : known ls t ≡ None). subst (λ (k : Option Bool). IfSome k (λ g. g ≡ includes grants name t)) (sym none) tt)
        (λ (same : (there ≡ region) × (known ls t ≡ known ks t)). subst (λ (k : Option Bool). IfSome k (λ g. g ≡ includes grants name t)) (sym same.1) (are.right name t (here ∙ same.0)))
        (now t);
  }

  module _ (region : ℕ) (ks : List (Option Bool)) (are : AreKnown grants bs region ks) (name : List (List ℕ)) (t : RecordType) (here : region_of bs (key_of name) ≡ region) where
    pub is_known : (granted : Bool) → known ks t ≡ Some granted → granted ≡ includes grants name t
    is_known granted e = subst (λ (k : Option Bool). IfSome k (λ g. g ≡ includes grants name t)) e (are.right name t here)

    pub one_more : (ls : List (Option Bool)) → ((u : RecordType) → known ls u ≡ cond (same_type u t) (Some (includes grants name t)) (known ks u)) → AreKnown grants bs region ls
    one_more ls now = record {
      moved = are.moved;
      right = λ other u there.
          ⊎_elim
          (λ (yes' : same_type u t ≡ true).
          let same : u ≡ t = (same_type-Decides u t).0 yes' in
          subst (λ (k : Option Bool). IfSome k (λ g. g ≡ includes grants other u))
          (sym (now u ∙ ap (λ (b : Bool). cond b (Some (includes grants name t)) (known ks u)) yes'))
          (included_alike grants bs name other t are.moved (here ∙ sym there) ∙ ap (includes grants other) (sym same)))
          (λ (no' : same_type u t ≡ false).
          subst (λ (k : Option Bool). IfSome k (λ g. g ≡ includes grants other u))
          (sym (now u ∙ ap (λ (b : Bool). cond b (Some (includes grants name t)) (known ks u)) no'))
          (are.right other u there))
          (cases_Bool (same_type u t));
    }
