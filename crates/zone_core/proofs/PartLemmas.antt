-- An update reads the records at its names alone.
use Rattle.std.proofs.Common.{◌≡◌, ℕ, suc, List, [], ◌∷◌, Bool, true, false, cond, not, ◌||◌, if◌then◌else◌, Option, Some, None, refl, sym, ap, ◌∙◌}
use Rattle.std.specs.List.{AllByRecursion, flat_map}
use Rattle.std.specs.Option.{option_or, option_map}
use Rattle.std.specs.FinMap.{get}
use Rattle.std.proofs.lemmas.Bool.{and_parts}
use Rattle.dns_names.specs.Order.{same_name}
use Rattle.dns_data.specs.declared.record.Record.{Record}
use Rattle.dns_data.specs.declared.record_type.RecordType.{RecordType}
use Rattle.dns_data.specs.Rdata.{type_of}
use Rattle.zone_core.specs.declared.prerequisite_code.PrerequisiteCode.{PrerequisiteCode}
use Rattle.zone_core.specs.declared.prerequisite_code.PrerequisiteCode.TheVariants.{NxDomain, YxDomain, NxRrset, YxRrset}
use Rattle.zone_core.specs.declared.update.Prerequisite.{Prerequisite}
use Rattle.zone_core.specs.declared.update.Prerequisite.TheVariants.{RrsetExists, RrsetEquals, RrsetAbsent, NameUsed, NameUnused}
use Rattle.zone_core.specs.declared.update.Operation.{Operation}
use Rattle.zone_core.specs.Sets.{Records, Key, part, minus, same_ttl, at_name, at}
use Rattle.zone_core.specs.Updates.{tested_name, acted_name}
use Rattle.zone_core.specs.Prerequisites.{fails, set_fails, given_for, are_data, first_failed, verdict, failed}
use Rattle.zone_core.specs.Effects.{effect, effects}
use Rattle.zone_core.specs.Parts.{tested, touched, VerdictsReadTheirNames, OperationsReadTheirNames}
use Rattle.zone_core.proofs.SetLemmas.{name_is, name_self, get-part, same_sets, same_parts, same_has, found_in_part, by_cases}
use Rattle.zone_core.proofs.EffectLemmas.{effect_away, effect_same}
use Rattle.zone_core.proofs.ChangeLemmas.{effects_away, same_ttl_self}

-- ---- prerequisites

-- two sets in which the same is found at the names that a test allows
abbrev pub SameOn : (Key → Bool) → Records → Records → Type 0
SameOn w a b = (k : Key) → w k ≡ true → get a k ≡ get b k

module _ (a b : Records) where
  -- the same is found at the name of a prerequisite
  Reads : Prerequisite → Type 0
  Reads p = (k : Key) → at_name (tested_name p) k ≡ true → get a k ≡ get b k

  at_first : (name : List (List ℕ)) (t : RecordType) (k : Key) → at name t k ≡ true → at_name name k ≡ true
  at_first name t k e = (and_parts (same_name k.0 name) _ e).0

  fails_alike : (p : Prerequisite) → Reads p → fails a p ≡ fails b p
  unfolding Reads
  fails_alike (RrsetExists name t) same = ap (λ h. if h then None else Some NxRrset) (same_has a b (at name t) (λ k e. same k (at_first name t k e)))
  fails_alike (RrsetEquals name rdata) same = refl
  fails_alike (RrsetAbsent name t) same = ap (λ h. if h then Some YxRrset else None) (same_has a b (at name t) (λ k e. same k (at_first name t k e)))
  fails_alike (NameUsed name) same = ap (λ h. if h then None else Some NxDomain) (same_has a b (at_name name) same)
  fails_alike (NameUnused name) same = ap (λ h. if h then Some YxDomain else None) (same_has a b (at_name name) same)

  set_fails_alike : (all : List Prerequisite) (p : Prerequisite) → Reads p → set_fails a all p ≡ set_fails b all p
  unfolding Reads
  set_fails_alike all (RrsetExists name t) same = refl
  set_fails_alike all (RrsetEquals name rdata) same =
      ap (λ (s : Records). if are_data s (flat_map (given_for name (type_of rdata)) all) then None else Some NxRrset)
      (same_parts a b (at name (type_of rdata)) (λ k e. same k (at_first name (type_of rdata) k e)))
  set_fails_alike all (RrsetAbsent name t) same = refl
  set_fails_alike all (NameUsed name) same = refl
  set_fails_alike all (NameUnused name) same = refl

  first_alike : (code other : Prerequisite → Option PrerequisiteCode) (i : ℕ) (ps : List Prerequisite) → AllByRecursion (λ p. code p ≡ other p) ps → first_failed code i ps ≡ first_failed other i ps
  first_alike code other i [] all = refl
  first_alike code other i (p ∷ ps) all = λ j. option_or (option_map (failed i) (all.0 j)) (first_alike code other (suc i) ps all.1 j)

  all_alike : (Q : Prerequisite → Type 0) → ((p : Prerequisite) → Reads p → Q p) → (ps : List Prerequisite) → SameOn (tested ps) a b → AllByRecursion Q ps
  unfolding Reads
  all_alike Q f [] same = tt
  all_alike Q f (p ∷ ps) same =
      (f p (λ k e. same k (ap (λ t. t || tested ps k) e)), all_alike Q f ps (λ k e. same k (second (at_name (tested_name p) k) (tested ps k) e)))
    where
      second : (x y : Bool) → y ≡ true → (x || y) ≡ true
      second true y e = refl
      second false y e = e

  pub verdict_alike : (ps : List Prerequisite) → SameOn (tested ps) a b → verdict a ps ≡ verdict b ps
  verdict_alike ps same =
      λ j. option_or (first_alike (fails a) (fails b) 0 ps (all_alike (λ p. fails a p ≡ fails b p) fails_alike ps same) j)
      (first_alike (set_fails a ps) (set_fails b ps) 0 ps (all_alike (λ p. set_fails a ps p ≡ set_fails b ps p) (set_fails_alike ps) ps same) j)

pub verdict_reads : VerdictsReadTheirNames
verdict_reads set ps = verdict_alike (part set (tested ps)) set ps (λ k e. found_in_part set (tested ps) k e)

-- ---- operations

effect_on : (origin : List (List ℕ)) (op : Operation) (w : Key → Bool) (a b : Records) → ((k : Key) → k.0 ≡ acted_name op → w k ≡ true) → SameOn w a b → SameOn w (effect origin a op) (effect origin b op)
effect_on origin op w a b here same k e =
    by_cases (same_name k.0 (acted_name op)) (get (effect origin a op) k ≡ get (effect origin b op) k)
    (λ at. effect_same origin op a b (λ j name. same j (here j name)) k (name_is k.0 (acted_name op) at))
    (λ away.
    let differ : k.0 ≡ acted_name op → ⊥ = λ name. let f : true ≡ false = sym (rw name (name_self (acted_name op))) ∙ away in cc in
    effect_away origin a op k differ ∙ same k e ∙ sym (effect_away origin b op k differ))

pub effects_on : (origin : List (List ℕ)) (ops : List Operation) (w : Key → Bool) (a b : Records) → AllByRecursion (λ op. (k : Key) → k.0 ≡ acted_name op → w k ≡ true) ops → SameOn w a b → SameOn w (effects origin a ops) (effects origin b ops)
effects_on origin [] w a b all same = same
effects_on origin (op ∷ ops) w a b all same = effects_on origin ops w (effect origin a op) (effect origin b op) all.1 (effect_on origin op w a b all.0 same)

pub all_touch : (w : Key → Bool) (ops : List Operation) → ((k : Key) → touched ops k ≡ true → w k ≡ true) → AllByRecursion (λ op. (k : Key) → k.0 ≡ acted_name op → w k ≡ true) ops
all_touch w [] wide = tt
all_touch w (op ∷ ops) wide = (
  λ k name. let here : at_name (acted_name op) k ≡ true = rw name (name_self (acted_name op)) in wide k (ap (λ t. t || touched ops k) here),
  all_touch w ops (λ k e. wide k (second (at_name (acted_name op) k) (touched ops k) e)),
)
  where
    second : (x y : Bool) → y ≡ true → (x || y) ≡ true
    second true y e = refl
    second false y e = e

not_there : (o : Option Record) → cond (not (same_ttl o o)) o None ≡ None
not_there o = ap (λ t. cond (not t) o None) (same_ttl_self o)

-- sets that differ alike where a test holds, and not elsewhere
pub minus_alike : (w : Key → Bool) (a b c d : Records) → SameOn w a c → SameOn w b d → ((k : Key) → w k ≡ false → (get a k ≡ get b k) × (get c k ≡ get d k)) → minus a b ≡ minus c d
minus_alike w a b c d first second apart =
    same_sets (minus a b) (minus c d) (λ k.
    get-part a (λ j. not (same_ttl (get a j) (get b j))) k
    ∙ by_cases (w k) (cond (not (same_ttl (get a k) (get b k))) (get a k) None ≡ cond (not (same_ttl (get c k) (get d k))) (get c k) None)
    (λ e. λ i. cond (not (same_ttl (first k e i) (second k e i))) (first k e i) None)
    (λ e.
    let both = apart k e in
    ap (λ o. cond (not (same_ttl (get a k) o)) (get a k) None) (sym both.0) ∙ not_there (get a k)
    ∙ sym (ap (λ o. cond (not (same_ttl (get c k) o)) (get c k) None) (sym both.1) ∙ not_there (get c k)))
    ∙ sym (get-part c (λ j. not (same_ttl (get c j) (get d j))) k))

pub operations_read : OperationsReadTheirNames
operations_read origin set ops =
    let w = touched ops in
    let z = part set w in
    let whole : SameOn w z set = λ k e. found_in_part set w k e in
    let after : SameOn w (effects origin z ops) (effects origin set ops) = effects_on origin ops w z set (all_touch w ops (λ k e. e)) whole in (
      minus_alike w z (effects origin z ops) set (effects origin set ops) whole after (λ k e. (sym (effects_away origin z ops k e), sym (effects_away origin set ops k e))),
      minus_alike w (effects origin z ops) z (effects origin set ops) set after whole (λ k e. (effects_away origin z ops k e, effects_away origin set ops k e)),
    )
