-- Tests that give one set whole fail or hold together.
use Rattle.std.proofs.Common.{◌≡◌, ℕ, List, [], ◌∷◌, Bool, true, false, ◌&&◌, ◌||◌, ◌==◌, if◌then◌else◌, Option, Some, None, refl, sym, ap, ◌∙◌, arith}
use Rattle.std.specs.List.{AllByRecursion, list_any, flat_map}
use Rattle.std.proofs.lemmas.Bool.{and_parts}
use Rattle.dns_names.specs.Order.{same_name}
use Rattle.dns_data.specs.declared.record_type.RecordType.{RecordType}
use Rattle.dns_data.specs.Rdata.{type_of}
use Rattle.dns_data.proofs.RecordOrderLemmas.{one_rank}
use Rattle.zone_core.specs.declared.prerequisite_code.PrerequisiteCode.{PrerequisiteCode}
use Rattle.zone_core.specs.declared.prerequisite_code.PrerequisiteCode.TheVariants.{NxRrset}
use Rattle.zone_core.specs.declared.update.Prerequisite.{Prerequisite}
use Rattle.zone_core.specs.declared.update.Prerequisite.TheVariants.{RrsetExists, RrsetEquals, RrsetAbsent, NameUsed, NameUnused}
use Rattle.zone_core.specs.Sets.{Records, rank_of, part, at}
use Rattle.zone_core.specs.Prerequisites.{given_for, is_of_set, are_of_one_set, are_data, set_fails}
use Rattle.zone_core.proofs.SetLemmas.{name_is}

module _ (set : Records) (all : List Prerequisite) where
  -- the code of a set that is given whole
  abbrev code_at : List (List ℕ) → RecordType → Option PrerequisiteCode
  code_at name t = if are_data (part set (at name t)) (flat_map (given_for name t) all) then None else Some NxRrset

  same_number : (a b : ℕ) → (a == b) ≡ true → a ≡ b
  same_number a b e = grind arith

  of_set : (name : List (List ℕ)) (t : RecordType) (p : Prerequisite) → is_of_set name t p ≡ true → set_fails set all p ≡ code_at name t
  of_set name t (RrsetEquals n rdata) e =
      let both = and_parts (same_name n name) (rank_of (type_of rdata) == rank_of t) e in
      let names : n ≡ name = name_is n name both.0 in
      let types : type_of rdata ≡ t = one_rank (type_of rdata) t (same_number (rank_of (type_of rdata)) (rank_of t) both.1) in
      λ i. code_at (names i) (types i)
  of_set name t (RrsetExists n u) e = absurd cc
  of_set name t (RrsetAbsent n u) e = absurd cc
  of_set name t (NameUsed n) e = absurd cc
  of_set name t (NameUnused n) e = absurd cc

  together : (p q : Prerequisite) → are_of_one_set p q ≡ true → set_fails set all p ≡ set_fails set all q
  together p (RrsetEquals name rdata) e = of_set name (type_of rdata) p e
  together p (RrsetExists n u) e = absurd cc
  together p (RrsetAbsent n u) e = absurd cc
  together p (NameUsed n) e = absurd cc
  together p (NameUnused n) e = absurd cc

  -- where an earlier test of the set holds, so does a later one
  pub held_before : (ps : List Prerequisite) (q : Prerequisite) → AllByRecursion (λ p. set_fails set all p ≡ None) ps → list_any (λ p. are_of_one_set p q) ps ≡ true → set_fails set all q ≡ None
  held_before [] q held some = absurd cc
  held_before (p ∷ ps) q held some = by_test (are_of_one_set p q) refl some (held_before ps q held.1)
    where
      by_test : (b : Bool) → are_of_one_set p q ≡ b → (b || list_any (λ r. are_of_one_set r q) ps) ≡ true
          → (list_any (λ r. are_of_one_set r q) ps ≡ true → set_fails set all q ≡ None) → set_fails set all q ≡ None
      by_test true e f later = sym (together p q e) ∙ held.0
      by_test false e f later = later f
