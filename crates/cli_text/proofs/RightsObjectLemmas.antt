-- A decision as an object of JSON is what its pieces come to.
use Rattle.std.proofs.Common.{◌≡◌, ℕ, List, [], ◌∷◌, ◌++◌, ap, ◌∙◌, sym, append_assoc, codes}
use Rattle.grant_policy.specs.Decisions.{Verdict, granted, denied, decider}
use Rattle.wire_json.specs.Json.{quoted}
use Rattle.cli_text.specs.RightsObjects.{verdict_object, rule_key}

join : (key rule brace end : List ℕ) → ((key ++ rule) ++ brace) ++ end ≡ key ++ (rule ++ (brace ++ end))
join key rule brace end = simp append_assoc

pub object_is : (v : Verdict) → verdict_object v ++ 10 ∷ [] ≡ rule_key v ++ (quoted (decider v) ++ codes "}\n")
object_is (granted id) = join (codes "{\"granted\":true,\"rule\":") (quoted (decider (granted id))) (codes "}") (10 ∷ [])
object_is (denied id) = join (codes "{\"granted\":false,\"rule\":") (quoted (decider (denied id))) (codes "}") (10 ∷ [])

-- pieces that are appended
pub object_made : (v : Verdict) (first second third : List ℕ) → first ≡ rule_key v → second ≡ first ++ quoted (decider v) → third ≡ second ++ codes "}\n"
    → third ≡ verdict_object v ++ 10 ∷ []
object_made v first second third p q r =
    r ∙ ap (λ (l : List ℕ). l ++ codes "}\n") (q ∙ ap (λ (l : List ℕ). l ++ quoted (decider v)) p) ∙ append_assoc (rule_key v) (quoted (decider v)) (codes "}\n") ∙ sym (object_is v)
