-- What `rights --json` prints of a decision: an object of JSON (RFC 8259).
use Rattle.std.specs.Prelude.{List, ℕ, [], ◌∷◌, codes}
use Rattle.grant_policy.specs.Decisions.{Verdict, granted, denied, decider}
use Rattle.wire_json.specs.Json.{quoted, member, object}

-- whether it is a grant, as a literal name (RFC 8259 section 3)
abbrev pub is_grant : Verdict → List ℕ
is_grant (granted id) = codes "true"
is_grant (denied id) = codes "false"

-- whether it is a grant, and the rule that decided, by keys in byte order
abbrev pub verdict_object : Verdict → List ℕ
verdict_object verdict = object (member (codes "granted") (is_grant verdict) ∷ member (codes "rule") (quoted (decider verdict)) ∷ [])

-- what stands before the rule
abbrev pub rule_key : Verdict → List ℕ
rule_key (granted id) = codes "{\"granted\":true,\"rule\":"
rule_key (denied id) = codes "{\"granted\":false,\"rule\":"
