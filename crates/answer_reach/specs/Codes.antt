-- How the logic stores a search: its rules, its caller and its zone.
use Rattle.std.specs.Prelude.{ℕ, List, refl}
use Rattle.std.specs.Coded.{Coded, code_by, coded×, coded_ℕ, coded_list}
use Rattle.grant_policy.specs.declared.rule.Rule.{Rule}
use Rattle.grant_policy.specs.contracts.rule.Rule as of_rule
use Rattle.zone_core.specs.Zones.{ZoneOf}
use Rattle.zone_core.specs.Codes.{zone_code}
use Rattle.answer_reach.specs.Examples.{SearchOf}

abbrev pub search_code : Coded SearchOf
search_code =
    code_by (List Rule × (List ℕ × ZoneOf)) (coded× (coded_list of_rule.the_row.coded) (coded× (coded_list coded_ℕ) zone_code)) (λ s. (s.rules, (s.caller, s.zone)))
    (λ p. record { rules = p.0; caller = p.1.0; zone = p.1.1 }) (λ _. refl)
