-- What `plan --explain --json` prints of what an item asks for and what is decided of it: an object of JSON (RFC 8259).
use Rattle.std.specs.Prelude.{ℕ, List, [], ◌∷◌, ◌++◌, codes, decimal, map}
use Rattle.dns_names.specs.Spelling.{name_text}
use Rattle.dns_data.specs.Types.{type_text}
use Rattle.grant_policy.specs.declared.rule.Rule.{Rule}
use Rattle.grant_policy.specs.Decisions.{Verdict, granted, denied, decider, decision}
use Rattle.grant_policy.specs.Isolated.{question}
use Rattle.grant_policy.specs.Words.{action_text}
use Rattle.zone_core.specs.Kinds.{list_word}
use Rattle.zone_core.specs.Updates.{UpdateOf}
use Rattle.office_core.specs.Footprints.{Point, footprint}
use Rattle.wire_json.specs.Json.{quoted, array, member, object}
use Rattle.wire_json.specs.Replies.{item_member, list_member}
use Rattle.cli_text.specs.RightsObjects.{is_grant}

-- the action that an item asks for, whether that is granted, the item's number in its list, from 0, and the list, its name, the rule that
-- decided, and the type, by keys in byte order
abbrev pub decided_object : Point → Verdict → List ℕ
decided_object p verdict =
    object
    (member (codes "action") (quoted (action_text p.action)) ∷ member (codes "granted") (is_grant verdict) ∷ item_member p.place.item ∷ list_member p.place.list
    ∷ member (codes "name") (quoted (name_text p.name)) ∷ member (codes "rule") (quoted (decider verdict)) ∷ member (codes "type") (quoted (type_text p.record_type)) ∷ [])

-- the same by the rules of a policy
abbrev pub point_object : List Rule → List ℕ → Point → List ℕ
point_object rules caller p = decided_object p (decision (question caller p.name p.record_type p.action) rules)

-- those of all that an update of the zone of an origin asks for, in order
abbrev pub items_value : List Rule → List ℕ → List (List ℕ) → UpdateOf → List ℕ
items_value rules caller origin update = array (map (point_object rules caller) (footprint origin update))

-- ---- piece by piece

-- whether it is granted, and the key of the item
abbrev pub item_key : Verdict → List ℕ
item_key (granted id) = codes ",\"granted\":true,\"item\":"
item_key (denied id) = codes ",\"granted\":false,\"item\":"

-- the members up to the list, and the brace before them
abbrev pub place_members : Point → Verdict → List ℕ
place_members p verdict =
    codes "{\"action\":" ++ (quoted (action_text p.action) ++ (item_key verdict ++ (decimal p.place.item ++ (codes ",\"list\":" ++ quoted (list_word p.place.list)))))

-- the members from the name on, and the brace after them
abbrev pub name_members : Point → Verdict → List ℕ
name_members p verdict =
    codes ",\"name\":" ++ (quoted (name_text p.name) ++ (codes ",\"rule\":" ++ (quoted (decider verdict) ++ (codes ",\"type\":" ++ (quoted (type_text p.record_type) ++ codes "}")))))
