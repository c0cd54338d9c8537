-- What is decided of an item, as an object of JSON, is what its pieces come to.
use Rattle.std.proofs.Common.{◌≡◌, ℕ, List, [], ◌∷◌, ◌++◌, append_assoc, codes, decimal}
use Rattle.dns_names.specs.Spelling.{name_text}
use Rattle.dns_data.specs.Types.{type_text}
use Rattle.grant_policy.specs.Decisions.{Verdict, granted, denied, decider}
use Rattle.grant_policy.specs.Words.{action_text}
use Rattle.zone_core.specs.Kinds.{list_word}
use Rattle.office_core.specs.Footprints.{Point}
use Rattle.wire_json.specs.Json.{quoted, member, object}
use Rattle.cli_text.specs.RightsObjects.{is_grant}
use Rattle.cli_updates.specs.PointObjects.{decided_object, item_key, place_members, name_members}

join : (action done key item list word name owner rule decider type code end : List ℕ)
    → (action ++ (done ++ (key ++ (item ++ (list ++ (word ++ (name ++ (owner ++ (rule ++ (decider ++ (type ++ code))))))))))) ++ end
    ≡ (action ++ (done ++ (key ++ (item ++ (list ++ word))))) ++ (name ++ (owner ++ (rule ++ (decider ++ (type ++ (code ++ end))))))
join action done key item list word name owner rule decider type code end = simp append_assoc

module _ (action item word owner rule code : List ℕ) where
  by_verdict : (v : Verdict)
      → object
      (member (codes "action") action ∷ member (codes "granted") (is_grant v) ∷ member (codes "item") item ∷ member (codes "list") word
      ∷ member (codes "name") owner ∷ member (codes "rule") rule ∷ member (codes "type") code ∷ [])
      ≡ (codes "{\"action\":" ++ (action ++ (item_key v ++ (item ++ (codes ",\"list\":" ++ word)))))
      ++ (codes ",\"name\":" ++ (owner ++ (codes ",\"rule\":" ++ (rule ++ (codes ",\"type\":" ++ (code ++ codes "}"))))))
  by_verdict (granted id) =
      join (codes "{\"action\":") action (codes ",\"granted\":true,\"item\":") item (codes ",\"list\":") word (codes ",\"name\":") owner (codes ",\"rule\":") rule
      (codes ",\"type\":") code (codes "}")
  by_verdict (denied id) =
      join (codes "{\"action\":") action (codes ",\"granted\":false,\"item\":") item (codes ",\"list\":") word (codes ",\"name\":") owner (codes ",\"rule\":") rule
      (codes ",\"type\":") code (codes "}")

pub object_is : (p : Point) (v : Verdict) → decided_object p v ≡ place_members p v ++ name_members p v
object_is p v =
    by_verdict (quoted (action_text p.action)) (decimal p.place.item) (quoted (list_word p.place.list)) (quoted (name_text p.name)) (quoted (decider v)) (quoted (type_text p.record_type)) v
