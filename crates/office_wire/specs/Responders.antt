-- What a responder answers by.
use Rattle.std.specs.Prelude.{List}
use Rattle.grant_policy.specs.declared.rule.Rule.{Rule}
use Rattle.office_model.specs.States.{State}
use Rattle.office_core.specs.Bookmarks.{AreBookmarks}
use Rattle.office_wire.specs.declared.responder.Responder.{Responder}

-- the rules of its policy
abbrev pub rules_of : Responder → List Rule
rules_of r = r.service.policy.now

-- its bookmarks are those of a state
abbrev pub Fits : Responder → State → Type 0
Fits r s = AreBookmarks r.service.policy.now s r.service.bookmarks
