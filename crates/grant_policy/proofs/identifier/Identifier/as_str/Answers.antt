use Rattle.std.proofs.Common.{sym, subst}
use Rattle.std.specs.Prelude.{IsUtf8}
use Rattle.grant_policy.proofs.IdentifierLemmas.{identifier_is_text}
use Rattle.grant_policy.proofs.identifier.Identifier.as_str.Goals as goal

pub unreachable-requires : goal.unreachable-requires
unreachable-requires c = c.in_default.ensures.cases.0 (subst IsUtf8 (sym c.deref.ensures.value) (identifier_is_text c.self.inside.octets.items c.self.invariant))
