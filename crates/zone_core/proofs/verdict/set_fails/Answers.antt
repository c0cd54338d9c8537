use Rattle.std.proofs.Common.{sym, refl}
use Rattle.zone_core.proofs.verdict.set_fails.Goals as goal

pub returns-in-RrsetEquals : goal.returns-in-RrsetEquals
returns-in-RrsetEquals c = rw (c.in-RrsetEquals.is, sym c.record_type.ensures.value, sym c.is_given_whole.ensures, c.if-not-is_given_whole.true) refl

pub returns-in_default : goal.returns-in_default
returns-in_default c = rw (c.in-RrsetEquals.is, sym c.record_type.ensures.value, sym c.is_given_whole.ensures, c.if-not-is_given_whole.false) refl
