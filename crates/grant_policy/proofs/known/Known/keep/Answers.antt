use Rattle.std.proofs.Common.{Some, arith}
use Rattle.grant_policy.proofs.KnownLemmas.{kept_known}
use Rattle.grant_policy.proofs.known.Known.keep.Goals as goal

pub returns : goal.returns
returns c = λ other.
    rw (← c.self.view_is, c.place.ensures.value) (kept_known c.self.inside.granted c.args.record_type other (Some c.args.granted) (omega (arith, c.place.ensures.below, c.place.ensures.value, c.self.invariant)))
