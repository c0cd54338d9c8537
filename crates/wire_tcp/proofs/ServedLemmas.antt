-- A stream that was served, by the peer that it is of.
use Rattle.std.proofs.Common.{◌≡◌, ℕ, List, [], ◌∷◌, Option, Result, sym, subst}
use Rattle.std.specs.declared.time.Duration.{Duration}
use Rattle.office_wire.specs.declared.ending.Ending.{Ending}
use Rattle.office_wire.specs.declared.serve_fault.ServeFault.{ServeFault}
use Rattle.office_wire.specs.Exchange.{Turn}
use Rattle.office_wire.specs.Deadlines.{CountsAsked, CountsPassed}
use Rattle.office_wire.specs.Order.{Flow, Follows}
use Rattle.office_wire.specs.Serving.{IsStreamServed}
use Rattle.wire_tcp.specs.Limits.{Limits, limits_in}
use Rattle.wire_tcp.specs.Waits.{Noted, AreWaits}
use Rattle.wire_tcp.specs.Ages.{AreTold, AreAges}
use Rattle.wire_tcp.proofs.AgeLemmas.{are_ages}

pub served_as : (turns : List Turn) (ended : Result Ending ServeFault) (a b c d : Flow) → b ≡ a → d ≡ c → IsStreamServed turns ended b c → IsStreamServed turns ended a d
served_as turns ended a b c d from to served = subst (λ (f : Flow). IsStreamServed turns ended a f) (sym to) (subst (λ (f : Flow). IsStreamServed turns ended f c) from served)

pub waits_as : (p q : Option Duration) (l m : Option Duration) (a b c : Option (List Noted)) → p ≡ q → l ≡ m → c ≡ b → AreWaits (limits_in p l) a b → AreWaits (limits_in q m) a c
waits_as p q l m a b c patience longest same waits = rw same (subst (λ (x : Limits). AreWaits x a b) (λ i. limits_in (patience i) (longest i)) waits)

pub ages_as : (longest most begun : Option ℕ) (turns : List Turn) (ended : Result Ending ServeFault) (start before told ages : Option (List (Option ℕ))) (asked asks passed passes : ℕ)
    → longest ≡ most → ages ≡ told → asked ≡ 0 → passed ≡ 0 → Follows start before (begun ∷ []) → AreTold most begun before told asks passes
    → CountsAsked turns ended asked asks → CountsPassed ended passed passes → AreAges longest turns ended start ages
ages_as longest most begun turns ended start before told ages asked asks passed passes limit same none never first is counts passings =
    rw (limit, same) (are_ages most begun turns ended start before told asks passes first is (rw none at counts) (rw never at passings))
