-- The codes of replies (RFC 2136 section 2.2, RFC 1035 section 4.1.1).
use Rattle.std.specs.Prelude.{ℕ, List, [], ◌∷◌, Option, bytes_eq, codes}
use Rattle.std.specs.List.{find}
use Rattle.zone_core.specs.declared.rcode.Rcode.{Rcode}
use Rattle.zone_core.specs.declared.prerequisite_code.PrerequisiteCode.{PrerequisiteCode}
use Rattle.zone_core.specs.declared.prerequisite_code.PrerequisiteCode.TheVariants as prerequisites
use Rattle.zone_core.specs.declared.rcode.Rcode.TheVariants.{NoError, FormErr, ServFail, NxDomain, NotImp, Refused, YxDomain, YxRrset, NxRrset, NotAuth, NotZone}

-- the number of a code in messages (RFC 2136 section 2.2)
abbrev pub rcode_number : Rcode → ℕ
rcode_number NoError = 0
rcode_number FormErr = 1
rcode_number ServFail = 2
rcode_number NxDomain = 3
rcode_number NotImp = 4
rcode_number Refused = 5
rcode_number YxDomain = 6
rcode_number YxRrset = 7
rcode_number NxRrset = 8
rcode_number NotAuth = 9
rcode_number NotZone = 10

-- what a code is called (RFC 2136 section 2.2)
abbrev pub rcode_text : Rcode → List ℕ
rcode_text NoError = codes "NOERROR"
rcode_text FormErr = codes "FORMERR"
rcode_text ServFail = codes "SERVFAIL"
rcode_text NxDomain = codes "NXDOMAIN"
rcode_text NotImp = codes "NOTIMP"
rcode_text Refused = codes "REFUSED"
rcode_text YxDomain = codes "YXDOMAIN"
rcode_text YxRrset = codes "YXRRSET"
rcode_text NxRrset = codes "NXRRSET"
rcode_text NotAuth = codes "NOTAUTH"
rcode_text NotZone = codes "NOTZONE"

-- the codes that there are (RFC 2136 section 2.2)
abbrev pub all_rcodes : List Rcode
all_rcodes =
    NoError ∷ FormErr ∷ ServFail ∷ NxDomain ∷ NotImp ∷ Refused ∷ YxDomain ∷ YxRrset ∷ NxRrset ∷ NotAuth ∷ NotZone ∷ []

-- the code that is called so, as it is written
abbrev pub rcode_named : List ℕ → Option Rcode
rcode_named word = find (λ code. bytes_eq (rcode_text code) word) all_rcodes

-- the code of the reply where a prerequisite does not hold (RFC 2136 section 2.4)
abbrev pub rcode_of : PrerequisiteCode → Rcode
rcode_of prerequisites.NxDomain = NxDomain
rcode_of prerequisites.YxDomain = YxDomain
rcode_of prerequisites.YxRrset = YxRrset
rcode_of prerequisites.NxRrset = NxRrset
