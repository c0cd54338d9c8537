-- What a caller can change of what is answered, by any updates that a policy lets it make from a zone on.
use Rattle.std.specs.Prelude.{◌≡◌, ◌⊎◌, ℕ, List, [], ◌∷◌, ◌++◌, length, Bool, true, false, not, ◌&&◌, ◌||◌, ◌==◌}
use Rattle.std.specs.List.{list_any}
use Rattle.dns_names.specs.Labels.{IsWithin, IsBelow, is_within}
use Rattle.dns_names.specs.Order.{same_name}
use Rattle.dns_data.specs.declared.record.Record.{Record}
use Rattle.dns_data.specs.declared.record_type.RecordType.{RecordType}
use Rattle.dns_data.specs.declared.record_type.RecordType.TheVariants as types
use Rattle.dns_data.specs.Rdata.{type_of}
use Rattle.grant_policy.specs.declared.action.Action.{Action}
use Rattle.grant_policy.specs.declared.action.Action.TheVariants as action
use Rattle.grant_policy.specs.declared.rule.Rule.{Rule}
use Rattle.zone_core.specs.Sets.{rank_of}
use Rattle.zone_core.specs.Effects.{is_guarded}
use Rattle.zone_core.specs.Delegations.{IsCutAt, IsServerOf}
use Rattle.zone_answers.specs.declared.query_type.QueryType.{QueryType}
use Rattle.zone_answers.specs.declared.query_type.QueryType.TheVariants.{Kept, Any, Other}
use Rattle.zone_answers.specs.Answers.{Name, asterisk, Exists, IsOwn, Lead, asked_at}
use Rattle.answer_reach.specs.Turns.{may}

-- ---- types of records and of questions

abbrev pub is_type : RecordType → RecordType → Bool
is_type record_type other = rank_of record_type == rank_of other

-- whether records of two types cannot be at one name: a CNAME and others (RFC 1034 section 3.6.2)
abbrev pub are_apart : RecordType → RecordType → Bool
are_apart record_type other =
    (is_type record_type types.Cname && not (is_type other types.Cname)) || (is_type other types.Cname && not (is_type record_type types.Cname))

-- whether records of a type make a difference to a question: those that it asks for, and an alias (RFC 1034 section 3.6.2)
abbrev pub matters : QueryType → RecordType → Bool
matters (Kept asked) record_type = is_type asked record_type || is_type record_type types.Cname
matters Any record_type = true
matters Other record_type = is_type record_type types.Cname

-- ---- what a policy lets the caller do, whatever the zone has

-- whether a record, or another of its set, is there whatever the caller does: deletions are not granted, or it is an SOA or an NS at the
-- origin (RFC 2136 section 3.4.2.4)
abbrev pub remains : List Rule → List ℕ → Name → Record → Bool
remains rules caller origin r =
    not (may rules caller origin action.Delete r.owner (type_of r.rdata)) || (same_name r.owner origin && is_guarded (rank_of (type_of r.rdata)))

-- whether records of a type may be at a name: an SOA only at the origin, a DS only below it (RFC 1035 section 5.2, RFC 4034 section 5)
abbrev pub has_place : Name → Name → RecordType → Bool
has_place origin name types.Soa = same_name name origin
has_place origin name types.Ds = not (same_name name origin)
has_place origin name record_type = true

-- some change is granted within the zone, after which the serial of the SOA advances (RFC 2136 section 3.6)
pub record MayUpdate (rules : List Rule) (caller : List ℕ) (origin : Name) : Type 0 where
  pub name : Name
  pub record_type : RecordType
  pub change : Action
  pub kind : (change ≡ action.Add) ⊎ (change ≡ action.Delete)
  pub inside : is_within name origin ≡ true
  pub granted : may rules caller origin change name record_type ≡ true

module _ (rules : List Rule) (caller : List ℕ) (origin : Name) (rs : List Record) where
  -- ---- records that may change

  -- whether a record that remains keeps records of a type from a name (RFC 2136 section 3.4.2.2)
  abbrev pub are_kept_out : Name → RecordType → Bool
  are_kept_out name record_type = list_any (λ r. remains rules caller origin r && are_apart (type_of r.rdata) record_type) (asked_at rs name Any)

  -- whether the caller can add records of a type at a name
  abbrev pub may_come : Name → RecordType → Bool
  may_come name record_type =
      is_within name origin && (may rules caller origin action.Add name record_type && (has_place origin name record_type && not (are_kept_out name record_type)))

  -- whether it can delete some
  abbrev pub may_go : Name → RecordType → Bool
  may_go name record_type = may rules caller origin action.Delete name record_type && not (length (asked_at rs name (Kept record_type)) == 0)

  abbrev pub may_change : Name → RecordType → Bool
  may_change name record_type = may_come name record_type || may_go name record_type

  -- the records of a name that make a difference to a question can change
  abbrev pub RecordsMayChange : Name → QueryType → Type 0
  RecordsMayChange name asked =
      (record_type : RecordType) × (matters asked record_type ≡ true)
      × ((may_change name record_type ≡ true) ⊎ ((name ≡ origin) × (record_type ≡ types.Soa) × MayUpdate rules caller origin))

  -- ---- names that may exist

  -- a name exists, or the caller can add a record at it or below it
  abbrev pub MayExist : Name → Type 0
  MayExist name = Exists rs name ⊎ ((below : Name) × (record_type : RecordType) × IsWithin below name × (may_come below record_type ≡ true))

  -- whether a name exists whatever the caller does
  abbrev pub must_exist : Name → Bool
  must_exist name = list_any (λ r. is_within r.owner name && remains rules caller origin r) rs

  -- ---- referrals that may change

  -- a cut stays, with its servers, whatever the caller does
  abbrev pub StaysCut : Name → Type 0
  StaysCut cut = IsCutAt origin rs cut × (may_change cut types.Ns ≡ false)

  -- an address of a server of a cut can change
  abbrev pub AddressMayChange : Name → Type 0
  AddressMayChange cut =
      (server : Name) × IsServerOf rs cut server × ((may_change server types.A ≡ true) ⊎ (may_change server types.Aaaa ≡ true))

  -- the zone may be cut at a name or not, or a referral to that cut can change
  abbrev pub CutMayChange : Name → Type 0
  CutMayChange cut = IsBelow cut origin × ((may_change cut types.Ns ≡ true) ⊎ AddressMayChange cut)

  -- a question may be referred or not, or the referral can change: by a cut at or above the name, below no cut that stays; but the DS of a
  -- cut is the parent's (RFC 4035 section 3.1.4.1)
  abbrev pub ReferralMayChange : Name → QueryType → Type 0
  ReferralMayChange name asked =
      (cut : Name) × IsWithin name cut × CutMayChange cut × ¬ ((name ≡ cut) × (asked ≡ Kept types.Ds)) × ((top : Name) → StaysCut top → ¬ IsBelow cut top)

  -- ---- sources that may change

  -- the name itself may answer, and may not or with other records
  abbrev pub OwnMayChange : Name → QueryType → Type 0
  OwnMayChange name asked = MayExist name × ((must_exist name ≡ false) ⊎ RecordsMayChange name asked)

  -- a wildcard may answer, and may not or with other records (RFC 4592 section 3.3.1)
  pub record WildcardMayChange (name : Name) (asked : QueryType) : Type 0 where
    pub front : Name
    pub label : List ℕ
    pub encloser : Name
    pub split : name ≡ front ++ label ∷ encloser
    pub there : MayExist (asterisk ∷ encloser)
    pub applies : must_exist (label ∷ encloser) ≡ false
    pub changes : (must_exist (asterisk ∷ encloser) ≡ false) ⊎ (MayExist (label ∷ encloser) ⊎ RecordsMayChange (asterisk ∷ encloser) asked)

  -- ---- questions

  -- what is found for a name can change, before aliases are followed: where it is referred, or where the zone answers by itself what is at
  -- its source, or the SOA of negative answers
  abbrev pub MayChange : Name → QueryType → Type 0
  MayChange name asked =
      IsWithin name origin
      × (ReferralMayChange name asked ⊎ ((IsOwn origin rs name asked × (OwnMayChange name asked ⊎ WildcardMayChange name asked)) ⊎ (may_come origin types.Soa ≡ true)))

  -- The caller can reach a question: aliases of the zone lead from its name to one for which what is found can change.
  abbrev pub IsReached : Name → QueryType → Type 0
  IsReached name asked = (aliases : List Record) × (last : Name) × Lead origin rs asked [] name aliases last × MayChange last asked
