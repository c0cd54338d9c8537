-- What is read of a zone is told right.
use Rattle.std.proofs.Common.{◌≡◌, ◌⊎◌, ℕ, List, Bool, true, false, Option, Some, None, inl, inr, refl}
use Rattle.std.specs.Prelude.{if◌then◌else◌}
use Rattle.std.specs.Bool.{Decides}
use Rattle.dns_names.specs.Labels.{IsWithin, is_within}
use Rattle.dns_names.proofs.NameLemmas.{is_within-Decides}
use Rattle.dns_data.specs.declared.record.Record.{Record}
use Rattle.grant_policy.specs.declared.rule.Rule.{Rule}
use Rattle.zone_core.specs.Sets.{Records, listing, part, within}
use Rattle.zone_core.specs.Zones.{AreKept, IsZone}
use Rattle.zone_core.specs.Delegations.{report}
use Rattle.zone_core.proofs.ChangedLemmas.{kept_in_part}
use Rattle.zone_core.proofs.ReportLemmas.{reports_are_exact}
use Rattle.office_model.specs.Replies.{ReplyOf, not_zone, records, delegations}
use Rattle.office_model.specs.States.{Held, State, AreZones, zone_held}
use Rattle.office_core.specs.Machine.{listed, of_zone, list_within_reply}
use Rattle.office_core.specs.Promises.{IsOfZone, TellsList, TellsWithin}
use Rattle.office_core.specs.RightAnswers.{TellsReport}
use Rattle.office_core.proofs.ListLemmas.{lists_are_exact}

module _ (rules : List Rule) (s : State) (zones : AreZones s) (caller : List ℕ) where
  -- what is read of what is held, where it is right of each zone
  pub of_zone_right : (origin : List (List ℕ)) (IsOf : Held → ReplyOf → Type 0) (reads : Held → ReplyOf) → ((held : Held) → IsZone (zone_held origin held) → IsOf held (reads held))
      → IsOfZone s origin IsOf (of_zone (s.zones origin) reads)
  of_zone_right origin IsOf reads each = by_zone (s.zones origin) refl
    where
      by_zone : (o : Option Held) → s.zones origin ≡ o → IsOfZone s origin IsOf (of_zone o reads)
      by_zone None e = inl (e, refl)
      by_zone (Some held) e = inr (held, e, each held (zones origin held e))

  pub tells_list : (told : List Record → ReplyOf) (set : Records) → AreKept set → TellsList rules caller told set (told (listed rules caller (listing set)))
  tells_list told set kept = (listed rules caller (listing set), lists_are_exact rules caller set kept, refl)

  pub tells_within : (origin top : List (List ℕ)) (held : Held) → AreKept held.records → TellsWithin rules caller origin top held.records (list_within_reply rules caller origin top held)
  tells_within origin top held kept = by_test (is_within top origin) (is_within-Decides top origin)
    where
      by_test : (b : Bool) → Decides b (IsWithin top origin)
          → TellsWithin rules caller origin top held.records (if b then records (listed rules caller (listing (part held.records (within top)))) else not_zone)
      by_test true d = inl (d.0 refl, tells_list records (part held.records (within top)) (kept_in_part held.records (within top) kept))
      by_test false d = inr (λ inside. let f : false ≡ true = d.1 inside in cc, refl)

  pub tells_all : (told : List Record → ReplyOf) (origin : List (List ℕ)) → IsOfZone s origin (λ held. TellsList rules caller told held.records) (of_zone (s.zones origin) (λ held. told (listed rules caller (listing held.records))))
  tells_all told origin =
      of_zone_right origin (λ held. TellsList rules caller told held.records) (λ held. told (listed rules caller (listing held.records))) (λ held zone. tells_list told held.records zone.kept)

-- a report of delegations has those that the records make
pub tells_report : (rules : List Rule) (s : State) (caller : List ℕ) (origin : List (List ℕ)) (reply : ReplyOf)
    → IsOfZone s origin (λ held. TellsList rules caller (λ rs. delegations (report origin rs)) held.records) reply → IsOfZone s origin (λ held. TellsReport rules caller origin held.records) reply
tells_report rules s caller origin reply (inl none) = inl none
tells_report rules s caller origin reply (inr (held, there, (rs, list, is))) = inr (held, there, (rs, report origin rs, list, reports_are_exact origin rs list.order, is))
