-- What holds of the records of zones, as the answers need it.
use Rattle.std.proofs.Common.{◌≡◌, ◌≢◌, ℕ, ◌≤◌, List, [], ◌∷◌, length, refl, sym, ap, subst, arith, inl, inr}
use Rattle.std.specs.List.{AllByRecursion, Contains}
use Rattle.dns_names.specs.Labels.{wire_len}
use Rattle.dns_data.specs.declared.record.Record.{Record}
use Rattle.zone_core.specs.Sets.{key_of, set_of, listing, IsIn, InOrder}
use Rattle.zone_core.specs.Zones.{ZoneOf, IsZone}
use Rattle.zone_core.proofs.RowLemmas.{in_has}
use Rattle.zone_core.proofs.MetLemmas.{Among, among_of, of_among}
use Rattle.zone_answers.specs.Answers.{Exists}
use Rattle.zone_answers.proofs.FindingLemmas.{HasOneAlias}
use Rattle.zone_answers.proofs.LawLemmas.{row_in, one_alias, of_zone}

all_from : {X : Type 0} (P : X → Type 0) (xs : List X) → ((x : X) → Among x xs → P x) → AllByRecursion P xs
all_from P [] each = tt
all_from P (x ∷ xs) each = (each x (inl refl), all_from P xs (λ y a. each y (inr a)))

module _ (zone : ZoneOf) (is : IsZone zone) (rows : List Record) (order : InOrder rows) (set : set_of rows ≡ zone.records) (listed : rows ≡ listing zone.records) where
  pub origin_below : zone.origin ≢ []
  origin_below e = absurd (omega (arith, is.not_root, ap (length {A = List ℕ}) e))

  pub alias_alone : HasOneAlias (listing zone.records)
  alias_alone = subst HasOneAlias listed (one_alias zone.origin rows (of_zone zone is rows order set))

  -- the origin exists, since its SOA does
  pub origin_there : Exists (listing zone.records) zone.origin
  origin_there =
      let soa = is.soa.0 in
      let of = is.soa.1 in
      let here : Among soa rows = in_has (λ (y : Record). Among y rows) rows soa (all_from (λ (y : Record). Among y rows) rows (λ y a. a)) (subst (IsIn soa) (sym set) of.here) in
      subst (λ (rs : List Record). Exists rs zone.origin) listed (soa, of_among rows soa here, ([], of.origin))

  -- all owners are names
  pub owners_fit : (r : Record) → Contains (listing zone.records) r → wire_len r.owner ≤ 255
  owners_fit r c =
      let here : Among r rows = subst (λ (rs : List Record). Among r rs) (sym listed) (among_of (listing zone.records) r c) in
      (is.kept (key_of r) r (subst (IsIn r) set (row_in rows order r here))).1.owner.short
