-- What is remembered of the changes of a zone.
use Rattle.std.specs.Prelude.{◌≡◌, ℕ, List, [], ◌∷◌, ◌++◌, Bool, true, false, not, ◌&&◌, nat_le, Option, Some, None, length, take, IsTrue}
use Rattle.std.specs.List.{list_all}
use Rattle.dns_data.specs.declared.record.Record.{Record}
use Rattle.dns_data.specs.declared.record_type.RecordType.TheVariants.{Soa}
use Rattle.dns_data.specs.Rdata.{type_of}
use Rattle.grant_policy.specs.Grants.{GrantsOf, includes}
use Rattle.zone_core.specs.Changes.{ChangeOf}
use Rattle.office_model.specs.States.{Held, State}
use Rattle.store_cache.specs.declared.history.Point.{Point}
use Rattle.store_cache.specs.declared.history.Touched.{Touched}
use Rattle.store_cache.specs.declared.history.ZoneHistory.{ZoneHistory}

-- ---- what grants leave out

-- none of some owners and types
abbrev pub includes_none : GrantsOf → List Point → Bool
includes_none grants points = list_all (λ p. not (includes grants p.owner p.record_type)) points

-- no record of some
abbrev pub hides_each : GrantsOf → List Record → Bool
hides_each grants rs = list_all (λ r. not (includes grants r.owner (type_of r.rdata))) rs

-- no record of a change
abbrev pub hides : GrantsOf → ChangeOf → Bool
hides grants c = hides_each grants (c.removed ++ c.added)

-- there are so many changes, and of the first ones, so many, no record
abbrev pub are_hidden : GrantsOf → List ChangeOf → ℕ → Bool
are_hidden grants cs count = nat_le count (length cs) && list_all (hides grants) (take count cs)

-- ---- what is remembered

-- whether grants leave out all that a change touches: the SOA of its zone, if it touches that, and owners and types
abbrev pub leaves_out : GrantsOf → List (List ℕ) → Touched → Bool
leaves_out grants origin touched = not (touched.soa && includes grants origin Soa) && includes_none grants touched.points.items

-- Grants include no record of a change exactly where they leave out what it touches.
abbrev pub Covers : List (List ℕ) → Touched → ChangeOf → Type 0
Covers origin touched c = (grants : GrantsOf) → hides grants c ≡ leaves_out grants origin touched

-- what the first of some changes touch, one after the other
abbrev pub AreTouched : List (List ℕ) → List Touched → List ChangeOf → Type 0
AreTouched origin [] cs = Unit {0}
AreTouched origin (touched ∷ more) [] = ⊥
AreTouched origin (touched ∷ more) (c ∷ cs) = Covers origin touched c × AreTouched origin more cs

-- of each of some changes it is remembered what it touches, and of no more
abbrev pub KnowsAll : ZoneHistory → List ChangeOf → Type 0
KnowsAll zone cs = AreTouched zone.origin zone.changes.items cs × (length zone.changes.items ≡ length cs)

-- a change without a record
abbrev pub without_records : ChangeOf
without_records = record { removed = []; added = [] }

-- a change has the records of another one and one more
abbrev pub HasAlso : Record → ChangeOf → ChangeOf → Type 0
HasAlso r c more = (test : Record → Bool) → list_all test (more.removed ++ more.added) ≡ (list_all test (c.removed ++ c.added) && test r)

-- the changes of a zone of a state begin with those that are remembered
abbrev pub Remembers : State → Option ZoneHistory → Type 0
Remembers s None = Unit {0}
Remembers s (Some zone) = (held : Held) → s.zones zone.origin ≡ Some held → AreTouched zone.origin zone.changes.items held.changes
